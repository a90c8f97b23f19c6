use Rattle.std.proofs.Common.{sym, ◌∙◌, ◌≤◌, length, arith, rules}
use Rattle.ldp_series.specs.Series.{round}
use Rattle.ldp_series.proofs.Extensions.{then_extends}
use Rattle.ldp_series.proofs.Rounds.{in_turn-drop, in_turn-end}
use Rattle.ldp_series.proofs.build.Build.alternate.Goals as goal

pub loop-divisor-preserved : goal.loop-divisor-preserved
loop-divisor-preserved c =
    let added = c.in_ok-r.ensures.ok.added in
    record {
      count = omega (arith, added.added);
      last = added.last;
      kept = then_extends _ _ _ c.loop-divisor.invariant.kept c.round.ensures.kept;
      rest =
          sym
          (in_turn-drop (round c.args.z) _ _ _ _ _ _ c.loop-divisor-test.true
          c.in_ok-r.ensures.ok.made)
          ∙ c.loop-divisor.invariant.rest;
    }

pub returns-clause-ok : goal.returns-clause-ok
returns-clause-ok c =
    let past : length c.args.divisors.now ≤ c.loop-divisor.divisor-index = omega arith in
    record {
      made =
          in_turn-end (round c.args.z) _ _ _ _ past ∙ c.loop-divisor.invariant.rest;
      added = search rules;
    }
