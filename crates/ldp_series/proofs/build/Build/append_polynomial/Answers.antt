use Rattle.std.proofs.Common.{◌≡◌, ◌<◌, ◌+◌, ◌-◌, pos, length, get_or, SFits, arith, rules}
use Rattle.std.proofs.lemmas.Int.{to_z-of_z}
use Rattle.std.specs.Int.{w128}
use Rattle.ldp_series.proofs.Extensions.{then_extends}
use Rattle.ldp_series.proofs.Rounds.{polynomial-last, polynomial-drop}
use Rattle.ldp_series.proofs.build.Build.append_polynomial.Goals as goal

pub loop-i-init : goal.loop-i-init
loop-i-init c =
    let added = c.in_ok-r.ensures.ok.added in
    let last : length c.args.c.now - 1 + 1 ≡ length c.args.c.now = omega arith in
    let fits : SFits w128 (get_or c.args.c.now (length c.args.c.now - 1) (pos 0)) = search rules in
    let made = simp to_z-of_z at c.in_ok-r.ensures.ok.made in
    record {
      count = omega (arith, added.added);
      last = added.last;
      kept = search rules;
      made = polynomial-last _ _ _ _ _ _ last made;
    }

pub loop-i-preserved : goal.loop-i-preserved
loop-i-preserved c =
    let added = c.in_ok-r-2.ensures.ok.added in
    let after : c.loop-i.i ≡ c.loop-i.i - 1 + 1 = omega arith in
    let below : c.loop-i.i < length c.args.c.now = omega arith in
    let fits : SFits w128 (get_or c.args.c.now (c.loop-i.i - 1) (pos 0)) = search rules in
    let made = simp to_z-of_z at c.in_ok-r-2.ensures.ok.made in
    record {
      count = omega (arith, added.added);
      last = added.last;
      kept = then_extends _ _ _ c.loop-i.invariant.kept c.horner.ensures.kept;
      made = polynomial-drop _ _ _ _ _ _ _ _ _ after below c.loop-i.invariant.made made;
    }
