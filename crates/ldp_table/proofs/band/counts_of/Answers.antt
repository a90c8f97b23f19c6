use Rattle.std.proofs.Common.{◌≡◌, take, length-set, ap, ◌∙◌, arith}
use Rattle.std.proofs.lemmas.List.{take_all}
use Rattle.ldp_table.specs.Bands.{count_in}
use Rattle.ldp_table.proofs.Counted.{counted, few_more, six_are}
use Rattle.ldp_table.proofs.band.counts_of.Goals as goal

pub loop-row-preserved : goal.loop-row-preserved
loop-row-preserved c = record {
  counts = λ k h.
      counted c.args.rows.now c.loop-row.row-index _ c.loop-row.counts c.band_of.result k
      c.loop-row-test.true (omega (arith, c.band_of.ensures.within, c.loop-row.invariant.six))
      c.band_of.ensures.value c.loop-row.invariant.counts h;
  few = λ k h.
      few_more c.loop-row.counts c.loop-row.row-index c.band_of.result k
      (omega (arith, c.band_of.ensures.within, c.loop-row.invariant.six))
      c.loop-row.invariant.few c.band_of.ensures.within h;
  six = length-set c.loop-row.counts c.band_of.result _ ∙ c.loop-row.invariant.six;
}

pub returns : goal.returns
returns c =
    let all : take c.loop-row.row-index c.args.rows.now ≡ c.args.rows.now =
    take_all c.loop-row.row-index c.args.rows.now c.loop-row-test.false in
    six_are c.loop-row.counts (count_in c.args.rows.now) c.loop-row.invariant.six
    (λ k h. c.loop-row.invariant.counts k h ∙ ap (λ rows. count_in rows k) all)
