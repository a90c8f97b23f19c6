use Rattle.std.proofs.Common.{ℤ, length, refl, arith}
use Rattle.std.proofs.lemmas.Option.{slice_get_read}
use Rattle.ldp_num.specs.Twins.{TwinPair}
use Rattle.ldp_range.specs.Twin.{IsHeld, ends_twin}
use Rattle.ldp_stretch.proofs.Lists.{pairwise_next, mapped_next}
use Rattle.ldp_stretch.proofs.twins.put_ranges.Goals as goal

pub loop-i-preserved : goal.loop-i-preserved
loop-i-preserved c =
    record {
      value =
          mapped_next ends_twin c.args.ranges.now c.loop-i.twins c.loop-i.i
          c.index-ranges-i.result c.of_range.result c.index-ranges-i.is (omega arith)
          (omega arith) c.of_range.ensures.value c.loop-i.invariant.value;
      stand =
          pairwise_next (λ (a : ℤ × ℤ) (t : TwinPair). IsHeld a t) c.args.ranges.now
          c.loop-i.twins c.loop-i.i c.index-ranges-i.result c.of_range.result
          (slice_get_read c.args.ranges.now (length c.args.ranges.now) c.loop-i.i
          c.index-ranges-i.result refl (omega arith) c.index-ranges-i.is)
          (omega arith) c.of_range.ensures.held c.loop-i.invariant.stand;
    }
