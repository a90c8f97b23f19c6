use Rattle.std.proofs.Common.{◌+◌, length, sym, ◌∙◌, ap}
use Rattle.std.proofs.lemmas.List.{length_push}
use Rattle.ldp_alignment.proofs.Onward.{one_placed, one_more, one_forward}
use Rattle.ldp_alignment.proofs.placing.place.Goals as goal

pub loop-number-preserved : goal.loop-number-preserved
loop-number-preserved c =
    let more = c.in_ok-push.ensures.items in
    let of_next = c.in_ok-station_with.ensures in
    let kept = c.loop-number.invariant in
    let done = c.loop-number.found.items in
    let next = c.in_ok-station_with.field-0 in
    record {
      same = sym (one_placed c.args.heights.now done _ c.stations-stations.result.now
          c.loop-number.number _ next c.loop-number-test.true kept.each more of_next.value)
          ∙ kept.same;
      each = ap length more ∙ length_push done next ∙ ap (λ n. n + 1) kept.each;
      range = one_more done _ next more kept.range of_next.range;
      forward = one_forward done _ c.stations-stations.result.now c.loop-number.number _ next
          c.loop-number-test.true more of_next.along kept.forward;
    }
