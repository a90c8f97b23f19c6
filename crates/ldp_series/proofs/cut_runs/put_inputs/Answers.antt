use Rattle.std.proofs.Common.{◌≡◌, Bool, List, length, map, take}
use Rattle.std.proofs.Common.{sym, subst, ◌∙◌, true≢false}
use Rattle.std.specs.Bool.{OnTrue}
use Rattle.ldp_num.specs.Written.{written}
use Rattle.ldp_series.specs.CutRuns.{HasHead}
use Rattle.ldp_series.proofs.Kept.{still_head, new_head, no_value}
use Rattle.ldp_series.proofs.cut_runs.put_inputs.Goals.{then-ran, else-ran}
use Rattle.ldp_series.proofs.cut_runs.put_inputs.Goals as goal

pub returns-then-same-clause-value : goal.returns-then-same-clause-value
returns-then-same-clause-value g c =
    let ops = written g.N.Num.CARRIER in
    let head = c.args.head.now in
    let inputs = c.args.inputs.now in
    let first = c.split_at_mut-first.result.0.now in
    let kept = c.split_at_mut-first.result.1.now in
    rw c.copy_from_slice.ensures.after
    (elim c.if-ran.branch [
      | then-ran w ↦
          let ran : HasHead ops head (length inputs) (map g.N.Num.meaning c.args.places.now) =
          subst (λ (b : Bool). OnTrue b
          (HasHead ops head (length inputs) (map g.N.Num.meaning c.args.places.now)))
          w.if-ran.true c.requires.ran in
          let same : map g.N.Num.meaning (take c.inputs-stays.result first)
          ≡ map g.N.Num.meaning (take c.inputs-stays.result inputs) =
          subst (λ (b : Bool). OnTrue b (map g.N.Num.meaning (take c.inputs-stays.result first)
          ≡ map g.N.Num.meaning (take c.inputs-stays.result inputs)))
          (sym w.same-is ∙ c.if-same.true) w.are_same-same.ensures in
          still_head ops g.N.Num.meaning head first kept inputs c.requires.few
          c.split_at_mut-first.ensures.front_len
          (subst (λ (xs : List _). HasHead ops head (length inputs) (map g.N.Num.meaning xs))
          c.split_at_mut-first.ensures.value ran)
          (rw (← c.inputs-stays.ensures.inputs) same)
      | else-ran w ↦ absurd (true≢false (sym c.if-same.true ∙ w.same-is ∙ w.if-ran.false))
    ])

pub returns-clause-value : goal.returns-clause-value
returns-clause-value g c =
    rw c.copy_from_slice.ensures.after
    (new_head (written g.N.Num.CARRIER) g.N.Num.meaning c.args.head.now c.args.inputs.now
    c.run_into.new.results c.run_into.result c.requires.few
    (rw (← c.inputs-stays.ensures.inputs) c.run_into.ensures.value))

pub returns-clause-undefined : goal.returns-clause-undefined
returns-clause-undefined g c =
    no_value (written g.N.Num.CARRIER) g.N.Num.meaning c.args.head.now c.args.inputs.now
    c.run_into.new.results c.run_into.result
    (rw (← c.inputs-stays.ensures.inputs) c.run_into.ensures.value)
