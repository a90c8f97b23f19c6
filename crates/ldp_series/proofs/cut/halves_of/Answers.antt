use Rattle.std.proofs.Common.{◌≡◌, ◌<◌, ◌+◌, ℕ, [], length, take, get_or, rules, sym, ap, subst, ◌∙◌, List}
use Rattle.std.proofs.lemmas.List.{take_more}
use Rattle.std.proofs.lemmas.Option.{slice_get-get_or}
use Rattle.std.specs.Prelude.{pos}
use Rattle.ldp_num.specs.declared.step.Step.{Step}
use Rattle.ldp_num.specs.declared.step.Step.TheVariants.{Const}
use Rattle.ldp_num.specs.Steps.{StepFits}
use Rattle.ldp_series.specs.Cut.{AreParts, Parts, Puts}
use Rattle.ldp_series.specs.Cut.AreParts.{begun}
use Rattle.ldp_series.proofs.PartRuns.{step_fits}
use Rattle.ldp_series.proofs.cut.halves_of.Goals as goal

pub loop-step-init : goal.loop-step-init
loop-step-init c = record {
  parts = subst (AreParts c.args.stays []) (sym c.new-halves.ensures) (begun c.inputs.result);
  inputs = ap (λ (h : Parts). h.inputs) c.new-halves.ensures ∙ c.inputs.ensures.inputs;
}

pub loop-step-preserved : goal.loop-step-preserved
loop-step-preserved c =
    let steps = c.args.list.now.steps in
    let i : ℕ = c.loop-step.step-index in
    let step : Step = get_or steps i (Const (pos 0)) in
    let old = c.loop-step.halves in
    let puts : Puts c.args.stays step old c.put.new.self = search rules in
    let all : c.steps-step-items.result.now ≡ steps = c.steps-step-items.ensures.steps in
    let within : i < length steps =
    subst (λ (xs : List Step). i < length xs) all c.loop-step-test.true in
    let fits : StepFits c.args.list.now.inputs (0 + i) step =
    step_fits c.args.list.now.inputs i steps step c.steps-step-items.ensures.fit
    (slice_get-get_or steps i (Const (pos 0)) within) in
    record {
      parts = rw (take_more steps i (Const (pos 0)) within)
          (puts.parts (take i steps) (0 + i)
          (subst (λ (n : ℕ). StepFits n (0 + i) step) (sym c.loop-step.invariant.inputs) fits)
          c.loop-step.invariant.parts);
      inputs = puts.inputs ∙ c.loop-step.invariant.inputs;
    }
