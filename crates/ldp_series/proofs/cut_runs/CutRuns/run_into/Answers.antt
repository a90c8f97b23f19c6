use Rattle.std.proofs.Common.{◌≡◌, Bool, List, length, map, arith, sym, ap, subst, ◌∙◌}
use Rattle.std.specs.Prelude.{Option, Some, None, if◌then◌else◌}
use Rattle.std.specs.Bool.{OnTrue}
use Rattle.ldp_num.specs.Written.{written}
use Rattle.ldp_num.specs.StepList.{StepList, value_in}
use Rattle.ldp_series.specs.CutRuns.{HasHead, IsReady, AreReady}
use Rattle.ldp_series.specs.declared.cut.Cut.{Cut}
use Rattle.ldp_series.proofs.Kept.{by_tail, written_back}
use Rattle.ldp_series.proofs.cut_runs.CutRuns.run_into.Goals as goal

pub returns-clause-value : goal.returns-clause-value
returns-clause-value g c =
    let ops = written g.N.Num.CARRIER in
    let runs = c.self.inside in
    let cut : Cut = c.in-Some.cut in
    let inputs = c.args.inputs.now in
    let places = c.put_inputs-self-inside.new.places in
    let ready : IsReady g.N.Num.CARRIER runs.list cut runs.ran
    (map g.N.Num.meaning runs.places.items) runs.bench.room =
    subst (λ (o : Option Cut). AreReady g.N.Num.CARRIER runs.list o runs.ran
    (map g.N.Num.meaning runs.places.items) runs.bench.room)
    c.in-Some.is c.self.invariant in
    let count : length inputs ≡ runs.list.inputs =
    c.requires.inputs ∙ ap (λ (list : StepList). list.inputs) (sym c.self.view_is) in
    let ran : HasHead ops cut.head (length inputs) (map g.N.Num.meaning places) =
    subst (λ (b : Bool). OnTrue b
    (HasHead ops cut.head (length inputs) (map g.N.Num.meaning places)))
    c.if-not-self.false c.put_inputs-self-inside.ensures.value in
    let all : runs.places.len ≡ length places =
    omega (
      arith,
      c.deref_mut.ensures.value,
      c.deref_mut.ensures.len,
      c.put_inputs-self-inside.auto.places,
      runs.places.ok.0,
    ) in
    let back : c.deref.result.now ≡ places =
    c.deref.ensures.value ∙ written_back runs.places.len places _ all in
    let run : value_in ops cut.tail (map g.N.Num.meaning places)
    ≡ (if c.run_into-2.result then Some (map g.N.Num.meaning c.run_into-2.new.results)
    else None) =
    subst (λ (xs : List _). value_in ops cut.tail (map g.N.Num.meaning xs)
    ≡ (if c.run_into-2.result then Some (map g.N.Num.meaning c.run_into-2.new.results)
    else None)) back c.run_into-2.ensures.value in
    ap (λ (list : StepList). value_in ops list (map g.N.Num.meaning inputs)) (sym c.self.view_is)
    ∙ by_tail ops g.N.Num.meaning runs.list cut.head cut.tail inputs places ready.parts ready.few
    count ran c.put_inputs-self-inside.ensures.inputs
    ∙ run
