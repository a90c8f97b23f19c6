use Rattle.std.proofs.Common.{◌≡◌, ◌∷◌, subst, sym, ap, ◌∙◌}
use Rattle.std.proofs.lemmas.Result.{on_ok_weaker}
use Rattle.ldp_design.specs.Families.{AreGrids}
use Rattle.ldp_design.specs.Boxes.{LiesIn}
use Rattle.ldp_design.specs.Splits.{cut_for}
use Rattle.ldp_search.proofs.Writing.{writes_single, writes_split}
use Rattle.ldp_search.proofs.write.write_open.Goals as goal

pub returns-in_default : goal.returns-in_default
returns-in_default c = record {
  writes = on_ok_weaker c.push.result
      (λ pushed p same is.
      writes_single p c.args.b.now c.args.cell c.args.stack.now c.args.forest.now _
      (subst (λ fs. LiesIn fs c.args.b.now) (sym same) c.requires.lies) is
      (ap (λ fs. cut_for fs c.args.b.now) same ∙ sym c.in_default.ensures.value) pushed)
      c.push.ensures.ok;
}

pub returns : goal.returns
returns c = record {
  writes = on_ok_weaker c.push-4.result
      (λ pushed p same is.
      let stacked : c.push-4.new.self ≡ c.cut.result.0 ∷ c.cut.result.1 ∷ c.args.stack.now =
      pushed ∙ ap (λ boxes. c.cut.result.0 ∷ boxes) c.in_ok-push-2.ensures in
      writes_split p c.args.b.now c.args.cell c.in-Some.axis c.in-Some.at c.args.stack.now _
      c.args.forest.now _
      (subst AreGrids (sym same) c.requires.grids)
      (subst (λ fs. LiesIn fs c.args.b.now) (sym same) c.requires.lies) is
      (ap (λ fs. cut_for fs c.args.b.now) same ∙ sym c.cut_for.ensures.value ∙ c.in-Some.is)
      (stacked ∙ ap (λ parts. parts.0 ∷ parts.1 ∷ c.args.stack.now) c.cut.ensures.value)
      c.in_ok-push.ensures.ok)
      c.push-4.ensures;
}
