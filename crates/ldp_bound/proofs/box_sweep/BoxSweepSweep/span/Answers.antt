use Rattle.std.proofs.Common.{ℤ, subst}
use Rattle.std.proofs.lemmas.Option.{IfSome_then}
use Rattle.std.specs.Prelude.{IfSome}
use Rattle.ldp_sweep.specs.Cut.{IsSpan}
use Rattle.ldp_bound.specs.Sweeps.{Swept, box_cut, front}
use Rattle.ldp_bound.proofs.Sweeps.{box_within}
use Rattle.ldp_bound.proofs.box_sweep.BoxSweepSweep.span.Goals as goal

pub returns-clause-within : goal.returns-clause-within
returns-clause-within c =
    let s = c.self.inside in
    subst (λ (v : Swept (ℤ × ℤ)). IfSome c.span.result (IsSpan (box_cut v) c.args.at))
    c.self.view_is
    (IfSome_then c.span.result c.span.ensures.spans
    (λ span spans. box_within s.spans.cells (front s.spans.cells s.inputs) s.spans.twins
    s.spans.nodes c.args.at span c.self.invariant.1 spans))
