use Rattle.std.proofs.Common.{sym, ◌∙◌}
use Rattle.ldp_spelling.proofs.Cuts.{empty_left, empty_lines}
use Rattle.ldp_spelling.proofs.lines.Lines.is_empty.Goals as goal

pub returns : goal.returns
returns c = (
  λ t. sym c.self.view_is ∙ empty_lines c.self.inside.rest.now (sym c.is_empty.ensures ∙ t),
  λ e. c.is_empty.ensures ∙ empty_left 10 c.self.inside.rest.now (c.self.view_is ∙ e),
)
