use Rattle.std.proofs.Common.{sym, ap, ◌∙◌}
use Rattle.ldp_spelling.specs.Pieces.{ended}
use Rattle.ldp_spelling.proofs.Cuts.{ended_at}
use Rattle.ldp_spelling.proofs.lines.Lines.next.Goals as goal

pub returns : goal.returns
returns c = ap ended (sym c.self.view_is)
    ∙ ended_at 10 c.self.inside.rest.now c.in_ok-line.line.now c.in_ok-line.rest.now
    c.in_ok-line.ensures.some
