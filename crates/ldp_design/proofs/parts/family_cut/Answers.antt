use Rattle.std.proofs.Common.{sym, ◌∙◌}
use Rattle.ldp_design.proofs.Splits.{single_ends, cut_made}
use Rattle.ldp_design.proofs.parts.family_cut.Goals as goal

pub returns-then-is_single : goal.returns-then-is_single
returns-then-is_single c =
    sym (single_ends c.args.family.now c.args.b.now
    (c.is_single.ensures.single.0 c.if-is_single.true))

pub returns : goal.returns
returns c =
    rw (c.span-span.ensures, c.widest-axis.ensures)
    (cut_made c.args.family.now c.args.b.now c.requires.within
    (sym c.is_single.ensures.value ∙ c.if-is_single.false))
