use Rattle.std.proofs.Common.{List, ℕ, Bor, ap, ◌∙◌}
use Rattle.ldp_table.proofs.Ascii.{text_is}
use Rattle.ldp_table.proofs.object.ascii.Goals as goal

pub returns : goal.returns
returns c =
    ap (λ (x : Bor (List ℕ)). x.now) c.unwrap_or.ensures
    ∙ text_is _ c.from_utf8.result _ c.args.bytes.now c.requires c.from_utf8.ensures.cases
