-- A draft that extends one that extends another.
use Rattle.std.proofs.Common.{◌++◌, ◌∙◌, ap, append_assoc}
use Rattle.ldp_series.specs.Draft.{Draft, Extends}

pub then_extends : (a b c : Draft) → Extends a b → Extends b c → Extends a c
then_extends a b c h k = record {
  inputs = k.inputs ∙ h.inputs;
  more = h.more ++ k.more;
  steps = k.steps ∙ ap (λ steps. steps ++ k.more) h.steps ∙ append_assoc a.steps h.more k.more;
}
