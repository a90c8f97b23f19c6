use Rattle.std.proofs.Common.{◌≡◌, to_z, of_z, ap, ◌∙◌}
use Rattle.std.specs.Int.{w128}
use Rattle.std.proofs.lemmas.Int.{to_z-of_z}
use Rattle.ldp_spelling.specs.Numbers.{trimmed_in}
use Rattle.ldp_spelling.proofs.Written.{trimmed_if, trimmed_again}
use Rattle.ldp_spelling.proofs.decimal.read_trimmed.Goals as goal

exact : (c : goal.After-trimmed_number)
    → c.trimmed_number.result ≡ trimmed_in c.args.places c.args.low c.args.high c.args.text.now
exact c =
    c.trimmed_number.ensures.exact
    ∙ (ap (λ z. trimmed_in c.args.places z (to_z w128 (of_z w128 c.args.high)) c.args.text.now)
    (to_z-of_z w128 c.args.low c.ranges.low)
    ∙ ap (λ z. trimmed_in c.args.places c.args.low z c.args.text.now)
    (to_z-of_z w128 c.args.high c.ranges.high))

pub returns-clause-found : goal.returns-clause-found
returns-clause-found c =
    trimmed_if c.args.places c.args.low c.args.high c.args.text.now c.trimmed_number.result
    (exact c)

pub returns-clause-only : goal.returns-clause-only
returns-clause-only c = λ z h. exact c
    ∙ trimmed_again c.args.places c.args.low c.args.high c.args.text.now z c.requires.places.1
    c.requires.low c.requires.high h
