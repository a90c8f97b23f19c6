-- The worst is a value exactly where the design is usable.
use Rattle.std.proofs.Common.{◌≡◌, ℕ, ◌+◌, true, false, ℤ, nat_abs, List, [], ◌∷◌, refl, sym}
use Rattle.std.specs.Prelude.{◌↔◌, All, Option, Some, None, IsSome, nat_lt, if◌then◌else◌}
use Rattle.std.proofs.lemmas.List.Elements.{All-nil, All-cons, All-head, All-tail}
use Rattle.ldp_distortion.specs.Worst.{worst_of, IsUsable, IsValue}
use Rattle.ldp_distortion.specs.declared.worst.Worst.{Worst}
use Rattle.ldp_distortion.proofs.Worsts.{worst_from, worst_from-is}

abbrev IsDefined : Option ℤ → Type 0
IsDefined d = IsSome d

usable_from : (value cell place : ℕ) (ds : List (Option ℤ))
    → IsValue (worst_from value cell place ds) → All IsDefined ds
usable_from value cell place [] h = All-nil IsDefined
usable_from value cell place (None ∷ more) h = absurd h
usable_from value cell place (Some d ∷ more) h =
    All-cons IsDefined (Some d) more refl
    (elim (nat_lt value (nat_abs d))
    as (λ greater. IsValue (if greater then worst_from (nat_abs d) place (place + 1) more
    else worst_from value cell (place + 1) more)
    → All IsDefined more) [
      | true ↦ λ k. usable_from (nat_abs d) place (place + 1) more k
      | false ↦ λ k. usable_from value cell (place + 1) more k
    ] h)

value_from : (value cell place : ℕ) (ds : List (Option ℤ)) → All IsDefined ds
    → IsValue (worst_from value cell place ds)
value_from value cell place [] h = tt
value_from value cell place (None ∷ more) h =
    let undefined : IsDefined None = All-head IsDefined None more h in
    absurd (cc)
value_from value cell place (Some d ∷ more) h =
    let rest : All IsDefined more = All-tail IsDefined (Some d) more h in
    elim (nat_lt value (nat_abs d))
    as (λ greater. IsValue (if greater then worst_from (nat_abs d) place (place + 1) more
    else worst_from value cell (place + 1) more)) [
      | true ↦ value_from (nat_abs d) place (place + 1) more rest
      | false ↦ value_from value cell (place + 1) more rest
    ]

pub value_where_usable : (worst : Worst) (ds : List (Option ℤ)) → worst ≡ worst_of ds
    → IsValue worst ↔ IsUsable ds
value_where_usable worst ds h =
    rw (h, sym (worst_from-is ds)) (usable_from 0 0 0 ds, value_from 0 0 0 ds)
