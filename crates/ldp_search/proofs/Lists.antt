-- One among some.
use Rattle.std.proofs.Common.{zero, suc, List, [], ◌∷◌, ◌⊎◌, inl, inr, arith, refl, sym, subst}
use Rattle.std.proofs.lemmas.List.Sorted.{Contains-permutation}
use Rattle.std.specs.Prelude.{Any}
use Rattle.std.specs.List.Sorted.{IsPermutation}

pub Any-nil : {X : Type 0} (P : X → Type 0) → Any P [] → ⊥
Any-nil P (k, x, h, e, p) = omega arith

pub Any-head : {X : Type 0} (P : X → Type 0) (x : X) (xs : List X) → P x → Any P (x ∷ xs)
Any-head P x xs p = (0, x, omega arith, refl, p)

pub Any-tail : {X : Type 0} (P : X → Type 0) (x : X) (xs : List X) → Any P xs → Any P (x ∷ xs)
Any-tail P x xs (k, y, h, e, p) = (suc k, y, omega arith, e, p)

pub Any-cases : {X : Type 0} (P : X → Type 0) (x : X) (xs : List X) → Any P (x ∷ xs)
    → P x ⊎ Any P xs
Any-cases P x xs (zero, y, h, e, p) = inl (subst P (sym e) p)
Any-cases P x xs (suc k, y, h, e, p) = inr (k, y, omega arith, e, p)

pub Any-permutation : {X : Type 0} (P : X → Type 0) (xs ys : List X) → IsPermutation xs ys
    → Any P xs → Any P ys
Any-permutation P xs ys same (k, x, h, e, p) =
    let c = Contains-permutation xs ys x same (k, h, e) in (c.0, x, c.1, c.2, p)
