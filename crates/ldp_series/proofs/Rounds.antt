-- One round of a written series, against its definition.
use Rattle.std.proofs.Common.{◌≡◌, ℕ, suc, ◌+◌, ◌*◌, ◌≤◌, ◌<◌, ℤ, pos, ◌*ℤ◌, to_z, of_z, List, ◌∷◌}
use Rattle.std.proofs.Common.{length, drop, get_or, refl, sym, arith, add-one}
use Rattle.std.proofs.Math.Seq.{drop-cons}
use Rattle.std.proofs.lemmas.List.{drop_all}
use Rattle.std.proofs.lemmas.Int.{ints}
use Rattle.std.specs.Int.{w128}
use Rattle.ldp_series.specs.Draft.{Draft, Formula}
use Rattle.ldp_series.specs.Formula.{units, then}
use Rattle.ldp_series.specs.Series.{in_turn, horner, polynomial}

-- a small whole number in units, as the program computes it
pub whole_units : (v : ℕ) → v ≤ 10000
    → to_z w128 (of_z w128 (to_z w128 v *ℤ pos 1000000000000000)) ≡ pos (v * 1000000000000000)
whole_units v small = omega (arith, ints)

in_turn-cons : (round : ℕ → ℕ → Formula ℕ) (d r next : ℕ) (more : List ℕ) (old mid : Draft)
    → (mid, next) ≡ round r d old
    → in_turn round (d ∷ more) r old ≡ in_turn round more next mid
unfolding in_turn
in_turn-cons round d r next more old mid h = sym (then _ _ _ h refl)

pub in_turn-drop : (round : ℕ → ℕ → Formula ℕ) (r next i : ℕ) (divisors : List ℕ)
    (old mid : Draft) → i < length divisors
    → (mid, next) ≡ round r (get_or divisors i 0) old
    → in_turn round (drop i divisors) r old ≡ in_turn round (drop (i + 1) divisors) next mid
in_turn-drop round r next i divisors old mid below h =
    rw (add-one, drop-cons divisors i 0)
    (in_turn-cons round (get_or divisors i 0) r next (drop (suc i) divisors) old mid h)

pub in_turn-end : (round : ℕ → ℕ → Formula ℕ) (r i : ℕ) (divisors : List ℕ) (draft : Draft)
    → length divisors ≤ i
    → (draft, r) ≡ in_turn round (drop i divisors) r draft
unfolding in_turn
in_turn-end round r i divisors draft past = rw (drop_all i divisors past) refl

polynomial-cons : (x r next : ℕ) (c d : ℤ) (more : List ℤ) (old mid new : Draft)
    → (mid, r) ≡ polynomial x (d ∷ more) old
    → (new, next) ≡ horner x c r mid → (new, next) ≡ polynomial x (c ∷ d ∷ more) old
unfolding polynomial
polynomial-cons x r next c d more old mid new h k = then _ _ _ h k

pub polynomial-last : (x r i : ℕ) (cs : List ℤ) (old new : Draft) → i + 1 ≡ length cs
    → (new, r) ≡ units (get_or cs i (pos 0)) old → (new, r) ≡ polynomial x (drop i cs) old
unfolding polynomial
polynomial-last x r i cs old new last h =
    let below : i < length cs = omega arith in
    let past : length cs ≤ suc i = omega arith in
    rw (drop-cons cs i (pos 0) below, drop_all (suc i) cs past) h

pub polynomial-drop : (x r next i j : ℕ) (cs : List ℤ) (old mid new : Draft) → j ≡ i + 1
    → j < length cs
    → (mid, r) ≡ polynomial x (drop j cs) old → (new, next) ≡ horner x (get_or cs i (pos 0)) r mid
    → (new, next) ≡ polynomial x (drop i cs) old
polynomial-drop x r next i j cs old mid new after below h k =
    let here : i < length cs = omega arith in
    let there : suc i < length cs = omega arith in
    let made = rw (after, add-one, drop-cons cs (suc i) (pos 0) there) at h in
    rw (drop-cons cs i (pos 0) here, drop-cons cs (suc i) (pos 0) there)
    (polynomial-cons x r next (get_or cs i (pos 0)) (get_or cs (suc i) (pos 0))
    (drop (suc (suc i)) cs) old mid new made k)
