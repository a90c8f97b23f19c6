-- Zeros at the end of digits and in front of them.
use Rattle.std.proofs.Common.{◌≡◌, ◌≢◌, ℕ, zero, suc, ◌-◌, ◌^◌, ◌<◌, ◌≤◌, ◌==◌, false}
use Rattle.std.proofs.Common.{List, [], ◌∷◌, ◌++◌, length, get_or, take, replicate, decimal, refl}
use Rattle.std.proofs.Common.{ap, sym, ◌∙◌, arith}
use Rattle.std.proofs.lemmas.Bool.Decides.{nat_tests}
use Rattle.std.proofs.lemmas.Fmt.{decimal_nonempty}
use Rattle.std.proofs.Math.Seq.{take-suc}
use Rattle.ldp_decimal.specs.Writing.{padded, pointed, without_zeros, onto_kept}
use Rattle.ldp_spelling.specs.Numbers.{behind_point}

zero_goes : (ds : List ℕ) → without_zeros (ds ++ 48 ∷ []) ≡ without_zeros ds
zero_goes [] = refl
zero_goes (d ∷ ds) = ap (λ es. onto_kept d es) (zero_goes ds)

onto_some : (d e : ℕ) (ds : List ℕ) → onto_kept d (ds ++ e ∷ []) ≡ d ∷ (ds ++ e ∷ [])
onto_some d e [] = refl
onto_some d e (c ∷ cs) = refl

other_stays : (ds : List ℕ) (d : ℕ) → d ≢ 48 → without_zeros (ds ++ d ∷ []) ≡ ds ++ d ∷ []
other_stays [] d h = let no : (d == 48) ≡ false = grind (arith, nat_tests) in rw no refl
other_stays (c ∷ cs) d h = ap (λ es. onto_kept c es) (other_stays cs d h) ∙ onto_some c d cs

front_last : (ds : List ℕ) (k : ℕ) → 0 < k → k ≤ length ds
    → take k ds ≡ take (k - 1) ds ++ get_or ds (k - 1) 0 ∷ []
front_last ds k some within =
    let one : k ≡ suc (k - 1) = omega arith in
    ap (λ j. take j ds) one ∙ take-suc ds (k - 1) 0 (omega arith)

-- a zero at the end goes, and any other digit there stays with all before it
pub last_zero : (ds : List ℕ) (k : ℕ) → 0 < k → k ≤ length ds → get_or ds (k - 1) 0 ≡ 48
    → without_zeros (take (k - 1) ds) ≡ without_zeros (take k ds)
last_zero ds k some within none =
    sym (ap without_zeros (front_last ds k some within)
    ∙ (ap (λ d. without_zeros (take (k - 1) ds ++ d ∷ [])) none ∙ zero_goes (take (k - 1) ds)))

pub last_other : (ds : List ℕ) (k : ℕ) → 0 < k → k ≤ length ds → get_or ds (k - 1) 0 ≢ 48
    → take k ds ≡ without_zeros (take k ds)
last_other ds k some within other =
    front_last ds k some within
    ∙ (sym (other_stays (take (k - 1) ds) (get_or ds (k - 1) 0) other)
    ∙ ap without_zeros (sym (front_last ds k some within)))

-- zeros in front go where nothing is kept behind them
in_front : ℕ → List ℕ → List ℕ
in_front k [] = []
in_front k (d ∷ ds) = replicate k 48 ++ d ∷ ds

onto_front : (k : ℕ) (ds : List ℕ) → onto_kept 48 (in_front k ds) ≡ in_front (suc k) ds
unfolding in_front
onto_front k [] = refl
onto_front zero (d ∷ ds) = refl
onto_front (suc k) (d ∷ ds) = refl

none_front : (ds : List ℕ) → ds ≡ in_front zero ds
unfolding in_front
none_front [] = refl
none_front (d ∷ ds) = refl

kept_behind : (k : ℕ) (ds : List ℕ)
    → without_zeros (replicate k 48 ++ ds) ≡ in_front k (without_zeros ds)
kept_behind zero ds = none_front (without_zeros ds)
kept_behind (suc k) ds = ap (λ es. onto_kept 48 es) (kept_behind k ds)
    ∙ onto_front k (without_zeros ds)

pointed_front : (k : ℕ) (ds : List ℕ) → pointed (in_front k ds) ≡ behind_point k ds
unfolding in_front
pointed_front k [] = refl
pointed_front zero (d ∷ ds) = refl
pointed_front (suc k) (d ∷ ds) = refl

pub trimmed_point : (places n : ℕ) → 1 ≤ places
    → pointed (without_zeros (padded places n))
    ≡ behind_point (places - length (decimal n)) (without_zeros (decimal n))
trimmed_point zero n h = absurd (omega arith)
trimmed_point (suc p) n h =
    ap pointed (kept_behind (suc p - length (decimal n)) (decimal n))
    ∙ pointed_front (suc p - length (decimal n)) (without_zeros (decimal n))

fixed_by : (k : ℕ) (ds : List ℕ) → 0 < length ds
    → pointed (replicate k 48 ++ ds) ≡ behind_point k ds
fixed_by k [] h = absurd (omega arith)
fixed_by zero (d ∷ ds) h = refl
fixed_by (suc k) (d ∷ ds) h = refl

pub fixed_point : (places n : ℕ) → 1 ≤ places → n < 2 ^ 64
    → pointed (padded places n) ≡ behind_point (places - length (decimal n)) (decimal n)
fixed_point zero n h small = absurd (omega arith)
fixed_point (suc p) n h small =
    fixed_by (suc p - length (decimal n)) (decimal n) (decimal_nonempty n small)
