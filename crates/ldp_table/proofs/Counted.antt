-- Rows counted one after another.
use Rattle.std.proofs.Common.{◌≡◌, ◌≢◌, ℕ, ◌+◌, ◌<◌, ◌≤◌, ◌==◌, Bool, true, false, List, []}
use Rattle.std.proofs.Common.{◌∷◌, length, map, get_or, take, refl, sym, ap, ◌∙◌, arith}
use Rattle.std.proofs.Math.ListN.{set}
use Rattle.std.proofs.lemmas.Bool.Decides.{nat_tests}
use Rattle.std.proofs.lemmas.List.{get_or-set_same, get_or-set_other}
use Rattle.std.proofs.lemmas.List.Sums.{count_by_more_yes, count_by_more_no}
use Rattle.ldp_table.specs.declared.row.Row.{Row}
use Rattle.ldp_table.specs.Bands.{band_of, count_in}

is_band : (a b : ℕ) → (a == b) ≡ true → a ≡ b
is_band a b e = grind (arith, nat_tests)

no_band : (a b : ℕ) → (a == b) ≡ false → b ≢ a
no_band a b e = grind (arith, nat_tests)

-- the count of the row's band goes up, and the others stay
counted_by : (rows : List Row) (i : ℕ) (d : Row) (counts : List ℕ) (band k : ℕ) (t : Bool)
    → (band == k) ≡ t → i < length rows → band < length counts
    → band ≡ band_of (get_or rows i d).distortion
    → ((j : ℕ) → j < 6 → get_or counts j 0 ≡ count_in (take i rows) j) → k < 6
    → get_or (set counts band (get_or counts band 0 + 1)) k 0 ≡ count_in (take (i + 1) rows) k
counted_by rows i d counts band k true e within six is so_far h =
    let same : band ≡ k = is_band band k e in
    let here : (band_of (get_or rows i d).distortion == k) ≡ true =
    ap (λ b. b == k) (sym is) ∙ e in
    ap (λ j. get_or (set counts band (get_or counts band 0 + 1)) j 0) (sym same)
    ∙ (get_or-set_same counts band (get_or counts band 0 + 1) 0 six
    ∙ (ap (λ j. get_or counts j 0 + 1) same
    ∙ (ap (λ n. n + 1) (so_far k h)
    ∙ sym (count_by_more_yes (λ (row : Row). band_of row.distortion == k) rows i d within here))))
counted_by rows i d counts band k false e within six is so_far h =
    let here : (band_of (get_or rows i d).distortion == k) ≡ false =
    ap (λ b. b == k) (sym is) ∙ e in
    get_or-set_other counts band k (get_or counts band 0 + 1) 0 (no_band band k e)
    ∙ (so_far k h
    ∙ sym (count_by_more_no (λ (row : Row). band_of row.distortion == k) rows i d within here))

pub counted : (rows : List Row) (i : ℕ) (d : Row) (counts : List ℕ) (band k : ℕ)
    → i < length rows → band < length counts → band ≡ band_of (get_or rows i d).distortion
    → ((j : ℕ) → j < 6 → get_or counts j 0 ≡ count_in (take i rows) j) → k < 6
    → get_or (set counts band (get_or counts band 0 + 1)) k 0 ≡ count_in (take (i + 1) rows) k
counted rows i d counts band k within six is so_far h =
    counted_by rows i d counts band k (band == k) refl within six is so_far h

few_by : (counts : List ℕ) (i band k : ℕ) (t : Bool) → (band == k) ≡ t → band < length counts
    → ((j : ℕ) → j < 6 → get_or counts j 0 ≤ i) → band < 6 → k < 6
    → get_or (set counts band (get_or counts band 0 + 1)) k 0 ≤ i + 1
few_by counts i band k true e six few b h =
    let same : band ≡ k = is_band band k e in
    let set_is : get_or (set counts band (get_or counts band 0 + 1)) k 0
    ≡ get_or counts band 0 + 1 =
    ap (λ j. get_or (set counts band (get_or counts band 0 + 1)) j 0) (sym same)
    ∙ get_or-set_same counts band (get_or counts band 0 + 1) 0 six in
    omega (arith, set_is, few band b)
few_by counts i band k false e six few b h =
    omega (
      arith,
      get_or-set_other counts band k (get_or counts band 0 + 1) 0 (no_band band k e),
      few k h,
    )

pub few_more : (counts : List ℕ) (i band k : ℕ) → band < length counts
    → ((j : ℕ) → j < 6 → get_or counts j 0 ≤ i) → band < 6 → k < 6
    → get_or (set counts band (get_or counts band 0 + 1)) k 0 ≤ i + 1
few_more counts i band k six few b h = few_by counts i band k (band == k) refl six few b h

-- six counts
pub six_are : (counts : List ℕ) (f : ℕ → ℕ) → length counts ≡ 6
    → ((k : ℕ) → k < 6 → get_or counts k 0 ≡ f k)
    → counts ≡ map f (0 ∷ 1 ∷ 2 ∷ 3 ∷ 4 ∷ 5 ∷ [])
six_are (a ∷ b ∷ c ∷ d ∷ e ∷ g ∷ []) f n h =
    let h0 : a ≡ f 0 = h 0 (omega arith) in
    let h1 : b ≡ f 1 = h 1 (omega arith) in
    let h2 : c ≡ f 2 = h 2 (omega arith) in
    let h3 : d ≡ f 3 = h 3 (omega arith) in
    let h4 : e ≡ f 4 = h 4 (omega arith) in
    let h5 : g ≡ f 5 = h 5 (omega arith) in cc
six_are [] f n h = absurd (omega arith)
six_are (a ∷ []) f n h = absurd (omega arith)
six_are (a ∷ b ∷ []) f n h = absurd (omega arith)
six_are (a ∷ b ∷ c ∷ []) f n h = absurd (omega arith)
six_are (a ∷ b ∷ c ∷ d ∷ []) f n h = absurd (omega arith)
six_are (a ∷ b ∷ c ∷ d ∷ e ∷ []) f n h = absurd (omega arith)
six_are (a ∷ b ∷ c ∷ d ∷ e ∷ g ∷ i ∷ more) f n h = absurd (omega arith)
