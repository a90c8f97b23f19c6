-- Each operation at items that meet numbers meets its result at the numbers.
use Rattle.std.proofs.Common.{◌≡◌, ℤ, pos, neg_ℤ, ◌+ℤ◌, ◌-ℤ◌, ◌*ℤ◌, ◌≤ℤ◌, List, Some, arith}
use Rattle.std.proofs.Common.{sym, subst}
use Rattle.std.specs.Prelude.{unsigned_abs}
use Rattle.std.specs.Int.Signed.{≤ℤ_refl}
use Rattle.std.proofs.lemmas.Int.{ints}
use Rattle.ldp_num.specs.Number.{one}
use Rattle.ldp_num.specs.Plain.{plain_add, plain_sub, plain_mul, plain_sq}
use Rattle.ldp_num.specs.Ranges.{magnitude, pair_high_abs, pair_add, pair_sub, pair_mul}
use Rattle.ldp_num.specs.Ranges.{pair_sq}
use Rattle.ldp_num.specs.Slopes.{Known, outward, known_add, known_sub, known_mul}
use Rattle.ldp_num.specs.Slopes.{known_squared, known_sq, slope_mul, error_mul, slope_add, slope_sub}
use Rattle.ldp_num.specs.Slopes.{slope_times, slope_sq}
use Rattle.ldp_range.specs.Range.{LiesIn}
use Rattle.ldp_range.specs.Related.{FollowsOne, FollowsTwo}
use Rattle.ldp_range.proofs.Inclusion.{numbers-lie-in}
use Rattle.ldp_range.proofs.Ends.{absolute-bounds}
use Rattle.ldp_centred.specs.Soundness.{Describes, Meets}
use Rattle.ldp_centred.proofs.Parts.{number-is}
use Rattle.ldp_centred.proofs.Centring.{then-some, add-centred, sub-centred, mul-centred, sq-centred}
use Rattle.ldp_centred.proofs.Rounded.{both-some, made-some, ends-some, product-floor}
use Rattle.ldp_centred.proofs.Corners.{cornered-two, cornered-one, add-corner, sub-corner, mul-corner}
use Rattle.ldp_centred.proofs.Corners.{sq-corner}
use Rattle.ldp_centred.proofs.Meeting.{Answered, tells-of, answered, two-met, one-met}
use Rattle.ldp_centred.proofs.Arithmetic.{add-low, add-high, sub-low, sub-high, error-mul, mul-low}
use Rattle.ldp_centred.proofs.Arithmetic.{mul-high, natural-times, natural-error, error-sq, sq-low}
use Rattle.ldp_centred.proofs.Arithmetic.{sq-high}

natural-sum : (e f g : ℤ) → g ≡ e +ℤ f → pos 0 ≤ℤ e → pos 0 ≤ℤ f → pos 0 ≤ℤ g
natural-sum e f g s n m = omega (arith, ints)

positive : pos 1 ≤ℤ pos 1
positive = ≤ℤ_refl (pos 1)

one-positive : pos 1 ≤ℤ pos one
one-positive = omega (arith, ints)

add-kept : (ts : List ℤ) (v w u : ℤ) (a b : ℤ × ℤ) (k l m : Known) → Describes ts v a k
    → Describes ts w b l → plain_add v w ≡ Some u → known_add k l ≡ Some m → Answered ts u m
add-kept ts v w u a b k l m left right value made =
    let p = made-some _ _ _ m made in
    let centre = number-is (k.centre +ℤ l.centre) m.centre p.centre in
    let error = number-is (k.error +ℤ l.error) m.error p.error in
    let whole = number-is (v +ℤ w) u value in
    let corners = cornered-two (pos 1) (pos 1) (pos 1) pair_add add-corner k.slopes l.slopes
    m.slopes p.slopes in
    answered ts u m (pos 1) (pos 1) (pos 1) (pos 1) (pos 1) (v -ℤ k.centre) (w -ℤ l.centre) k.error
    l.error k.slopes l.slopes positive
    (natural-sum k.error l.error m.error error left.error right.error) corners corners
    (tells-of ts v a k left) (tells-of ts w b l right)
    (add-low v w k.centre l.centre k.error l.error u m.centre m.error whole centre error)
    (add-high v w k.centre l.centre k.error l.error u m.centre m.error whole centre error)

pub add-meets : (ts : List ℤ) → FollowsTwo (Meets ts) plain_add slope_add
add-meets ts v w a b t left right e =
    two-met ts plain_add pair_add known_add v w a b t numbers-lie-in.add left right
    (λ r p q i. add-centred a.range b.range r a.known b.known p q i)
    (λ k l m u x y value made. add-kept ts v w u a.range b.range k l m x y value made) e

sub-kept : (ts : List ℤ) (v w u : ℤ) (a b : ℤ × ℤ) (k l m : Known) → Describes ts v a k
    → Describes ts w b l → plain_sub v w ≡ Some u → known_sub k l ≡ Some m → Answered ts u m
sub-kept ts v w u a b k l m left right value made =
    let p = made-some _ _ _ m made in
    let centre = number-is (k.centre -ℤ l.centre) m.centre p.centre in
    let error = number-is (k.error +ℤ l.error) m.error p.error in
    let whole = number-is (v -ℤ w) u value in
    let corners = cornered-two (pos 1) (pos 1) (neg_ℤ (pos 1)) pair_sub sub-corner k.slopes l.slopes
    m.slopes p.slopes in
    answered ts u m (pos 1) (pos 1) (neg_ℤ (pos 1)) (pos 1) (neg_ℤ (pos 1)) (v -ℤ k.centre)
    (w -ℤ l.centre) k.error l.error k.slopes l.slopes positive
    (natural-sum k.error l.error m.error error left.error right.error) corners corners
    (tells-of ts v a k left) (tells-of ts w b l right)
    (sub-low v w k.centre l.centre k.error l.error u m.centre m.error whole centre error)
    (sub-high v w k.centre l.centre k.error l.error u m.centre m.error whole centre error)

pub sub-meets : (ts : List ℤ) → FollowsTwo (Meets ts) plain_sub slope_sub
sub-meets ts v w a b t left right e =
    two-met ts plain_sub pair_sub known_sub v w a b t numbers-lie-in.sub left right
    (λ r p q i. sub-centred a.range b.range r a.known b.known p q i)
    (λ k l m u x y value made. sub-kept ts v w u a.range b.range k l m x y value made) e

natural-paid : (x y : ℤ) → pos 0 ≤ℤ x → pos 0 ≤ℤ y → pos 0 ≤ℤ (x +ℤ y)
natural-paid x y n m = omega (arith, ints)

natural-magnitude : (v : ℤ) → pos 0 ≤ℤ pos (unsigned_abs v)
natural-magnitude v = omega (arith, ints)

-- what the error of a product pays
mul-pays : (range : ℤ × ℤ) (v l e f g : ℤ) → LiesIn v range → pos 0 ≤ℤ f
    → error_mul range l e f ≡ Some g
    → (((pos (unsigned_abs l) *ℤ e) +ℤ (pos (unsigned_abs v) *ℤ f)) +ℤ pos one) ≤ℤ (pos one *ℤ g)
mul-pays range v l e f g within natural is =
    let t = then-some (λ n. plain_add n (pos 3)) _ g is in
    let s = both-some plain_add (plain_mul (pair_high_abs range) f) (plain_mul (magnitude l) e) t.0
    t.1.0 in
    let sum = number-is (s.first +ℤ s.second) t.0 s.is in
    let whole = number-is (t.0 +ℤ pos 3) g t.1.1 in
    let paid = error-mul v l (pair_high_abs range) s.first s.second e f natural
    (absolute-bounds v range within).greatest
    (product-floor (pair_high_abs range) f s.first s.first_is)
    (product-floor (magnitude l) e s.second s.second_is) in
    let same : s.first +ℤ s.second +ℤ pos 3 ≡ g = omega (arith, ints, sum, whole) in
    subst (λ (x : ℤ). (((pos (unsigned_abs l) *ℤ e) +ℤ (pos (unsigned_abs v) *ℤ f)) +ℤ pos one)
    ≤ℤ (pos one *ℤ x)) same paid

mul-kept : (ts : List ℤ) (v w u : ℤ) (a b : ℤ × ℤ) (k l m : Known) → LiesIn v a
    → Describes ts v a k
    → Describes ts w b l → plain_mul v w ≡ Some u → known_mul a k l ≡ Some m → Answered ts u m
mul-kept ts v w u a b k l m within left right value made =
    let p = made-some _ _ _ m made in
    let centre = product-floor k.centre l.centre m.centre p.centre in
    let whole = product-floor v w u value in
    let paid : ℤ = (pos (unsigned_abs l.centre) *ℤ k.error) +ℤ (pos (unsigned_abs v) *ℤ l.error) in
    let pays = mul-pays a v l.centre k.error l.error m.error within right.error p.error in
    let least = natural-paid _ _
    (natural-times (pos (unsigned_abs l.centre)) k.error (natural-magnitude l.centre) left.error)
    (natural-times (pos (unsigned_abs v)) l.error (natural-magnitude v) right.error) in
    let corners = cornered-two (pos one) l.centre v (slope_mul a l.centre)
    (mul-corner a l.centre v within) k.slopes l.slopes m.slopes p.slopes in
    answered ts u m (pos one) l.centre v l.centre v (v -ℤ k.centre) (w -ℤ l.centre) k.error l.error
    k.slopes l.slopes one-positive (natural-error m.error paid least pays) corners corners
    (tells-of ts v a k left) (tells-of ts w b l right)
    (mul-low v w k.centre l.centre u m.centre m.error paid whole centre pays)
    (mul-high v w k.centre l.centre u m.centre m.error paid whole centre pays)

pub mul-meets : (ts : List ℤ) → FollowsTwo (Meets ts) plain_mul slope_times
mul-meets ts v w a b t left right e =
    two-met ts plain_mul pair_mul (known_mul a.range) v w a b t numbers-lie-in.mul left right
    (λ r p q i. mul-centred a.range b.range r a.known b.known p q i)
    (λ k l m u x y value made. mul-kept ts v w u a.range b.range k l m left.range x y value made) e

-- the sum of a number and a centre lies in that of their ranges
sum-within : (v c : ℤ) (r sum : ℤ × ℤ) → LiesIn v r → pair_add r (c, c) ≡ Some sum
    → LiesIn (v +ℤ c) sum
sum-within v c r sum within e =
    let h = ends-some (plain_add r.0 c) (plain_add r.1 c) sum e in
    let low = number-is (r.0 +ℤ c) sum.0 h.low in
    let high = number-is (r.1 +ℤ c) sum.1 h.high in
    record {
      low = omega (arith, ints, low, within.low);
      high = omega (arith, ints, high, within.high);
    }

sq-kept : (ts : List ℤ) (v u : ℤ) (a : ℤ × ℤ) (k m : Known) → LiesIn v a → Describes ts v a k
    → plain_sq v ≡ Some u → known_sq a k ≡ Some m → Answered ts u m
sq-kept ts v u a k m within left value made =
    let s = then-some (known_squared k) (pair_add a (k.centre, k.centre)) m made in
    let p = made-some _ _ _ m s.1.1 in
    let inside = sum-within v k.centre a s.0 within s.1.0 in
    let centre = product-floor k.centre k.centre m.centre p.centre in
    let whole = product-floor v v u value in
    let t = then-some (λ n. plain_add n (pos 2)) (plain_mul (pair_high_abs s.0) k.error) m.error
    p.error in
    let more = number-is (t.0 +ℤ pos 2) m.error t.1.1 in
    let paid : ℤ = pos (unsigned_abs (v +ℤ k.centre)) *ℤ k.error in
    let pays : (paid +ℤ pos one) ≤ℤ (pos one *ℤ m.error) =
    subst (λ (x : ℤ). (paid +ℤ pos one) ≤ℤ (pos one *ℤ x)) (sym more)
    (error-sq (v +ℤ k.centre) (pair_high_abs s.0) t.0 k.error left.error
    (absolute-bounds (v +ℤ k.centre) s.0 inside).greatest
    (product-floor (pair_high_abs s.0) k.error t.0 t.1.0)) in
    let least = natural-times (pos (unsigned_abs (v +ℤ k.centre))) k.error
    (natural-magnitude (v +ℤ k.centre)) left.error in
    let corners = cornered-one (pos one) (v +ℤ k.centre) (λ x. outward (pair_mul s.0 x))
    (sq-corner s.0 (v +ℤ k.centre) inside) k.slopes m.slopes p.slopes in
    answered ts u m (pos one) (v +ℤ k.centre) (pos 0) (v +ℤ k.centre) (pos 0) (v -ℤ k.centre)
    (v -ℤ k.centre) k.error k.error k.slopes k.slopes one-positive
    (natural-error m.error paid least pays) corners corners
    (tells-of ts v a k left) (tells-of ts v a k left)
    (sq-low v k.centre u m.centre m.error k.error whole centre pays)
    (sq-high v k.centre u m.centre m.error k.error whole centre pays)

pub sq-meets : (ts : List ℤ) → FollowsOne (Meets ts) plain_sq slope_sq
sq-meets ts v a t left e =
    one-met ts plain_sq pair_sq (λ r k. known_sq a.range k) v a t numbers-lie-in.sq left
    (λ r p i. sq-centred a.range r a.known p i)
    (λ k m r u x within value made. sq-kept ts v u a.range k m left.range x value made) e
