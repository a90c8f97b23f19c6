-- Each operation along one operand: its result lies between those at both ends.
use Rattle.std.proofs.Common.{◌≡◌, ℤ, ◌≤ℤ◌, [], ◌∷◌, inl, inr, refl, arith}
use Rattle.std.specs.Prelude.{Option, Some}
use Rattle.std.specs.Int.{int_min, int_max}
use Rattle.std.specs.Int.Signed.{≤ℤ_refl}
use Rattle.std.proofs.lemmas.Int.{ints, clamps}
use Rattle.ldp_num.specs.Plain.{plain_add, plain_sub, plain_mul, plain_div, plain_sqrt, plain_need}
use Rattle.ldp_num.specs.Ranges.{hull_of}
use Rattle.ldp_range.specs.Range.{LiesIn}
use Rattle.ldp_range.specs.Related.{Reaches}
use Rattle.ldp_range.proofs.Inclusion.{numbers-lie-in}
use Rattle.ldp_tolerance.specs.Moves.{LiesBetween}

-- a value is there, between two numbers
pub record Lands (found : Option ℤ) (l h : ℤ) : Type 0 where
  pub value : ℤ
  pub is : found ≡ Some value
  pub between : LiesBetween value l h

-- an operation along its one operand
abbrev pub AlongOne : (ℤ → Option ℤ) → Type 0
AlongOne f = (x p q l h : ℤ) → LiesBetween x p q → f p ≡ Some l → f q ≡ Some h → Lands (f x) l h

-- an operation of two values along the left one, and along the right one
abbrev pub AlongLeft : (ℤ → ℤ → Option ℤ) → Type 0
AlongLeft f = (y : ℤ) → AlongOne (λ x. f x y)

abbrev pub AlongRight : (ℤ → ℤ → Option ℤ) → Type 0
AlongRight f = (y : ℤ) → AlongOne (λ x. f y x)

-- the same upward alone
abbrev UpOne : (ℤ → Option ℤ) → Type 0
UpOne f =
    (x p q l h : ℤ) → p ≤ℤ x → x ≤ℤ q → f p ≡ Some l → f q ≡ Some h → Lands (f x) l h

turned : (n p q : ℤ) → LiesBetween n p q → LiesBetween n q p
turned n p q (inl b) = inr b
turned n p q (inr b) = inl b

both-ways : (f : ℤ → Option ℤ) → UpOne f → AlongOne f
both-ways f up x p q l h (inl b) e k = up x p q l h b.0 b.1 e k
both-ways f up x p q l h (inr b) e k =
    let landed = up x q p h l b.0 b.1 k e in
    record {
      value = landed.value;
      is = landed.is;
      between = turned landed.value h l landed.between;
    }

itself : (n : ℤ) → LiesIn n (n, n)
itself n = record { low = ≤ℤ_refl n; high = ≤ℤ_refl n }

within : (n p q : ℤ) → p ≤ℤ n → n ≤ℤ q → LiesIn n (p, q)
within n p q a b = record { low = a; high = b }

from-ends : (o : Option ℤ) (l h : ℤ) → Reaches LiesIn o (l, h) → Lands o l h
from-ends o l h r =
    record { value = r.value; is = r.is; between = inl (r.related.low, r.related.high) }

from-turned : (o : Option ℤ) (l h : ℤ) → Reaches LiesIn o (h, l) → Lands o l h
from-turned o l h r =
    record { value = r.value; is = r.is; between = inr (r.related.low, r.related.high) }

between-hull : (n l h : ℤ) → int_min l h ≤ℤ n → n ≤ℤ int_max l h → LiesBetween n l h
between-hull n l h a b = grind (arith, ints, clamps)

from-hull : (o : Option ℤ) (l h : ℤ) → Reaches LiesIn o (int_min l h, int_max l h) → Lands o l h
from-hull o l h r = record {
  value = r.value;
  is = r.is;
  between = between-hull r.value l h r.related.low r.related.high;
}

left-corners : (l h : ℤ)
    → hull_of (Some l ∷ Some l ∷ Some h ∷ Some h ∷ []) ≡ Some (int_min l h, int_max l h)
left-corners l h = grind (arith, ints, clamps)

right-corners : (l h : ℤ)
    → hull_of (Some l ∷ Some h ∷ Some l ∷ Some h ∷ []) ≡ Some (int_min l h, int_max l h)
right-corners l h = grind (arith, ints, clamps)

pub add-left : AlongLeft plain_add
add-left y = both-ways _ (λ x p q l h a b e k. from-ends _ l h
    (numbers-lie-in.add x y (p, q) (y, y) (l, h) (within x p q a b) (itself y) (rw (e, k) refl)))

pub add-right : AlongRight plain_add
add-right y = both-ways _ (λ x p q l h a b e k. from-ends _ l h
    (numbers-lie-in.add y x (y, y) (p, q) (l, h) (itself y) (within x p q a b) (rw (e, k) refl)))

pub sub-left : AlongLeft plain_sub
sub-left y = both-ways _ (λ x p q l h a b e k. from-ends _ l h
    (numbers-lie-in.sub x y (p, q) (y, y) (l, h) (within x p q a b) (itself y) (rw (e, k) refl)))

pub sub-right : AlongRight plain_sub
sub-right y = both-ways _ (λ x p q l h a b e k. from-turned _ l h
    (numbers-lie-in.sub y x (y, y) (p, q) (h, l) (itself y) (within x p q a b) (rw (e, k) refl)))

pub mul-left : AlongLeft plain_mul
mul-left y = both-ways _ (λ x p q l h a b e k. from-hull _ l h
    (numbers-lie-in.mul x y (p, q) (y, y) (int_min l h, int_max l h) (within x p q a b) (itself y)
    (rw (e, k) (left-corners l h))))

pub mul-right : AlongRight plain_mul
mul-right y = both-ways _ (λ x p q l h a b e k. from-hull _ l h
    (numbers-lie-in.mul y x (y, y) (p, q) (int_min l h, int_max l h) (itself y) (within x p q a b)
    (rw (e, k) (right-corners l h))))

pub div-left : AlongLeft plain_div
div-left y = both-ways _ (λ x p q l h a b e k. from-hull _ l h
    (numbers-lie-in.div x y (p, q) (y, y) (int_min l h, int_max l h) (within x p q a b) (itself y)
    (rw (e, k) (left-corners l h))))

pub div-right : AlongRight plain_div
div-right y = both-ways _ (λ x p q l h a b e k. from-hull _ l h
    (numbers-lie-in.div y x (y, y) (p, q) (int_min l h, int_max l h) (itself y) (within x p q a b)
    (rw (e, k) (right-corners l h))))

pub sqrt-along : AlongOne plain_sqrt
sqrt-along = both-ways plain_sqrt (λ x p q l h a b e k. from-ends _ l h
    (numbers-lie-in.sqrt x (p, q) (l, h) (within x p q a b) (rw (e, k) refl)))

pub need-along : AlongOne plain_need
need-along = both-ways plain_need (λ x p q l h a b e k. from-ends _ l h
    (numbers-lie-in.need x (p, q) (l, h) (within x p q a b) (rw (e, k) refl)))
