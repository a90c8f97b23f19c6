use Rattle.std.proofs.Common.{◌≡◌, Bool, true, false, pos, if◌then◌else◌, sym, refl}
use Rattle.std.specs.Prelude.{int_le}
use Rattle.ldp_num.specs.Ranges.{pair_sq}
use Rattle.ldp_num.specs.Twins.{both}
use Rattle.ldp_range.proofs.twin_square.square.Goals as goal

first-branch : {A : Type 0} (b : Bool) (x y z : A) → b ≡ true → z ≡ x → z ≡ (if b then x else y)
first-branch b x y z h e = rw h e

second-branch : {A : Type 0} (b : Bool) (x y z : A) → b ≡ false → z ≡ y → z ≡ (if b then x else y)
second-branch b x y z h e = rw h e

-- the tests stand in the squares of the ranges too
pub returns-then-is_at_most_zero : goal.returns-then-is_at_most_zero
returns-then-is_at_most_zero c =
    let low : int_le (pos 0) c.args.a.0.0 ≡ false =
    sym (rw (c.if-is_natural.false, c.low.ensures) at c.is_natural.ensures) in
    let high : int_le c.args.a.1.1 (pos 0) ≡ true =
    sym (rw (c.if-is_at_most_zero.true, c.high-else-is_natural.ensures) at
    c.is_at_most_zero.ensures) in
    let squares : c.joined-then-is_at_most_zero.result ≡ both (pair_sq c.args.a.1)
    (pair_sq c.args.a.0) =
    rw (
      c.joined-then-is_at_most_zero.ensures,
      c.squared-then-is_at_most_zero.ensures,
      c.squared-then-is_at_most_zero-2.ensures,
      c.high-then-is_at_most_zero.ensures,
      c.low-then-is_at_most_zero.ensures,
    ) refl in
    second-branch _ _ _ _ low (first-branch _ _ _ _ high squares)
