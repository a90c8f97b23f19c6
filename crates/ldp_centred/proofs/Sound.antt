-- Soundness: the operations that round nothing, and what all of them give every list.
use Rattle.std.proofs.Common.{◌≡◌, ℕ, zero, suc, ℤ, pos, negsuc, ◌-ℤ◌, ◌*ℤ◌, ◌≤ℤ◌, List, [], ◌∷◌}
use Rattle.std.proofs.Common.{Some, refl, arith, subst}
use Rattle.std.specs.Int.Signed.{≤ℤ_refl}
use Rattle.std.proofs.lemmas.Int.{ints, clamps}
use Rattle.std.proofs.lemmas.Option.{same_Some}
use Rattle.ldp_num.specs.Number.{one}
use Rattle.ldp_num.specs.Plain.{plain_need}
use Rattle.ldp_num.specs.Ranges.{pair_need}
use Rattle.ldp_num.specs.Slopes.{Known, flat, slope_constant, known_need, slope_need}
use Rattle.ldp_num.specs.Written.{number_ops, slope_ops}
use Rattle.ldp_range.specs.Related.{FollowsOne}
use Rattle.ldp_range.proofs.Inclusion.{numbers-lie-in}
use Rattle.ldp_range.proofs.Follows.{values_follow, results_follow}
use Rattle.ldp_centred.specs.Soundness.{least_sum, greatest_sum, AreBounds, Describes, Meets}
use Rattle.ldp_centred.specs.Laws.{OperationsMeet, Soundness, StepSoundness}
use Rattle.ldp_centred.proofs.Centring.{need-centred}
use Rattle.ldp_centred.proofs.Rounded.{made-some}
use Rattle.ldp_centred.proofs.Points.{Tells}
use Rattle.ldp_centred.proofs.Meeting.{Answered, tells-of, one-met}
use Rattle.ldp_centred.proofs.Operations.{add-meets, sub-meets, mul-meets, sq-meets}
use Rattle.ldp_centred.proofs.Divided.{div-meets, sqrt-meets}

-- pairs of zeros
abbrev pub zeros : ℕ → List (ℤ × ℤ)
zeros zero = []
zeros (suc n) = (pos 0, pos 0) ∷ zeros n

pub least-zeros : (n : ℕ) (ts : List ℤ) → least_sum (zeros n) ts ≡ pos 0
least-zeros zero ts = refl
least-zeros (suc n) [] = refl
least-zeros (suc n) (t ∷ ts) = omega (arith, ints, clamps, least-zeros n ts)

pub greatest-zeros : (n : ℕ) (ts : List ℤ) → greatest_sum (zeros n) ts ≡ pos 0
greatest-zeros zero ts = refl
greatest-zeros (suc n) [] = refl
greatest-zeros (suc n) (t ∷ ts) = omega (arith, ints, clamps, greatest-zeros n ts)

nothing-apart : (v : ℤ) → pos one *ℤ (v -ℤ v) ≡ pos 0
nothing-apart v = omega (arith, ints)

flat-bounds : (ts : List ℤ) (v : ℤ) → AreBounds flat ts (pos one *ℤ (v -ℤ v)) (pos one *ℤ pos 0)
flat-bounds ts v = record {
  low = omega (arith, ints, least-zeros 4 ts, nothing-apart v);
  high = omega (arith, ints, greatest-zeros 4 ts, nothing-apart v);
}

zero-ordered : pos 0 ≤ℤ pos 0
zero-ordered = ≤ℤ_refl (pos 0)

constant-meets : (ts : List ℤ) (v : ℤ) → Meets ts v (slope_constant v)
constant-meets ts v = record {
  range = record { low = ≤ℤ_refl v; high = ≤ℤ_refl v };
  known = λ k e. subst (Describes ts v (v, v)) (same_Some _ k e)
      (record {
        centre = record { low = ≤ℤ_refl v; high = ≤ℤ_refl v };
        error = zero-ordered;
        ordered = (zero-ordered, (zero-ordered, (zero-ordered, (zero-ordered, tt))));
        bounds = flat-bounds ts v;
      });
}

need-is : (v u : ℤ) → plain_need v ≡ Some u → v ≡ u
need-is (pos n) u e = same_Some (pos n) u e
need-is (negsuc n) u e = cc

same-tells : (ts : List ℤ) (s r : List (ℤ × ℤ)) (x y e f : ℤ) → s ≡ r → x ≡ y → e ≡ f
    → Tells s ts x e → Tells r ts y f
same-tells ts s r x y e f p q i h = rw (← p, ← q, ← i) h

need-kept : (ts : List ℤ) (v u : ℤ) (a : ℤ × ℤ) (k m : Known) → Describes ts v a k
    → plain_need v ≡ Some u → known_need k ≡ Some m → Answered ts u m
need-kept ts v u a k m left value made =
    let p = made-some (plain_need k.centre) (Some k.error) (Some k.slopes) m made in
    let whole = need-is v u value in
    let centre = need-is k.centre m.centre p.centre in
    let error = same_Some k.error m.error p.error in
    record {
      natural = subst (λ (e : ℤ). pos 0 ≤ℤ e) error left.error;
      tells = same-tells ts k.slopes m.slopes (v -ℤ k.centre) (u -ℤ m.centre) k.error m.error
          (same_Some k.slopes m.slopes p.slopes) (omega (arith, ints, whole, centre)) error
          (tells-of ts v a k left);
    }

need-meets : (ts : List ℤ) → FollowsOne (Meets ts) plain_need slope_need
need-meets ts v a t left e =
    one-met ts plain_need pair_need (λ r k. known_need k) v a t numbers-lie-in.need left
    (λ r p i. need-centred a.range r a.known p i)
    (λ k m r u x within value made. need-kept ts v u a.range k m x value made) e

pub operations-meet : OperationsMeet
operations-meet ts = record {
  constant = constant-meets ts;
  add = add-meets ts;
  sub = sub-meets ts;
  mul = mul-meets ts;
  div = div-meets ts;
  sq = sq-meets ts;
  sqrt = sqrt-meets ts;
  need = need-meets ts;
}

pub soundness : Soundness
soundness ts = values_follow (Meets ts) number_ops slope_ops (operations-meet ts)

pub step-soundness : StepSoundness
step-soundness ts = results_follow (Meets ts) number_ops slope_ops (operations-meet ts)
