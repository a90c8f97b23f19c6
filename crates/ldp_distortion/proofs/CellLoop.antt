-- The worst over cells, after some of them were looked at.
use Rattle.std.proofs.Common.{◌≡◌, ℕ, ◌+◌, ◌<◌, ◌≤◌, true, false, drop, length, ℤ, pos, nat_abs}
use Rattle.std.proofs.Common.{List, arith, sym, ap, ◌∙◌}
use Rattle.std.proofs.lemmas.Bool.{lt-ltb}
use Rattle.std.proofs.lemmas.Bool.Decides.{nat_tests}
use Rattle.std.proofs.lemmas.Int.{ints}
use Rattle.std.specs.Prelude.{Option, Some, None, nat_lt, slice_get}
use Rattle.ldp_num.specs.Number.{IsNumber}
use Rattle.ldp_distortion.specs.Worst.{worst_of}
use Rattle.ldp_distortion.specs.declared.worst.Worst.TheVariants.{Is, Unusable}
use Rattle.ldp_distortion.proofs.Worsts.{worst_from, worst_from-is, when_true, when_false}
use Rattle.ldp_distortion.proofs.Worsts.{left_undefined, left_defined, none_left}

-- the worst so far and the distortions from this cell on give the worst of all
pub record GoesOn (ds : List (Option ℤ)) (best worst at : ℕ) : Type 0 where
  pub same : worst_from best worst at (drop at ds) ≡ worst_of ds

pub begins : (ds : List (Option ℤ)) → GoesOn ds 0 0 0
begins ds = record { same = worst_from-is ds }

pub ends_undefined : (ds : List (Option ℤ)) (best worst at : ℕ) → slice_get ds at ≡ Some None
    → GoesOn ds best worst at
    → Unusable at ≡ worst_of ds
ends_undefined ds best worst at h so_far = sym (left_undefined ds best worst at h) ∙ so_far.same

pub ends_defined : (ds : List (Option ℤ)) (best worst at : ℕ) → length ds ≤ at
    → GoesOn ds best worst at → Is (pos best) worst ≡ worst_of ds
ends_defined ds best worst at end so_far = sym (none_left ds best worst at end) ∙ so_far.same

pub rises_on : (ds : List (Option ℤ)) (best worst at size : ℕ) (d : ℤ)
    → slice_get ds at ≡ Some (Some d) → GoesOn ds best worst at
    → size ≡ nat_abs d → best < size → GoesOn ds size at (at + 1)
rises_on ds best worst at size d h so_far e greater =
    let test : nat_lt best (nat_abs d) ≡ true = lt-ltb best (nat_abs d) (omega arith) in
    record {
      same =
          ap (λ (n : ℕ). worst_from n at (at + 1) (drop (at + 1) ds)) e
          ∙ sym (when_true (nat_lt best (nat_abs d)) _ _ test)
          ∙ sym (left_defined ds best worst at d h)
          ∙ so_far.same;
    }

pub stays_on : (ds : List (Option ℤ)) (best worst at size : ℕ) (d : ℤ)
    → slice_get ds at ≡ Some (Some d) → GoesOn ds best worst at
    → size ≡ nat_abs d → size ≤ best → GoesOn ds best worst (at + 1)
stays_on ds best worst at size d h so_far e lesser =
    let test : nat_lt best (nat_abs d) ≡ false = grind (arith, nat_tests) in
    record {
      same = sym (when_false (nat_lt best (nat_abs d)) _ _ test)
          ∙ sym (left_defined ds best worst at d h) ∙ so_far.same;
    }

-- the absolute value of a number is at most 10^19
pub number_size : (z : ℤ) → IsNumber z → nat_abs z ≤ 10000000000000000000
number_size z h = omega (arith, ints)
