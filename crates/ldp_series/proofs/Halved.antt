-- A list that was cut in two: both parts fit, and its value is that of the tail over its inputs and
-- the head's results.
use Rattle.std.proofs.Common.{◌≡◌, ℕ, zero, suc, ◌+◌, ◌<◌, ◌≤◌, List, [], ◌∷◌, ◌++◌, length}
use Rattle.std.proofs.Common.{take, arith, refl, sym, ap, subst, ◌∙◌, length-append}
use Rattle.std.proofs.Common.{append_assoc}
use Rattle.std.proofs.lemmas.List.{length_push, length-set}
use Rattle.std.proofs.lemmas.List.Elements.{All-append}
use Rattle.std.proofs.lemmas.Option.{none-some, same_Some}
use Rattle.std.specs.Prelude.{All, Option, None, Some, option_map, option_and_then, slice_get}
use Rattle.ldp_num.specs.declared.step.Step.{Step}
use Rattle.ldp_num.specs.declared.step.Step.TheVariants.{Input}
use Rattle.ldp_num.specs.Written.{Ops}
use Rattle.ldp_num.specs.Steps.{StepsFit, step_value, results_of}
use Rattle.ldp_num.specs.StepList.{StepList, at_places, value_in}
use Rattle.ldp_series.specs.Cut.{Parts, AreParts, IsMoved, AreMoved, with_head, with_tail}
use Rattle.ldp_series.specs.Cut.{with_kept}
use Rattle.ldp_series.specs.Cut.AreParts.{begun, in_the_head, in_the_tail, kept_too}
use Rattle.ldp_series.proofs.Fits.{fits_push}
use Rattle.ldp_series.proofs.Runs.{at_places-more}
use Rattle.ldp_series.proofs.Stands.{Stand, Within, stand_push, stand_skip, stand_set, within_push}
use Rattle.ldp_series.proofs.Stands.{within_skip, within_set, get_left, get_last, get_take, there}
use Rattle.ldp_series.proofs.PartRuns.{run_some, run_none, run_stop, run_count, wider, moved_value}
use Rattle.ldp_series.proofs.PartRuns.{moved_fits, fit_wide, places_front, moved_places}

-- what the parts are: well formed, and mapped step by step
pub record Sound (stays : ℕ) (steps : List Step) (h : Parts) : Type 0 where
  pub head : StepsFit stays 0 h.head
  pub tail : StepsFit (h.inputs + length h.kept) 0 h.tail
  pub kept : All (λ place. place < length h.head) h.kept
  pub in_head : Within h.in_head (length h.head)
  pub in_tail : Within h.in_tail (length h.tail)
  pub heads : length h.in_head ≡ length steps
  pub tails : length h.in_tail ≡ length steps

all_below : (places : List ℕ) (n m : ℕ) → n ≤ m → All (λ place. place < n) places
    → All (λ place. place < m) places
all_below places n m le h k d e = let below : _ < n = h k d e in omega arith

pub all_one : (n place : ℕ) → place < n → All (λ place. place < n) (place ∷ [])
all_one n place h zero d e = h
all_one n place h (suc k) d e = absurd (omega arith)

pub sound : (stays : ℕ) (steps : List Step) (h : Parts) → AreParts stays steps h
    → Sound stays steps h
sound stays _ _ (begun inputs) = record {
  head = tt;
  tail = tt;
  kept = λ k d e. absurd (omega arith);
  in_head = λ i j e. absurd (none-some (Some j) e);
  in_tail = λ i j e. absurd (none-some (Some j) e);
  heads = refl;
  tails = refl;
}
sound stays _ _ (in_the_head steps h step moved before parts fits m) =
    let s = sound stays steps h parts in
    let longer : length (h.head ++ moved ∷ []) ≡ length h.head + 1 = length_push h.head moved in
    record {
      head = fits_push stays h.head moved s.head
          (moved_fits h.inputs stays before stays (length h.head) h.in_head step moved fits
          s.in_head m (omega arith));
      tail = s.tail;
      kept = all_below h.kept (length h.head) (length (h.head ++ moved ∷ [])) (omega arith)
          s.kept;
      in_head = rw longer (within_push h.in_head (length h.head) s.in_head);
      in_tail = within_skip h.in_tail (length h.tail) s.in_tail;
      heads = length_push h.in_head (Some (length h.head)) ∙ ap (λ (n : ℕ). n + 1) s.heads
          ∙ sym (length_push steps step);
      tails = length_push h.in_tail None ∙ ap (λ (n : ℕ). n + 1) s.tails
          ∙ sym (length_push steps step);
    }
sound stays _ _ (in_the_tail steps h step moved before parts fits m) =
    let s = sound stays steps h parts in
    let longer : length (h.tail ++ moved ∷ []) ≡ length h.tail + 1 = length_push h.tail moved in
    record {
      head = s.head;
      tail = fits_push (h.inputs + length h.kept) h.tail moved s.tail
          (moved_fits h.inputs (h.inputs + length h.kept) before h.inputs (length h.tail)
          h.in_tail step moved fits s.in_tail m (omega arith));
      kept = s.kept;
      in_head = within_skip h.in_head (length h.head) s.in_head;
      in_tail = rw longer (within_push h.in_tail (length h.tail) s.in_tail);
      heads = length_push h.in_head None ∙ ap (λ (n : ℕ). n + 1) s.heads
          ∙ sym (length_push steps step);
      tails = length_push h.in_tail (Some (length h.tail)) ∙ ap (λ (n : ℕ). n + 1) s.tails
          ∙ sym (length_push steps step);
    }
sound stays _ _ (kept_too steps h at place parts is) =
    let s = sound stays steps h parts in
    let next : Step = Input (h.inputs + length h.kept) in
    let longer : length (h.tail ++ next ∷ []) ≡ length h.tail + 1 = length_push h.tail next in
    let more : length (h.kept ++ place ∷ []) ≡ length h.kept + 1 = length_push h.kept place in
    let wide : h.inputs + length h.kept ≤ h.inputs + length (h.kept ++ place ∷ []) = omega arith in
    record {
      head = s.head;
      tail = fits_push (h.inputs + length (h.kept ++ place ∷ [])) h.tail next
          (fit_wide (h.inputs + length h.kept) (h.inputs + length (h.kept ++ place ∷ [])) 0 h.tail
          s.tail wide)
          (omega arith);
      kept = All-append (λ (place : ℕ). place < length h.head) h.kept (place ∷ []) s.kept
          (all_one (length h.head) place (s.in_head at place is));
      in_head = s.in_head;
      in_tail = rw longer (within_set h.in_tail at (length h.tail) s.in_tail);
      heads = s.heads;
      tails = length-set h.in_tail at (Some (length h.tail)) ∙ s.tails;
    }

-- the values of the steps, and of both parts: all there, and the same where the same step stands, or
-- undefined on both sides
pub data Halved {A : Type 0} (ops : Ops A) (stays : ℕ) (inputs : List A) (steps : List Step)
    (h : Parts) : Type 0 where
  whole : (vs hs ks ts : List A) → results_of ops inputs steps ≡ Some vs
      → results_of ops (take stays inputs) h.head ≡ Some hs → at_places hs h.kept ≡ Some ks
      → results_of ops (inputs ++ ks) h.tail ≡ Some ts
      → Stand vs h.in_head hs → Stand vs h.in_tail ts → Halved ops stays inputs steps h
  no_head : results_of ops inputs steps ≡ None
      → results_of ops (take stays inputs) h.head ≡ None → Halved ops stays inputs steps h
  no_tail : (hs ks : List A) → results_of ops inputs steps ≡ None
      → results_of ops (take stays inputs) h.head ≡ Some hs → at_places hs h.kept ≡ Some ks
      → results_of ops (inputs ++ ks) h.tail ≡ None → Halved ops stays inputs steps h

head_more : {A : Type 0} (ops : Ops A) (stays : ℕ) (inputs : List A) (steps : List Step)
    (h : Parts) (step moved : Step)
    → Sound stays steps h → IsMoved stays h.in_head step moved → Halved ops stays inputs steps h
    → Halved ops stays inputs (steps ++ step ∷ []) (with_head h moved)
head_more {A = A} ops stays inputs steps h step moved s m (whole vs hs ks ts v a k t st sk) =
    by_value (step_value ops inputs vs step) refl where
      same : step_value ops inputs vs step ≡ step_value ops (take stays inputs) hs moved
      same = moved_value ops inputs (take stays inputs) vs hs stays h.in_head step moved st
          (λ i l. sym (get_take stays inputs i l)) m

      by_value : (o : Option A) → step_value ops inputs vs step ≡ o
          → Halved ops stays inputs (steps ++ step ∷ []) (with_head h moved)
      by_value None e = no_head (run_none ops inputs steps step vs v e)
          (run_none ops (take stays inputs) h.head moved hs a (sym same ∙ e))
      by_value (Some x) e =
          whole (vs ++ x ∷ []) (hs ++ x ∷ []) ks ts (run_some ops inputs steps step vs x v e)
          (run_some ops (take stays inputs) h.head moved hs x a (sym same ∙ e))
          (places_front hs (x ∷ []) h.kept ks k) t
          (stand_push vs h.in_head hs (length h.head) x st
          (s.heads ∙ sym (run_count ops inputs steps vs v))
          (sym (run_count ops (take stays inputs) h.head hs a)))
          (stand_skip vs h.in_tail ts x sk)
head_more ops stays inputs steps h step moved s m (no_head v a) =
    no_head (run_stop ops inputs steps step v) (run_stop ops (take stays inputs) h.head moved a)
head_more {A = A} ops stays inputs steps h step moved s m (no_tail hs ks v a k t) =
    by_value (step_value ops (take stays inputs) hs moved) refl where
      by_value : (o : Option A) → step_value ops (take stays inputs) hs moved ≡ o
          → Halved ops stays inputs (steps ++ step ∷ []) (with_head h moved)
      by_value None e = no_head (run_stop ops inputs steps step v)
          (run_none ops (take stays inputs) h.head moved hs a e)
      by_value (Some x) e =
          no_tail (hs ++ x ∷ []) ks (run_stop ops inputs steps step v)
          (run_some ops (take stays inputs) h.head moved hs x a e)
          (places_front hs (x ∷ []) h.kept ks k) t

tail_more : {A : Type 0} (ops : Ops A) (stays : ℕ) (inputs : List A) (steps : List Step)
    (h : Parts) (step moved : Step)
    → length inputs ≡ h.inputs → Sound stays steps h → IsMoved h.inputs h.in_tail step moved
    → Halved ops stays inputs steps h
    → Halved ops stays inputs (steps ++ step ∷ []) (with_tail h moved)
tail_more {A = A} ops stays inputs steps h step moved count s m
    (whole vs hs ks ts v a k t st sk) =
    by_value (step_value ops inputs vs step) refl where
      same : step_value ops inputs vs step ≡ step_value ops (inputs ++ ks) ts moved
      same = moved_value ops inputs (inputs ++ ks) vs ts h.inputs h.in_tail step moved sk
          (λ i l. sym (get_left inputs ks i (omega arith))) m

      by_value : (o : Option A) → step_value ops inputs vs step ≡ o
          → Halved ops stays inputs (steps ++ step ∷ []) (with_tail h moved)
      by_value None e = no_tail hs ks (run_none ops inputs steps step vs v e) a k
          (run_none ops (inputs ++ ks) h.tail moved ts t (sym same ∙ e))
      by_value (Some x) e =
          whole (vs ++ x ∷ []) hs ks (ts ++ x ∷ []) (run_some ops inputs steps step vs x v e) a k
          (run_some ops (inputs ++ ks) h.tail moved ts x t (sym same ∙ e))
          (stand_skip vs h.in_head hs x st)
          (stand_push vs h.in_tail ts (length h.tail) x sk
          (s.tails ∙ sym (run_count ops inputs steps vs v))
          (sym (run_count ops (inputs ++ ks) h.tail ts t)))
tail_more ops stays inputs steps h step moved count s m (no_head v a) =
    no_head (run_stop ops inputs steps step v) a
tail_more ops stays inputs steps h step moved count s m (no_tail hs ks v a k t) =
    no_tail hs ks (run_stop ops inputs steps step v) a k
    (run_stop ops (inputs ++ ks) h.tail moved t)

-- the run of the tail that takes one more result
places_count : {A : Type 0} (run : List A) (places : List ℕ) (found : List A)
    → at_places run places ≡ Some found → length found ≡ length places
places_count run [] found h = grind arith
places_count run (p ∷ places) found h = there_by (slice_get run p) (at_places run places) found h
    (λ rest e. places_count run places rest e) where
      there_by : {A : Type 0} (o : Option A) (rests : Option (List A)) (found : List A)
          → option_and_then (λ x. option_map (λ xs. x ∷ xs) rests) o ≡ Some found
          → ((rest : List A) → rests ≡ Some rest → length rest ≡ length places)
          → length found ≡ suc (length places)
      there_by None rests found h more = absurd (none-some found h)
      there_by (Some x) None found h more = absurd (none-some found h)
      there_by (Some x) (Some rest) found h more =
          ap length (sym (same_Some (x ∷ rest) found h)) ∙ ap suc (more rest refl)

wider_kept : {A : Type 0} (ops : Ops A) (inputs ks : List A) (x : A) (n : ℕ) (tail : List Step)
    → length inputs + length ks ≡ n → StepsFit n 0 tail
    → results_of ops (inputs ++ (ks ++ x ∷ [])) tail ≡ results_of ops (inputs ++ ks) tail
wider_kept ops inputs ks x n tail count fit =
    let all : n ≡ length (inputs ++ ks) = sym count ∙ sym (length-append inputs ks) in
    rw (← append_assoc inputs ks (x ∷ []))
    (wider ops (inputs ++ ks) (x ∷ []) tail (subst (λ (k : ℕ). StepsFit k 0 tail) all fit))

kept_value : {A : Type 0} (inputs ks : List A) (x : A) (n : ℕ)
    → length inputs + length ks ≡ n → slice_get (inputs ++ (ks ++ x ∷ [])) n ≡ Some x
kept_value inputs ks x n count =
    let all : length (inputs ++ ks) ≡ n = length-append inputs ks ∙ count in
    rw (← append_assoc inputs ks (x ∷ []))
    (subst (λ (k : ℕ). slice_get ((inputs ++ ks) ++ x ∷ []) k ≡ Some x) all
    (get_last (inputs ++ ks) x))

kept_more : {A : Type 0} (ops : Ops A) (stays : ℕ) (inputs : List A) (steps : List Step)
    (h : Parts) (at place : ℕ)
    → length inputs ≡ h.inputs → Sound stays steps h → slice_get h.in_head at ≡ Some (Some place)
    → Halved ops stays inputs steps h
    → Halved ops stays inputs steps (with_kept h at place)
kept_more ops stays inputs steps h at place count s is (whole vs hs ks ts v a k t st sk) =
    let found = st at place is in
    let size : length ks ≡ length h.kept = places_count hs h.kept ks k in
    let n : ℕ = h.inputs + length h.kept in
    let all : length inputs + length ks ≡ n = omega arith in
    whole vs hs (ks ++ found.value ∷ []) (ts ++ found.value ∷ []) v a
    (at_places-more hs h.kept ks place found.value k found.there)
    (run_some ops (inputs ++ (ks ++ found.value ∷ [])) h.tail (Input n) ts found.value
    (wider_kept ops inputs ks found.value n h.tail all s.tail ∙ t)
    (kept_value inputs ks found.value n all))
    st
    (stand_set vs h.in_tail ts at (length h.tail) found.value sk found.here
    (sym (run_count ops (inputs ++ ks) h.tail ts t)))
kept_more ops stays inputs steps h at place count s is (no_head v a) = no_head v a
kept_more ops stays inputs steps h at place count s is (no_tail hs ks v a k t) =
    let below : place < length h.head = s.in_head at place is in
    let results : length hs ≡ length h.head =
    run_count ops (take stays inputs) h.head hs a in
    let found = there hs place (omega arith) in
    let size : length ks ≡ length h.kept = places_count hs h.kept ks k in
    let n : ℕ = h.inputs + length h.kept in
    let all : length inputs + length ks ≡ n = omega arith in
    no_tail hs (ks ++ found.0 ∷ []) v a
    (at_places-more hs h.kept ks place found.0 k found.1)
    (run_stop ops (inputs ++ (ks ++ found.0 ∷ [])) h.tail (Input n)
    (wider_kept ops inputs ks found.0 n h.tail all s.tail ∙ t))

halved : {A : Type 0} (ops : Ops A) (stays : ℕ) (inputs : List A) (steps : List Step) (h : Parts)
    → length inputs ≡ h.inputs → AreParts stays steps h → Halved ops stays inputs steps h
halved ops stays inputs _ _ count (begun n) =
    whole [] [] [] [] refl refl refl refl (λ i j e. absurd (none-some (Some j) e))
    (λ i j e. absurd (none-some (Some j) e))
halved ops stays inputs _ _ count (in_the_head steps h step moved before parts fits m) =
    head_more ops stays inputs steps h step moved (sound stays steps h parts) m
    (halved ops stays inputs steps h count parts)
halved ops stays inputs _ _ count (in_the_tail steps h step moved before parts fits m) =
    tail_more ops stays inputs steps h step moved count (sound stays steps h parts) m
    (halved ops stays inputs steps h count parts)
halved ops stays inputs _ _ count (kept_too steps h at place parts is) =
    kept_more ops stays inputs steps h at place count (sound stays steps h parts) is
    (halved ops stays inputs steps h count parts)

value_by : {A : Type 0} (ops : Ops A) (stays : ℕ) (inputs : List A) (list : StepList) (h : Parts)
    (outs : List ℕ)
    → AreMoved h.in_tail list.outs outs → Halved ops stays inputs list.steps h
    → value_in ops list inputs
    ≡ option_and_then (λ kept. value_in ops
    (record { steps = h.tail; outs = outs; inputs = h.inputs + length h.kept }) (inputs ++ kept))
    (value_in ops (record { steps = h.head; outs = h.kept; inputs = stays }) (take stays inputs))
value_by ops stays inputs list h outs m (whole vs hs ks ts v a k t st sk) =
    rw (v, a, k, t) (moved_places vs ts h.in_tail list.outs outs sk m)
value_by ops stays inputs list h outs m (no_head v a) = rw (v, a) refl
value_by ops stays inputs list h outs m (no_tail hs ks v a k t) = rw (v, a, k, t) refl

-- the law of the cut, in any operations
pub cut_law : {A : Type 0} (ops : Ops A) (stays : ℕ) (inputs : List A) (list : StepList) (h : Parts)
    (outs : List ℕ)
    → AreParts stays list.steps h → AreMoved h.in_tail list.outs outs → length inputs ≡ h.inputs
    → value_in ops list inputs
    ≡ option_and_then (λ kept. value_in ops
    (record { steps = h.tail; outs = outs; inputs = h.inputs + length h.kept }) (inputs ++ kept))
    (value_in ops (record { steps = h.head; outs = h.kept; inputs = stays }) (take stays inputs))
cut_law ops stays inputs list h outs parts m count =
    value_by ops stays inputs list h outs m (halved ops stays inputs list.steps h count parts)
