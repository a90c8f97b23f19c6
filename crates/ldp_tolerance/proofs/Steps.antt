-- One step over values that move, and all steps of a list.
use Rattle.std.proofs.Common.{◌≡◌, ℕ, Bool, true, false, ℤ, ◌≤ℤ◌, List, [], ◌∷◌, ◌++◌}
use Rattle.std.proofs.Common.{inl, inr}
use Rattle.std.proofs.Common.{refl, sym, ap, subst, ◌∙◌, arith}
use Rattle.std.specs.Prelude.{Option, Some, None, option_map, option_and_then, slice_get}
use Rattle.std.specs.Int.Signed.{≤ℤ_refl}
use Rattle.std.proofs.lemmas.Int.{ints}
use Rattle.std.proofs.lemmas.List.{map-append}
use Rattle.std.proofs.lemmas.Option.{slice_get-map, option_and_then_some, same_Some}
use Rattle.ldp_num.specs.declared.step.Step.{Step}
use Rattle.ldp_num.specs.declared.step.Step.TheVariants.{Const, Input, Add, Sub, Mul, Div, Sq, Sqrt}
use Rattle.ldp_num.specs.declared.step.Step.TheVariants.{Need}
use Rattle.ldp_num.specs.Written.{number_ops}
use Rattle.ldp_num.specs.Steps.{at_one, at_two, step_value, results_from, results_of}
use Rattle.ldp_num.specs.StepList.{at_places}
use Rattle.ldp_tolerance.specs.Moves.{either_moves, square_moves, move_ops, LiesBetween, Moving}
use Rattle.ldp_tolerance.specs.Moves.{marks, starts, finishes, middles}
use Rattle.ldp_tolerance.specs.Laws.{AreMiddles, OneMovingValue}
use Rattle.ldp_tolerance.proofs.Ways.{Lands, AlongOne, AlongLeft, AlongRight, add-left, add-right}
use Rattle.ldp_tolerance.proofs.Ways.{sub-left, sub-right, mul-left, mul-right, div-left, div-right}
use Rattle.ldp_tolerance.proofs.Ways.{sqrt-along, need-along}

-- a moving value is there, with this mark and these ends
record Reached (found : Option ℤ) (m : Bool) (l h : ℤ) : Type 0 where
  value : Moving
  is : found ≡ Some value.middle
  moves-is : value.moves ≡ m
  start-is : value.start ≡ l
  finish-is : value.finish ≡ h

same-both : (n p q : ℤ) → LiesBetween n p q → p ≡ q → n ≡ p
same-both n p q (inl b) e = omega (arith, ints, e)
same-both n p q (inr b) e = omega (arith, ints, e)

still-middle : (a : Moving) → a.moves ≡ false → a.middle ≡ a.start
still-middle a e = same-both a.middle a.start a.finish a.between (a.still e)

landed-moves : (o : Option ℤ) (m : Bool) (l h : ℤ) → Lands o l h → (m ≡ false → l ≡ h)
    → Reached o m l h
landed-moves o m l h landed still = record {
  value = record {
    moves = m;
    start = l;
    finish = h;
    middle = landed.value;
    between = landed.between;
    still = still;
  };
  is = landed.is;
  moves-is = refl;
  start-is = refl;
  finish-is = refl;
}

one-value : (o u : Option ℤ) (l h : ℤ) → o ≡ Some l → u ≡ Some h → o ≡ u → l ≡ h
one-value o u l h a b e = same_Some l h (sym a ∙ e ∙ b)

one-moves : (f : ℤ → Option ℤ) → AlongOne f → (a : Moving) (l h : ℤ) → f a.start ≡ Some l
    → f a.finish ≡ Some h → Reached (f a.middle) a.moves l h
one-moves f along a l h e k =
    landed-moves (f a.middle) a.moves l h (along a.middle a.start a.finish l h a.between e k)
    (λ still. one-value (f a.start) (f a.finish) l h e k (ap f (a.still still)))

-- the right operand stays
left-moves : (f : ℤ → ℤ → Option ℤ) → AlongLeft f → (a b : Moving) (m : Bool) (l h : ℤ)
    → b.moves ≡ false → a.moves ≡ m → f a.start b.start ≡ Some l → f a.finish b.finish ≡ Some h
    → Reached (f a.middle b.middle) m l h
left-moves f along a b m l h still moves e k =
    let last : f a.finish b.start ≡ Some h = ap (f a.finish) (b.still still) ∙ k in
    subst (λ (y : ℤ). Reached (f a.middle y) m l h) (sym (still-middle b still))
    (subst (λ (n : Bool). Reached (f a.middle b.start) n l h) moves
    (one-moves (λ x. f x b.start) (along b.start) a l h e last))

-- the left operand stays
right-moves : (f : ℤ → ℤ → Option ℤ) → AlongRight f → (a b : Moving) (m : Bool) (l h : ℤ)
    → a.moves ≡ false → b.moves ≡ m → f a.start b.start ≡ Some l → f a.finish b.finish ≡ Some h
    → Reached (f a.middle b.middle) m l h
right-moves f along a b m l h still moves e k =
    let last : f a.start b.finish ≡ Some h = ap (λ x. f x b.finish) (a.still still) ∙ k in
    subst (λ (x : ℤ). Reached (f x b.middle) m l h) (sym (still-middle a still))
    (subst (λ (n : Bool). Reached (f a.start b.middle) n l h) moves
    (one-moves (f a.start) (along a.start) b l h e last))

rooted : (f : ℤ → Option ℤ) → AlongOne f → (a : Moving) (m : Bool) (l h : ℤ) → Some a.moves ≡ Some m
    → f a.start ≡ Some l → f a.finish ≡ Some h → Reached (f a.middle) m l h
rooted f along a m l h told e k =
    subst (λ (n : Bool). Reached (f a.middle) n l h) (same_Some a.moves m told)
    (one-moves f along a l h e k)

by-marks : (f : ℤ → ℤ → Option ℤ) → AlongLeft f → AlongRight f → (a b : Moving) (x y m : Bool)
    (l h : ℤ) → a.moves ≡ x → b.moves ≡ y → either_moves x y ≡ Some m
    → f a.start b.start ≡ Some l → f a.finish b.finish ≡ Some h
    → Reached (f a.middle b.middle) m l h
by-marks f left right a b true true m l h s t told e k = cc
by-marks f left right a b true false m l h s t told e k =
    left-moves f left a b m l h t (s ∙ same_Some true m told) e k
by-marks f left right a b false true m l h s t told e k =
    right-moves f right a b m l h s (t ∙ same_Some true m told) e k
by-marks f left right a b false false m l h s t told e k =
    left-moves f left a b m l h t (s ∙ same_Some false m told) e k

two-move : (f : ℤ → ℤ → Option ℤ) → AlongLeft f → AlongRight f → (a b : Moving) (m : Bool)
    (l h : ℤ) → either_moves a.moves b.moves ≡ Some m
    → f a.start b.start ≡ Some l → f a.finish b.finish ≡ Some h
    → Reached (f a.middle b.middle) m l h
two-move f left right a b m l h told e k =
    by-marks f left right a b a.moves b.moves m l h refl refl told e k

-- what stays stays under any operation
stays-by : (f : ℤ → Option ℤ) (a : Moving) (x m : Bool) (l h : ℤ) → a.moves ≡ x
    → square_moves x ≡ Some m → f a.start ≡ Some l → f a.finish ≡ Some h
    → Reached (f a.middle) m l h
stays-by f a true m l h s told e k = cc
stays-by f a false m l h s told e k =
    let same : l ≡ h = one-value (f a.start) (f a.finish) l h e k (ap f (a.still s)) in
    landed-moves (f a.middle) m l h
    (record {
      value = l;
      is = ap f (still-middle a s) ∙ e;
      between = inl (≤ℤ_refl l, subst (λ (n : ℤ). l ≤ℤ n) same (≤ℤ_refl l));
    })
    (λ still. same)

picked : (o : Option Moving) (m : Bool) (l h : ℤ)
    → option_map (λ (one : Moving). one.moves) o ≡ Some m
    → option_map (λ (one : Moving). one.start) o ≡ Some l
    → option_map (λ (one : Moving). one.finish) o ≡ Some h
    → Reached (option_map (λ (one : Moving). one.middle) o) m l h
picked None m l h a b c = cc
picked (Some v) m l h a b c = record {
  value = v;
  is = refl;
  moves-is = same_Some v.moves m a;
  start-is = same_Some v.start l b;
  finish-is = same_Some v.finish h c;
}

pick : (values : List Moving) (i : ℕ) (m : Bool) (l h : ℤ) → slice_get (marks values) i ≡ Some m
    → slice_get (starts values) i ≡ Some l → slice_get (finishes values) i ≡ Some h
    → Reached (slice_get (middles values) i) m l h
pick values i m l h a b c =
    rw (slice_get-map (λ (one : Moving). one.middle) values i)
    (picked (slice_get values i) m l h (sym (slice_get-map (λ (one : Moving). one.moves) values i) ∙ a)
    (sym (slice_get-map (λ (one : Moving). one.start) values i) ∙ b)
    (sym (slice_get-map (λ (one : Moving). one.finish) values i) ∙ c))

-- a step of one operand
abbrev TellsOne : (Bool → Option Bool) → (ℤ → Option ℤ) → Type 0
TellsOne t f = (a : Moving) (m : Bool) (l h : ℤ) → t a.moves ≡ Some m → f a.start ≡ Some l
    → f a.finish ≡ Some h → Reached (f a.middle) m l h

-- a step of two operands
abbrev TellsTwo : (Bool → Bool → Option Bool) → (ℤ → ℤ → Option ℤ) → Type 0
TellsTwo t f = (a b : Moving) (m : Bool) (l h : ℤ) → t a.moves b.moves ≡ Some m
    → f a.start b.start ≡ Some l → f a.finish b.finish ≡ Some h
    → Reached (f a.middle b.middle) m l h

one-at : (t : Bool → Option Bool) (f : ℤ → Option ℤ) → TellsOne t f → (done : List Moving) (i : ℕ)
    (m : Bool) (l h : ℤ) → at_one t (marks done) i ≡ Some m → at_one f (starts done) i ≡ Some l
    → at_one f (finishes done) i ≡ Some h → Reached (at_one f (middles done) i) m l h
one-at t f tells done i m l h a b c =
    option_and_then_some t (slice_get (marks done) i) m a (λ x x-is x-told.
    option_and_then_some f (slice_get (starts done) i) l b (λ y y-is y-told.
    option_and_then_some f (slice_get (finishes done) i) h c (λ z z-is z-told.
    let one = pick done i x y z x-is y-is z-is in
    rw one.is (tells one.value m l h (ap t one.moves-is ∙ x-told) (ap f one.start-is ∙ y-told)
    (ap f one.finish-is ∙ z-told)))))

-- the operands of a step that has a result
both-at : {A P : Type 0} (f : A → A → Option A) (done : List A) (i j : ℕ) (t : A)
    → at_two f done i j ≡ Some t
    → ((x y : A) → slice_get done i ≡ Some x → slice_get done j ≡ Some y → f x y ≡ Some t → P) → P
both-at f done i j t e k =
    option_and_then_some (λ x. option_and_then (f x) (slice_get done j)) (slice_get done i) t e
    (λ x is rest. option_and_then_some (f x) (slice_get done j) t rest (λ y also told.
    k x y is also told))

two-at : (t : Bool → Bool → Option Bool) (f : ℤ → ℤ → Option ℤ) → TellsTwo t f
    → (done : List Moving) (i j : ℕ) (m : Bool) (l h : ℤ) → at_two t (marks done) i j ≡ Some m
    → at_two f (starts done) i j ≡ Some l → at_two f (finishes done) i j ≡ Some h
    → Reached (at_two f (middles done) i j) m l h
two-at t f tells done i j m l h a b c =
    both-at t (marks done) i j m a (λ x x1 x-is x1-is x-told.
    both-at f (starts done) i j l b (λ y y1 y-is y1-is y-told.
    both-at f (finishes done) i j h c (λ z z1 z-is z1-is z-told.
    let one = pick done i x y z x-is y-is z-is in
    let more = pick done j x1 y1 z1 x1-is y1-is z1-is in
    rw (one.is, more.is)
    (tells one.value more.value m l h (rw (one.moves-is, more.moves-is) x-told)
    (rw (one.start-is, more.start-is) y-told) (rw (one.finish-is, more.finish-is) z-told)))))

-- a step
step-along : (inputs done : List Moving) (step : Step) (m : Bool) (l h : ℤ)
    → step_value move_ops (marks inputs) (marks done) step ≡ Some m
    → step_value number_ops (starts inputs) (starts done) step ≡ Some l
    → step_value number_ops (finishes inputs) (finishes done) step ≡ Some h
    → Reached (step_value number_ops (middles inputs) (middles done) step) m l h
step-along inputs done (Const v) m l h a b c = record {
  value = record {
    moves = false;
    start = v;
    finish = v;
    middle = v;
    between = inl (≤ℤ_refl v, ≤ℤ_refl v);
    still = λ still. refl;
  };
  is = refl;
  moves-is = same_Some false m a;
  start-is = same_Some v l b;
  finish-is = same_Some v h c;
}
step-along inputs done (Input i) m l h a b c = pick inputs i m l h a b c
step-along inputs done (Add i j) m l h a b c =
    two-at either_moves number_ops.add (two-move number_ops.add add-left add-right) done i j m l h a b c
step-along inputs done (Sub i j) m l h a b c =
    two-at either_moves number_ops.sub (two-move number_ops.sub sub-left sub-right) done i j m l h a b c
step-along inputs done (Mul i j) m l h a b c =
    two-at either_moves number_ops.mul (two-move number_ops.mul mul-left mul-right) done i j m l h a b c
step-along inputs done (Div i j) m l h a b c =
    two-at either_moves number_ops.div (two-move number_ops.div div-left div-right) done i j m l h a b c
step-along inputs done (Sq i) m l h a b c =
    one-at square_moves number_ops.sq (λ v n p q e. stays-by number_ops.sq v v.moves n p q refl e)
    done i m l h a b c
step-along inputs done (Sqrt i) m l h a b c =
    one-at (λ moves. Some moves) number_ops.sqrt (rooted number_ops.sqrt sqrt-along) done i m l h a b c
step-along inputs done (Need i) m l h a b c =
    one-at (λ moves. Some moves) number_ops.need (rooted number_ops.need need-along) done i m l h a b c

-- all steps after those done
steps-along : (steps : List Step) (inputs done : List Moving) (ms : List Bool) (ls hs : List ℤ)
    → results_from move_ops (marks inputs) (marks done) steps ≡ Some ms
    → results_from number_ops (starts inputs) (starts done) steps ≡ Some ls
    → results_from number_ops (finishes inputs) (finishes done) steps ≡ Some hs
    → AreMiddles (results_from number_ops (middles inputs) (middles done) steps) ms ls hs
steps-along [] inputs done ms ls hs a b c = record {
  values = done;
  is = refl;
  moves_are = same_Some (marks done) ms a;
  starts_are = same_Some (starts done) ls b;
  finishes_are = same_Some (finishes done) hs c;
}
steps-along (step ∷ steps) inputs done ms ls hs a b c =
    option_and_then_some (λ v. results_from move_ops (marks inputs) (marks done ++ v ∷ []) steps)
    (step_value move_ops (marks inputs) (marks done) step) ms a (λ m m-is m-rest.
    option_and_then_some
    (λ v. results_from number_ops (starts inputs) (starts done ++ v ∷ []) steps)
    (step_value number_ops (starts inputs) (starts done) step) ls b (λ l l-is l-rest.
    option_and_then_some
    (λ v. results_from number_ops (finishes inputs) (finishes done ++ v ∷ []) steps)
    (step_value number_ops (finishes inputs) (finishes done) step) hs c (λ h h-is h-rest.
    let next = step-along inputs done step m l h m-is l-is h-is in
    let one = next.value ∷ [] in
    let more = steps-along steps inputs (done ++ one) ms ls hs
    (rw (map-append (λ (v : Moving). v.moves) done one, next.moves-is) m-rest)
    (rw (map-append (λ (v : Moving). v.start) done one, next.start-is) l-rest)
    (rw (map-append (λ (v : Moving). v.finish) done one, next.finish-is) h-rest) in
    rw next.is (subst (λ xs. AreMiddles (results_from number_ops (middles inputs) xs steps) ms ls hs)
    (map-append (λ (v : Moving). v.middle) done one) more))))

-- the results at some places
mapped-some : {A B P : Type 0} (f : A → B) (o : Option A) (y : B) → option_map f o ≡ Some y
    → ((x : A) → o ≡ Some x → f x ≡ y → P) → P
mapped-some f None y e k = cc
mapped-some f (Some x) y e k = k x refl (same_Some (f x) y e)

pub first-and-rest : {A P : Type 0} (xs : List A) (place : ℕ) (places : List ℕ) (found : List A)
    → at_places xs (place ∷ places) ≡ Some found
    → ((v : A) (vs : List A) → slice_get xs place ≡ Some v → at_places xs places ≡ Some vs
    → v ∷ vs ≡ found → P) → P
first-and-rest xs place places found e k =
    option_and_then_some (λ v. option_map (λ vs. v ∷ vs) (at_places xs places))
    (slice_get xs place) found e (λ v is more.
    mapped-some (λ vs. v ∷ vs) (at_places xs places) found more (λ vs are whole.
    k v vs is are whole))

places-along : (values : List Moving) (places : List ℕ) (ms : List Bool) (ls hs : List ℤ)
    → at_places (marks values) places ≡ Some ms → at_places (starts values) places ≡ Some ls
    → at_places (finishes values) places ≡ Some hs
    → AreMiddles (at_places (middles values) places) ms ls hs
places-along values [] ms ls hs a b c = record {
  values = [];
  is = refl;
  moves_are = same_Some [] ms a;
  starts_are = same_Some [] ls b;
  finishes_are = same_Some [] hs c;
}
places-along values (place ∷ places) ms ls hs a b c =
    first-and-rest (marks values) place places ms a (λ m ms1 m-is ms-are m-whole.
    first-and-rest (starts values) place places ls b (λ l ls1 l-is ls-are l-whole.
    first-and-rest (finishes values) place places hs c (λ h hs1 h-is hs-are h-whole.
    let one = pick values place m l h m-is l-is h-is in
    let more = places-along values places ms1 ls1 hs1 ms-are ls-are hs-are in
    rw (one.is, more.is)
    (record {
      values = one.value ∷ more.values;
      is = refl;
      moves_are = rw (one.moves-is, more.moves_are) m-whole;
      starts_are = rw (one.start-is, more.starts_are) l-whole;
      finishes_are = rw (one.finish-is, more.finishes_are) h-whole;
    }))))

-- the value of a list
pub one-moving-value : OneMovingValue
one-moving-value list inputs moves start finish a b c =
    option_and_then_some (λ results. at_places results list.outs)
    (results_of move_ops (marks inputs) list.steps) moves a (λ ms m-is m-at.
    option_and_then_some (λ results. at_places results list.outs)
    (results_of number_ops (starts inputs) list.steps) start b (λ ls l-is l-at.
    option_and_then_some (λ results. at_places results list.outs)
    (results_of number_ops (finishes inputs) list.steps) finish c (λ hs h-is h-at.
    let all = steps-along list.steps inputs [] ms ls hs m-is l-is h-is in
    rw all.is (places-along all.values list.outs moves start finish
    (rw all.moves_are m-at) (rw all.starts_are l-at) (rw all.finishes_are h-at)))))
