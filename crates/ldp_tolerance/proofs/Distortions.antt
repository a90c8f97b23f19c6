-- A distortion at a height between two others lies between those at both.
use Rattle.std.proofs.Common.{◌≡◌, ℕ, Bool, true, false, ℤ, List, [], ◌∷◌, ◌++◌, map}
use Rattle.std.proofs.Common.{inl, refl, sym, ap, ◌∙◌}
use Rattle.std.specs.Prelude.{Option, Some, None, IsSome, option_map, option_and_then, slice_get}
use Rattle.std.specs.Int.Signed.{≤ℤ_refl}
use Rattle.std.proofs.lemmas.List.{map-append, map-id}
use Rattle.std.proofs.lemmas.Option.{slice_get-map, option_and_then_some, same_Some}
use Rattle.ldp_num.specs.Written.{number_ops}
use Rattle.ldp_num.specs.Steps.{results_of}
use Rattle.ldp_num.specs.StepList.{StepList, value, at_places, first_result}
use Rattle.ldp_series.specs.declared.list.Lists.{Lists}
use Rattle.ldp_distortion.specs.Distortion.{joined, joined_in}
use Rattle.ldp_tolerance.specs.Moves.{moves_in, LiesBetween, Moving}
use Rattle.ldp_tolerance.specs.Moves.{marks, starts, finishes, middles}
use Rattle.ldp_tolerance.specs.Heights.{cell_moves, joint_moves, MoveOnce}
use Rattle.ldp_tolerance.specs.Laws.{AreMiddles}
use Rattle.ldp_tolerance.proofs.Ways.{Lands}
use Rattle.ldp_tolerance.proofs.Steps.{first-and-rest, one-moving-value}

pub some-of : {A P : Type 0} (o : Option A) → IsSome o → ((v : A) → o ≡ Some v → P) → P
some-of None h k = absurd (cc)
some-of (Some v) h k = k v refl

-- what the lists tell of the height
told : {P : Type 0} (lists : Lists) → MoveOnce lists
    → ((cell joint : List Bool) → cell_moves lists ≡ Some cell
    → joint_moves lists cell ≡ Some joint → P) → P
unfolding MoveOnce
told lists once k =
    some-of (option_and_then (joint_moves lists) (cell_moves lists)) once (λ joint is.
    option_and_then_some (joint_moves lists) (cell_moves lists) joint is (λ cell c-is j-is.
    k cell joint c-is j-is))

-- the runs of a distortion that is defined
runs : {P : Type 0} (lists : Lists) (of_design of_cell : Option (List ℤ)) (a : ℤ)
    → joined lists of_design of_cell ≡ Some a
    → ((ds cs rs : List ℤ) → of_design ≡ Some ds → of_cell ≡ Some cs
    → value lists.joint (ds ++ cs) ≡ Some rs → slice_get rs 0 ≡ Some a → P) → P
unfolding joined_in
runs lists of_design of_cell a e k =
    option_and_then_some (λ ds. option_and_then (λ cs.
    first_result (value lists.joint (ds ++ map number_ops.constant cs))) of_cell) of_design a e
    (λ ds d-is rest.
    option_and_then_some (λ cs. first_result (value lists.joint (ds ++ map number_ops.constant cs)))
    of_cell a rest (λ cs c-is more.
    option_and_then_some (λ values. slice_get values 0)
    (value lists.joint (ds ++ map number_ops.constant cs)) a more (λ rs r-is first.
    k ds cs rs d-is c-is (ap (λ xs. value lists.joint (ds ++ xs)) (sym (map-id cs)) ∙ r-is) first)))

joined-is : (lists : Lists) (ds cs rs : List ℤ) → value lists.joint (ds ++ cs) ≡ Some rs
    → joined lists (Some ds) (Some cs) ≡ slice_get rs 0
unfolding joined_in
joined-is lists ds cs rs e =
    ap first_result (ap (λ xs. value lists.joint (ds ++ xs)) (map-id cs) ∙ e)

-- a value that stays
abbrev still : ℤ → Moving
still v = record {
  moves = false;
  start = v;
  finish = v;
  middle = v;
  between = inl (≤ℤ_refl v, ≤ℤ_refl v);
  still = λ stays. refl;
}

-- a value that moves
abbrev moved : (m l h : ℤ) → LiesBetween m l h → Moving
moved m l h b = record {
  moves = true;
  start = l;
  finish = h;
  middle = m;
  between = b;
  still = λ stays. cc;
}

starts-still : (ds : List ℤ) → starts (map still ds) ≡ ds
starts-still [] = refl
starts-still (d ∷ ds) = ap (λ more. d ∷ more) (starts-still ds)

finishes-still : (ds : List ℤ) → finishes (map still ds) ≡ ds
finishes-still [] = refl
finishes-still (d ∷ ds) = ap (λ more. d ∷ more) (finishes-still ds)

middles-still : (ds : List ℤ) → middles (map still ds) ≡ ds
middles-still [] = refl
middles-still (d ∷ ds) = ap (λ more. d ∷ more) (middles-still ds)

-- the results of a list have one mark for each of their places
marks-places : (results ds : List ℤ) (outs : List ℕ) → at_places results outs ≡ Some ds
    → marks (map still ds) ≡ map (λ place. false) outs
marks-places results ds [] e = rw (sym (same_Some [] ds e)) refl
marks-places results ds (place ∷ outs) e =
    first-and-rest results place outs ds e (λ v vs is are whole.
    rw (sym whole) (ap (λ ms. false ∷ ms) (marks-places results vs outs are)))

marks-still : (list : StepList) (inputs ds : List ℤ) → value list inputs ≡ Some ds
    → marks (map still ds) ≡ map (λ place. false) list.outs
marks-still list inputs ds e =
    option_and_then_some (λ results. at_places results list.outs)
    (results_of number_ops inputs list.steps) ds e (λ results r-is found.
    marks-places results ds list.outs found)

chosen : (o : Option Moving) (a b : ℤ) → option_map (λ (one : Moving). one.start) o ≡ Some a
    → option_map (λ (one : Moving). one.finish) o ≡ Some b
    → Lands (option_map (λ (one : Moving). one.middle) o) a b
chosen None a b e k = cc
chosen (Some v) a b e k = record {
  value = v.middle;
  is = refl;
  between = rw (sym (same_Some v.start a e), sym (same_Some v.finish b k)) v.between;
}

chosen-at : (values : List Moving) (i : ℕ) (a b : ℤ) → slice_get (starts values) i ≡ Some a
    → slice_get (finishes values) i ≡ Some b → Lands (slice_get (middles values) i) a b
chosen-at values i a b e k =
    rw (slice_get-map (λ (one : Moving). one.middle) values i)
    (chosen (slice_get values i) a b
    (sym (slice_get-map (λ (one : Moving). one.start) values i) ∙ e)
    (sym (slice_get-map (λ (one : Moving). one.finish) values i) ∙ k))

-- the cell list, at the height between
cell-middles : (lists : Lists) (cell : List Bool) → cell_moves lists ≡ Some cell
    → (y x m l h : ℤ) (cl ch : List ℤ) → LiesBetween m l h
    → value lists.cell (y ∷ x ∷ l ∷ []) ≡ Some cl → value lists.cell (y ∷ x ∷ h ∷ []) ≡ Some ch
    → AreMiddles (value lists.cell (y ∷ x ∷ m ∷ [])) cell cl ch
cell-middles lists cell tells y x m l h cl ch b e k =
    one-moving-value lists.cell (still y ∷ still x ∷ moved m l h b ∷ []) cell cl ch tells e k

-- the joint list, over what stays and what moves
joint-middles : (lists : Lists) (cell joint : List Bool) → joint_moves lists cell ≡ Some joint
    → (inputs ds : List ℤ) → value lists.design inputs ≡ Some ds
    → (values : List Moving) (cl ch rl rh : List ℤ) → marks values ≡ cell → starts values ≡ cl
    → finishes values ≡ ch → value lists.joint (ds ++ cl) ≡ Some rl
    → value lists.joint (ds ++ ch) ≡ Some rh
    → AreMiddles (value lists.joint (ds ++ middles values)) joint rl rh
joint-middles lists cell joint tells inputs ds d-is values cl ch rl rh ms ss fs e k =
    let all = map still ds ++ values in
    let at_marks : marks all ≡ map (λ place. false) lists.design.outs ++ cell =
    rw (
      map-append (λ (v : Moving). v.moves) (map still ds) values,
      marks-still lists.design inputs ds d-is,
      ms,
    ) refl in
    let at_starts : starts all ≡ ds ++ cl =
    rw (map-append (λ (v : Moving). v.start) (map still ds) values, starts-still ds, ss) refl in
    let at_finishes : finishes all ≡ ds ++ ch =
    rw (map-append (λ (v : Moving). v.finish) (map still ds) values, finishes-still ds, fs) refl in
    let at_middles : middles all ≡ ds ++ middles values =
    rw (map-append (λ (v : Moving). v.middle) (map still ds) values, middles-still ds) refl in
    rw (sym at_middles)
    (one-moving-value lists.joint all joint rl rh (ap (moves_in lists.joint) at_marks ∙ tells)
    (ap (value lists.joint) at_starts ∙ e) (ap (value lists.joint) at_finishes ∙ k))

first-between : (found : Option (List ℤ)) (moves : List Bool) (rl rh : List ℤ) (a b : ℤ)
    → AreMiddles found moves rl rh → slice_get rl 0 ≡ Some a → slice_get rh 0 ≡ Some b
    → Lands (first_result found) a b
first-between found moves rl rh a b all e k =
    rw all.is
    (chosen-at all.values 0 a b (ap (λ xs. slice_get xs 0) all.starts_are ∙ e)
    (ap (λ xs. slice_get xs 0) all.finishes_are ∙ k))

joined-first : (lists : Lists) (ds cs : List ℤ)
    → joined lists (Some ds) (Some cs) ≡ first_result (value lists.joint (ds ++ cs))
unfolding joined_in
joined-first lists ds cs = ap (λ xs. first_result (value lists.joint (ds ++ xs))) (map-id cs)

pub joined-between : (lists : Lists) → MoveOnce lists → (inputs : List ℤ) (y x m l h a b : ℤ)
    → LiesBetween m l h
    → joined lists (value lists.design inputs) (value lists.cell (y ∷ x ∷ l ∷ [])) ≡ Some a
    → joined lists (value lists.design inputs) (value lists.cell (y ∷ x ∷ h ∷ [])) ≡ Some b
    → Lands (joined lists (value lists.design inputs) (value lists.cell (y ∷ x ∷ m ∷ []))) a b
joined-between lists once inputs y x m l h a b between e k =
    told lists once (λ cell joint c-tells j-tells.
    runs lists (value lists.design inputs) (value lists.cell (y ∷ x ∷ l ∷ [])) a e
    (λ ds cl rl d-is cl-is rl-is a-is.
    runs lists (value lists.design inputs) (value lists.cell (y ∷ x ∷ h ∷ [])) b k
    (λ ds1 ch rh d1-is ch-is rh-is b-is.
    let same : ds1 ≡ ds = same_Some ds1 ds (sym d1-is ∙ d-is) in
    let last : value lists.joint (ds ++ ch) ≡ Some rh =
    ap (λ xs. value lists.joint (xs ++ ch)) (sym same) ∙ rh-is in
    let cells = cell-middles lists cell c-tells y x m l h cl ch between cl-is ch-is in
    let all = joint-middles lists cell joint j-tells inputs ds d-is cells.values cl ch rl rh
    cells.moves_are cells.starts_are cells.finishes_are rl-is last in
    rw (d-is, cells.is, joined-first lists ds (middles cells.values))
    (first-between (value lists.joint (ds ++ middles cells.values)) joint rl rh a b all a-is b-is))))
