-- The distortion at prepared cells: the joint list's inputs are the results of the design list and
-- then those of the cell list.
use Rattle.std.proofs.Common.{◌≡◌, ℕ, ◌<◌, length, get_or, map, take, List, ◌∷◌, ◌++◌, ℤ, refl, sym}
use Rattle.std.proofs.Common.{ap, ◌∙◌}
use Rattle.std.proofs.lemmas.List.{map-append, map-id, length-map}
use Rattle.std.proofs.lemmas.Option.{slice_get-map, slice_get-get_or}
use Rattle.std.proofs.lemmas.Simd.{map-map}
use Rattle.std.specs.Prelude.{Option, Some, None, option_map, option_and_then, slice_get}
use Rattle.ldp_num.specs.Written.{Ops, written, plain_in, plain_out}
use Rattle.ldp_num.specs.declared.fix.Fix.{Fix}
use Rattle.ldp_num.specs.StepList.{value, value_in, first_result}
use Rattle.ldp_num.proofs.Listed.{plain_value}
use Rattle.ldp_series.specs.declared.list.Lists.{Lists}
use Rattle.ldp_cells.specs.declared.cell.Cell.{Cell}
use Rattle.ldp_distortion.specs.Inputs.{design_inputs, numbers}
use Rattle.ldp_distortion.specs.Distortion.{joined, joined_in, cell_results, distortion}
use Rattle.ldp_distortion.specs.Distortion.{distortion_in, distortions}
use Rattle.ldp_distortion.specs.Prepared.{PreparedCells, prepared, joined_at, distortions_of}
use Rattle.ldp_distortion.specs.declared.inputs.Inputs.{Inputs}
use Rattle.ldp_distortion.proofs.Runs.{meant, first_meant, first_number, back_out}

-- the distortion at one of the cells
at_cell : (lists : Lists) (of_design : Option (List ℤ)) (results : List (Option (List ℤ)))
    (cell : ℕ) (of_cell : Option (List ℤ))
    → slice_get results cell ≡ Some of_cell
    → slice_get (map (joined lists of_design) results) cell ≡ Some (joined lists of_design of_cell)
at_cell lists of_design results cell of_cell h =
    slice_get-map (joined lists of_design) results cell ∙ ap (option_map (joined lists of_design)) h

-- the distortions where the first of the inputs are the results of the design list
abbrev pub from_inputs : PreparedCells → List Fix → List (Option ℤ)
from_inputs p inputs =
    map (joined p.lists (Some (numbers (take (length p.lists.design.outs) inputs)))) p.results

-- they are the same while the results of the design list stay
pub at_kept : (p : PreparedCells) (inputs old : List Fix) (cell : ℕ) (d : Option ℤ)
    → take (length p.lists.design.outs) inputs ≡ take (length p.lists.design.outs) old
    → slice_get (from_inputs p inputs) cell ≡ Some d → slice_get (from_inputs p old) cell ≡ Some d
at_kept p inputs old cell d kept h =
    ap (λ (fs : List Fix). slice_get (map (joined p.lists (Some (numbers fs))) p.results) cell)
    (sym kept) ∙ h

pub count_of : (p : PreparedCells) (inputs : List Fix)
    → length (from_inputs p inputs) ≡ length p.results
count_of p inputs =
    length-map p.results
    (joined p.lists (Some (numbers (take (length p.lists.design.outs) inputs))))

-- in any carrier, where the cell list has no value
pub at_undefined : {A : Type 0} (ops : Ops A) (p : PreparedCells) (of_design : List A) (cell : ℕ)
    → slice_get p.results cell ≡ Some None
    → None ≡ joined_at ops p of_design cell
unfolding joined_in
at_undefined ops p of_design cell h =
    ap (option_and_then (joined_in ops p.lists (Some of_design))) (sym h)

-- where it has one, the inputs of the joint list are the results of both
pub at_joint : {A V : Type 0} (ops : Ops A) (m : V → A) (p : PreparedCells)
    (inputs front of_cell : List V) (outs : List ℕ) (row : List ℤ)
    (cell : ℕ) (d : Option A)
    → outs ≡ p.lists.design.outs → front ≡ take (length outs) inputs
    → slice_get p.results cell ≡ Some (Some row) → map m of_cell ≡ map ops.constant row
    → d ≡ first_result (value_in ops p.lists.joint (map m (front ++ of_cell)))
    → d ≡ joined_at ops p (map m (take (length p.lists.design.outs) inputs)) cell
unfolding joined_in
at_joint {A = A} {V = V} ops m p inputs front of_cell outs row cell d same begin h e first =
    let design : front ≡ take (length p.lists.design.outs) inputs =
    begin ∙ ap (λ (os : List ℕ). take (length os) inputs) same in
    let both : map m (front ++ of_cell) ≡ map m (take (length p.lists.design.outs) inputs)
    ++ map ops.constant row =
    map-append m front of_cell
    ∙ ap (λ (xs : List V). map m xs ++ map m of_cell) design
    ∙ ap (λ (xs : List A). map m (take (length p.lists.design.outs) inputs) ++ xs) e in
    first
    ∙ ap (λ (xs : List A). first_result (value_in ops p.lists.joint xs)) both
    ∙ ap (option_and_then
    (joined_in ops p.lists (Some (map m (take (length p.lists.design.outs) inputs))))) (sym h)

-- over the lists of one number that numbers mean
joined_listed : (lists : Lists) (ns : List ℤ) (of_cell : Option (List ℤ))
    → joined_in (written 0) lists (Some (map plain_out ns)) of_cell
    ≡ option_map plain_out (joined lists (Some ns) of_cell)
unfolding joined_in
joined_listed lists ns None = refl
joined_listed lists ns (Some cell) =
    let all : map plain_out ns ++ map plain_out cell
    ≡ map plain_out (ns ++ map (λ (n : ℤ). n) cell) =
    ap (λ (xs : List ℤ). map plain_out ns ++ map plain_out xs) (sym (map-id cell))
    ∙ sym (map-append plain_out ns (map (λ (n : ℤ). n) cell)) in
    ap (λ ms. first_result (value_in (written 0) lists.joint ms)) all
    ∙ ap first_result (plain_value lists.joint (ns ++ map (λ (n : ℤ). n) cell))
    ∙ first_meant (value lists.joint (ns ++ map (λ (n : ℤ). n) cell))

-- so a run of plain carriers gives the distortion
pub plain_at : (p : PreparedCells) (inputs : List Fix) (cell : ℕ) (found : Option Fix)
    → cell < length p.results
    → option_map (λ (one : Fix). plain_out one.n) found
    ≡ joined_at (written 0) p
    (map (λ (one : Fix). plain_out one.n) (take (length p.lists.design.outs) inputs)) cell
    → slice_get (from_inputs p inputs) cell ≡ Some (option_map (λ (one : Fix). one.n) found)
plain_at p inputs cell found within h =
    let front : List Fix = take (length p.lists.design.outs) inputs in
    let of_cell : Option (List ℤ) = get_or p.results cell None in
    let here : slice_get p.results cell ≡ Some of_cell =
    slice_get-get_or p.results cell None within in
    let told : option_map (λ (one : Fix). plain_out one.n) found
    ≡ option_map plain_out (joined p.lists (Some (numbers front)) of_cell) =
    h
    ∙ ap (option_and_then
    (joined_in (written 0) p.lists (Some (map (λ (one : Fix). plain_out one.n) front)))) here
    ∙ ap (λ ms. joined_in (written 0) p.lists (Some ms) of_cell) (meant front)
    ∙ joined_listed p.lists (numbers front) of_cell in
    at_cell p.lists (Some (numbers front)) p.results cell of_cell here
    ∙ ap Some (sym (sym (first_number found) ∙ ap (option_and_then plain_in) told
    ∙ back_out (joined p.lists (Some (numbers front)) of_cell)))

-- the distortions from what the design list gave
pub with_design : (p : PreparedCells) (at : Inputs) (of_design : Option (List ℤ))
    → value p.lists.design (design_inputs at) ≡ of_design
    → map (joined p.lists of_design) p.results ≡ distortions_of p at
unfolding distortions_of
with_design p at of_design h =
    ap (λ (o : Option (List ℤ)). map (joined p.lists o) p.results) (sym h)

-- where it gave nothing, each of the cells is undefined
pub no_design : (p : PreparedCells) (at : Inputs) (of_cell : Option (List ℤ))
    (more : List (Option (List ℤ)))
    → value p.lists.design (design_inputs at) ≡ None → p.results ≡ of_cell ∷ more
    → distortions_of p at ≡ None ∷ map (joined p.lists None) more
unfolding distortions_of joined_in
no_design p at of_cell more h e = rw (h, e) refl

-- also at any one of them
pub no_delta : (p : PreparedCells) (at : Inputs) (cell : ℕ)
    → value p.lists.design (design_inputs at) ≡ None → cell < length p.results
    → slice_get (distortions_of p at) cell ≡ Some None
unfolding joined_in
no_delta p at cell h within =
    ap (λ (ds : List (Option ℤ)). slice_get ds cell) (sym (with_design p at None h))
    ∙ at_cell p.lists None p.results cell (get_or p.results cell None)
    (slice_get-get_or p.results cell None within)

-- the distortions at the prepared cells are those at the cells
pub prepared_distortions : (lists : Lists) (cells : List Cell) (at : Inputs)
    → distortions_of (prepared lists cells) at ≡ distortions lists at cells
unfolding distortions_of distortion distortion_in
prepared_distortions lists cells at =
    map-map (joined lists (value lists.design (design_inputs at))) (cell_results lists.cell) cells
