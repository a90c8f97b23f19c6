use Rattle.std.proofs.Common.{◌≡◌, [], ◌∷◌, ◌++◌, codes, ℤ, List, ℕ, to_z, of_z, ap, ◌∙◌, lit≤}
use Rattle.std.proofs.Common.{arith}
use Rattle.std.specs.Int.{w128}
use Rattle.std.proofs.lemmas.Int.{ints}
use Rattle.ldp_decimal.specs.Writing.{trimmed_text}
use Rattle.ldp_spelling.specs.Texts.{line_text}
use Rattle.ldp_job.proofs.Plain.{abs_below}
use Rattle.ldp_job.proofs.Pushes.{five, on_ok, held}
use Rattle.ldp_job.proofs.write.push_projection.Goals as goal

-- the line of a number that is held
line_held : (t1 t2 : List ℕ) (name : List ℕ) (places : ℕ) (y z : ℤ) → y ≡ z
    → t2 ≡ t1 ++ line_text (name ∷ trimmed_text places y ∷ [])
    → t2 ≡ t1 ++ line_text (name ∷ trimmed_text places z ∷ [])
line_held t1 t2 name places y z e h = h
    ∙ ap (λ x. t1 ++ line_text (name ∷ trimmed_text places x ∷ [])) e

pub returns : goal.returns
returns c =
    let r = c.args.report.now in
    let lat : to_z w128 (of_z w128 r.lat) ≡ r.lat =
    held r.lat
    (abs_below 80000000000000 80000000000000 r.lat c.requires.lat (lit≤ tt) (lit≤ tt)) in
    let lon : to_z w128 (of_z w128 r.lon) ≡ r.lon =
    held r.lon
    (abs_below 180000000000000 360000000000000 r.lon c.requires.lon (lit≤ tt) (lit≤ tt)) in
    let azimuth : to_z w128 (of_z w128 r.azimuth) ≡ r.azimuth =
    held r.azimuth
    (abs_below 85000000000000 85000000000000 r.azimuth c.requires.azimuth (lit≤ tt)
    (lit≤ tt)) in
    let scale : to_z w128 (of_z w128 r.scale) ≡ r.scale =
    held r.scale (omega (arith, ints, c.requires.scale.0, c.requires.scale.1)) in
    let t0 : List ℕ = c.args.text.now in
    let t1 : List ℕ = c.push_kind.new.text in
    let t2 : List ℕ = c.push_trimmed.new.text in
    let t3 : List ℕ = c.push_trimmed-2.new.text in
    let t4 : List ℕ = c.push_trimmed-3.new.text in
    let t5 : List ℕ = c.push_trimmed-4.new.text in
    on_ok c.push_trimmed-4.result _ _
    (λ h. five t0 t1 t2 t3 t4 t5 _ _ _ _ _ c.in_ok-push_kind.ensures
    (line_held t1 t2 (codes "lat") 12 _ r.lat lat c.in_ok-push_trimmed.ensures)
    (line_held t2 t3 (codes "lon") 12 _ r.lon lon c.in_ok-push_trimmed-2.ensures)
    (line_held t3 t4 (codes "azimuth") 12 _ r.azimuth azimuth c.in_ok-push_trimmed-3.ensures)
    (line_held t4 t5 (codes "k0") 15 _ r.scale scale h))
    c.push_trimmed-4.ensures
