-- A station more of a line gets its height.
use Rattle.std.proofs.Common.{◌≡◌, ℕ, ◌+◌, ◌<◌, pos, List, [], ◌∷◌, ◌++◌, length, get_or, drop}
use Rattle.std.proofs.Common.{Result, Ok, All, ap, sym, subst, ◌∙◌}
use Rattle.std.proofs.lemmas.List.{drop_more}
use Rattle.std.proofs.lemmas.List.Elements.{All-push}
use Rattle.ldp_quantity.specs.Results.{◌>>=◌}
use Rattle.ldp_heights.specs.Grid.{HeightGrid}
use Rattle.ldp_alignment.specs.Heights.{height_at}
use Rattle.ldp_alignment.specs.Line.{IsStation, AreForward}
use Rattle.ldp_alignment.specs.Placed.{placed_onto, station_with}
use Rattle.ldp_alignment.specs.declared.station.Station.{Station}
use Rattle.ldp_alignment.specs.declared.place_fault.PlaceFault.{PlaceFault}
use Rattle.ldp_alignment.proofs.Stations.{forward_swap}

-- a station with the grid's height
abbrev with_height : HeightGrid → ℕ → Station → Result Station PlaceFault
with_height grid number station =
    station_with number station (height_at grid station.x station.y)

pub one_placed : (grid : HeightGrid) (done more stations : List Station) (n : ℕ)
    (station next : Station) → n < length stations → length done ≡ n
    → more ≡ done ++ next ∷ []
    → Ok next ≡ with_height grid n (get_or stations n station)
    → placed_onto grid done (drop n stations) ≡ placed_onto grid more (drop (n + 1) stations)
unfolding placed_onto
one_placed grid done more stations n station next h each is found =
    ap (placed_onto grid done) (drop_more stations n station h)
    ∙ ap (λ k. with_height grid k (get_or stations n station)
    >>= λ t. placed_onto grid (done ++ t ∷ []) (drop (n + 1) stations)) each
    ∙ ap (λ r. r >>= λ t. placed_onto grid (done ++ t ∷ []) (drop (n + 1) stations)) (sym found)
    ∙ ap (λ l. placed_onto grid l (drop (n + 1) stations)) (sym is)

pub one_more : (done more : List Station) (next : Station) → more ≡ done ++ next ∷ []
    → All IsStation done → IsStation next → All IsStation more
one_more done more next is kept last =
    subst (λ l. All IsStation l) (sym is) (All-push IsStation done next kept last)

pub one_forward : (done more stations : List Station) (n : ℕ) (station next : Station)
    → n < length stations → more ≡ done ++ next ∷ []
    → next.chainage ≡ (get_or stations n station).chainage
    → AreForward (pos 0) (done ++ drop n stations)
    → AreForward (pos 0) (more ++ drop (n + 1) stations)
one_forward done more stations n station next h is same kept =
    let begun = subst (λ l. AreForward (pos 0) (done ++ l)) (drop_more stations n station h) kept in
    subst (λ l. AreForward (pos 0) (l ++ drop (n + 1) stations)) (sym is)
    (forward_swap (pos 0) done (drop (n + 1) stations) next (get_or stations n station) same begun)
