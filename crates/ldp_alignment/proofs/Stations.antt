-- A station more at the end of a line that goes forward.
use Rattle.std.proofs.Common.{◌≡◌, ◌≤◌, ◌+◌, false, ℤ, pos, ◌≤ℤ◌, List, [], ◌∷◌, ◌++◌, refl}
use Rattle.std.proofs.Common.{length, Option, Some, None, IfSome, arith, ap, sym, ◌∙◌}
use lib.Signed.{lt_z}
use Rattle.std.proofs.lemmas.Int.{ints}
use Rattle.std.proofs.lemmas.List.{length_push}
use Rattle.std.proofs.lemmas.List.Elements.{All-push}
use Rattle.ldp_quantity.specs.Quantity.{IsLongitude, IsLatitude}
use Rattle.ldp_alignment.specs.Line.{AreForward, IsStation, IsChainage}
use Rattle.ldp_alignment.specs.Reading.{Progress, station_read}
use Rattle.ldp_alignment.specs.Seen.{IsProgress, last_of}
use Rattle.ldp_alignment.specs.declared.station.Station.{Station}

pub forward_push : (last : ℤ) (stations : List Station) (station : Station)
    → AreForward last stations → last_of last stations ≤ℤ station.chainage
    → AreForward last (stations ++ station ∷ [])
forward_push last [] station kept more = (more, tt)
forward_push last (next ∷ stations) station kept more =
    (kept.0, forward_push next.chainage stations station kept.1 more)

pub last_push : (last : ℤ) (stations : List Station) (station : Station)
    → last_of last (stations ++ station ∷ []) ≡ station.chainage
last_push last [] station = refl
last_push last (next ∷ stations) station = last_push next.chainage stations station

of_some : (found : Option ℤ) (n : ℤ) (P : ℤ → Type 0) → found ≡ Some n → IfSome found P → P n
of_some found n P e kept = rw e at kept

-- the reader with a station more
pub next_station : (p : Progress) (x y along last : ℤ) (stations : List Station) → IsProgress p
    → p.x ≡ Some x → p.y ≡ Some y → IsChainage along → p.last ≤ℤ along → last ≡ along → stations ≡ p.stations ++ station_read x y along ∷ []
    → IsProgress record { stations = stations; last = last; x = None; y = None }
next_station p x y along last stations kept with_x with_y range more last_is is =
    let room : length p.stations ≤ 99_999 = kept.room (rw with_x refl) in
    let read : IsStation (station_read x y along) = record {
      x = of_some p.x x IsLongitude with_x kept.x;
      y = of_some p.y y IsLatitude with_y kept.y;
      mm = (omega (arith, ints), omega (arith, ints));
      chainage = range;
    } in
    let one : length stations ≡ length p.stations + 1 =
    ap length is ∙ length_push p.stations (station_read x y along) in
    let beyond = rw kept.last at more in
    record {
      few = omega arith;
      room = λ some. absurd cc;
      each = rw is (All-push IsStation p.stations (station_read x y along) kept.each read);
      forward = rw is (forward_push (pos 0) p.stations (station_read x y along) kept.forward beyond);
      last = last_is ∙ rw is (sym (last_push (pos 0) p.stations (station_read x y along)));
      range = rw last_is range;
      x = tt;
      y = tt;
    }

pub not_before : (a b : ℤ) → lt_z a b ≡ false → b ≤ℤ a
not_before a b h = grind (arith, ints)

-- a station for another of the same chainage
pub forward_swap : (last : ℤ) (front rest : List Station) (next station : Station)
    → next.chainage ≡ station.chainage → AreForward last (front ++ station ∷ rest)
    → AreForward last ((front ++ next ∷ []) ++ rest)
forward_swap last [] rest next station same kept =
    (rw same kept.0, rw same kept.1)
forward_swap last (first ∷ front) rest next station same kept =
    (kept.0, forward_swap first.chainage front rest next station same kept.1)
