-- From each spot of a list of polygons, rings or points the reader reads what the grammar's phrases
-- still have to read there: with no token left, and with one token more.
use Rattle.std.proofs.Common.{◌≡◌, ℕ, zero, suc, ◌+◌, ◌≤◌, Bool, true, false, ℤ, List, [], ◌∷◌}
use Rattle.std.proofs.Common.{◌++◌, length, nat_lt, Result, Ok, Err, refl, ap, arith, length-append}
use Rattle.std.specs.Prelude.{codes}
use Rattle.ldp_tokens.specs.Tokens.{Token}
use Rattle.ldp_zone.specs.Signs.{is_word, is_open, is_close, is_comma, is_run}
use Rattle.ldp_quantity.specs.Results.{◌>>=◌}
use Rattle.ldp_zone.specs.Coordinates.{latitude, height}
use Rattle.ldp_zone.specs.Area.{point_count}
use Rattle.ldp_zone.specs.Grammar.{entries, longitude_behind, point, is_closed, with_ring}
use Rattle.ldp_zone.specs.Steps as steps
use Rattle.ldp_zone.proofs.TokensLeft.{rings_from}
use Rattle.ldp_zone.specs.declared.point.Point.{Point}
use Rattle.ldp_zone.specs.declared.spot.Spot.{Spot}
use Rattle.ldp_zone.specs.declared.spot.Spot.TheVariants as spots
use Rattle.ldp_zone.specs.declared.fault.ZoneFault.{ZoneFault}
use Rattle.ldp_zone.proofs.Phrases.{Rings, with_points, reader_at, AtPolygon, AtPolygonEnd, AtRing}
use Rattle.ldp_zone.proofs.Phrases.{AtRingEnd, AtFirst, AtSecond, AtThird, AtPointEnd, Resumes}
use Rattle.ldp_zone.proofs.Phrases.{fault, at_end, more_points}

-- No token is left.
module _ (end : ℕ) where
  no_polygon : AtPolygon end []
  unfolding rings_from steps.finished
  no_polygon rings x count zero same la = refl
  no_polygon rings x count (suc a) same la = refl

  no_polygon_end : AtPolygonEnd end []
  unfolding rings_from steps.finished
  no_polygon_end rings x count a same la = refl

  no_ring : AtRing end []
  unfolding rings_from steps.finished
  no_ring multi rings x count a zero same la lb = fault end multi a _
  no_ring multi rings x count a (suc b) same la lb = fault end multi a _

  no_ring_end : AtRingEnd end []
  unfolding rings_from steps.finished
  no_ring_end multi rings x count a b same la lb = fault end multi a _

  no_first : AtFirst end []
  unfolding rings_from steps.finished
  no_first multi rings points x count a b zero same la lb lc = fault end multi a _
  no_first multi rings points x count a b (suc c) same la lb lc = fault end multi a _

  no_second : AtSecond end []
  unfolding rings_from steps.finished
  no_second multi rings points x count a b c same la lb lc = fault end multi a _

  no_third : AtThird end []
  unfolding rings_from steps.finished
  no_third multi rings points x count a b c same la lb lc = fault end multi a _

  no_point_end : AtPointEnd end []
  unfolding rings_from steps.finished
  no_point_end multi rings points x count a b c same la lb lc = fault end multi a _

  none_left : Resumes end []
  none_left = record {
    polygon = no_polygon;
    polygon_end = no_polygon_end;
    ring = no_ring;
    ring_end = no_ring_end;
    first = no_first;
    second = no_second;
    third = no_third;
    point_end = no_point_end;
  }

-- One token, and the rest.
module _ (end : ℕ) (token : Token) (rest : List Token) (go : Resumes end rest) where
  polygon_end_by : (comma close : Bool) → is_comma token ≡ comma → is_close token ≡ close
      → AtPolygonEnd end (token ∷ rest)
  unfolding rings_from steps.step steps.polygon_end
  polygon_end_by true close e f rings x count a same la =
      rw e (go.polygon rings x count a same (omega arith))
  polygon_end_by false true e f rings x count a same la =
      rw (e, f) (at_end end true rings [] x count rest)
  polygon_end_by false false e f rings x count a same la = rw (e, f) refl

  ring_end_by : (comma close : Bool) → is_comma token ≡ comma → is_close token ≡ close
      → AtRingEnd end (token ∷ rest)
  unfolding rings_from steps.step steps.ring_end
  ring_end_by true close e f multi rings x count a b same la lb =
      rw e (go.ring multi rings x count a b same (omega arith) (omega arith))
  ring_end_by false true e f true rings x count a b same la lb =
      rw (e, f) (go.polygon_end rings x count a same (omega arith))
  ring_end_by false true e f false rings x count a b same la lb =
      rw (e, f) (at_end end false rings [] x count rest)
  ring_end_by false false e f multi rings x count a b same la lb = rw (e, f) (fault end multi a _)

  polygon_by : (empty opened : Bool) → is_word token (codes "EMPTY") ≡ empty
      → is_open token ≡ opened
      → AtPolygon end (token ∷ rest)
  unfolding rings_from steps.step steps.polygon steps.opened
  polygon_by empty opened e f rings x count zero same la = absurd (omega arith)
  polygon_by true opened e f rings x count (suc a) same la =
      rw e (go.polygon_end rings x count a same (omega arith))
  polygon_by false true e f rings x count (suc a) same la =
      rw (e, f) (go.ring true rings x count a (length rest) same (omega arith) (omega arith))
  polygon_by false false e f rings x count (suc a) same la = rw (e, f) refl

  ring_by : (opened : Bool) → is_open token ≡ opened → AtRing end (token ∷ rest)
  unfolding rings_from steps.step steps.opened
  ring_by opened e multi rings x count a zero same la lb = absurd (omega arith)
  ring_by true e multi rings x count a (suc b) same la lb =
      rw e (go.first multi rings [] x count a b (length rest) (omega arith) (omega arith)
      (omega arith) (omega arith))
  ring_by false e multi rings x count a (suc b) same la lb = rw e (fault end multi a _)

  -- the `)` of a ring, at the end of its points
  closing : (spot : Spot) (multi : Bool) (rings : Rings) (points : List Point) (x : ℤ)
      (count a b : ℕ) (few closed : Bool)
      → nat_lt (length points) 4 ≡ few → is_closed points ≡ closed
      → count ≡ point_count rings + length points → length rest ≤ a → length rest ≤ b
      → (steps.ring_whole (reader_at spot multi rings points x count)
      >>= λ next. rings_from end next rest)
      ≡ with_points end multi a b rings (Ok record { value = points; rest = rest })
  unfolding steps.ring_whole with_ring
  closing spot multi rings points x count a b true closed f g same la lb =
      rw f (fault end multi a _)
  closing spot multi rings points x count a b false false f g same la lb =
      rw (f, g) (fault end multi a _)
  closing spot multi rings points x count a b false true f g same la lb =
      rw (f, g) (go.ring_end multi (rings ++ points ∷ []) x count a b
      (omega (arith, more_points rings points)) la lb)

  point_end_by : (comma close : Bool) → is_comma token ≡ comma → is_close token ≡ close
      → AtPointEnd end (token ∷ rest)
  unfolding rings_from steps.step steps.point_end
  point_end_by true close e f multi rings points x count a b c same la lb lc =
      rw e (go.first multi rings points x count a b c same (omega arith) (omega arith)
      (omega arith))
  point_end_by false true e f multi rings points x count a b c same la lb lc =
      rw (e, f) (closing spots.PointEnd multi rings points x count a b _ _ refl refl (omega arith)
      (omega arith) (omega arith))
  point_end_by false false e f multi rings points x count a b c same la lb lc =
      rw (e, f) (fault end multi a _)

  -- behind the second number, where no third one stands
  no_third_by : (comma close : Bool) → is_run token ≡ false → is_comma token ≡ comma
      → is_close token ≡ close
      → AtThird end (token ∷ rest)
  unfolding rings_from steps.step steps.third steps.point_end
  no_third_by true close r e f multi rings points x count a b c same la lb lc =
      rw (r, e) (go.first multi rings points x count a b c same (omega arith) (omega arith)
      (omega arith))
  no_third_by false true r e f multi rings points x count a b c same la lb lc =
      rw (r, e, f) (closing spots.Third multi rings points x count a b _ _ refl refl (omega arith)
      (omega arith) (omega arith))
  no_third_by false false r e f multi rings points x count a b c same la lb lc =
      rw (r, e, f) (fault end multi a _)

  third_by : (run : Bool) (read : Result (Unit {0}) ZoneFault) → is_run token ≡ run
      → height token ≡ read
      → AtThird end (token ∷ rest)
  unfolding rings_from steps.step steps.third steps.dropped
  third_by true (Ok dropped) e f multi rings points x count a b c same la lb lc =
      rw (e, f) (go.point_end multi rings points x count a b c same (omega arith) (omega arith)
      (omega arith))
  third_by true (Err what) e f multi rings points x count a b c same la lb lc =
      rw (e, f) (fault end multi a what)
  third_by false read e f multi rings points x count a b c same la lb lc =
      no_third_by _ _ e refl refl multi rings points x count a b c same la lb lc

  second_by : (run : Bool) (read : Result ℤ ZoneFault) → is_run token ≡ run → latitude token ≡ read
      → AtSecond end (token ∷ rest)
  unfolding rings_from steps.step steps.second steps.ended
  second_by true (Ok y) e f multi rings points x count a b c same la lb lc =
      rw (e, f) (go.third multi rings (points ++ record { x = x; y = y } ∷ []) x count a b c
      (omega (arith, length-append {A = Point})) (omega arith) (omega arith) (omega arith))
  second_by true (Err what) e f multi rings points x count a b c same la lb lc =
      rw (e, f) (fault end multi a what)
  second_by false read e f multi rings points x count a b c same la lb lc =
      rw e (fault end multi a _)

  -- the first number of a point
  begun : (multi : Bool) (rings : Rings) (points : List Point) (x : ℤ) (count a b c : ℕ)
      (read : Result ℤ ZoneFault)
      → is_run token ≡ true → longitude_behind count token ≡ read
      → longitude_behind (point_count rings + length points) token ≡ read
      → count ≡ point_count rings + length points → length rest ≤ a → length rest ≤ b
      → length rest ≤ c
      → rings_from end (reader_at spots.First multi rings points x count) (token ∷ rest)
      ≡ with_points end multi a b rings
      (entries end (point end rings) (suc c) points (token ∷ rest))
  unfolding rings_from steps.step steps.first steps.begun
  begun multi rings points x count a b c (Ok n) e f g same la lb lc =
      rw (e, f, g) (go.second multi rings points n (count + 1) a b c (omega arith) la lb lc)
  begun multi rings points x count a b c (Err what) e f g same la lb lc =
      rw (e, f, g) (fault end multi a what)

  first_by : (run : Bool) → is_run token ≡ run → AtFirst end (token ∷ rest)
  unfolding rings_from steps.step steps.first
  first_by run e multi rings points x count a b zero same la lb lc = absurd (omega arith)
  first_by true e multi rings points x count a b (suc c) same la lb lc =
      let counted : point_count rings + length points ≡ count = omega arith in
      begun multi rings points x count a b c _ e refl (ap (λ n. longitude_behind n token) counted)
      (omega arith) (omega arith) (omega arith) (omega arith)
  first_by false e multi rings points x count a b (suc c) same la lb lc = rw e (fault end multi a _)

  one_more : Resumes end (token ∷ rest)
  one_more = record {
    polygon = polygon_by _ _ refl refl;
    polygon_end = polygon_end_by _ _ refl refl;
    ring = ring_by _ refl;
    ring_end = ring_end_by _ _ refl refl;
    first = first_by _ refl;
    second = second_by _ _ refl refl;
    third = third_by _ _ refl refl;
    point_end = point_end_by _ _ refl refl;
  }

-- the reader reads what the grammar has to read, at each spot of a list
pub resumes : (end : ℕ) (tokens : List Token) → Resumes end tokens
resumes end [] = none_left end
resumes end (token ∷ rest) = one_more end token rest (resumes end rest)
