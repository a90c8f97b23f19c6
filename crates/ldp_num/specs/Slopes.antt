-- The operations on slopes. An item is a range, and where more is known of it, how its value lies
-- about a centre: the value at a point is the centre and, for each design input, a slope times the
-- way of the point from the middle of the input's range, up to an error. Each slope lies in a pair
-- of ends. (Own choice of this project; slopes of interval arithmetic, in mean value form.)
use Rattle.std.specs.Prelude.{ℤ, pos, List, [], ◌∷◌, Option, Some, None, option_map, option_and_then}
use Rattle.ldp_num.specs.Plain.{plain_add, plain_sub, plain_mul, plain_div, plain_sq, plain_sqrt}
use Rattle.ldp_num.specs.Plain.{plain_need}
use Rattle.ldp_num.specs.Ranges.{ends, magnitude, pair_high_abs, pair_add, pair_sub, pair_mul}
use Rattle.ldp_num.specs.Ranges.{pair_div, pair_sq, pair_sqrt, pair_need}

-- a centre within the range, an error of at least 0, and a pair of slopes for each design input
pub record Known : Type 0 where
  pub centre : ℤ
  pub error : ℤ
  pub slopes : List (ℤ × ℤ)

-- a range, and what is known besides
pub record Item : Type 0 where
  pub range : ℤ × ℤ
  pub known : Option Known

-- a range with what is known of it besides
abbrev pub item : Option Known → ℤ × ℤ → Item
item known range = record { range = range; known = known }

-- f of both, where both are defined
abbrev pub of_pair : {A B C : Type 0} → (A → B → Option C) → Option A → Option B → Option C
of_pair f x y = option_and_then (λ a. option_and_then (f a) y) x

-- f of each of a list; None if one result is undefined
abbrev pub of_each : (ℤ × ℤ → Option (ℤ × ℤ)) → List (ℤ × ℤ) → Option (List (ℤ × ℤ))
of_each f [] = Some []
of_each f (s ∷ ss) = option_and_then (λ r. option_map (λ rs. r ∷ rs) (of_each f ss)) (f s)

-- f of two lists place by place; None if one is longer or a result is undefined
abbrev pub of_places : (ℤ × ℤ → ℤ × ℤ → Option (ℤ × ℤ)) → List (ℤ × ℤ) → List (ℤ × ℤ)
    → Option (List (ℤ × ℤ))
of_places f [] [] = Some []
of_places f [] (t ∷ ts) = None
of_places f (s ∷ ss) [] = None
of_places f (s ∷ ss) (t ∷ ts) =
    option_and_then (λ r. option_map (λ rs. r ∷ rs) (of_places f ss ts)) (f s t)

-- some units more
abbrev pub plus : Option ℤ → ℤ → Option ℤ
plus x units = option_and_then (λ n. plain_add n units) x

-- one unit further at the high end: what was rounded down there is held
abbrev pub out : ℤ × ℤ → Option (ℤ × ℤ)
out p = option_map (λ high. (p.0, high)) (plain_add p.1 (pos 1))

-- the same of a pair that may be undefined
abbrev pub outward : Option (ℤ × ℤ) → Option (ℤ × ℤ)
outward p = option_and_then out p

-- a centre, an error and slopes, where all are defined
abbrev pub made : Option ℤ → Option ℤ → Option (List (ℤ × ℤ)) → Option Known
made centre error slopes =
    option_and_then (λ c. option_and_then (λ e.
    option_map (λ ss. record { centre = c; error = e; slopes = ss }) slopes) error) centre

-- the slopes of a value that depends on no design input
abbrev pub flat : List (ℤ × ℤ)
flat = (pos 0, pos 0) ∷ (pos 0, pos 0) ∷ (pos 0, pos 0) ∷ (pos 0, pos 0) ∷ []

-- a number that is the same at every point: it is its own centre, without error
abbrev pub slope_constant : ℤ → Item
slope_constant v =
    item (Some (record { centre = v; error = pos 0; slopes = flat })) (v, v)

-- the sum: centres, errors and slopes are added
abbrev pub known_add : Known → Known → Option Known
known_add k l =
    made (plain_add k.centre l.centre) (plain_add k.error l.error)
    (of_places pair_add k.slopes l.slopes)

-- the difference: centres and slopes are subtracted, and errors are added
abbrev pub known_sub : Known → Known → Option Known
known_sub k l =
    made (plain_sub k.centre l.centre) (plain_add k.error l.error)
    (of_places pair_sub k.slopes l.slopes)

-- a slope of a product: s with the second's centre, and t with the first's range
abbrev pub slope_mul : ℤ × ℤ → ℤ → ℤ × ℤ → ℤ × ℤ → Option (ℤ × ℤ)
slope_mul range centre s t =
    of_pair pair_add (outward (pair_mul range t)) (outward (pair_mul (centre, centre) s))

-- the error of a product, of e with the second's centre, and of f with the first's range
abbrev pub error_mul : ℤ × ℤ → ℤ → ℤ → ℤ → Option ℤ
error_mul range centre e f =
    plus (of_pair plain_add (plain_mul (pair_high_abs range) f) (plain_mul (magnitude centre) e))
    (pos 3)

-- the product, where a is the range of the first operand
abbrev pub known_mul : ℤ × ℤ → Known → Known → Option Known
known_mul a k l =
    made (plain_mul k.centre l.centre) (error_mul a l.centre k.error l.error)
    (of_places (slope_mul a l.centre) k.slopes l.slopes)

-- the square, by the sum of the range and the centre
abbrev pub known_squared : Known → ℤ × ℤ → Option Known
known_squared k sum =
    made (plain_sq k.centre) (plus (plain_mul (pair_high_abs sum) k.error) (pos 2))
    (of_each (λ s. outward (pair_mul sum s)) k.slopes)

-- the square, where a is the operand's range
abbrev pub known_sq : ℤ × ℤ → Known → Option Known
known_sq a k = option_and_then (known_squared k) (pair_add a (k.centre, k.centre))

-- a slope of a quotient that lies between the ends of `near`, by a divisor in this range
abbrev pub slope_div : ℤ × ℤ → ℤ × ℤ → ℤ × ℤ → ℤ × ℤ → Option (ℤ × ℤ)
slope_div range near s t =
    outward (option_and_then (λ d. pair_div d range)
    (option_and_then (pair_sub s) (outward (pair_mul near t))))

-- the error of a quotient, from e of the dividend and f of the divisor, which has this range; near
-- holds the quotient of the centres
abbrev pub error_div : ℤ × ℤ → ℤ × ℤ → ℤ → ℤ → Option ℤ
error_div range near e f =
    plus (option_and_then (λ n. plain_div n range.0)
    (plus (option_and_then (plain_add e) (plain_mul (pair_high_abs near) f)) (pos 1)))
    (pos 2)

-- the quotient of the centres is at least c, and less than one unit more
abbrev pub known_divided : ℤ × ℤ → Known → Known → ℤ → ℤ × ℤ → Option Known
known_divided b k l c near =
    made (Some c) (error_div b near k.error l.error)
    (of_places (slope_div b near) k.slopes l.slopes)

-- the quotient, where b is the range of the divisor
abbrev pub known_div : ℤ × ℤ → Known → Known → Option Known
known_div b k l =
    option_and_then (λ c. option_and_then (known_divided b k l c) (out (c, c)))
    (plain_div k.centre l.centre)

-- where the sum of a root in the range and that of the centre lies, both unrounded
abbrev pub divisor : ℤ × ℤ → ℤ → Option (ℤ × ℤ)
divisor range c = ends (plain_add range.0 c) (plus (plain_add range.1 c) (pos 2))

-- the root, where c is that of the centre and sum the pair of `divisor`
abbrev pub known_root : Known → ℤ → ℤ × ℤ → Option Known
known_root k c sum =
    made (Some c) (plus (plain_div k.error sum.0) (pos 2))
    (of_each (λ s. outward (pair_div s sum)) k.slopes)

-- the root, whose range is given
abbrev pub known_sqrt : ℤ × ℤ → Known → Option Known
known_sqrt range k =
    option_and_then (λ c. option_and_then (known_root k c) (divisor range c))
    (plain_sqrt k.centre)

-- what is known of the operand, if its centre is at least 0
abbrev pub known_need : Known → Option Known
known_need k = made (plain_need k.centre) (Some k.error) (Some k.slopes)

-- Each operation on items is defined where that on their ranges is; what is known of its result is
-- known where it is of the operands, and all that it takes is defined.
abbrev pub slope_add : Item → Item → Option Item
slope_add a b = option_map (item (of_pair known_add a.known b.known)) (pair_add a.range b.range)

-- the difference of two items
abbrev pub slope_sub : Item → Item → Option Item
slope_sub a b = option_map (item (of_pair known_sub a.known b.known)) (pair_sub a.range b.range)

-- the product of two items
abbrev pub slope_times : Item → Item → Option Item
slope_times a b =
    option_map (item (of_pair (known_mul a.range) a.known b.known)) (pair_mul a.range b.range)

-- the quotient of two items, defined if the divisor's range is above 0
abbrev pub slope_over : Item → Item → Option Item
slope_over a b =
    option_map (item (of_pair (known_div b.range) a.known b.known)) (pair_div a.range b.range)

-- the square of an item
abbrev pub slope_sq : Item → Option Item
slope_sq a = option_map (item (option_and_then (known_sq a.range) a.known)) (pair_sq a.range)

-- the root of an item, defined if its range is at least 0
abbrev pub slope_sqrt : Item → Option Item
slope_sqrt a =
    option_map (λ r. item (option_and_then (known_sqrt r) a.known) r) (pair_sqrt a.range)

-- the item itself, if its range is at least 0
abbrev pub slope_need : Item → Option Item
slope_need a = option_map (item (option_and_then known_need a.known)) (pair_need a.range)
