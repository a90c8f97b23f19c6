-- The centre of a result lies in its range: it is the plain value at the centres of the operands,
-- and these lie in their ranges.
use Rattle.std.proofs.Common.{◌≡◌, ℤ, List, Option, None, Some, option_map, option_and_then}
use Rattle.std.proofs.Common.{sym, ap, subst, ◌∙◌, refl}
use Rattle.ldp_num.specs.Plain.{plain_add, plain_sub, plain_mul, plain_div, plain_sq, plain_sqrt}
use Rattle.ldp_num.specs.Plain.{plain_need}
use Rattle.ldp_num.specs.Ranges.{pair_add, pair_sub, pair_mul, pair_div, pair_sq, pair_sqrt}
use Rattle.ldp_num.specs.Ranges.{pair_need}
use Rattle.ldp_num.specs.Slopes.{Known, of_pair, made, out, divisor, known_add, known_sub}
use Rattle.ldp_num.specs.Slopes.{known_mul, known_divided, known_div, known_squared, known_sq}
use Rattle.ldp_num.specs.Slopes.{known_root, known_sqrt, known_need}
use Rattle.ldp_range.specs.Range.{LiesIn}
use Rattle.ldp_range.specs.Related.{Reaches, FollowsOne, FollowsTwo}
use Rattle.ldp_range.proofs.Inclusion.{numbers-lie-in}
use Rattle.ldp_centred.specs.Kept.{IsCentred}

-- what is made of a centre has this centre
made-centre : (c e : Option ℤ) (s : Option (List (ℤ × ℤ))) (m : Known) → made c e s ≡ Some m
    → c ≡ Some m.centre
made-centre None e s m h = cc
made-centre (Some c) None s m h = cc
made-centre (Some c) (Some e) None m h = cc
made-centre (Some c) (Some e) (Some s) m h = ap (option_map (λ k. k.centre)) h

-- what a defined step is made of
pub then-some : {A B : Type 0} (f : A → Option B) (x : Option A) (m : B)
    → option_and_then f x ≡ Some m → (a : A) × ((x ≡ Some a) × (f a ≡ Some m))
then-some f None m e = cc
then-some f (Some a) m e = (a, (refl, e))

lands : (c d : ℤ) (r : ℤ × ℤ) → LiesIn c r → Some c ≡ Some d → LiesIn d r
lands c d r h e = let same : c ≡ d = cc in subst (λ x. LiesIn x r) same h

reached : (c : ℤ) (r : ℤ × ℤ) (x : Option ℤ) → Reaches LiesIn x r → x ≡ Some c → LiesIn c r
reached c r x h e = lands h.value c r h.related (sym h.is ∙ e)

two-centred : (f : ℤ → ℤ → Option ℤ) (g : ℤ × ℤ → ℤ × ℤ → Option (ℤ × ℤ))
    (h : Known → Known → Option Known) → FollowsTwo LiesIn f g
    → ((k l m : Known) → h k l ≡ Some m → f k.centre l.centre ≡ Some m.centre)
    → (a b r : ℤ × ℤ) (x y : Option Known) → IsCentred a x → IsCentred b y → g a b ≡ Some r
    → IsCentred r (of_pair h x y)
two-centred f g h holds own a b r None y p q e = λ m d. cc
two-centred f g h holds own a b r (Some k) None p q e = λ m d. cc
two-centred f g h holds own a b r (Some k) (Some l) p q e = λ m d.
    reached m.centre r (f k.centre l.centre)
    (holds k.centre l.centre a b r (p k refl) (q l refl) e) (own k l m d)

one-centred : (f : ℤ → Option ℤ) (g : ℤ × ℤ → Option (ℤ × ℤ)) (h : Known → Option Known)
    → FollowsOne LiesIn f g
    → ((k m : Known) → h k ≡ Some m → f k.centre ≡ Some m.centre)
    → (a r : ℤ × ℤ) (x : Option Known) → IsCentred a x → g a ≡ Some r
    → IsCentred r (option_and_then h x)
one-centred f g h holds own a r None p e = λ m d. cc
one-centred f g h holds own a r (Some k) p e = λ m d.
    reached m.centre r (f k.centre) (holds k.centre a r (p k refl) e) (own k m d)

-- the centre of each operation's result
div-centre : (b : ℤ × ℤ) (k l m : Known) → known_div b k l ≡ Some m
    → plain_div k.centre l.centre ≡ Some m.centre
div-centre b k l m h =
    let t = then-some (λ c. option_and_then (known_divided b k l c) (out (c, c)))
    (plain_div k.centre l.centre) m h in
    let u = then-some (known_divided b k l t.0) (out (t.0, t.0)) m t.1.1 in
    t.1.0 ∙ made-centre (Some t.0) _ _ m u.1.1

sq-centre : (a : ℤ × ℤ) (k m : Known) → known_sq a k ≡ Some m → plain_sq k.centre ≡ Some m.centre
sq-centre a k m h =
    let t = then-some (known_squared k) (pair_add a (k.centre, k.centre)) m h in
    made-centre (plain_sq k.centre) _ _ m t.1.1

sqrt-centre : (r : ℤ × ℤ) (k m : Known) → known_sqrt r k ≡ Some m
    → plain_sqrt k.centre ≡ Some m.centre
sqrt-centre r k m h =
    let t = then-some (λ c. option_and_then (known_root k c) (divisor r c))
    (plain_sqrt k.centre) m h in
    let u = then-some (known_root k t.0) (divisor r t.0) m t.1.1 in
    t.1.0 ∙ made-centre (Some t.0) _ _ m u.1.1

pub add-centred : (a b r : ℤ × ℤ) (x y : Option Known) → IsCentred a x → IsCentred b y
    → pair_add a b ≡ Some r → IsCentred r (of_pair known_add x y)
add-centred =
    two-centred plain_add pair_add known_add numbers-lie-in.add
    (λ k l m h. made-centre (plain_add k.centre l.centre) _ _ m h)

pub sub-centred : (a b r : ℤ × ℤ) (x y : Option Known) → IsCentred a x → IsCentred b y
    → pair_sub a b ≡ Some r → IsCentred r (of_pair known_sub x y)
sub-centred =
    two-centred plain_sub pair_sub known_sub numbers-lie-in.sub
    (λ k l m h. made-centre (plain_sub k.centre l.centre) _ _ m h)

pub mul-centred : (a b r : ℤ × ℤ) (x y : Option Known) → IsCentred a x → IsCentred b y
    → pair_mul a b ≡ Some r → IsCentred r (of_pair (known_mul a) x y)
mul-centred a =
    two-centred plain_mul pair_mul (known_mul a) numbers-lie-in.mul
    (λ k l m h. made-centre (plain_mul k.centre l.centre) _ _ m h) a

pub div-centred : (a b r : ℤ × ℤ) (x y : Option Known) → IsCentred a x → IsCentred b y
    → pair_div a b ≡ Some r → IsCentred r (of_pair (known_div b) x y)
div-centred a b =
    two-centred plain_div pair_div (known_div b) numbers-lie-in.div (div-centre b) a b

pub sq-centred : (a r : ℤ × ℤ) (x : Option Known) → IsCentred a x → pair_sq a ≡ Some r
    → IsCentred r (option_and_then (known_sq a) x)
sq-centred a = one-centred plain_sq pair_sq (known_sq a) numbers-lie-in.sq (sq-centre a) a

pub sqrt-centred : (a r : ℤ × ℤ) (x : Option Known) → IsCentred a x → pair_sqrt a ≡ Some r
    → IsCentred r (option_and_then (known_sqrt r) x)
sqrt-centred a r =
    one-centred plain_sqrt pair_sqrt (known_sqrt r) numbers-lie-in.sqrt (sqrt-centre r) a r

pub need-centred : (a r : ℤ × ℤ) (x : Option Known) → IsCentred a x → pair_need a ≡ Some r
    → IsCentred r (option_and_then known_need x)
need-centred =
    one-centred plain_need pair_need known_need numbers-lie-in.need
    (λ k m h. made-centre (plain_need k.centre) (Some k.error) (Some k.slopes) m h)
