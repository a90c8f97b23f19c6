-- What is left to show of an operation on items that meet numbers: how what is known of its result
-- tells the way from the new centre.
use Rattle.std.proofs.Common.{◌≡◌, ℤ, pos, ◌+ℤ◌, ◌-ℤ◌, ◌*ℤ◌, ◌≤ℤ◌, List, Option, Some, option_map}
use Rattle.std.proofs.Common.{subst}
use Rattle.std.specs.Prelude.{option_and_then, unsigned_abs}
use Rattle.ldp_num.specs.Slopes.{Known, Item, item, of_pair}
use Rattle.ldp_range.specs.Range.{LiesIn}
use Rattle.ldp_range.specs.Related.{Reaches, FollowsOne, FollowsTwo}
use Rattle.ldp_centred.specs.Kept.{IsCentred}
use Rattle.ldp_centred.specs.Soundness.{Describes, Meets}
use Rattle.ldp_centred.proofs.Centring.{then-some}
use Rattle.ldp_centred.proofs.Rounded.{map-some, both-some}
use Rattle.ldp_centred.proofs.Points.{Cornered, Tells, low-kept, high-kept, ordered-kept}

pub record Answered (ts : List ℤ) (u : ℤ) (m : Known) : Type 0 where
  pub natural : pos 0 ≤ℤ m.error
  pub tells : Tells m.slopes ts (u -ℤ m.centre) m.error

pub tells-of : (ts : List ℤ) (v : ℤ) (r : ℤ × ℤ) (k : Known) → Describes ts v r k
    → Tells k.slopes ts (v -ℤ k.centre) k.error
tells-of ts v r k d = record { ordered = d.ordered; bounds = d.bounds }

-- the two inequalities that are to be shown, at a result that is away from its centre by z
abbrev pub LowHolds : ℤ → ℤ → ℤ → ℤ → ℤ → ℤ → ℤ → ℤ → ℤ → Type 0
LowHolds n a b x y e f z g =
    (((a *ℤ x) +ℤ (b *ℤ y)) +ℤ ((pos (unsigned_abs a) *ℤ e) +ℤ (pos (unsigned_abs b) *ℤ f)))
    ≤ℤ (n *ℤ (z +ℤ g))

abbrev pub HighHolds : ℤ → ℤ → ℤ → ℤ → ℤ → ℤ → ℤ → ℤ → ℤ → Type 0
HighHolds n a b x y e f z g =
    (n *ℤ z)
    ≤ℤ (((a *ℤ x) +ℤ (b *ℤ y))
    +ℤ ((n *ℤ g) -ℤ ((pos (unsigned_abs a) *ℤ e) +ℤ (pos (unsigned_abs b) *ℤ f))))

pub answered : (ts : List ℤ) (u : ℤ) (m : Known) (n a b c d x y e f : ℤ) (xs ys : List (ℤ × ℤ))
    → pos 1 ≤ℤ n → pos 0 ≤ℤ m.error
    → Cornered n a b m.slopes xs ys → Cornered n c d m.slopes xs ys
    → Tells xs ts x e → Tells ys ts y f
    → LowHolds n a b x y e f (u -ℤ m.centre) m.error
    → HighHolds n c d x y e f (u -ℤ m.centre) m.error
    → Answered ts u m
answered ts u m n a b c d x y e f xs ys positive natural low high left right lower upper = record {
  natural = natural;
  tells = record {
    ordered = ordered-kept n a b m.slopes xs ys positive low left.ordered right.ordered;
    bounds = record {
      low = low-kept n a b x y e f (u -ℤ m.centre) m.error m.slopes xs ys ts positive low left
          right lower;
      high = high-kept n c d x y e f (u -ℤ m.centre) m.error m.slopes xs ys ts positive high left
          right upper;
    };
  };
}

described : (ts : List ℤ) (u : ℤ) (r : ℤ × ℤ) (m : Known) → LiesIn m.centre r → Answered ts u m
    → Describes ts u r m
described ts u r m centre h = record {
  centre = centre;
  error = h.natural;
  ordered = h.tells.ordered;
  bounds = h.tells.bounds;
}

pub two-met : (ts : List ℤ) (f : ℤ → ℤ → Option ℤ) (g : ℤ × ℤ → ℤ × ℤ → Option (ℤ × ℤ))
    (h : Known → Known → Option Known) (v w : ℤ) (a b t : Item)
    → FollowsTwo LiesIn f g → Meets ts v a → Meets ts w b
    → ((r : ℤ × ℤ) → IsCentred a.range a.known → IsCentred b.range b.known
    → g a.range b.range ≡ Some r → IsCentred r (of_pair h a.known b.known))
    → ((k l m : Known) (u : ℤ) → Describes ts v a.range k → Describes ts w b.range l
    → f v w ≡ Some u → h k l ≡ Some m → Answered ts u m)
    → option_map (item (of_pair h a.known b.known)) (g a.range b.range) ≡ Some t
    → Reaches (Meets ts) (f v w) t
two-met ts f g h v w a b t holds left right centred kept e =
    let p = map-some (item (of_pair h a.known b.known)) (g a.range b.range) t e in
    let reached = holds v w a.range b.range p.0 left.range right.range p.1.0 in
    let centre = centred p.0 (λ k i. (left.known k i).centre) (λ k i. (right.known k i).centre)
    p.1.0 in
    let met : Meets ts reached.value (item (of_pair h a.known b.known) p.0) = record {
      range = reached.related;
      known = λ m i. let q = both-some h a.known b.known m i in
          described ts reached.value p.0 m (centre m i)
          (kept q.first q.second m reached.value (left.known q.first q.first_is)
          (right.known q.second q.second_is) reached.is q.is);
    } in
    record {
      value = reached.value;
      is = reached.is;
      related = subst (Meets ts reached.value) p.1.1 met;
    }

-- the same of an operation on one item; what is known may be made with the new range
pub one-met : (ts : List ℤ) (f : ℤ → Option ℤ) (g : ℤ × ℤ → Option (ℤ × ℤ))
    (h : ℤ × ℤ → Known → Option Known) (v : ℤ) (a t : Item)
    → FollowsOne LiesIn f g → Meets ts v a
    → ((r : ℤ × ℤ) → IsCentred a.range a.known → g a.range ≡ Some r
    → IsCentred r (option_and_then (h r) a.known))
    → ((k m : Known) (r : ℤ × ℤ) (u : ℤ) → Describes ts v a.range k → LiesIn u r
    → f v ≡ Some u → h r k ≡ Some m → Answered ts u m)
    → option_map (λ r. item (option_and_then (h r) a.known) r) (g a.range) ≡ Some t
    → Reaches (Meets ts) (f v) t
one-met ts f g h v a t holds left centred kept e =
    let made = λ (r : ℤ × ℤ). item (option_and_then (h r) a.known) r in
    let p = map-some made (g a.range) t e in
    let reached = holds v a.range p.0 left.range p.1.0 in
    let centre = centred p.0 (λ k i. (left.known k i).centre) p.1.0 in
    let met : Meets ts reached.value (item (option_and_then (h p.0) a.known) p.0) = record {
      range = reached.related;
      known = λ m i. let q = then-some (h p.0) a.known m i in
          described ts reached.value p.0 m (centre m i)
          (kept q.0 m p.0 reached.value (left.known q.0 q.1.0) reached.related reached.is q.1.1);
    } in
    record {
      value = reached.value;
      is = reached.is;
      related = subst (Meets ts reached.value) p.1.1 met;
    }
