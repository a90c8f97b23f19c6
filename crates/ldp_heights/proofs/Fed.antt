-- Reading byte by byte gives the grid of the text.
use Rattle.std.proofs.Common.{◌≡◌, ℕ, ◌+◌, ◌==◌, nat_eq, Bool, true, false, ◌&&◌, List, [], ◌∷◌}
use Rattle.std.proofs.Common.{◌++◌, length, drop, filter, arith, refl, sym, ap, ◌∙◌, append_assoc}
use Rattle.std.proofs.Common.{append-nil, take, ◌≢◌, Some, Err, option_map}
use Rattle.std.proofs.Common.{IfSome}
use Rattle.std.proofs.lemmas.Bool.Decides.{nat_tests}
use Rattle.std.proofs.lemmas.List.{length-append}
use Rattle.std.specs.List.{starts_with}
use Rattle.ldp_tokens.specs.Mark.{mark}
use Rattle.ldp_tokens.specs.Tokens.{Token, is_white, onto_first, pieces, is_some_run, tokens}
use Rattle.ldp_heights.specs.Reading.{heights_of}
use Rattle.ldp_heights.specs.Known.{Known, nothing, grow}
use Rattle.ldp_heights.specs.Stages.{at_start, and_end}
use Rattle.ldp_heights.specs.Pieces.{State, start, closed, white, is_mark, byte, go, end}
use Rattle.ldp_heights.specs.Pieces.{Reader, bytes_taken, Holds}
use Rattle.ldp_heights.specs.declared.fault.HeightFault.TheVariants.{Memory}
use Rattle.ldp_heights.proofs.Tokenwise.{Answer, answer, all_of, grid_taken}
use Rattle.ldp_heights.proofs.KnownTokens.{Tells, tells_nothing, tells_more, known_read}

-- the pieces of what follows, with the bytes in front of them
abbrev glue : ℕ → List ℕ → List Token → List Token
glue place front [] = record { place = place; bytes = front } ∷ []
glue place front (piece ∷ others) = record { place = place; bytes = front ++ piece.bytes } ∷ others

abbrev some_of : List Token → List Token
some_of list = filter (λ piece. is_some_run piece.bytes) list

glue_onto : (place taken b : ℕ) (front : List ℕ) (others : List Token)
    → glue place front (onto_first taken b others) ≡ glue place (front ++ b ∷ []) others
glue_onto place taken b front [] = refl
glue_onto place taken b front (piece ∷ others) =
    rw (append_assoc front (b ∷ []) piece.bytes) refl

onto_none : (place b : ℕ) (others : List Token)
    → glue place [] (onto_first place b others) ≡ onto_first place b others
onto_none place b [] = refl
onto_none place b (piece ∷ others) = refl

glue_none : (place : ℕ) (text : List ℕ)
    → glue place [] (pieces [] place text) ≡ pieces [] place text
glue_none place [] = refl
glue_none place (b ∷ bs) = by_white (is_white b) refl where
  by_white : (ends : Bool) → is_white b ≡ ends
      → glue place [] (pieces [] place (b ∷ bs)) ≡ pieces [] place (b ∷ bs)
  by_white true w = rw w refl
  by_white false w = rw w (onto_none place b (pieces [] (place + 1) bs))

-- the unfinished token, once it has ended
closed_then : (s : State) (front : List ℕ) (others : List Token) → Tells s.token front
    → all_of s.sofar (some_of (record { place = s.place; bytes = front } ∷ others))
    ≡ all_of (closed s) (some_of others)
closed_then s [] others tells = rw tells.len refl
closed_then s (b ∷ bs) others tells =
    let some : (s.token.len == 0) ≡ false =
    (let more : s.token.len ≡ length (b ∷ bs) = tells.len in grind (arith, nat_tests)) in
    rw (some, known_read s.sofar s.place s.token (b ∷ bs) tells) refl

-- the text is not about to complete a mark in front
abbrev NoMark : ℕ → List ℕ → List ℕ → Type 0
NoMark place front text = place ≡ 0 → starts_with nat_eq (front ++ text) mark ≡ false

and_none : (p : Bool) → (p && false) ≡ false
and_none true = refl
and_none false = refl

and_neither : (p q : Bool) → (p && (q && false)) ≡ false
and_neither true q = and_none q
and_neither false q = refl

mark_first : (front text : List ℕ) → starts_with nat_eq (front ++ text) mark ≡ false
    → starts_with nat_eq (take 65 front) mark ≡ false
mark_first [] text h = refl
mark_first (a ∷ []) text h = and_none (nat_eq 239 a)
mark_first (a ∷ b ∷ []) text h = and_neither (nat_eq 239 a) (nat_eq 187 b)
mark_first (a ∷ b ∷ c ∷ front) text h = h

no_mark : (place : ℕ) (known : Known) (front text : List ℕ) → Tells known front
    → NoMark place front text → is_mark place known ≡ false
no_mark place known front text tells free = by_place (place == 0) refl where
  by_place : (first : Bool) → (place == 0) ≡ first → is_mark place known ≡ false
  by_place false f = rw f refl
  by_place true f =
      let here : place ≡ 0 = grind (arith, nat_tests) in
      rw (f, tells.first) (mark_first front text (free here))

-- the answer at the end of what follows the bytes in front
abbrev follows : State → List ℕ → List ℕ → Answer
follows s front text =
    answer (s.taken + length text) s.sofar (some_of (glue s.place front (pieces [] s.taken text)))

one_further : (n : ℕ) (b : ℕ) (bs : List ℕ) → n + 1 + length bs ≡ n + length (b ∷ bs)
one_further n b bs = omega arith

byte_white : (s : State) (b : ℕ) → is_white b ≡ true → byte s b ≡ white s
unfolding byte
byte_white s b w = rw w refl

white_follows : (s : State) (front : List ℕ) (b : ℕ) (bs : List ℕ) → Tells s.token front
    → is_white b ≡ true → follows (white s) [] bs ≡ follows s front (b ∷ bs)
white_follows s front b bs tells w =
    rw (w, glue_none (s.taken + 1) bs, append-nil front, one_further s.taken b bs)
    (ap (λ sofar. and_end sofar (s.taken + length (b ∷ bs)))
    (sym (closed_then s front (pieces [] (s.taken + 1) bs) tells)))

-- with another byte of its token
abbrev further : State → ℕ → State
further s b = record {
  taken = s.taken + 1;
  sofar = s.sofar;
  place = s.place;
  token = grow s.token b;
}

byte_further : (s : State) (b : ℕ) → is_white b ≡ false
    → is_mark s.place (grow s.token b) ≡ false → byte s b ≡ further s b
unfolding byte
byte_further s b w m = rw (w, m) refl

further_follows : (s : State) (front : List ℕ) (b : ℕ) (bs : List ℕ) → is_white b ≡ false
    → follows (further s b) (front ++ b ∷ []) bs ≡ follows s front (b ∷ bs)
further_follows s front b bs w =
    rw (
      w,
      one_further s.taken b bs,
      glue_onto s.place s.taken b front (pieces [] (s.taken + 1) bs),
    ) refl

-- the bytes that follow those of the unfinished token
fed : (s : State) (front text : List ℕ) → Tells s.token front → NoMark s.place front text
    → end (go s text) ≡ follows s front text
fed s front [] tells free =
    let same : s.taken + 0 ≡ s.taken = omega arith in
    rw (same, append-nil front)
    (ap (λ sofar. and_end sofar s.taken) (sym (closed_then s front [] tells)))
fed s front (b ∷ bs) tells free =
    let more = tells_more s.token front b tells in
    let joined : NoMark s.place (front ++ b ∷ []) bs =
    λ first. rw (append_assoc front (b ∷ []) bs) (free first) in
    let marks = no_mark s.place (grow s.token b) (front ++ b ∷ []) bs more joined in
    let over : NoMark (s.taken + 1) [] bs = λ first. absurd (omega (arith, first)) in
    by_white (is_white b) refl marks (fed (white s) [] bs tells_nothing over)
    (fed (further s b) (front ++ b ∷ []) bs more joined) where
      by_white : (ends : Bool) → is_white b ≡ ends → is_mark s.place (grow s.token b) ≡ false
          → end (go (white s) bs) ≡ follows (white s) [] bs
          → end (go (further s b) bs) ≡ follows (further s b) (front ++ b ∷ []) bs
          → end (go s (b ∷ bs)) ≡ follows s front (b ∷ bs)
      by_white true w m ended grows =
          ap (λ t. end (go t bs)) (byte_white s b w) ∙ ended ∙ white_follows s front b bs tells w
      by_white false w m ended grows =
          ap (λ t. end (go t bs)) (byte_further s b w m) ∙ grows ∙ further_follows s front b bs w

-- a text without a mark
unmarked_read : (text : List ℕ) → starts_with nat_eq text mark ≡ false
    → end (go start text) ≡ heights_of text
unfolding heights_of
unmarked_read text free =
    let same : 0 + length text ≡ length text = omega arith in
    fed start [] text tells_nothing (λ _. free)
    ∙ rw (same, glue_none 0 text, free) (grid_taken (length text) (tokens [] 0 text))

marked : (text : List ℕ) → starts_with nat_eq text mark ≡ true → text ≡ mark ++ drop 3 text
marked [] h = absurd cc
marked (a ∷ []) h = absurd (let fails = sym (and_none (nat_eq 239 a)) ∙ h in cc)
marked (a ∷ b ∷ []) h =
    absurd (let fails = sym (and_neither (nat_eq 239 a) (nat_eq 187 b)) ∙ h in cc)
marked (a ∷ b ∷ c ∷ text) h =
    let one : a ≡ 239 = grind (arith, nat_tests) in
    let two : b ≡ 187 = grind (arith, nat_tests) in
    let three : c ≡ 191 = grind (arith, nat_tests) in
    rw (one, two, three) refl

-- a text with one
marked_read : (text : List ℕ) → end (go start (mark ++ text)) ≡ heights_of (mark ++ text)
unfolding heights_of byte grow
marked_read text =
    let after : State = record { taken = 3; sofar = at_start; place = 3; token = nothing } in
    let count : 3 + length text ≡ length (mark ++ text) = omega arith in
    fed after [] text tells_nothing (λ first. absurd (omega (arith, first)))
    ∙ rw (count, glue_none 3 text) (grid_taken (length (mark ++ text)) (tokens [] 3 text))

-- the bytes of a text, one by one, are read to its grid
pub text_fed : (text : List ℕ) → end (go start text) ≡ heights_of text
text_fed text = by_mark (starts_with nat_eq text mark) refl where
  by_mark : (has : Bool) → starts_with nat_eq text mark ≡ has
      → end (go start text) ≡ heights_of text
  by_mark false m = unmarked_read text m
  by_mark true m = rw (marked text m) (marked_read (drop 3 text))

-- one piece after another
pub pieces_joined : (s : State) (front rest : List ℕ) → go (go s front) rest ≡ go s (front ++ rest)
pieces_joined s [] rest = refl
pieces_joined s (b ∷ bs) rest = pieces_joined (byte s b) bs rest

one_counted : (s : State) (b : ℕ) → (byte s b).taken ≡ s.taken + 1
unfolding byte
one_counted s b = by_tests (is_white b) (is_mark s.place (grow s.token b)) refl refl where
  by_tests : (ends marks : Bool) → is_white b ≡ ends → is_mark s.place (grow s.token b) ≡ marks
      → (byte s b).taken ≡ s.taken + 1
  by_tests true marks w m = rw w refl
  by_tests false true w m = rw (w, m) refl
  by_tests false false w m = rw (w, m) refl

-- each byte is counted
pub bytes_counted : (s : State) (text : List ℕ) → (go s text).taken ≡ s.taken + length text
bytes_counted s [] = omega arith
bytes_counted s (b ∷ bs) =
    bytes_counted (byte s b) bs ∙ rw (one_counted s b) (one_further s.taken b bs)

-- a reader that was fed one more piece
pub holds_more : (old new : Reader) (text piece : List ℕ) → Holds old text
    → new ≡ option_map (λ s. go s piece) old
    → bytes_taken new ≡ bytes_taken old + length piece
    → Holds new (text ++ piece)
holds_more old new text piece holds is_fed is_counted = (
  is_fed ∙ rw holds.0 (ap Some (pieces_joined start text piece)),
  is_counted ∙ (let both = length-append text piece in omega (arith, holds.1, both)),
)

-- what a reader of a text answers
pub holds_read : (reader : Reader) (text : List ℕ) (given : Answer) → Holds reader text
    → IfSome reader (λ s. given ≢ Err Memory → given ≡ end s)
    → given ≢ Err Memory → given ≡ heights_of text
holds_read reader text given holds exact fault =
    let read : given ≢ Err Memory → given ≡ end (go start text) = rw holds.0 at exact in
    read fault ∙ text_fed text
