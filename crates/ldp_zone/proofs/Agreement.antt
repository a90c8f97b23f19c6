-- The reader's steps are the grammar: through a whole text they give what the grammar gives.
use Rattle.std.proofs.Common.{◌≡◌, ℕ, Bool, true, false, ◌||◌, pos, List, [], ◌∷◌, length, Result}
use Rattle.std.proofs.Common.{refl, arith}
use Rattle.std.specs.Prelude.{codes}
use Rattle.ldp_tokens.specs.Tokens.{Token, tokens_of}
use Rattle.ldp_zone.specs.Signs.{signs, is_word, is_open}
use Rattle.ldp_quantity.specs.Results.{◌>>=◌}
use Rattle.ldp_zone.specs.Grammar.{Read, polygon, multipolygon, dimension, geometry, zone_of}
use Rattle.ldp_zone.specs.Steps as steps
use Rattle.ldp_zone.proofs.TokensLeft.{rings_from}
use Rattle.ldp_zone.specs.declared.spot.Spot.{Spot}
use Rattle.ldp_zone.specs.declared.spot.Spot.TheVariants as spots
use Rattle.ldp_zone.specs.declared.fault.ZoneFault.{ZoneFault}
use Rattle.ldp_zone.proofs.Phrases.{Rings, last, reader_at, at_end}
use Rattle.ldp_zone.proofs.Resumed.{resumes}

-- the reader at a spot where no ring was read
abbrev fresh_at : Spot → Bool → steps.Progress
fresh_at spot multi = reader_at spot multi [] [] (pos 0) 0

-- the text of a geometry
abbrev text : Bool → ℕ → List Token → Result (Read Rings) ZoneFault
text true end tokens = multipolygon end [] tokens
text false end tokens = polygon end [] tokens

body_by : (end : ℕ) (token : Token) (rest : List Token) (spot : Spot) (multi empty opened : Bool)
    → is_word token (codes "EMPTY") ≡ empty → is_open token ≡ opened
    → (steps.body (fresh_at spot multi) token >>= λ next. rings_from end next rest)
    ≡ (text multi end (token ∷ rest) >>= last)
unfolding steps.body steps.opened
body_by end token rest spot true true opened e f = rw e (at_end end true [] [] (pos 0) 0 rest)
body_by end token rest spot false true opened e f = rw e (at_end end false [] [] (pos 0) 0 rest)
body_by end token rest spot true false true e f =
    rw (e, f) ((resumes end rest).polygon [] (pos 0) 0 (length rest) refl (omega arith))
body_by end token rest spot false false true e f =
    rw (e, f) ((resumes end rest).ring false [] (pos 0) 0 (length rest) (length rest) refl
    (omega arith) (omega arith))
body_by end token rest spot true false false e f = rw (e, f) refl
body_by end token rest spot false false false e f = rw (e, f) refl

body : (end : ℕ) (multi : Bool) (tokens : List Token)
    → rings_from end (fresh_at spots.Body multi) tokens ≡ (text multi end tokens >>= last)
unfolding rings_from steps.step steps.finished
body end true [] = refl
body end false [] = refl
body end multi (token ∷ rest) = body_by end token rest spots.Body multi _ _ refl refl

dimension_by : (end : ℕ) (token : Token) (rest : List Token) (multi z m : Bool)
    → is_word token (codes "Z") ≡ z → (is_word token (codes "M") || is_word token (codes "ZM")) ≡ m
    → rings_from end (fresh_at spots.Dimension multi) (token ∷ rest)
    ≡ (dimension end (text multi end) (token ∷ rest) >>= last)
unfolding rings_from steps.step steps.dimension
dimension_by end token rest multi true m e f = rw e (body end multi rest)
dimension_by end token rest multi false true e f = rw (e, f) refl
dimension_by end token rest multi false false e f =
    rw (e, f) (body_by end token rest spots.Dimension multi _ _ refl refl)

behind_word : (end : ℕ) (multi : Bool) (tokens : List Token)
    → rings_from end (fresh_at spots.Dimension multi) tokens
    ≡ (dimension end (text multi end) tokens >>= last)
unfolding rings_from steps.finished
behind_word end multi [] = refl
behind_word end multi (token ∷ rest) = dimension_by end token rest multi _ _ refl refl

geometry_by : (end : ℕ) (token : Token) (rest : List Token) (p m pz mz : Bool)
    → is_word token (codes "POLYGON") ≡ p → is_word token (codes "MULTIPOLYGON") ≡ m
    → is_word token (codes "POLYGONZ") ≡ pz → is_word token (codes "MULTIPOLYGONZ") ≡ mz
    → rings_from end steps.begin (token ∷ rest) ≡ (geometry end (token ∷ rest) >>= last)
unfolding rings_from steps.step steps.geometry
geometry_by end token rest true m pz mz e f g h = rw e (behind_word end false rest)
geometry_by end token rest false true pz mz e f g h = rw (e, f) (behind_word end true rest)
geometry_by end token rest false false true mz e f g h = rw (e, f, g) (body end false rest)
geometry_by end token rest false false false true e f g h = rw (e, f, g, h) (body end true rest)
geometry_by end token rest false false false false e f g h = rw (e, f, g, h) refl

whole : (end : ℕ) (tokens : List Token)
    → rings_from end steps.begin tokens ≡ (geometry end tokens >>= last)
unfolding rings_from steps.finished
whole end [] = refl
whole end (token ∷ rest) = geometry_by end token rest _ _ _ _ refl refl refl refl

-- the reader's steps through a whole text give what the grammar gives
pub reads_zone : (text : List ℕ)
    → rings_from (length text) steps.begin (tokens_of signs text) ≡ zone_of text
unfolding zone_of
reads_zone text = whole (length text) (tokens_of signs text)
