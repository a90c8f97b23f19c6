-- Reading token by token, with each token whole, gives the grid of all tokens.
use Rattle.std.proofs.Common.{◌≡◌, ℕ, ◌+◌, ◌*◌, ◌==◌, Bool, true, false, ℤ, List, [], ◌∷◌, ◌++◌}
use Rattle.std.proofs.Common.{length, Option, Result, Ok, Err, refl, ◌∙◌, append_assoc}
use Rattle.std.proofs.Common.{append-nil}
use Rattle.std.proofs.lemmas.List.{length_push}
use Rattle.ldp_quantity.specs.Results.{◌>>=◌}
use Rattle.ldp_tokens.specs.Tokens.{Token}
use Rattle.ldp_heights.specs.Grid.{HeightGrid}
use Rattle.ldp_heights.specs.Header.{Header, Name, Layout, no_words, begins_height, word_at}
use Rattle.ldp_heights.specs.Header.{with_value, header_of, layout_of}
use Rattle.ldp_heights.specs.Reading.{height_of, heights_from, heights_under, grid_of, grid_with}
use Rattle.ldp_heights.specs.Stages.{Stage, at_word, at_value, at_height, SoFar, header_left}
use Rattle.ldp_heights.specs.Stages.{with_height, whole, ended, and_end}
use Rattle.ldp_heights.specs.declared.fault.HeightFault.{HeightFault}
use Rattle.ldp_heights.specs.declared.fault.HeightFault.TheVariants.{Trailing}

-- a whole token taken in its place
unfoldable pub placed : Token → Stage → SoFar
placed token (at_word met) = word_at met token >>= λ word. Ok (at_value met word)
placed token (at_value met word) = with_value met word token >>= λ more. Ok (at_word more)
placed token (at_height layout heights) = with_height layout heights token

unfoldable pub step : Token → Stage → SoFar
step token stage = header_left token stage >>= placed token

abbrev pub all_of : SoFar → List Token → SoFar
all_of sofar [] = sofar
all_of sofar (token ∷ tokens) = all_of (sofar >>= step token) tokens

abbrev pub Answer : Type 0
Answer = Result HeightGrid HeightFault

-- the answer at the end
abbrev pub answer : ℕ → SoFar → List Token → Answer
answer end sofar tokens = and_end (all_of sofar tokens) end

first_fault : (end : ℕ) (fault : HeightFault) (tokens : List Token)
    → answer end (Err fault) tokens ≡ Err fault
first_fault end fault [] = refl
first_fault end fault (token ∷ tokens) = first_fault end fault tokens

-- the grid with these heights, and the others after them
abbrev and_heights : Layout → List (Option ℤ) → Result (List (Option ℤ)) HeightFault → Answer
and_heights layout front others = others >>= λ rest. Ok (grid_with layout (front ++ rest))

one_more : (layout : Layout) (front : List (Option ℤ)) (height : Option ℤ)
    (others : Result (List (Option ℤ)) HeightFault)
    → and_heights layout (front ++ height ∷ []) others
    ≡ and_heights layout front (others >>= λ rest. Ok (height ∷ rest))
one_more layout front height (Ok rest) = rw append_assoc refl
one_more layout front height (Err fault) = refl

height_taken : (end : ℕ) (layout : Layout) (front : List (Option ℤ)) (token : Token)
    (tokens : List Token) (full : Bool) (read : Result (Option ℤ) HeightFault)
    → (length front == layout.cols * layout.rows) ≡ full
    → height_of layout.missing token ≡ read
    → ((height : Option ℤ) → answer end (Ok (at_height layout (front ++ height ∷ []))) tokens
    ≡ and_heights layout (front ++ height ∷ []) (heights_from layout.missing
    (layout.cols * layout.rows) (length (front ++ height ∷ [])) tokens))
    → answer end (Ok (at_height layout front)) (token ∷ tokens)
    ≡ and_heights layout front
    (heights_from layout.missing (layout.cols * layout.rows) (length front) (token ∷ tokens))
unfolding step header_left placed with_height
height_taken end layout front token tokens true read f h others =
    rw f (first_fault end (Trailing token.place) tokens)
height_taken end layout front token tokens false (Err fault) f h others =
    rw (f, h) (first_fault end fault tokens)
height_taken end layout front token tokens false (Ok height) f h others =
    rw (f, h, others height, length_push front height)
    (one_more layout front height (heights_from layout.missing (layout.cols * layout.rows)
    (length front + 1) tokens))

no_more : (end : ℕ) (layout : Layout) (front : List (Option ℤ)) (full : Bool)
    → (length front == layout.cols * layout.rows) ≡ full
    → whole layout front ≡ and_heights layout front
    (heights_from layout.missing (layout.cols * layout.rows) (length front) [])
no_more end layout front true f = rw (f, append-nil) refl
no_more end layout front false f = rw f refl

-- the heights that follow are those of the tokens
heights_taken : (end : ℕ) (layout : Layout) (front : List (Option ℤ)) (tokens : List Token)
    → answer end (Ok (at_height layout front)) tokens
    ≡ and_heights layout front
    (heights_from layout.missing (layout.cols * layout.rows) (length front) tokens)
unfolding ended
heights_taken end layout front [] =
    no_more end layout front (length front == layout.cols * layout.rows) refl
heights_taken end layout front (token ∷ tokens) =
    height_taken end layout front token tokens (length front == layout.cols * layout.rows)
    (height_of layout.missing token) refl refl
    (λ height. heights_taken end layout (front ++ height ∷ []) tokens)

-- the grid of a whole header and the heights that follow
abbrev laid : Result Layout HeightFault → List Token → Answer
laid read tokens =
    read >>= λ layout. heights_under layout tokens >>= λ heights. Ok (grid_with layout heights)

header_over : (end : ℕ) (met : Header) (token : Token) (tokens : List Token)
    (read : Result Layout HeightFault) → begins_height token.bytes ≡ true → layout_of met ≡ read
    → answer end (Ok (at_word met)) (token ∷ tokens) ≡ laid read (token ∷ tokens)
unfolding step header_left
header_over end met token tokens (Err fault) b l = rw (b, l) (first_fault end fault tokens)
header_over end met token tokens (Ok layout) b l =
    rw (b, l) (heights_taken end layout [] (token ∷ tokens))

text_over : (end : ℕ) (met : Header) (read : Result Layout HeightFault) → layout_of met ≡ read
    → answer end (Ok (at_word met)) [] ≡ laid read []
unfolding ended
text_over end met (Err fault) l = rw l refl
text_over end met (Ok layout) l = rw l (heights_taken end layout [] [])

-- the grid of a header that was read with the tokens that follow it
abbrev pub grid_after : ℕ → Header → List Token → Answer
grid_after end met tokens =
    header_of end met tokens >>= λ read. laid (layout_of read.header) read.heights

word_last : (end : ℕ) (met : Header) (word : Token) (name : Result Name HeightFault)
    → begins_height word.bytes ≡ false → word_at met word ≡ name
    → answer end (Ok (at_word met)) (word ∷ []) ≡ grid_after end met (word ∷ [])
unfolding step header_left placed ended header_of
word_last end met word (Err fault) b n = rw (b, n) refl
word_last end met word (Ok name) b n = rw (b, n) refl

pair_taken : (end : ℕ) (met : Header) (word given : Token) (tokens : List Token)
    (name : Result Name HeightFault)
    → begins_height word.bytes ≡ false → word_at met word ≡ name
    → ((more : Header) → answer end (Ok (at_word more)) tokens ≡ grid_after end more tokens)
    → answer end (Ok (at_word met)) (word ∷ given ∷ tokens)
    ≡ grid_after end met (word ∷ given ∷ tokens)
unfolding step header_left placed header_of
pair_taken end met word given tokens (Err fault) b n others =
    rw (b, n) (first_fault end fault tokens)
pair_taken end met word given tokens (Ok name) b n others =
    rw (b, n) (valued (with_value met name given) refl) where
      valued : (read : Result Header HeightFault) → with_value met name given ≡ read
          → answer end (read >>= λ more. Ok (at_word more)) tokens
          ≡ ((read >>= λ more. header_of end more tokens)
          >>= λ over. laid (layout_of over.header) over.heights)
      valued (Err fault) v = first_fault end fault tokens
      valued (Ok more) v = others more

grid_over : (end : ℕ) (met : Header) (word : Token) (tokens : List Token)
    → begins_height word.bytes ≡ true
    → laid (layout_of met) (word ∷ tokens) ≡ grid_after end met (word ∷ tokens)
unfolding header_of
grid_over end met word [] b = rw b refl
grid_over end met word (given ∷ tokens) b = rw b refl

word_taken : (end : ℕ) (met : Header) (word : Token) (tokens : List Token) (begins : Bool)
    → begins_height word.bytes ≡ begins
    → (begins ≡ false
    → answer end (Ok (at_word met)) (word ∷ tokens) ≡ grid_after end met (word ∷ tokens))
    → answer end (Ok (at_word met)) (word ∷ tokens) ≡ grid_after end met (word ∷ tokens)
word_taken end met word tokens false b others = others refl
word_taken end met word tokens true b others =
    header_over end met word tokens (layout_of met) b refl ∙ grid_over end met word tokens b

-- the tokens of a header and of the heights that follow
tokens_taken : (end : ℕ) (met : Header) (tokens : List Token)
    → answer end (Ok (at_word met)) tokens ≡ grid_after end met tokens
unfolding header_of
tokens_taken end met [] = text_over end met (layout_of met) refl
tokens_taken end met (word ∷ []) =
    word_taken end met word [] (begins_height word.bytes) refl
    (λ b. word_last end met word (word_at met word) b refl)
tokens_taken end met (word ∷ given ∷ tokens) =
    word_taken end met word (given ∷ tokens) (begins_height word.bytes) refl
    (λ b. pair_taken end met word given tokens (word_at met word) b refl
    (λ more. tokens_taken end more tokens))

-- all tokens of a text give its grid
pub grid_taken : (end : ℕ) (tokens : List Token)
    → answer end (Ok (at_word no_words)) tokens ≡ grid_of end tokens
unfolding grid_of
grid_taken end tokens = tokens_taken end no_words tokens
