-- The tokens of a text, one after another.
use Rattle.std.proofs.Common.{◌≡◌, ℕ, suc, ◌+◌, ◌<◌, Bool, true, false, List, [], ◌∷◌, length, take}
use Rattle.std.proofs.Common.{drop, arith, refl, ap, ◌∙◌, filter, if◌then◌else◌, length-drop}
use Rattle.std.specs.List.{prefix_len, position_or_len}
use Rattle.ldp_tokens.specs.Tokens.{Token, is_white, is_sign, ends_run, is_some_run, pieces, tokens}
use Rattle.ldp_tokens.specs.Tokens.{token_len}

skip_by : (signs : List ℕ) (place byte : ℕ) (bytes : List ℕ) (white : Bool) → is_white byte ≡ white
    → tokens signs (place + 1) bytes ≡ tokens signs (place + 1 + prefix_len is_white bytes)
    (drop (prefix_len is_white bytes) bytes)
    → tokens signs place (byte ∷ bytes) ≡ tokens signs (place + prefix_len is_white (byte ∷ bytes))
    (drop (prefix_len is_white (byte ∷ bytes)) (byte ∷ bytes))
skip_by signs place byte bytes true e h =
    let n = prefix_len is_white bytes in
    let one : 1 + n ≡ suc n = omega arith in
    let same : place + suc n ≡ place + 1 + n = omega arith in
    rw (e, one, same) h
skip_by signs place byte bytes false e h =
    let same : place + 0 ≡ place = omega arith in
    rw (e, same, e) refl

-- white space at the front gives no token
pub tokens-skip : (signs : List ℕ) (place : ℕ) (text : List ℕ)
    → tokens signs place text ≡ tokens signs (place + prefix_len is_white text)
    (drop (prefix_len is_white text) text)
tokens-skip signs place [] = refl
tokens-skip signs place (byte ∷ bytes) =
    skip_by signs place byte bytes (is_white byte) refl (tokens-skip signs (place + 1) bytes)

-- the pieces after a run of bytes
abbrev pieces_after : List ℕ → ℕ → List ℕ → List Token
pieces_after signs place [] = []
pieces_after signs place (byte ∷ bytes) =
    if is_white byte then pieces signs (place + 1) bytes
    else record { place = place; bytes = byte ∷ [] } ∷ pieces signs (place + 1) bytes

-- the run that a text begins with, maybe empty
abbrev run_at : List ℕ → ℕ → List ℕ → Token
run_at signs place text =
    record { place = place; bytes = take (position_or_len (ends_run signs) text) text }

abbrev run_len : List ℕ → List ℕ → ℕ
run_len signs text = position_or_len (ends_run signs) text

first_by : (signs : List ℕ) (place byte : ℕ) (bytes : List ℕ) (white sign : Bool)
    → is_white byte ≡ white → is_sign signs byte ≡ sign
    → pieces signs (place + 1) bytes ≡ run_at signs (place + 1) bytes
    ∷ pieces_after signs (place + 1 + run_len signs bytes) (drop (run_len signs bytes) bytes)
    → pieces signs place (byte ∷ bytes) ≡ run_at signs place (byte ∷ bytes) ∷ pieces_after signs
    (place + run_len signs (byte ∷ bytes)) (drop (run_len signs (byte ∷ bytes)) (byte ∷ bytes))
first_by signs place byte bytes true sign e s h =
    let same : place + 0 ≡ place = omega arith in
    rw (e, same, e) refl
first_by signs place byte bytes false true e s h =
    let same : place + 0 ≡ place = omega arith in
    rw (e, s, same, e) refl
first_by signs place byte bytes false false e s h =
    let n = run_len signs bytes in
    let one : 1 + n ≡ suc n = omega arith in
    let same : place + suc n ≡ place + 1 + n = omega arith in
    rw (e, s, one, same, h) refl

-- the first piece is the run at the front
pieces-first : (signs : List ℕ) (place : ℕ) (text : List ℕ)
    → pieces signs place text ≡ run_at signs place text
    ∷ pieces_after signs (place + run_len signs text) (drop (run_len signs text) text)
pieces-first signs place [] = refl
pieces-first signs place (byte ∷ bytes) =
    first_by signs place byte bytes (is_white byte) (is_sign signs byte) refl refl
    (pieces-first signs (place + 1) bytes)

abbrev some_of : List Token → List Token
some_of list = filter (λ piece. is_some_run piece.bytes) list

after_by : (signs : List ℕ) (place byte : ℕ) (bytes : List ℕ) (white sign : Bool)
    → is_white byte ≡ white → is_sign signs byte ≡ sign → run_len signs (byte ∷ bytes) ≡ 0
    → some_of (pieces_after signs place (byte ∷ bytes)) ≡ tokens signs place (byte ∷ bytes)
after_by signs place byte bytes true sign e s h = rw e refl
after_by signs place byte bytes false true e s h = rw (e, s) refl
after_by signs place byte bytes false false e s h =
    let none : 1 + run_len signs bytes ≡ 0 = rw (e, s) at h in absurd (omega arith)

-- where no run stands at the front, the pieces that follow have all tokens
after_none : (signs : List ℕ) (place : ℕ) (text : List ℕ) → run_len signs text ≡ 0
    → some_of (pieces_after signs place text) ≡ tokens signs place text
after_none signs place [] h = refl
after_none signs place (byte ∷ bytes) h =
    after_by signs place byte bytes (is_white byte) (is_sign signs byte) refl refl h

run_ends_by : (signs : List ℕ) (byte : ℕ) (bytes : List ℕ) (ends : Bool)
    → ends_run signs byte ≡ ends
    → run_len signs (drop (run_len signs bytes) bytes) ≡ 0
    → run_len signs (drop (run_len signs (byte ∷ bytes)) (byte ∷ bytes)) ≡ 0
run_ends_by signs byte bytes true e h = rw (e, e) refl
run_ends_by signs byte bytes false e h =
    let one : 1 + run_len signs bytes ≡ suc (run_len signs bytes) = omega arith in
    rw (e, one) h

-- no run stands at the front of what follows a run
run_ends : (signs : List ℕ) (text : List ℕ) → run_len signs (drop (run_len signs text) text) ≡ 0
run_ends signs [] = refl
run_ends signs (byte ∷ bytes) =
    run_ends_by signs byte bytes (ends_run signs byte) refl (run_ends signs bytes)

white_ends_by : (byte : ℕ) (bytes : List ℕ) (white : Bool) → is_white byte ≡ white
    → prefix_len is_white (drop (prefix_len is_white bytes) bytes) ≡ 0
    → prefix_len is_white (drop (prefix_len is_white (byte ∷ bytes)) (byte ∷ bytes)) ≡ 0
white_ends_by byte bytes true e h =
    let one : 1 + prefix_len is_white bytes ≡ suc (prefix_len is_white bytes) = omega arith in
    rw (e, one) h
white_ends_by byte bytes false e h = rw (e, e) refl

-- white space ends where it ends
pub white_ends : (text : List ℕ) → prefix_len is_white (drop (prefix_len is_white text) text) ≡ 0
white_ends [] = refl
white_ends (byte ∷ bytes) = white_ends_by byte bytes (is_white byte) refl (white_ends bytes)

-- a run at the front is the first token
run_first_by : (signs : List ℕ) (place byte : ℕ) (bytes : List ℕ) (white : Bool)
    → is_white byte ≡ white → is_sign signs byte ≡ false → prefix_len is_white (byte ∷ bytes) ≡ 0
    → tokens signs place (byte ∷ bytes) ≡ run_at signs place (byte ∷ bytes) ∷ tokens signs
    (place + run_len signs (byte ∷ bytes)) (drop (run_len signs (byte ∷ bytes)) (byte ∷ bytes))
run_first_by signs place byte bytes true e s none =
    let white : 1 + prefix_len is_white bytes ≡ 0 = rw e at none in absurd (omega arith)
run_first_by signs place byte bytes false e s none =
    let n = run_len signs (byte ∷ bytes) in
    let one : 1 + run_len signs bytes ≡ suc (run_len signs bytes) = omega arith in
    let has_byte : (rest : List Token) → some_of (run_at signs place (byte ∷ bytes) ∷ rest)
    ≡ run_at signs place (byte ∷ bytes) ∷ some_of rest =
    λ rest. rw (e, s, one) refl in
    ap some_of (pieces-first signs place (byte ∷ bytes))
    ∙ has_byte (pieces_after signs (place + n) (drop n (byte ∷ bytes)))
    ∙ ap (λ ts. run_at signs place (byte ∷ bytes) ∷ ts)
    (after_none signs (place + n) (drop n (byte ∷ bytes)) (run_ends signs (byte ∷ bytes)))

counted : (signs : List ℕ) (place n : ℕ) (text : List ℕ) → n ≡ run_len signs text
    → tokens signs place text ≡ run_at signs place text ∷ tokens signs (place + run_len signs text)
    (drop (run_len signs text) text)
    → tokens signs place text ≡ record { place = place; bytes = take n text }
    ∷ tokens signs (place + n) (drop n text)
counted signs place n text e h = rw e h

first_token_by : (signs : List ℕ) (place byte : ℕ) (bytes : List ℕ) (white sign : Bool)
    → is_white byte ≡ white → is_sign signs byte ≡ sign → prefix_len is_white (byte ∷ bytes) ≡ 0
    → tokens signs place (byte ∷ bytes)
    ≡ record { place = place; bytes = take (token_len signs (byte ∷ bytes)) (byte ∷ bytes) }
    ∷ tokens signs (place + token_len signs (byte ∷ bytes))
    (drop (token_len signs (byte ∷ bytes)) (byte ∷ bytes))
first_token_by signs place byte bytes true sign e s none =
    let white : 1 + prefix_len is_white bytes ≡ 0 = rw e at none in absurd (omega arith)
first_token_by signs place byte bytes false true e s none = rw (s, e) refl
first_token_by signs place byte bytes false false e s none =
    counted signs place (token_len signs (byte ∷ bytes)) (byte ∷ bytes) (rw s refl)
    (run_first_by signs place byte bytes false e s none)

-- the first token of a text
tokens-first : (signs : List ℕ) (place : ℕ) (text : List ℕ) → prefix_len is_white text ≡ 0
    → 0 < length text
    → tokens signs place text ≡ record { place = place; bytes = take (token_len signs text) text }
    ∷ tokens signs (place + token_len signs text) (drop (token_len signs text) text)
tokens-first signs place [] none h = absurd (omega arith)
tokens-first signs place (byte ∷ bytes) none h =
    first_token_by signs place byte bytes (is_white byte) (is_sign signs byte) refl refl none

-- the first token of a text, and the tokens of what follows it
pub tokens-next : (signs : List ℕ) (place gap count : ℕ) (text after : List ℕ)
    → gap ≡ prefix_len is_white text → after ≡ drop gap text
    → count ≡ token_len signs after → 0 < length after
    → tokens signs place text ≡ record { place = place + gap; bytes = take count after }
    ∷ tokens signs (place + gap + count) (drop count after)
tokens-next signs place gap count text after g a n h =
    let none : prefix_len is_white after ≡ 0 = rw (a, g) (white_ends text) in
    let skipped : tokens signs place text ≡ tokens signs (place + gap) after =
    rw (a, g) (tokens-skip signs place text) in
    skipped ∙ rw n (tokens-first signs (place + gap) after none h)

nothing : (bytes : List ℕ) → length bytes ≡ 0 → bytes ≡ []
nothing [] h = refl
nothing (byte ∷ bytes) h = absurd (omega arith)

-- a text of white space has no token
pub tokens-none : (signs : List ℕ) (place gap : ℕ) (text after : List ℕ)
    → gap ≡ prefix_len is_white text → after ≡ drop gap text
    → length after ≡ 0 → tokens signs place text ≡ []
tokens-none signs place gap text after g a h =
    let skipped : tokens signs place text ≡ tokens signs (place + gap) after =
    rw (a, g) (tokens-skip signs place text) in
    skipped ∙ ap (tokens signs (place + gap)) (nothing after h)

-- nor has what is left of it
pub tokens-left : (signs : List ℕ) (place count : ℕ) (after rest : List ℕ) → rest ≡ drop count after
    → length after ≡ 0 → tokens signs place rest ≡ []
tokens-left signs place count after rest r h =
    let empty : length (drop count after) ≡ 0 = rw (length-drop count after) (omega (arith, h)) in
    ap (tokens signs place) (r ∙ nothing (drop count after) empty)
