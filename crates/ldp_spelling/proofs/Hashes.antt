-- A hash that is read is the one that is written.
use Rattle.std.proofs.Common.{◌≡◌, ℕ, ◌*◌, true, List, length, IfSome, Option, Some}
use Rattle.std.proofs.Common.{None, Result, Ok, Err, refl, sym, ap, subst, arith, ◌∙◌}
use Rattle.std.specs.Prelude.{bytes_eq}
use Rattle.std.proofs.lemmas.Slice.Eq.{bytes_eq-Decides}
use Rattle.hex.specs.declared.error.FromHexError.{FromHexError}
use Rattle.hex.specs.Hex.{encode_lower, decode_sized}
use Rattle.hex.proofs.HexLemmas.{decode_sized-encode_lower, decode_sized-ok, decode_sized-twice}
use Rattle.hex.proofs.HexLemmas.{decode_of-ok}
use Rattle.ldp_spelling.specs.Hashes.{hash_as, hash_in, IsHash}
use Rattle.ldp_spelling.proofs.Written.{if_some}

hash_by : (text : List ℕ) (r : Result (List ℕ) FromHexError) (h : List ℕ) → hash_as text r ≡ Some h
    → text ≡ encode_lower h
hash_by text (Err fault) h e = absurd cc
hash_by text (Ok found) h e =
    let yes = if_some (bytes_eq (encode_lower found) text) found h e in
    sym ((bytes_eq-Decides (encode_lower found) text).0 yes.0) ∙ ap encode_lower yes.1

pub hash_found : (text h : List ℕ) → hash_in text ≡ Some h → text ≡ encode_lower h
unfolding hash_in
hash_found text h e = hash_by text (decode_sized text 32) h e

-- what is read is 32 bytes
bytes_by : (text : List ℕ) (r : Result (List ℕ) FromHexError) (h : List ℕ)
    → r ≡ decode_sized text 32 → hash_as text r ≡ Some h → IsHash h
bytes_by text (Err fault) h s e = absurd cc
bytes_by text (Ok found) h s e =
    let yes = if_some (bytes_eq (encode_lower found) text) found h e in
    let digits : length text ≡ 2 * 32 = decode_sized-ok text 32 found (sym s) in
    let whole = decode_of-ok text found (sym (decode_sized-twice text 32 digits) ∙ sym s) in
    let size : length found ≡ 32 = omega (arith, digits, whole.2) in
    subst IsHash yes.1 record { size = size; bytes = whole.3 }

pub hash_is : (text h : List ℕ) → hash_in text ≡ Some h → IsHash h
unfolding hash_in
hash_is text h e = bytes_by text (decode_sized text 32) h refl e

pub hash_again : (text h : List ℕ) → IsHash h → text ≡ encode_lower h → hash_in text ≡ Some h
unfolding hash_in
hash_again text h is e =
    let read : decode_sized text 32 ≡ Ok h = ap (λ t. decode_sized t 32) e
    ∙ decode_sized-encode_lower h 32 is.size is.bytes in
    let same : bytes_eq (encode_lower h) text ≡ true =
    (bytes_eq-Decides (encode_lower h) text).1 (sym e) in
    ap (hash_as text) read ∙ rw same refl

pub hash_if : (text : List ℕ) (r : Option (List ℕ)) → r ≡ hash_in text
    → IfSome r (λ h. text ≡ encode_lower h)
hash_if text None e = tt
hash_if text (Some h) e = hash_found text h (sym e)
