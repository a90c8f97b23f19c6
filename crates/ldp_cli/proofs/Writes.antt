-- Two writes in a row.
use Rattle.std.proofs.Common.{◌≡◌, ℕ, ◌+◌, ◌-◌, ◌++◌, List, length, take, drop, append_assoc}
use Rattle.std.proofs.Common.{append-nil, refl, ap, sym, ◌∙◌}
use Rattle.std.proofs.Math.Seq.{take-add, take-length}
use Rattle.std.proofs.lemmas.List.{take_rest}
use Rattle.std.specs.Prelude.{Option, Some, None, option_map}
use Rattle.ldp_cli.specs.Growth.{GrowsBy}

two_pieces : (text bytes : List ℕ) (first more : ℕ)
    → (bytes ++ take first text) ++ take more (take (length text - first) (drop first text))
    ≡ bytes ++ take (first + more) text
two_pieces text bytes first more =
    rw (append_assoc, take_rest text first, take-add first more text) refl

-- a write of what follows the first part
pub grows_on : (text : List ℕ) (first more : ℕ) (before between now : Option (List ℕ))
    → GrowsBy first text before between
    → GrowsBy more (take (length text - first) (drop first text)) between now
    → GrowsBy (first + more) text before now
grows_on text first more None between now h k =
    k ∙ ap (option_map (λ b. b ++ take more (take (length text - first) (drop first text)))) h
grows_on text first more (Some bytes) between now h k =
    k ∙ ap (option_map (λ b. b ++ take more (take (length text - first) (drop first text)))) h
    ∙ ap Some (two_pieces text bytes first more)

-- a write of nothing
pub grows_by_none : (text : List ℕ) (before now : Option (List ℕ)) → now ≡ before
    → GrowsBy 0 text before now
grows_by_none text None now h = h
grows_by_none text (Some bytes) now h = h ∙ ap Some (sym (append-nil bytes))

-- a write of the whole
pub grows_whole : (count : ℕ) (text : List ℕ) (before now : Option (List ℕ)) → count ≡ length text
    → GrowsBy count text before now
    → now ≡ option_map (λ bytes. bytes ++ text) before
grows_whole count text None now e h = h
grows_whole count text (Some bytes) now e h =
    h ∙ ap (λ t. Some (bytes ++ t)) (ap (λ n. take n text) e ∙ take-length text)
