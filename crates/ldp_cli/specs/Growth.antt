-- How the bytes of a sink grew, where it tells them. Own choice of this project.
use Rattle.std.specs.Prelude.{◌≡◌, ℕ, List, ◌++◌, take, Option, option_map}

-- by a text
abbrev pub GrowsByAll : List ℕ → Option (List ℕ) → Option (List ℕ) → Type 0
GrowsByAll text before now = now ≡ option_map (λ bytes. bytes ++ text) before

-- by the first so many bytes of a text
abbrev pub GrowsBy : ℕ → List ℕ → Option (List ℕ) → Option (List ℕ) → Type 0
GrowsBy count text before now = GrowsByAll (take count text) before now

-- by a prefix of a text
abbrev pub GrowsByPrefix : List ℕ → Option (List ℕ) → Option (List ℕ) → Type 0
GrowsByPrefix text before now = (count : ℕ) × GrowsBy count text before now
