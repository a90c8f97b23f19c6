-- A line is read word by word: each reading takes words from the front, and gives what they say and
-- the words that are left.
use Rattle.std.specs.Prelude.{ℕ, List, [], ◌∷◌, Option, Some, None, bytes_eq, if◌then◌else◌}
use Rattle.ldp_spelling.specs.Numbers.{whole_in}

-- one reading after another
infixl 10 ◌>>=◌
abbrev pub ◌>>=◌ : {A B : Type 0} → Option A → (A → Option B) → Option B
None >>= f = None
Some a >>= f = f a

-- what was read of a word, and the words left; None if nothing was
abbrev pub taken : {A : Type 0} → List (List ℕ) → Option A → Option (A × List (List ℕ))
taken ws None = None
taken ws (Some a) = Some (a, ws)

-- the first word, read by this reading
abbrev pub word_in : {A : Type 0} → (List ℕ → Option A) → List (List ℕ) → Option (A × List (List ℕ))
word_in read [] = None
word_in read (w ∷ ws) = taken ws (read w)

-- the first word, a whole number from low to high
abbrev pub number_in : ℕ → ℕ → List (List ℕ) → Option (ℕ × List (List ℕ))
number_in low high ws = word_in (whole_in low high) ws

-- the words behind the first one, if that is this name
abbrev pub name_in : List ℕ → List (List ℕ) → Option (List (List ℕ))
name_in name [] = None
name_in name (w ∷ ws) = if bytes_eq w name then Some ws else None

-- the value, if no word is left
abbrev pub last_in : {A : Type 0} → A → List (List ℕ) → Option A
last_in a [] = Some a
last_in a (w ∷ ws) = None

-- the word behind a name, of a line of two words
abbrev pub lone_in : List ℕ → List (List ℕ) → Option (List ℕ)
lone_in name [] = None
lone_in name (n ∷ []) = None
lone_in name (n ∷ w ∷ []) = if bytes_eq n name then Some w else None
lone_in name (n ∷ w ∷ v ∷ ws) = None

-- a name and what is read of the one word behind it
abbrev pub named_in : {A : Type 0} → List ℕ → (List ℕ → Option A) → List (List ℕ) → Option A
named_in name read ws = lone_in name ws >>= read
