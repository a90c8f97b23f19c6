-- Results one after another: the value handed on, or the first error. A `do` block over results is
-- written by it.
use Rattle.std.specs.Prelude.{Result, Ok, Err}

-- what f makes of a value; an error goes on as it is
infixl 10 ◌>>=◌
abbrev pub ◌>>=◌ : {A B E : Type 0} → Result A E → (A → Result B E) → Result B E
Ok x >>= f = f x
Err e >>= f = Err e
