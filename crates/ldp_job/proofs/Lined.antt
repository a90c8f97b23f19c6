-- Lines: what is read of them is what is written, and what is written is read.
use Rattle.std.proofs.Common.{◌≡◌, ℕ, ◌<◌, Bool, true, false, List, [], ◌∷◌, length}
use Rattle.std.proofs.Common.{Option, Some, None, Result, Ok, Err, refl, ap, ◌∙◌, arith}
use Rattle.std.specs.List.{list_all}
use Rattle.ldp_quantity.specs.Results.{◌>>=◌}
use Rattle.ldp_spelling.specs.Pieces.{words, line_of, ended, is_plain}
use Rattle.ldp_spelling.proofs.Pieces.{words_again, line_is_words}
use Rattle.ldp_job.specs.declared.fault.JobFault.{JobFault}
use Rattle.ldp_job.specs.Faults.{Lines, fitted, line_as, line_by}
use Rattle.ldp_job.proofs.Taken.{IsRead}

pub bind_ok : {A B : Type 0} (r : Result A JobFault) (f : A → Result B JobFault) (y : B)
    → (r >>= f) ≡ Ok y → (x : A) × (r ≡ Ok x) × (f x ≡ Ok y)
bind_ok (Err fault) f y e = absurd cc
bind_ok (Ok x) f y e = (x, refl, e)

pub bind_again : {A B : Type 0} (r : Result A JobFault) (x : A) (f : A → Result B JobFault)
    (y : Result B JobFault) → r ≡ Ok x → f x ≡ y → (r >>= f) ≡ y
bind_again r x f y e g = ap (λ s. s >>= f) e ∙ g

abbrev pub done : {A : Type 0} → A → Result A JobFault
done a = Ok a

pub inside_ok : {A : Type 0} (x y : A) → done x ≡ done y → x ≡ y
inside_ok x y e = cc

fitted_is : {A : Type 0} (number : ℕ) (rest : Lines) (o : Option A) (p : A × Lines)
    → fitted number rest o ≡ Ok p → (o ≡ Some p.0) × (rest ≡ p.1)
fitted_is number rest None p e = absurd cc
fitted_is {A = A} number rest (Some a) p e =
    let both : (a, rest) ≡ p = inside_ok (a, rest) p e in
    (ap (λ (q : A × Lines). Some q.0) both, ap (λ (q : A × Lines). q.1) both)

line_found : {A : Type 0} (write : A → List (List ℕ)) (Valid : A → Type 0) (number : ℕ)
    (read : List (List ℕ) → Option A)
    → ((ws : List (List ℕ)) (a : A) → read ws ≡ Some a → IsRead write Valid ws a)
    → (ls : Lines) (p : A × Lines) → line_by number read ls ≡ Ok p
    → Valid p.0 × (ls ≡ line_of (write p.0) ∷ p.1)
unfolding line_by
line_found write Valid number read found [] p e = absurd cc
line_found write Valid number read found (l ∷ []) p e = absurd cc
line_found write Valid number read found (l ∷ m ∷ ms) p e =
    let is = fitted_is number (m ∷ ms) (read (words l)) p e in
    let line = found (words l) p.0 is.0 in (
      line.valid,
      ap (λ x. x ∷ m ∷ ms) (line_is_words l (write p.0) line.same)
          ∙ ap (λ x. line_of (write p.0) ∷ x) is.1,
    )

-- a line that was read is what is written for its value
pub line_step : {A B : Type 0} (write : A → List (List ℕ)) (Valid : A → Type 0) (number : ℕ)
    (read : List (List ℕ) → Option A)
    → ((ws : List (List ℕ)) (a : A) → read ws ≡ Some a → IsRead write Valid ws a)
    → (ls : Lines) (f : A × Lines → Result B JobFault) (y : B)
    → (line_by number read ls >>= f) ≡ Ok y
    → (p : A × Lines) × Valid p.0 × (ls ≡ line_of (write p.0) ∷ p.1) × (f p ≡ Ok y)
line_step write Valid number read found ls f y e =
    let step = bind_ok (line_by number read ls) f y e in
    let is = line_found write Valid number read found ls step.0 step.1 in
    (step.0, is.0, is.1, step.2)

-- words, each plain, and at least one
abbrev pub is_written : List (List ℕ) → Bool
is_written [] = false
is_written (w ∷ ws) = list_all is_plain (w ∷ ws)

pub words_are : (ws : List (List ℕ)) → is_written ws ≡ true → words (line_of ws) ≡ ws
words_are [] e = absurd cc
words_are (w ∷ ws) e = words_again w ws e

pub ended_is : (line : List ℕ) (rest : Lines) → 0 < length rest
    → ended (line ∷ rest) ≡ Some (line, rest)
ended_is line [] h = absurd (omega arith)
ended_is line (next ∷ more) h = refl

-- a line that is written is read
pub line_again : {A B : Type 0} (ws : List (List ℕ)) (number : ℕ) (read : List (List ℕ) → Option A)
    (a : A) (rest : Lines) (f : A × Lines → Result B JobFault) (y : Result B JobFault)
    → 0 < length rest → is_written ws ≡ true → read ws ≡ Some a → f (a, rest) ≡ y
    → (line_by number read (line_of ws ∷ rest) >>= f) ≡ y
unfolding line_by
line_again ws number read a rest f y some plain is go =
    ap (λ o. line_as number read o >>= f) (ended_is (line_of ws) rest some)
    ∙ (ap (λ v. fitted number rest (read v) >>= f) (words_are ws plain)
    ∙ (ap (λ o. fitted number rest o >>= f) is ∙ go))
