-- `sample N`: its word and its answer. Own choice of this project.
use Rattle.std.specs.Prelude.{◌≡◌, ℕ, List, [], ◌∷◌, false, Option, None, option_map, Result, Ok}
use Rattle.ldp_spelling.specs.Numbers.{whole_in}
use Rattle.ldp_message.specs.declared.refusal.Refusal.{Refusal}
use Rattle.ldp_answer.specs.Sample.{sample_over, EndsAccepted}
use Rattle.ldp_answer.specs.declared.answer.Answer.{Answer}

-- the number of values on each of two axes
pub record SampleRequest : Type 0 where
  pub number : ℕ

-- the word after `sample`: from 1 to 100,000, in digits alone and without a leading zero
abbrev pub sample_request : List (List ℕ) → Option SampleRequest
sample_request (word ∷ []) = option_map (λ n. record { number = n }) (whole_in 1 100_000 word)
sample_request _ = None

-- no file is asked for
abbrev pub sample_answer : SampleRequest → Result Answer Refusal
sample_answer asked = sample_over asked.number

-- the last line of the printed text is `accepted`
pub record IsSampled (asked : SampleRequest) : Type 0 where
  pub text : List ℕ
  pub is_printed : sample_answer asked ≡ Ok record { rejected = false; text = text }
  pub is_accepted : EndsAccepted text
