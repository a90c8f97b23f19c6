-- `eval HEIGHTS LON0 K0`: its words, its file and its answer. Own choice of this project.
use Rattle.std.specs.Prelude.{ℕ, List, [], ◌∷◌, Option, None, option_map, Result}
use Rattle.std.specs.Result.{result_ok}
use Rattle.ldp_io.specs.Shelf.{Files}
use Rattle.ldp_quantity.specs.Results.{◌>>=◌}
use Rattle.ldp_answer.specs.Central.{CentralDesign, central_of}
use Rattle.ldp_answer.specs.Eval.{eval_over}
use Rattle.ldp_message.specs.declared.file_role.FileRole.TheVariants as roles
use Rattle.ldp_answer.specs.declared.answer.Answer.{Answer}
use Rattle.ldp_message.specs.declared.refusal.Refusal.{Refusal}
use Rattle.ldp_cli.specs.Readings.{heights_read}
use Rattle.ldp_cli.specs.Files.{Asked}

-- the name of the file of heights, and the transverse Mercator design
pub record EvalRequest : Type 0 where
  pub heights : List ℕ
  pub design : CentralDesign

-- the words after `eval`
abbrev pub eval_request : List (List ℕ) → Option EvalRequest
eval_request (heights ∷ longitude ∷ scale ∷ []) =
    option_map (λ design. record { heights = heights; design = design })
    (result_ok (central_of longitude scale))
eval_request _ = None

-- the file to read: the heights
abbrev pub eval_files : EvalRequest → List Asked
eval_files asked = record { role = roles.Heights; name = asked.heights } ∷ []

-- what `eval` answers over the files by their names, or its refusal
abbrev pub eval_answer : EvalRequest → Files → Result Answer Refusal
eval_answer asked files = do
  grid ← heights_read (files asked.heights)
  eval_over grid asked.design
