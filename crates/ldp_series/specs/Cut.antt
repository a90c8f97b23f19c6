-- A list of steps cut in two. The head has the steps on which nothing bears but the first inputs,
-- so many as stay; the tail has the others, over all inputs and then the head's results. (Own choice
-- of this project.)
use Rattle.std.specs.Prelude.{◌≡◌, ◌<◌, ◌+◌, ℕ, ℤ, List, [], ◌∷◌, ◌++◌, length, take, set}
use Rattle.std.specs.Prelude.{slice_get, Option, None, Some, option_and_then}
use Rattle.ldp_num.specs.declared.step.Step.{Step}
use Rattle.ldp_num.specs.declared.step.Step.TheVariants.{Const, Input, Add, Sub, Mul, Div, Sq, Sqrt}
use Rattle.ldp_num.specs.declared.step.Step.TheVariants.{Need}
use Rattle.ldp_num.specs.Written.{Ops}
use Rattle.ldp_num.specs.Steps.{StepFits}
use Rattle.ldp_num.specs.StepList.{StepList, value_in}

-- the value of the list is that of the tail over its inputs and the head's results, defined exactly
-- where both are, in any operations
pub record IsCut (stays : ℕ) (list head tail : StepList) : Type 0 where
  pub of_head : head.inputs ≡ stays
  pub of_tail : tail.inputs ≡ list.inputs + length head.outs
  pub outs : length tail.outs ≡ length list.outs
  pub value : (ops : Ops (List ℤ)) (inputs : List (List ℤ)) → length inputs ≡ list.inputs
      → value_in ops list inputs
      ≡ option_and_then (λ kept. value_in ops tail (inputs ++ kept))
      (value_in ops head (take stays inputs))

-- both parts in the making, the places of the head's results, and where each step of the list stands
-- in the head, and in the tail
pub record Parts : Type 0 where
  pub inputs : ℕ
  pub head : List Step
  pub kept : List ℕ
  pub tail : List Step
  pub in_head : List (Option ℕ)
  pub in_tail : List (Option ℕ)

-- no step yet
abbrev pub no_parts : ℕ → Parts
no_parts inputs = record {
  inputs = inputs;
  head = [];
  kept = [];
  tail = [];
  in_head = [];
  in_tail = [];
}

-- one more step in the head
abbrev pub with_head : Parts → Step → Parts
with_head h step = record h {
  head = h.head ++ step ∷ [];
  in_head = h.in_head ++ Some (length h.head) ∷ [];
  in_tail = h.in_tail ++ None ∷ [];
}

-- one more step in the tail
abbrev pub with_tail : Parts → Step → Parts
with_tail h step = record h {
  tail = h.tail ++ step ∷ [];
  in_head = h.in_head ++ None ∷ [];
  in_tail = h.in_tail ++ Some (length h.tail) ∷ [];
}

-- the tail takes the result at one more place of the head, that of the list's step at another
abbrev pub with_kept : Parts → ℕ → ℕ → Parts
with_kept h at place = record h {
  kept = h.kept ++ place ∷ [];
  tail = h.tail ++ Input (h.inputs + length h.kept) ∷ [];
  in_tail = set h.in_tail at (Some (length h.tail));
}

-- a step of one operand a, over the place where it stands
pub record IsOne (places : List (Option ℕ)) (a : ℕ) (make : ℕ → Step) (moved : Step) : Type 0 where
  pub of : ℕ
  pub stands : slice_get places a ≡ Some (Some of)
  pub made : moved ≡ make of

-- the same of a step of two operands, a and b, which stand at the places left and right
pub record IsTwo (places : List (Option ℕ)) (a b : ℕ) (make : ℕ → ℕ → Step) (moved : Step)
    : Type 0 where
  pub left : ℕ
  pub right : ℕ
  pub left_stands : slice_get places a ≡ Some (Some left)
  pub right_stands : slice_get places b ≡ Some (Some right)
  pub made : moved ≡ make left right

-- the same step over the places where its operands stand; it takes no input but the first ones, so
-- many
abbrev pub IsMoved : ℕ → List (Option ℕ) → Step → Step → Type 0
IsMoved inputs places (Const v) moved = moved ≡ Const v
IsMoved inputs places (Input i) moved = (i < inputs) × (moved ≡ Input i)
IsMoved inputs places (Add a b) moved = IsTwo places a b Add moved
IsMoved inputs places (Sub a b) moved = IsTwo places a b Sub moved
IsMoved inputs places (Mul a b) moved = IsTwo places a b Mul moved
IsMoved inputs places (Div a b) moved = IsTwo places a b Div moved
IsMoved inputs places (Sq a) moved = IsOne places a Sq moved
IsMoved inputs places (Sqrt a) moved = IsOne places a Sqrt moved
IsMoved inputs places (Need a) moved = IsOne places a Need moved

-- parts that were made of the steps by these moves
pub data AreParts (stays : ℕ) : List Step → Parts → Type 0 where
  begun : (inputs : ℕ) → AreParts stays [] (no_parts inputs)
  in_the_head : (steps : List Step) (h : Parts) (step moved : Step) (before : ℕ)
      → AreParts stays steps h → StepFits h.inputs before step
      → IsMoved stays h.in_head step moved
      → AreParts stays (steps ++ step ∷ []) (with_head h moved)
  in_the_tail : (steps : List Step) (h : Parts) (step moved : Step) (before : ℕ)
      → AreParts stays steps h → StepFits h.inputs before step
      → IsMoved h.inputs h.in_tail step moved
      → AreParts stays (steps ++ step ∷ []) (with_tail h moved)
  kept_too : (steps : List Step) (h : Parts) (at place : ℕ)
      → AreParts stays steps h → slice_get h.in_head at ≡ Some (Some place)
      → AreParts stays steps (with_kept h at place)

-- the new parts are parts of whatever the old ones were
pub record StillParts (old new : Parts) : Type 0 where
  pub inputs : new.inputs ≡ old.inputs
  pub parts : (stays : ℕ) (steps : List Step) → AreParts stays steps old → AreParts stays steps new

-- the new parts are parts of those steps and one more
pub record Puts (stays : ℕ) (step : Step) (old new : Parts) : Type 0 where
  pub inputs : new.inputs ≡ old.inputs
  pub parts : (steps : List Step) (before : ℕ) → StepFits old.inputs before step
      → AreParts stays steps old → AreParts stays (steps ++ step ∷ []) new

-- the places where the steps at some places stand
abbrev pub AreMoved : List (Option ℕ) → List ℕ → List ℕ → Type 0
AreMoved places [] [] = Unit {0}
AreMoved places [] (m ∷ moved) = ⊥
AreMoved places (out ∷ outs) [] = ⊥
AreMoved places (out ∷ outs) (m ∷ moved) =
    (slice_get places out ≡ Some (Some m)) × AreMoved places outs moved
