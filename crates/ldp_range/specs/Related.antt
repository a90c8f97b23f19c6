-- One list of steps over two types of values, side by side.
use Rattle.std.specs.Prelude.{◌≡◌, ℤ, List, [], ◌∷◌, Option, Some}
use Rattle.ldp_num.specs.declared.step.Step.{Step}
use Rattle.ldp_num.specs.Written.{Ops}
use Rattle.ldp_num.specs.Steps.{results_of}
use Rattle.ldp_num.specs.StepList.{StepList, value_in}

-- two lists of one length, whose elements are related place by place
abbrev pub Pairwise : {A B : Type 0} → (A → B → Type 0) → List A → List B → Type 0
Pairwise R [] [] = Unit {0}
Pairwise R [] (y ∷ ys) = ⊥
Pairwise R (x ∷ xs) [] = ⊥
Pairwise R (x ∷ xs) (y ∷ ys) = R x y × Pairwise R xs ys

-- a value is there, and it is related to t
pub record Reaches {A B : Type 0} (R : A → B → Type 0) (found : Option A) (t : B) : Type 0 where
  pub value : A
  pub is : found ≡ Some value
  pub related : R value t

-- at related operands f is defined wherever g is, with a related result
abbrev pub FollowsOne : {A B : Type 0} → (A → B → Type 0) → (A → Option A) → (B → Option B) → Type 0
FollowsOne {A} {B} R f g = (a : A) (b t : B) → R a b → g b ≡ Some t → Reaches R (f a) t

-- the same of operations of two values
abbrev pub FollowsTwo : {A B : Type 0} → (A → B → Type 0)
    → (A → A → Option A) → (B → B → Option B) → Type 0
FollowsTwo {A} {B} R f g =
    (a c : A) (b d t : B) → R a b → R c d → g b d ≡ Some t → Reaches R (f a c) t

-- each operation of f follows that of g
pub record Follows {A B : Type 0} (R : A → B → Type 0) (f : Ops A) (g : Ops B) : Type 0 where
  pub constant : (v : ℤ) → R (f.constant v) (g.constant v)
  pub add : FollowsTwo R f.add g.add
  pub sub : FollowsTwo R f.sub g.sub
  pub mul : FollowsTwo R f.mul g.mul
  pub div : FollowsTwo R f.div g.div
  pub sq : FollowsOne R f.sq g.sq
  pub sqrt : FollowsOne R f.sqrt g.sqrt
  pub need : FollowsOne R f.need g.need

-- from related inputs, a list of steps is defined in f wherever it is in g, and its results are
-- related
abbrev pub ResultsFollow : {A B : Type 0} → (A → B → Type 0) → Ops A → Ops B → Type 0
ResultsFollow {A} {B} R f g = (steps : List Step) (left : List A) (right found : List B)
    → Pairwise R left right → results_of g right steps ≡ Some found
    → Reaches (Pairwise R) (results_of f left steps) found

-- the same of the value of a list
abbrev pub ValuesFollow : {A B : Type 0} → (A → B → Type 0) → Ops A → Ops B → Type 0
ValuesFollow {A} {B} R f g = (list : StepList) (left : List A) (right found : List B)
    → Pairwise R left right → value_in g list right ≡ Some found
    → Reaches (Pairwise R) (value_in f list left) found
