-- The shape of a list: how many inputs it takes, and how many results it has.
use Rattle.std.specs.Prelude.{◌≡◌, ℕ, length}
use Rattle.ldp_series.specs.StepList.{StepList}

-- a list takes so many inputs, and gives so many results
pub record HasShape (taken given : ℕ) (list : StepList) : Type 0 where
  pub inputs : list.inputs ≡ taken
  pub outs : length list.outs ≡ given
