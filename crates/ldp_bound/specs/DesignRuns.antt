-- Runs of the design list of each kind. Only private functions speak of it.
use Rattle.std.specs.Prelude.{◌≡◌, true, false}
use Rattle.ldp_num.specs.StepList.{StepList}
use Rattle.ldp_design.specs.declared.family.Kind.TheVariants.{Tm, Lambert, Hotine, Lambert2}
use Rattle.ldp_bound.specs.Kinds.{lists_of}

-- these are the design lists of the kinds, the oblique ones by hemisphere
pub record AreOfKinds (tm lambert lambert2 north south : StepList) : Type 0 where
  pub of_tm : tm ≡ (lists_of Tm false).design
  pub of_lambert : lambert ≡ (lists_of Lambert false).design
  pub of_lambert2 : lambert2 ≡ (lists_of Lambert2 false).design
  pub of_north : north ≡ (lists_of Hotine false).design
  pub of_south : south ≡ (lists_of Hotine true).design
