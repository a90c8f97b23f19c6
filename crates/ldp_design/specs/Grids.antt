-- Design grids: the families that a search goes over, and the rule of its bounds.
use Rattle.std.specs.Prelude.{List}
use Rattle.ldp_design.specs.declared.family.Family.{Family}
use Rattle.ldp_design.specs.declared.rule.Rule.{Rule}
use Rattle.ldp_design.specs.declared.rule.Rule.TheVariants.{Plain}

-- the families, the first of which has number 1, and the rule by which boxes are bounded
pub record DesignGrids : Type 0 where
  pub families : List Family
  pub rule : Rule

-- families with the plain rule
abbrev pub plain_grids : List Family → DesignGrids
plain_grids families = record { families = families; rule = Plain }
