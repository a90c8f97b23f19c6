use Rattle.std.proofs.Common.{◌≡◌, ◌+◌, length, map, drop}
use Rattle.toml.specs.View.{view}
use Rattle.ldp_design.specs.declared.rule.Rule.TheVariants.{Plain}
use Rattle.ldp_grids.specs.Reading.{families_from}
use Rattle.ldp_grids.proofs.Fronts.{with_front}
use Rattle.ldp_grids.proofs.read.read_families.Given as goal

abbrev pub invariant-loop-value : goal.invariant-loop-value
invariant-loop-value l = record {
  rest : with_front l.grids.families
      (families_from (l.value-index + 1) (map view (drop l.value-index l.tables)))
      ≡ families_from 1 (map view l.tables);
  count : length l.grids.families ≡ l.value-index;
  rule : l.grids.rule ≡ Plain;
}
