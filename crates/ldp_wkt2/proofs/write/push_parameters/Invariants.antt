use Rattle.std.proofs.Common.{◌≡◌, ◌++◌, take}
use Rattle.std.specs.List.{flat_map}
use Rattle.ldp_wkt2.specs.Lines.{parameter_text}
use Rattle.ldp_wkt2.specs.Profile.{parameters_of}
use Rattle.ldp_wkt2.proofs.write.push_parameters.Given as goal

abbrev pub invariant-loop-parameter : goal.invariant-loop-parameter
invariant-loop-parameter l =
    l.text ≡ l.fn.text
    ++ flat_map (parameter_text l.crs) (take l.parameter-index (parameters_of l.crs.kind))
