-- How a fault of design grids is told: by its name and its values, each after a blank. A key is
-- told as it stands in the text, and a part of its value after a point: `MissingKey 1 k0.step`.
-- Own choice of this project.
use Rattle.std.specs.Prelude.{ℕ, List, [], ◌++◌, decimal, codes}
use Rattle.ldp_design.specs.declared.key.Key.{Key}
use Rattle.ldp_design.specs.Words.{key_text}
use Rattle.ldp_grids.specs.declared.fault.Part.{Part}
use Rattle.ldp_grids.specs.declared.fault.Part.TheVariants as parts
use Rattle.ldp_grids.specs.declared.fault.GridFault.{GridFault}
use Rattle.ldp_grids.specs.declared.fault.GridFault.TheVariants as faults

-- what follows a key for a part of its value
abbrev pub part_suffix : Part → List ℕ
part_suffix parts.Whole = []
part_suffix parts.From = codes ".from"
part_suffix parts.Step = codes ".step"
part_suffix parts.Count = codes ".count"

-- a family, and a key of it with a part
abbrev pub place_text : ℕ → Key → Part → List ℕ
place_text family key part =
    decimal family ++ (codes " " ++ (key_text key ++ part_suffix part))

-- a fault of design grids, with the family's number (from 1; 0 for the document) and the key, or a
-- count
abbrev pub grid_fault_text : GridFault → List ℕ
grid_fault_text faults.NotToml = codes "NotToml"
grid_fault_text faults.NoFamily = codes "NoFamily"
grid_fault_text (faults.TooManyFamilies count) = codes "TooManyFamilies " ++ decimal count
grid_fault_text (faults.MissingKey family key part) =
    codes "MissingKey " ++ place_text family key part
grid_fault_text (faults.UnknownKey family table) =
    codes "UnknownKey " ++ place_text family table parts.Whole
grid_fault_text (faults.BadValue family key part) =
    codes "BadValue " ++ place_text family key part
grid_fault_text (faults.OutOfRange family key part) =
    codes "OutOfRange " ++ place_text family key part
grid_fault_text (faults.StepNotPositive family key) =
    codes "StepNotPositive " ++ place_text family key parts.Whole
grid_fault_text (faults.CrossesEquator family) = codes "CrossesEquator " ++ decimal family
grid_fault_text (faults.TooManyDesigns family) = codes "TooManyDesigns " ++ decimal family
grid_fault_text faults.Memory = codes "Memory"
