-- How a fault of a zone is told: by its name and its values, each after a blank. Own choice of
-- this project.
use Rattle.std.specs.Prelude.{ℕ, List, ◌++◌, decimal, codes}
use Rattle.ldp_zone.specs.declared.fault.ZoneFault.{ZoneFault}
use Rattle.ldp_zone.specs.declared.fault.ZoneFault.TheVariants as faults

-- a fault of a zone, with its place in bytes from 0, or the number of rings before it
abbrev pub zone_fault_text : ZoneFault → List ℕ
zone_fault_text (faults.NotAPolygon place) = codes "NotAPolygon " ++ decimal place
zone_fault_text (faults.Measured place) = codes "Measured " ++ decimal place
zone_fault_text (faults.BadNumber place) = codes "BadNumber " ++ decimal place
zone_fault_text (faults.OutOfRange place) = codes "OutOfRange " ++ decimal place
zone_fault_text (faults.OpenRing ring) = codes "OpenRing " ++ decimal ring
zone_fault_text (faults.ShortRing ring) = codes "ShortRing " ++ decimal ring
zone_fault_text faults.TooManyPoints = codes "TooManyPoints"
zone_fault_text (faults.Trailing place) = codes "Trailing " ++ decimal place
zone_fault_text faults.Memory = codes "Memory"
