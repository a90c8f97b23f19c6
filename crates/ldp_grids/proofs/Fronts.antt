-- Families that were read before others.
use Rattle.std.proofs.Common.{List, ◌++◌, Result, Ok, Err}
use Rattle.ldp_design.specs.declared.family.Family.{Family}
use Rattle.ldp_grids.specs.declared.fault.GridFault.{GridFault}

-- some families, and then others or their first fault
abbrev pub with_front : List Family
    → Result (List Family) GridFault → Result (List Family) GridFault
with_front front (Ok others) = Ok (front ++ others)
with_front front (Err fault) = Err fault
