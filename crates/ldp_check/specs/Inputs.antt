-- The files that a certificate speaks of, each by its hash.
use Rattle.std.specs.Prelude.{not, Option, None, Some, bytes_eq, if◌then◌else◌}
use Rattle.ldp_job.specs.declared.names.Names.{Names}
use Rattle.ldp_job.specs.declared.names.Role.{Role}
use Rattle.ldp_job.specs.declared.names.Role.TheVariants.{Zone, Heights, Grids}

-- the first file whose hash is not the named one
abbrev pub other_name : Names → Names → Option Role
other_name present named =
    if not (bytes_eq present.zone named.zone) then Some Zone
    else if not (bytes_eq present.heights named.heights) then Some Heights
    else if not (bytes_eq present.grids named.grids) then Some Grids
    else None

-- the first file at hand that is not the one that a certificate names; a certificate without names
-- speaks of no file
abbrev pub other_input : Names → Option Names → Option Role
other_input present None = None
other_input present (Some named) = other_name present named
