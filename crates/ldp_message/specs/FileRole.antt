-- The names of the roles of files. Own choice of this project.
use Rattle.std.specs.Prelude.{ℕ, List, codes}
use Rattle.ldp_message.specs.declared.file_role.FileRole.{FileRole}
use Rattle.ldp_message.specs.declared.file_role.FileRole.TheVariants as roles

-- what a message calls a file of this role
abbrev pub role_name : FileRole → List ℕ
role_name roles.Zone = codes "zone"
role_name roles.Heights = codes "heights"
role_name roles.Grids = codes "grids"
role_name roles.Job = codes "job"
