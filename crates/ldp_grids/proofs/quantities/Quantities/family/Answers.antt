use Rattle.std.proofs.Common.{rules}
use Rattle.std.proofs.lemmas.Int.{to_z-of_z}
use mir.Val.{SFits}
use mir.Syntax.{w64, w128}
use Rattle.ldp_grids.proofs.Valid.{quantities_are_read}
use Rattle.ldp_grids.proofs.quantities.Quantities.family.Goals as goal

pub returns-clause-read : goal.returns-clause-read
returns-clause-read c =
    let origin : SFits w128 c.args.self.now.origin.from = search rules in
    let easting : SFits w64 c.millimetres.result = search rules in
    let northing : SFits w64 c.millimetres-2.result = search rules in
    rw (
      to_z-of_z w128 c.args.self.now.origin.from origin,
      to_z-of_z w64 c.millimetres.result easting,
      to_z-of_z w64 c.millimetres-2.result northing,
      c.third_axis.ensures,
      c.millimetres.ensures,
      c.millimetres-2.ensures,
    )
    (quantities_are_read c.args.kind c.args.self.now c.requires)
