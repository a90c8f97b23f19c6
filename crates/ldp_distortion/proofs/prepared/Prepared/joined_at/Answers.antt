use Rattle.std.proofs.Common.{◌≡◌, map, length, take, ap, ◌∙◌, subst}
use Rattle.std.specs.Prelude.{None, option_map}
use Rattle.ldp_num.specs.Written.{written}
use Rattle.ldp_distortion.specs.Prepared.{PreparedCells, joined_at}
use Rattle.ldp_distortion.proofs.Joints.{at_undefined, at_joint}
use Rattle.ldp_distortion.proofs.prepared.Prepared.joined_at.Goals as goal

pub returns-in_err-results-clause-distortion : goal.returns-in_err-results-clause-distortion
returns-in_err-results-clause-distortion g c =
    let P : PreparedCells → Type 0 =
    λ p. None ≡ joined_at (written g.N.Num.CARRIER) p
    (map g.N.Num.meaning (take (length p.lists.design.outs) c.args.inputs.now)) c.args.cell in
    ap (option_map g.N.Num.meaning) c.from_residual.ensures
    ∙ subst P c.self.view_is
    (at_undefined (written g.N.Num.CARRIER)
    (record { lists = c.self.inside.lists; results = c.self.inside.table.rows })
    (map g.N.Num.meaning (take (length c.self.inside.lists.design.outs) c.args.inputs.now))
    c.args.cell c.in_err-results.ensures.row)

pub returns-clause-distortion : goal.returns-clause-distortion
returns-clause-distortion g c =
    let P : PreparedCells → Type 0 =
    λ p. option_map g.N.Num.meaning c.run_first.result
    ≡ joined_at (written g.N.Num.CARRIER) p
    (map g.N.Num.meaning (take (length p.lists.design.outs) c.args.inputs.now)) c.args.cell in
    subst P c.self.view_is
    (at_joint (written g.N.Num.CARRIER) g.N.Num.meaning
    (record { lists = c.self.inside.lists; results = c.self.inside.table.rows }) c.args.inputs.now
    c.split_at_mut-of_cell.result.0.now c.put_constants.new.inputs c.outs.result.now
    c.in_ok-results.results.now c.args.cell
    (option_map g.N.Num.meaning c.run_first.result)
    c.outs.ensures.outs c.split_at_mut-of_cell.ensures.front c.in_ok-results.ensures.row
    c.put_constants.ensures
    c.run_first.ensures.first)
