use Rattle.std.proofs.Common.{◌≡◌, ◌<◌, List, length, slice_get, get_or, Some, sym, subst}
use Rattle.std.proofs.lemmas.Option.{slice_get-get_or}
use Rattle.ldp_sweep.specs.declared.stretch.Stretch.{Stretch}
use Rattle.ldp_sweep.proofs.tally.node_at.Goals as goal

pub returns : goal.returns
returns g c =
    let none : Stretch = record { from = 0; to = 0; skip = 0 } in
    let within : c.args.at < length c.nodes.result.now =
    subst (λ (nodes : List Stretch). c.args.at < length nodes) (sym c.nodes.ensures) c.requires in
    subst (λ (nodes : List Stretch).
    slice_get nodes c.args.at ≡ Some (get_or c.nodes.result.now c.args.at none))
    c.nodes.ensures
    (slice_get-get_or c.nodes.result.now c.args.at none within)
