use Rattle.std.proofs.Common.{ap, ◌∙◌}
use Rattle.ldp_distortion.specs.Prepared.{distortions_of}
use Rattle.ldp_distortion.proofs.Joints.{prepared_distortions}
use Rattle.ldp_distortion.proofs.prepared.Prepared.new.Goals as goal

pub returns-clause-distortions : goal.returns-clause-distortions
returns-clause-distortions c = λ at.
    ap (λ rows. distortions_of (record { lists = c.args.lists; results = rows }) at)
    c.in_ok-table.ensures.rows
    ∙ prepared_distortions c.args.lists c.args.cells.now.cells at
