use Rattle.std.proofs.Common.{◌≡◌, ◌≢◌, Err, IfSome, arith}
use Rattle.std.proofs.lemmas.Grind.{common_steps}
use Rattle.ldp_heights.specs.Pieces.{end}
use Rattle.ldp_heights.specs.declared.fault.HeightFault.TheVariants.{Memory}
use Rattle.ldp_heights.proofs.Fed.{holds_read}
use Rattle.ldp_heights.proofs.reader.HeightReader.finish.Goals as goal

pub returns-in-Some-clause-read : goal.returns-in-Some-clause-read
returns-in-Some-clause-read c = λ text holds.
    let read = c.finish.result in
    let exact : IfSome c.args.self (λ s. read ≢ Err Memory → read ≡ end s) =
    grind (arith, common_steps) in
    holds_read c.args.self text read holds exact
