use Rattle.std.proofs.Common.{◌≡◌, ◌+◌, length, Some, arith, sym, ◌∙◌, ap}
use Rattle.std.proofs.lemmas.Grind.{common_steps}
use Rattle.ldp_heights.specs.Pieces.{go, bytes_taken}
use Rattle.ldp_heights.proofs.Fed.{holds_more}
use Rattle.ldp_heights.proofs.reader.HeightReader.feed.Goals as goal

pub returns-clause-holds : goal.returns-clause-holds
returns-clause-holds c = λ text holds.
    let piece = c.args.piece.now in
    let held : c.args.self.now ≡ Some c.in-Some.reading = sym c.self.view_is ∙ c.in-Some.is in
    let taken : c.feed.new.self ≡ go c.in-Some.reading piece = grind (arith, common_steps) in
    let counted : c.feed.new.self.taken ≡ bytes_taken c.args.self.now + length piece =
    rw held (grind (arith, common_steps)) in
    holds_more c.args.self.now (Some c.feed.new.self) text piece holds
    (rw held (ap Some taken)) counted
