use Rattle.std.proofs.Common.{◌≡◌, ◌+◌, drop, Some, None, subst, arith}
use Rattle.ldp_spelling.specs.Pieces.{lines, ended}
use Rattle.ldp_answer.proofs.SampleTexts.{not_ended, line_taken, report_more}
use Rattle.ldp_answer.proofs.sample.push_report.Goals as goal

pub unreachable-requires : goal.unreachable-requires
unreachable-requires c =
    not_ended (lines c.args.certificate.now) (c.loop.counter + 1)
    (omega (arith, c.requires, c.loop-test.true))
    (subst (λ left. ended left ≡ None) c.loop.invariant.left c.in_default.ensures.0)

pub loop-preserved : goal.loop-preserved
loop-preserved c =
    let all = lines c.args.certificate.now in
    let taken : ended (drop (c.loop.counter + 1) all)
    ≡ Some (c.in-Some.line.now, c.next.new.self) =
    subst (λ left. ended left ≡ Some (c.in-Some.line.now, c.next.new.self)) c.loop.invariant.left
    c.in-Some.ensures in
    record {
      left = line_taken all (c.loop.counter + 1) c.in-Some.line.now c.next.new.self taken;
      written = report_more all c.loop.counter c.in-Some.line.now c.next.new.self c.args.text.now
          c.loop.text c.push.new.self c.push-in-loop.new.self
          (omega (arith, c.requires, c.loop-test.true)) taken c.loop.invariant.written
          c.in_ok-push.ensures.ok c.in_ok-push-2.ensures.ok;
    }
