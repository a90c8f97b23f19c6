use Rattle.std.proofs.Common.{sym, subst}
use Rattle.ldp_tolerance.specs.Slack.{IsGreatestOf}
use Rattle.ldp_tolerance.specs.declared.side.Slack.{Slack}
use Rattle.ldp_tolerance.proofs.Slacks.{slack-over, slack-greatest}
use Rattle.ldp_tolerance.proofs.both.slack.Goals as goal

pub returns-clause-over : goal.returns-clause-over
returns-clause-over c cells t low high =
    slack-over c.args.low.now c.args.high.now c.args.at cells t c.worst-at_low.result
    c.worst-at_high.result c.greater.result c.greater.ensures c.worst-at_low.ensures.worst
    c.worst-at_high.ensures.worst low high

pub returns-clause-greatest : goal.returns-clause-greatest
returns-clause-greatest c cells t once low high =
    subst (λ (found : Slack). IsGreatestOf c.args.low.now.lists c.args.at cells t found)
    (sym (returns-clause-over c cells t low high))
    (slack-greatest c.args.low.now.lists c.args.at cells t once)
