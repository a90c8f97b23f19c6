use Rattle.std.proofs.Common.{◌≡◌, ◌<◌, length, arith, sym, ◌∙◌}
use Rattle.std.proofs.lemmas.Bool.Decides.{nat_tests}
use Rattle.ldp_tokens.proofs.Runs.{tokens-next, tokens-none, tokens-left}
use Rattle.ldp_tokens.proofs.tokens.Tokens.next.Goals as goal

pub returns-then-is_empty : goal.returns-then-is_empty
returns-then-is_empty c =
    let after = c.split_at.result.1.now in
    let none : length after ≡ 0 = grind (arith, nat_tests) in
    let signs = c.self.inside.signs.now in (
      sym c.self.view_is
          ∙ tokens-none signs c.self.inside.place c.white_len-gap.result c.self.inside.text.now
          after
          c.white_len-gap.ensures.value c.split_at.ensures.back none,
      tokens-left signs _ c.token_len-length.result after c.split_at-2.result.1.now
          c.split_at-2.ensures.back none,
    )

pub returns : goal.returns
returns c =
    let after = c.split_at.result.1.now in
    let some : 0 < length after = grind (arith, nat_tests) in
    sym c.self.view_is
    ∙ rw (c.split_at-2.ensures.front, c.split_at-2.ensures.back)
    (tokens-next c.self.inside.signs.now c.self.inside.place c.white_len-gap.result
    c.token_len-length.result c.self.inside.text.now after
    c.white_len-gap.ensures.value c.split_at.ensures.back c.token_len-length.ensures.value some)
