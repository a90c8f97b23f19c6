use Rattle.std.proofs.Common.{◌≡◌, ◌+◌, length, rules, subst, List, ℕ}
use Rattle.std.specs.Prelude.{Option, Some, slice_get}
use Rattle.ldp_series.proofs.Moves.{still_by}
use Rattle.ldp_series.proofs.cut.Halves.keep.Goals as goal

pub returns : goal.returns
returns c =
    let h = c.self.inside in
    let is : slice_get h.in_head.items c.args.place ≡ Some (Some c.in-Some.at) =
    subst (λ (xs : List (Option ℕ)). slice_get xs c.args.place ≡ Some (Some c.in-Some.at))
    c.deref-2.ensures.value c.in-Some.ensures in
    let input : c.in-Ok.input ≡ h.inputs + length h.kept.items = search rules in
    let size : c.len-3.result ≡ length h.tail.items = search rules in
    rw (← c.self.view_is)
    (still_by h.inputs h.head.items h.kept.items c.push-2.new.self.items h.tail.items
    c.push.new.self.items h.in_head.items h.in_tail.items _ c.args.place c.in-Some.at
    c.in-Ok.input c.len-3.result is c.in_ok-push-2.ensures.items c.in_ok-push.ensures.items input
    (search rules) size)
