use Rattle.std.proofs.Common.{◌≡◌, ℕ, List, length, arith, ap, sym, ◌∙◌, take, drop, ℤ}
use Rattle.std.proofs.lemmas.Option.{slice_get_read}
use Rattle.std.specs.Prelude.{Some}
use Rattle.ldp_series.specs.declared.list.Lists.{Lists}
use Rattle.ldp_stretch.specs.Hulls.{width_of}
use Rattle.ldp_stretch.proofs.Columns.{hull_holds, hull_at}
use Rattle.ldp_stretch.proofs.stretches.Stretches.hull.Goals as goal

pub split_at-requires : goal.split_at-requires
split_at-requires c =
    let s = c.args.self.now in
    let begun : c.index.result.now ≡ Some c.in_ok-begin.begin =
    (let a = c.in_ok-begin.is in let b = c.in_ok-begin.was in cc) in
    let is = hull_at c.args.prepared.now s c.args.at c.index.result.now c.in_ok-begin.begin
    c.requires.stretches.hulls c.requires.at c.index.ensures begun in
    omega (arith, is.within, ap length c.deref.ensures.value)

pub split_at-requires-2 : goal.split_at-requires-2
split_at-requires-2 c =
    let s = c.args.self.now in
    let begun : c.index.result.now ≡ Some c.in_ok-begin.begin =
    (let a = c.in_ok-begin.is in let b = c.in_ok-begin.was in cc) in
    let is = hull_at c.args.prepared.now s c.args.at c.index.result.now c.in_ok-begin.begin
    c.requires.stretches.hulls c.requires.at c.index.ensures begun in
    let width : length c.outs-width.result.now ≡ width_of c.args.prepared.now =
    ap length c.outs-width.ensures.outs
    ∙ ap (λ (l : Lists). length l.cell.outs) c.lists.ensures.lists in
    omega (arith, is.within, ap length c.deref.ensures.value, width, c.split_at.ensures.back_len)

pub returns-clause-holds : goal.returns-clause-holds
returns-clause-holds c =
    let s = c.args.self.now in
    let p = c.args.prepared.now in
    let begun : c.index.result.now ≡ Some c.in_ok-begin.begin =
    (let a = c.in_ok-begin.is in let b = c.in_ok-begin.was in cc) in
    let width : length c.outs-width.result.now ≡ width_of p =
    ap length c.outs-width.ensures.outs
    ∙ ap (λ (l : Lists). length l.cell.outs) c.lists.ensures.lists in
    let part : c.split_at-2.result.0.now
    ≡ take (width_of p) (drop c.in_ok-begin.begin s.ranges.items) =
    c.split_at-2.ensures.front
    ∙ ap (λ (xs : List (ℤ × ℤ)). take (length c.outs-width.result.now) xs)
    (c.split_at.ensures.back
    ∙ ap (λ (xs : List (ℤ × ℤ)). drop c.in_ok-begin.begin xs) c.deref.ensures.value)
    ∙ ap (λ (n : ℕ). take n (drop c.in_ok-begin.begin s.ranges.items)) width in
    λ node found.
    let is = c.requires.stretches.hulls.each c.args.at node c.in_ok-begin.begin found
    (slice_get_read s.begins.items (length s.nodes.items) c.args.at c.index.result.now
    (sym c.requires.stretches.hulls.count) c.requires.at c.index.ensures ∙ ap Some begun) in
    hull_holds p.results (width_of p) s.ranges.items c.split_at-2.result.0.now node
    c.in_ok-begin.begin c.lists.ensures.rows is part
