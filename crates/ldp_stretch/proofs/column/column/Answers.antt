use Rattle.std.proofs.Common.{ap, ◌∙◌, ℤ, rules}
use Rattle.std.proofs.lemmas.Int.{to_z-of_z}
use mir.Val.{SFits}
use mir.Syntax.{w128}
use Rattle.ldp_range.specs.Range.{pair_hull, twice}
use Rattle.ldp_stretch.proofs.Columns.{column_more}
use Rattle.ldp_stretch.proofs.column.column.Goals as goal

pub loop-cell-preserved : goal.loop-cell-preserved
loop-cell-preserved c =
    let number : ℤ = c.in_ok-number_at-2.field-0 in
    let fits : SFits w128 number = search (rules, c.in_ok-number_at-2.ensures.number) in
    column_more c.args.prepared.now.results c.args.from c.args.place c.loop-cell.cell
    number c.loop-cell.range c.hull-range.result c.loop-cell.invariant
    c.in_ok-number_at-2.ensures.value
    (c.hull-range.ensures ∙ ap (pair_hull c.loop-cell.range) c.sharp.ensures
    ∙ ap (λ n. pair_hull c.loop-cell.range (twice n)) (to_z-of_z w128 number fits))
