use Rattle.std.proofs.Common.{◌≡◌, ◌-◌, ◌-ℤ◌, ap, ◌∙◌, arith}
use Rattle.std.proofs.lemmas.Int.{ints}
use Rattle.ldp_heights.specs.Grid.{centre_y}
use Rattle.ldp_alignment.specs.Heights.{presence, height_or_zero, places_before, west, south}
use Rattle.ldp_alignment.proofs.Along.{difference_back, place_told, fours_told}
use Rattle.ldp_alignment.proofs.between.four_shares.Goals as goal

column : (c : goal.After-sum) → c.places_before-column.result
    ≡ places_before c.args.heights.now.spacing (c.args.at.now.x -ℤ west c.args.heights.now)
column c =
    let at = c.requires.at.x in
    place_told _ _ _ _ c.args.at.now.x c.centre-west.result.0 (west c.args.heights.now)
    c.places_before-column.ensures.value c.spacing.ensures.value
    (difference_back c.args.at.now.x c.centre-west.result.0
    (omega (arith, ints, at.0), omega (arith, ints, at.1)) c.centre-west.ensures.x_range)
    c.centre-west.ensures.x

row : (c : goal.After-sum) → c.places_before-row.result
    ≡ places_before c.args.heights.now.spacing (c.args.at.now.y -ℤ south c.args.heights.now)
row c =
    let at = c.requires.at.y in
    place_told _ _ _ _ c.args.at.now.y c.centre-west.result.1 (south c.args.heights.now)
    c.places_before-row.ensures.value c.spacing-2.ensures.value
    (difference_back c.args.at.now.y c.centre-west.result.1
    (omega (arith, ints, at.0), omega (arith, ints, at.1)) c.centre-west.ensures.y_range)
    (c.centre-west.ensures.y ∙ ap (λ n. centre_y c.args.heights.now (n - 1)) c.rows.ensures.value)

pub returns-clause-weights : goal.returns-clause-weights
returns-clause-weights c =
    fours_told presence c.args.heights.now c.args.at.now.x c.args.at.now.y _ _ _ _ _ _ _
    c.sum.ensures.weights c.two_shares-first.ensures.weights c.two_shares-second.ensures.weights
    (row c) (column c)

pub returns-clause-heights : goal.returns-clause-heights
returns-clause-heights c =
    fours_told height_or_zero c.args.heights.now c.args.at.now.x c.args.at.now.y _ _ _ _ _ _ _
    c.sum.ensures.heights c.two_shares-first.ensures.heights c.two_shares-second.ensures.heights
    (row c) (column c)
