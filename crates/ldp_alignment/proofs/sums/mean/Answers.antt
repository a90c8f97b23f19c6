use Rattle.std.proofs.Common.{◌≡◌, ◌*◌, pos, neg_ℤ, sym, ap, ◌∙◌, Some}
use Rattle.std.specs.Int.{int_div_euclid}
use mir.Val.{to_z, of_z}
use mir.Syntax.{w128}
use Rattle.ldp_num.specs.Plain.{floor_div}
use Rattle.ldp_quantity.specs.Between.{IsBetween}
use Rattle.ldp_heights.specs.Grid.{metres}
use Rattle.ldp_alignment.proofs.Bounds.{mean_told, mean_in_range, height_back, height_fits}
use Rattle.ldp_alignment.proofs.Bounds.{whole_back, weights_back, heights_back, euclid_floor}
use Rattle.ldp_alignment.proofs.sums.mean.Goals as goal

whole : (c : goal.After-div_euclid) → c.args.sums.now.weights ≡ pos (c.args.spacing * c.args.spacing)
whole c =
    let b = c.requires.bounded in
    sym (weights_back c.args.sums.now.weights b.some b.few) ∙ ap (to_z w128) c.if-sums-whole.false
    ∙ whole_back c.args.spacing c.from.result c.from-2.result c.requires.spacing.1 c.from.ensures c.from-2.ensures

quotient : (c : goal.After-div_euclid)
    → c.div_euclid.result ≡ floor_div c.args.sums.now.heights (c.args.spacing * c.args.spacing)
quotient c =
    let b = c.requires.bounded in
    c.div_euclid.ensures
    ∙ ap (λ z. int_div_euclid (to_z w128 (of_z w128 c.args.sums.now.heights)) z)
    (whole_back c.args.spacing c.from.result c.from-2.result c.requires.spacing.1 c.from.ensures c.from-2.ensures)
    ∙ ap (λ z. int_div_euclid z (pos (c.args.spacing * c.args.spacing)))
    (heights_back c.args.sums.now.heights c.args.sums.now.weights b.few b.low b.high)
    ∙ euclid_floor c.args.sums.now.heights (c.args.spacing * c.args.spacing)

in_range : (c : goal.After-div_euclid)
    → IsBetween (neg_ℤ (metres 100_000)) (metres 100_000) c.div_euclid.result
in_range c =
    let b = c.requires.bounded in
    mean_in_range c.args.spacing c.args.sums.now.weights c.args.sums.now.heights
    c.div_euclid.result c.requires.spacing.0 (whole c) b.low b.high (quotient c)

pub overflow_cast-result : goal.overflow_cast-result
overflow_cast-result c = height_fits c.div_euclid.result (in_range c)

pub returns-clause-value : goal.returns-clause-value
returns-clause-value c =
    ap Some (height_back c.div_euclid.result (in_range c) ∙ quotient c)
    ∙ mean_told (c.args.spacing * c.args.spacing) c.args.sums.now.weights c.args.sums.now.heights (whole c)

pub returns-clause-range : goal.returns-clause-range
returns-clause-range c = rw (height_back c.div_euclid.result (in_range c)) (in_range c)
