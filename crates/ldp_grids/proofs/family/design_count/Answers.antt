use Rattle.std.proofs.Common.{◌≡◌, ℕ, ◌*◌, sym, mul_assoc, rules}
use Rattle.ldp_grids.proofs.family.design_count.Goals as goal

pairs : (p q a b c d : ℕ) → p ≡ a * b → q ≡ c * d → p * q ≡ a * b * c * d
pairs p q a b c d left right = rw (left, right) (sym (mul_assoc (a * b) c d))

pub returns : goal.returns
returns c =
    let left : c.from.result ≡ c.args.f.now.lat.count * c.args.f.now.lon.count =
    search (rules, c.pair_count.ensures.value) in
    let right : c.from-2.result ≡ c.args.f.now.azimuth.count * c.args.f.now.scale.count =
    search (rules, c.pair_count-2.ensures.value) in
    pairs c.from.result c.from-2.result _ _ _ _ left right
