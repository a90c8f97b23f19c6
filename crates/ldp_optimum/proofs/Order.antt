-- The order of ranked designs.
use Rattle.std.proofs.Common.{◌≡◌, ℕ, false, refl, sym, ap, ◌∙◌}
use Rattle.std.proofs.lemmas.Cmp.{on_total, then_total, nat_cmp_total, ranked, tied_itself}
use Rattle.std.proofs.lemmas.List.MinMax.{ranks_by}
use Rattle.std.specs.Cmp.{IsTotalOrder, IsStrictWeakOrder}
use Rattle.std.specs.Ordering.{nat_cmp, ordering_then, ordering_reverse, is_lt}
use Rattle.std.specs.declared.cmp.Ordering.{Ordering}
use Rattle.std.specs.declared.cmp.Ordering.TheVariants.{Less, Equal, Greater}
use Rattle.ldp_design.specs.declared.design.Design.{Design}
use Rattle.ldp_design.specs.Designs.{design_cmp}
use Rattle.ldp_problem.specs.declared.pair.Pair.{Pair}
use Rattle.ldp_problem.specs.Pairs.{pair_cmp}
use Rattle.ldp_problem.proofs.Pairs.{pair_total}
use Rattle.ldp_optimum.specs.Best.{Ranked, ranked_cmp, is_better}

design_total : IsTotalOrder design_cmp
design_total =
    then_total (on_total (λ d. d.family) nat_cmp_total)
    (then_total (on_total (λ d. d.lat) nat_cmp_total)
    (then_total (on_total (λ d. d.lon) nat_cmp_total)
    (then_total (on_total (λ d. d.azimuth) nat_cmp_total) (on_total (λ d. d.scale) nat_cmp_total))))

pub ranked_total : IsTotalOrder ranked_cmp
ranked_total = then_total (on_total (λ x. x.cost) pair_total)
    (on_total (λ x. x.design) design_total)

pub better_weak : IsStrictWeakOrder is_better
better_weak = ranks_by ranked_total (λ x. x)

pub not_better_itself : (x : Ranked) → is_better x x ≡ false
not_better_itself x = ap is_lt (tied_itself ranked_total x)

both_equal : (o p : Ordering) → ordering_then o p ≡ Equal → (o ≡ Equal) × (p ≡ Equal)
both_equal Less p e = absurd cc
both_equal Equal p e = (refl, e)
both_equal Greater p e = absurd cc

same_number : (m n : ℕ) → nat_cmp m n ≡ Equal → m ≡ n
same_number m n e = ranked m n Equal (sym e)

same_pair : (a b : Pair) → pair_cmp a b ≡ Equal → a ≡ b
same_pair a b e =
    let both = both_equal (nat_cmp a.over b.over) (nat_cmp a.value b.value) e in
    ap (λ n. record a { over = n }) (same_number a.over b.over both.0)
    ∙ ap (λ n. record b { value = n }) (same_number a.value b.value both.1)

same_design : (d e : Design) → design_cmp d e ≡ Equal → d ≡ e
same_design d e h =
    let family = both_equal (nat_cmp d.family e.family) _ h in
    let lat = both_equal (nat_cmp d.lat e.lat) _ family.1 in
    let lon = both_equal (nat_cmp d.lon e.lon) _ lat.1 in
    let azimuth = both_equal (nat_cmp d.azimuth e.azimuth) (nat_cmp d.scale e.scale) lon.1 in
    ap (λ n. record d { family = n }) (same_number d.family e.family family.0)
    ∙ ap (λ n. record d { family = e.family; lat = n }) (same_number d.lat e.lat lat.0)
    ∙ ap (λ n. record d { family = e.family; lat = e.lat; lon = n }) (same_number d.lon e.lon lon.0)
    ∙ ap (λ n. record e { azimuth = n; scale = d.scale })
    (same_number d.azimuth e.azimuth azimuth.0)
    ∙ ap (λ n. record e { scale = n }) (same_number d.scale e.scale azimuth.1)

neither : (o : Ordering) → is_lt o ≡ false → is_lt (ordering_reverse o) ≡ false → o ≡ Equal
neither Less h k = absurd cc
neither Equal h k = refl
neither Greater h k = absurd cc

-- of two that do not beat one another each is the other
pub same_ranked : (x y : Ranked) → is_better x y ≡ false → is_better y x ≡ false → x ≡ y
same_ranked x y h k =
    let tied : ranked_cmp x y ≡ Equal =
    neither (ranked_cmp x y) h (ap is_lt (sym (ranked_total.antisymm y x)) ∙ k) in
    let both = both_equal (pair_cmp x.cost y.cost) (design_cmp x.design y.design) tied in
    ap (λ c. record x { cost = c }) (same_pair x.cost y.cost both.0)
    ∙ ap (λ d. record y { design = d }) (same_design x.design y.design both.1)
