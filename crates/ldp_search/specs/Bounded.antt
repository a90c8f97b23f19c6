-- The order of the boxes that may still be split.
use Rattle.std.specs.Ordering.{nat_cmp, ordering_then}
use Rattle.std.specs.declared.cmp.Ordering.{Ordering}
use Rattle.ldp_design.specs.declared.design_box.Span.{Span}
use Rattle.ldp_design.specs.declared.design_box.DesignBox.{DesignBox}
use Rattle.ldp_problem.specs.Pairs.{pair_cmp}
use Rattle.ldp_search.specs.declared.bounded_box.BoundedBox.{BoundedBox}

-- by the first index, and where that is equal by the last
abbrev pub span_cmp : Span → Span → Ordering
span_cmp a b = ordering_then (nat_cmp a.lo b.lo) (nat_cmp a.hi b.hi)

-- by family and spans
abbrev pub box_cmp : DesignBox → DesignBox → Ordering
box_cmp a b =
    ordering_then (nat_cmp a.family b.family)
    (ordering_then (span_cmp a.lat b.lat)
    (ordering_then (span_cmp a.lon b.lon)
    (ordering_then (span_cmp a.azimuth b.azimuth) (span_cmp a.scale b.scale))))

-- by the bound, and where that is equal by the box
abbrev pub bounded_cmp : BoundedBox → BoundedBox → Ordering
bounded_cmp a b = ordering_then (pair_cmp a.low b.low) (box_cmp a.region b.region)
