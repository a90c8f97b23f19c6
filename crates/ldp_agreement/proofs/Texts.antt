-- The certificate of the best design has a text.
use Rattle.std.proofs.Common.{◌≡◌, ◌≤◌, ◌+◌, ℕ, List, length}
use Rattle.std.proofs.Common.{Option, None, Some, IfSome, arith, sym, ap, subst, ◌∙◌}
use Rattle.std.proofs.lemmas.Int.{ints}
use Rattle.std.proofs.lemmas.List.Sums.{count_by-le-length}
use Rattle.std.specs.Prelude.{unwrap_or, nat_lt}
use Rattle.ldp_design.specs.declared.axis.AxisName.TheVariants.{Lat, Lon, Azimuth, Scale}
use Rattle.ldp_design.specs.declared.design.Design.{Design}
use Rattle.ldp_design.specs.Designs.{IsAdmitted}
use Rattle.ldp_design.proofs.Ranged.{families_in_range}
use Rattle.ldp_problem.specs.Problem.{Problem}
use Rattle.ldp_problem.specs.Costs.{cost, sizes, beyond}
use Rattle.ldp_job.specs.Values.{IsDesign, IsShare, AreEntries, IsJob}
use Rattle.ldp_job.proofs.Jobs.{read_again}
use Rattle.ldp_job.proofs.Short.{texts_short}
use Rattle.ldp_optimum.specs.Forest.{needed}
use Rattle.ldp_optimum.specs.Laws.{IsRanked, IsRankOf}
use Rattle.ldp_optimum.proofs.Bests.{best_ranked, ranked_usable}
use Rattle.ldp_agreement.specs.Certificates.{share_of}
use Rattle.ldp_agreement.specs.Texts.{IsPrintable, BestHaveTexts, BestAreReadBack}
use Rattle.ldp_agreement.proofs.Certificates.{best_are_shaped}
use Rattle.ldp_agreement.proofs.Entries.{forest_entries}
use Rattle.ldp_problem.proofs.Cells.{length-at_cells}
use Rattle.ldp_agreement.proofs.Sizes.{forest_length}

design_valid : (p : Problem) (d : Design) → IsPrintable p → IsAdmitted p.families d → IsDesign d
design_valid p d h admitted =
    let is = families_in_range p.families d.family admitted.family h.grids admitted.found in
    record {
      family = (is.some, omega (arith, is.few));
      lat = omega (arith, admitted.within.lat, is.counts Lat);
      lon = omega (arith, admitted.within.lon, is.counts Lon);
      azimuth = omega (arith, admitted.within.azimuth, is.counts Azimuth);
      scale = omega (arith, admitted.within.scale, is.counts Scale);
    }

beyond_most : (tolerance : Option ℕ) (values : List ℕ) → beyond tolerance values ≤ length values
beyond_most None values = omega arith
beyond_most (Some t) values = count_by-le-length (nat_lt t) values

over_most : (p : Problem) (d : Design) → IsPrintable p → (cost p d).over ≤ 4_294_967_295
over_most p d h =
    omega (
      arith,
      beyond_most p.tolerance (sizes p d),
      length-at_cells (λ cell. unwrap_or (p.delta d cell) 0) p.cells,
      h.few_cells,
    )

share_valid : (tolerance : Option ℕ) (over : ℕ) → over ≤ 4_294_967_295
    → IfSome tolerance (λ t. t ≤ 1_000_000_000_000_000) → IfSome (share_of tolerance over) IsShare
share_valid None over h k = tt
share_valid (Some t) over h k =
    record { over = h; tolerance = (omega (arith, ints), omega (arith, ints, k)) }

pub best_have_texts : BestHaveTexts
best_have_texts p list present x j h v e c =
    let ranked : IsRanked p x = best_ranked p x e in
    let is : IsRankOf p x.design x = ranked_usable p x.design x ranked.ranked in
    let over : x.cost.over ≤ 4_294_967_295 =
    subst (λ q. q.over ≤ 4_294_967_295) (sym is.cost) (over_most p x.design h) in
    record {
      names = v.names;
      design = subst IsDesign (sym c.design) (design_valid p x.design h ranked.admitted);
      worst = v.worst;
      share = subst (λ share. IfSome share IsShare) (sym c.share)
          (share_valid p.tolerance x.cost.over over h.tolerance);
      report = v.report;
      entries = subst AreEntries (sym c.forest) (forest_entries p h);
      forest = best_are_shaped p list present x j h.grids (omega (arith, h.few_nodes)) c;
    }

pub best_are_read_back : BestAreReadBack
best_are_read_back p list present x j h v e c =
    let is : IsJob j = best_have_texts p list present x j h v e c in
    let long : length j.forest ≡ needed p + length p.families =
    ap length c.forest ∙ forest_length p h in
    (read_again j is, omega (arith, texts_short j is, long, h.few_nodes, h.grids.few))
