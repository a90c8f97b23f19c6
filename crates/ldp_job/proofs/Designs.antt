-- The lines before the forest: what is read is what is written, and what is written is read.
use Rattle.std.proofs.Common.{◌≡◌, ℕ, lit≤, List}
use Rattle.std.proofs.Common.{codes, Some, refl, subst, arith}
use Rattle.ldp_design.specs.declared.design.Design.{Design}
use Rattle.ldp_job.specs.Values.{IsDesign}
use Rattle.ldp_job.specs.Texts.{design_words}
use Rattle.ldp_job.specs.Lines.{design_in}
use Rattle.ldp_job.specs.Values.{most}
use Rattle.ldp_job.proofs.Taken.{IsRead, name_step, number_step, last_found}
use Rattle.ldp_job.proofs.Taken.{number_again, and_then}

pub design_found : (ws : List (List ℕ)) (d : Design) → design_in ws ≡ Some d
    → IsRead design_words IsDesign ws d
unfolding design_in
design_found ws d e =
    let a = name_step (codes "design") ws _ d e in
    let family = number_step 1 65535 a.0 _ d a.2 in
    let lat = number_step 0 most family.0.1 _ d family.2 in
    let lon = number_step 0 most lat.0.1 _ d lat.2 in
    let azimuth = number_step 0 most lon.0.1 _ d lon.2 in
    let scale = number_step 0 most azimuth.0.1 _ d azimuth.2 in
    let end = last_found _ d scale.0.1 scale.2 in
    subst (λ x. IsRead design_words IsDesign ws x) end.1 record {
      valid = record {
        family = (family.1.above, family.1.below);
        lat = lat.1.below;
        lon = lon.1.below;
        azimuth = azimuth.1.below;
        scale = scale.1.below;
      };
      same = and_then a.1
          (and_then family.1.spelled
          (and_then lat.1.spelled
          (and_then lon.1.spelled (and_then azimuth.1.spelled (and_then scale.1.spelled end.0)))));
    }

pub design_again : (d : Design) → IsDesign d → design_in (design_words d) ≡ Some d
unfolding design_in
design_again d h =
    number_again 1 65535 d.family _ _ d (lit≤ tt) h.family.0 h.family.1
    (number_again 0 most d.lat _ _ d (lit≤ tt) (omega arith) h.lat
    (number_again 0 most d.lon _ _ d (lit≤ tt) (omega arith) h.lon
    (number_again 0 most d.azimuth _ _ d (lit≤ tt) (omega arith) h.azimuth
    (number_again 0 most d.scale _ _ d (lit≤ tt) (omega arith) h.scale refl))))
