-- The list of all designs has the admissible ones and no other.
use Rattle.std.proofs.Common.{◌≡◌, ◌<◌, ◌+◌, ℕ, zero, suc, List, Some, refl, sym, ap, subst, ◌∙◌}
use Rattle.std.proofs.Common.{arith}
use Rattle.std.specs.Prelude.{slice_get}
use Rattle.std.specs.List.{range_with_len, enumerate_from}
use Rattle.ldp_design.specs.declared.family.Family.{Family}
use Rattle.ldp_design.specs.declared.design.Design.{Design}
use Rattle.ldp_design.specs.Families.{family_of}
use Rattle.ldp_design.specs.Designs.{IsDesignOf, IsAdmitted}
use Rattle.ldp_optimum.specs.Best.{designs_of, all_designs}
use Rattle.ldp_optimum.proofs.Members.{Member, mapped, of_map, flat_mapped, of_flat_map, ranged}
use Rattle.ldp_optimum.proofs.Members.{of_range, numbered, of_enumerate}

-- the design of a family with these indices
at : ℕ → ℕ → ℕ → ℕ → ℕ → Design
at number lat lon azimuth scale =
    record { family = number; lat = lat; lon = lon; azimuth = azimuth; scale = scale }

pub family_lists : (number : ℕ) (f : Family) (d : Design) → d.family ≡ number → IsDesignOf f d
    → Member d (designs_of (number, f))
unfolding at
family_lists number f d e h =
    subst (λ n. Member d (designs_of (n, f))) e
    (flat_mapped _ d.lat d (range_with_len 0 f.lat.count) (index d.lat f.lat.count h.lat)
    (flat_mapped _ d.lon d (range_with_len 0 f.lon.count) (index d.lon f.lon.count h.lon)
    (flat_mapped _ d.azimuth d (range_with_len 0 f.azimuth.count)
    (index d.azimuth f.azimuth.count h.azimuth)
    (mapped (at d.family d.lat d.lon d.azimuth) d.scale (range_with_len 0 f.scale.count)
    (index d.scale f.scale.count h.scale)))))
  where
    index : (i count : ℕ) → i < count → Member i (range_with_len 0 count)
    index i count h = ranged 0 count i (omega arith) (omega arith)

below : (count i : ℕ) → Member i (range_with_len 0 count) → i < count
below count i m = let r = of_range 0 count i m in omega (arith, r.1)

listed_of : (number : ℕ) (f : Family) (d : Design) → Member d (designs_of (number, f))
    → (d.family ≡ number) × IsDesignOf f d
listed_of number f d m =
    let lat = of_flat_map _ d (range_with_len 0 f.lat.count) m in
    let lon = of_flat_map _ d (range_with_len 0 f.lon.count) lat.gives in
    let azimuth = of_flat_map _ d (range_with_len 0 f.azimuth.count) lon.gives in
    let scale = of_map _ d (range_with_len 0 f.scale.count) azimuth.gives in (
      ap (λ x. x.family) (sym scale.gives),
      record {
        lat = subst (λ x. x.lat < f.lat.count) scale.gives (below f.lat.count lat.source lat.has);
        lon = subst (λ x. x.lon < f.lon.count) scale.gives (below f.lon.count lon.source lon.has);
        azimuth = subst (λ x. x.azimuth < f.azimuth.count) scale.gives
            (below f.azimuth.count azimuth.source azimuth.has);
        scale = subst (λ x. x.scale < f.scale.count) scale.gives
            (below f.scale.count scale.source scale.has);
      },
    )

numbered_family : (families : List Family) (number : ℕ) (f : Family)
    → family_of families number ≡ Some f
    → Member (number, f) (enumerate_from 1 families)
numbered_family families zero f e = absurd cc
numbered_family families (suc i) f e =
    let number : 1 + i ≡ suc i = omega arith in
    subst (λ n. Member (n, f) (enumerate_from 1 families)) number (numbered 1 i f families e)

pub admitted_listed : (families : List Family) (d : Design) → IsAdmitted families d
    → Member d (all_designs families)
admitted_listed families d a =
    flat_mapped designs_of (d.family, a.family) d (enumerate_from 1 families)
    (numbered_family families d.family a.family a.found)
    (family_lists d.family a.family d refl a.within)

family_at : (families : List Family) (number place : ℕ) (f : Family) → number ≡ 1 + place
    → slice_get families place ≡ Some f → family_of families number ≡ Some f
family_at families number place f e h =
    let next : suc place ≡ number = omega arith in
    subst (λ n. family_of families n ≡ Some f) next h

pub listed_admitted : (families : List Family) (d : Design) → Member d (all_designs families)
    → IsAdmitted families d
listed_admitted families d m =
    let from = of_flat_map designs_of d (enumerate_from 1 families) m in
    let stands = of_enumerate 1 from.source families from.has in
    let within = listed_of from.source.0 from.source.1 d from.gives in
    record {
      family = from.source.1;
      found = family_at families d.family stands.place from.source.1 (within.0 ∙ stands.number)
          stands.stands;
      within = within.1;
    }
