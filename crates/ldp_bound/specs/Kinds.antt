-- The lists of steps of each kind of projection.
use Rattle.std.specs.Prelude.{Bool, true, false, ◌&&◌, int_lt, pos}
use Rattle.ldp_series.specs.declared.list.Lists.{Lists}
use Rattle.ldp_tm.specs.TransverseMercator.{transverse_mercator}
use Rattle.ldp_lambert.specs.Lambert.{lambert}
use Rattle.ldp_lambert2.specs.LambertTwo.{lambert_two}
use Rattle.ldp_hotine.specs.Hotine.{hotine}
use Rattle.ldp_design.specs.declared.family.Family.{Family}
use Rattle.ldp_design.specs.declared.family.Kind.{Kind}
use Rattle.ldp_design.specs.declared.family.Kind.TheVariants.{Tm, Lambert, Hotine, Lambert2}

-- the lists of a kind; those of the oblique Mercator projection are for centres south of the
-- equator or for those north of it
unfoldable pub lists_of : Kind → Bool → Lists
lists_of Tm south = transverse_mercator
lists_of Lambert south = lambert
lists_of Lambert2 south = lambert_two
lists_of Hotine south = hotine south

-- the kind whose lists depend on the hemisphere
abbrev pub is_oblique : Kind → Bool
is_oblique Tm = false
is_oblique Lambert = false
is_oblique Lambert2 = false
is_oblique Hotine = true

-- an oblique family whose first latitude is south of the equator
abbrev pub is_south : Family → Bool
is_south f = is_oblique f.kind && int_lt f.lat.from (pos 0)

-- the lists of the kind of a family
abbrev pub family_lists : Family → Lists
family_lists f = lists_of f.kind (is_south f)
