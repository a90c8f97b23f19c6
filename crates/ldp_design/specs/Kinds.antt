-- What differs by the kind of projection.
use Rattle.ldp_design.specs.declared.family.Kind.{Kind}
use Rattle.ldp_design.specs.declared.family.Kind.TheVariants.{Tm, Lambert, Hotine, Lambert2}

-- a value for each kind, in the order tm, lambert, hotine, lambert2
abbrev pub by_kind : {A : Type 0} → A → A → A → A → Kind → A
by_kind tm lambert hotine lambert2 Tm = tm
by_kind tm lambert hotine lambert2 Lambert = lambert
by_kind tm lambert hotine lambert2 Hotine = hotine
by_kind tm lambert hotine lambert2 Lambert2 = lambert2
