-- A line that is read is that of its system, and the line of a system is read to it.
use Rattle.std.proofs.Common.{◌≡◌, ℕ, ◌≤◌, nat_le, ℤ, pos}
use Rattle.std.proofs.Common.{unsigned_abs, Bool, true, false, IsTrue, List, [], ◌∷◌, ◌++◌}
use Rattle.std.proofs.Common.{append_assoc, length, Option, Some, None}
use Rattle.std.proofs.Common.{option_and_then, IfOk, Result, Ok, Err, refl, sym, ap, subst, ◌∙◌}
use Rattle.std.proofs.Common.{arith, if◌then◌else◌}
use Rattle.std.specs.List.{flat_map, prefix_len}
use Rattle.std.specs.Ordering.{int_eq}
use Rattle.std.proofs.lemmas.Bool.Decides.{Decides-int_eq}
use Rattle.std.proofs.lemmas.Int.{ints}
use Rattle.std.proofs.lemmas.List.{append-nil, take-append-drop}
use Rattle.ldp_decimal.specs.Writing.{trimmed_text}
use Rattle.ldp_quantity.specs.Quantity.{tenths}
use Rattle.ldp_spelling.specs.Numbers.{trimmed_in}
use Rattle.ldp_spelling.proofs.Written.{trimmed_found, trimmed_again}
use Rattle.ldp_design.specs.declared.family.Kind.{Kind}
use Rattle.ldp_design.specs.declared.family.Kind.TheVariants.{Tm, Lambert, Hotine, Lambert2}
use Rattle.ldp_design.specs.declared.key.Key.{Key}
use Rattle.ldp_design.specs.declared.key.Key.TheVariants as keys
use Rattle.ldp_design.specs.declared.key_range.KeyRange.{KeyRange}
use Rattle.ldp_design.specs.KeyRanges.{range_of, is_in_range}
use Rattle.ldp_wkt2.specs.declared.crs.Crs.{Crs}
use Rattle.ldp_wkt2.specs.declared.fault.CrsFault.{CrsFault}
use Rattle.ldp_wkt2.specs.declared.parameter.Parameter.{Parameter}
use Rattle.ldp_wkt2.specs.declared.parameter.Parameter.TheVariants as are
use Rattle.ldp_wkt2.specs.Profile.{row_of, natural_origin, parameters_of}
use Rattle.ldp_wkt2.specs.Values.{value_of, IsAllowed, IsCrs}
use Rattle.ldp_wkt2.specs.Lines.{start, end, method_text, before, behind, number_text}
use Rattle.ldp_wkt2.specs.Lines.{parameter_text, crs_text}
use Rattle.ldp_wkt2.specs.Reading.{pieces_from, rest_behind, run, behind_run}
use Rattle.ldp_wkt2.specs.Reading.{is_value, far_enough, number_in, blank, with_value, is_rectified}
use Rattle.ldp_wkt2.specs.Reading.{with_number, valued, fitted, ended}
use Rattle.ldp_wkt2.specs.Reading.{read_pieces, kind_at, read_method, crs, IsLineOf}
use Rattle.ldp_wkt2.proofs.Allowed.{lies, lies_in, narrow, small, le_is, le_yes, IsNarrow}
use Rattle.ldp_wkt2.proofs.Fronts.{behind_found, behind_some}
use Rattle.ldp_wkt2.proofs.Runs.{trimmed_values, run_is, behind_run_is}

-- a number for each parameter
abbrev pub Numbers : List Parameter → Type 0
Numbers [] = Unit {0}
Numbers (p ∷ ps) = ℤ × Numbers ps

-- each in the range of its key
abbrev pub AreAllowed : Kind → (ps : List Parameter) → Numbers ps → Type 0
AreAllowed kind [] zs = Unit {0}
AreAllowed kind (p ∷ ps) zs = IsAllowed (row_of p).key kind zs.0 × AreAllowed kind ps zs.1

-- parameters with their numbers, and the end
abbrev pub written : Kind → (ps : List Parameter) → Numbers ps → List ℕ
written kind [] zs = end
written kind (p ∷ ps) zs =
    before p ++ (number_text kind p zs.0 ++ (behind p ++ written kind ps zs.1))

-- a system with all of them
abbrev pub all_numbers : (ps : List Parameter) → Numbers ps → Crs → Option Crs
all_numbers [] zs c = Some c
all_numbers (p ∷ ps) zs c = option_and_then (all_numbers ps zs.1) (with_number p c zs.0)

if_some : {A : Type 0} (t : Bool) (x y : A) → (if t then Some x else None) ≡ Some y
    → (t ≡ true) × (x ≡ y)
if_some true x y e = (refl, cc)
if_some false x y e = absurd cc

some_of : {A B : Type 0} (f : A → Option B) (o : Option A) (y : B)
    → option_and_then f o ≡ Some y → (x : A) × (o ≡ Some x) × (f x ≡ Some y)
some_of f None y e = absurd cc
some_of f (Some x) y e = (x, refl, e)

-- the number of a range that is read is written so
number_found : (range : KeyRange) (text : List ℕ) (z : ℤ) → number_in range text ≡ Some z
    → (text ≡ trimmed_text range.places z) × IsTrue (is_in_range range z)
number_found range text z e =
    let step = some_of (far_enough range) (trimmed_in range.places range.low range.high text) z e in
    let far = if_some (nat_le range.least (unsigned_abs step.0)) step.0 z step.2 in
    let is = trimmed_found range.places range.low range.high text z
    (step.1 ∙ ap (λ (y : ℤ). Some y) far.1) in
    let least : nat_le range.least (unsigned_abs z) ≡ true =
    ap (λ (y : ℤ). nat_le range.least (unsigned_abs y)) (sym far.1) ∙ far.0 in (
      is.spelled,
      lies_in range z record {
        low = is.above;
        high = is.below;
        least = le_is range.least (unsigned_abs z) least;
      },
    )

number_again : (range : KeyRange) (z : ℤ) → IsNarrow range → IsTrue (is_in_range range z)
    → number_in range (trimmed_text range.places z) ≡ Some z
number_again range z n h =
    let is = lies range z h in
    let read = trimmed_again range.places range.low range.high (trimmed_text range.places z) z
    n.places (omega (arith, ints, n.low)) (omega (arith, ints, n.high))
    record { above = is.low; below = is.high; spelled = refl } in
    ap (option_and_then (far_enough range)) read
    ∙ rw (le_yes range.least (unsigned_abs z) is.least) refl

-- a parameter changes no kind
value_kind : (key : Key) (z : ℤ) (c : Crs) → (with_value key z c).kind ≡ c.kind
value_kind keys.Lat z c = refl
value_kind keys.Lat2 z c = refl
value_kind keys.Lon z c = refl
value_kind keys.Azimuth z c = refl
value_kind keys.Scale z c = refl
value_kind keys.Origin z c = refl
value_kind keys.Easting z c = refl
value_kind keys.Northing z c = refl
value_kind _ z c = refl

abbrev done : Crs → Option Crs
done c = Some c

abbrev ok : Crs → Result Crs CrsFault
ok c = Ok c

inside : (x y : Crs) → Some x ≡ Some y → x ≡ y
inside x y e = cc

kind_by : (t u : Bool) (key : Key) (z : ℤ) (c d : Crs)
    → (if t then (if u then Some c else None) else Some (with_value key z c)) ≡ Some d
    → d.kind ≡ c.kind
kind_by true true key z c d e = ap (λ (x : Crs). x.kind) (sym (inside c d e))
kind_by true false key z c d e = absurd cc
kind_by false u key z c d e =
    ap (λ (x : Crs). x.kind) (sym (inside (with_value key z c) d e)) ∙ value_kind key z c

kind_kept : (p : Parameter) (c d : Crs) (z : ℤ) → with_number p c z ≡ Some d → d.kind ≡ c.kind
kind_kept p c d z e = kind_by (is_rectified p) (int_eq z c.azimuth) (row_of p).key z c d e

-- one step of reading
fitted_ok : {A : Type 0} (size : ℕ) (left : List ℕ) (o : Option A) (go : A → Result Crs CrsFault)
    (y : Crs) → fitted size left o go ≡ Ok y → (a : A) × (o ≡ Some a) × (go a ≡ Ok y)
fitted_ok size left None go y e = absurd cc
fitted_ok size left (Some a) go y e = (a, refl, e)

fitted_again : {A : Type 0} (size : ℕ) (left : List ℕ) (o : Option A)
    (go : A → Result Crs CrsFault) (a : A) (y : Result Crs CrsFault) → o ≡ Some a → go a ≡ y
    → fitted size left o go ≡ y
fitted_again size left o go a y e h = ap (λ x. fitted size left x go) e ∙ h

ended_ok : (size : ℕ) (c d : Crs) (left : List ℕ) → ended size c left ≡ Ok d
    → (left ≡ []) × (c ≡ d)
ended_ok size c d [] e = (refl, cc)
ended_ok size c d (b ∷ bs) e = absurd cc

-- what is left is a front and the parameters that were read
pub record IsRead (kind : Kind) (front : List ℕ) (ps : List Parameter) (c d : Crs) (left : List ℕ) :
    Type 0 where
  pub numbers : Numbers ps
  pub allowed : AreAllowed kind ps numbers
  pub same : left ≡ front ++ written kind ps numbers
  pub all : all_numbers ps numbers c ≡ Some d

regroup : (a b c d e : List ℕ) → (a ++ b) ++ (c ++ (d ++ e)) ≡ a ++ (b ++ (c ++ (d ++ e)))
regroup a b c d e = simp append_assoc refl

found_from : (size : ℕ) (kind : Kind) (ps : List Parameter) (c d : Crs) (front left : List ℕ)
    → c.kind ≡ kind → read_pieces size c left (pieces_from front ps) ≡ Ok d
    → IsRead kind front ps c d left
found_from size kind [] c d front left k e =
    let piece = fitted_ok size left (rest_behind (front ++ end) left) _ d e in
    let last = ended_ok size c d piece.0 piece.2 in
    record {
      numbers = tt;
      allowed = tt;
      same = behind_found (front ++ end) left piece.0 piece.1
          ∙ (ap (λ x. (front ++ end) ++ x) last.0 ∙ append-nil (front ++ end));
      all = ap (λ (x : Crs). Some x) last.1;
    }
found_from size kind (p ∷ ps) c d front left k e =
    let gap = fitted_ok size left (rest_behind (front ++ before p) left) _ d e in
    let value = fitted_ok size gap.0 (valued p c (run gap.0)) _ d gap.2 in
    let step = some_of (with_number p c) (number_in (range_of (row_of p).key c.kind) (run gap.0))
    value.0 value.1 in
    let number = number_found (range_of (row_of p).key c.kind) (run gap.0) step.0 step.1 in
    let more = found_from size kind ps value.0 d (behind p) (behind_run gap.0)
    (kind_kept p c value.0 step.0 step.2 ∙ k) value.2 in
    let spelled : run gap.0 ≡ number_text kind p step.0 =
    number.0 ∙ ap (λ (x : Kind). number_text x p step.0) k in
    let rest : gap.0 ≡ number_text kind p step.0 ++ (behind p ++ written kind ps more.numbers) =
    sym (take-append-drop (prefix_len is_value gap.0) gap.0)
    ∙ (ap (λ x. x ++ behind_run gap.0) spelled
    ∙ ap (λ x. number_text kind p step.0 ++ x) more.same) in
    record {
      numbers = (step.0, more.numbers);
      allowed = (subst (λ (x : Kind). IsAllowed (row_of p).key x step.0) k number.1, more.allowed);
      same = behind_found (front ++ before p) left gap.0 gap.1
          ∙ (ap (λ x. (front ++ before p) ++ x) rest
          ∙ regroup front (before p) (number_text kind p step.0) (behind p)
          (written kind ps more.numbers));
      all = ap (λ o. option_and_then (all_numbers ps more.numbers) o) step.2 ∙ more.all;
    }

-- what follows a value begins with a comma
comma : (p : Parameter) (rest : List ℕ) → (tail : List ℕ) × (behind p ++ rest ≡ 44 ∷ tail)
unfolding behind
comma p rest = (_, refl)

value_again : (kind : Kind) (p : Parameter) (z : ℤ) (rest : List ℕ)
    → IsAllowed (row_of p).key kind z
    → (run (number_text kind p z ++ (behind p ++ rest)) ≡ number_text kind p z)
    × (behind_run (number_text kind p z ++ (behind p ++ rest)) ≡ behind p ++ rest)
value_again kind p z rest h =
    let next = comma p rest in
    let text : List ℕ = number_text kind p z in
    let few : unsigned_abs z ≤ 2000000000000000 = small (row_of p).key kind z h in
    let plain = trimmed_values (range_of (row_of p).key kind).places z
    (narrow (row_of p).key kind).places (omega (arith, few)) in (
      ap (λ x. run (text ++ x)) next.1 ∙ run_is text next.0 plain,
      ap (λ x. behind_run (text ++ x)) next.1 ∙ (behind_run_is text next.0 plain ∙ sym next.1),
    )

again_from : (size : ℕ) (kind : Kind) (ps : List Parameter) (zs : Numbers ps) (c d : Crs)
    (front left : List ℕ) → c.kind ≡ kind → AreAllowed kind ps zs → all_numbers ps zs c ≡ Some d
    → left ≡ front ++ written kind ps zs
    → read_pieces size c left (pieces_from front ps) ≡ Ok d
again_from size kind [] zs c d front left k h all e =
    fitted_again size left (rest_behind (front ++ end) left) _ [] (Ok d)
    (behind_some (front ++ end) left [] (e ∙ sym (append-nil (front ++ end))))
    (ap (λ (x : Crs). ok x) (inside c d all))
again_from size kind (p ∷ ps) zs c d front left k h all e =
    let text : List ℕ = number_text kind p zs.0 in
    let rest : List ℕ = text ++ (behind p ++ written kind ps zs.1) in
    let step = some_of (all_numbers ps zs.1) (with_number p c zs.0) d all in
    let run_of = value_again kind p zs.0 (written kind ps zs.1) h.0 in
    let number : number_in (range_of (row_of p).key c.kind) (run rest) ≡ Some zs.0 =
    ap (λ (x : Kind). number_in (range_of (row_of p).key x) (run rest)) k
    ∙ (ap (number_in (range_of (row_of p).key kind)) run_of.0
    ∙ number_again (range_of (row_of p).key kind) zs.0 (narrow (row_of p).key kind) h.0) in
    fitted_again size left (rest_behind (front ++ before p) left) _ rest (Ok d)
    (behind_some (front ++ before p) left rest
    (e ∙ sym (regroup front (before p) text (behind p) (written kind ps zs.1))))
    (fitted_again size rest (valued p c (run rest)) _ step.0 (Ok d)
    (ap (option_and_then (with_number p c)) number ∙ step.1)
    (again_from size kind ps zs.1 step.0 d (behind p) (behind_run rest)
    (kind_kept p c step.0 zs.0 step.1 ∙ k) h.1 step.2 run_of.1))

-- the numbers of a system
abbrev pub numbers_of : Crs → (ps : List Parameter) → Numbers ps
numbers_of c [] = tt
numbers_of c (p ∷ ps) = (value_of (row_of p).key c, numbers_of c ps)

four : (a b c d : List ℕ) → (a ++ (b ++ c)) ++ d ≡ a ++ (b ++ (c ++ d))
four a b c d = simp append_assoc refl

written_is : (c : Crs) (ps : List Parameter)
    → flat_map (parameter_text c) ps ++ end ≡ written c.kind ps (numbers_of c ps)
written_is c [] = refl
written_is c (p ∷ ps) =
    append_assoc (parameter_text c p) (flat_map (parameter_text c) ps) end
    ∙ (ap (λ x. parameter_text c p ++ x) (written_is c ps)
    ∙ four (before p) (number_text c.kind p (value_of (row_of p).key c)) (behind p)
    (written c.kind ps (numbers_of c ps)))

line_is : (c : Crs)
    → crs_text c
    ≡ start ++ (method_text c.kind
    ++ written c.kind (parameters_of c.kind) (numbers_of c (parameters_of c.kind)))
unfolding crs_text
line_is c = ap (λ x. start ++ (method_text c.kind ++ x)) (written_is c (parameters_of c.kind))

-- a system by its values
abbrev made : Kind → ℤ → ℤ → ℤ → ℤ → ℤ → ℤ → ℤ → Crs
made kind lat lon azimuth scale origin easting northing = record {
  kind = kind;
  lat = lat;
  lon = lon;
  azimuth = azimuth;
  scale = scale;
  origin = origin;
  easting = easting;
  northing = northing;
}

-- a system of this kind has these numbers
pub record HasNumbers (kind : Kind) (zs : Numbers (parameters_of kind)) (c : Crs) : Type 0 where
  pub kind_is : c.kind ≡ kind
  pub is : IsCrs c
  pub line : crs_text c ≡ start ++ (method_text kind ++ written kind (parameters_of kind) zs)

natural_found : (zs : Numbers natural_origin) (d : Crs) → AreAllowed Tm natural_origin zs
    → all_numbers natural_origin zs (blank Tm) ≡ Some d → HasNumbers Tm zs d
natural_found zs d h e =
    let c : Crs = made Tm zs.0 zs.1.0 (pos 0) zs.1.1.0 (pos 0) zs.1.1.1.0 zs.1.1.1.1.0 in
    subst (λ (x : Crs). HasNumbers Tm zs x) (inside c d e) record {
      kind_is = refl;
      is = record {
        lat = h.0;
        lon = h.1.0;
        azimuth = refl;
        scale = h.1.1.0;
        origin = refl;
        easting = h.1.1.1.0;
        northing = h.1.1.1.1.0;
      };
      line = line_is c;
    }

lambert_found : (zs : Numbers natural_origin) (d : Crs) → AreAllowed Lambert natural_origin zs
    → all_numbers natural_origin zs (blank Lambert) ≡ Some d → HasNumbers Lambert zs d
lambert_found zs d h e =
    let c : Crs = made Lambert zs.0 zs.1.0 (pos 0) zs.1.1.0 (pos 0) zs.1.1.1.0 zs.1.1.1.1.0 in
    subst (λ (x : Crs). HasNumbers Lambert zs x) (inside c d e) record {
      kind_is = refl;
      is = record {
        lat = h.0;
        lon = h.1.0;
        azimuth = refl;
        scale = h.1.1.0;
        origin = refl;
        easting = h.1.1.1.0;
        northing = h.1.1.1.1.0;
      };
      line = line_is c;
    }

lambert2_found : (zs : Numbers (parameters_of Lambert2)) (d : Crs)
    → AreAllowed Lambert2 (parameters_of Lambert2) zs
    → all_numbers (parameters_of Lambert2) zs (blank Lambert2) ≡ Some d → HasNumbers Lambert2 zs d
lambert2_found zs d h e =
    let c : Crs =
    made Lambert2 zs.1.1.0 zs.1.0 zs.1.1.1.0 (tenths 10) zs.0 zs.1.1.1.1.0 zs.1.1.1.1.1.0 in
    subst (λ (x : Crs). HasNumbers Lambert2 zs x) (inside c d e) record {
      kind_is = refl;
      is = record {
        lat = h.1.1.0;
        lon = h.1.0;
        azimuth = h.1.1.1.0;
        scale = refl;
        origin = h.0;
        easting = h.1.1.1.1.0;
        northing = h.1.1.1.1.1.0;
      };
      line = line_is c;
    }

hotine_found : (zs : Numbers (parameters_of Hotine)) (d : Crs)
    → AreAllowed Hotine (parameters_of Hotine) zs
    → all_numbers (parameters_of Hotine) zs (blank Hotine) ≡ Some d → HasNumbers Hotine zs d
hotine_found zs d h e =
    let more : List Parameter =
    are.ScaleAtCentre ∷ are.EastingAtCentre ∷ are.NorthingAtCentre ∷ [] in
    let first : Crs = made Hotine zs.0 zs.1.0 zs.1.1.0 (tenths 10) (pos 0) (pos 0) (pos 0) in
    let step = some_of (all_numbers more zs.1.1.1.1)
    (with_number are.RectifiedToSkew first zs.1.1.1.0) d e in
    let same = if_some (int_eq zs.1.1.1.0 zs.1.1.0) first step.0 step.1 in
    let angle : zs.1.1.0 ≡ zs.1.1.1.0 =
    sym ((Decides-int_eq zs.1.1.1.0 zs.1.1.0).0 same.0) in
    let c : Crs =
    made Hotine zs.0 zs.1.0 zs.1.1.0 zs.1.1.1.1.0 (pos 0) zs.1.1.1.1.1.0 zs.1.1.1.1.1.1.0 in
    let whole : done c ≡ Some d =
    ap (all_numbers more zs.1.1.1.1) same.1 ∙ step.2 in
    subst (λ (x : Crs). HasNumbers Hotine zs x) (inside c d whole) record {
      kind_is = refl;
      is = record {
        lat = h.0;
        lon = h.1.0;
        azimuth = h.1.1.0;
        scale = h.1.1.1.1.0;
        origin = refl;
        easting = h.1.1.1.1.1.0;
        northing = h.1.1.1.1.1.1.0;
      };
      line = line_is c
          ∙ ap (λ (z : ℤ). start ++ (method_text Hotine
          ++ written Hotine (parameters_of Hotine)
          (zs.0, (zs.1.0, (zs.1.1.0, (z, zs.1.1.1.1)))))) angle;
    }

numbers_found : (kind : Kind) (zs : Numbers (parameters_of kind)) (d : Crs)
    → AreAllowed kind (parameters_of kind) zs
    → all_numbers (parameters_of kind) zs (blank kind) ≡ Some d → HasNumbers kind zs d
numbers_found Tm zs d h e = natural_found zs d h e
numbers_found Lambert zs d h e = lambert_found zs d h e
numbers_found Hotine zs d h e = hotine_found zs d h e
numbers_found Lambert2 zs d h e = lambert2_found zs d h e

-- a line that is read is that of its system
crs_found : (text : List ℕ) (c : Crs) → crs text ≡ Ok c → IsLineOf text c
unfolding crs
crs_found text c e =
    let size : ℕ = length text in
    let first = fitted_ok size text (rest_behind start text) (read_method size) c e in
    let second = fitted_ok size first.0 (kind_at first.0) _ c first.2 in
    let kind : Kind = second.0 in
    let read = found_from size kind (parameters_of kind) (blank kind) c (method_text kind) first.0
    refl second.2 in
    let has = numbers_found kind read.numbers c read.allowed read.all in
    record {
      is = has.is;
      same = behind_found start text first.0 first.1
          ∙ (ap (λ x. start ++ x) read.same ∙ sym has.line);
    }

kind_is : (kind : Kind) (rest : List ℕ) → kind_at (method_text kind ++ rest) ≡ Some kind
unfolding kind_at method_text
kind_is Tm rest = refl
kind_is Lambert rest = refl
kind_is Hotine rest = refl
kind_is Lambert2 rest = refl

same_int : (z : ℤ) → int_eq z z ≡ true
same_int z = (Decides-int_eq z z).1 refl

-- the numbers of a system are in their ranges, and give it back
pub record HasAll (c : Crs) : Type 0 where
  pub allowed : AreAllowed c.kind (parameters_of c.kind) (numbers_of c (parameters_of c.kind))
  pub all : all_numbers (parameters_of c.kind) (numbers_of c (parameters_of c.kind)) (blank c.kind)
      ≡ Some c

made_all : (k : Kind) (lat lon a s o e n : ℤ) → IsCrs (made k lat lon a s o e n)
    → HasAll (made k lat lon a s o e n)
made_all Tm lat lon a s o e n h = record {
  allowed = (h.lat, (h.lon, (h.scale, (h.easting, (h.northing, tt)))));
  all = ap (λ (x : ℤ). Some (made Tm lat lon x s (pos 0) e n)) (sym h.azimuth)
      ∙ ap (λ (x : ℤ). Some (made Tm lat lon a s x e n)) (sym h.origin);
}
made_all Lambert lat lon a s o e n h = record {
  allowed = (h.lat, (h.lon, (h.scale, (h.easting, (h.northing, tt)))));
  all = ap (λ (x : ℤ). Some (made Lambert lat lon x s (pos 0) e n)) (sym h.azimuth)
      ∙ ap (λ (x : ℤ). Some (made Lambert lat lon a s x e n)) (sym h.origin);
}
made_all Hotine lat lon a s o e n h = record {
  allowed = (
    h.lat,
    (h.lon, (h.azimuth, (h.azimuth, (h.scale, (h.easting, (h.northing, tt)))))),
  );
  all = rw (same_int a)
      (ap (λ (x : ℤ). Some (made Hotine lat lon a s x e n)) (sym h.origin));
}
made_all Lambert2 lat lon a s o e n h = record {
  allowed = (h.origin, (h.lon, (h.lat, (h.azimuth, (h.easting, (h.northing, tt))))));
  all = ap (λ (x : ℤ). Some (made Lambert2 lat lon a x o e n)) (sym h.scale);
}

has_all : (c : Crs) → IsCrs c → HasAll c
has_all c h = made_all c.kind c.lat c.lon c.azimuth c.scale c.origin c.easting c.northing h

-- the line of a system is read to it
pub crs_again : (c : Crs) → IsCrs c → crs (crs_text c) ≡ Ok c
unfolding crs
crs_again c h =
    let text : List ℕ = crs_text c in
    let size : ℕ = length text in
    let values : List ℕ =
    written c.kind (parameters_of c.kind) (numbers_of c (parameters_of c.kind)) in
    let left : List ℕ = method_text c.kind ++ values in
    let all = has_all c h in
    fitted_again size text (rest_behind start text) (read_method size) left (Ok c)
    (behind_some start text left (line_is c))
    (fitted_again size left (kind_at left) _ c.kind (Ok c) (kind_is c.kind values)
    (again_from size c.kind (parameters_of c.kind) (numbers_of c (parameters_of c.kind))
    (blank c.kind) c (method_text c.kind) left refl all.allowed all.all refl))

-- the same of what a call answers
pub found_if : (text : List ℕ) (r : Result Crs CrsFault) → r ≡ crs text → IfOk r (IsLineOf text)
found_if text (Ok c) e = crs_found text c (sym e)
found_if text (Err fault) e = tt
