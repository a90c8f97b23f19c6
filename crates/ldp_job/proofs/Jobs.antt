-- A text that is read is that of its job, and the text of a job is read to it.
use Rattle.std.proofs.Common.{◌≡◌, ◌≢◌, ℕ, ◌+◌, ◌<◌, ◌≤◌, ◌==◌, ◌||◌, lit≤, lit<, Bool, true, false}
use Rattle.std.proofs.Common.{ℤ, neg_ℤ, List, [], ◌∷◌, ◌++◌, length}
use Rattle.std.proofs.Common.{map, codes, decimal, Option, Some, None, IfSome, IfOk}
use Rattle.std.proofs.Common.{Result, Ok, Err, refl, sym, ap, subst, ◌∙◌, arith, if◌then◌else◌}
use Rattle.std.proofs.lemmas.Bool.Decides.{nat_tests}
use Rattle.ldp_quantity.specs.Quantity.{degrees, tenths}
use Rattle.ldp_quantity.specs.Between.{IsBetween}
use Rattle.ldp_quantity.specs.Results.{◌>>=◌}
use Rattle.ldp_spelling.specs.Texts.{Words}
use Rattle.ldp_spelling.specs.Hashes.{IsHash}
use Rattle.ldp_spelling.specs.Pieces.{lines, words, line_of}
use Rattle.ldp_spelling.proofs.Pieces.{line_is_words, lines_again, text_is_lines}
use Rattle.ldp_design.specs.declared.design.Design.{Design}
use Rattle.ldp_design.specs.declared.node.Node.{Node}
use Rattle.ldp_design.specs.Forests.{IsWellShaped}
use Rattle.ldp_job.specs.declared.fault.JobFault.{JobFault}
use Rattle.ldp_job.specs.declared.fault.JobFault.TheVariants.{Version, Memory}
use Rattle.ldp_job.specs.declared.names.Names.{Names}
use Rattle.ldp_job.specs.declared.report.Report.{Report}
use Rattle.ldp_job.specs.declared.share.Share.{Share}
use Rattle.ldp_job.specs.declared.job.Job.{Job}
use Rattle.ldp_job.specs.Values.{AreNames, IsDesign, IsWorst, IsReport, AreEntries, IsJob}
use Rattle.ldp_job.specs.Texts.{version_number, version_words, names_words, design_words}
use Rattle.ldp_job.specs.Texts.{worst_words, report_words, forest_words, job_words, job_text}
use Rattle.ldp_job.specs.Lines.{version_in, file_in, design_in, worst_in, kind_in, lat_in}
use Rattle.ldp_job.specs.Lines.{lon_in, azimuth_in, scale_in, ppm_in, at_in, cells_in, nodes_in}
use Rattle.ldp_job.specs.Faults.{Lines}
use Rattle.ldp_job.specs.Entries.{forest_at}
use Rattle.ldp_job.specs.Values.{most}
use Rattle.ldp_job.specs.Reading.{known, version_as, version_line, hashes_at, names_at, report_at}
use Rattle.ldp_job.specs.Reading.{design_number, closed_by, whole_forest_at, parts_at, job_of, job}
use Rattle.ldp_job.specs.Reading.{IsTextOf}
use Rattle.ldp_job.proofs.Lined.{bind_ok, bind_again, done, inside_ok, line_step, line_again}
use Rattle.ldp_job.proofs.Lined.{words_are, ended_is}
use Rattle.ldp_job.proofs.Taken.{and_then}
use Rattle.ldp_job.proofs.Designs.{design_found, design_again}
use Rattle.ldp_job.proofs.Heads.{version_found, version_again, objective_words}
use Rattle.ldp_job.proofs.Heads.{IsObjective, worst_found, worst_again, kind_words, Always}
use Rattle.ldp_job.proofs.Heads.{kind_found, kind_again, trimmed_words, trimmed_line_found}
use Rattle.ldp_job.proofs.Heads.{trimmed_line_again, ppm_words, ppm_found, ppm_again, at_words}
use Rattle.ldp_job.proofs.Heads.{at_found, at_again, cells_words, cells_found, cells_again}
use Rattle.ldp_job.proofs.Heads.{nodes_words, nodes_found, nodes_again, ArePair, hash_words}
use Rattle.ldp_job.proofs.Heads.{hash_line_found, hash_line_again}
use Rattle.ldp_job.specs.Values.{IsCount}
use Rattle.ldp_job.proofs.Shapes.{forest_found, forest_again}
use Rattle.ldp_job.proofs.Plain.{version_plain, design_plain, worst_plain, report_is_plain}
use Rattle.ldp_job.proofs.Plain.{kind_plain, hash_plain, entries_plain, job_lines_plain}

-- several lines that were read are what is written for their value
pub record IsSection {A : Type 0} (write : A → List Words) (Valid : A → Type 0) (ls : Lines)
    (p : A × Lines) : Type 0 where
  pub valid : Valid p.0
  pub same : ls ≡ map line_of (write p.0) ++ p.1

abbrev lat_words : ℤ → Words
lat_words z = trimmed_words (codes "lat") 12 z

abbrev lon_words : ℤ → Words
lon_words z = trimmed_words (codes "lon") 12 z

abbrev azimuth_words : ℤ → Words
azimuth_words z = trimmed_words (codes "azimuth") 12 z

abbrev scale_words : ℤ → Words
scale_words z = trimmed_words (codes "k0") 15 z

abbrev IsLat : ℤ → Type 0
IsLat = IsBetween (neg_ℤ (degrees 80)) (degrees 80)

abbrev IsLon : ℤ → Type 0
IsLon = IsBetween (neg_ℤ (degrees 180)) (degrees 360)

abbrev IsAzimuth : ℤ → Type 0
IsAzimuth = IsBetween (neg_ℤ (degrees 85)) (degrees 85)

abbrev IsScale : ℤ → Type 0
IsScale = IsBetween (tenths 5) (tenths 20)

report_found : (n : ℕ) (ls : Lines) (p : Report × Lines) → report_at n ls ≡ Ok p
    → IsSection report_words IsReport ls p
unfolding report_at
report_found n ls p e =
    let kind = line_step kind_words Always n kind_in kind_found ls _ p e in
    let lat =
    line_step lat_words IsLat (n + 1) lat_in
    (trimmed_line_found (codes "lat") 12 (neg_ℤ (degrees 80)) (degrees 80)) kind.0.1 _ p
    kind.3 in
    let lon =
    line_step lon_words IsLon (n + 2) lon_in
    (trimmed_line_found (codes "lon") 12 (neg_ℤ (degrees 180)) (degrees 360)) lat.0.1 _ p
    lat.3 in
    let azimuth =
    line_step azimuth_words IsAzimuth (n + 3) azimuth_in
    (trimmed_line_found (codes "azimuth") 12 (neg_ℤ (degrees 85)) (degrees 85)) lon.0.1 _ p
    lon.3 in
    let scale =
    line_step scale_words IsScale (n + 4) scale_in
    (trimmed_line_found (codes "k0") 15 (tenths 5) (tenths 20)) azimuth.0.1 _ p azimuth.3 in
    let ppm = line_step ppm_words IsWorst (n + 5) ppm_in ppm_found scale.0.1 _ p scale.3 in
    let at = line_step at_words ArePair (n + 6) at_in at_found ppm.0.1 _ p ppm.3 in
    let cells = line_step cells_words ArePair (n + 7) cells_in cells_found at.0.1 _ p at.3 in
    let nodes = line_step nodes_words IsCount (n + 8) nodes_in nodes_found cells.0.1 _ p cells.3 in
    subst (λ q. IsSection report_words IsReport ls q) (inside_ok _ p nodes.3) record {
      valid = record {
        lat = lat.1;
        lon = lon.1;
        azimuth = azimuth.1;
        scale = scale.1;
        ppm = ppm.1;
        row = at.1.0;
        col = at.1.1;
        cells = cells.1.0;
        missing = cells.1.1;
        nodes = nodes.1;
      };
      same = and_then kind.2
          (and_then lat.2
          (and_then lon.2
          (and_then azimuth.2
          (and_then scale.2 (and_then ppm.2 (and_then at.2 (and_then cells.2 nodes.2)))))));
    }

report_again : (n : ℕ) (r : Report) (rest : Lines) → 0 < length rest → IsReport r
    → report_at n (map line_of (report_words r) ++ rest) ≡ Ok (r, rest)
unfolding report_at
report_again n r rest some h =
    let p = report_is_plain r h in
    line_again (kind_words r.kind) n kind_in r.kind _ _ (Ok (r, rest)) (omega arith)
    (rw (kind_plain r.kind) refl) (kind_again r.kind)
    (line_again (lat_words r.lat) (n + 1) lat_in r.lat _ _ (Ok (r, rest)) (omega arith)
    (rw p.lat refl)
    (trimmed_line_again (codes "lat") 12 (neg_ℤ (degrees 80)) (degrees 80) r.lat (lit≤ tt)
    record { le = tt } record { le = tt } h.lat)
    (line_again (lon_words r.lon) (n + 2) lon_in r.lon _ _ (Ok (r, rest)) (omega arith)
    (rw p.lon refl)
    (trimmed_line_again (codes "lon") 12 (neg_ℤ (degrees 180)) (degrees 360) r.lon (lit≤ tt)
    record { le = tt } record { le = tt } h.lon)
    (line_again (azimuth_words r.azimuth) (n + 3) azimuth_in r.azimuth _ _ (Ok (r, rest))
    (omega arith) (rw p.azimuth refl)
    (trimmed_line_again (codes "azimuth") 12 (neg_ℤ (degrees 85)) (degrees 85) r.azimuth
    (lit≤ tt) record { le = tt } record { le = tt } h.azimuth)
    (line_again (scale_words r.scale) (n + 4) scale_in r.scale _ _ (Ok (r, rest)) (omega arith)
    (rw p.scale refl)
    (trimmed_line_again (codes "k0") 15 (tenths 5) (tenths 20) r.scale (lit≤ tt)
    record { le = tt } record { le = tt } h.scale)
    (line_again (ppm_words r.ppm) (n + 5) ppm_in r.ppm _ _ (Ok (r, rest)) (omega arith)
    (rw p.ppm refl) (ppm_again r.ppm h.ppm)
    (line_again (at_words (r.row, r.col)) (n + 6) at_in (r.row, r.col) _ _ (Ok (r, rest))
    (omega arith) (rw (p.row, p.col) refl) (at_again (r.row, r.col) (h.row, h.col))
    (line_again (cells_words (r.cells, r.missing)) (n + 7) cells_in (r.cells, r.missing) _ _
    (Ok (r, rest)) (omega arith) (rw (p.cells, p.missing) refl)
    (cells_again (r.cells, r.missing) (h.cells, h.missing))
    (line_again (nodes_words r.nodes) (n + 8) nodes_in r.nodes rest _ (Ok (r, rest)) some
    (rw p.nodes refl) (nodes_again r.nodes h.nodes) refl))))))))

abbrev hashes_words : Names → List Words
hashes_words n = names_words (Some n)

hashes_found : (ls : Lines) (p : Names × Lines) → hashes_at ls ≡ Ok p
    → IsSection hashes_words AreNames ls p
unfolding hashes_at
hashes_found ls p e =
    let zone =
    line_step (hash_words (codes "zone")) IsHash 2 (file_in (codes "zone"))
    (hash_line_found (codes "zone")) ls _ p e in
    let heights =
    line_step (hash_words (codes "heights")) IsHash 3 (file_in (codes "heights"))
    (hash_line_found (codes "heights")) zone.0.1 _ p zone.3 in
    let grids =
    line_step (hash_words (codes "grids")) IsHash 4 (file_in (codes "grids"))
    (hash_line_found (codes "grids")) heights.0.1 _ p heights.3 in
    subst (λ q. IsSection hashes_words AreNames ls q) (inside_ok _ p grids.3) record {
      valid = record { zone = zone.1; heights = heights.1; grids = grids.1 };
      same = and_then zone.2 (and_then heights.2 grids.2);
    }

hashes_again : (n : Names) (rest : Lines) → 0 < length rest → AreNames n
    → hashes_at (map line_of (hashes_words n) ++ rest) ≡ Ok (n, rest)
unfolding hashes_at
hashes_again n rest some h =
    line_again (hash_words (codes "zone") n.zone) 2 (file_in (codes "zone")) n.zone _ _
    (Ok (n, rest)) (omega arith) (rw (hash_plain n.zone h.zone) refl)
    (hash_line_again (codes "zone") n.zone h.zone)
    (line_again (hash_words (codes "heights") n.heights) 3 (file_in (codes "heights")) n.heights _ _
    (Ok (n, rest)) (omega arith) (rw (hash_plain n.heights h.heights) refl)
    (hash_line_again (codes "heights") n.heights h.heights)
    (line_again (hash_words (codes "grids") n.grids) 4 (file_in (codes "grids")) n.grids rest _
    (Ok (n, rest)) some (rw (hash_plain n.grids h.grids) refl)
    (hash_line_again (codes "grids") n.grids h.grids) refl))

-- the version of a job and its names
pub record IsVersion (ls : Lines) (p : ℕ × Lines) : Type 0 where
  pub known : (p.0 == 1 || p.0 == 2) ≡ true
  pub same : ls ≡ line_of (codes "ldp" ∷ codes "job" ∷ decimal p.0 ∷ []) ∷ p.1

known_by : (rest : Lines) (version : ℕ) (t : Bool) (p : ℕ × Lines)
    → (version == 1 || version == 2) ≡ t
    → (if t then Ok (version, rest) else Err (Version version)) ≡ Ok p
    → ((version, rest) ≡ p) × ((version == 1 || version == 2) ≡ true)
known_by rest version true p t e = (inside_ok (version, rest) p e, t)
known_by rest version false p t e = absurd cc

known_is : (rest : Lines) (o : Option ℕ) (p : ℕ × Lines) → known rest o ≡ Ok p
    → (version : ℕ) × (o ≡ Some version) × ((version, rest) ≡ p)
    × ((version == 1 || version == 2) ≡ true)
known_is rest None p e = absurd cc
known_is rest (Some version) p e = let is =
    known_by rest version (version == 1 || version == 2) p refl e in (version, refl, is.0, is.1)

version_line_found : (ls : Lines) (p : ℕ × Lines) → version_line ls ≡ Ok p → IsVersion ls p
unfolding version_line
version_line_found [] p e = absurd cc
version_line_found (l ∷ []) p e = absurd cc
version_line_found (l ∷ m ∷ ms) p e =
    let is = known_is (m ∷ ms) (version_in (words l)) p e in
    let read = version_found (words l) is.0 is.1 in
    subst (λ q. IsVersion (l ∷ m ∷ ms) q) is.2 record {
      known = is.3;
      same = ap (λ x. x ∷ m ∷ ms)
          (line_is_words l (codes "ldp" ∷ codes "job" ∷ decimal is.0 ∷ []) read.0);
    }

version_small : (names : Option Names) → version_number names ≤ most
version_small None = lit≤ tt
version_small (Some names) = lit≤ tt

version_known : (names : Option Names) (rest : Lines)
    → known rest (Some (version_number names)) ≡ Ok (version_number names, rest)
version_known None rest = refl
version_known (Some names) rest = refl

version_line_again : (names : Option Names) (rest : Lines) → 0 < length rest
    → version_line (line_of (version_words names) ∷ rest) ≡ Ok (version_number names, rest)
unfolding version_line
version_line_again names rest some =
    ap version_as (ended_is (line_of (version_words names)) rest some)
    ∙ (ap (λ ws. known rest (version_in ws)) (words_are (version_words names) (version_plain names))
    ∙ (ap (known rest) (version_again (version_number names) (version_small names))
    ∙ version_known names rest))

pub record IsNamed (version : ℕ) (ls : Lines) (p : Option Names × Lines) : Type 0 where
  pub valid : IfSome p.0 AreNames
  pub number : version_number p.0 ≡ version
  pub same : ls ≡ map line_of (names_words p.0) ++ p.1

is_second : (version : ℕ) → (version == 1) ≡ false → (version == 1 || version == 2) ≡ true
    → 2 ≡ version
is_second version e h = let two : (version == 2) ≡ true = ap (λ t. t || version == 2) (sym e)
    ∙ h in grind (arith, nat_tests)

is_first : (version : ℕ) → (version == 1) ≡ true → 1 ≡ version
is_first version e = grind (arith, nat_tests)

named_by : (version : ℕ) (ls : Lines) (p : Option Names × Lines) (t : Bool) → (version == 1) ≡ t
    → (version == 1 || version == 2) ≡ true
    → (if t then Ok (None, ls) else (hashes_at ls >>= (λ names. Ok (Some names.0, names.1)))) ≡ Ok p
    → IsNamed version ls p
named_by version ls p true t h e =
    subst (λ q. IsNamed version ls q) (inside_ok (None, ls) p e)
    record { valid = tt; number = is_first version t; same = refl }
named_by version ls p false t h e =
    let hashes = bind_ok (hashes_at ls) (λ names. Ok (Some names.0, names.1)) p e in
    let found = hashes_found ls hashes.0 hashes.1 in
    subst (λ q. IsNamed version ls q) (inside_ok (Some hashes.0.0, hashes.0.1) p hashes.2)
    record { valid = found.valid; number = is_second version t h; same = found.same }

names_found : (version : ℕ) (ls : Lines) (p : Option Names × Lines)
    → (version == 1 || version == 2) ≡ true → names_at version ls ≡ Ok p → IsNamed version ls p
unfolding names_at
names_found version ls p h e = named_by version ls p (version == 1) refl h e

names_again : (names : Option Names) (rest : Lines) → 0 < length rest → IfSome names AreNames
    → names_at (version_number names) (map line_of (names_words names) ++ rest) ≡ Ok (names, rest)
unfolding names_at
names_again None rest some h = refl
names_again (Some n) rest some h =
    ap (λ r. r >>= (λ names. done (Some names.0, names.1))) (hashes_again n rest some h)

-- the end of a text
abbrev last : Lines
last = [] ∷ []

closed_is : (number : ℕ) (forest : List Node) (rest : Lines) (ns : List Node)
    → closed_by number forest rest ≡ Ok ns → (rest ≡ last) × (forest ≡ ns)
closed_is number forest [] ns e = absurd cc
closed_is number forest ([] ∷ []) ns e = (refl, inside_ok forest ns e)
closed_is number forest ((b ∷ bs) ∷ []) ns e = absurd cc
closed_is number forest (l ∷ m ∷ ms) ns e = absurd cc

pub record IsWhole (ls : Lines) (ns : List Node) : Type 0 where
  pub entries : AreEntries ns
  pub shape : IsWellShaped ns
  pub same : ls ≡ map line_of (forest_words ns) ++ last

whole_found : (number : ℕ) (ls : Lines) (ns : List Node) → whole_forest_at number ls ≡ Ok ns
    → IsWhole ls ns
unfolding whole_forest_at
whole_found number ls ns e =
    let found = bind_ok (forest_at number 0 0 ls) _ ns e in
    let forest = forest_found number 0 0 ls found.0 (lit≤ tt) found.1 in
    let end = closed_is number found.0.0 found.0.1 ns found.2 in
    subst (λ x. IsWhole ls x) end.1 record {
      entries = forest.entries;
      shape = record { shape = forest.shape; few = omega (arith, forest.few) };
      same = forest.same ∙ ap (λ r. map line_of (forest_words found.0.0) ++ r) end.0;
    }

whole_again : (number : ℕ) (ns : List Node) → AreEntries ns → IsWellShaped ns
    → whole_forest_at number (map line_of (forest_words ns) ++ last) ≡ Ok ns
unfolding whole_forest_at
whole_again number ns h w =
    bind_again (forest_at number 0 0 (map line_of (forest_words ns) ++ last)) (ns, last)
    (λ found. closed_by number found.0 found.1) (Ok ns)
    (forest_again number 0 0 ns last (lit< tt) h (entries_plain ns h) w.shape
    (omega (arith, w.few))) refl

-- the lines behind the names
abbrev body_lines : Design → ℤ → Option Share → Report → List Node → Lines
body_lines design worst share report forest =
    line_of (design_words design) ∷ line_of (worst_words worst share)
    ∷ (map line_of (report_words report) ++ (map line_of (forest_words forest) ++ last))

pub record IsBody (of : Option Names) (ls : Lines) (j : Job) : Type 0 where
  pub names : j.names ≡ of
  pub design : IsDesign j.design
  pub objective : IsObjective (j.worst, j.share)
  pub report : IsReport j.report
  pub entries : AreEntries j.forest
  pub forest : IsWellShaped j.forest
  pub same : ls ≡ body_lines j.design j.worst j.share j.report j.forest

parts_found : (number : ℕ) (names : Option Names) (ls : Lines) (j : Job)
    → parts_at number names ls ≡ Ok j → IsBody names ls j
unfolding parts_at
parts_found number names ls j e =
    let design = line_step design_words IsDesign number design_in design_found ls _ j e in
    let worst =
    line_step objective_words IsObjective (number + 1) worst_in worst_found design.0.1 _ j
    design.3 in
    let report = bind_ok (report_at (number + 2) worst.0.1) _ j worst.3 in
    let reported = report_found (number + 2) worst.0.1 report.0 report.1 in
    let forest = bind_ok (whole_forest_at (number + 11) report.0.1) _ j report.2 in
    let whole = whole_found (number + 11) report.0.1 forest.0 forest.1 in
    subst (λ x. IsBody names ls x) (inside_ok _ j forest.2) record {
      names = refl;
      design = design.1;
      objective = worst.1;
      report = reported.valid;
      entries =
          whole.entries;
      forest = whole.shape;
      same = and_then design.2
          (and_then worst.2
          (reported.same ∙ ap (λ r. map line_of (report_words report.0.0) ++ r) whole.same));
    }

some_lines : (ls : Lines) → 0 < length (ls ++ last)
some_lines [] = lit< tt
some_lines (l ∷ ls) = omega arith

parts_again : (number : ℕ) (j : Job) → IsJob j
    → parts_at number j.names (body_lines j.design j.worst j.share j.report j.forest) ≡ Ok j
unfolding parts_at
parts_again number j h =
    line_again (design_words j.design) number design_in j.design _ _ (Ok j) (omega arith)
    (design_plain j.design h.design) (design_again j.design h.design)
    (line_again (worst_words j.worst j.share) (number + 1) worst_in (j.worst, j.share) _ _ (Ok j)
    (omega arith) (worst_plain j.worst j.share h.worst h.share)
    (worst_again (j.worst, j.share) (h.worst, h.share))
    (bind_again _ (j.report, map line_of (forest_words j.forest) ++ last) _ (Ok j)
    (report_again (number + 2) j.report (map line_of (forest_words j.forest) ++ last)
    (some_lines (map line_of (forest_words j.forest))) h.report)
    (bind_again _ j.forest _ (Ok j) (whole_again (number + 11) j.forest h.entries h.forest) refl)))

map_joined : (a b : List Words)
    → map line_of (a ++ b) ++ last ≡ map line_of a ++ (map line_of b ++ last)
map_joined [] b = refl
map_joined (w ∷ a) b = ap (λ x. line_of w ∷ x) (map_joined a b)

-- all lines of a job
job_lines : (j : Job) → map line_of (job_words j) ++ last
    ≡ line_of (version_words j.names)
    ∷ (map line_of (names_words j.names)
    ++ body_lines j.design j.worst j.share j.report j.forest)
job_lines j =
    ap (λ x. line_of (version_words j.names) ∷ x)
    (map_joined (names_words j.names)
    (design_words j.design ∷ worst_words j.worst j.share
    ∷ (report_words j.report ++ forest_words j.forest)))

lines_found : (ls : Lines) (j : Job) → job_of ls ≡ Ok j
    → IsJob j × (ls ≡ map line_of (job_words j) ++ last)
lines_found ls j e =
    let version = bind_ok (version_line ls) _ j e in
    let first = version_line_found ls version.0 version.1 in
    let names = bind_ok (names_at version.0.0 version.0.1) _ j version.2 in
    let named = names_found version.0.0 version.0.1 names.0 first.known names.1 in
    let body = parts_found (design_number names.0.0) names.0.0 names.0.1 j names.2 in
    let number : decimal version.0.0 ≡ decimal (version_number j.names) =
    ap decimal (sym named.number ∙ ap version_number (sym body.names)) in
    let head : line_of (codes "ldp" ∷ codes "job" ∷ decimal version.0.0 ∷ [])
    ≡ line_of (version_words j.names) =
    ap (λ w. line_of (codes "ldp" ∷ codes "job" ∷ w ∷ [])) number in
    let all : version.0.1 ≡ map line_of (names_words j.names)
    ++ body_lines j.design j.worst j.share j.report j.forest =
    named.same
    ∙ (ap (λ r. map line_of (names_words names.0.0) ++ r) body.same
    ∙ ap (λ n. map line_of (names_words n)
    ++ body_lines j.design j.worst j.share j.report j.forest) (sym body.names)) in (
      record {
        names = subst (λ n. IfSome n AreNames) (sym body.names) named.valid;
        design = body.design;
        worst = body.objective.0;
        share = body.objective.1;
        report =
            body.report;
        entries = body.entries;
        forest = body.forest;
      },
      first.same
          ∙ (ap (λ x. x ∷ version.0.1) head
          ∙ (ap (λ r. line_of (version_words j.names) ∷ r) all ∙ sym (job_lines j))),
    )

names_some : (names : Option Names) (rest : Lines) → 0 < length rest
    → 0 < length (map line_of (names_words names) ++ rest)
names_some None rest h = h
names_some (Some n) rest h = omega arith

lines_read : (j : Job) → IsJob j → job_of (map line_of (job_words j) ++ last) ≡ Ok j
lines_read j h =
    let body : Lines = body_lines j.design j.worst j.share j.report j.forest in
    let some : 0 < length body = omega arith in
    ap job_of (job_lines j)
    ∙ bind_again _ (version_number j.names, map line_of (names_words j.names) ++ body) _ (Ok j)
    (version_line_again j.names (map line_of (names_words j.names) ++ body)
    (names_some j.names body some))
    (bind_again _ (j.names, body) _ (Ok j) (names_again j.names body some h.names)
    (parts_again (design_number j.names) j h))

pub read_found : (text : List ℕ) (j : Job) → job text ≡ Ok j → IsTextOf text j
unfolding job job_text
read_found text j e =
    let found = lines_found (lines text) j e in
    record { is = found.0; same = text_is_lines text (map line_of (job_words j)) found.1 }

pub read_again : (j : Job) → IsJob j → job (job_text j) ≡ Ok j
unfolding job job_text
read_again j h = ap job_of (lines_again (map line_of (job_words j)) (job_lines_plain j h))
    ∙ lines_read j h

-- what a call answers that may want memory
pub found_if : (text : List ℕ) (r : Result Job JobFault) → (r ≢ Err Memory → r ≡ job text)
    → IfOk r (IsTextOf text)
found_if text (Err fault) e = tt
found_if text (Ok j) e = read_found text j (sym (e (λ same. cc)))
