-- The lines of a job are plain words.
use Rattle.std.proofs.Common.{◌≡◌, ℕ, ◌≤◌, lit≤, Bool, true, false, ◌&&◌, ℤ, pos, neg_ℤ}
use Rattle.std.proofs.Common.{unsigned_abs, List, [], ◌∷◌, ◌++◌, map, decimal, Option, Some}
use Rattle.std.proofs.Common.{None, IfSome, refl, ◌∙◌, arith}
use Rattle.std.specs.List.{list_all}
use Rattle.std.proofs.lemmas.Int.{ints}
use Rattle.std.proofs.lemmas.List.Folds.{list_all-append}
use Rattle.hex.specs.Hex.{encode_lower}
use Rattle.ldp_decimal.specs.Writing.{decimal_text, trimmed_text}
use Rattle.ldp_quantity.specs.Between.{IsBetween}
use Rattle.ldp_num.specs.Number.{limit}
use Rattle.ldp_spelling.specs.Texts.{Words}
use Rattle.ldp_spelling.specs.Hashes.{IsHash}
use Rattle.ldp_spelling.specs.Pieces.{line_of, is_plain, is_line}
use Rattle.ldp_spelling.proofs.Plain.{plain_decimal, plain_fixed, plain_trimmed, plain_hash}
use Rattle.ldp_design.specs.declared.family.Kind.{Kind}
use Rattle.ldp_design.specs.declared.family.Kind.TheVariants.{Tm, Lambert, Hotine, Lambert2}
use Rattle.ldp_design.specs.declared.axis.AxisName.{AxisName}
use Rattle.ldp_design.specs.declared.axis.AxisName.TheVariants.{Lat, Lon, Azimuth, Scale}
use Rattle.ldp_design.specs.declared.design.Design.{Design}
use Rattle.ldp_design.specs.declared.node.Node.{Node}
use Rattle.ldp_design.specs.declared.node.Node.TheVariants.{Tree, Split, Leaf, Unusable}
use Rattle.ldp_job.specs.declared.names.Names.{Names}
use Rattle.ldp_job.specs.declared.report.Report.{Report}
use Rattle.ldp_job.specs.declared.share.Share.{Share}
use Rattle.ldp_job.specs.declared.job.Job.{Job}
use Rattle.ldp_job.specs.Values.{IsCount, IsWorst, IsShare, IsDesign, IsReport, AreNames}
use Rattle.ldp_job.specs.Values.{IsEntry, AreEntries, IsJob}
use Rattle.ldp_job.specs.Texts.{version_words, names_words, design_words, share_words}
use Rattle.ldp_job.specs.Texts.{worst_words, report_words, entry_words}
use Rattle.ldp_job.specs.Texts.{forest_words, job_words}
use Rattle.ldp_design.specs.Words.{axis_text, kind_text}
use Rattle.ldp_job.proofs.Lined.{is_written}
use Rattle.ldp_spelling.proofs.Pieces.{words_line}

both : (a b : Bool) → (a && b) ≡ true → (a ≡ true) × (b ≡ true)
both true b e = (refl, e)
both false b e = absurd cc

plain_count : (n : ℕ) → IsCount n → is_plain (decimal n) ≡ true
plain_count n h = plain_decimal n (omega arith)

pub abs_below : (low high : ℕ) (z : ℤ) → IsBetween (neg_ℤ (pos low)) (pos high) z → low ≤ limit
    → high ≤ limit → unsigned_abs z ≤ limit
abs_below low high z h l k = omega (arith, ints, h.0, h.1, l, k)

pub abs_most : (high : ℕ) (z : ℤ) → IsBetween (pos 0) (pos high) z → high ≤ limit
    → unsigned_abs z ≤ limit
abs_most high z h k = omega (arith, ints, h.0, h.1, k)

pub design_plain : (d : Design) → IsDesign d → is_written (design_words d) ≡ true
design_plain d h =
    let family : is_plain (decimal d.family) ≡ true =
    plain_decimal d.family (omega (arith, h.family.1)) in
    rw (
      family,
      plain_count d.lat h.lat,
      plain_count d.lon h.lon,
      plain_count d.azimuth h.azimuth,
      plain_count d.scale h.scale,
    ) refl

share_plain : (s : Option Share) → IfSome s IsShare → list_all is_plain (share_words s) ≡ true
share_plain None h = refl
share_plain (Some s) h =
    rw (
      plain_count s.over h.over,
      plain_decimal (unsigned_abs s.tolerance)
          (abs_most 1000000000000000 s.tolerance h.tolerance (lit≤ tt)),
    ) refl

pub worst_plain : (worst : ℤ) (share : Option Share) → IsWorst worst → IfSome share IsShare
    → is_written (worst_words worst share) ≡ true
worst_plain worst share h k =
    rw (plain_decimal (unsigned_abs worst) (abs_most limit worst h (omega arith)))
    (share_plain share k)

pub kind_plain : (k : Kind) → is_plain (kind_text k) ≡ true
kind_plain Tm = refl
kind_plain Lambert = refl
kind_plain Hotine = refl
kind_plain Lambert2 = refl

axis_plain : (a : AxisName) → is_plain (axis_text a) ≡ true
axis_plain Lat = refl
axis_plain Lon = refl
axis_plain Azimuth = refl
axis_plain Scale = refl

-- the words of a report, one by one
pub record IsPlainReport (r : Report) : Type 0 where
  pub lat : is_plain (trimmed_text 12 r.lat) ≡ true
  pub lon : is_plain (trimmed_text 12 r.lon) ≡ true
  pub azimuth : is_plain (trimmed_text 12 r.azimuth) ≡ true
  pub scale : is_plain (trimmed_text 15 r.scale) ≡ true
  pub ppm : is_plain (decimal_text 9 r.ppm) ≡ true
  pub row : is_plain (decimal r.row) ≡ true
  pub col : is_plain (decimal r.col) ≡ true
  pub cells : is_plain (decimal r.cells) ≡ true
  pub missing : is_plain (decimal r.missing) ≡ true
  pub nodes : is_plain (decimal r.nodes) ≡ true

pub report_is_plain : (r : Report) → IsReport r → IsPlainReport r
report_is_plain r h = record {
  lat = plain_trimmed 12 r.lat (lit≤ tt)
      (abs_below 80000000000000 80000000000000 r.lat h.lat (lit≤ tt) (lit≤ tt));
  lon = plain_trimmed 12 r.lon (lit≤ tt)
      (abs_below 180000000000000 360000000000000 r.lon h.lon (lit≤ tt) (lit≤ tt));
  azimuth =
      plain_trimmed 12 r.azimuth (lit≤ tt)
      (abs_below 85000000000000 85000000000000 r.azimuth h.azimuth (lit≤ tt) (lit≤ tt));
  scale = plain_trimmed 15 r.scale (lit≤ tt) (omega (arith, ints, h.scale.0, h.scale.1));
  ppm = plain_fixed 9 r.ppm (lit≤ tt) (abs_most limit r.ppm h.ppm (omega arith));
  row = plain_count r.row h.row;
  col = plain_count r.col h.col;
  cells = plain_count r.cells h.cells;
  missing = plain_count r.missing h.missing;
  nodes = plain_count r.nodes h.nodes;
}

pub report_plain : (r : Report) → IsReport r → list_all is_written (report_words r) ≡ true
report_plain r h =
    let p = report_is_plain r h in
    rw (
      kind_plain r.kind,
      p.lat,
      p.lon,
      p.azimuth,
      p.scale,
      p.ppm,
      p.row,
      p.col,
      p.cells,
      p.missing,
      p.nodes,
    ) refl

pub entry_plain : (n : Node) → IsEntry n → is_written (entry_words n) ≡ true
entry_plain (Tree family) h = let plain : is_plain (decimal family) ≡ true =
    plain_decimal family (omega (arith, h.1)) in rw plain refl
entry_plain (Split axis cut) h = rw (axis_plain axis, plain_count cut h) refl
entry_plain (Leaf cell) h = rw (plain_count cell h) refl
entry_plain (Unusable cell) h = rw (plain_count cell h) refl

pub entries_plain : (ns : List Node) → AreEntries ns
    → list_all (λ n. is_written (entry_words n)) ns ≡ true
entries_plain [] h = refl
entries_plain (n ∷ ns) h = rw (entry_plain n h.0) (entries_plain ns h.1)

forest_plain : (ns : List Node) → AreEntries ns → list_all is_written (forest_words ns) ≡ true
forest_plain [] h = refl
forest_plain (n ∷ ns) h = rw (entry_plain n h.0) (forest_plain ns h.1)

pub version_plain : (names : Option Names) → is_written (version_words names) ≡ true
version_plain None = rw (plain_decimal 1 (lit≤ tt)) refl
version_plain (Some names) = rw (plain_decimal 2 (lit≤ tt)) refl

pub hash_plain : (hash : List ℕ) → IsHash hash → is_plain (encode_lower hash) ≡ true
hash_plain hash h = plain_hash hash h.bytes

pub names_plain : (names : Option Names) → IfSome names AreNames
    → list_all is_written (names_words names) ≡ true
names_plain None h = refl
names_plain (Some n) h =
    rw (hash_plain n.zone h.zone, hash_plain n.heights h.heights, hash_plain n.grids h.grids) refl

all_append : (a b : List Words) → list_all is_written a ≡ true → list_all is_written b ≡ true
    → list_all is_written (a ++ b) ≡ true
all_append a b h k = list_all-append is_written a b ∙ rw (h, k) refl

job_plain : (j : Job) → IsJob j → list_all is_written (job_words j) ≡ true
job_plain j h =
    let body =
    all_append (report_words j.report) (forest_words j.forest) (report_plain j.report h.report)
    (forest_plain j.forest h.entries) in
    rw (version_plain j.names)
    (all_append (names_words j.names)
    (design_words j.design ∷ worst_words j.worst j.share
    ∷ (report_words j.report ++ forest_words j.forest)) (names_plain j.names h.names)
    (rw (design_plain j.design h.design, worst_plain j.worst j.share h.worst h.share) body))

line_is : (ws : Words) → is_written ws ≡ true → is_line (line_of ws) ≡ true
line_is [] e = absurd cc
line_is (w ∷ ws) e = words_line (w ∷ ws) e

lines_are : (ls : List Words) → list_all is_written ls ≡ true
    → list_all is_line (map line_of ls) ≡ true
lines_are [] e = refl
lines_are (ws ∷ ls) e = let two = both (is_written ws) (list_all is_written ls) e in
    rw (line_is ws two.0) (lines_are ls two.1)

pub job_lines_plain : (j : Job) → IsJob j → list_all is_line (map line_of (job_words j)) ≡ true
job_lines_plain j h = lines_are (job_words j) (job_plain j h)
