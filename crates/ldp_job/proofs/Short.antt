-- How long a text can be. A word weighs its bytes and the separator behind it.
use Rattle.std.proofs.Common.{◌≡◌, ◌≤◌, ◌+◌, ◌*◌, ◌-◌, ◌^◌, ◌/◌, ◌%◌, ℕ, zero, suc, ℤ, pos, negsuc}
use Rattle.std.proofs.Common.{List, [], ◌∷◌, ◌++◌, length, map, decimal, codes, arith}
use Rattle.std.proofs.Common.{lit≤, lit<, Bool, true, false, neg_ℤ, div-add-mod', div-le_self}
use Rattle.std.proofs.Common.{if◌then◌else◌}
use Rattle.std.proofs.lemmas.Fmt.{length-decimal-le_wide}
use Rattle.std.proofs.lemmas.Int.{ints}
use Rattle.std.proofs.lemmas.List.{length-append, length-replicate}
use Rattle.std.specs.Prelude.{Option, None, Some, IfSome, unsigned_abs, replicate, ◌==◌}
use Rattle.ldp_decimal.specs.Writing.{sign, padded, pointed, onto_kept, without_zeros, whole_digits}
use Rattle.ldp_decimal.specs.Writing.{further_digits, decimal_text, trimmed_text}
use Rattle.ldp_spelling.specs.Pieces.{line_of, text_of}
use Rattle.ldp_num.specs.Number.{limit}
use Rattle.ldp_design.specs.declared.node.Node.{Node}
use Rattle.ldp_design.specs.declared.node.Node.TheVariants.{Tree, Split, Leaf, Unusable}
use Rattle.ldp_design.specs.Words.{axis_text, kind_text}
use Rattle.ldp_job.specs.Texts.{job_text, job_words, entry_words, forest_words}
use Rattle.hex.specs.Hex.{encode_lower, lower_digits}
use Rattle.hex.proofs.HexLemmas.{length-encode_with}
use Rattle.ldp_quantity.specs.Between.{IsBetween}
use Rattle.ldp_spelling.specs.Texts.{Words}
use Rattle.ldp_spelling.specs.Hashes.{IsHash}
use Rattle.ldp_design.specs.declared.axis.AxisName.{AxisName}
use Rattle.ldp_design.specs.declared.axis.AxisName.TheVariants.{Lat, Lon, Azimuth, Scale}
use Rattle.ldp_design.specs.declared.family.Kind.{Kind}
use Rattle.ldp_design.specs.declared.family.Kind.TheVariants.{Tm, Lambert, Hotine, Lambert2}
use Rattle.ldp_design.specs.declared.design.Design.{Design}
use Rattle.ldp_job.specs.declared.names.Names.{Names}
use Rattle.ldp_job.specs.declared.report.Report.{Report}
use Rattle.ldp_job.specs.declared.share.Share.{Share}
use Rattle.ldp_job.specs.Texts.{names_words, design_words, share_words}
use Rattle.ldp_job.specs.Texts.{version_words, worst_words, report_words}
use Rattle.ldp_job.specs.Values.{IsEntry, AreEntries, AreNames, IsDesign, IsShare, IsReport}
use Rattle.ldp_job.specs.Values.{IsWorst}
use Rattle.ldp_job.specs.Laws.{TextsAreShort}
use Rattle.ldp_job.proofs.Plain.{abs_below, abs_most}

abbrev weight : Words → ℕ
weight [] = 0
weight (w ∷ ws) = suc (length w) + weight ws

abbrev weights : List Words → ℕ
weights [] = 0
weights (ws ∷ lines) = suc (weight ws) + weights lines

line_below : (ws : Words) → length (line_of ws) ≤ weight ws
line_below [] = omega arith
line_below (w ∷ []) = omega arith
line_below (w ∷ v ∷ ws) =
    omega (arith, length-append w (32 ∷ line_of (v ∷ ws)), line_below (v ∷ ws))

text_below : (lines : List Words) → length (text_of (map line_of lines)) ≤ weights lines
text_below [] = omega arith
text_below (ws ∷ lines) =
    omega (
      arith,
      length-append (line_of ws ++ 10 ∷ []) (text_of (map line_of lines)),
      length-append (line_of ws) (10 ∷ []),
      line_below ws,
      text_below lines,
    )

weights-append : (before after : List Words)
    → weights (before ++ after) ≡ weights before + weights after
weights-append [] after = omega arith
weights-append (ws ∷ before) after = omega (arith, weights-append before after)

number_below : (n : ℕ) → n ≤ 10_000_000_000_000_000_000 → length (decimal n) ≤ 20
number_below n h = length-decimal-le_wide 20 n (lit< tt) (omega arith) (omega arith)

-- an index or a count
count_below : (n : ℕ) → n ≤ 4_294_967_295 → length (decimal n) ≤ 10
count_below n h = length-decimal-le_wide 10 n (lit< tt) (omega arith) (omega arith)

axis_below : (axis : AxisName) → length (axis_text axis) ≤ 7
axis_below Lat = omega arith
axis_below Lon = omega arith
axis_below Azimuth = omega arith
axis_below Scale = omega arith

entry_below : (n : Node) → IsEntry n → weight (entry_words n) ≤ 39
entry_below (Tree family) h = omega (arith, count_below family (omega (arith, h.1)))
entry_below (Split axis cut) h = omega (arith, axis_below axis, count_below cut h)
entry_below (Leaf cell) h = omega (arith, count_below cell h)
entry_below (Unusable cell) h = omega (arith, count_below cell h)

entries_below : (ns : List Node) → AreEntries ns
    → weights (map entry_words ns) ≤ 40 * length ns
entries_below [] h = omega arith
entries_below (n ∷ ns) h = omega (arith, entry_below n h.0, entries_below ns h.1)

forest_below : (ns : List Node) → AreEntries ns
    → weights (forest_words ns) ≤ 5 + 40 * length ns
forest_below ns h =
    omega (
      arith,
      weights-append (map entry_words ns) ((codes "end" ∷ []) ∷ []),
      entries_below ns h,
    )

sign_below : (z : ℤ) → length (sign z) ≤ 1
sign_below (pos n) = omega arith
sign_below (negsuc n) = omega arith

pointed_below : (ds : List ℕ) → length (pointed ds) ≤ suc (length ds)
pointed_below [] = omega arith
pointed_below (d ∷ ds) = omega arith

kept_below : (d : ℕ) (ds : List ℕ) → length (onto_kept d ds) ≤ suc (length ds)
kept_below d [] = by_zero (d == 48)
  where
    by_zero : (t : Bool) → length (if t then [] else d ∷ []) ≤ 1
    by_zero true = omega arith
    by_zero false = omega arith
kept_below d (e ∷ es) = omega arith

zeros_below : (ds : List ℕ) → length (without_zeros ds) ≤ length ds
zeros_below [] = omega arith
zeros_below (d ∷ ds) = omega (arith, kept_below d (without_zeros ds), zeros_below ds)

padded_below : (p n : ℕ) → length (decimal n) ≤ 20 → length (padded p n) ≤ p + 20
padded_below zero n h = omega arith
padded_below (suc p) n h =
    omega (
      arith,
      h,
      length-append (replicate (suc p - length (decimal n)) 48) (decimal n),
      length-replicate {A = ℕ} (suc p - length (decimal n)) 48,
    )

-- the digits of a number before the point, and behind it
digits_below : (places n : ℕ) → n ≤ limit → length (whole_digits places n) ≤ 20
digits_below places n h =
    number_below (n / 10 ^ places) (omega (arith, h, div-le_self n (10 ^ places)))

further_below : (places n : ℕ) → n ≤ limit → length (further_digits places n) ≤ places + 20
further_below places n h = padded_below places (n % 10 ^ places)
    (number_below (n % 10 ^ places) (omega (arith, h, div-add-mod' n (10 ^ places))))

decimal_below : (places : ℕ) (z : ℤ) → places ≤ 15 → unsigned_abs z ≤ limit
    → length (decimal_text places z) ≤ 57
unfolding decimal_text
decimal_below places z few h =
    let n : ℕ = unsigned_abs z in
    omega (
      arith,
      few,
      length-append (sign z) (whole_digits places n ++ pointed (further_digits places n)),
      length-append (whole_digits places n) (pointed (further_digits places n)),
      sign_below z,
      digits_below places n h,
      pointed_below (further_digits places n),
      further_below places n h,
    )

trimmed_below : (places : ℕ) (z : ℤ) → places ≤ 15 → unsigned_abs z ≤ limit
    → length (trimmed_text places z) ≤ 57
unfolding trimmed_text
trimmed_below places z few h =
    let n : ℕ = unsigned_abs z in
    let kept : List ℕ = without_zeros (further_digits places n) in
    omega (
      arith,
      few,
      length-append (sign z) (whole_digits places n ++ pointed kept),
      length-append (whole_digits places n) (pointed kept),
      sign_below z,
      digits_below places n h,
      pointed_below kept,
      zeros_below (further_digits places n),
      further_below places n h,
    )

hash_below : (hash : List ℕ) → IsHash hash → length (encode_lower hash) ≤ 64
hash_below hash h = omega (arith, length-encode_with lower_digits hash, h.size)

names_below : (names : Option Names) → IfSome names AreNames → weights (names_words names) ≤ 300
names_below None h = omega arith
names_below (Some n) h =
    omega (
      arith,
      hash_below n.zone h.zone,
      hash_below n.heights h.heights,
      hash_below n.grids h.grids,
    )

version_below : (names : Option Names) → weight (version_words names) ≤ 30
version_below None = omega (arith, count_below 1 (lit≤ tt))
version_below (Some n) = omega (arith, count_below 2 (lit≤ tt))

design_below : (d : Design) → IsDesign d → weight (design_words d) ≤ 70
design_below d h =
    omega (
      arith,
      count_below d.family (omega (arith, h.family.1)),
      count_below d.lat h.lat,
      count_below d.lon h.lon,
      count_below d.azimuth h.azimuth,
      count_below d.scale h.scale,
    )

share_below : (share : Option Share) → IfSome share IsShare → weight (share_words share) ≤ 50
share_below None h = omega arith
share_below (Some s) h =
    omega (
      arith,
      count_below s.over h.over,
      number_below (unsigned_abs s.tolerance)
          (abs_most 1000000000000000 s.tolerance h.tolerance (lit≤ tt)),
    )

worst_below : (worst : ℤ) (share : Option Share) → IsWorst worst → IfSome share IsShare
    → weight (worst_words worst share) ≤ 90
worst_below worst share h s =
    omega (
      arith,
      number_below (unsigned_abs worst) (abs_most limit worst h (omega arith)),
      share_below share s,
    )

kind_below : (kind : Kind) → length (kind_text kind) ≤ 8
kind_below Tm = omega arith
kind_below Lambert = omega arith
kind_below Hotine = omega arith
kind_below Lambert2 = omega arith

angle_below : (low high : ℕ) (z : ℤ) → IsBetween (neg_ℤ (pos low)) (pos high) z → low ≤ limit
    → high ≤ limit → length (trimmed_text 12 z) ≤ 57
angle_below low high z h l k = trimmed_below 12 z (lit≤ tt) (abs_below low high z h l k)

report_below : (r : Report) → IsReport r → weights (report_words r) ≤ 600
report_below r h =
    omega (
      arith,
      kind_below r.kind,
      angle_below 80000000000000 80000000000000 r.lat h.lat (lit≤ tt) (lit≤ tt),
      angle_below 180000000000000 360000000000000 r.lon h.lon (lit≤ tt) (lit≤ tt),
      angle_below 85000000000000 85000000000000 r.azimuth h.azimuth (lit≤ tt) (lit≤ tt),
      trimmed_below 15 r.scale (lit≤ tt) (omega (arith, ints, h.scale.0, h.scale.1)),
      decimal_below 9 r.ppm (lit≤ tt) (abs_most limit r.ppm h.ppm (omega arith)),
      count_below r.row h.row,
      count_below r.col h.col,
      count_below r.cells h.cells,
      count_below r.missing h.missing,
      count_below r.nodes h.nodes,
    )

pub texts_short : TextsAreShort
unfolding job_text
texts_short j h =
    omega (
      arith,
      text_below (job_words j),
      weights-append (names_words j.names) (design_words j.design ∷ worst_words j.worst j.share
          ∷ (report_words j.report ++ forest_words j.forest)),
      weights-append (report_words j.report) (forest_words j.forest),
      version_below j.names,
      names_below j.names h.names,
      design_below j.design h.design,
      worst_below j.worst j.share h.worst h.share,
      report_below j.report h.report,
      forest_below j.forest h.entries,
    )
