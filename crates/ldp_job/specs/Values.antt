-- The ranges of a job's numbers.
use Rattle.std.specs.Prelude.{ℕ, ◌≤◌, ℤ, pos, neg_ℤ, List, [], ◌∷◌, IfSome}
use Rattle.ldp_quantity.specs.Quantity.{degrees, tenths}
use Rattle.ldp_quantity.specs.Between.{IsBetween}
use Rattle.ldp_num.specs.Number.{limit}
use Rattle.ldp_spelling.specs.Hashes.{IsHash}
use Rattle.ldp_design.specs.declared.design.Design.{Design}
use Rattle.ldp_design.specs.declared.node.Node.{Node}
use Rattle.ldp_design.specs.declared.node.Node.TheVariants.{Tree, Split, Leaf, Unusable}
use Rattle.ldp_design.specs.Limits.{most_azimuth, IsTolerance}
use Rattle.ldp_design.specs.Forests.{IsWellShaped}
use Rattle.ldp_job.specs.declared.names.Names.{Names}
use Rattle.ldp_job.specs.declared.report.Report.{Report}
use Rattle.ldp_job.specs.declared.share.Share.{Share}
use Rattle.ldp_job.specs.declared.job.Job.{Job}

-- the greatest index or count, 2^32 - 1
abbrev pub most : ℕ
most = 4294967295

-- an index or a count: at most 2^32 - 1
abbrev pub IsCount : ℕ → Type 0
IsCount n = n ≤ most

-- the number of a family: from 1 to 2^16 - 1
abbrev pub IsFamily : ℕ → Type 0
IsFamily n = (1 ≤ n) × (n ≤ 65535)

-- each of the three is a SHA-256 hash
pub record AreNames (n : Names) : Type 0 where
  pub zone : IsHash n.zone
  pub heights : IsHash n.heights
  pub grids : IsHash n.grids

-- the numbers of a design that have a text; whether there is such a design is not asked
pub record IsDesign (d : Design) : Type 0 where
  pub family : IsFamily d.family
  pub lat : IsCount d.lat
  pub lon : IsCount d.lon
  pub azimuth : IsCount d.azimuth
  pub scale : IsCount d.scale

-- an absolute distortion, in units of 10^-15
abbrev pub IsWorst : ℤ → Type 0
IsWorst z = IsBetween (pos 0) (pos limit) z

-- a number of cells, and a tolerance in units of 10^-15
pub record IsShare (s : Share) : Type 0 where
  pub over : IsCount s.over
  pub tolerance : IsTolerance s.tolerance

-- the ranges of what a user reads: angles in units of 10^-12 degrees, scale factor and worst in
-- units of 10^-15
pub record IsReport (r : Report) : Type 0 where
  pub lat : IsBetween (neg_ℤ (degrees 80)) (degrees 80) r.lat
  pub lon : IsBetween (neg_ℤ (degrees 180)) (degrees 360) r.lon
  pub azimuth : IsBetween (neg_ℤ most_azimuth) most_azimuth r.azimuth
  pub scale : IsBetween (tenths 5) (tenths 20) r.scale
  pub ppm : IsWorst r.ppm
  pub row : IsCount r.row
  pub col : IsCount r.col
  pub cells : IsCount r.cells
  pub missing : IsCount r.missing
  pub nodes : IsCount r.nodes

-- the number of an entry is a family's, an index or a cell's
abbrev pub IsEntry : Node → Type 0
IsEntry (Tree family) = IsFamily family
IsEntry (Split axis cut) = IsCount cut
IsEntry (Leaf cell) = IsCount cell
IsEntry (Unusable cell) = IsCount cell

-- each entry has such a number
abbrev pub AreEntries : List Node → Type 0
AreEntries [] = Unit {0}
AreEntries (n ∷ ns) = IsEntry n × AreEntries ns

-- a job that has a text
pub record IsJob (j : Job) : Type 0 where
  pub names : IfSome j.names AreNames
  pub design : IsDesign j.design
  pub worst : IsWorst j.worst
  pub share : IfSome j.share IsShare
  pub report : IsReport j.report
  pub entries : AreEntries j.forest
  pub forest : IsWellShaped j.forest
