-- What a certificate prints, and where in its text it stands.
use Rattle.std.specs.Prelude.{◌≡◌, ℕ, unsigned_abs, Option, None, Some, option_map, pos}
use Rattle.ldp_problem.specs.declared.pair.Pair.{Pair}
use Rattle.ldp_problem.specs.Problem.{Problem}
use Rattle.ldp_job.specs.declared.names.Names.{Names}
use Rattle.ldp_job.specs.declared.share.Share.{Share}
use Rattle.ldp_job.specs.declared.job.Job.{Job}

-- the printed number of cells beyond the tolerance; none without one
abbrev pub printed_over : Option Share → ℕ
printed_over None = 0
printed_over (Some share) = share.over

-- the printed cost
abbrev pub printed : Job → Pair
printed job = record { over = printed_over job.share; value = unsigned_abs job.worst }

-- the first line of the report, from 1; if there are names, three lines more stand before it
abbrev pub report_line : Option Names → ℕ
report_line None = 4
report_line (Some names) = 7

-- the line of the first entry of the forest, from 1
abbrev pub forest_line : Option Names → ℕ
forest_line None = 13
forest_line (Some names) = 16

-- the problem counts cells beyond the tolerance of the certificate, or none where it has none
abbrev pub SameTolerance : Problem → Option Share → Type 0
SameTolerance p share = option_map pos p.tolerance ≡ option_map (λ s. s.tolerance) share
