-- What `table` answers over cells, design grids and a job. Own choice of this project.
use Rattle.std.specs.Prelude.{ℕ, ℤ, false, List, Option, Some, None}
use Rattle.ldp_design.specs.declared.family.Family.{Family}
use Rattle.ldp_design.specs.declared.design.Design.{Design}
use Rattle.ldp_design.specs.declared.inputs.Inputs4.{Inputs4}
use Rattle.ldp_design.specs.Inputs.{inputs_at}
use Rattle.ldp_cells.specs.Cells.{CellList}
use Rattle.ldp_distortion.specs.declared.inputs.Inputs.{Inputs}
use Rattle.ldp_distortion.specs.declared.worst.Worst.{Worst}
use Rattle.ldp_distortion.specs.declared.worst.Worst.TheVariants.{Is, Unusable}
use Rattle.ldp_distortion.specs.Distortion.{distortions}
use Rattle.ldp_distortion.specs.Worst.{worst_of}
use Rattle.ldp_bound.specs.Kinds.{family_lists}
use Rattle.ldp_table.specs.Rows.{rows_of}
use Rattle.ldp_table.specs.Texts.{table_text}
use Rattle.ldp_table.specs.Objects.{json_text, worst_value}
use Rattle.ldp_job.specs.declared.names.Names.{Names}
use Rattle.ldp_job.specs.declared.job.Job.{Job}
use Rattle.ldp_check.specs.Inputs.{other_input}
use Rattle.ldp_check.specs.declared.reason.Reason.TheVariants.{NotAdmissible, DesignUnusable}
use Rattle.ldp_answer.specs.Rejection.{rejection}
use Rattle.ldp_answer.specs.JobDesign.{over_files, admitted_family}
use Rattle.ldp_answer.specs.declared.answer.Answer.{Answer}
use Rattle.ldp_answer.specs.declared.form.TableForm.{TableForm}
use Rattle.ldp_answer.specs.declared.form.TableForm.TheVariants.{Lines, Json}

-- the inputs of the design list, as ldp_distortion holds them
abbrev pub list_inputs : Inputs4 → Inputs
list_inputs at = record { lat = at.lat; lon = at.lon; azimuth = at.azimuth; scale = at.scale }

-- the distortions at the cells of a design of a family, by the lists of the family's kind
unfoldable pub design_distortions : CellList → Design → Family → List (Option ℤ)
design_distortions list d f =
    distortions (family_lists f) (list_inputs (inputs_at f d)) list.cells

-- the table of a design with these distortions
abbrev pub form_text : TableForm → CellList → List (Option ℤ) → List ℕ
form_text Lines list found = table_text (rows_of list.cells found) list.missing
form_text Json list found =
    json_text (rows_of list.cells found) list.missing (worst_value (worst_of found))

-- the same by the worst of the design, which is its first undefined cell where there is one
abbrev pub table_of_worst : TableForm → CellList → List (Option ℤ) → Worst → Answer
table_of_worst form list found (Is value cell) =
    record { rejected = false; text = form_text form list found }
table_of_worst form list found (Unusable cell) = rejection (DesignUnusable cell)

-- the table of a design with these distortions; a rejection if one is undefined
abbrev pub found_answer : TableForm → CellList → List (Option ℤ) → Answer
found_answer form list found = table_of_worst form list found (worst_of found)

-- the table of a design of a family; a rejection if there is no such family
abbrev pub design_answer : TableForm → CellList → Design → Option Family → Answer
design_answer form list d None = rejection NotAdmissible
design_answer form list d (Some f) = found_answer form list (design_distortions list d f)

-- what `table` answers; the names are the hashes of the three files
abbrev pub table_over : TableForm → CellList → List Family → Names → Job → Answer
table_over form list families names job =
    over_files (other_input names job.names)
    (design_answer form list job.design (admitted_family families job.design))
