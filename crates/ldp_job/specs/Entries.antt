-- The entries of the forest, a line each, up to the line `end`.
use Rattle.std.specs.Prelude.{ℕ, ◌+◌, ◌-◌, ◌==◌, ◌&&◌, ◌||◌, nat_le, Bool, false, not, List}
use Rattle.std.specs.Prelude.{[], ◌∷◌, Option, Some, None, Result, Ok, Err, codes, bytes_eq}
use Rattle.std.specs.Prelude.{if◌then◌else◌}
use Rattle.ldp_spelling.specs.Pieces.{words}
use Rattle.ldp_design.specs.declared.node.Node.{Node}
use Rattle.ldp_design.specs.declared.node.Node.TheVariants.{Tree, Split, Leaf, Unusable}
use Rattle.ldp_design.specs.Limits.{most_nodes}
use Rattle.ldp_design.specs.Words.{axis_named}
use Rattle.ldp_design.specs.Forests.{is_node}
use Rattle.ldp_job.specs.declared.fault.JobFault.{JobFault}
use Rattle.ldp_job.specs.declared.fault.JobFault.TheVariants.{BadLine, TooManyNodes, Unended}
use Rattle.ldp_job.specs.Words.{◌>>=◌, word_in, number_in, last_in}
use Rattle.ldp_job.specs.Values.{most}
use Rattle.ldp_job.specs.Faults.{Lines}

-- a number and no further word
abbrev pub last_number_in : ℕ → ℕ → List (List ℕ) → Option ℕ
last_number_in low high ws = number_in low high ws >>= (λ n. last_in n.0 n.1)

-- the words behind `s`: an axis, and the last index of the low part
abbrev pub split_in : List (List ℕ) → Option Node
split_in ws = do
  axis ← word_in axis_named ws
  cut ← last_number_in 0 most axis.1
  Some (Split axis.0 cut)

-- the word behind `tree`: the number of a family, from 1
abbrev pub tree_in : List (List ℕ) → Option Node
tree_in ws = last_number_in 1 65535 ws >>= (λ family. Some (Tree family))

-- the word behind `c`: the number of a cell, from 0
abbrev pub leaf_in : List (List ℕ) → Option Node
leaf_in ws = last_number_in 0 most ws >>= (λ cell. Some (Leaf cell))

-- the word behind `u`: the number of a cell, from 0
abbrev pub unusable_in : List (List ℕ) → Option Node
unusable_in ws = last_number_in 0 most ws >>= (λ cell. Some (Unusable cell))

-- the entry of a line, told by its first word
unfoldable pub entry_in : List (List ℕ) → Option Node
entry_in [] = None
entry_in (w ∷ ws) =
    if bytes_eq w (codes "c") then leaf_in ws
    else if bytes_eq w (codes "s") then split_in ws
    else if bytes_eq w (codes "u") then unusable_in ws
    else if bytes_eq w (codes "tree") then tree_in ws
    else None

-- nodes stand where parts of a tree are still to come, and a tree begins where none are
abbrev pub may_stand : ℕ → Node → Bool
may_stand pending n = if pending == 0 then not (is_node n) else is_node n

-- the entry, where it may stand
unfoldable pub standing : ℕ → Option Node → Option Node
standing pending None = None
standing pending (Some n) = if may_stand pending n then Some n else None

-- how many parts are still to come after an entry: a split has two, a tree one
abbrev pub pending_after : ℕ → Node → ℕ
pending_after pending (Tree family) = 1
pending_after pending (Split axis cut) = pending + 1
pending_after pending (Leaf cell) = pending - 1
pending_after pending (Unusable cell) = pending - 1

-- the line begins as that of a node
abbrev pub is_node_line : List ℕ → Bool
is_node_line [] = false
is_node_line (b ∷ []) = false
is_node_line (b ∷ d ∷ bs) = (b == 115 || b == 99 || b == 117) && d == 32

-- the line of a node after the last that a job may have
abbrev pub is_over : ℕ → List ℕ → Bool
is_over nodes line = is_node_line line && nat_le most_nodes nodes

-- the line `end`, with no part of a tree to come
abbrev pub is_end : ℕ → List ℕ → Bool
is_end pending line = pending == 0 && bytes_eq line (codes "end")

-- 1 for a node, and 0 for the line that begins a tree
abbrev pub node_value : Node → ℕ
node_value n = if is_node n then 1 else 0

-- an entry before those of the lines that follow
abbrev pub with_entry : Node → Result (List Node × Lines) JobFault
    → Result (List Node × Lines) JobFault
with_entry n (Ok found) = Ok (n ∷ found.0, found.1)
with_entry n (Err fault) = Err fault

-- an entry, and after it those of the lines that follow; a fault of the line with this number if it
-- is none
abbrev pub entered : ℕ → Option Node → (Node → Result (List Node × Lines) JobFault)
    → Result (List Node × Lines) JobFault
entered number None more = Err (BadLine number)
entered number (Some n) more = with_entry n (more n)

-- one line of the forest: a node too many, the end, or an entry and what follows it
unfoldable pub entry_step : ℕ → ℕ → ℕ → List ℕ → Lines
    → (Node → Result (List Node × Lines) JobFault) → Result (List Node × Lines) JobFault
entry_step number nodes pending line rest more =
    if is_over nodes line then Err (TooManyNodes number)
    else if is_end pending line then Ok ([], rest)
    else entered number (standing pending (entry_in (words line))) more

-- the entries from the line with this number on, after so many nodes, with so many parts still to
-- come
abbrev pub forest_at : ℕ → ℕ → ℕ → Lines → Result (List Node × Lines) JobFault
forest_at number nodes pending [] = Err (Unended number)
forest_at number nodes pending (line ∷ []) = Err (Unended number)
forest_at number nodes pending (line ∷ next ∷ more) =
    entry_step number nodes pending line (next ∷ more)
    (λ n. forest_at (number + 1) (nodes + node_value n) (pending_after pending n) (next ∷ more))
