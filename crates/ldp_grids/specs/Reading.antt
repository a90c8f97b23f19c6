-- Reading a text of design grids: a TOML 1.1 document with the one key `family`, an array of 1 to
-- 16 tables. The first fault is answered: those of the document, then those of each family. (Own
-- choice of this project.)
use Rattle.std.specs.Prelude.{ℕ, ◌+◌, ◌-◌, ◌^◌, min, Bool, not, ◌||◌, ◌==◌, nat_le, List, [], ◌∷◌}
use Rattle.std.specs.Prelude.{length, Option, None, is_some, option_and_then, Result, Ok, Err}
use Rattle.std.specs.Prelude.{if◌then◌else◌, bytes_eq}
use Rattle.std.specs.List.{list_all}
use Rattle.std.specs.Option.{ok_or}
use Rattle.std.specs.Str.{is_utf8}
use Rattle.toml.specs.Data.{Data, Items, Members, get_member, as_array, as_table}
use Rattle.toml.specs.Parse.{parse_document}
use Rattle.ldp_tokens.specs.Mark.{without_mark}
use Rattle.ldp_quantity.specs.Results.{◌>>=◌}
use Rattle.ldp_design.specs.declared.family.Family.{Family}
use Rattle.ldp_design.specs.Grids.{DesignGrids, plain_grids}
use Rattle.ldp_design.specs.declared.key.Key.TheVariants as keys
use Rattle.ldp_grids.specs.declared.fault.GridFault.{GridFault}
use Rattle.ldp_grids.specs.declared.fault.GridFault.TheVariants.{NotToml, NoFamily, TooManyFamilies}
use Rattle.ldp_grids.specs.declared.fault.GridFault.TheVariants.{UnknownKey}
use Rattle.ldp_design.specs.Limits.{most_families}
use Rattle.ldp_design.specs.Words.{key_text}
use Rattle.ldp_grids.specs.Families.{family_of}
use Rattle.ldp_grids.specs.Tables.{keys_of, values_of}

-- the document of a text, which has to be UTF-8
unfoldable pub document_of : List ℕ → Option Members
document_of text = if is_utf8 text then parse_document text else None

-- the one key that the document may have
abbrev pub is_top_key : List ℕ → Bool
is_top_key name = bytes_eq name (key_text keys.Family)

-- whether each value of the array is a table
abbrev pub are_tables : List Data → Bool
are_tables values = list_all (λ value. is_some (as_table value)) values

-- at least one table and not more than a text may have; the count of more stands still at its type's end
abbrev pub few_tables : List Data → Result (List Data) GridFault
few_tables values =
    if length values == 0 || not (are_tables values) then Err NoFamily
    else if nat_le (length values) most_families then Ok values
    else Err (TooManyFamilies (min (length values) (2 ^ 32 - 1)))

-- the array of families
unfoldable pub families_at : Members → Option Items
families_at top = option_and_then as_array (get_member (key_text keys.Family) top)

-- the tables of the families
unfoldable pub tables_of : Members → Result (List Data) GridFault
tables_of top =
    if list_all is_top_key (keys_of top)
    then (ok_or (families_at top) NoFamily >>= λ values. few_tables (values_of values))
    else Err (UnknownKey 0 keys.Top)

-- the families of the tables, of which the first has this number
abbrev pub families_from : ℕ → List Data → Result (List Family) GridFault
families_from family [] = Ok []
families_from family (value ∷ rest) = ok_or (as_table value) NoFamily
    >>= family_of family
    >>= λ first. families_from (family + 1) rest
    >>= λ others. Ok (first ∷ others)

-- with the plain rule
abbrev pub as_plain : Result (List Family) GridFault → Result DesignGrids GridFault
as_plain (Ok families) = Ok (plain_grids families)
as_plain (Err fault) = Err fault

-- the design grids of a text; a mark in front is skipped, and the rule is the plain one
unfoldable pub grids_of : List ℕ → Result DesignGrids GridFault
grids_of text = do
  top ← ok_or (document_of (without_mark text)) NotToml
  tables ← tables_of top
  as_plain (families_from 1 tables)
