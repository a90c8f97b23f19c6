-- The lists of a document's tables and arrays beside the collections that the code sees.
use Rattle.std.proofs.Common.{◌≡◌, ℕ, Bool, is_some, List, [], ◌∷◌, map, String, Global}
use Rattle.std.proofs.Common.{string_bytes, refl, ap, sym, ◌∙◌}
use Rattle.std.specs.List.{list_all}
use Rattle.std.specs.Map.{keys_of as map_keys}
use Rattle.std.proofs.lemmas.List.Folds.{list_all-map}
use Rattle.toml.specs.Data.{Data, as_table}
use Rattle.toml.specs.View.{view, items_of, items_view, members_view}
use Rattle.toml.specs.declared.value.Value.{Value}
use Rattle.ldp_grids.specs.Reading.{are_tables}
use Rattle.ldp_grids.specs.Tables.{keys_of, values_of}

keys_of-members_view : (entries : List (String Global × Value))
    → keys_of (members_view entries) ≡ map string_bytes (map_keys entries)
keys_of-members_view [] = refl
keys_of-members_view (e ∷ entries) =
    ap (λ keys. string_bytes e.0 ∷ keys) (keys_of-members_view entries)

pub values_of-items_of : (values : List Data) → values_of (items_of values) ≡ values
values_of-items_of [] = refl
values_of-items_of (value ∷ values) = ap (λ rest. value ∷ rest) (values_of-items_of values)

-- a test of all keys
pub all_keys : (p : List ℕ → Bool) (entries : List (String Global × Value))
    → list_all (λ key. p (string_bytes key)) (map_keys entries)
    ≡ list_all p (keys_of (members_view entries))
all_keys p entries =
    sym (ap (list_all p) (keys_of-members_view entries)
    ∙ list_all-map p string_bytes (map_keys entries))

-- the values of an array
pub values_of_view : (values : List Value) → values_of (items_view values) ≡ map view values
values_of_view values = values_of-items_of (map view values)

-- a test of all values
pub all_tables : (values : List Value)
    → list_all (λ value. is_some (as_table (view value))) values ≡ are_tables (map view values)
all_tables values = sym (list_all-map (λ value. is_some (as_table value)) view values)
