-- The byte order mark that a text in UTF-8 may begin with (RFC 3629, section 6).
use Rattle.std.specs.Prelude.{ℕ, nat_eq, List, [], ◌∷◌, drop, if◌then◌else◌}
use Rattle.std.specs.List.{starts_with}

-- EF BB BF
abbrev pub mark : List ℕ
mark = 239 ∷ 187 ∷ 191 ∷ []

-- how many bytes of a text are its mark
abbrev pub mark_len : List ℕ → ℕ
mark_len text = if starts_with nat_eq text mark then 3 else 0

-- a text without a mark in front
abbrev pub without_mark : List ℕ → List ℕ
without_mark text = drop (mark_len text) text
