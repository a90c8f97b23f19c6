-- Reading the text of a grid piece by piece, so that no more of it is kept than the heights and one
-- token.
use Rattle.std.specs.Prelude.{◌≡◌, ℕ, ◌+◌, ◌==◌, nat_eq, Bool, false, ◌&&◌, List, [], ◌∷◌, length}
use Rattle.std.specs.Prelude.{Option, Some, None, Result, if◌then◌else◌}
use Rattle.std.specs.List.{starts_with}
use Rattle.ldp_tokens.specs.Mark.{mark}
use Rattle.ldp_tokens.specs.Tokens.{is_white}
use Rattle.ldp_heights.specs.Grid.{HeightGrid}
use Rattle.ldp_heights.specs.Known.{Known, nothing, grow}
use Rattle.ldp_heights.specs.Stages.{SoFar, at_start, is_started, and_token, and_end}
use Rattle.ldp_heights.specs.declared.fault.HeightFault.{HeightFault}

-- The state of reading: how many bytes were taken, what the tokens before the unfinished one were
-- read to, and the unfinished token with its place. Where there is none, that is the place where
-- it would begin.
pub record State : Type 0 where
  pub taken : ℕ
  pub sofar : SoFar
  pub place : ℕ
  pub token : Known

-- before the first byte
abbrev pub start : State
start = record {
  taken = 0;
  sofar = at_start;
  place = 0;
  token = nothing;
}

-- what all tokens are read to, once the unfinished one has ended
abbrev pub closed : State → SoFar
closed s = if s.token.len == 0 then s.sofar else and_token s.sofar s.place s.token

-- white space ends a token
abbrev pub white : State → State
white s = record {
  taken = s.taken + 1;
  sofar = closed s;
  place = s.taken + 1;
  token = nothing;
}

-- a token that is the mark at the front of the text is skipped
abbrev pub is_mark : ℕ → Known → Bool
is_mark place token = place == 0 && starts_with nat_eq token.first mark

-- another byte belongs to the unfinished token
abbrev pub grown : State → Known → State
grown s token =
    if is_mark s.place token
    then record { taken = s.taken + 1; sofar = s.sofar; place = s.taken + 1; token = nothing }
    else record { taken = s.taken + 1; sofar = s.sofar; place = s.place; token = token }

-- one more byte of the text
unfoldable pub byte : State → ℕ → State
byte s b = if is_white b then white s else grown s (grow s.token b)

-- the bytes of a piece, one by one
abbrev pub go : State → List ℕ → State
go s [] = s
go s (b ∷ bs) = go (byte s b) bs

-- the answer where the text ends
abbrev pub end : State → Result HeightGrid HeightFault
end s = and_end (closed s) s.taken

-- a reader in pieces: its state, or none once it is lost for want of memory
abbrev pub Reader : Type 0
Reader = Option State

-- the header has ended, or a fault was met
abbrev pub has_started : Reader → Bool
has_started None = false
has_started (Some s) = is_started s.sofar

-- how many bytes it took; 0 once it is lost
abbrev pub bytes_taken : Reader → ℕ
bytes_taken None = 0
bytes_taken (Some s) = s.taken

-- the reader was fed this text, in whatever pieces
abbrev pub Holds : Reader → List ℕ → Type 0
Holds reader text = (reader ≡ Some (go start text)) × (bytes_taken reader ≡ length text)
