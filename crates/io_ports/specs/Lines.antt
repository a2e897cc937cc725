-- The lines of an input: what the next one is, as a function of the bytes that were not given yet.
use Rattle.std.specs.Prelude.{◌≡◌, ◌≢◌, ℕ, zero, suc, ◌+◌, ◌<◌, ◌≤◌, ◌==◌, ◌++◌, Bool, true, false, not, if◌then◌else◌, min, nat_lt, List, [], ◌∷◌, length, take, drop, Option, All}
use Rattle.std.specs.Io.KnownBytes.{Consumes, IsAtEnd}
use Rattle.std.specs.List.{position_or_len}
use Rattle.io_ports.specs.declared.line_reader.LineGot.{LineGot}
use Rattle.io_ports.specs.declared.line_reader.LineGot.TheVariants.{Line, Long, Done, Failed}

-- An answer, the text that it lends, whether a line feed ended it, and the bytes that are not given after it.
pub record Cut : Type 0 where
  pub got : LineGot
  pub text : List ℕ
  pub fed : Bool
  pub rest : List ℕ

-- no line has more bytes, without its line feed
abbrev pub longest_line : ℕ
longest_line = 8192

-- How many bytes stand before the first line feed, or in all where there is none.
abbrev pub line_len : List ℕ → ℕ
line_len bytes = position_or_len (λ b. b == 10) bytes

-- The first line of the bytes: too long where more than the longest line has come without a line feed, and none where no byte is
-- left.
abbrev pub next_line : List ℕ → Cut
next_line [] = record { got = Done; text = []; fed = false; rest = [] }
next_line (b ∷ bs) =
    let bytes = b ∷ bs in
    let len = line_len bytes in
    if nat_lt longest_line len then record { got = Long; text = take longest_line bytes; fed = false; rest = bytes }
    else if nat_lt len (length bytes) then record { got = Line; text = take len bytes; fed = true; rest = drop (len + 1) bytes }
    else record { got = Line; text = bytes; fed = false; rest = [] }

-- A line feed, where there is one.
abbrev pub feed : Bool → List ℕ
feed true = 10 ∷ []
feed false = []

-- The same without a function: what each answer says of the bytes.
pub record IsLine (bytes text : List ℕ) (fed : Bool) (rest : List ℕ) : Type 0 where
  pub whole : bytes ≡ text ++ feed fed ++ rest
  -- the last line, where the input doesn't end in a line feed
  pub last : fed ≡ false → (text ≢ []) × (rest ≡ [])
  pub no_feed : All (λ b. b ≢ 10) text
  pub short : length text ≤ longest_line

pub record IsLong (bytes text rest : List ℕ) : Type 0 where
  pub stays : rest ≡ bytes
  pub prefix : text ≡ take longest_line bytes
  pub long : longest_line < length bytes
  pub no_feed : All (λ b. b ≢ 10) (take (longest_line + 1) bytes)

abbrev pub IsCut : List ℕ → LineGot → List ℕ → Bool → List ℕ → Type 0
IsCut bytes Line text fed rest = IsLine bytes text fed rest
IsCut bytes Long text fed rest = IsLong bytes text rest
IsCut bytes Done text fed rest = (bytes ≡ []) × (text ≡ []) × (rest ≡ [])
IsCut bytes Failed text fed rest = ⊥

-- Each text has a next line, which is as those words say.
abbrev pub EachTextIsCut : Type 0
EachTextIsCut = (bytes : List ℕ) → let cut = next_line bytes in IsCut bytes cut.got cut.text cut.fed cut.rest

-- A call went from the first bytes to the second: to those behind the next line, or, where the source failed, to the same.
abbrev pub Gives : List ℕ → List ℕ → LineGot → List ℕ → Bool → Type 0
Gives bytes rest Failed text fed = rest ≡ bytes
Gives bytes rest got text fed = record { got = got; text = text; fed = fed; rest = rest } ≡ next_line bytes

-- Whether a call came to the end of the input: no line was left, or a last one that no line feed ended.
abbrev pub is_end : LineGot → Bool → Bool
is_end Line fed = not fed
is_end Long fed = false
is_end Done fed = true
is_end Failed fed = false

-- What a call took from the source, and a fact of the bytes from the first of these on and of those behind them. It holds
-- whatever the source may give later; at the end of the input nothing more comes.
pub record Takes (ended : Bool) (old new : Option (List ℕ)) (Fact : List ℕ → List ℕ → Type 0) : Type 0 where
  pub taken : List ℕ
  pub gave : Consumes old new taken
  pub last : ended ≡ true → IsAtEnd new
  pub fact : (later : List ℕ) → (ended ≡ true → later ≡ []) → Fact (taken ++ later) later

-- The bytes behind so many lines. None is passed at the end of the bytes, nor where the next line is too long.
abbrev pub behind_lines : ℕ → List ℕ → List ℕ
behind_lines zero bytes = bytes
behind_lines (suc n) bytes = behind_lines n (next_line bytes).rest

-- The bytes don't decide what the next line is: no line feed stands in them, and a line may have more. While these are held
-- the source is asked.
abbrev pub IsUndecided : List ℕ → Type 0
IsUndecided bytes = (line_len bytes ≡ length bytes) × (length bytes ≤ longest_line)

-- What a reader of lines holds behind what a call gave, where the source's last read gave so many bytes: behind a line, at
-- most these; where the next line is too long, the longest that a line may be besides; at the end of the input nothing; and
-- where the source failed, no whole line.
abbrev pub IsAhead : LineGot → ℕ → List ℕ → Type 0
IsAhead Line last bytes = length bytes ≤ last
IsAhead Long last bytes = (longest_line < line_len bytes) × (length bytes ≤ longest_line + last)
IsAhead Done last bytes = bytes ≡ []
IsAhead Failed last bytes = IsUndecided bytes

-- one of these
abbrev pub HoldsFew : ℕ → List ℕ → Type 0
HoldsFew last bytes = (got : LineGot) × IsAhead got last bytes

-- The same by one number: the part of the next line that may be read, and the bytes of the last read.
abbrev pub IsWithinRead : ℕ → List ℕ → Type 0
IsWithinRead last bytes = length bytes ≤ min (line_len bytes) longest_line + last

-- bytes went from the source behind those that are held
pub record Moves (old new : Option (List ℕ)) (held longer : List ℕ) : Type 0 where
  pub taken : List ℕ
  pub gave : Consumes old new taken
  pub grown : longer ≡ held ++ taken

-- how many bytes a reader of lines holds at most
abbrev pub most_held : ℕ
most_held = 16384

-- What a reader of lines holds: whether it came to the end of the input, the bytes that it took from the source and hasn't
-- given, and the line that it lends.
pub record Cutting : Type 0 where
  pub ended : Bool
  pub ahead : List ℕ
  pub text : List ℕ
  pub fed : Bool
