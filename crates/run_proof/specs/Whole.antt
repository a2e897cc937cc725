-- What is said of the bytes of a proof as a whole: that the definitions answer them so, that they are right and true, or that
-- they begin as a proof.
use Rattle.std.specs.Prelude.{◌≡◌, ◌+◌, ◌*◌, ◌<◌, ◌≤◌, ℕ, if◌then◌else◌, List, [], ◌∷◌, Option, Some, None, Ok, IfSome, length, slice_index_or, ⊤}
use Rattle.std.specs.Str.{bytes_eq}
use Rattle.std.specs.Io.KnownBytes.{IsAtEnd}
use Rattle.game_rules.specs.Position.{Position, board_of}
use Rattle.game_rules.specs.Text.{game_at}
use Rattle.proof_text.specs.Lemma.{Lemma, ALemma}
use Rattle.proof_text.specs.Reading.{read_line}
use Rattle.proof_text.specs.Right.{AreTrue, IsTrueVerdict}
use Rattle.proof_text.specs.Texts.{most_lines, pieces, first_line, game_of, behind_game, refusal_at, check_in, check_of, CheckAnswer, Accepted, IsRightText, longest_line}
use Rattle.proof_text.specs.declared.Verdict.{Verdict}
use Rattle.proof_text.specs.declared.Version.{Version}
use Rattle.proof_text.specs.declared.Version.TheVariants.{One, Two}
use Rattle.io_ports.specs.Lines.{most_held}

-- the answer to a text that is to be of the version that is asked for, or of either
abbrev pub judged : Option Version → List ℕ → CheckAnswer
judged None bytes = check_of bytes
judged (Some version) bytes = check_in version bytes

-- the version that a first line names, where it is one that is asked for
abbrev pub version_named : Option Version → List ℕ → Option Version
version_named None first = if bytes_eq first (first_line One) then Some One else (if bytes_eq first (first_line Two) then Some Two else None)
version_named (Some version) first = if bytes_eq first (first_line version) then Some version else None

-- The definitions give this answer to the bytes that were taken; and to all of the input, where the source tells it.
abbrev pub IsAnswer : Option Version → List ℕ → Option (List ℕ) → CheckAnswer → Type 0
IsAnswer asked taken input answer = (judged asked taken ≡ answer) × IfSome input (λ bytes. judged asked bytes ≡ answer)

-- a version that is asked for
abbrev pub IsAsked : Option Version → Version → Type 0
IsAsked None version = ⊤
IsAsked (Some asked) version = version ≡ asked

-- The text is right by the definitions, in a version that is asked for, each of its lemmas claims what is true by the value, and a win, a loss or a draw is
-- the value of its game's position.
pub record SaysTruth (asked : Option Version) (bytes : List ℕ) (v : Verdict) (count : ℕ) : Type 0 where
  pub version : Version
  pub is_asked : IsAsked asked version
  pub text : IsRightText version bytes v count
  pub lemmas : AreTrue text.after
  pub verdict : IsTrueVerdict text.root v

-- The bytes that were taken are all of the input; they are accepted, and say what is true.
pub record IsRightInput (asked : Option Version) (taken : List ℕ) (left : Option (List ℕ)) (v : Verdict) (count : ℕ) : Type 0 where
  pub accepted : judged asked taken ≡ Accepted v count
  pub says : SaysTruth asked taken v count
  pub whole : IsAtEnd left

-- The line at a place is a lemma, and neither it nor a line before it is refused.
pub record StandsToLemma (version : Version) (root : Position) (lines : List (List ℕ)) : Type 0 where
  pub place : ℕ
  pub there : place < length lines
  pub stands : (i : ℕ) → i ≤ place → refusal_at version root lines i ≡ None
  pub lemma : Lemma
  pub said : read_line version (board_of root) (slice_index_or lines place []) ≡ Some (ALemma lemma)

-- A text begins as a proof, up to some lemma: it names its format, which is asked for, and its game, and the lines behind the game stand up to
-- that lemma.
pub record BeginsProof (asked : Option Version) (bytes : List ℕ) : Type 0 where
  pub version : Version
  pub first : List ℕ
  pub more : List (List ℕ)
  pub cut : pieces bytes ≡ first ∷ more
  pub named : version_named asked first ≡ Some version
  pub root : Position
  pub game : game_at (game_of more) ≡ Ok root
  pub lines : StandsToLemma version root (behind_game more)

-- the number of the first line that no proof may have; none behind it is read
abbrev pub most_lines_read : ℕ
most_lines_read = most_lines + 1

-- no more bytes are taken: the lines with their line feeds, and what comes with the last of them
abbrev pub most_taken : ℕ
most_taken = most_lines_read * (longest_line + 1) + most_held
