-- How `threat` ends, and what it promises of the bytes that it took and of its sink, by its end.
use Rattle.std.specs.Prelude.{◌≡◌, ℕ, List, [], Option, Some, IfSome}
use Rattle.play_text.specs.Play as ends
use Rattle.play_text.specs.Play.{PlayEnd}
use Rattle.threat_text.specs.Threats.{threat_of}
use Rattle.threat_text.specs.Told.{IsTold}
use Rattle.run_frame.specs.Ended.{EndsBy, Owes}
use Rattle.run_frame.specs.Streams.{Streams}
use Rattle.run_turns.specs.Games.{GameForm, GameEnd, end_status, end_text, GamePlays, GameCompletes}
use Rattle.run_threat.specs.declared.no_threat.NoThreat.{NoThreat}

-- ---- what a caller sees

-- the exit status, and the text for the error stream, which is empty where there is no threat
abbrev pub head_status : NoThreat → ℕ
head_status none = 5

abbrev pub threat_status : GameEnd NoThreat → ℕ
threat_status = end_status head_status

abbrev pub threat_text : GameEnd NoThreat → List ℕ
threat_text = end_text (λ none. [])

-- ---- what is promised

-- how play ends without a threat
abbrev pub head_end : NoThreat → Option PlayEnd
head_end none = Some ends.NoThreat

-- Behind the two lines of the game stands a line for each of Black's moves; and a line is written for the threat, or that there is
-- none, and then one for each.
abbrev pub threat_form : GameForm NoThreat
threat_form = record { given = threat_of; head = 2; opening = 1; unread = 1; end_of = head_end; until = λ none. 2 }

-- how many lines are read at most: Black makes at most 50 moves
abbrev pub most_threat_lines : ℕ
most_threat_lines = 53

-- `threat`. Where it goes to the end of the input, or to a line that is no move, the lines that were written tell the first threat
-- of the game's position, by which White wins, and the duel by it, in which Black has no line. It says that there is no threat
-- exactly where no group is one with any list of pairs, and takes then no more than the two lines of the game and what came with
-- them.
abbrev pub Threatens : Streams → GameEnd NoThreat → Type 0
Threatens s end = GamePlays threat_form IsTold most_threat_lines s end

-- the same, as a caller of `run` sees it
abbrev pub ThreatRuns : Streams → (status : ℕ) → (text : List ℕ) → Type 0
ThreatRuns s status text = EndsBy threat_status threat_text (Threatens s) status text

-- how it ends where no stream failed: on a game whose position has a threat and moves of Black's, and where there is no threat
abbrev pub ThreatCompletes : Option (List ℕ) → (status : ℕ) → Type 0
ThreatCompletes input status = GameCompletes threat_form input status × IfSome input (λ bytes. (threat_of bytes).end ≡ ends.NoThreat → status ≡ 5)

-- what it owes of a run
abbrev pub ThreatOwes : Streams → (unread unwritten : Type 0) → GameEnd NoThreat → Type 0
ThreatOwes = Owes threat_status Threatens ThreatCompletes
