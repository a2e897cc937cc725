-- Short lines as they are being made.
use Rattle.std.specs.Prelude.{ℕ}

-- how many bytes a line that is made has room for, with its line feed
abbrev pub line_room : ℕ
line_room = 288

-- no text of a game needs more room: words, two numbers as they are pushed, the length of lines, and a letter for each square
abbrev pub most_game_text : ℕ
most_game_text = 137
