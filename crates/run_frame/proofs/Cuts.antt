-- The lines that are got one after the other are those of the text.
use Rattle.std.proofs.Common.{◌≡◌, ◌⊎◌, ℕ, ◌<◌, ◌≤◌, ◌≢◌, Bool, true, false, List, [], ◌∷◌, ◌++◌, length, take, drop, get_or, Ok, refl, sym, ap, ◌∙◌, subst}
use Rattle.std.proofs.Common.{◌+◌, append_assoc, append-nil, inl, inr, arith}
use Rattle.std.specs.List.{All, join_with_byte}
use Rattle.std.proofs.lemmas.List.{length-append, length-take-le, take-append-le, take-append-drop, get_or-take}
use Rattle.std.proofs.lemmas.List.Elements.{All-tail}
use Rattle.std.proofs.lemmas.Bool.{cases_lt, ne_eqb}
use Rattle.io_ports.specs.Lines.{Cut, next_line, feed, IsLine, IsLong, IsCut}
use Rattle.io_ports.specs.declared.line_reader.LineGot.{LineGot}
use Rattle.io_ports.specs.declared.line_reader.LineGot.TheVariants.{Line, Long, Done, Failed}
use Rattle.io_ports.proofs.Reading.{is_cut, line_is_cut, long_is_cut, none_is_cut}
use Rattle.game_rules.specs.Position.{Position}
use Rattle.game_rules.specs.Text.{game_at}
use Rattle.game_rules.proofs.Prefix.{same_prefix, game_short}
use Rattle.proof_text.specs.Texts.{pieces, lines_in, longest_line, game_prefix, game_of, behind_game}
use Rattle.proof_text.proofs.Pieces.{IsFeedless, pieces_line, pieces_last, pieces_some, joined, lines_line, lines_last}
use Rattle.proof_text.proofs.First.{long_board, long_moves}
use Rattle.run_frame.specs.Reading.{kept_of}

-- ---- a line and the pieces of a text

feedless : (line : List ℕ) → All (λ b. b ≢ 10) line → IsFeedless line
feedless [] h = tt
feedless (byte ∷ line) h = (ne_eqb byte 10 (h 0 0 (omega arith)), feedless line (All-tail (λ b. b ≢ 10) byte line h))

-- a line that a line feed ended
pub fed_pieces : (bytes text rest : List ℕ) → IsLine bytes text true rest → pieces bytes ≡ text ∷ pieces rest
fed_pieces bytes text rest line = ap pieces (line.whole ∙ append_assoc text (10 ∷ []) rest) ∙ pieces_line text rest (feedless text line.no_feed)

-- a last line that none ended
pub unfed_pieces : (bytes text rest : List ℕ) → IsLine bytes text false rest → pieces bytes ≡ text ∷ []
unfed_pieces bytes text rest line =
    let whole : bytes ≡ text = line.whole ∙ ap (λ rest. (text ++ []) ++ rest) (line.last refl).1 ∙ append-nil (text ++ []) ∙ append-nil text in
    ap pieces whole ∙ pieces_last text (feedless text line.no_feed)

-- what follows the first piece
behind_first : (first : List ℕ) (more : List (List ℕ)) → (rest : List ℕ) × (join_with_byte 10 (first ∷ more) ≡ first ++ rest)
    × ((rest ≡ []) ⊎ ((tail : List ℕ) × (rest ≡ 10 ∷ tail)))
behind_first first [] = ([], sym (append-nil first), inl refl)
behind_first first (next ∷ more) = (10 ∷ join_with_byte 10 (next ∷ more), refl, inr (join_with_byte 10 (next ∷ more), refl))

at_seam : (xs ys : List ℕ) (y : ℕ) → get_or (xs ++ y ∷ ys) (length xs) 0 ≡ y
at_seam [] ys y = refl
at_seam (x ∷ xs) ys y = at_seam xs ys y

-- the first piece is longer than a line where that is what was got
pub long_pieces : (bytes text rest : List ℕ) → IsLong bytes text rest → (first : List ℕ) × (more : List (List ℕ)) × (pieces bytes ≡ first ∷ more)
    × (longest_line < length first) × (take game_prefix text ≡ take game_prefix first)
long_pieces bytes text rest long =
    let some = pieces_some bytes in
    let behind = behind_first some.0 some.1 in
    let whole : bytes ≡ some.0 ++ behind.0 = sym (joined bytes) ∙ ap (join_with_byte 10) some.2 ∙ behind.1 in
    elim (cases_lt longest_line (length some.0)) [
      | inl longer ↦ (some.0, some.1, some.2, longer, prefix some.0 behind.0 longer whole)
      | inr short ↦ absurd (never some.0 behind.0 short whole behind.2)
    ]
  where
    prefix : (first behind : List ℕ) → longest_line < length first → bytes ≡ first ++ behind → take game_prefix text ≡ take game_prefix first
    prefix first behind longer whole =
        let cut : text ≡ take longest_line first = long.prefix ∙ ap (take longest_line) whole ∙ take-append-le longest_line first behind (omega arith) in
        let within : game_prefix ≤ length (take longest_line first) = omega (arith, length-take-le longest_line first (omega arith)) in
        ap (take game_prefix) cut ∙ sym (ap (take game_prefix) (sym (take-append-drop longest_line first))
        ∙ take-append-le game_prefix (take longest_line first) (drop longest_line first) within)

    never : (first behind : List ℕ) → length first ≤ longest_line → bytes ≡ first ++ behind → ((behind ≡ []) ⊎ ((tail : List ℕ) × (behind ≡ 10 ∷ tail))) → ⊥
    never first behind short whole (inl none) = omega (arith, long.long, ap length (whole ∙ ap (λ behind. first ++ behind) none ∙ append-nil first))
    never first behind short whole (inr (tail, feed)) =
        let cut : bytes ≡ first ++ 10 ∷ tail = whole ∙ ap (λ behind. first ++ behind) feed in
        let within : length first < longest_line + 1 = omega arith in
        let size : length (take (longest_line + 1) bytes) ≡ longest_line + 1 = length-take-le (longest_line + 1) bytes long.long in
        let here : length first < length (take (longest_line + 1) bytes) = omega arith in
        long.no_feed (length first) 0 here
        (get_or-take (longest_line + 1) bytes (length first) 0 within ∙ ap (λ xs. get_or xs (length first) 0) cut ∙ at_seam first tail 10)

-- ---- what was got

-- A line that a line feed ended; a last one, which may have no byte; or the prefix of one that is too long.
pub by_piece : (bytes : List ℕ) (line : Cut) (P : Type 0) → line ≡ next_line bytes
    → (line.fed ≡ true → pieces bytes ≡ line.text ∷ pieces line.rest → P)
    → (line.fed ≡ false → line.rest ≡ [] → pieces bytes ≡ line.text ∷ [] → P)
    → ((first : List ℕ) (more : List (List ℕ)) → pieces bytes ≡ first ∷ more → longest_line < length first → length line.text ≡ longest_line
    → take game_prefix line.text ≡ take game_prefix first → P)
    → P
by_piece bytes line P is fed last long = of_got line.got refl
  where
    of_fed : (ended : Bool) → line.fed ≡ ended → IsLine bytes line.text ended line.rest → P
    of_fed true e cut = fed e (fed_pieces bytes line.text line.rest cut)
    of_fed false e cut = last e (cut.last refl).1 (unfed_pieces bytes line.text line.rest cut)

    of_got : (got : LineGot) → line.got ≡ got → P
    of_got Line e = of_fed line.fed refl (line_is_cut bytes line is e)
    of_got Long e =
        let cut = long_is_cut bytes line is e in
        let some = long_pieces bytes line.text line.rest cut in
        long some.0 some.1 some.2 some.3 (ap length cut.prefix ∙ length-take-le longest_line bytes (omega (arith, cut.long))) some.4
    of_got Done e =
        let cut = none_is_cut bytes line is e in
        let none : line ≡ next_line [] = is ∙ ap next_line cut.0 in
        last (ap (λ (line : Cut). line.fed) none) cut.2 (ap pieces cut.0 ∙ ap (λ text. text ∷ []) (sym cut.1))
    of_got Failed e =
        let P : LineGot → Type 0 = λ got. IsCut bytes got line.text line.fed line.rest in
        absurd (subst P e (is_cut bytes line is))

-- ---- the lines of a text

-- a line that was got is the first of the lines
pub line_first : (bytes : List ℕ) (line : Cut) → line ≡ next_line bytes → line.got ≡ Line → lines_in (pieces bytes) ≡ line.text ∷ lines_in (pieces line.rest)
line_first bytes line is got = of_fed line.text line.rest line.fed (line_is_cut bytes line is got)
  where
    of_text : (text rest : List ℕ) → (text ≢ []) × (rest ≡ []) → IsFeedless text → lines_in (pieces text) ≡ text ∷ lines_in (pieces rest)
    of_text [] rest h feedless = absurd (h.0 refl)
    of_text (byte ∷ text) rest h feedless = lines_last byte text feedless ∙ ap (λ rest. (byte ∷ text) ∷ lines_in (pieces rest)) (sym h.1)

    of_fed : (text rest : List ℕ) (fed : Bool) → IsLine bytes text fed rest → lines_in (pieces bytes) ≡ text ∷ lines_in (pieces rest)
    of_fed text rest true cut = ap (λ bytes. lines_in (pieces bytes)) (cut.whole ∙ append_assoc text (10 ∷ []) rest)
        ∙ lines_line text rest (feedless text cut.no_feed)
    of_fed text rest false cut =
        let last = cut.last refl in
        let whole : bytes ≡ text = cut.whole ∙ ap (λ rest. (text ++ []) ++ rest) last.1 ∙ append-nil (text ++ []) ∙ append-nil text in
        ap (λ bytes. lines_in (pieces bytes)) whole ∙ of_text text rest last (feedless text cut.no_feed)

-- some line is the first where the first piece has bytes
first_of_lines : (first : List ℕ) (more : List (List ℕ)) → 0 < length first → (lines : List (List ℕ)) × (lines_in (first ∷ more) ≡ first ∷ lines)
first_of_lines [] more some = absurd (omega arith)
first_of_lines (byte ∷ first) [] some = ([], refl)
first_of_lines (byte ∷ first) (next ∷ more) some = (lines_in (next ∷ more), refl)

-- so is one that is too long
pub long_first : (bytes : List ℕ) (line : Cut) → line ≡ next_line bytes → line.got ≡ Long → (first : List ℕ) × (more : List (List ℕ))
    × (lines_in (pieces bytes) ≡ first ∷ more) × (longest_line < length first)
long_first bytes line is got =
    let some = long_pieces bytes line.text line.rest (long_is_cut bytes line is got) in
    let lines = first_of_lines some.0 some.1 (omega (arith, some.3)) in
    (some.0, lines.0, ap lines_in some.2 ∙ lines.1, some.3)

-- where no line was left there are no lines
pub none_left : (bytes : List ℕ) (line : Cut) → line ≡ next_line bytes → line.got ≡ Done → (lines_in (pieces bytes) ≡ []) × (line.rest ≡ [])
none_left bytes line is got = let cut = none_is_cut bytes line is got in (ap (λ bytes. lines_in (pieces bytes)) cut.0, cut.2)

-- ---- the game

kept_fed : (line : Cut) → line.fed ≡ true → kept_of line ≡ take game_prefix line.text ++ 10 ∷ []
kept_fed line fed = ap (λ fed. take game_prefix line.text ++ feed fed) fed

kept_last : (line : Cut) → line.fed ≡ false → kept_of line ≡ take game_prefix line.text
kept_last line fed = ap (λ fed. take game_prefix line.text ++ feed fed) fed ∙ append-nil (take game_prefix line.text)

-- of a long line the prefix alone decides, whatever is kept behind it
kept_long : (prefix : List ℕ) (line : Cut) (rest : List ℕ) → length line.text ≡ longest_line
    → game_at (prefix ++ (kept_of line ++ rest)) ≡ game_at (prefix ++ take game_prefix line.text)
kept_long prefix line rest size =
    let kept = take game_prefix line.text in
    let whole : prefix ++ (kept_of line ++ rest) ≡ (prefix ++ kept) ++ (feed line.fed ++ rest) =
    ap (λ text. prefix ++ text) (append_assoc kept (feed line.fed) rest) ∙ sym (append_assoc prefix kept (feed line.fed ++ rest)) in
    let within : game_prefix ≤ length line.text = omega (arith, size) in
    ap game_at whole ∙ same_prefix (prefix ++ kept) (feed line.fed ++ rest)
    (omega (arith, length-append prefix kept, length-take-le game_prefix line.text within))

-- so a text of which that much is kept is no game
long_no_game : (prefix : List ℕ) (line : Cut) (rest : List ℕ) (root : Position) → length line.text ≡ longest_line
    → game_at (prefix ++ (kept_of line ++ rest)) ≡ Ok root → ⊥
long_no_game prefix line rest root size game =
    let kept = take game_prefix line.text in
    let within : game_prefix ≤ length line.text = omega (arith, size) in
    omega (
      arith,
      game_short (prefix ++ kept) root (sym (kept_long prefix line rest size) ∙ game),
      length-append prefix kept,
      length-take-le game_prefix line.text within,
    )

-- what is kept of the two lines is read as the text of the game
pub game_kept : (bytes : List ℕ) (board moves : Cut) → board ≡ next_line bytes → moves ≡ next_line board.rest
    → game_at (kept_of board ++ kept_of moves) ≡ game_at (game_of (pieces bytes))
game_kept bytes board moves first second =
    by_piece bytes board (game_at (kept_of board ++ kept_of moves) ≡ game_at (game_of (pieces bytes))) first
    (λ fed cut. ap (λ kept. game_at (kept ++ kept_of moves)) (kept_fed board fed)
    ∙ ap game_at (append_assoc (take game_prefix board.text) (10 ∷ []) (kept_of moves)) ∙ both cut)
    (λ fed none cut. ap (λ kept. game_at (kept ++ kept_of moves)) (kept_last board fed)
    ∙ ap (λ kept. game_at (take game_prefix board.text ++ kept)) (ap kept_of (second ∙ ap next_line none))
    ∙ ap game_at (append-nil (take game_prefix board.text)) ∙ ap (λ ps. game_at (game_of ps)) (sym cut))
    (λ first more cut longer size prefix. kept_long [] board (kept_of moves) size ∙ ap game_at prefix
    ∙ sym (ap (λ ps. game_at (game_of ps)) cut ∙ long_board first more (omega (arith, longer))))
  where
    both : pieces bytes ≡ board.text ∷ pieces board.rest → game_at (take game_prefix board.text ++ 10 ∷ kept_of moves) ≡ game_at (game_of (pieces bytes))
    both cut =
        by_piece board.rest moves (game_at (take game_prefix board.text ++ 10 ∷ kept_of moves) ≡ game_at (game_of (pieces bytes))) second
        (λ fed also. let some = pieces_some moves.rest in
        ap (λ kept. game_at (take game_prefix board.text ++ 10 ∷ kept)) (kept_fed moves fed)
        ∙ ap (λ ps. game_at (game_of ps)) (sym (cut ∙ ap (λ ps. board.text ∷ ps) also ∙ ap (λ ps. board.text ∷ moves.text ∷ ps) some.2)))
        (λ fed none also. ap (λ kept. game_at (take game_prefix board.text ++ 10 ∷ kept)) (kept_last moves fed)
        ∙ ap (λ ps. game_at (game_of ps)) (sym (cut ∙ ap (λ ps. board.text ∷ ps) also)))
        (λ first more also longer size prefix. let head = take game_prefix board.text ++ 10 ∷ [] in
        ap game_at (sym (append_assoc (take game_prefix board.text) (10 ∷ []) (kept_of moves)) ∙ ap (λ kept. head ++ kept) (sym (append-nil (kept_of moves))))
        ∙ kept_long head moves [] size ∙ ap game_at (append_assoc (take game_prefix board.text) (10 ∷ []) (take game_prefix moves.text))
        ∙ ap (λ kept. game_at (take game_prefix board.text ++ 10 ∷ kept)) prefix
        ∙ sym (ap (λ ps. game_at (game_of ps)) (cut ∙ ap (λ ps. board.text ∷ ps) also) ∙ long_moves board.text first more (omega (arith, longer))))

-- and where it is a game, the lines behind it are those of what is left
pub game_left : (bytes : List ℕ) (board moves : Cut) (root : Position) → board ≡ next_line bytes → moves ≡ next_line board.rest
    → game_at (kept_of board ++ kept_of moves) ≡ Ok root
    → behind_game (pieces bytes) ≡ lines_in (pieces moves.rest)
game_left bytes board moves root first second game =
    by_piece bytes board (behind_game (pieces bytes) ≡ lines_in (pieces moves.rest)) first
    (λ fed cut. by_piece board.rest moves (behind_game (pieces bytes) ≡ lines_in (pieces moves.rest)) second
    (λ fed also. ap behind_game (cut ∙ ap (λ ps. board.text ∷ ps) also))
    (λ fed none also. ap behind_game (cut ∙ ap (λ ps. board.text ∷ ps) also) ∙ ap (λ rest. lines_in (pieces rest)) (sym none))
    (λ first more also longer size prefix.
    absurd (long_no_game (kept_of board) moves [] root size (ap (λ kept. game_at (kept_of board ++ kept)) (append-nil (kept_of moves)) ∙ game))))
    (λ fed none cut. ap behind_game cut ∙ ap (λ (line : Cut). lines_in (pieces line.rest)) (sym (second ∙ ap next_line none)))
    (λ first more cut longer size prefix. absurd (long_no_game [] board (kept_of moves) root size game))

-- and what is kept of the two lines is then the text of the game
pub game_same : (bytes : List ℕ) (board moves : Cut) (root : Position) → board ≡ next_line bytes → moves ≡ next_line board.rest
    → game_at (kept_of board ++ kept_of moves) ≡ Ok root
    → kept_of board ++ kept_of moves ≡ game_of (pieces bytes)
game_same bytes board moves root first second game =
    by_piece bytes board (kept_of board ++ kept_of moves ≡ game_of (pieces bytes)) first
    (λ fed cut. ap (λ kept. kept ++ kept_of moves) (kept_fed board fed) ∙ append_assoc (take game_prefix board.text) (10 ∷ []) (kept_of moves) ∙ both cut)
    (λ fed none cut. ap (λ kept. kept ++ kept_of moves) (kept_last board fed)
    ∙ ap (λ kept. take game_prefix board.text ++ kept) (ap kept_of (second ∙ ap next_line none))
    ∙ append-nil (take game_prefix board.text) ∙ ap game_of (sym cut))
    (λ first more cut longer size prefix. absurd (long_no_game [] board (kept_of moves) root size game))
  where
    both : pieces bytes ≡ board.text ∷ pieces board.rest → take game_prefix board.text ++ 10 ∷ kept_of moves ≡ game_of (pieces bytes)
    both cut =
        by_piece board.rest moves (take game_prefix board.text ++ 10 ∷ kept_of moves ≡ game_of (pieces bytes)) second
        (λ fed also. let some = pieces_some moves.rest in
        ap (λ kept. take game_prefix board.text ++ 10 ∷ kept) (kept_fed moves fed)
        ∙ ap game_of (sym (cut ∙ ap (λ ps. board.text ∷ ps) also ∙ ap (λ ps. board.text ∷ moves.text ∷ ps) some.2)))
        (λ fed none also. ap (λ kept. take game_prefix board.text ++ 10 ∷ kept) (kept_last moves fed)
        ∙ ap game_of (sym (cut ∙ ap (λ ps. board.text ∷ ps) also)))
        (λ first more also longer size prefix.
        absurd (long_no_game (kept_of board) moves [] root size (ap (λ kept. game_at (kept_of board ++ kept)) (append-nil (kept_of moves)) ∙ game)))
