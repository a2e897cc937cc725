-- What the head of a proof decides, and the lines that stand behind it.
use Rattle.std.proofs.Common.{◌≡◌, ℕ, ◌+◌, ◌≤◌, Bool, List, [], ◌∷◌, ◌++◌, length, Option, Some, None, refl, sym, ap, ◌∙◌, subst, append-nil, inl, arith}
use Rattle.io_ports.specs.Lines.{Cut, next_line, Gives}
use Rattle.io_ports.specs.Reading.{Pending, Reads, PassesLines}
use Rattle.io_ports.specs.declared.line_reader.LineGot.{LineGot}
use Rattle.io_ports.specs.declared.line_reader.LineGot.TheVariants.{Failed}
use Rattle.io_ports.proofs.Reading.{Reads_more, Reads_then, passes_then, passes_most}
use Rattle.device_rules.specs.Devices.{Rose}
use Rattle.game_rules.specs.Game.{Game, IsTextOf, board_played}
use Rattle.game_rules.specs.Text.{game_at}
use Rattle.game_rules.proofs.Games.{game_is_read}
use Rattle.proof_text.specs.Checked.{CheckerState, Why}
use Rattle.proof_text.specs.Texts.{pieces, lines_in, game_of, behind_game, first_line, first_number, start, check_from, verdict_answer, line_answer, game_answer}
use Rattle.proof_text.specs.Texts.{lemmas_said, with_bytes, Refused}
use Rattle.proof_text.specs.declared.Version.{Version}
use Rattle.proof_text.specs.declared.Why.TheVariants.{BadLine}
use Rattle.proof_text.proofs.Fold.{answer_by_lines}
use Rattle.cert_checker.specs.Checking.{why_of}
use Rattle.run_frame.specs.Reading.{StopsGame}
use Rattle.run_frame.specs.declared.game_input.InputStop.{InputStop}
use Rattle.run_frame.specs.declared.game_input.InputStop.TheVariants as inputs
use Rattle.run_frame.specs.declared.run_stop.RunStop.TheVariants.{Own}
use Rattle.run_frame.proofs.Cuts.{by_piece}
use Rattle.run_frame.proofs.GameRead.{given, by_line}
use Rattle.run_proof.specs.Heads.{IsNamed, Begins, StopsBy, IsFirstStop, head_lines}
use Rattle.run_proof.specs.Lines.{Progress, begin, Passes, HasLines, IsRefused, IsLemmaNext, StopsIn}
use Rattle.run_proof.specs.Steps.{ReachLemma}
use Rattle.run_proof.specs.Stops.{IsCausedBy}
use Rattle.run_proof.specs.Taken.{game_lemmas, version_lemmas, pieces_lemmas, text_lemmas}
use Rattle.run_proof.specs.Whole.{judged, version_named, BeginsProof}
use Rattle.run_proof.specs.declared.head.Head.{Head}
use Rattle.run_proof.specs.declared.stop.ProofStop.{ProofStop}
use Rattle.run_proof.specs.declared.stop.ProofStop.TheVariants as stops
use Rattle.run_proof.proofs.Begun.{begins_proof}
use Rattle.run_proof.proofs.Named.{named_first, named_short, long_unnamed, head_answer, head_none}
use Rattle.run_proof.proofs.Stand.{stand_answer, stand_reaches}

-- ---- the first line

module _ (asked : Option Version) (bytes : List ℕ) (line : Cut) (is : line ≡ next_line bytes) where
  head_cut : (version : Version) → version_named asked line.text ≡ Some version → IsNamed asked version bytes line.rest
  head_cut version named =
      let first = named_first asked line.text version named in
      by_piece bytes line (IsNamed asked version bytes line.rest) is
      (λ fed cut. record {
        more = pieces line.rest;
        cut = cut ∙ ap (λ first. first ∷ pieces line.rest) first;
        is_asked = ap (version_named asked) (sym first) ∙ named;
        game = refl;
        behind = refl;
      })
      (λ fed none cut. record {
        more = [];
        cut = cut ∙ ap (λ first. first ∷ []) first;
        is_asked = ap (version_named asked) (sym first) ∙ named;
        game = ap (λ rest. game_of (pieces rest)) (sym none);
        behind = ap (λ rest. behind_game (pieces rest)) (sym none);
      })
      (λ first more cut longer size prefix. absurd (omega (arith, size, named_short asked line.text version named)))

  head_other : version_named asked line.text ≡ None → judged asked bytes ≡ Refused 1 BadLine
  head_other other =
      by_piece bytes line (judged asked bytes ≡ Refused 1 BadLine) is
      (λ fed cut. head_none asked bytes line.text (pieces line.rest) cut other)
      (λ fed none cut. head_none asked bytes line.text [] cut other)
      (λ first more cut longer size prefix. head_none asked bytes first more cut (long_unnamed asked first (omega (arith, longer))))

module _ (a b : Pending) (got : LineGot) (text : List ℕ) (fed : Bool) (gives : Reads a b (λ bytes rest. Gives bytes rest got text fed))
    (asked : Option Version) (other : got ≡ Failed → ⊥) where
  pub head_known : (version : Version) → version_named asked text ≡ Some version
      → Reads a b (λ bytes rest. PassesLines 1 bytes rest × IsNamed asked version bytes rest)
  head_known version named = by_line a b got text fed gives _ (λ bytes rest h.
      head_cut asked bytes (record { got = got; text = text; fed = fed; rest = rest }) (given bytes rest text got fed h other) version named)

  pub head_stops : version_named asked text ≡ None → Reads a b (λ bytes rest. PassesLines 1 bytes rest × (judged asked bytes ≡ Refused 1 BadLine))
  head_stops unnamed = by_line a b got text fed gives _ (λ bytes rest h.
      head_other asked bytes (record { got = got; text = text; fed = fed; rest = rest }) (given bytes rest text got fed h other) unnamed)

pub first_stopped : (asked : Option Version) (a b : Pending) (before after : ℕ) (stop : ProofStop) → IsFirstStop stop
    → Reads a b (λ bytes rest. PassesLines 1 bytes rest × StopsBy asked bytes before after stop)
    → Reads a b (λ bytes rest. PassesLines (head_lines stop) bytes rest × StopsBy asked bytes before after stop)
first_stopped asked a b before after stop first reads =
    Reads_more a b _ _ reads (λ bytes rest h. (passes_most 1 (head_lines stop) bytes rest (by stop first) h.0, h.1))
  where
    by : (stop : ProofStop) → IsFirstStop stop → 1 ≤ head_lines stop
    by (stops.Refused r) first = omega (arith, first)
    by (stops.Input why) first = omega arith
    by stops.Memory first = absurd first

-- ---- the game

module _ (asked : Option Version) (version : Version) (a b c : Pending)
    (head : Reads a b (λ bytes rest. PassesLines 1 bytes rest × IsNamed asked version bytes rest)) where
  pub head_read : (game : Game) → Reads b c (λ bytes rest. PassesLines 2 bytes rest
      × (IsTextOf (game_of (pieces bytes)) game × (behind_game (pieces bytes) ≡ lines_in (pieces rest))))
      → Reads a c (λ bytes rest. PassesLines 3 bytes rest × Begins asked (record { version = version; game = game }) bytes rest)
  head_read game reads = Reads_then a b c _ _ _ head reads (λ bytes mid rest p q. (
    passes_then 1 2 bytes mid rest p.0 q.0,
    record {
      more = p.1.more;
      cut = p.1.cut;
      is_asked = p.1.is_asked;
      text = subst (λ text. IsTextOf text game) (sym p.1.game) q.1.0;
      behind = p.1.behind ∙ q.1.1;
    },
  ))

  pub game_stops : (before mid after : ℕ) (why : InputStop) → before ≤ mid
      → Reads b c (λ bytes rest. PassesLines 2 bytes rest × StopsGame (game_at (game_of (pieces bytes))) mid after why)
      → Reads a c (λ bytes rest. PassesLines 3 bytes rest × StopsBy asked bytes before after (stops.Input why))
  game_stops before mid after why later game =
      Reads_then a b c _ _ _ head game (λ bytes m rest p q. (passes_then 1 2 bytes m rest p.0 q.0, by_why bytes m why p.1 q.1))
    where
      by_why : (bytes rest : List ℕ) (why : InputStop) → IsNamed asked version bytes rest → StopsGame (game_at (game_of (pieces rest))) mid after why
          → StopsBy asked bytes before after (stops.Input why)
      by_why bytes rest (inputs.NoGame fault) named stopped =
          head_answer asked version bytes (first_line version) named.more named.cut named.is_asked
          ∙ ap (λ game. game_answer version game (behind_game named.more)) (ap game_at named.game ∙ stopped)
      by_why bytes rest inputs.Read named stopped = omega (arith, later, stopped)

-- ---- the lines behind the head

refused_answer : (version : Version) (s : CheckerState) (at : ℕ) (lines : List (List ℕ)) (why : Why) → IsRefused version s at lines why
    → check_from version s at lines ≡ Refused at why
refused_answer version s at [] why (none, is) = ap (verdict_answer at (length s.known)) none ∙ ap (Refused at) (sym is)
refused_answer version s at (line ∷ lines) why refused =
    ap (λ r. line_answer r at (check_from version (with_bytes version s line) (at + 1) lines)) refused

lemma_reached : (version : Version) (s : CheckerState) (at : ℕ) (lines : List (List ℕ)) → IsLemmaNext version s at lines → ReachLemma version s at lines
lemma_reached version s at [] next = absurd next
lemma_reached version s at (line ∷ lines) next = inl next

pub lines_behind : (asked : Option Version) (head : Head) (t : Progress) (bytes mid : List ℕ) (lines rest : List (List ℕ)) → Begins asked head bytes mid
    → Passes head.version (begin head.game.position) lines t → lines_in (pieces mid) ≡ lines ++ rest → HasLines asked head t bytes rest
lines_behind asked head t bytes mid lines rest begins passes cut = record {
  more = begins.more;
  cut = begins.cut;
  is_asked = begins.is_asked;
  text = begins.text;
  lines = lines;
  all = begins.behind ∙ cut;
  passes = passes;
}

module _ (asked : Option Version) (head : Head) (t : Progress) (bytes : List ℕ) (rest : List (List ℕ)) (has : HasLines asked head t bytes rest) where
  abbrev root_state : CheckerState
  root_state = start head.game.position

  -- the answer to the bytes is that to the further lines
  pub judged_behind : judged asked bytes ≡ check_from head.version t.stands t.next rest
  judged_behind =
      head_answer asked head.version bytes (first_line head.version) has.more has.cut has.is_asked
      ∙ ap (λ r. game_answer head.version r (behind_game has.more)) (game_is_read (game_of has.more) head.game has.text)
      ∙ answer_by_lines head.version head.game.position (behind_game has.more)
      ∙ ap (check_from head.version root_state first_number) has.all
      ∙ stand_answer head.version root_state t.stands first_number has.lines rest has.passes.stand
      ∙ ap (λ n. check_from head.version t.stands n rest) (sym has.passes.counted)

  reaches_behind : ReachLemma head.version t.stands t.next rest → BeginsProof asked bytes
  reaches_behind reach =
      begins_proof asked head.version bytes (first_line head.version) has.more has.cut has.is_asked head.game.position
      (game_is_read (game_of has.more) head.game has.text)
      (subst (ReachLemma head.version root_state first_number) (sym has.all)
      (stand_reaches head.version root_state t.stands first_number has.lines rest has.passes.stand
      (subst (λ n. ReachLemma head.version t.stands n rest) has.passes.counted reach)))

  -- what stops the reading there stops that of the bytes
  pub stops_behind : (before after : ℕ) (X : Type 0) (stop : ProofStop) → StopsIn head.version t.stands t.next rest stop
      → IsCausedBy (Rose before after) X (Own stop) → StopsBy asked bytes before after stop
  stops_behind before after X (stops.Refused r) stopped cause =
      judged_behind ∙ refused_answer head.version t.stands t.next rest (why_of r.why) stopped.1 ∙ ap (λ at. Refused at (why_of r.why)) (sym stopped.0)
  stops_behind before after X stops.Memory stopped cause = reaches_behind (lemma_reached head.version t.stands t.next rest stopped)
  stops_behind before after X (stops.Input inputs.Read) stopped cause = cause
  stops_behind before after X (stops.Input (inputs.NoGame fault)) stopped cause = absurd stopped

-- where there are no further lines, these are all lemmas of the text
pub says_all : (asked : Option Version) (head : Head) (t : Progress) (bytes : List ℕ) → HasLines asked head t bytes [] → text_lemmas asked bytes ≡ t.lemmas
unfolding text_lemmas
says_all asked head t bytes has =
    ap (pieces_lemmas asked) has.cut
    ∙ ap (λ named. version_lemmas named has.more) has.is_asked
    ∙ ap (λ root. game_lemmas head.version root (behind_game has.more)) (game_is_read (game_of has.more) head.game has.text)
    ∙ ap (lemmas_said head.version (board_played head.game)) (has.all ∙ append-nil has.lines)
    ∙ sym has.passes.say
