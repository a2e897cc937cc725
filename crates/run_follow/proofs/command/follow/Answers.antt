use Rattle.std.proofs.Common.{◌≡◌, ◌+◌, false, [], Some, None, length, refl, sym, ap, ◌∙◌, subst, arith}
use Rattle.std.proofs.KnownBytes.{Appends-nil, Appends-kept}
use Rattle.std.proofs.lemmas.Result.{err_from_is_err_and}
use Rattle.device_rules.proofs.DeviceLaws.{Rose_before}
use Rattle.game_rules.specs.Position.{side_to_move}
use Rattle.game_rules.specs.declared.Side.{Side}
use Rattle.io_ports.proofs.Reading.{Reads_start}
use Rattle.follow_text.specs.Following.{own_move_at}
use Rattle.follow_text.specs.Follow.{named_for}
use Rattle.follow_text.specs.Told.{IsTold}
use Rattle.play_text.specs.Play.{text_of}
use Rattle.proof_player.specs.Playing.{FollowState, HasBegun}
use Rattle.run_proof.proofs.Judging.{put_behind}
use Rattle.run_turns.specs.declared.game_end.GameStop.TheVariants as stops
use Rattle.run_turns.proofs.Plays.{reading_stops, opening_cut, turns_play}
use Rattle.run_follow.specs.Follows.{head_status, follow_form, most_follow_lines}
use Rattle.run_follow.specs.Turns.{first_lines, follow_stands, player_turn}
use Rattle.run_follow.specs.declared.not_followed.NotFollowed.TheVariants.{NoClaim}
use Rattle.run_follow.proofs.Begins.{moves_begin, turns_begin}
use Rattle.run_follow.proofs.Ends.{follow_laws, follow_owes}
use Rattle.run_follow.proofs.First.{first_can, first_few}
use Rattle.run_follow.proofs.Judged.{none_stops, begin_starts, begin_cut, begin_opens}
use Rattle.run_follow.proofs.Stopped.{room, proof_owes}
use Rattle.run_follow.proofs.command.follow.Goals as goal

-- ---- the proof stopped the run

pub returns-in-Err : goal.returns-in-Err
returns-in-Err g c =
    let stopped = c.in-Err.ensures in
    rw c.proof_stop.ensures (proof_owes c.args.holder _ _ _ _ _ _ c.new-lines.ensures _ _ _ _ c.read_to_verdict.new.book c.in-Err.stop stopped.answer stopped.few
    stopped.kept stopped.cause)

-- ---- the verdict names no lemma

pub returns-in_default : goal.returns-in_default
returns-in_default g c =
    let holder = c.args.holder in
    let proof = c.in-Ok.proof in
    let read = c.in-Ok.ensures in
    let none : named_for holder (side_to_move proof.root) proof.verdict ≡ None =
    sym (c.named_for.ensures ∙ ap (λ (mover : Side). named_for holder mover proof.verdict) c.to_move.ensures) ∙ c.in_default.is in
    follow_owes holder _ _ _ _ (record {
      head = proof.at;
      opening = 0;
      from = read.few.0;
      few = read.few.1;
      one = omega arith;
      plays = reading_stops (follow_form holder proof.at 0) (IsTold holder) most_follow_lines (follow_laws holder proof.at 0 read.few.0 read.few.1) _ _ _ _ _ _
          c.new-lines.ensures (stops.Head (NoClaim proof.at)) (Appends-kept _ _ _ [] (Appends-nil _) read.kept) (room (NoClaim proof.at) (omega (arith, read.few.1))) (λ is. absurd (cc is))
          (none_stops holder _ _ proof.root proof.verdict proof.at _ read.answer none);
      begins = (read.answer.taken, read.answer.gave, read.kept);
    }) (λ is. absurd (cc is)) (λ is. absurd (cc is))

-- ---- the holder's first move

pub put_first-requires : goal.put_first-requires
put_first-requires g c = first_can c.read_to_verdict.new.book c.args.holder c.in-Ok.proof.root c.in-Some.lemma c.begin-follow.result.0 c.begin-follow.result.1
    c.begin-follow.ensures.value

pub returns-in_err-put_first : goal.returns-in_err-put_first
returns-in_err-put_first g c =
    let same = err_from_is_err_and c.from_residual.result c.from_residual.ensures.1 in
    let holder = c.args.holder in
    let proof = c.in-Ok.proof in
    let read = c.in-Ok.ensures in
    let lemma = c.in-Some.lemma in
    let is : named_for holder (side_to_move proof.root) proof.verdict ≡ Some lemma =
    sym (c.named_for.ensures ∙ ap (λ (mover : Side). named_for holder mover proof.verdict) c.to_move.ensures) ∙ c.in-Some.is in
    let has = c.begin-follow.ensures.value in
    let lines = first_lines proof.root c.begin-follow.result.1 in
    let many = length lines in
    rw (same.1, same.2) (follow_owes holder _ _ _ _ (record {
      head = proof.at;
      opening = many;
      from = read.few.0;
      few = read.few.1;
      one = first_few proof.root c.begin-follow.result.1;
      plays = opening_cut (follow_form holder proof.at many) (IsTold holder) most_follow_lines (follow_laws holder proof.at many read.few.0 read.few.1) _ _ _ _ _ _
          c.new-lines.ensures lines (omega arith) (put_behind false _ _ _ (text_of lines) read.kept c.in_err-put_first.ensures.written)
          (begin_cut holder _ _ proof.root proof.verdict proof.at _ read.answer lemma is c.begin-follow.result.0 c.begin-follow.result.1 has);
      begins = moves_begin _ _ _ _ c.new-lines.ensures holder _ proof.root proof.verdict proof.at many _ read.answer (λ bytes rest. bytes ≡ bytes)
          (begin_opens holder _ _ proof.root proof.verdict proof.at _ read.answer lemma is c.begin-follow.result.0 c.begin-follow.result.1 has)
          (Reads_start _ (λ bytes rest. bytes ≡ bytes) (λ bytes. refl));
    }) (λ is. absurd (cc is)) (λ is. Rose_before _ _ _ read.later.1 (c.in_err-put_first.ensures.cause.failed refl)))

-- ---- the other side's lines

pub play_turns-requires : goal.play_turns-requires
play_turns-requires g c = omega (arith, c.in-Ok.ensures.few.1, c.new-player.ensures.few)

pub returns : goal.returns
returns g c =
    let holder = c.args.holder in
    let proof = c.in-Ok.proof in
    let read = c.in-Ok.ensures in
    let lemma = c.in-Some.lemma in
    let is : named_for holder (side_to_move proof.root) proof.verdict ≡ Some lemma =
    sym (c.named_for.ensures ∙ ap (λ (mover : Side). named_for holder mover proof.verdict) c.to_move.ensures) ∙ c.in-Some.is in
    let player = c.new-player.result in
    let reply = c.begin-follow.result.1 in
    let lines = first_lines proof.root reply in
    let many = length lines in
    let From : FollowState → Type 0 = λ t. HasBegun c.read_to_verdict.new.book holder proof.root lemma t reply
    (own_move_at c.read_to_verdict.new.book (length proof.root.columns) lemma false) in
    let has = subst From (sym c.new-player.ensures.value) c.begin-follow.ensures.value in
    let turns = c.play_turns.ensures in
    let put = c.in_ok-put_first.ensures in
    follow_owes holder _ c.play_turns.result _ _ (record {
      head = proof.at;
      opening = many;
      from = read.few.0;
      few = read.few.1;
      one = first_few proof.root reply;
      plays = turns_play (follow_form holder proof.at many) (IsTold holder) most_follow_lines (follow_laws holder proof.at many read.few.0 read.few.1)
          follow_stands player_turn player (proof.at + 1) _ _ _ _ _ _ _ _ _ _ c.new-player.ensures.few c.new-lines.ensures
          (begin_starts holder _ _ proof.root proof.verdict proof.at _ read.answer lemma is player reply has _ _ _ read.kept put.written)
          c.play_turns.result turns.plays turns.ended turns.waiting;
      begins = turns_begin follow_stands player_turn player (proof.at + 1) _ _ _ _ _ _ holder proof.at many _ c.play_turns.result turns.plays
          (moves_begin _ _ _ _ c.new-lines.ensures holder _ proof.root proof.verdict proof.at many _ read.answer _
          (begin_opens holder _ _ proof.root proof.verdict proof.at _ read.answer lemma is player reply has) turns.plays.reads);
    })
    (λ is. Rose_before _ _ _ read.later.0 (turns.read_fault head_status is))
    (λ is. Rose_before _ _ _ read.later.1 (Rose_before _ _ _ put.cause.later (turns.write_fault head_status is)))
