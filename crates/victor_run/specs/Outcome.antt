-- What a run promises, by the form that its words are: a row for each command, whose own crate says the rest.
use Rattle.std.specs.Prelude.{◌≡◌, ℕ, ◌==◌, if◌then◌else◌, List, Option, Some, None}
use Rattle.std.specs.Io.KnownBytes.{Keeps}
use Rattle.proof_text.specs.Spelling.{as_line}
use Rattle.proof_text.specs.declared.Version.{Version}
use Rattle.proof_text.specs.declared.Version.TheVariants.{One, Two}
use Rattle.drill_games.specs.Games.{games_from}
use Rattle.victor_words.specs.Words.{usage}
use Rattle.victor_words.specs.declared.form.Form.{Form}
use Rattle.victor_words.specs.declared.form.Form.TheVariants.{Prove, Check, Play, Explain, Drill, Upgrade, Threat, Follow, Trim, Annotate}
use Rattle.run_frame.specs.Streams.{Streams, IsUnread}
use Rattle.run_prove.specs.Proves.{ProveRuns, ProveCompletes}
use Rattle.run_check.specs.Checks.{CheckRuns, CheckCompletes}
use Rattle.run_play.specs.Plays.{PlayRuns, PlayCompletes}
use Rattle.run_explain.specs.Explains.{ExplainRuns, ExplainCompletes}
use Rattle.run_drill.specs.Drills.{DrillRuns, DrillCompletes}
use Rattle.run_upgrade.specs.Upgrades.{UpgradeRuns, UpgradeCompletes}
use Rattle.run_threat.specs.Threatens.{ThreatRuns, ThreatCompletes}
use Rattle.run_follow.specs.Follows.{FollowRuns, FollowCompletes}
use Rattle.run_annotate.specs.Annotates.{AnnotateRuns, AnnotateCompletes}
use Rattle.run_trim.specs.Trims.{TrimRuns, TrimCompletes}

-- the version of a proof that this number of a format names, which is 1 or 2
abbrev pub version_named : ℕ → Version
version_named format = if format == 2 then Two else One

-- how a run ended, by its status and its text for the error stream; where its words are no form nothing is read or written
abbrev pub Outcome : Option Form → Streams → (status : ℕ) → (text : List ℕ) → Type 0
Outcome None s status text = (status ≡ 2) × (text ≡ as_line usage) × IsUnread s × Keeps s.old s.new
Outcome (Some (Prove nodes reach front table format)) s status text = ProveRuns (version_named format) nodes reach front s status text
Outcome (Some Check) s status text = CheckRuns s status text
Outcome (Some Play) s status text = PlayRuns s status text
Outcome (Some (Explain reach)) s status text = ExplainRuns reach s status text
Outcome (Some (Drill size moves seed games nodes reach)) s status text = DrillRuns (games_from games size moves seed) nodes reach s status text
Outcome (Some Upgrade) s status text = UpgradeRuns s status text
Outcome (Some Threat) s status text = ThreatRuns s status text
Outcome (Some (Follow holder)) s status text = FollowRuns holder s status text
Outcome (Some Trim) s status text = TrimRuns s status text
Outcome (Some (Annotate nodes reach last)) s status text = AnnotateRuns nodes reach last s status text

-- how it has to end where no stream failed, from all of its input, where the source tells it
abbrev pub Completes : Form → (unread unwritten : Type 0) → (input : Option (List ℕ)) → (status : ℕ) → Type 0
Completes (Prove nodes reach front table format) unread unwritten input status = (unread → ⊥) → (unwritten → ⊥) → ProveCompletes nodes reach input status
Completes Check unread unwritten input status = (unread → ⊥) → (unwritten → ⊥) → CheckCompletes input status
Completes Play unread unwritten input status = (unread → ⊥) → (unwritten → ⊥) → PlayCompletes input status
Completes (Explain reach) unread unwritten input status = (unread → ⊥) → (unwritten → ⊥) → ExplainCompletes reach input status
Completes (Drill size moves seed games nodes reach) unread unwritten input status = (unwritten → ⊥) → DrillCompletes status
Completes Upgrade unread unwritten input status = (unread → ⊥) → (unwritten → ⊥) → UpgradeCompletes input status
Completes Threat unread unwritten input status = (unread → ⊥) → (unwritten → ⊥) → ThreatCompletes input status
Completes (Follow holder) unread unwritten input status = (unread → ⊥) → (unwritten → ⊥) → FollowCompletes holder input status
Completes Trim unread unwritten input status = (unread → ⊥) → (unwritten → ⊥) → TrimCompletes input status
Completes (Annotate nodes reach last) unread unwritten input status = (unread → ⊥) → (unwritten → ⊥) → AnnotateCompletes input status
