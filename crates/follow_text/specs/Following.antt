-- A game in which one side, the holder, plays by the lemmas of a proof. What the holder plays is told by the reasons alone:
-- `one` names the move, `all` the lemma for each move of the other side, a plan answers by its zones, and a mirror image goes
-- on at its lemma on the board turned round. This way of play is this project's own; the game is that of the rules.
use Rattle.std.specs.Prelude.{◌≡◌, ℕ, zero, suc, ◌+◌, Bool, true, false, not, ◌&&◌, ◌==◌, if◌then◌else◌, List, []}
use Rattle.std.specs.Prelude.{◌∷◌, length, Option, Some, None, is_none, slice_get, ⊤}
use Rattle.std.specs.List.{find, AllByRecursion}
use Rattle.std.specs.Option.{option_map}
use Rattle.game_rules.specs.Board.{Square}
use Rattle.game_rules.specs.Position.{Position, other, height, end_of, is_legal, after_move, side_to_move}
use Rattle.game_rules.specs.Mirror.{mirror, mirror_column}
use Rattle.game_rules.specs.Laws.{HasLine}
use Rattle.game_rules.specs.declared.Side.{Side}
use Rattle.game_rules.specs.declared.End.{End}
use Rattle.plan_rules.specs.Rules.{RuleInstance}
use Rattle.plan_rules.specs.Plan.{is_nil, is_plan, plan_reply, after_turns}
use Rattle.proof_text.specs.Lemma.{claim_side, claims_win, claim_of_end, Cite, Reason, ByEnd, ByOne, ByAll, ByPlan, ByMirror, Lemma}
use Rattle.proof_text.specs.Right.{Shown, Shows}
use Rattle.proof_text.specs.declared.Claim.{Claim}
use Rattle.proof_text.specs.declared.Claim.TheVariants.{WhiteFails}

-- the side that a claim serves: the one that it says wins, or the other of the one that it says doesn't
abbrev pub served_by : Claim → Side
served_by claim = if claims_win claim then claim_side claim else other (claim_side claim)

-- ---- the board, as it lies or turned round

-- a position and a column as they are seen on the board, which is turned round or not
abbrev pub seen : Bool → Position → Position
seen true p = mirror p
seen false p = p

abbrev pub seen_column : Bool → ℕ → ℕ → ℕ
seen_column true cols column = mirror_column cols column
seen_column false cols column = column

-- ---- where play stands

-- at a lemma, which stands at the position as it is seen, or within the play by a plan
pub data Place : Type 0 where
  AtLemma : ℕ → Place
  InPlan : List RuleInstance → Place

pub record Following : Type 0 where
  pub place : Place
  pub turned : Bool

abbrev pub at_lemma : ℕ → Bool → Following
at_lemma n turned = record { place = AtLemma n; turned = turned }

abbrev pub in_plan : List RuleInstance → Bool → Following
in_plan ws turned = record { place = InPlan ws; turned = turned }

-- ---- reasons

-- lemmas are numbered from 1
abbrev pub lemma_numbered : List Lemma → ℕ → Option Lemma
lemma_numbered ls zero = None
lemma_numbered ls (suc i) = slice_get ls i

abbrev pub reason_at : List Lemma → ℕ → Option Reason
reason_at ls n = option_map (λ (l : Lemma). l.reason) (lemma_numbered ls n)

-- a mirror image's reason is that of its lemma, on the board turned round
abbrev pub go_through : Option Reason → Bool → (ℕ → Option (Reason × Bool)) → Option (Reason × Bool)
go_through None turned later = None
go_through (Some (ByMirror n)) turned later = later n
go_through (Some reason) turned later = Some (reason, turned)

-- the first reason that is no mirror image, behind fewer mirror images than steps, and whether the board is turned there
abbrev pub through : List Lemma → ℕ → ℕ → Bool → Option (Reason × Bool)
through ls zero n turned = None
through ls (suc steps) n turned = go_through (reason_at ls n) turned (λ m. through ls steps m (not turned))

-- a lemma names earlier ones alone, so its number bounds the steps
abbrev pub behind_mirrors : List Lemma → ℕ → Bool → Option (Reason × Bool)
behind_mirrors ls n turned = through ls n n turned

-- ---- the holder's move

-- The move that a reason names, on the board as it lies, and where play goes on. Only `one` names a move.
abbrev pub own_move : ℕ → Option (Reason × Bool) → Option (ℕ × Following)
own_move cols None = None
own_move cols (Some (ByEnd, turned)) = None
own_move cols (Some (ByOne cite, turned)) = Some (seen_column turned cols cite.column, at_lemma cite.lemma turned)
own_move cols (Some (ByAll cites, turned)) = None
own_move cols (Some (ByPlan ws, turned)) = None
own_move cols (Some (ByMirror n, turned)) = None

-- the holder's move at a lemma, on a board of so many columns
abbrev pub own_move_at : List Lemma → ℕ → ℕ → Bool → Option (ℕ × Following)
own_move_at ls cols n turned = own_move cols (behind_mirrors ls n turned)

-- Black's answer by a plan to White's move into a column of the position, the board seen as the plan has it
abbrev pub plan_move : List RuleInstance → Bool → Position → ℕ → Option (ℕ × Following)
plan_move ws turned q column =
    let cols = length q.columns in
    let now = seen turned q in
    let there = seen_column turned cols column in
    option_map (λ (to : Square). (seen_column turned cols to.0, in_plan ws turned)) (plan_reply ws (after_move now there) (there, height now there + 1))

-- the lemma cited for a column
abbrev pub cite_for : List Cite → ℕ → Option Cite
cite_for cites column = find (λ (cite : Cite). cite.column == column) cites

abbrev pub move_at_cite : List Lemma → ℕ → Bool → Option Cite → Option (ℕ × Following)
move_at_cite ls cols turned None = None
move_at_cite ls cols turned (Some cite) = own_move_at ls cols cite.lemma turned

-- the answer that a reason gives to the other side's move into a column of the position
abbrev pub answer_by : List Lemma → Position → ℕ → Option (Reason × Bool) → Option (ℕ × Following)
answer_by ls q column None = None
answer_by ls q column (Some (ByEnd, turned)) = None
answer_by ls q column (Some (ByOne cite, turned)) = None
answer_by ls q column (Some (ByAll cites, turned)) =
    move_at_cite ls (length q.columns) turned (cite_for cites (seen_column turned (length q.columns) column))
answer_by ls q column (Some (ByPlan ws, turned)) = plan_move ws turned q column
answer_by ls q column (Some (ByMirror n, turned)) = None

abbrev pub answer_in : List Lemma → Place → Bool → Position → ℕ → Option (ℕ × Following)
answer_in ls (AtLemma n) turned q column = answer_by ls q column (behind_mirrors ls n turned)
answer_in ls (InPlan ws) turned q column = plan_move ws turned q column

-- the holder's answer to the other side's move into a column of the position, and where play goes on
abbrev pub answer_to : List Lemma → Following → Position → ℕ → Option (ℕ × Following)
answer_to ls s q column = answer_in ls s.place s.turned q column

-- ---- games

abbrev pub turns_on : Position → Option (ℕ × Following) → (Following → Position → List Position) → List Position
turns_on now None later = []
turns_on now (Some (column, next)) later = after_move now column ∷ later next (after_move now column)

-- the positions behind this one while the other side plays these columns and the holder answers, up to the end of the
-- columns or of the game
abbrev pub turns : List Lemma → Following → Position → List ℕ → List Position
turns ls s q [] = []
turns ls s q (column ∷ columns) =
    let now = after_move q column in
    now ∷ (if is_none (end_of now) then turns_on now (answer_to ls s q column) (λ next r. turns ls next r columns) else [])

abbrev pub legal_on : Position → List ℕ → Option (ℕ × Following) → (Following → Position → Bool) → Bool
legal_on now columns None later = is_nil columns
legal_on now columns (Some (column, next)) later = later next (after_move now column)

-- each of the other side's columns is legal at its turn
abbrev pub are_legal : List Lemma → Following → Position → List ℕ → Bool
are_legal ls s q [] = true
are_legal ls s q (column ∷ columns) =
    let now = after_move q column in
    is_legal q column
    && (if is_none (end_of now) then legal_on now columns (answer_to ls s q column) (λ next r. are_legal ls next r columns) else is_nil columns)

-- the same from a lemma at the root, with the holder's first move where there is one
abbrev pub game_on : List Lemma → Position → ℕ → List ℕ → Option (ℕ × Following) → List Position
game_on ls root n columns None = turns ls (at_lemma n false) root columns
game_on ls root n columns (Some (first, next)) = after_move root first ∷ turns ls next (after_move root first) columns

abbrev pub game_by : List Lemma → Position → ℕ → List ℕ → List Position
game_by ls root n columns = game_on ls root n columns (own_move_at ls (length root.columns) n false)

abbrev pub legal_from : List Lemma → Position → ℕ → List ℕ → Option (ℕ × Following) → Bool
legal_from ls root n columns None = are_legal ls (at_lemma n false) root columns
legal_from ls root n columns (Some (first, next)) = are_legal ls next (after_move root first) columns

abbrev pub is_game_by : List Lemma → Position → ℕ → List ℕ → Bool
is_game_by ls root n columns = legal_from ls root n columns (own_move_at ls (length root.columns) n false)

-- each position comes from the one before by a legal move
abbrev pub IsGame : Position → List Position → Type 0
IsGame q [] = ⊤
IsGame q (r ∷ rs) = ((column : ℕ) × (is_legal q column ≡ true) × (r ≡ after_move q column)) × IsGame r rs

-- the last position of a game that begins here
abbrev pub last_of : Position → List Position → Position
last_of q [] = q
last_of q (r ∷ rs) = last_of r rs

-- ---- who is served

-- The other side has no line at the position; and where the claim is that the holder wins and the game has ended, the holder
-- has won.
pub record IsServedAt (claim : Claim) (q : Position) : Type 0 where
  pub no_line : HasLine q (other (served_by claim)) → ⊥
  pub won : claims_win claim ≡ true → (e : End) → end_of q ≡ Some e → HasLine q (served_by claim)

-- The positions are a game by legal moves, at each of which the holder is served; and behind the last of them the other side
-- is to move, where the game goes on, so that the holder never lacks a move.
pub record IsServed (claim : Claim) (root : Position) (positions : List Position) : Type 0 where
  pub legal : IsGame root positions
  pub served : AllByRecursion (IsServedAt claim) (root ∷ positions)
  pub answered : end_of (last_of root positions) ≡ None → side_to_move (last_of root positions) ≡ other (served_by claim)

-- ---- what is kept

-- where the game has ended, the claim is true of its end
abbrev pub IsHeld : Claim → Position → Type 0
IsHeld claim q = (e : End) → end_of q ≡ Some e → claim_of_end claim e ≡ true

-- some turns of White's and of a plan's of Black's led to the position
pub record IsInPlan (ws : List RuleInstance) (q : Position) : Type 0 where
  pub start : Position
  pub columns : List ℕ
  pub plan : is_plan start ws ≡ true
  pub reached : after_turns ws start columns ≡ Some q

abbrev pub FollowsAt : List Shown → Claim → Place → Position → Type 0
FollowsAt after claim (AtLemma n) now = Shows after n now claim
FollowsAt after claim (InPlan ws) now = (claim ≡ WhiteFails) × IsInPlan ws now

-- Play by the claim stands here at the position: the lemma shows the claim of it as it is seen, or the play is a plan's.
abbrev pub Follows : List Shown → Claim → Following → Position → Type 0
Follows after claim s q = FollowsAt after claim s.place (seen s.turned q)

-- A legal move of the holder's, after which play by the claim goes on, and the claim holds where the game has ended.
pub record HasMove (after : List Shown) (claim : Claim) (q : Position) (found : Option (ℕ × Following)) : Type 0 where
  pub column : ℕ
  pub next : Following
  pub is : found ≡ Some (column, next)
  pub legal : is_legal q column ≡ true
  pub held : IsHeld claim (after_move q column)
  pub follows : Follows after claim next (after_move q column)
