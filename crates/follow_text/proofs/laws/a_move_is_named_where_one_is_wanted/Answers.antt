use Rattle.std.proofs.Common.{◌≡◌, ◌≢◌, length, Option, Some, None, refl}
use Rattle.follow_text.specs.Following.{own_move_at}
use Rattle.follow_text.proofs.Moves.{own_answer, held_shown}
use Rattle.follow_text.proofs.Games.{names_move}
use Rattle.follow_text.proofs.laws.a_move_is_named_where_one_is_wanted.Goals as goal

some_of : {X : Type 0} (found : Option X) → found ≢ None → (x : X) × (found ≡ Some x)
some_of None h = absurd (h refl)
some_of (Some x) h = (x, refl)

pub returns-clause-named : goal.returns-clause-named
returns-clause-named c root ls after claim n turned q right shows going turn = own_answer root ls after claim right n turned q shows turn going

pub returns-clause-only : goal.returns-clause-only
returns-clause-only c root ls after claim n turned q right shows some =
    let found = some_of (own_move_at ls (length q.columns) n turned) some in names_move root ls after claim right n turned q found.0 shows found.1

pub returns-clause-held : goal.returns-clause-held
returns-clause-held c root ls after claim n turned q right shows = held_shown root ls after claim right n turned q shows
