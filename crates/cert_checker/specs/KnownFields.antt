-- The fields of what is known: the board, the number of the men of each lemma's position, each lemma's claim, and how many
-- more of both there is room for.
use Rattle.std.specs.Prelude.{◌≡◌, ◌+◌, ◌<◌, ◌≤◌, ◌^◌, length, vec_len, vec_capacity}
use Rattle.std.specs.List.{All}
use Rattle.board_bits.specs.MenNumber.{AreMen}
use Rattle.cert_checker.specs.Shown.{AllShown, shown_in}
use Rattle.cert_checker.specs.declared.known.Known.TheInside.{Inside}

abbrev pub all_shown : Inside → AllShown
all_shown a = record { board = a.size; shown = shown_in a.size a.men.items a.claims.items; spare = a.spare; memory = (vec_capacity a.men, vec_capacity a.claims) }

pub record IsInStep (a : Inside) : Type 0 where
  pub same_length : length a.men.items ≡ length a.claims.items
  pub few : length a.claims.items < 2 ^ 32
  pub are_men : All (AreMen a.size) a.men.items
  pub room_for_men : vec_len a.men + a.spare ≤ vec_capacity a.men
  pub room_for_claims : vec_len a.claims + a.spare ≤ vec_capacity a.claims
