-- A text that is put piece by piece: what stands already, and what is left of it.
use Rattle.std.proofs.Common.{◌≡◌, ℕ, false, List, [], ◌++◌, Option, refl, sym, ap, ◌∙◌, subst, append_assoc, append-nil}
use Rattle.std.specs.Io.KnownBytes.{Appends}
use Rattle.std.proofs.KnownBytes.{Appends-trans, Appends-nil}
use Rattle.device_rules.specs.Devices.{AppendsPrefix}
use Rattle.device_rules.proofs.DeviceLaws.{AppendsPrefix_take, AppendsPrefix_more}

-- what was put, and what is left behind it
pub record PutSoFar (old now : Option (List ℕ)) (whole left : List ℕ) : Type 0 where
  pub first : List ℕ
  pub put : Appends old now first
  pub rest : whole ≡ first ++ left

pub put_none : (old : Option (List ℕ)) (whole : List ℕ) → PutSoFar old old whole whole
put_none old whole = record { first = []; put = Appends-nil old; rest = refl }

module _ (old mid new : Option (List ℕ)) (whole piece left : List ℕ) (so_far : PutSoFar old mid whole (piece ++ left)) where
  pub put_more : Appends mid new piece → PutSoFar old new whole left
  put_more more = record {
    first = so_far.first ++ piece;
    put = Appends-trans old mid new so_far.first piece so_far.put more;
    rest = so_far.rest ∙ sym (append_assoc so_far.first piece left);
  }

  pub put_cut : AppendsPrefix false mid new piece → AppendsPrefix false old new whole
  put_cut cut = subst (AppendsPrefix false old new) (sym so_far.rest)
      (AppendsPrefix_more false old mid new so_far.first (piece ++ left) so_far.put (AppendsPrefix_take mid new piece left cut))

pub put_whole : (old new : Option (List ℕ)) (whole : List ℕ) → PutSoFar old new whole [] → Appends old new whole
put_whole old new whole so_far = subst (Appends old new) (sym (so_far.rest ∙ append-nil so_far.first)) so_far.put
