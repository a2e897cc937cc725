-- The members of a list of instances, as the definitions see them.
use Rattle.std.proofs.Common.{◌≡◌, ℕ, ◌<◌, List, length, get_or, Some, refl, ap, ◌∙◌}
use Rattle.std.specs.List.{slice_get}
use Rattle.std.specs.Option.{option_map}
use Rattle.std.proofs.lemmas.Option.{slice_get-map, slice_get_read}
use Rattle.rule_compat.specs.declared.instance.Instance.{Instance}
use Rattle.rule_compat.specs.Written.{written, written_list}

-- the member at a place
pub member_at : (list : List Instance) (i : ℕ) (x : Instance) → i < length list → x ≡ get_or list i x → slice_get (written_list list) i ≡ Some (written x)
member_at list i x within at = slice_get-map written list i ∙ ap (option_map written) (slice_get_read list (length list) i x refl within at)
