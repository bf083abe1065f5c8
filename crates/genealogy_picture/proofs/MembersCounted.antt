-- The members of an object, counted.
use Rattle.std.proofs.Common.{◌≡◌, suc, List, [], ◌∷◌, length, refl, ap, String, Global}
use Rattle.serde_json.specs.View.{members_view}
use Rattle.serde_json.specs.declared.value.Value.{Value}
use Rattle.genealogy_picture.specs.{count_of}

pub members_counted : (es : List (String Global × Value)) → count_of (members_view es) ≡ length es
members_counted [] = refl
members_counted (e ∷ es) = ap suc (members_counted es)
