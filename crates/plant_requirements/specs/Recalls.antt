-- The lots and the moments of recalls.
use Rattle.std.specs.Prelude.{ℕ, Bool, true, ◌&&◌, nat_le, List, Option, Some, None, is_some}
use Rattle.std.specs.List.{list_all}
use Rattle.plant_base.specs.{Lifting, Lot, Recall}
use Rattle.plant_requirements.specs.Movements.{lot_among}

-- where it was lifted, that is no earlier than the recall itself and no later than the desk's moment
abbrev pub is_lifted_between : ℕ → ℕ → Option Lifting → Bool
is_lifted_between opened at None = true
is_lifted_between opened at (Some l) = nat_le opened l.at && nat_le l.at at

-- the moment is no later than the desk's, and the lifting's is between
abbrev pub is_timely : ℕ → Recall → Bool
is_timely at r = nat_le r.at at && is_lifted_between r.at at r.lifting

-- and its lot is there
abbrev pub is_right_recall : ℕ → List Lot → Recall → Bool
is_right_recall at lots r = is_some (lot_among lots r.lot) && is_timely at r

abbrev pub are_recalls : ℕ → List Lot → List Recall → Bool
are_recalls at lots rs = list_all (is_right_recall at lots) rs
