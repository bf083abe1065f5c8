-- Recalls that commands lead to.
use Rattle.std.specs.Prelude.{◌≡◌, ℕ, ◌≤◌, true, List, Option, Some, None, is_some, find, ⊤}
use Rattle.std.specs.List.{AllByRecursion}
use Rattle.plant_base.specs.{HasRecallValues, same, Lifting, Lot, Recall}

-- where it was lifted, that is no earlier than the recall itself and no later than the desk's moment
abbrev pub IsLiftedBetween : ℕ → ℕ → Option Lifting → Type 0
IsLiftedBetween opened at None = ⊤
IsLiftedBetween opened at (Some l) = (opened ≤ l.at) × (l.at ≤ at)

-- its values obey their rules, its lot is there, and its moments are none to come
pub record IsValidRecall (at : ℕ) (lots : List Lot) (r : Recall) : Type 0 where
  pub values : HasRecallValues r
  pub lot : is_some (find (λ l. same l.id r.lot) lots) ≡ true
  pub past : r.at ≤ at
  pub lifting : IsLiftedBetween r.at at r.lifting

abbrev pub AreValidRecalls : ℕ → List Lot → List Recall → Type 0
AreValidRecalls at lots rs = AllByRecursion (IsValidRecall at lots) rs
