-- Rows that are put one after another, the last first.
use Rattle.std.proofs.Common.{◌≡◌, List, [], ◌∷◌, ◌++◌, refl, ap}
use Rattle.std.specs.declared.cmp.Ordering.{Ordering}
use Rattle.plant_base.specs.PlantState.{put}
use Rattle.plant_questions.specs.Sorting.{in_order}

module _ {R : Type 0} (order : R → R → Ordering) where
  -- all these put into rows that are in order
  abbrev pub put_each : List R → List R → List R
  put_each [] sorted = sorted
  put_each (r ∷ rs) sorted = put order r (put_each rs sorted)

  pub put_last : (rs : List R) (r : R) (sorted : List R) → put_each (rs ++ r ∷ []) sorted ≡ put_each rs (put order r sorted)
  put_last [] r sorted = refl
  put_last (x ∷ rs) r sorted = ap (put order x) (put_last rs r sorted)

  pub put_all : (rs : List R) → put_each rs [] ≡ in_order order rs
  put_all [] = refl
  put_all (r ∷ rs) = ap (put order r) (put_all rs)
