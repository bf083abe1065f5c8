-- Rows as they are sorted.
use Rattle.std.specs.Prelude.{List, [], ◌∷◌}
use Rattle.std.specs.declared.cmp.Ordering.{Ordering}
use Rattle.plant_base.specs.{put}

-- the rows in this order, whatever order they come in
abbrev pub in_order : {R : Type 0} → (R → R → Ordering) → List R → List R
in_order order [] = []
in_order order (r ∷ rs) = put order r (in_order order rs)
