-- What the addition of a movement's edge makes of the tables.
use Rattle.std.proofs.Common.{◌≡◌, List, [], ◌∷◌, ◌++◌, Option, Some, None, refl}
use Rattle.plant_base.specs.{EdgeRow, Movement}
use Rattle.plant_view.specs.{edge_row_of, changed, changed_all, RowChange}
use Rattle.plant_view.specs.TableRows.{Tables}
use Rattle.plant_view.proofs.EdgeRowOrder.{with_edge}
use Rattle.plant_rules.specs.{edge_changes, edge_change}

pub edge_changed : (m : Movement) (t : Tables) → changed_all (edge_change m) t ≡ record t { edges = with_edge (edge_row_of m) t.edges }
edge_changed m t = by (edge_row_of m)
  where
    by : (o : Option EdgeRow) → changed_all (edge_changes o) t ≡ record t { edges = with_edge o t.edges }
    by None = refl
    by (Some e) = refl

-- changes that come after others
pub changed_append : (xs ys : List RowChange) (t : Tables) → changed_all (xs ++ ys) t ≡ changed_all ys (changed_all xs t)
changed_append [] ys t = refl
changed_append (x ∷ xs) ys t = changed_append xs ys (changed x t)
