-- The rows of edges: their order, and what one more movement adds.
use Rattle.std.proofs.Common.{◌≡◌, ◌∙◌, ℕ, List, [], ◌∷◌, ◌++◌, Bool, true, false, nat_le, Option, Some, None, refl, ap, if◌then◌else◌, filter_map, Ordering}
use Rattle.std.specs.List.{cons_option}
use Rattle.std.proofs.lemmas.List.Elements.{filter_map-append}
use Rattle.std.specs.List.Sorted.{IsStrictlySortedBy}
use Rattle.plant_base.specs.{edge_order, edge_total, put, EdgeRow, Movement}
use Rattle.plant_view.specs.{edge_row_of, edge_rows, put_all, edges_in}
use Rattle.plant_view.proofs.RowsInTurn.{sorted_put_all}

pub edges_sorted : (schema : ℕ) (ms : List Movement) → IsStrictlySortedBy edge_order (edges_in schema ms)
unfolding IsStrictlySortedBy
edges_sorted schema ms = by (nat_le 2 schema)
  where
    by : (keeps : Bool) → IsStrictlySortedBy edge_order (if keeps then edge_rows ms else [])
    by true = sorted_put_all edge_order edge_total (filter_map edge_row_of ms) [] tt
    by false = tt

pub put_all_append : {R : Type 0} (order : R → R → Ordering) (xs ys rows : List R) → put_all order (xs ++ ys) rows ≡ put_all order ys (put_all order xs rows)
put_all_append order [] ys rows = refl
put_all_append order (x ∷ xs) ys rows = put_all_append order xs ys (put order x rows)

-- the rows with those of the edge, where there is one
abbrev pub with_edge : Option EdgeRow → List EdgeRow → List EdgeRow
with_edge None rows = rows
with_edge (Some e) rows = put edge_order e rows

pub edges_pushed : (ms : List Movement) (m : Movement) → edge_rows (ms ++ m ∷ []) ≡ with_edge (edge_row_of m) (edge_rows ms)
edges_pushed ms m =
    ap (λ (es : List EdgeRow). put_all edge_order es []) (filter_map-append edge_row_of ms (m ∷ []))
    ∙ put_all_append edge_order (filter_map edge_row_of ms) (cons_option (edge_row_of m) []) [] ∙ one (edge_row_of m)
  where
    one : (o : Option EdgeRow) → put_all edge_order (cons_option o []) (edge_rows ms) ≡ with_edge o (edge_rows ms)
    one None = refl
    one (Some e) = refl
