-- Which rows that were decoded make up tables, and in which order they are.
use Rattle.std.specs.Prelude.{◌≡◌, ◌≤◌, true, is_some}
use Rattle.std.specs.List.{AllByRecursion}
use Rattle.std.specs.List.Sorted.{IsStrictlySortedBy}
use Rattle.plant_base.specs.{is_there, movement_order, event_order}
use Rattle.plant_view.specs.TableRows.{Tables}
use Rattle.plant_tables.specs.KeyedRows.{AreKeyed}
use Rattle.plant_tables.specs.RowLists.{Rows}
use Rattle.plant_tables_columns.specs.{movement_from, recall_from}

-- each line has a number, each movement the columns of its kind, each receipt a content, and each recall the columns of
-- its state
pub record AreWhole (r : Rows) : Type 0 where
  pub master_lines : AllByRecursion (λ l. 1 ≤ l.number) r.master_lines
  pub control_lines : AllByRecursion (λ l. 1 ≤ l.number) r.control_lines
  pub movement_lines : AllByRecursion (λ m. 1 ≤ m.line) r.movements
  pub movements : AllByRecursion (λ m. is_some (movement_from m) ≡ true) r.movements
  pub contents : AllByRecursion (λ r. is_there r.content ≡ true) r.receipts
  pub recalls : AllByRecursion (λ r. is_some (recall_from r) ≡ true) r.recalls

-- the rows of each table are in the order of their keys, none with the key of another
pub record AreInOrder (t : Tables) : Type 0 where
  pub keyed : AreKeyed t
  pub events : IsStrictlySortedBy event_order t.events
  pub movements : IsStrictlySortedBy movement_order t.movements
