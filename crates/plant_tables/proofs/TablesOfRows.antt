-- The rows of tables, and the tables of those rows.
use Rattle.std.proofs.Common.{◌≡◌, refl, ap, ◌∙◌, ◌≤◌, true, List, [], ◌∷◌, map, Option, Some, is_some, filter_map}
use Rattle.std.specs.List.{AllByRecursion, cons_option}
use Rattle.plant_view.proofs.ListLemmas.{all_weaker, all_mapped}
use Rattle.plant_base.specs.{is_there}
use Rattle.plant_view.specs.TableRows.{Tables}
use Rattle.plant_tables_columns.specs.{movement_from, booked_of, recall_from, stated_of, HasMasterLineValues, HasControlLineValues, HasMovementRowValues, HasReceiptRowValues, HasValidValues}
use Rattle.plant_tables.specs.{tables_in, rows_in, AreWhole}
use Rattle.plant_tables_columns.proofs.MovementColumns.{movement_again}
use Rattle.plant_tables_columns.proofs.RecallColumns.{recall_again}
use Rattle.plant_tables_columns.proofs.RowLaws.{number_low, content_there}

-- what is read of the rows that were made of others, which each are read as that again, are those
module _ {R T : Type 0} (meant : R → Option T) (made : T → R) (again : (t : T) → meant (made t) ≡ Some t) where
  all_meant : (ts : List T) → filter_map meant (map made ts) ≡ ts
  all_meant [] = refl
  all_meant (t ∷ ts) = ap (λ o. cons_option o (filter_map meant (map made ts))) (again t) ∙ ap (λ l. t ∷ l) (all_meant ts)

  all_mean : (ts : List T) → AllByRecursion (λ r. is_some (meant r) ≡ true) (map made ts)
  all_mean [] = tt
  all_mean (t ∷ ts) = (ap is_some (again t), all_mean ts)

pub same_tables : (t : Tables) → tables_in (rows_in t) ≡ t
same_tables t = λ i. record t { movements = all_meant movement_from booked_of movement_again t.movements i; recalls = all_meant recall_from stated_of recall_again t.recalls i }

pub whole_rows : (t : Tables) → HasValidValues t → AreWhole (rows_in t)
whole_rows t valid = record {
  master_lines = all_weaker HasMasterLineValues (λ l. 1 ≤ l.number) (λ l h. number_low l.number h.number) t.master_lines valid.master_lines;
  control_lines = all_weaker HasControlLineValues (λ l. 1 ≤ l.number) (λ l h. number_low l.number h.number) t.control_lines valid.control_lines;
  movement_lines = all_mapped (λ r. 1 ≤ r.line) booked_of t.movements (all_weaker HasMovementRowValues (λ m. 1 ≤ m.line) (λ m h. number_low m.line h.line) t.movements valid.movements);
  movements = all_mean movement_from booked_of movement_again t.movements;
  contents = all_weaker HasReceiptRowValues (λ r. is_there r.content ≡ true) content_there t.receipts valid.receipts;
  recalls = all_mean recall_from stated_of recall_again t.recalls;
}
