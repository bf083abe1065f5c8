-- Row changes that lead to the tables of a state lead the plain lists to that state.
use Rattle.std.proofs.Common.{◌≡◌, ◌∙◌, List, [], ◌∷◌, refl, sym, ap}
use Rattle.plant_base.specs.{State, newest_schema, batch_order, place_order}
use Rattle.plant_view.proofs.ListLemmas.{put_kept}
use Rattle.plant_view.specs.{RowChange, state_without_kept, tables_of, changed, changed_all, batch_row_order, sublot_order, place_of_row, batch_of_row}
use Rattle.plant_view.specs.declared.change.RowChange.TheVariants as row
use Rattle.plant_view.specs.TableRows.{Tables}
use Rattle.plant_answers.proofs.PlainTables.{plain_tables, whole_in_newest}
use Rattle.plant_desk.specs.{applied, applied_all}

plain_changed : (c : RowChange) (t : Tables) → state_without_kept (changed c t) ≡ applied c (state_without_kept t)
plain_changed (row.Batch r) t = λ i. record (state_without_kept t) { batches = put_kept batch_of_row batch_row_order batch_order (λ a b. refl) r t.batches i }
plain_changed (row.Sublot r) t = λ i. record (state_without_kept t) { places = put_kept place_of_row sublot_order place_order (λ a b. refl) r t.sublots i }
plain_changed _ t = refl

plain_changed_all : (cs : List RowChange) (t : Tables) → state_without_kept (changed_all cs t) ≡ applied_all cs (state_without_kept t)
plain_changed_all [] t = refl
plain_changed_all (c ∷ cs) t = plain_changed_all cs (changed c t) ∙ ap (applied_all cs) (plain_changed c t)

pub leads : (cs : List RowChange) (s next : State) → changed_all cs (tables_of newest_schema s) ≡ tables_of newest_schema next → applied_all cs s ≡ next
leads cs s next e = ap (applied_all cs) (sym (plain_tables newest_schema s (whole_in_newest s))) ∙ sym (plain_changed_all cs (tables_of newest_schema s)) ∙ ap state_without_kept e ∙ plain_tables newest_schema next (whole_in_newest next)
