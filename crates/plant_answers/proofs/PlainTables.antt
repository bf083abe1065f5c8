-- The tables of a state, less the columns that the model doesn't hold, are that state.
use Rattle.std.proofs.Common.{◌≡◌, ℕ, refl}
use Rattle.plant_base.specs.{State, newest_schema}
use Rattle.plant_view.proofs.ListLemmas.{map_back}
use Rattle.plant_view.specs.{state_without_kept, tables_of, IsWholeIn, batch_row, sublot_row, place_of_row, batch_of_row}

-- of a schema that lacks no row of the state
pub plain_tables : (k : ℕ) (s : State) → IsWholeIn k s → state_without_kept (tables_of k s) ≡ s
plain_tables k s whole = λ i. record s {
  batches = map_back batch_of_row (batch_row s.control_lines s.events) (λ b. refl) s.batches i;
  places = map_back place_of_row (sublot_row s.movements) (λ p. refl) s.places i;
  receipts = whole.0 i;
  recalls = whole.1 i;
}

-- the newest schema lacks no row
pub whole_in_newest : (s : State) → IsWholeIn newest_schema s
whole_in_newest s = (refl, refl)
