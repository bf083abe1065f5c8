-- The movements may be read before the other tables.
use Rattle.std.proofs.Common.{◌≡◌, ℕ, zero, suc, List, [], ◌∷◌, Option, Some, None, map, slice_index_or, slice_set, refl, ap}
use Rattle.plant_base.specs.{◌>>=◌}
use Rattle.plant_tables_columns.specs.{all_from, only_meta, class_from, definition_from, recipe_from, master_line_from, job_from, batch_from, control_line_from, batch_event_from, lot_from, sublot_from, booked_from, BookedRow}
use Rattle.plant_tables.specs.{contents_loaded, rows_with_movements, rows_from}
use Rattle.plant_tables.specs.declared.loaded.Loaded.{Loaded}

-- one of the tables in a list is given other rows: those at the other positions are the same
pub table_kept : {R : Type 0} {V : Type 0} (rows_of : V → List R) (tables : List V) (place : ℕ) (table : V) (at : ℕ) → ¬ (at ≡ place)
    → slice_index_or (map rows_of (slice_set tables place table)) at [] ≡ slice_index_or (map rows_of tables) at []
table_kept rows_of [] place table at apart = refl
table_kept rows_of (t ∷ tables) zero table zero apart = absurd (apart refl)
table_kept rows_of (t ∷ tables) zero table (suc at) apart = refl
table_kept rows_of (t ∷ tables) (suc place) table zero apart = refl
table_kept rows_of (t ∷ tables) (suc place) table (suc at) apart = table_kept rows_of tables place table at (λ e. apart (ap suc e))

-- whatever is read, nothing comes of it
dead : {A B : Type 0} (o : Option A) (next : A → Option B) → ((a : A) → next a ≡ None) → (o >>= next) ≡ None
dead None next h = refl
dead (Some a) next h = h a

-- where they can't be read nothing is
pub unread : (x : Loaded) → all_from booked_from (contents_loaded x 11) ≡ None → rows_from x ≡ None
unfolding rows_from
unread x none =
    dead (only_meta (contents_loaded x 0)) _ (λ meta.
    dead (all_from class_from (contents_loaded x 1)) _ (λ classes.
    dead (all_from definition_from (contents_loaded x 2)) _ (λ definitions.
    dead (all_from recipe_from (contents_loaded x 3)) _ (λ recipes.
    dead (all_from master_line_from (contents_loaded x 4)) _ (λ master_lines.
    dead (all_from job_from (contents_loaded x 5)) _ (λ jobs.
    dead (all_from batch_from (contents_loaded x 6)) _ (λ batches.
    dead (all_from control_line_from (contents_loaded x 7)) _ (λ control_lines.
    dead (all_from batch_event_from (contents_loaded x 8)) _ (λ events.
    dead (all_from lot_from (contents_loaded x 9)) _ (λ lots.
    dead (all_from sublot_from (contents_loaded x 10)) _ (λ sublots.
    rw none refl)))))))))))

-- where they are, what the others make with them is all
pub with_movements : (x : Loaded) (movements : List BookedRow) → all_from booked_from (contents_loaded x 11) ≡ Some movements → rows_with_movements (contents_loaded x) movements ≡ rows_from x
unfolding rows_from rows_with_movements
with_movements x movements some = rw some refl
