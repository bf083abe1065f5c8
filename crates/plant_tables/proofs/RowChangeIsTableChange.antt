-- A change of rows is the change of the desk's tables.
use Rattle.std.proofs.Common.{List, [], ◌∷◌}
use Rattle.std.proofs.lemmas.List.Sorted.{IsPermutation-refl, IsPermutation-trans, IsPermutation-sym}
use Rattle.sqlite.specs.Effect.{Database}
use Rattle.plant_base.specs.PlantState.{same}
use Rattle.plant_view.specs.{changed, changed_all, RowChange}
use Rattle.plant_view.specs.TableRows.{Tables}
use Rattle.sql_tables.specs.{TableDef, Contents, HaveStoredRows}
use Rattle.plant_tables.specs.{contents_of, rows_changed, all_rows_changed, AreKeyed, AreFresh}
pub use Rattle.plant_view.proofs.RowsInTurn.{all_filtered as all_filter}
use Rattle.plant_tables.proofs.RowChanges.{SameRows}
use Rattle.plant_tables.proofs.EachChange.{one_changed, keyed_after, rows_same}

all_same : (cs : List RowChange) (a b : Contents) → SameRows a b → SameRows (all_rows_changed cs a) (all_rows_changed cs b)
all_same [] a b same = same
all_same (c ∷ cs) a b same = all_same cs (rows_changed c a) (rows_changed c b) (rows_same c a b same)

-- ---- all changes in turn

pub all_changed : (cs : List RowChange) (t : Tables) → AreKeyed t → AreFresh cs t → SameRows (all_rows_changed cs (contents_of t)) (contents_of (changed_all cs t))
all_changed [] t keyed fresh i = IsPermutation-refl (contents_of t i)
all_changed (c ∷ cs) t keyed fresh i =
    IsPermutation-trans _ _ _ (all_same cs (rows_changed c (contents_of t)) (contents_of (changed c t)) (one_changed c t keyed fresh.0) i) (all_changed cs (changed c t) (keyed_after c t keyed) fresh.1 i)

pub keyed_after_all : (cs : List RowChange) (t : Tables) → AreKeyed t → AreKeyed (changed_all cs t)
keyed_after_all [] t keyed = keyed
keyed_after_all (c ∷ cs) t keyed = keyed_after_all cs (changed c t) (keyed_after c t keyed)

-- tables that have rows have them in another order, too
pub stand_as : (table_defs : List TableDef) (db : Database) (a b : Contents) → SameRows a b → HaveStoredRows table_defs db a → HaveStoredRows table_defs db b
stand_as table_defs db a b same h = record {
  sound = h.sound;
  each = λ i table_def is.
      let there = h.each i table_def is in
      record { at = there.at; tree = there.tree; declared = there.declared; shaped = there.shaped; same = IsPermutation-trans _ _ _ (IsPermutation-sym _ _ (same i)) there.same };
}
