-- How the writing of changes ends, in the tables of the desk.
use Rattle.std.proofs.Common.{◌≡◌, inl, inr, refl, sym, subst, ℕ, List, Result, OnOk, OnErr}
use Rattle.std.proofs.lemmas.Result.{on_ok_weaker, on_err_weaker}
use Rattle.sqlite.specs.Tree.{Trees}
use Rattle.sqlite.specs.Effect.{Database}
use Rattle.sqlite.specs.State.{State}
use Rattle.plant_base.specs.{newest_schema}
use Rattle.plant_view.specs.{changed_all, RowChange}
use Rattle.plant_view.specs.TableRows.{Tables}
use Rattle.sql_tables.specs.{KeepsOtherTables, IsSettled, IsUndone}
use Rattle.sql_tables.specs.Moves.{Moves}
use Rattle.plant_tables.specs.{desk_table_defs, table_defs_of, contents_of, all_rows_changed, HoldsTablesOf, AreKeyed, AreFresh, MovesTablesOf, MovesTables, IsAtOf, IsAt, FindsOf, FailureLeavesOf, FailureLeaves}
use Rattle.plant_tables.proofs.RowChangeIsTableChange.{all_changed, stand_as}

pub tables_moved : (schema : ℕ) (cs : List RowChange) (old new : State) → Moves (table_defs_of schema) old new (all_rows_changed cs) → MovesTablesOf schema cs old.now new.now
tables_moved schema cs old new moves t keyed fresh holds =
    (stand_as (table_defs_of schema) new.now (all_rows_changed cs (contents_of t)) (contents_of (changed_all cs t)) (all_changed cs t keyed fresh) (moves.has_rows (contents_of t) holds), moves.others (contents_of t) holds)

-- what an opening finds where nothing was changed
pub finds_same : (version : ℕ) (db : Database) (trees : Trees) (t : Tables) → HoldsTablesOf version db t → trees ≡ db.trees → FindsOf version db trees t
finds_same version db trees t holds same =
    subst (λ d. FindsOf version db d t) (sym same) (record { schema = db.schema; holds = holds; others = record { kept = λ x listed foreign. (listed, refl) } })

module _ (later : ℕ) (makes : Database → Database → Type 0) (old new : State) (after : Tables) (leads : (db : Database) → makes old.now db → HoldsTablesOf later db after × KeepsOtherTables desk_table_defs old.now db) where
  pub finds_made : (db : Database) (trees : Trees) → makes old.now db → trees ≡ db.trees → FindsOf later old.now trees after
  finds_made db trees made same =
      let it = leads db made in
      subst (λ d. FindsOf later old.now d after) (sym same) (record { schema = db.schema; holds = it.0; others = it.1 })

  pub ended_at : {X E : Type 0} (r : Result X E) → OnOk r (IsSettled new × makes old.now new.now) → OnOk r (IsAtOf later new after × KeepsOtherTables desk_table_defs old.now new.now)
  ended_at r = on_ok_weaker r (λ done. let it = leads new.now done.1 in (record { settled = done.0; holds = it.0 }, it.1))

  pub cut_at : {X E : Type 0} (version : ℕ) (before : Tables) → IsAtOf version old before → (r : Result X E) → OnErr r (IsUndone makes old new) → OnErr r (FailureLeavesOf version later old new before after)
  cut_at version before at r = on_err_weaker r (λ undone. record {
    crash_states = undone.crash_states;
    nothing_else = λ db left. elim (undone.nothing_else db left) [
      | inl still ↦ inl (finds_same version old.now db before at.holds still)
      | inr made ↦ inr (finds_made made.0 db made.1 made.2)
    ];
    shows = λ live. let it = undone.shows live in (record { settled = it.0; holds = subst (λ d. HoldsTablesOf version d before) (sym it.1) at.holds }, it.1);
  })

pub done_at : {X E : Type 0} (cs : List RowChange) (old new : State) (t : Tables) (r : Result X E) → IsAt old t → AreKeyed t → AreFresh cs t → OnOk r (IsSettled new × MovesTables cs old.now new.now)
    → OnOk r (IsAt new (changed_all cs t) × KeepsOtherTables desk_table_defs old.now new.now)
done_at cs old new t r at keyed fresh done = ended_at newest_schema (MovesTables cs) old new (changed_all cs t) (λ db made. made t keyed fresh at.holds) r done

pub undone_at : {X E : Type 0} (cs : List RowChange) (old new : State) (t : Tables) (r : Result X E) → IsAt old t → AreKeyed t → AreFresh cs t → OnErr r (IsUndone (MovesTables cs) old new)
    → OnErr r (FailureLeaves old new t (changed_all cs t))
undone_at cs old new t r at keyed fresh undone = cut_at newest_schema (MovesTables cs) old new (changed_all cs t) (λ db made. made t keyed fresh at.holds) newest_schema t at r undone
