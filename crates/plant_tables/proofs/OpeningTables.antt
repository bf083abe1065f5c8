-- The making of the tables of a desk that has accepted nothing.
use Rattle.std.proofs.Common.{◌≡◌, inl, inr, sym, subst, zero, suc, ◌==◌, false, eqb-true, arith, [], Result, OnErr, IsPermutation}
use Rattle.std.proofs.lemmas.List.Sorted.{IsPermutation-refl}
use Rattle.std.proofs.lemmas.Bool.{false_from_ne_true}
use Rattle.std.proofs.lemmas.Result.{on_err_weaker}
use Rattle.sqlite.specs.Effect.{IsDatabase}
use Rattle.sqlite.specs.State.{State}
use Rattle.plant_base.specs.{newest_schema, Meta}
use Rattle.plant_view.specs.{marks}
use Rattle.plant_view.specs.declared.change.RowChange.TheVariants as change
use Rattle.sql_tables.specs.{AreFree, IsUndone, Founds}
use Rattle.sql_tables.specs.Moves.{Moves}
use Rattle.sql_tables.proofs.StatementSequence.{others_then}
use Rattle.plant_tables.specs.{desk_table_defs, contents_of, rows_changed, opening_tables, MakesDesk, IsUnopened}
use Rattle.plant_tables.proofs.RowChangeIsTableChange.{stand_as}
use Rattle.plant_tables.proofs.RowChanges.{SameRows}
use Rattle.plant_tables.proofs.WritingEnds.{finds_made}
use Rattle.plant_tables.proofs.EachTable.{no_others}

abbrev pub opening_meta : Meta
opening_meta = record { schema = newest_schema; position = record { seq = 0; at = 0 } }

-- the one row of meta, and no other row
one_row : SameRows (rows_changed (change.Meta opening_meta) (λ _. [])) (contents_of opening_tables)
unfolding rows_changed marks
one_row zero = IsPermutation-refl _
one_row (suc k) =
    let miss : (suc k == 0) ≡ false = false_from_ne_true _ (λ hit. let zero = eqb-true (suc k) 0 hit in absurd (omega arith)) in
    rw miss (subst (IsPermutation []) (sym (no_others k)) (IsPermutation-refl []))

pub desk_made : (a b c : State) → Founds desk_table_defs a b → Moves desk_table_defs b c (rows_changed (change.Meta opening_meta)) → MakesDesk a.now c.now
desk_made a b c founds moves sound free =
    let has_rows = founds.has_rows sound free in
    (stand_as desk_table_defs c.now _ (contents_of opening_tables) one_row (moves.has_rows (λ _. []) has_rows), others_then desk_table_defs a.now b.now c.now (founds.others sound free) (moves.others (λ _. []) has_rows))

pub unopened_at : {X E : Type 0} (old new : State) (r : Result X E) → IsDatabase old.now → AreFree desk_table_defs old.now.schema → OnErr r (IsUndone MakesDesk old new) → OnErr r (IsUnopened old new)
unopened_at old new r sound free = on_err_weaker r (λ undone. record {
  crash_states = undone.crash_states;
  nothing_else = λ db left. elim (undone.nothing_else db left) [
    | inl before ↦ inl before
    | inr made ↦ inr (finds_made newest_schema MakesDesk old new opening_tables (λ db made. made sound free) made.0 db made.1 made.2)
  ];
  shows = undone.shows;
})
