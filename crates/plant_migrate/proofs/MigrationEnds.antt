-- How the migration of the tables of a state ends.
use Rattle.std.proofs.Common.{◌≡◌, ◌∙◌, inl, inr, refl, sym, ap, subst, ℕ, ◌+◌, ◌-◌, ◌≤◌, ◌<◌, nat_le, List, Result, OnOk, OnErr, arith}
use Rattle.std.proofs.lemmas.Bool.{cases_Bool}
use Rattle.std.proofs.lemmas.Result.{on_ok_weaker, on_err_weaker}
use Rattle.std.proofs.lemmas.Bool.Decides.{nat_tests}
use Rattle.sqlite.specs.Tree.{Trees}
use Rattle.sqlite.specs.Effect.{Database}
use Rattle.sqlite.specs.State as store
use Rattle.plant_base.specs.{State, newest_schema, Position}
use Rattle.plant_view.specs.{tables_of, IsWholeIn, position_of, RowChange}
use Rattle.sql_tables.specs.{AreFree, KeepsOtherTables, IsSettled}
use Rattle.plant_tables.specs.{desk_table_defs, later_table_defs, HoldsTablesOf, AreKeyed, IsAtOf, FindsOf}
use Rattle.plant_tables.proofs.TablesInSchemas.{lacks_later}
use Rattle.plant_tables.specs.{Rows, rows_in, rows_listed, DeskRows}
use Rattle.plant_migrate.specs.{edges_from, migrated_by, IsMigratable, FailureLeavesWithin, FindsMigratable, IsMigratedBy, FailureLeavesAmid, migrated_to}
use Rattle.plant_migrate.proofs.ChangesOfState.{bookings, state_migrated}

pub state_migratable : (version : ℕ) (db : Database) (s : State) → HoldsTablesOf version db (tables_of version s) → AreKeyed (tables_of version s) → IsMigratable version db (tables_of version s)
state_migratable version db s holds keyed = record { holds = holds; keyed = keyed; lacks = lacks_later version s }

-- what the rows have that were read of the tables of a state
pub position_reported : (version : ℕ) (s : State) (rows : DeskRows) → rows_listed rows ≡ rows_in (tables_of version s) → rows.meta.position ≡ position_of s
unfolding rows_listed
position_reported version s rows are = ap (λ (r : Rows). r.meta.position) are

pub bookings_reported : (version : ℕ) (s : State) (rows : DeskRows) → rows_listed rows ≡ rows_in (tables_of version s) → rows.movements.items ≡ bookings s
unfolding rows_listed
bookings_reported version s rows are = ap (λ (r : Rows). r.movements) are

pub migrated_to_is : (version to : ℕ) → version ≤ to → migrated_to version to ≡ to
migrated_to_is version to low = elim (cases_Bool (nat_le to version)) [
  | inl high ↦ let same : version ≡ to = grind (arith, nat_tests) in rw high same
  | inr below ↦ rw below refl
]

-- the position and the edges are those of the state
module _ (version to : ℕ) (s : State) (position : Position) (edges : List RowChange) (low : 1 ≤ version) (upward : version ≤ to) (high : to ≤ newest_schema) (whole : IsWholeIn version s)
    (placed : position ≡ position_of s) (edged : edges ≡ edges_from version (bookings s)) where
  migrated_is : (done : ℕ) → version + done ≤ to → migrated_by done version position edges (tables_of version s) ≡ tables_of (version + done) s
  migrated_is done few =
      ap (λ (p : Position). migrated_by done version p edges (tables_of version s)) placed
      ∙ ap (λ cs. migrated_by done version (position_of s) cs (tables_of version s)) edged
      ∙ state_migrated s version done low (omega (arith, few, high)) whole

  all_done : version + (to - version) ≡ to
  all_done = omega (arith, upward)

  pub state_ends : {X E : Type 0} (old new : store.State) (r : Result X E)
      → OnOk r (IsAtOf (version + (to - version)) new (migrated_by (to - version) version position edges (tables_of version s)) × KeepsOtherTables desk_table_defs old.now new.now)
      → OnOk r (IsAtOf to new (tables_of to s) × KeepsOtherTables desk_table_defs old.now new.now)
  state_ends old new r = on_ok_weaker r (λ ended.
      let at : IsAtOf (version + (to - version)) new (tables_of (version + (to - version)) s) = subst (IsAtOf (version + (to - version)) new) (migrated_is (to - version) (omega (arith, upward))) ended.0 in
      (subst (λ k. IsAtOf k new (tables_of k s)) all_done at, ended.1))

  cut_amid : (old new : store.State) → FailureLeavesWithin version (to - version) (λ done. migrated_by done version position edges (tables_of version s)) old new → FailureLeavesAmid version to old new s
  cut_amid old new cut = record {
    crash_states = cut.crash_states;
    nothing_else = λ db left.
        let found = cut.nothing_else db left in
        let few : version + found.0 ≤ to = omega (arith, upward, found.1) in
        let is = migrated_to_is version to upward in
        (version + found.0, omega arith, omega (arith, few, is), subst (FindsOf (version + found.0) old.now db) (migrated_is found.0 few) found.2);
    shows = λ live. elim (cut.shows live) [
      | inl still ↦ inl still
      | inr amid ↦
          let few : version + amid.done < to = omega (arith, upward, amid.few) in
          inr (record { later = version + amid.done; above = omega (arith, amid.some); below = few; at = subst (IsAtOf (version + amid.done) new) (migrated_is amid.done (omega (arith, few))) amid.at; others = amid.others })
    ];
  }

  pub state_cut : {X E : Type 0} (old new : store.State) (r : Result X E) → OnErr r (FailureLeavesWithin version (to - version) (λ done. migrated_by done version position edges (tables_of version s)) old new)
      → OnErr r (FailureLeavesAmid version to old new s)
  state_cut old new r = on_err_weaker r (cut_amid old new)

  -- what is to be found where the tables of the state were migrated
  pub finds_migrated : (old : store.State) (trees : Trees) → IsSettled old → HoldsTablesOf version old.now (tables_of version s) → AreKeyed (tables_of version s) → (made : IsMigratedBy version (to - version) position edges old trees)
      → FindsMigratable (version + made.done) old.now trees (tables_of (version + made.done) s)
  finds_migrated old trees settled holds keyed made =
      subst (FindsMigratable (version + made.done) old.now trees) (migrated_is made.done (omega (arith, upward, made.few))) (made.finds (λ _. settled) (tables_of version s) (state_migratable version old.now s holds keyed))

-- what was made of a store that shows what another showed
pub migrated_since : (version steps : ℕ) (position : Position) (edges : List RowChange) (first mid : store.State) (trees : Trees) → mid.now ≡ first.now → (IsSettled first → IsSettled mid)
    → IsMigratedBy version steps position edges mid trees → IsMigratedBy version steps position edges first trees
migrated_since version steps position edges first mid trees same settles made = record {
  free = subst (λ (d : Database). AreFree (later_table_defs version) d.schema) same made.free;
  done = made.done;
  some = made.some;
  few = made.few;
  finds = λ settled t can. subst (λ (d : Database). FindsMigratable (version + made.done) d trees (migrated_by made.done version position edges t)) same (made.finds (λ more. settles (settled more)) t (subst (λ (d : Database). IsMigratable version d t) (sym same) can));
}
