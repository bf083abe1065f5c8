-- What is judged of loaded rows, and of the store that they were loaded of.
use Rattle.std.proofs.Common.{◌≡◌, ◌∙◌, Result, Ok, Err, IfOk, refl, sym, ap, subst, inl, inr, ℕ, ◌<◌, ℤ, pos, arith, ◌≢◌, ◌⊎◌, All, ◌≤ℤ◌}
use lib.Dec.{leb→le}
use Rattle.sqlite.specs.Effect.{Database, IsDatabase}
use Rattle.sqlite.specs.State as store
use Rattle.sqlite.specs.State.{HasCleanDisk, IsUnchanged, Survives}
use Rattle.plant_base.specs.{State, newest_schema}
use Rattle.sql_tables.specs.{HaveStoredRows, IsFree, KeepsOtherTables, Keeps, IsSettled, StoreFault}
use Rattle.sql_tables.proofs.TransactionEnds.{IsStore}
use Rattle.sql_tables.proofs.StatementSequence.{survives_none}
use Rattle.sql_tables.specs.declared.fault.StoreFault.TheVariants as below
use Rattle.sql_queries.specs.{IsRising}
use Rattle.plant_tables.specs.{desk_table_defs, table_defs_of, IsUnopened, HoldsTablesOf, HoldsTables}
use Rattle.plant_tables.proofs.WritingEnds.{finds_same}
use Rattle.plant_view.specs.{tables_of, IsWholeIn}
use Rattle.plant_view.specs.TableRows.{Tables}
use Rattle.plant_invariant.specs.StateInvariant.{StateInvariant}
use Rattle.plant_tables.specs.{AreLoaded, AreRising, contents_loaded, IsVersion, IsKnown, HasTablesOf, DeskRows, Loaded, rows_in, rows_listed}
use Rattle.plant_tables.proofs.OneVersion.{one_version}
use Rattle.plant_migrate.specs.{FailureLeavesAmid}
use Rattle.plant_migrate.proofs.MigrationEnds.{migrated_to_is}
use Rattle.plant_migrate.proofs.NothingWritten.{at_still, keeps_itself}
use Rattle.plant_desk_store.specs.{IsNewlyOpened, HoldsValidState, ValidStateSurvives, IsRisingAt, ShowsUnchanged, NamesFirst, BrokenBy, IsRefusedBy, adopt_fault, IsDurablyAt, KeepsForeignTables, PassesChecks}
use Rattle.plant_check_laws.specs.{state_in, AreUnbroken}
use Rattle.plant_desk_store.specs.declared.adopting.AdoptFault.{AdoptFault}
use Rattle.plant_desk_store.specs.declared.adopting.AdoptFault.TheVariants as fault
use Rattle.plant_check_laws.proofs.ChecksPassImpliesInvariant.{unbroken_valid, unbroken_holds}
use Rattle.plant_check_laws.proofs.InvariantImpliesChecksPass.{read_valid}
use Rattle.plant_desk_store.proofs.ForeignTablesKept.{others_settled}
use Rattle.plant_desk_store.proofs.ReadingKeepsState.{open_at, left_still}
use Rattle.plant_migrate.proofs.ChangesOfState.{whole_on}
use Rattle.plant_migrate.proofs.StepsCompose.{keeps_all}

-- ---- the store

-- a rule that the loaded rows break is one that the tables do
pub broken_tables : (version : ℕ) (db : Database) (x : Loaded) (f : AdoptFault) → IsVersion db (pos version) → HasTablesOf version db.schema → AreLoaded version db x → BrokenBy x f → NamesFirst db f
broken_tables version db x (fault.Newer n) reported whole loaded h = absurd h
broken_tables version db x (fault.Damaged r) reported whole loaded h = inr (version, reported, whole, (x, loaded, h))
broken_tables version db x _ reported whole loaded h = tt

-- there is something of the desk, of no version above the newest
pub record IsThere (db : Database) : Type 0 where
  pub taken : ¬ All (IsFree db.schema) desk_table_defs
  pub known : (n : ℕ) → newest_schema < n → ¬ IsVersion db (pos n)

pub refused_so : (db : Database) (f : AdoptFault) → IsThere db → NamesFirst db f → IsRefusedBy db f
refused_so db (fault.Newer n) there h = absurd h
refused_so db (fault.Damaged r) there h = record { taken = there.taken; known = there.known; broken = h }
refused_so db _ there h = tt

-- a version that is found and isn't above the newest is the only one
pub none_newer : (db : Database) (v : ℤ) → IsVersion db v → v ≤ℤ pos newest_schema → (n : ℕ) → newest_schema < n → ¬ IsVersion db (pos n)
none_newer db v found low n above other =
    let same : v ≡ pos n = one_version db v (pos n) found other in
    let both : pos n ≤ℤ pos newest_schema = subst (λ z. z ≤ℤ pos newest_schema) same low in
    absurd (omega (arith, leb→le n newest_schema both.le, above))

-- ---- what is adopted

module _ (version : ℕ) (db : Database) (x : Loaded) (known : IsKnown version) (loaded : AreLoaded version db x) where
  -- the rows of a valid state's tables are read as they are
  pub rows_of_valid : (s : State) (rows : DeskRows) → HoldsValidState version db s → PassesChecks x version rows → rows_listed rows ≡ rows_in (tables_of version s)
  rows_of_valid s rows held fit = let again = (read_valid version db s x known held.valid held.holds loaded).0 in let both = sym fit.read ∙ again in cc

  -- rows that break no rule are those of a valid state, whose tables the store holds
  pub valid_rows : (checked : Result DeskRows AdoptFault) → AreRising version x → HaveStoredRows (table_defs_of version) db (contents_loaded x) → IfOk checked (PassesChecks x version)
      → IfOk checked (λ rows. (s : State) × HoldsValidState version db s × (rows_listed rows ≡ rows_in (tables_of version s)))
  unfolding rows_listed
  valid_rows (Err f) rising represents fit = tt
  valid_rows (Ok rows) rising represents fit =
      let r = rows_listed rows in
      let unbroken : AreUnbroken x r = record { rising = subst (λ k. AreRising k x) (sym fit.reports) rising; read = fit.read; unbroken = fit.unbroken } in
      let s = state_in r in
      let holds : HoldsTablesOf version db (tables_of version s) =
      subst (λ k. HoldsTablesOf k db (tables_of k s)) fit.reports (unbroken_holds db x r unbroken (subst (λ k. HaveStoredRows (table_defs_of k) db (contents_loaded x)) (sym fit.reports) represents)) in
      let found = unbroken_valid x r unbroken in
      let whole : IsWholeIn version s = subst (λ k. IsWholeIn k s) fit.reports (sym (ap (λ (t : Tables). t.receipts) found.tables), sym (ap (λ (t : Tables). t.recalls) found.tables)) in
      let held : HoldsValidState version db s = record { known = known; valid = found.valid; holds = holds; whole = whole } in
      (s, held, rows_of_valid s rows held fit)

-- a store that is unchanged is as it was opened
pub still_new : (old new : store.State) → IsNewlyOpened old → IsUnchanged old new → IsStore new → IsNewlyOpened new
still_new old new newly same laws = record {
  settled = record {
    is_open = same.0.is_open;
    shows = same.0.now_is ∙ newly.settled.shows ∙ sym same.0.committed_is;
    crash_states = laws.stays same.0.is_open;
    nothing_else = λ db left. laws.settled db same.0.is_open left;
  };
  rising = subst IsRising (sym same.0.now_is) newly.rising;
}

pub opens_new : (old new : store.State) → IsNewlyOpened old → HasCleanDisk new → IsUnchanged old new → Keeps old new → IsStore new → (s : State) → StateInvariant s → HoldsTables old.now (tables_of newest_schema s) → IsDurablyAt new s
opens_new old new newly clean same kept laws s valid holds =
    open_at new s valid (at_still newest_schema old new (tables_of newest_schema s) (record { settled = newly.settled; holds = holds }) kept laws same.0.is_open) clean laws

-- a store over the tables of a valid state, after calls that only read
pub stays_valid : (old new : store.State) → (HasCleanDisk new → Keeps old new) → Survives old new (λ _. ⊥) → IsStore new → ValidStateSurvives old new
stays_valid old new kept survives laws = λ clean newly version s held. record {
  valid = held.valid;
  shows = λ is_live. inl (at_still version old new (tables_of version s) (record { settled = newly.settled; holds = held.holds }) (kept clean) laws is_live);
  something = laws.something clean;
  nothing_else = λ db left.
      let before = left_still old new survives clean db left in
      let same : db ≡ old.now.trees = newly.settled.nothing_else db before ∙ ap (λ (d : Database). d.trees) (sym newly.settled.shows) in
      let found = finds_same version old.now db (tables_of version s) held.holds same in
      (version, omega arith, held.known.1, record { valid = held.valid; schema = found.schema; holds = found.holds; whole = held.whole });
}

-- the tables weren't made, and the store shows what it showed
pub unopened_keeps : (old new : store.State) → IsSettled old → IsUnopened old new → Keeps old new
unopened_keeps old new settled undone = record {
  was_open = λ is_live. settled.is_open;
  now = λ is_live. (undone.shows is_live).1;
  committed = λ is_live. let abstraction = undone.shows is_live in sym abstraction.0.shows ∙ abstraction.1 ∙ settled.shows;
}

-- ---- what was migrated

-- the migration was cut short
pub rises : (version : ℕ) (old new : store.State) (s : State) → HoldsValidState version old.now s → FailureLeavesAmid version newest_schema old new s → IsRisingAt version new s
rises version old new s held cut = record {
  valid = held.valid;
  shows = λ is_live. elim (cut.shows is_live) [
    | inl before ↦ inl before.0
    | inr between ↦ inr (between.later, between.above, between.below, between.at)
  ];
  something = cut.crash_states;
  nothing_else = λ db left.
      let found = cut.nothing_else db left in
      let top = migrated_to_is version newest_schema held.known.1 in (
        found.0,
        found.1,
        omega (arith, found.2, top),
        record { valid = held.valid; schema = found.3.schema; holds = found.3.holds; whole = whole_on version found.0 s found.1 held.whole },
      );
}

-- what a store shows after it
cut_shows : (version : ℕ) (old new : store.State) (s : State) (f : StoreFault) → IsSettled old → HoldsValidState version old.now s → FailureLeavesAmid version newest_schema old new s → (f ≡ below.Memory → new ≡ old) → ShowsUnchanged (adopt_fault f) old new
cut_shows version old new s below.Store settled held cut write_error = λ is_live. elim (cut.shows is_live) [
  | inl before ↦ inl (record {
    was_open = λ _. settled.is_open;
    now = λ _. before.1;
    committed = λ _. sym before.0.settled.shows ∙ before.1 ∙ settled.shows;
  })
  | inr between ↦ inr (refl, record { version = version; state = s; represented = held; between = between })
]
cut_shows version old new s below.Memory settled held cut write_error = λ is_live. inl (subst (Keeps old) (sym (write_error refl)) (keeps_itself old))

pub reported_shows : (version : ℕ) (old new : store.State) (s : State) (f : StoreFault) (reported : AdoptFault) → IsSettled old → HoldsValidState version old.now s → FailureLeavesAmid version newest_schema old new s → (f ≡ below.Memory → new ≡ old) → reported ≡ adopt_fault f → ShowsUnchanged reported old new
reported_shows version old new s f reported settled held cut write_error is = subst (λ x. ShowsUnchanged x old new) (sym is) (cut_shows version old new s f settled held cut write_error)

-- it is reported as a fault of the store or as want of memory
pub reported_known : (f : StoreFault) (reported : AdoptFault) → reported ≡ adopt_fault f → (reported ≡ fault.Store) ⊎ (reported ≡ fault.Memory)
reported_known below.Store reported is = inl is
reported_known below.Memory reported is = inr is

-- at want of memory nothing was written
pub reported_unmade : (old new : store.State) (f : StoreFault) (reported : AdoptFault) → reported ≡ adopt_fault f → (f ≡ below.Memory → new ≡ old) → reported ≢ fault.Store → Survives old new (λ _. ⊥)
reported_unmade old new below.Store reported is write_error other = absurd (other is)
reported_unmade old new below.Memory reported is write_error other = subst (λ (c : store.State). Survives old c (λ _. ⊥)) (sym (write_error refl)) (survives_none old)

-- the foreign tables of a store that is unchanged are unchanged
pub others_unchanged : (old new : store.State) → IsNewlyOpened new → new.now ≡ old.now → IsDatabase old.now → KeepsForeignTables old.now new
others_unchanged old new newly same sound = others_settled old.now new newly.settled (subst IsDatabase (sym same) sound) (subst (KeepsOtherTables desk_table_defs old.now) (sym same) (keeps_all desk_table_defs old.now))
