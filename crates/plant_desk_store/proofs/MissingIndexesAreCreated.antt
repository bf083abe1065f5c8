-- The indexes that tables lack are made, or aren't, and the desk represents what it represented.
use Rattle.std.proofs.Common.{◌≡◌, ◌⊎◌, false, inl, inr, refl, sym, subst, Result, Ok, Err, IsTrue, arith}
use Rattle.sqlite.specs.Tree.{Trees}
use Rattle.sqlite.specs.Effect.{Database}
use Rattle.sqlite.specs.State as store
use Rattle.sqlite.specs.State.{HasCleanDisk, IsUnchanged, Survives}
use Rattle.plant_base.specs.{State, newest_schema}
use Rattle.plant_view.specs.{tables_of}
use Rattle.sql_tables.specs.{StoreFault, Keeps}
use Rattle.sql_tables.proofs.TransactionEnds.{IsStore}
use Rattle.plant_tables.specs.{IsAt, AddsMissing, AreAllTaken, HasCreatedIndexes}
use Rattle.plant_questions.specs.{DeskFault}
use Rattle.plant_desk_store.specs.{HasIndexed, desk_fault, HasMended, HasCrashStates, IsDurablyAt}
use Rattle.plant_desk_store.proofs.ForeignTablesKept.{others_kept, others_committed, others_cut, open_foreign_tables}
use Rattle.plant_desk_store.proofs.ReadingKeepsState.{open_at, cut_at, left_still, still_open}
use Rattle.plant_desk_store.proofs.FaultsOfCalls.{unshut as not_shut}

-- a stop that leaves the one state or the same leaves the one
same_left : (c : store.State) (s : State) → HasCrashStates c (λ u. (u ≡ s) ⊎ (u ≡ s)) → HasCrashStates c (λ u. u ≡ s)
same_left c s crash_states = record {
  something = crash_states.something;
  nothing_else = λ db left. let it = crash_states.nothing_else db left in (it.0, elim it.1 [ inl is ↦ is | inr is ↦ is ], it.2);
}

-- ---- a store that was read, which shows that it is open, and then written

module _ (old mid new : store.State) (early : IsStore mid) (same : HasCleanDisk mid → IsUnchanged old mid) (rests : new.in_transaction ≡ false) (kept : HasCleanDisk mid → Keeps old mid) (crash : Survives old mid (λ _. ⊥)) where
  represented : HasCleanDisk mid → (s : State) → IsDurablyAt old s → IsDurablyAt mid s
  represented clean s at = still_open old mid s at clean (kept clean) crash early

  is_live : HasCleanDisk mid → IsTrue mid.is_open
  is_live clean = (same clean).0.is_open

  -- the tables that the store shows before it is written
  abstraction : HasCleanDisk mid → (s : State) → IsDurablyAt old s → IsAt mid (tables_of newest_schema s)
  abstraction clean s at = (represented clean s at).represents.shows (is_live clean)

  left_before : (r : Result (Unit {0}) StoreFault) → HasCreatedIndexes mid new r → HasCleanDisk new → AreAllTaken old.now.schema → (trees : Trees) → new.may_leave trees → old.may_leave trees
  left_before r did clean taken trees left =
      let taken_still = subst (λ (d : Database). AreAllTaken d.schema) (sym (same (did.honest clean)).0.now_is) taken in
      left_still old mid crash (did.honest clean) trees (left_still mid new (did.no_crash_state_added taken_still) clean trees left)

  pub mended : IsStore new → HasCreatedIndexes mid new (Ok tt) → HasMended old new (Ok tt)
  mended late did = record {
    rests = rests;
    clean = λ clean. omega (arith, crash.clean, did.honest clean);
    unshut = tt;
    represents = λ clean s at. open_at new s at.represents.valid (did.gained clean (tables_of newest_schema s) (abstraction (did.honest clean) s at)).0 clean late;
    made = λ clean s at. subst (λ (d : Database). AddsMissing d new.now) (same (did.honest clean)).0.now_is (did.gained clean (tables_of newest_schema s) (abstraction (did.honest clean) s at)).1;
    others = λ clean s at before others.
        let done = did.gained clean (tables_of newest_schema s) (abstraction (did.honest clean) s at) in
        let unchanged = others_kept before old mid others (did.honest clean) (kept (did.honest clean)) crash in
        others_committed before mid new (tables_of newest_schema s) unchanged (is_live (did.honest clean)) done.0 done.1.others;
    no_crash_state_added = left_before (Ok tt) did;
  }

  pub unmended : (f : StoreFault) → HasCreatedIndexes mid new (Err f) → HasMended old new (Err (desk_fault f))
  unmended f did = record {
    rests = rests;
    clean = λ clean. omega (arith, crash.clean, did.honest clean);
    unshut = not_shut f;
    represents = λ clean s at.
        let cut = cut_at mid new s s at.represents.valid at.represents.valid (did.gained clean (tables_of newest_schema s) (abstraction (did.honest clean) s at)) in
        record { represents = cut.0; crash_states = same_left new s cut.1 };
    made = λ clean s at. tt;
    others = λ clean s at before others.
        let unchanged = others_kept before old mid others (did.honest clean) (kept (did.honest clean)) crash in
        others_cut before mid new (tables_of newest_schema s) (tables_of newest_schema s) unchanged (is_live (did.honest clean)) (did.gained clean (tables_of newest_schema s) (abstraction (did.honest clean) s at));
    no_crash_state_added = left_before (Err f) did;
  }

-- where it couldn't be read
pub unread : (old new : store.State) (f : StoreFault) → IsStore new → new.in_transaction ≡ false → (HasCleanDisk new → Keeps old new) → Survives old new (λ _. ⊥) → HasMended old new (Err (desk_fault f))
unread old new f laws rests kept crash = record {
  rests = rests;
  clean = λ clean. omega (arith, crash.clean, clean);
  unshut = not_shut f;
  represents = λ clean s at. still_open old new s at clean (kept clean) crash laws;
  made = λ clean s at. tt;
  others = λ clean s at before others. others_kept before old new others clean (kept clean) crash;
  no_crash_state_added = λ clean taken. left_still old new crash clean;
}

-- ---- a desk

pub indexed : (old new : store.State) (r : Result (Unit {0}) DeskFault) → HasMended old new r → HasIndexed old new r
indexed old new r did = record {
  honest = did.clean;
  is_live = did.unshut;
  represents = λ clean s represented. let at = did.represents clean s (record { represents = represented.0; crash_states = represented.1 refl }) in (at.represents, λ _. at.crash_states);
  made = λ clean s represented. did.made clean s (record { represents = represented.0; crash_states = represented.1 refl });
  others = λ clean before foreign_tables.
      let at : IsDurablyAt old foreign_tables.state = record { represents = foreign_tables.represents.0; crash_states = foreign_tables.represents.1 refl } in
      open_foreign_tables before new false foreign_tables.state (did.represents clean foreign_tables.state at) (did.others clean foreign_tables.state at before foreign_tables.others);
  no_crash_state_added = did.no_crash_state_added;
}
