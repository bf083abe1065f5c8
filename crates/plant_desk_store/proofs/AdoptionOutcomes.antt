-- The outcome of an adoption, by what was found.
use Rattle.std.proofs.Common.{◌≡◌, ℕ, pos, Result, Ok, Err, sym, subst, inl, inr, arith, All, MatchResult}
use Rattle.sqlite.specs.Effect.{Database}
use Rattle.sqlite.specs.State as store
use Rattle.sqlite.specs.State.{HasCleanDisk, IsLive, Survives}
use Rattle.sqlite.proofs.StateLemmas.{survives_then, survives_weaker}
use Rattle.plant_base.specs.{State, newest_schema}
use Rattle.sql_tables.specs.{Keeps, AreFree, IsFree}
use Rattle.sql_tables.proofs.TransactionEnds.{IsStore}
use Rattle.plant_tables.specs.{desk_table_defs}
use Rattle.plant_tables.specs.{IsVersion}
use Rattle.plant_desk_store.specs.{Adopts, HoldsValidState, IsMigrated, IsRefusedBy, IsRisingAt, IsUnmigrated, NamesFirst, HasAdopted, HasRefused, HasMade, HasTaken, KeepsForeignTables}
use Rattle.plant_desk_store.specs.declared.adopting.AdoptFault.{AdoptFault}
use Rattle.plant_desk_store.proofs.ValidTablesAreAdopted.{not_free, one_reported, pos_le}
use Rattle.plant_desk_store.proofs.CheckedStore.{IsThere, still_new, none_newer, refused_so}
use Rattle.plant_desk_store.proofs.AdoptedTrees.{opened}
use Rattle.plant_desk_store.proofs.MigratedTables.{shows_trans, survives_if, newest_reported}
use Rattle.plant_desk_store.proofs.FaultsOfCalls.{IsFoundKnown}

abbrev Adoption : store.State → store.State → Result (Unit {0}) AdoptFault → Type 0
Adoption old new r = MatchResult r (λ _. HasAdopted old new) (λ f. HasRefused f old new)

-- none of the tables was found, and they were made or not
module _ (old new : store.State) (laws : IsStore new) (is_live : IsLive old) (free : AreFree desk_table_defs old.now.schema) where
  pub made_or_not : (r : Result (Unit {0}) AdoptFault) → HasMade old new r → Adoption old new r
  made_or_not (Ok u) did = record {
    rests = did.rests;
    adopted = λ clean newly. inl (free, (did.made clean newly.settled (is_live newly.settled.is_open).0 free).0);
    again = λ clean newly version s held. absurd (not_free version old.now s held free);
    others = λ clean newly. (did.made clean newly.settled (is_live newly.settled.is_open).0 free).1;
    no_crash_state_added = λ whole. absurd (whole.taken free);
    crash = survives_weaker _ _ _ _ (λ clean trees are newly. inl (opened old.now trees free (is_live newly.settled.is_open).0 are)) did.crash;
  }
  made_or_not (Err f) did = record {
    refused = λ clean. subst (IsRefusedBy old.now) (sym did.reported) tt;
    rests = did.rests;
    shows = λ clean newly unchanged. inl (did.made clean newly.settled (is_live newly.settled.is_open).0 free);
    unchanged = λ clean newly version s held. absurd (not_free version old.now s held free);
    no_crash_state_added = λ whole. absurd (whole.taken free);
    unmade = λ other. absurd (other did.reported);
    crash = survives_weaker _ _ _ _ (λ clean trees are newly. inl (opened old.now trees free (is_live newly.settled.is_open).0 are)) did.crash;
    something = laws.something;
  }

-- tables of a known version were found, and were adopted or not
module _ (version : ℕ) (old mid new : store.State) (first : IsStore mid) (laws : IsStore new) (reads : Survives old mid (λ _. ⊥)) (kept : HasCleanDisk mid → Keeps old mid)
    (found : HasCleanDisk mid → IsFoundKnown old mid version) (taken : ¬ All (IsFree old.now.schema) desk_table_defs) where
  crash_of : (r : Result (Unit {0}) AdoptFault) → HasTaken version mid new r → Survives old new (Adopts old)
  crash_of r did = survives_then old mid new _ _ _ (λ _ db none. absurd none)
      (λ clean trees migrated newly.
      let was : HasCleanDisk mid = omega (arith, did.crash.clean, clean) in
      let it = found was in
      inr (subst (λ (db : Database). IsMigrated db trees) it.same.0.now_is (migrated (still_new old mid newly it.same first) it.known))) reads did.crash

  no_crash_state_added_by : (r : Result (Unit {0}) AdoptFault) → HasTaken version mid new r → IsUnmigrated old.now → Survives old new (λ _. ⊥)
  no_crash_state_added_by r did whole = survives_if old new _ _ (crash_of r did)
      (λ clean.
      let was : HasCleanDisk mid = omega (arith, did.crash.clean, clean) in
      let it = found was in
      survives_then old mid new _ _ _ (λ _ db none. none) (λ _ db none. none) reads (did.newest (newest_reported old.now version whole it.reported it.known.1)))

  held_here : (s : State) (other : ℕ) → IsFoundKnown old mid version → HoldsValidState other old.now s → HoldsValidState version mid.now s
  held_here s other it held =
      let one : version ≡ other = one_reported other old.now s held version it.reported in
      subst (λ k. HoldsValidState k mid.now s) (sym one) (subst (λ (db : Database). HoldsValidState other db s) (sym it.same.0.now_is) held)

  pub taken_or_not : (r : Result (Unit {0}) AdoptFault) → HasTaken version mid new r → Adoption old new r
  taken_or_not (Ok u) did = record {
    rests = did.rests;
    adopted = λ clean newly.
        let it = found (omega (arith, did.crash.clean, clean)) in
        let valid = did.valid clean (still_new old mid newly it.same first) it.known in
        inr (version, (valid.0, subst (λ (db : Database). HoldsValidState version db valid.0) it.same.0.now_is valid.1, valid.2));
    again = λ clean newly other s held.
        let it = found (omega (arith, did.crash.clean, clean)) in
        did.again clean (still_new old mid newly it.same first) s (held_here s other it held);
    others = λ clean newly.
        let it = found (omega (arith, did.crash.clean, clean)) in
        subst (λ (db : Database). KeepsForeignTables db new) it.same.0.now_is (did.valid clean (still_new old mid newly it.same first) it.known).3;
    no_crash_state_added = no_crash_state_added_by (Ok u) did;
    crash = crash_of (Ok u) did;
  }
  taken_or_not (Err f) did = record {
    refused = λ clean.
        let it = found (omega (arith, did.crash.clean, clean)) in
        let there : IsThere old.now = record { taken = taken; known = none_newer old.now (pos version) it.reported (pos_le version newest_schema it.known.1) } in
        let named = did.named clean (subst (λ (db : Database). IsVersion db (pos version)) (sym it.same.0.now_is) it.reported) in
        refused_so old.now f there (subst (λ (db : Database). NamesFirst db f) it.same.0.now_is named);
    rests = did.rests;
    shows = λ clean newly.
        let was : HasCleanDisk mid = omega (arith, did.crash.clean, clean) in
        let it = found was in
        shows_trans old mid new f (kept was) it.same.0.now_is (did.valid clean (still_new old mid newly it.same first) it.known);
    unchanged = λ clean newly other s held.
        let it = found (omega (arith, did.crash.clean, clean)) in
        let one : version ≡ other = one_reported other old.now s held version it.reported in
        subst (λ k. IsRisingAt k new s) one (did.again clean (still_new old mid newly it.same first) s (held_here s other it held));
    no_crash_state_added = no_crash_state_added_by (Err f) did;
    unmade = λ other. survives_then _ _ _ _ _ _ (λ _ db none. none) (λ _ db none. none) reads (did.unmade other);
    crash = crash_of (Err f) did;
    something = laws.something;
  }
