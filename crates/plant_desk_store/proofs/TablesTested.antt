-- What reading and testing the tables of a version gives.
use Rattle.std.proofs.Common.{◌≡◌, ℕ, ◌<◌, false, Result, Ok, Err, sym, subst, inl, arith}
use Rattle.sqlite.specs.Effect.{Database}
use Rattle.sqlite.specs.State as store
use Rattle.sqlite.specs.State.{HasCleanDisk, IsUnchanged, Survives}
use Rattle.sqlite.proofs.StateLemmas.{survives_then, survives_weaker}
use Rattle.plant_base.specs.{State, newest_schema}
use Rattle.sql_tables.proofs.TransactionEnds.{IsStore}
use Rattle.plant_tables.specs.{IsKnown, DeskRows}
use Rattle.plant_migrate.proofs.MigrationEnds.{migrated_since}
use Rattle.plant_desk_store.specs.{HoldsValidState, IsNewlyOpened, IsMigrated, HasChecked, HasMigrated, HasTaken, KeepsForeignTables}
use Rattle.plant_desk_store.specs.declared.adopting.AdoptFault.{AdoptFault}
use Rattle.plant_desk_store.proofs.CheckedStore.{still_new, stays_valid}
use Rattle.plant_desk_store.proofs.AdoptedTrees.{migrated_from}
use Rattle.plant_desk_store.proofs.MigratedTables.{names_none, shows_trans}

-- they weren't read, or break a rule
pub unread : (version : ℕ) (old new : store.State) (f : AdoptFault) → IsStore new → old.in_transaction ≡ false → HasChecked version old new (Err f) → HasTaken version old new (Err f)
unread version old new f laws rest read = record {
  rests = read.reads.rests rest;
  valid = λ clean newly known is_live. inl (read.reads.kept clean);
  again = λ clean newly s held. stays_valid old new read.reads.kept read.reads.crash laws clean newly version s held;
  named = read.named;
  unmade = λ other. read.reads.crash;
  newest = λ is. read.reads.crash;
  crash = survives_weaker _ _ _ _ (λ clean db none. absurd none) read.reads.crash;
}

-- they are valid, of an older version, and were migrated
module _ (version : ℕ) (older : version < newest_schema) (rows : DeskRows) (old mid new : store.State) (first : IsStore mid) (read : HasChecked version old mid (Ok rows)) where
  here : IsUnchanged old mid → (s : State) → HoldsValidState version old.now s → HoldsValidState version mid.now s
  here same s held = subst (λ (db : Database). HoldsValidState version db s) (sym same.0.now_is) held

  crash_of : (r : Result (Unit {0}) AdoptFault) → HasMigrated version rows mid new r → Survives old new (λ trees. IsNewlyOpened old → IsKnown version → IsMigrated old.now trees)
  crash_of r did = survives_then old mid new _ _ _ (λ _ db none. absurd none)
      (λ clean trees made newly known.
      let was : HasCleanDisk mid = omega (arith, did.crash.clean, clean) in
      let same : IsUnchanged old mid = read.unchanged was in
      let valid = read.valid was newly known in
      migrated_from version old trees rows newly.settled (valid.0, valid.1) (read.reported was) (migrated_since version _ _ _ old mid trees same.0.now_is (λ _. (still_new old mid newly same first).settled) made)) read.reads.crash did.crash

  pub migrated_or_not : (r : Result (Unit {0}) AdoptFault) → HasMigrated version rows mid new r → HasTaken version old new r
  migrated_or_not (Ok u) did = record {
    rests = did.rests;
    valid = λ clean newly known.
        let was : HasCleanDisk mid = omega (arith, did.crash.clean, clean) in
        let same : IsUnchanged old mid = read.unchanged was in
        let valid = read.valid was newly known in
        let done = did.migrated clean (still_new old mid newly same first).settled valid.0 (here same valid.0 valid.1) valid.2 in
        (valid.0, valid.1, done.0, subst (λ (db : Database). KeepsForeignTables db new) same.0.now_is done.1);
    again = λ clean newly s held.
        let was : HasCleanDisk mid = omega (arith, did.crash.clean, clean) in
        let same : IsUnchanged old mid = read.unchanged was in
        (did.migrated clean (still_new old mid newly same first).settled s (here same s held) (read.reported was s held)).0;
    named = λ clean reported. tt;
    unmade = tt;
    newest = λ is. absurd (omega (arith, older, is));
    crash = crash_of (Ok u) did;
  }
  migrated_or_not (Err f) did = record {
    rests = did.rests;
    valid = λ clean newly known.
        let was : HasCleanDisk mid = omega (arith, did.crash.clean, clean) in
        let same : IsUnchanged old mid = read.unchanged was in
        let valid = read.valid was newly known in
        let done = did.migrated clean (still_new old mid newly same first).settled valid.0 (here same valid.0 valid.1) valid.2 in
        shows_trans old mid new f (read.reads.kept was) same.0.now_is done.1;
    again = λ clean newly s held.
        let was : HasCleanDisk mid = omega (arith, did.crash.clean, clean) in
        let same : IsUnchanged old mid = read.unchanged was in
        (did.migrated clean (still_new old mid newly same first).settled s (here same s held) (read.reported was s held)).0;
    named = λ clean reported. names_none old.now f did.reported;
    unmade = λ other. survives_then _ _ _ _ _ _ (λ _ db none. none) (λ _ db none. none) read.reads.crash (did.unmade other);
    newest = λ is. absurd (omega (arith, older, is));
    crash = crash_of (Err f) did;
  }
