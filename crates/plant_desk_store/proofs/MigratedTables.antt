-- What judging the tables of a schema gives, and what migration valid ones gives.
use Rattle.std.proofs.Common.{◌≡◌, ◌∙◌, ℕ, ◌≤◌, pos, sym, subst, inl, inr, ◌⊎◌, eq-or-lt_of_le}
use Rattle.sqlite.specs.Tree.{Trees}
use Rattle.sqlite.specs.Effect.{Database}
use Rattle.sqlite.specs.State as store
use Rattle.sqlite.specs.State.{HasCleanDisk, Survives}
use Rattle.plant_base.specs.{newest_schema}
use Rattle.sql_tables.specs.{Keeps, KeepsOtherTables}
use Rattle.plant_tables.specs.{desk_table_defs}
use Rattle.plant_tables.specs.{IsVersion}
use Rattle.plant_desk_store.specs.{HoldsValidState, ShowsUnchanged, IsUnmigrated, NamesFirst}
use Rattle.plant_desk_store.specs.declared.adopting.AdoptFault.{AdoptFault}
use Rattle.plant_desk_store.specs.declared.adopting.AdoptFault.TheVariants as fault

-- ---- the store

pub keeps_trans : (a b c : store.State) → Keeps a b → Keeps b c → Keeps a c
keeps_trans a b c first second = record {
  was_open = λ is_live. first.was_open (second.was_open is_live);
  now = λ is_live. second.now is_live ∙ first.now (second.was_open is_live);
  committed = λ is_live. second.committed is_live ∙ first.committed (second.was_open is_live);
}

-- what a store still shows after calls that only read
pub shows_trans : (old mid new : store.State) (f : AdoptFault) → Keeps old mid → mid.now ≡ old.now → ShowsUnchanged f mid new → ShowsUnchanged f old new
shows_trans old mid new f first same shows = λ is_live. elim (shows is_live) [
  | inl kept ↦ inl (keeps_trans old mid new first kept)
  | inr risen ↦
      let up = risen.1 in
      inr (
        risen.0,
        record {
          version = up.version;
          state = up.state;
          represented = subst (λ (db : Database). HoldsValidState up.version db up.state) same up.represented;
          between = record {
            later = up.between.later;
            above = up.between.above;
            below = up.between.below;
            at = up.between.at;
            others = subst (λ (db : Database). KeepsOtherTables desk_table_defs db new.now) same up.between.others;
          };
        },
      )
]

-- what holds of a stop where the disk is clean
pub survives_if : (old new : store.State) (P R : Trees → Type 0) → Survives old new P → (HasCleanDisk new → Survives old new R) → Survives old new R
survives_if old new P R always clean_one = record {
  clean = always.clean;
  shield = always.shield;
  counts = always.counts;
  limit = always.limit;
  closes = always.closes;
  crash = λ clean db left. (clean_one clean).crash clean db left;
}

-- a fault of a migration names no rule
pub names_none : (db : Database) (f : AdoptFault) → (f ≡ fault.Store) ⊎ (f ≡ fault.Memory) → NamesFirst db f
names_none db f known = elim known [
  | inl store_fault ↦ subst (NamesFirst db) (sym store_fault) tt
  | inr memory ↦ subst (NamesFirst db) (sym memory) tt
]

-- ---- the version

-- tables that aren't to be migrated, of no version above the newest, are of the newest
pub newest_reported : (db : Database) (version : ℕ) → IsUnmigrated db → IsVersion db (pos version) → version ≤ newest_schema → version ≡ newest_schema
newest_reported db version whole reported low = elim (eq-or-lt_of_le low) [
  | inl same ↦ same
  | inr under ↦ absurd (whole.newest version under reported)
]
