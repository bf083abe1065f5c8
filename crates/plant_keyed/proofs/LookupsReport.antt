-- What lookups report of the view that they are of.
use Rattle.std.proofs.Common.{◌≡◌, Result, IfOk}
use Rattle.sqlite.specs.Held.{state}
use Rattle.sqlite.specs.State as store
use Rattle.sqlite.specs.State.{HasCleanDisk}
use Rattle.sqlite_trees.specs.declared.store.Store.{Ghosts}
use Rattle.plant_base.specs.{newest_schema}
use Rattle.plant_trace.specs.HoldsIfHonest.{HoldsIfHonest}
use Rattle.plant_view.specs.{tables_of}
use Rattle.plant_invariant.specs.StateInvariant.{StateInvariant}
use Rattle.plant_tables.specs.{HoldsTables}
use Rattle.plant_keyed.specs.{IsHonest, PreservesFrame, IsReported, IsCacheOf, IsTraced, CacheStaysValid, abstraction}
use Rattle.plant_keyed.specs.declared.keyed.Keyed.{Keyed}
use Rattle.plant_keyed.proofs.LookupsKeep.{stays_by, reported_by, reported_found}

module _ {S : Type 0} (g : Ghosts S) where
  abbrev store_of : Keyed S → store.State
  store_of k = state g k.conn.now

  -- what a call of a view reports, where the view is over a connection
  abbrev Reports : Keyed S → Keyed S → Type 0 → Type 0
  Reports = HoldsIfHonest (λ k. IsHonest (store_of k) k.has_failed × IsCacheOf (abstraction (store_of k).now) k.cache.now)
      (λ k l. (store_of l).now ≡ (store_of k).now)
      (λ k l. (l.conn.ghost_name ≡ k.conn.ghost_name) × PreservesFrame (store_of k) (store_of l) k.has_failed l.has_failed × CacheStaysValid (store_of k).now (store_of l) l.has_failed k.cache.now l.cache.now)

  module _ {old new : Keyed S} (same_reference : new.conn.ghost_name ≡ old.conn.ghost_name) where
    -- what is reported over the connection is reported of the view, where no more is remembered
    pub view_reported : {fact : Type 0} → IsReported (store_of old) (store_of new) old.has_failed new.has_failed fact → new.cache.now ≡ old.cache.now → Reports old new fact
    view_reported reported cached =
        let stays = stays_by _ _ _ _ _ _ reported.always cached in
        record { always = (same_reference, reported.always, stays); before = λ h. (reported.before h.0, (stays h.0).1 h.1); same = λ h. reported.always.shows h.0.clean h.0.unfailed; holds = λ h. reported.holds h.0 }

    -- what is known of a valid state and its tables
    pub valid_reported : {fact : Type 0} → PreservesFrame (store_of old) (store_of new) old.has_failed new.has_failed → new.cache.now ≡ old.cache.now
        → (HasCleanDisk (store_of new) → StateInvariant (abstraction (store_of old).now) → HoldsTables (store_of old).now (tables_of newest_schema (abstraction (store_of old).now)) → fact) → Reports old new fact
    valid_reported frame cached reports = view_reported (reported_by _ _ _ _ _ frame reports) cached

    -- what was found, as it follows from the tables of a valid state
    pub found_reported : {A E : Type 0} (result : Result A E) {Q P : A → Type 0} → PreservesFrame (store_of old) (store_of new) old.has_failed new.has_failed → new.cache.now ≡ old.cache.now
        → (HasCleanDisk (store_of new) → IfOk result Q)
        → (StateInvariant (abstraction (store_of old).now) → HoldsTables (store_of old).now (tables_of newest_schema (abstraction (store_of old).now)) → (a : A) → Q a → P a) → Reports old new (IfOk result P)
    found_reported result frame cached found reports = view_reported (reported_found _ _ _ _ result _ _ frame found reports) cached

    -- the nodes next to one, where edges may be remembered
    pub traced_reported : {fact : Type 0} → IsTraced (store_of old) (store_of new) old.has_failed new.has_failed old.cache.now new.cache.now fact → Reports old new fact
    traced_reported traced =
        let reported = traced.reported in
        record {
          always = (same_reference, reported.always, traced.stays);
          before = λ h. (reported.before h.0, (traced.stays h.0).1 h.1);
          same = λ h. reported.always.shows h.0.clean h.0.unfailed;
          holds = λ h. reported.holds h.0 ((traced.stays h.0).1 h.1);
        }
