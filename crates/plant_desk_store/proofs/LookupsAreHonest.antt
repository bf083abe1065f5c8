-- Lookups over a store that represents a state are honest, and show that state.
use Rattle.std.proofs.Common.{◌≡◌, ◌∙◌, Bool, false, IsTrue, sym, subst, arith}
use Rattle.sqlite.specs.Effect.{Database}
use Rattle.sqlite.specs.State as store
use Rattle.sqlite.specs.State.{HasCleanDisk}
use Rattle.plant_base.specs.{State, newest_schema}
use Rattle.plant_view.specs.{tables_of}
use Rattle.plant_invariant.specs.StateInvariant.{StateInvariant}
use Rattle.plant_tables.specs.{HoldsTables}
use Rattle.plant_keyed.specs.{IsHonest, PreservesFrame, IsCacheOf, CacheStaysValid, LookupCache, honest_before, abstraction}
use Rattle.plant_keyed.proofs.AbstractionIsState.{abstraction_is_state}
use Rattle.plant_desk_store.specs.{ShowsState}

-- after a first lookup over an open store, which left it open, and further ones, none of which failed
pub record AreHonest (old mid new : store.State) (failed : Bool) (is : LookupCache) (s : State) : Type 0 where
  pub ends : IsHonest new failed
  pub true_of : IsCacheOf (abstraction new.now) is
  pub showed : abstraction old.now ≡ s
  pub shows : abstraction mid.now ≡ s

pub honest_at : (old mid new : store.State) (f g h : Bool) (x y z : LookupCache) (s : State) → PreservesFrame old mid f g → PreservesFrame mid new g h → CacheStaysValid old.now mid g x y → CacheStaysValid mid.now new h y z → HasCleanDisk new → h ≡ false
    → (HasCleanDisk mid → IsTrue mid.is_open) → ShowsState old s → IsCacheOf s x → AreHonest old mid new h z s
honest_at old mid new f g h x y z s first second recalls stays clean unfailed is_live at known =
    let was : HasCleanDisk mid = omega (arith, second.survives.clean, clean) in
    let g_false : g ≡ false = second.unfailed unfailed in
    let open_before = (first.kept was).was_open (is_live was) in
    let held = (at.shows open_before).holds in
    let here : abstraction old.now ≡ s = abstraction_is_state old.now s at.valid held in
    let one : mid.now ≡ old.now = first.shows was g_false in
    let two : new.now ≡ old.now = second.shows clean unfailed ∙ one in
    let shown_new : abstraction new.now ≡ s = subst (λ (db : Database). abstraction db ≡ s) (sym two) here in
    let shown_mid : abstraction mid.now ≡ s = subst (λ (db : Database). abstraction db ≡ s) (sym one) here in
    let ends : IsHonest new h = record {
      clean = clean;
      unfailed = unfailed;
      valid = subst StateInvariant (sym shown_new) at.valid;
      holds = subst (λ (u : State). HoldsTables new.now (tables_of newest_schema u)) (sym shown_new) (subst (λ (db : Database). HoldsTables db (tables_of newest_schema s)) (sym two) held);
    } in
    record {
      ends = ends;
      true_of = (stays ends).0 ((recalls (honest_before mid new g h second ends)).0 (subst (λ (u : State). IsCacheOf u x) (sym here) known));
      showed = here;
      shows = shown_mid;
    }
