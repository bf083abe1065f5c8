-- What lookups keep, one after another: the laws of a view, which its impl names.
use Rattle.std.specs.Prelude.{◌≡◌, Bool, refl}
use Rattle.std.proofs.Common.{◌∙◌, subst, inl, arith}
use Rattle.sqlite.specs.Effect.{Database}
use Rattle.sqlite.specs.State as store
use Rattle.sqlite.specs.State.{HasCleanDisk}
use Rattle.sqlite.proofs.StateLemmas.{survives_then}
use Rattle.plant_base.specs.{newest_schema}
use Rattle.plant_view.specs.{tables_of}
use Rattle.plant_invariant.specs.StateInvariant.{StateInvariant}
use Rattle.plant_tables.specs.{HoldsTables}
use Rattle.plant_keyed.specs.LookupOutcomes.{IsHonest, PreservesFrame}
use Rattle.plant_keyed.specs.Caching.{CacheStaysValid}
use Rattle.plant_keyed.specs.StateShown.{abstraction}
use Rattle.plant_keyed.specs.declared.lookup_cache.LookupCache.{LookupCache}

pub frame_refl : (c : store.State) (failed : Bool) → PreservesFrame c c failed failed
frame_refl c failed = record {
  kept = λ clean. record { was_open = λ live. live; now = λ live. refl; committed = λ live. refl };
  mode = λ rest. rest;
  survives = record { clean = omega arith; shield = λ h. h; counts = omega arith; limit = refl; closes = λ clean live. inl live; crash = λ clean db left. inl left };
  unfailed = λ h. h;
  shows = λ clean h. refl;
  live = λ clean h live. live;
}

pub frame_trans : (a b c : store.State) (f g h : Bool) → PreservesFrame a b f g → PreservesFrame b c g h → PreservesFrame a c f h
frame_trans a b c f g h p q =
    let earlier : HasCleanDisk c → HasCleanDisk b = λ clean. omega (arith, q.survives.clean, clean) in
    record {
      kept = λ clean.
          let first = p.kept (earlier clean) in
          let second = q.kept clean in
          record { was_open = λ live. first.was_open (second.was_open live); now = λ live. second.now live ∙ first.now (second.was_open live); committed = λ live. second.committed live ∙ first.committed (second.was_open live) };
      mode = λ rest. q.mode (p.mode rest);
      survives = survives_then a b c _ _ _ (λ _ db none. none) (λ _ db none. none) p.survives q.survives;
      unfailed = λ e. p.unfailed (q.unfailed e);
      shows = λ clean e. q.shows clean e ∙ p.shows (earlier clean) (q.unfailed e);
      live = λ clean e live. q.live clean e (p.live (earlier clean) (q.unfailed e) live);
    }

-- what is honest after a call was honest before it
pub honest_before : (old new : store.State) (was failed : Bool) → PreservesFrame old new was failed → IsHonest new failed → IsHonest old was
honest_before old new was failed frame honest =
    let same : new.now ≡ old.now = frame.shows honest.clean honest.unfailed in
    record {
      clean = omega (arith, frame.survives.clean, honest.clean);
      unfailed = frame.unfailed honest.unfailed;
      valid = subst (λ (db : Database). StateInvariant (abstraction db)) same honest.valid;
      holds = subst (λ (db : Database). HoldsTables db (tables_of newest_schema (abstraction db))) same honest.holds;
    }

-- ---- what is remembered

pub stays_refl : (c : store.State) (failed : Bool) (is : LookupCache) → CacheStaysValid c.now c failed is is
stays_refl c failed is honest = (λ h. h, λ h. h)

pub stays_trans : (a : Database) (b c : store.State) (f g h : Bool) (x y z : LookupCache) → PreservesFrame b c g h → CacheStaysValid a b g x y → CacheStaysValid b.now c h y z → CacheStaysValid a c h x z
stays_trans a b c f g h x y z frame first second honest =
    let one = first (honest_before b c g h frame honest) in
    let two = second honest in
    (λ t. two.0 (one.0 t), λ t. one.1 (two.1 t))
