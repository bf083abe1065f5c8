-- What lookups keep, and what they report.
use Rattle.std.proofs.Common.{◌≡◌, Bool, Option, Some, None, Result, IfOk, IfSome, refl, sym, subst}
use Rattle.std.proofs.lemmas.Result.{IfOk-weaker}
use Rattle.sqlite.specs.Effect.{Database}
use Rattle.sqlite.specs.State as store
use Rattle.sqlite.specs.State.{HasCleanDisk}
use Rattle.plant_base.specs.{State, newest_schema, Position}
use Rattle.plant_view.specs.{tables_of, position_of}
use Rattle.plant_invariant.specs.StateInvariant.{StateInvariant}
use Rattle.plant_tables.specs.{HoldsTables}
use Rattle.plant_keyed.specs.{IsHonest, PreservesFrame, IsReported, AreEdgesOf, IsCacheOf, IsTraced, CacheStaysValid, honest_before, frame_trans, stays_trans, abstraction}
use Rattle.plant_keyed.specs.declared.lookup_cache.LookupCache.{LookupCache}

-- of a call that keeps this something holds if it holds of the valid state that was shown
pub reported_by : (old new : store.State) (was failed : Bool) (P : Type 0) → PreservesFrame old new was failed
    → (HasCleanDisk new → StateInvariant (abstraction old.now) → HoldsTables old.now (tables_of newest_schema (abstraction old.now)) → P) → IsReported old new was failed P
reported_by old new was failed P frame fact = record {
  always = frame;
  before = honest_before old new was failed frame;
  holds = λ honest. let earlier = honest_before old new was failed frame honest in fact honest.clean earlier.valid earlier.holds;
}

-- the same of what a lookup found, where it follows from the tables of a valid state
pub reported_found : {A E : Type 0} (old new : store.State) (was failed : Bool) (result : Result A E) (Q : A → Type 0) (P : A → Type 0) → PreservesFrame old new was failed
    → (HasCleanDisk new → IfOk result Q) → (StateInvariant (abstraction old.now) → HoldsTables old.now (tables_of newest_schema (abstraction old.now)) → (a : A) → Q a → P a) → IsReported old new was failed (IfOk result P)
reported_found old new was failed result Q P frame found reports =
    reported_by old new was failed (IfOk result P) frame (λ clean valid holds. IfOk-weaker result Q P (reports valid holds) (found clean))

-- what holds of what was found, where more of it follows from the tables of a valid state
pub reported_valid : {A E : Type 0} (old new : store.State) (was failed : Bool) (result : Result A E) (Q : A → Type 0) (P : A → Type 0) → IsReported old new was failed (IfOk result Q)
    → (StateInvariant (abstraction old.now) → HoldsTables old.now (tables_of newest_schema (abstraction old.now)) → (a : A) → Q a → P a) → IsReported old new was failed (IfOk result P)
reported_valid old new was failed result Q P reported reports = record {
  always = reported.always;
  before = reported.before;
  holds = λ honest. let earlier = reported.before honest in IfOk-weaker result Q P (reports earlier.valid earlier.holds) (reported.holds honest);
}

-- a weaker fact is reported as well
pub reported_weaker : (old new : store.State) (was failed : Bool) (P Q : Type 0) → (P → Q) → IsReported old new was failed P → IsReported old new was failed Q
reported_weaker old new was failed P Q weaker reported = record { always = reported.always; before = reported.before; holds = λ honest. weaker (reported.holds honest) }

-- two calls, the second of which reports it of what the first left
pub reported_then : (a b c : store.State) (f g h : Bool) (P : Database → Type 0) → PreservesFrame a b f g → IsReported b c g h (P b.now) → IsReported a c f h (P a.now)
reported_then a b c f g h P first second = record {
  always = frame_trans a b c f g h first second.always;
  before = λ honest. honest_before a b f g first (second.before honest);
  holds = λ honest.
      let earlier = second.before honest in
      subst P (first.shows earlier.clean earlier.unfailed) (second.holds honest);
}

-- what is remembered stays as true as it was where it is the same
pub stays_by : (old new : store.State) (was failed : Bool) (x y : LookupCache) → PreservesFrame old new was failed → y ≡ x → CacheStaysValid old.now new failed x y
stays_by old new was failed x y frame same honest =
    let now : new.now ≡ old.now = frame.shows honest.clean honest.unfailed in (
      λ true_of. subst (λ (db : Database). IsCacheOf (abstraction db) y) (sym now) (subst (IsCacheOf (abstraction old.now)) (sym same) true_of),
      λ true_of. subst (IsCacheOf (abstraction old.now)) same (subst (λ (db : Database). IsCacheOf (abstraction db) y) now true_of),
    )

-- the position is that of the state, if one is remembered
abbrev IsPositionOf : State → Option Position → Type 0
IsPositionOf s o = IfSome o (λ q. q ≡ position_of s)

position_on : (s : State) (p : Position) (o q : Option Position) → ((r : Position) → o ≡ Some r → q ≡ Some r) → (o ≡ None → q ≡ Some p) → p ≡ position_of s → IsPositionOf s o → IsPositionOf s q
position_on s p None q known unknown right is = subst (IsPositionOf s) (sym (unknown refl)) right
position_on s p (Some r) q known unknown right is = subst (IsPositionOf s) (sym (known r refl)) is

position_off : (s : State) (o q : Option Position) → ((r : Position) → o ≡ Some r → q ≡ Some r) → IsPositionOf s q → IsPositionOf s o
position_off s None q known is = tt
position_off s (Some r) q known is = subst (IsPositionOf s) (known r refl) is

-- it stays so where the right position is remembered, if none was before
pub position_stays : (old new : store.State) (was failed : Bool) (x y : LookupCache) (p : Position) → PreservesFrame old new was failed → y.edges ≡ x.edges → ((q : Position) → x.position ≡ Some q → y.position ≡ Some q)
    → (x.position ≡ None → y.position ≡ Some p) → (IsHonest new failed → p ≡ position_of (abstraction old.now)) → CacheStaysValid old.now new failed x y
position_stays old new was failed x y p frame same known unknown right honest =
    let s = abstraction old.now in
    let now : new.now ≡ old.now = frame.shows honest.clean honest.unfailed in (
      λ true_of. subst (λ (db : Database). IsCacheOf (abstraction db) y) (sym now) (record {
        position = position_on s p x.position y.position known unknown (right honest) true_of.position;
        edges = subst (AreEdgesOf s) (sym same) true_of.edges;
      }),
      λ true_of.
          let here : IsCacheOf s y = subst (λ (db : Database). IsCacheOf (abstraction db) y) now true_of in
          record {
            position = position_off s x.position y.position known here.position;
            edges = subst (AreEdgesOf s) same here.edges;
          },
    )

-- what is remembered once nothing was written gives the fact of the state that was shown before
pub recalled_so : (old new : store.State) (was failed : Bool) (x y : LookupCache) (fact : State → Type 0) → PreservesFrame old new was failed → CacheStaysValid old.now new failed x y
    → (IsCacheOf (abstraction new.now) y → fact (abstraction new.now)) → IsTraced old new was failed x y (fact (abstraction old.now))
recalled_so old new was failed x y fact frame stays reports = record {
  reported = record {
    always = frame;
    before = honest_before old new was failed frame;
    holds = λ honest true_of. subst (λ (db : Database). fact (abstraction db)) (frame.shows honest.clean honest.unfailed) (reports ((stays honest).0 true_of));
  };
  stays = stays;
}

-- a lookup after it that remembers nothing more reports its fact
pub traced_on : (a b c : store.State) (f g h : Bool) (x y z : LookupCache) (fact : State → Type 0) → PreservesFrame a b f g → CacheStaysValid a.now b g x y → IsReported b c g h (fact (abstraction b.now)) → z ≡ y
    → IsTraced a c f h x z (fact (abstraction a.now))
traced_on a b c f g h x y z fact first stays second same =
    let both = reported_then a b c f g h (λ (db : Database). fact (abstraction db)) first second in
    record {
      reported = record { always = both.always; before = both.before; holds = λ honest _. both.holds honest };
      stays = stays_trans a.now b c f g h x y z second.always stays (stays_by b c g h y z second.always same);
    }
