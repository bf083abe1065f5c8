-- One step after the other.
use Rattle.std.proofs.Common.{◌≡◌, ◌∙◌, inl, inr, refl, sym, subst, ℕ, ◌+◌, ◌≤◌, ◌<◌, List, arith}
use Rattle.sqlite.specs.Tree.{Trees}
use Rattle.sqlite.specs.Effect.{Database}
use Rattle.sqlite.specs.State as store
use Rattle.sqlite.specs.State.{HasCleanDisk, Survives}
use Rattle.sqlite.proofs.StateLemmas.{survives_then}
use Rattle.plant_base.specs.{newest_schema, Position}
use Rattle.plant_view.specs.TableRows.{Tables}
use Rattle.plant_view.specs.{RowChange}
use Rattle.sql_tables.specs.{AreFree, KeepsOtherTables, IsSettled}
use Rattle.sql_tables.proofs.StatementSequence.{others_then}
use Rattle.plant_tables.specs.{desk_table_defs, later_table_defs, IsAtOf, FindsOf, FailureLeavesOf, HoldsTablesOf, IsOlder}
use Rattle.plant_migrate.specs.{AreEdges, migrated_once, migrated_by, IsMigratable, IsMigratedOnce, FailureLeavesWithin, FindsMigratable, IsMigratedBy}
use Rattle.plant_migrate.proofs.MigratedBySteps.{can_migrate, still_migratable, none_or_more, one_more}

pub keeps_all : (table_defs : _) (db : Database) → KeepsOtherTables table_defs db db
keeps_all table_defs db = record { kept = λ x listed foreign. (listed, refl) }

-- what is to be found in trees, as seen from a database before
pub finds_since : (version : ℕ) (first mid : Database) (trees : Trees) (t : Tables) → KeepsOtherTables desk_table_defs first mid → FindsOf version mid trees t → FindsOf version first trees t
finds_since version first mid trees t kept found = record { schema = found.schema; holds = found.holds; others = others_then desk_table_defs first mid (record { schema = found.schema; trees = trees }) kept found.others }

pub migratable_since : (version : ℕ) (first mid : Database) (trees : Trees) (t : Tables) → KeepsOtherTables desk_table_defs first mid → FindsMigratable version mid trees t → FindsMigratable version first trees t
unfolding finds_since
migratable_since version first mid trees t kept found = record { finds = finds_since version first mid trees t kept found.finds; free = found.free }

-- After so many steps the database holds what was migrated by them, and keeps the foreign tables.
pub record IsReached (version done : ℕ) (position : Position) (edges : List RowChange) (old now : Database) (t : Tables) : Type 0 where
  pub migratable : IsMigratable (version + done) now (migrated_by done version position edges t)
  pub others : KeepsOtherTables desk_table_defs old now

module _ (version : ℕ) (position : Position) (edges : List RowChange) (low : 1 ≤ version) (are : AreEdges edges) where
  abbrev after : ℕ → Tables → Tables
  after done t = migrated_by done version position edges t

  pub begins : (old : Database) (t : Tables) → IsMigratable version old t → IsReached version 0 position edges old old t
  begins old t can = let same : version ≡ version + 0 = omega arith in record { migratable = subst (λ k. IsMigratable k old t) same can; others = keeps_all desk_table_defs old }

  -- where nothing was done, the database is what it was
  pub at_first : (done : ℕ) (old mid : Database) (t : Tables) → done ≡ 0 → mid ≡ old → IsMigratable version old t → IsReached version done position edges old mid t
  at_first done old mid t none same can = subst (λ (d : Database). IsReached version done position edges old d t) (sym same) (subst (λ k. IsReached version k position edges old old t) (sym none) (begins old t can))

  pub goes_on : (done : ℕ) (old mid new : Database) (t : Tables) → IsReached version done position edges old mid t
      → HoldsTablesOf (version + done + 1) new (migrated_once (version + done) position edges (after done t)) → KeepsOtherTables desk_table_defs mid new → IsReached version (done + 1) position edges old new t
  goes_on done old mid new t was holds kept =
      let can = still_migratable (version + done) position edges mid new (after done t) (omega (arith, low)) are was.migratable holds in
      let next : version + done + 1 ≡ version + (done + 1) = omega arith in
      record {
        migratable = subst (λ u. IsMigratable (version + (done + 1)) new u) (sym (one_more version done position edges t)) (subst (λ k. IsMigratable k new (migrated_once (version + done) position edges (after done t))) next can);
        others = others_then desk_table_defs old mid new was.others kept;
      }

  -- what is so of the tables of the next version is so of those after one step more
  so_next : (P : ℕ → Tables → Type 0) (done : ℕ) (t : Tables) → P (version + done + 1) (migrated_once (version + done) position edges (after done t)) → P (version + (done + 1)) (after (done + 1) t)
  so_next P done t is =
      let next : version + done + 1 ≡ version + (done + 1) = omega arith in
      subst (λ u. P (version + (done + 1)) u) (sym (one_more version done position edges t)) (subst (λ k. P k (migrated_once (version + done) position edges (after done t))) next is)

  -- a step was cut short
  pub cut_within : (done steps : ℕ) (old mid new : store.State) (t : Tables) → done < steps → (done ≡ 0 → mid.now ≡ old.now) → IsReached version done position edges old.now mid.now t
      → FailureLeavesOf (version + done) (version + done + 1) mid new (after done t) (migrated_once (version + done) position edges (after done t)) → FailureLeavesWithin version steps (λ k. after k t) old new
  cut_within done steps old mid new t few first was cut = record {
    crash_states = cut.crash_states;
    nothing_else = λ db left. elim (cut.nothing_else db left) [
      | inl before ↦ (done, omega (arith, few), finds_since (version + done) old.now mid.now db (after done t) was.others before)
      | inr later ↦ (done + 1, omega (arith, few), so_next (λ k u. FindsOf k old.now db u) done t (finds_since (version + done + 1) old.now mid.now db _ was.others later))
    ];
    shows = λ live. let it = cut.shows live in elim (none_or_more done) [
      | inl none ↦ let same : version + done ≡ version = omega (arith, none) in
          inl (subst (λ k. IsAtOf version new (after k t)) none (subst (λ k. IsAtOf k new (after done t)) same it.0), it.1 ∙ first none)
      | inr some ↦ inr (record { done = done; some = some; few = few; at = it.0; others = subst (λ (d : Database). KeepsOtherTables desk_table_defs old.now d) (sym it.1) was.others })
    ];
  }

  -- at the first step the later tables could be made in the database that there was
  pub could_first : (done : ℕ) (old mid : store.State) → (done ≡ 0 → mid.now ≡ old.now) → (0 < done → AreFree (later_table_defs version) old.now.schema) → AreFree (later_table_defs (version + done)) mid.now.schema → AreFree (later_table_defs version) old.now.schema
  could_first done old mid first free could = elim (none_or_more done) [
    | inl none ↦ let same : version + done ≡ version = omega (arith, none) in
        subst (λ (d : Database). AreFree (later_table_defs version) d.schema) (first none) (subst (λ k. AreFree (later_table_defs k) mid.now.schema) same could)
    | inr some ↦ free some
  ]

  -- what a stop leaves of a step
  migrated_so : (done : ℕ) (old mid : store.State) (trees : Trees) → version + done < newest_schema → (done ≡ 0 → mid.now ≡ old.now) → (0 < done → AreFree (later_table_defs version) old.now.schema)
      → (0 < done → IsSettled old → (t : Tables) → IsMigratable version old.now t → IsReached version done position edges old.now mid.now t) → IsMigratedOnce (version + done) position edges mid.now trees
      → IsMigratedBy version (done + 1) position edges old trees
  migrated_so done old mid trees below first free reached made = record {
    free = could_first done old mid first free made.free;
    done = done + 1;
    some = omega arith;
    few = omega arith;
    finds = λ settled t can.
        let was : IsReached version done position edges old.now mid.now t = elim (none_or_more done) [
          | inl none ↦ at_first done old.now mid.now t none (first none) can
          | inr some ↦ reached some (settled (omega (arith, some))) t can
        ] in
        let older : IsOlder (version + done) = (omega (arith, low), below) in
        let it = made.migrates older (after done t) (can_migrate (version + done) edges mid.now (after done t) are made.free was.migratable) in
        let found : FindsOf (version + done + 1) mid.now made.new.trees (migrated_once (version + done) position edges (after done t)) = record { schema = made.new.schema; holds = it.0; others = it.1 } in
        let made_here : FindsMigratable (version + done + 1) mid.now trees (migrated_once (version + done) position edges (after done t)) =
        subst (λ (d : Trees). FindsMigratable (version + done + 1) mid.now d _) (sym made.same) (record { finds = found; free = it.2 }) in
        so_next (λ k u. FindsMigratable k old.now trees u) done t (migratable_since (version + done + 1) old.now mid.now trees _ was.others made_here);
  }

  pub weaker : (few many : ℕ) (old : store.State) (trees : Trees) → few ≤ many → IsMigratedBy version few position edges old trees → IsMigratedBy version many position edges old trees
  weaker few many old trees low made = record { free = made.free; done = made.done; some = made.some; few = omega (arith, low, made.few); finds = made.finds }

  pub survives_step : (done : ℕ) (old mid new : store.State) → version + done < newest_schema → (done ≡ 0 → mid.now ≡ old.now) → (0 < done → AreFree (later_table_defs version) old.now.schema)
      → (HasCleanDisk mid → 0 < done → IsSettled old → (t : Tables) → IsMigratable version old.now t → IsReached version done position edges old.now mid.now t)
      → Survives old mid (IsMigratedBy version done position edges old) → Survives mid new (IsMigratedOnce (version + done) position edges mid.now) → Survives old new (IsMigratedBy version (done + 1) position edges old)
  survives_step done old mid new below first free reached so_far step =
      survives_then old mid new _ _ _ (λ clean trees made. weaker done (done + 1) old trees (omega arith) made)
      (λ clean trees made. migrated_so done old mid trees below first free (reached (omega (arith, clean, step.clean))) made) so_far step
