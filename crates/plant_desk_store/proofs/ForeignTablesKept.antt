-- Foreign tables, as a store shows them and as a stop leaves them.
use Rattle.std.proofs.Common.{◌≡◌, ◌∙◌, Bool, false, Result, Ok, Err, inl, inr, sym, ap, subst, IsTrue}
use Rattle.sqlite.specs.Tree.{Trees}
use Rattle.sqlite.specs.Schema.{Schema}
use Rattle.sqlite.specs.Effect.{Database, IsDatabase}
use Rattle.sqlite.specs.State as store
use Rattle.sqlite.specs.State.{HasCleanDisk, Survives}
use Rattle.sqlite_catalog.specs.Listing.{IsSound}
use Rattle.plant_view.specs.TableRows.{Tables}
use Rattle.sql_tables.specs.{KeepsOtherTables, Keeps, IsSettled}
use Rattle.sql_tables.proofs.StatementSequence.{others_then}
use Rattle.plant_tables.specs.{desk_table_defs, IsAt, FindsTables, FailureLeaves}
use Rattle.plant_base.specs.{Envelope, State}
use Rattle.plant_keeper.specs.{shuts}
use Rattle.plant_questions.specs.{DeskFault, Reply}
use Rattle.plant_questions.specs.declared.reply.DeskFault.TheVariants.{Store, Memory, Shut}
use Rattle.plant_rules.specs.{step}
use Rattle.plant_desk_store.specs.{KeepsForeignTables, IsDurablyAt, HasForeignTables, Executed}
use Rattle.plant_desk_store.proofs.SchemaIsUnique.{one_schema}
use Rattle.plant_desk_store.proofs.ReadingKeepsState.{left_still}

-- whatever schema the trees list, it is this one
in_schema : (before : Database) (trees : Trees) (own schema : Schema) → IsSound own trees → IsSound schema trees
    → KeepsOtherTables desk_table_defs before (record { schema = own; trees = trees }) → KeepsOtherTables desk_table_defs before (record { schema = schema; trees = trees })
in_schema before trees own schema p q kept = subst (λ (s : Schema). KeepsOtherTables desk_table_defs before (record { schema = s; trees = trees })) (one_schema own schema trees p q) kept

-- a call that only reads
pub others_kept : (before : Database) (old new : store.State) → KeepsForeignTables before old → HasCleanDisk new → Keeps old new → Survives old new (λ _. ⊥) → KeepsForeignTables before new
others_kept before old new others clean kept survives = record {
  shows = λ is_live. subst (KeepsOtherTables desk_table_defs before) (sym (kept.now is_live)) (others.shows (kept.was_open is_live));
  crash_states = λ trees schema left sound. others.crash_states trees schema (left_still old new survives clean trees left) sound;
}

-- a store that shows what a stop leaves
pub others_settled : (before : Database) (new : store.State) → IsSettled new → IsDatabase new.now → KeepsOtherTables desk_table_defs before new.now → KeepsForeignTables before new
others_settled before new settled sound kept = record {
  shows = λ is_live. kept;
  crash_states = λ trees schema left lists.
      let same : new.now.trees ≡ trees = ap (λ (d : Database). d.trees) settled.shows ∙ sym (settled.nothing_else trees left) in
      in_schema before trees new.now.schema schema (subst (IsSound new.now.schema) same sound) lists
      (subst (λ (found : Trees). KeepsOtherTables desk_table_defs before (record { schema = new.now.schema; trees = found })) same kept);
}

pub others_at : (before : Database) (new : store.State) (t : Tables) → IsAt new t → KeepsOtherTables desk_table_defs before new.now → KeepsForeignTables before new
others_at before new t at kept = others_settled before new at.settled at.holds.sound kept

-- a commit
pub others_committed : (before : Database) (old new : store.State) (t : Tables) → KeepsForeignTables before old → IsTrue old.is_open → IsAt new t → KeepsOtherTables desk_table_defs old.now new.now → KeepsForeignTables before new
others_committed before old new t others is_live at kept = others_at before new t at (others_then desk_table_defs before old.now new.now (others.shows is_live) kept)

-- a commit that was cut short
pub others_cut : (before : Database) (old new : store.State) (t next : Tables) → KeepsForeignTables before old → IsTrue old.is_open → FailureLeaves old new t next → KeepsForeignTables before new
others_cut before old new t next others is_live cut = record {
  shows = λ unchanged. subst (KeepsOtherTables desk_table_defs before) (sym (cut.shows unchanged).1) (others.shows is_live);
  crash_states = λ trees schema left sound. elim (cut.nothing_else trees left) [
    | inl finds ↦ found trees schema sound t finds
    | inr finds ↦ found trees schema sound next finds
  ];
}
  where
    found : (trees : Trees) (schema : Schema) → IsSound schema trees → (u : Tables) → FindsTables old.now trees u → KeepsOtherTables desk_table_defs before (record { schema = schema; trees = trees })
    found trees schema sound u finds =
        in_schema before trees finds.schema schema finds.holds.sound sound (others_then desk_table_defs before old.now (record { schema = finds.schema; trees = trees }) (others.shows is_live) finds.others)

-- ---- a desk

pub open_foreign_tables : (before : Database) (new : store.State) (shut : Bool) (s : State) → IsDurablyAt new s → KeepsForeignTables before new → HasForeignTables new shut before
open_foreign_tables before new shut s at others = record { state = s; represents = (at.represents, λ unchanged. at.crash_states); others = others }

pub executed_foreign_tables : (before : Database) (new : store.State) (s : State) (e : Envelope) (answer : Result Reply DeskFault) → Executed s new e answer → KeepsForeignTables before new → HasForeignTables new (shuts answer) before
executed_foreign_tables before new s e (Ok r) done others = open_foreign_tables before new false (step s e) done.1 others
executed_foreign_tables before new s e (Err Store) done others = record { state = s; represents = (done.0, λ unchanged. absurd (cc)); others = others }
executed_foreign_tables before new s e (Err Memory) done others = open_foreign_tables before new false s done others
executed_foreign_tables before new s e (Err Shut) done others = absurd done
