-- What the fixed texts of the desk say.
use Rattle.std.proofs.Common.{◌≡◌, refl, subst₂, slice_get, Some, Bool, inl, inr, ℕ, ◌+◌, zero, suc, true, false, List, [], ◌∷◌, ◌++◌, take, drop}
use Rattle.sqlite_rules.proofs.ListLemmas.{has_got}
use Rattle.sqlite_resolve.specs.Compile.{first}
use Rattle.sqlite_value.specs.Keys.{first_key}
use Rattle.sql_tables.specs.{IsPutStatement, IsUpsertStatement, IsDeleteStatement, parse_or, TableDef, IndexDef, AreCreateIndexStatements, AreOf, AreApart, AreCreateStatements}
use Rattle.sql_tables.proofs.ComputedTexts.{takes_one, takes_two}
use Rattle.plant_tables.specs.DeskTableDefs.{desk_table_defs, first_table_defs, table_defs_of, later_table_defs, added_table_defs, definition_table, recipe_table, job_table, batch_table, batch_event_table, lot_table, sublot_table, movement_table, hold_table, edge_table, receipt_table, recall_table, mark_table}
use Rattle.sqlite_tied.specs.Compute.{everything}
use Rattle.plant_tables.specs.{OnlyAdds, second_indexes, fourth_indexes, indexes_of, desk_indexes}
use Rattle.plant_tables.specs.declared.table_defs.TheConstants.{DELETE_HOLD, DELETE_MARKS, CREATE_BATCH_EVENT_BY_BATCH, CREATE_MOVEMENT_BY_LOT, CREATE_MOVEMENT_BY_BATCH, CREATE_EDGE_BY_END, CREATE_MARK_BY_NODE, CREATE_DEFINITION_BY_CLASS, CREATE_JOB_BY_STATE, CREATE_BATCH_BY_CLOSED, CREATE_LOT_BY_DEF, CREATE_RECALL_BY_STATE, CREATE_RECIPE_BY_STATE, CREATE_MOVEMENT_BY_LOT2, CREATE_JOB_BY_DUE, CREATE_RECEIPT_BY_SEQ, CREATE_SUBLOT_BY_STOCK}
use Rattle.plant_tables.proofs.TextsComputed.{AllTexts, CreatesTable, CreatesIndex, creates_index, prefix, behind, each_makes}
use Rattle.plant_tables.proofs.TableTexts.{create_texts, tables_made, put_texts, texts_put}
use Rattle.plant_tables.proofs.EachSchema.{by_schema}

-- ---- the texts that make the tables

-- so many of the texts make as many of the tables
pub prefix_made : (n : ℕ) → AreCreateStatements (take n create_texts) (take n desk_table_defs)
prefix_made n = each_makes (take n create_texts) (take n desk_table_defs) (prefix CreatesTable n create_texts desk_table_defs tables_made)

-- ---- those that put a row, or take rows away

-- a text that only adds, or else puts, puts a row
pub puts_either : {text : List ℕ} {table_def : TableDef} (e : Bool) → (e ≡ true → OnlyAdds text table_def) → (e ≡ false → IsUpsertStatement text table_def) → IsPutStatement text table_def
puts_either true added updated = inl (added refl)
puts_either false added updated = inr (updated refl)

at_place : {X : Type 0} (so : List ℕ → X → Type 0) (texts : List (List ℕ)) (xs : List X) → AllTexts so texts xs → (place : ℕ) (text : List ℕ) (x : X) → slice_get texts place ≡ Some text → slice_get xs place ≡ Some x → so text x
at_place so [] xs all place text x is here = absurd cc
at_place so (t ∷ texts) [] all place text x is here = absurd cc
at_place so (t ∷ texts) (y ∷ xs) all zero text x is here = let same : t ≡ text = cc in let one : y ≡ x = cc in subst₂ so same one all.0
at_place so (t ∷ texts) (y ∷ xs) all (suc place) text x is here = at_place so texts xs all.1 place text x is here

-- the text of this index puts a row of its table
pub puts_at : (place : ℕ) {text : List ℕ} {table_def : TableDef} → slice_get put_texts place ≡ Some text → slice_get desk_table_defs place ≡ Some table_def → IsPutStatement text table_def
puts_at place {text} {table_def} is here = at_place IsPutStatement put_texts desk_table_defs texts_put place text table_def is here

pub takes_hold : IsDeleteStatement DELETE_HOLD.now hold_table (1 ∷ 2 ∷ [])
unfolding everything first_key
takes_hold = takes_two DELETE_HOLD.now hold_table (parse_or (first DELETE_HOLD.now)) 1 2 refl refl refl (record { above = refl; found = λ tree. (refl, refl, (refl, refl, tt)); tested = λ tree. refl })
    (λ tree. (record { column_index = refl; strict = refl; named = refl }, record { column_index = refl; strict = refl; named = refl }))

pub takes_marks : IsDeleteStatement DELETE_MARKS.now mark_table (1 ∷ [])
unfolding everything first_key
takes_marks = takes_one DELETE_MARKS.now mark_table (parse_or (first DELETE_MARKS.now)) 1 refl refl refl (record { above = refl; found = λ tree. (refl, refl, tt); tested = λ tree. refl })
    (λ tree. record { column_index = refl; strict = refl; named = refl })

-- ---- the tables of each schema

pub apart_of : (schema : ℕ) → AreApart (table_defs_of schema)
unfolding everything
apart_of = by_schema (λ s. AreApart (table_defs_of s)) (record { apart = λ tree. refl }) (record { apart = λ tree. refl }) (record { apart = λ tree. refl }) (record { apart = λ tree. refl }) (λ s fourth. rw fourth (record { apart = λ tree. refl }))

-- ---- the indexes

abbrev pub index_texts : List (List ℕ)
index_texts = CREATE_BATCH_EVENT_BY_BATCH.now ∷ CREATE_MOVEMENT_BY_LOT.now ∷ CREATE_MOVEMENT_BY_BATCH.now ∷ CREATE_EDGE_BY_END.now ∷ CREATE_MARK_BY_NODE.now ∷ CREATE_DEFINITION_BY_CLASS.now ∷ CREATE_JOB_BY_STATE.now ∷ CREATE_BATCH_BY_CLOSED.now ∷ CREATE_LOT_BY_DEF.now ∷ CREATE_RECALL_BY_STATE.now ∷ CREATE_RECIPE_BY_STATE.now ∷ CREATE_MOVEMENT_BY_LOT2.now ∷ CREATE_JOB_BY_DUE.now ∷ CREATE_RECEIPT_BY_SEQ.now ∷ CREATE_SUBLOT_BY_STOCK.now ∷ []

-- and such texts make the indexes
each_indexes : (texts : List (List ℕ)) (indexes : List IndexDef) → AllTexts CreatesIndex texts indexes → AreCreateIndexStatements texts indexes
each_indexes [] [] all = tt
each_indexes [] (index ∷ indexes) all = all
each_indexes (text ∷ texts) [] all = all
each_indexes (text ∷ texts) (index ∷ indexes) all = (creates_index text index all.0, each_indexes texts indexes all.1)

indexes_made : AllTexts CreatesIndex index_texts desk_indexes
unfolding everything
indexes_made = ((refl, λ tree. refl), ((refl, λ tree. refl), ((refl, λ tree. refl), ((refl, λ tree. refl), ((refl, λ tree. refl), ((refl, λ tree. refl), ((refl, λ tree. refl), ((refl, λ tree. refl), ((refl, λ tree. refl), ((refl, λ tree. refl), ((refl, λ tree. refl), ((refl, λ tree. refl), ((refl, λ tree. refl), ((refl, λ tree. refl), ((refl, λ tree. refl), tt)))))))))))))))

pub all_indexed : AreCreateIndexStatements index_texts desk_indexes
all_indexed = each_indexes index_texts desk_indexes indexes_made

pub prefix_indexed : (n : ℕ) → AreCreateIndexStatements (take n index_texts) (take n desk_indexes)
prefix_indexed n = each_indexes (take n index_texts) (take n desk_indexes) (prefix CreatesIndex n index_texts desk_indexes indexes_made)

pub behind_indexed : (n : ℕ) → AreCreateIndexStatements (drop n index_texts) (drop n desk_indexes)
behind_indexed n = each_indexes (drop n index_texts) (drop n desk_indexes) (behind CreatesIndex n index_texts desk_indexes indexes_made)

-- tables among which are those that the second indexes are of
second_of : (more : List TableDef) → AreOf second_indexes (first_table_defs ++ edge_table ∷ more)
second_of more =
    let table_defs = first_table_defs ++ edge_table ∷ more in
    (has_got table_defs 8 batch_event_table refl, (has_got table_defs 11 movement_table refl, (has_got table_defs 11 movement_table refl, (has_got table_defs 13 edge_table refl, tt))))

pub indexes_of_fourth : AreOf fourth_indexes (table_defs_of 4)
indexes_of_fourth =
    let table_defs = table_defs_of 4 in
    (has_got table_defs 16 mark_table refl, (has_got table_defs 2 definition_table refl, (has_got table_defs 5 job_table refl, (has_got table_defs 6 batch_table refl, (has_got table_defs 9 lot_table refl, (has_got table_defs 15 recall_table refl, (has_got table_defs 3 recipe_table refl, (has_got table_defs 11 movement_table refl, (has_got table_defs 5 job_table refl, (has_got table_defs 14 receipt_table refl, (has_got table_defs 10 sublot_table refl, tt)))))))))))

pub indexes_of_desk : AreOf desk_indexes desk_table_defs
indexes_of_desk = let second = second_of (later_table_defs 2) in (second.0, (second.1.0, (second.1.1.0, (second.1.1.1.0, indexes_of_fourth))))

pub indexed_of : (schema : ℕ) → AreOf (indexes_of schema) (table_defs_of schema)
indexed_of = by_schema (λ s. AreOf (indexes_of s) (table_defs_of s)) tt tt (second_of []) (second_of (added_table_defs 3)) (λ s fourth. rw fourth indexes_of_desk)
