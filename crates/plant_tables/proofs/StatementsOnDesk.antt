-- What a statement makes of the desk's tables.
use Rattle.std.proofs.Common.{◌≡◌, refl, sym, ap, ◌∙◌, subst, ℕ, List, [], ◌∷◌, ◌++◌, map, take, drop, true, Some, Result, OnOk, slice_get, Bor}
use Rattle.std.proofs.lemmas.List.{take-map, drop-map}
use Rattle.std.proofs.lemmas.Result.{on_ok_weaker}
use Rattle.sqlite.specs.Order.{Row}
use Rattle.sqlite.specs.State.{State}
use Rattle.sql_tables.specs.{CreateIndexStatement, StoreFault, TableDef, fits_columns, IsPutStatement, IsDeleteStatement, Upserts, DeletesRows, AreCreateStatements, CreatesTables, KeepsNamesFree, KeepsFurtherNamesFree, Founds, changed_at, taken_at, AreCreateIndexStatements, MakesIndexes, AddsIndexes, Contents}
use Rattle.sql_tables.specs.Moves.{Moves}
use Rattle.plant_base.specs.{newest_schema}
use Rattle.plant_view.specs.{RowChange}
use Rattle.plant_tables.specs.{rows_changed, all_rows_changed, AreOfSchema, indexes_of, desk_indexes, fourth_indexes}
use Rattle.plant_tables.specs.DeskTableDefs.{desk_table_defs, table_defs_of, added_table_defs}
use Rattle.plant_tables.proofs.DeskStatements.{apart_of, prefix_made, index_texts, indexed_of, indexes_of_fourth, prefix_indexed, behind_indexed}
use Rattle.plant_tables.proofs.TableTexts.{create_texts}
use Rattle.plant_tables.proofs.TextsComputed.{AreAdded}
use Rattle.plant_tables.proofs.TablesInSchemas.{of_newest}

pub put_moved : {X : Type 0} (schema place : ℕ) (table_def : TableDef) (text : List ℕ) (row : Row) → slice_get (table_defs_of schema) place ≡ Some table_def → IsPutStatement text table_def → fits_columns table_def.columns row ≡ true
    → (old new : State) (r : Result X StoreFault) → OnOk r (Upserts text row old new) → OnOk r (Moves (table_defs_of schema) old new (changed_at place table_def row))
put_moved schema place table_def text row is says fit old new r = on_ok_weaker r (λ put. put (table_defs_of schema) place table_def (apart_of schema) is says fit)

pub take_moved : {X : Type 0} (schema place : ℕ) (table_def : TableDef) (text key : List ℕ) (values : Row) → slice_get (table_defs_of schema) place ≡ Some table_def → IsDeleteStatement text table_def key
    → (old new : State) (r : Result X StoreFault) → OnOk r (DeletesRows text values old new) → OnOk r (Moves (table_defs_of schema) old new (taken_at place key values))
take_moved schema place table_def text key values is says old new r = on_ok_weaker r (λ taken. taken (table_defs_of schema) place table_def key (apart_of schema) is says)

-- what the texts made that were run for a schema
pub added_founded : {X : Type 0} (schema known : ℕ) (texts : List (List ℕ)) → schema ≡ known → AreAdded known texts
    → (old new : State) (r : Result X StoreFault) → OnOk r (CreatesTables texts old new) → OnOk r (Founds (added_table_defs schema) old new)
added_founded schema known texts is added old new r = on_ok_weaker r (λ made. subst (λ n. Founds (added_table_defs n) old new) (sym is) (made (added_table_defs known) added.0 added.1))

pub added_names_kept_free : {X : Type 0} (schema known : ℕ) (texts : List (List ℕ)) → schema ≡ known → AreAdded known texts
    → (old new : State) (r : Result X StoreFault) → OnOk r (KeepsNamesFree texts old new) → OnOk r (KeepsFurtherNamesFree (added_table_defs schema) old.now new.now)
added_names_kept_free schema known texts is added old new r = on_ok_weaker r (λ adds_no_crash_state. subst (λ n. KeepsFurtherNamesFree (added_table_defs n) old.now new.now) (sym is) (adds_no_crash_state (added_table_defs known) added.0 added.1))

-- the texts in front of some are those in front of their texts
texts_prefix : {X : Type 0} (text : X → List ℕ) (n : ℕ) (all prefix : List X) → prefix ≡ take n all → map text prefix ≡ take n (map text all)
texts_prefix text n all prefix is = ap (map text) is ∙ sym (take-map text n all)

-- and those after them
texts_behind : {X : Type 0} (text : X → List ℕ) (n : ℕ) (all behind : List X) → behind ≡ drop n all → map text behind ≡ drop n (map text all)
texts_behind text n all behind is = ap (map text) is ∙ sym (drop-map text n all)

-- the text of an index
abbrev pub sql_of : CreateIndexStatement → List ℕ
sql_of index = index.sql.now

-- As many texts as a schema has indexes were run, and made them.
pub indexed_so : {X : Type 0} (schema n : ℕ) → take n desk_indexes ≡ indexes_of schema → (all prefix : List CreateIndexStatement) → prefix ≡ take n all → map sql_of all ≡ index_texts
    → (old new : State) (r : Result X StoreFault) → OnOk r (MakesIndexes (map sql_of prefix) old new) → OnOk r (AddsIndexes (table_defs_of schema) (indexes_of schema) old new)
indexed_so schema n own all prefix is texts old new r = on_ok_weaker r (λ made.
    let own_texts : map sql_of prefix ≡ take n index_texts = texts_prefix sql_of n all prefix is ∙ ap (take n) texts in
    made (table_defs_of schema) (indexes_of schema) (indexed_of schema) (subst (λ ts. AreCreateIndexStatements ts (indexes_of schema)) (sym own_texts) (subst (AreCreateIndexStatements (take n index_texts)) own (prefix_indexed n))))

-- The texts after those of the second schema were run, and made what the fourth adds.
pub indexed_later : {X : Type 0} (n : ℕ) → drop n desk_indexes ≡ fourth_indexes → (all behind : List CreateIndexStatement) → behind ≡ drop n all → map sql_of all ≡ index_texts
    → (old new : State) (r : Result X StoreFault) → OnOk r (MakesIndexes (map sql_of behind) old new) → OnOk r (AddsIndexes (table_defs_of 4) fourth_indexes old new)
indexed_later n own all behind is texts old new r = on_ok_weaker r (λ made.
    let own_texts : map sql_of behind ≡ drop n index_texts = texts_behind sql_of n all behind is ∙ ap (drop n) texts in
    made (table_defs_of 4) fourth_indexes indexes_of_fourth (subst (λ ts. AreCreateIndexStatements ts fourth_indexes) (sym own_texts) (subst (AreCreateIndexStatements (drop n index_texts)) own (behind_indexed n))))

-- As many texts as a schema has tables were run, and made them.
pub founded_so : (schema n : ℕ) → take n desk_table_defs ≡ table_defs_of schema → (all prefix : List (Bor (List ℕ))) → prefix ≡ take n all → map (λ text. text.now) all ≡ create_texts
    → (old new : State) → CreatesTables (map (λ text. text.now) prefix) old new → Founds (table_defs_of schema) old new
founded_so schema n own all prefix is texts old new made =
    let own_texts : map (λ text. text.now) prefix ≡ take n create_texts = texts_prefix (λ (text : Bor (List ℕ)). text.now) n all prefix is ∙ ap (take n) texts in
    made (table_defs_of schema) (apart_of schema) (subst (λ ts. AreCreateStatements ts (table_defs_of schema)) (sym own_texts) (subst (AreCreateStatements (take n create_texts)) own (prefix_made n)))

pub one_more_change : (cs : List RowChange) (c : RowChange) (t : Contents) → rows_changed c (all_rows_changed cs t) ≡ all_rows_changed (cs ++ c ∷ []) t
one_more_change [] c t = refl
one_more_change (d ∷ cs) c t = one_more_change cs c (rows_changed d t)

pub all_of_newest : (cs : List RowChange) → AreOfSchema newest_schema cs
all_of_newest [] = tt
all_of_newest (c ∷ cs) = (of_newest c, all_of_newest cs)
