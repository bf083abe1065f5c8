-- What a statement that puts a row makes of the definition's table and of the others.
use Rattle.std.proofs.Common.{◌≡◌, ◌≢◌, ◌⊎◌, inl, inr, ℕ, ◌/◌, ℤ, List, [], ◌∷◌, map, filter, drop, length, Bool, true, false, not, Option, Some, None, Ok, Err, Result, refl, sym, ap, subst, true≢false, ◌∙◌, append-nil, ltb, ◌++◌, ◌+◌, is_eq, IsPermutation}
use Rattle.std.proofs.lemmas.Bool.{and_parts, or_cases, not-true}
use Rattle.std.proofs.lemmas.Cmp.{tied_itself}
use Rattle.std.specs.List.{list_any, list_all}
use Rattle.std.proofs.lemmas.List.Sorted.{IsPermutation-trans, IsPermutation-cons, IsPermutation-map}
use Rattle.sqlite.specs.declared.types.Value.{Value}
use Rattle.sqlite.specs.declared.types.Value.TheVariants.{Null, Int}
use Rattle.sqlite.specs.Order.{Row, column, value_cmp}
use Rattle.sqlite_value.proofs.OrderLemmas.{value_cmp_total}
use Rattle.sqlite.specs.Term.{Term, col}
use Rattle.sqlite_sql.specs.Term.{eval_all}
use Rattle.sqlite_draft.specs.Query.{query_of}
use Rattle.sqlite_exec.proofs.RunLemmas.{answer_alone}
use Rattle.sqlite_schema.specs.declared.command.Upsert.{Upsert}
use Rattle.sqlite.specs.Tree.{Trees}
use Rattle.sqlite.specs.Table.{Table}
use Rattle.sqlite.specs.Schema.{Schema}
use Rattle.sqlite.specs.Source.TheVariants.{Values}
use Rattle.sqlite.specs.Edit.{Edit, edit_of, next_rowid, with_rowid, Applies}
use Rattle.sqlite.specs.Cast.{cast, cast_row}
use Rattle.sqlite.specs.Kind.TheVariants as kind
use Rattle.sqlite_schema.specs.Rules.{agree}
use Rattle.sqlite_value.specs.Keys.{plain}
use Rattle.sqlite_trees.proofs.ListLemmas.{filter-map, IsPermutation-filter}
use Rattle.sqlite.specs.Rowids.TheVariants.{Chosen, Given}
use Rattle.sqlite.specs.Rows.{Task, Written, Inserts, InsertsOr, TriesEach, Tries, Judged, Upserts, Clears, Meets, Updates, Puts, count_of, nothing, shown}
use Rattle.sqlite_rules.specs.Action.{Writes, works}
use Rattle.sqlite_rules.specs.Edit.{taken_by, without_all, is_taken, id_in}
use Rattle.sqlite_trees.specs.View.{IsShaped}
use Rattle.sqlite_trees.specs.declared.store.Shape.TheVariants as shape
use Rattle.sqlite_trees.proofs.TreeLemmas.{IsShaped-put_row, IsShaped-filter}
use Rattle.sqlite_catalog.specs.Listing.{IsGuarded}
use Rattle.sqlite.specs.Effect.{value_rows}
use Rattle.sqlite_schema.specs.declared.command.Conflict.TheVariants.{Abort}
use Rattle.sqlite_schema.specs.declared.schema.Keys.{Keys}
use Rattle.sqlite_rules.specs.declared.error.Refusal.{Refusal}
use Rattle.sqlite_rules.specs.Lists.{Has}
use Rattle.sqlite_rules.specs.Keys.{AreConflicts}
use Rattle.sqlite_rules.specs.Calls.{ids_of}
use Rattle.sqlite_trees.specs.Tree.{put_row, rowid, has_rowid}
use Rattle.sqlite.proofs.Callers.{one_step}
use Rattle.sqlite_rules.proofs.ListLemmas.{all_has, test_has, some_from}
use Rattle.sqlite_rules.proofs.TableLemmas.{int_is, has_put}
use Rattle.sqlite_rules.proofs.PlaceLemmas.{next_is_free}
use Rattle.sql_tables.specs.{TableDef, table_of, fits_columns, padded, columns_of, meets, put, IsDeclared, parameters_from, updating}
use Rattle.sqlite_schema.specs.declared.schema.Column.{Column}
use Rattle.sql_tables.proofs.TextsCompile.{program_of, upserting}
use Rattle.sql_tables.proofs.UpsertValues.{shown_is, updated_row, given_rowid}
use Rattle.sql_tables.proofs.UpdateFinds.{AreShown, OnceOrTwice, found_shown, found_shows, rowid_test}
use Rattle.sql_tables.proofs.RowLists.{cast_null, cast_int, cast_columns, filter_on, put_moves}
use Rattle.sql_tables.proofs.RowConflicts.{no_works, agreeing, agree_shift, conflict_meets, left_is, same_row}

-- a part that gave a value did not stop on the way
pub went : {B E R : Type 0} {b : B} {Stops : E → Type 0} → ((stop : E) × Stops stop × (Ok b ≡ Err stop)) ⊎ R → R
went (inl stopped) = absurd (let e = stopped.2 in cc)
went (inr on) = on

pub same_value : {B E : Type 0} {a b : B} → ◌≡◌ {A = Result B E} (Ok a) (Ok b) → a ≡ b
same_value e = cc

-- the definition's tree and the others, after a step
pub record Trees_turn (schema : Schema) (table_def : TableDef) (tree : ℕ) (db next : Trees) (rows : List Row) : Type 0 where
  pub shaped : IsShaped shape.Table (next tree)
  pub same : IsPermutation rows (map (columns_of table_def) (next tree))
  pub others : (t : Table) → Has schema.tables t → t.tree ≢ tree → next t.tree ≡ db t.tree

list_any_on : {X : Type 0} (p q : X → Bool) (xs : List X) → ((x : X) → Has xs x → p x ≡ q x) → list_any p xs ≡ list_any q xs
list_any_on p q [] h = refl
list_any_on p q (x ∷ xs) h = rw (h x (inl refl), list_any_on p q xs (λ y k. h y (inr k)))

meets_is : (table_def : TableDef) (r new : Row) → list_all (list_all (λ p. ltb 0 p)) table_def.keys ≡ true → list_any (λ key. agree plain key r key new) table_def.keys ≡ meets table_def (columns_of table_def r) (drop 1 new)
meets_is table_def r new above = list_any_on _ _ table_def.keys (λ key there. agree_shift plain key (length table_def.columns) 0 r new (test_has _ table_def.keys key above there))

-- a row of all columns lacks none
whole : (cs : List Column) (vs : Row) → fits_columns cs vs ≡ true → padded (length cs) vs ≡ vs
whole [] vs h = refl
whole (c ∷ cs) [] h = absurd (cc)
whole (c ∷ cs) (v ∷ vs) h = ap (λ row. v ∷ row) (whole cs vs (and_parts _ (fits_columns cs vs) h).1)

-- the columns of the rows once the new one is put
pub rows_put : (table_def : TableDef) (rows : List Row) (given : List Row) (left : List Row) (k : ℤ) (params : Row) → list_all (list_all (λ p. ltb 0 p)) table_def.keys ≡ true → fits_columns table_def.columns params ≡ true
    → IsPermutation given (map (columns_of table_def) rows) → left ≡ filter (λ r. not (list_any (λ key. agree plain key r key (Int k ∷ params)) table_def.keys)) rows → is_taken left (Int k ∷ params) ≡ false
    → IsPermutation (put table_def params given) (map (columns_of table_def) (put_row (Int k ∷ params) left))
rows_put table_def rows given left k params above fit same left_is free =
    let P = λ (v : Row). not (meets table_def v params) in
    let kept : IsPermutation (filter P given) (filter P (map (columns_of table_def) rows)) = IsPermutation-filter P given (map (columns_of table_def) rows) same in
    let cut : filter P (map (columns_of table_def) rows) ≡ map (columns_of table_def) left =
    filter-map P (columns_of table_def) rows ∙ ap (map (columns_of table_def)) (filter_on _ _ rows (λ r _. ap not (sym (meets_is table_def r (Int k ∷ params) above))) ∙ sym left_is) in
    let moved : IsPermutation (params ∷ map (columns_of table_def) left) (map (columns_of table_def) (put_row (Int k ∷ params) left)) =
    subst (λ (v : Row). IsPermutation (v ∷ map (columns_of table_def) left) (map (columns_of table_def) (put_row (Int k ∷ params) left))) (whole table_def.columns params fit) (IsPermutation-map (columns_of table_def) _ _ (put_moves (Int k ∷ params) left free)) in
    IsPermutation-trans _ _ _ (IsPermutation-cons params _ _ (subst (IsPermutation (filter P given)) cut kept)) moved

module _ (limit : Option ℕ) (keys : Keys) (schema : Schema) (table_def : TableDef) (at tree : ℕ) (declared : IsDeclared schema table_def at tree) (params : Row) where
  abbrev pub task_of : Task
  task_of = record { limit = limit; keys = keys; schema = schema; table = table_of table_def tree; params = params }

  pub step_crash_states : (db next : Trees) (edit : Edit) → edit.table ≡ table_of table_def tree → Writes schema keys db edit (Ok next) → Applies schema keys db edit next
  step_crash_states db next edit is h = one_step schema keys db next edit (subst (λ (t : Table). works schema keys 0 t.tree (taken_by db edit) edit.news ≡ []) (sym is) (no_works schema table_def at tree declared keys (taken_by db edit) edit.news)) h

  cast_same : (v : Value) → cast kind.Integer v ≡ v → fits_columns table_def.columns params ≡ true → cast_row (table_of table_def tree) (v ∷ params) ≡ v ∷ params
  cast_same v own fit = rw (own, cast_columns table_def.columns params fit)

  -- the rowid that is chosen for the new row
  abbrev pub fresh_row : Trees → Row
  fresh_row db = with_rowid Chosen (db tree) (cast_row (table_of table_def tree) (Null ∷ params))

  pub fresh_is : (db : Trees) → fits_columns table_def.columns params ≡ true → fresh_row db ≡ Int (next_rowid (db tree)) ∷ params
  fresh_is db fit = rw (cast_null, cast_columns table_def.columns params fit)

  module _ (above : list_all (list_all (λ p. ltb 0 p)) table_def.keys ≡ true) (guarded : IsGuarded schema.indexes (table_of table_def tree)) (fit : fits_columns table_def.columns params ≡ true)
      (db : Trees) (shaped : IsShaped shape.Table (db tree)) (rows : List Row) (same : IsPermutation rows (map (columns_of table_def) (db tree))) where
    abbrev Turned : Trees → Type 0
    Turned next = Trees_turn schema table_def tree db next (put table_def params rows)

    -- A step takes out only rows that the new row meets, and puts that one in.
    step_turns : (next : Trees) (ids : List ℤ) (k : ℤ) → Applies schema keys db (record { table = table_of table_def tree; gone = ids; news = (Int k ∷ params) ∷ [] }) next
        → ((r : Row) → Has (db tree) r → list_any (λ id. has_rowid id r) ids ≡ true → agreeing table_def (Int k ∷ params) r ≡ true) → Turned next
    step_turns next ids k applies gone =
        let new : Row = Int k ∷ params in
        let left = without_all (db tree) ids in
        let free : is_taken left new ≡ false = not-true _ (and_parts _ true applies.fresh).0 in
        let next_is : next tree ≡ put_row new left = applies.rows in
        let kept = left_is schema table_def at tree declared guarded (db tree) shaped new refl ids free next applies.fits next_is gone in
        let stays : IsShaped shape.Table left = subst (IsShaped shape.Table) (sym kept) (IsShaped-filter shape.Table _ (db tree) shaped) in
        record {
          shaped = subst (IsShaped shape.Table) (sym next_is) (IsShaped-put_row new left refl stays);
          same = subst (λ (r : List Row). IsPermutation (put table_def params rows) (map (columns_of table_def) r)) (sym next_is) (rows_put table_def (db tree) rows left k params above fit same kept free);
          others = λ t listed away. all_has _ schema.tables t applies.tables listed away;
        }

    -- the new row goes in, and none is taken out
    added : (next : Trees) (news : List Row) (k : ℤ) → news ≡ (Int k ∷ params) ∷ [] → Applies schema keys db (record { table = table_of table_def tree; gone = []; news = news }) next → Turned next
    added next news k is applies =
        step_turns next [] k (subst (λ (news : List Row). Applies schema keys db (record { table = table_of table_def tree; gone = []; news = news }) next) is applies) (λ r there none. absurd cc)

    -- ---- INSERT

    pub row_inserted : (terms : List Term) (width : ℕ) (w : Written) → value_rows params width (length terms / width) terms ≡ (Null ∷ params) ∷ [] → Inserts task_of (Values terms width) db (Ok w) → Turned w.trees
    row_inserted terms width w given h =
        let sourced = went h in
        let counter = went sourced.2 in
        let edited = went counter.2 in
        let counts = went edited.2 in
        let rows_are : sourced.0 ≡ (Null ∷ params) ∷ [] = sourced.1.1 ∙ (ap (λ p. value_rows p width (length terms / width) terms) (append-nil params) ∙ given) in
        let edit = edit_of db (table_of table_def tree) [] Chosen 0 sourced.0 in
        let applies = step_crash_states db edited.0 edit refl edited.1 in
        let news : edit.news ≡ (Int (next_rowid (db tree)) ∷ params) ∷ [] = ap (λ rows. (edit_of db (table_of table_def tree) [] Chosen 0 rows).news) rows_are ∙ ap (λ row. row ∷ []) (fresh_is db fit) in
        let trees_are : w.trees ≡ edited.0 = ap (λ (it : Written). it.trees) (same_value counts.2) ∙ same_value counts.1 in
        subst Turned (sym trees_are) (added edited.0 edit.news (next_rowid (db tree)) news applies)

    -- ---- INSERT with ON CONFLICT DO UPDATE

    puts : (k : ℤ) (one : Written) → Puts task_of (Int k ∷ params) db (Ok one) → Turned one.trees
    puts k one h =
        let put = went h in
        let edit = edit_of db (table_of table_def tree) [] Given 0 ((Int k ∷ params) ∷ []) in
        let applies = step_crash_states db put.0 edit refl put.1 in
        let news : edit.news ≡ (Int k ∷ params) ∷ [] = ap (λ row. row ∷ []) (cast_same (Int k) (cast_int k) fit) in
        let now : one.trees ≡ put.0 = ap (λ (it : Written). it.trees) (same_value put.2) in
        subst Turned (sym now) (added put.0 edit.news k news applies)

    clears : (k : ℤ) (one : Written) (found : List Row) → Clears task_of Abort (Int k ∷ params) db found (Ok one) → Turned one.trees
    clears k one [] h = puts k one h
    clears k one (x ∷ more) h = puts k one h

    -- the row that is met keeps its rowid, and gets the new columns
    replaced : (next : Trees) (k : ℤ) (source : Row) (found : List Row) → Has (db tree) source → agreeing table_def (Int k ∷ params) source ≡ true
        → OnceOrTwice found (rowid source ∷ rowid source ∷ params) → Applies schema keys db (edit_of db (table_of table_def tree) (ids_of found) Given 1 found) next → Turned next
    replaced next k source found there met (inl is) applies =
        let id = id_in (rowid source) in
        let own : rowid source ≡ Int id = int_is (rowid source) (all_has _ (db tree) source shaped.1 there) in
        let row : Row = rowid source ∷ rowid source ∷ params in
        let edit = edit_of db (table_of table_def tree) (ids_of (row ∷ [])) Given 1 (row ∷ []) in
        let does : Applies schema keys db edit next = subst (λ (rows : List Row). Applies schema keys db (edit_of db (table_of table_def tree) (ids_of rows) Given 1 rows) next) is applies in
        let news : edit.news ≡ (Int id ∷ params) ∷ [] = ap (λ v. cast_row (table_of table_def tree) (v ∷ params) ∷ []) own ∙ ap (λ row. row ∷ []) (cast_same (Int id) (cast_int id) fit) in
        let meeting : agreeing table_def (Int id ∷ params) source ≡ true = meets_is table_def source (Int id ∷ params) above ∙ (sym (meets_is table_def source (Int k ∷ params) above) ∙ met) in
        step_turns next (id ∷ []) id (subst (λ (news : List Row). Applies schema keys db (record { table = table_of table_def tree; gone = id ∷ []; news = news }) next) news does)
        (λ r had gone. elim (or_cases (has_rowid id r) false gone) [
          | inl has ↦ subst (λ x. agreeing table_def (Int id ∷ params) x ≡ true) (sym (same_row (db tree) shaped r source (rowid source ∷ []) id had there has refl refl)) meeting
          | inr none ↦ absurd cc
        ])
    replaced next k source found there met (inr twice) applies =
        let row : Row = rowid source ∷ rowid source ∷ params in
        let new : Row = cast_row (table_of table_def tree) (rowid source ∷ params) in
        let left = without_all (db tree) (ids_of (row ∷ row ∷ twice.0)) in
        let does = subst (λ (rows : List Row). Applies schema keys db (edit_of db (table_of table_def tree) (ids_of rows) Given 1 rows) next) twice.1 applies in
        let free : not (is_taken (put_row new left) new) ≡ true = (and_parts _ _ (and_parts _ _ does.fresh).1).0 in
        let once : is_taken (put_row new left) new ≡ true = some_from (λ r. is_eq (value_cmp (rowid r) (rowid new))) (put_row new left) new (has_put new left) (rw (tied_itself value_cmp_total (rowid new)) refl) in
        absurd (true≢false (sym once ∙ not-true _ free))

    updates : (k : ℤ) (one : Written) (source x : Row) → Has (db tree) source → agreeing table_def (Int k ∷ params) source ≡ true → x ≡ rowid source ∷ []
        → Updates task_of (program_of (updating table_def tree)) (params ++ rowid x ∷ shown (table_of table_def tree) (Int k ∷ params)) db (Ok one) → Turned one.trees
    updates k one source x there met x_is h =
        let new = shown (table_of table_def tree) (Int k ∷ params) in
        let given : Row = params ++ rowid x ∷ new in
        let queried = went h in
        let edited = went queried.2 in
        let a = answer_alone (query_of (updating table_def tree)) db given queried.0 queried.1.answer Null in
        let project = col 1 0 ∷ col 1 0 ∷ parameters_from (length table_def.columns + 2) table_def.columns in
        let found : AreShown (rowid_test (length table_def.columns)) project (db tree) given queried.0 = found_shown tree (rowid_test (length table_def.columns)) project db given queried.0
        (record { staged = a.staged; grouped = a.grouped; kept = a.kept; distinct = a.distinct; ordered = a.ordered; same = a.same; sorted = a.sorted; shown = a.shown }) in
        let place_is : column given (length table_def.columns) ≡ rowid source = given_rowid table_def params new (rowid x) fit ∙ ap rowid x_is in
        let shown_as = λ (r : Row). subst (λ (row : Row). eval_all project ((params ++ rowid x ∷ row) ∷ r ∷ []) ≡ rowid r ∷ rowid r ∷ params) (sym (shown_is table_def tree (Int k) params fit)) (updated_row table_def params r (rowid x) (Int k) fit) in
        let shows = found_shows (db tree) shaped source there given (length table_def.columns) place_is params project queried.0 found shown_as in
        let applies = step_crash_states db edited.0 (edit_of db (table_of table_def tree) (ids_of queried.0) Given 1 queried.0) refl edited.1 in
        let now : one.trees ≡ edited.0 = ap (λ (it : Written). it.trees) (same_value edited.2) in
        subst Turned (sym now) (replaced edited.0 k source queried.0 there met shows applies)

    module _ (target : Option (List ℕ)) (k : ℤ) (free : is_taken (db tree) (Int k ∷ params) ≡ false) (one : Written) where
      abbrev clause : Upsert
      clause = upserting (updating table_def tree) target

      found_turns : (found : List Row) → AreConflicts target schema.indexes (table_of table_def tree) (db tree) (Int k ∷ params) found
          → Meets task_of (Upserts task_of Abort (Int k ∷ params) db []) (Int k ∷ params) db clause found (Ok one) → Turned one.trees
      found_turns [] are h = clears k one h.0 h.2
      found_turns (x ∷ more) are h =
          let source = are.sound x (inl refl) in
          updates k one source.0 x source.1 (conflict_meets schema table_def at tree declared guarded (db tree) shaped (Int k ∷ params) refl free target source.0 source.1 source.2) source.3 h

      decoded_turns : (verdict : Option Refusal) → Judged task_of Abort (clause ∷ []) (Int k ∷ params) db verdict (Ok one) → Turned one.trees
      decoded_turns None h = found_turns h.0 h.1 h.2
      decoded_turns (Some line_error) h = absurd (let e = h in cc)

      tried_turns : Tries task_of Abort (clause ∷ []) (Int k ∷ params) db (Ok one) → Turned one.trees
      tried_turns (inl bad) = absurd (let e = bad.1 in cc)
      tried_turns (inr decoded) = decoded_turns decoded.0 decoded.2

    pub row_upserted : (target : Option (List ℕ)) (terms : List Term) (width : ℕ) (w : Written) → value_rows params width (length terms / width) terms ≡ (Null ∷ params) ∷ []
        → InsertsOr task_of Abort (upserting (updating table_def tree) target ∷ []) (Values terms width) db (Ok w) → Turned w.trees
    row_upserted target terms width w given h =
        let sourced = went h in
        let counter = went sourced.2 in
        let tried = went counter.2 in
        let counts = went tried.2 in
        let clauses = upserting (updating table_def tree) target ∷ [] in
        let rows_are : sourced.0 ≡ (Null ∷ params) ∷ [] = sourced.1.1 ∙ (ap (λ p. value_rows p width (length terms / width) terms) (append-nil params) ∙ given) in
        let one = went (subst (λ rows. TriesEach task_of Abort clauses rows (count_of counter.0) (nothing db) (Ok tried.0)) rows_are tried.1) in
        let trees_are : w.trees ≡ one.0.trees = ap (λ (it : Written). it.trees) (same_value counts.2) ∙ (same_value counts.1 ∙ ap (λ (p : Written × ℤ). p.0.trees) (same_value one.2)) in
        let tries = subst (λ new. Tries task_of Abort clauses new db (Ok one.0)) (fresh_is db fit) one.1 in
        subst Turned (sym trees_are) (tried_turns target (next_rowid (db tree)) (next_is_free Chosen (db tree) params shaped.0 shaped.1) one.0 tries)
