-- What DO UPDATE SET a = excluded.a, .. reads as, where it sets each column.
use Rattle.std.proofs.Common.{◌≡◌, refl, Ok, Err, List, ℕ, suc, ◌+◌, ◌-◌, ◌<◌, [], ◌∷◌, ◌++◌, Option, Some, None, true, false, slice_get, length, codes, arith, nat_lt, append_assoc, append-nil}
use Rattle.std.specs.Bool.{⊤}
use Rattle.sqlite_sql.specs.Term.{Term, col}
use Rattle.sqlite_schema.specs.declared.schema.Schema.{Schema}
use Rattle.sqlite_schema.specs.declared.schema.Table.{Table}
use Rattle.sqlite_schema.specs.declared.schema.Column.{Column}
use Rattle.sqlite_schema.specs.Names.{same_name, column_named, place_of}
use Rattle.sqlite_rules.proofs.ActionLemmas.{got_last}
use Rattle.sqlite_catalog.proofs.StepLemmas.{same_itself}
use Rattle.sqlite_resolve.specs.declared.scope.Found.{Found}
use Rattle.sqlite_resolve.specs.declared.scope.Found.TheVariants as found
use Rattle.sqlite_resolve.specs.declared.state.State.{State}
use Rattle.sqlite_resolve.specs.declared.state.Carried.{Carried}
use Rattle.sqlite_resolve.specs.Lowering.{Checked, and_then, max_budget, nothing, spend, begin, finish}
use Rattle.sqlite_resolve.specs.Scope.{Context, Name, find, in_level, only, hit, column_in, is_rowid, column, column_at, term_of, declared}
use Rattle.sqlite_resolve.specs.Expr.{lower_to, node, opened, passes}
use Rattle.sqlite_resolve.specs.Write.{with_place, places_from, sets_from, sets, assigned, picked, updated_in, row, simple, level_of}
use Rattle.sqlite_resolve.specs.Given.{given, with_given, given_level, nested, do_update}
use Rattle.sqlite_resolve.specs.Body.{tests}
use Rattle.sqlite_resolve.specs.Reach.{any_scans}
use Rattle.sqlite_resolve.specs.Terms.{equal}
use Rattle.sqlite_draft.specs.declared.join.Step.TheVariants.{Inner}
use Rattle.sqlite_value.specs.declared.keys.Collation.TheVariants.{Binary}
use Rattle.sql_tables.specs.{excluded_expr, excluded_sets, ast_views}
use Rattle.sql_tables.proofs.ColumnIsRead.{state_at}
use Rattle.sql_tables.proofs.WhereGiven.{same_either}

placed_given : (table : Table) (base p : ℕ) → place_of (given table base) p ≡ p + 1
unfolding given
placed_given table base p = refl

-- each name is that of the column with the next index, where rows are given after the parameters
abbrev pub AreExcluded : Table → ℕ → ℕ → List Name → Type 0
AreExcluded table base p [] = ⊤
AreExcluded table base p (name ∷ more) = (column_named (given table base) name ≡ Some p) × ((c : Column) × (slice_get (given table base).columns p ≡ Some c)) × AreExcluded table base (p + 1) more

-- the terms that read as many columns from this index on
abbrev pub excluded_terms : ℕ → List Name → List Term
excluded_terms n [] = []
excluded_terms n (name ∷ more) = col 0 n ∷ excluded_terms (n + 1) more

module _ (s : Schema) (table : Table) (at base : ℕ) (differs : same_name table.name (codes "excluded") ≡ false) where
  abbrev pub update_context : Context
  update_context = nested (with_given s table base) (level_of at table.name) (given_level s (codes "excluded") [])

  not_inside : (name : Name) → in_level (with_given s table base) (Some (codes "excluded")) name 0 (level_of at table.name) ≡ Ok None
  unfolding in_level only hit
  not_inside name = rw (differs, same_either {X = Checked (Option Found)} (is_rowid name) (Ok None)) refl

  outside : (name : Name) (p : ℕ) → column_named (given table base) name ≡ Some p
      → in_level (with_given s table base) (Some (codes "excluded")) name 1 (given_level s (codes "excluded") []) ≡ Ok (Some (found.Column 0 (length s.tables) p))
  unfolding in_level only hit column_in
  outside name p is = rw (same_itself (codes "excluded"), got_last s.tables (given table base), is) refl

  find_excluded : (name : Name) (p : ℕ) → column_named (given table base) name ≡ Some p → find update_context (Some (codes "excluded")) name ≡ Ok (found.Column 0 (length s.tables) p)
  unfolding find
  find_excluded name p is = rw (not_inside name, outside name p is) refl

  found_excluded : (p : ℕ) (c : Column) → slice_get (given table base).columns p ≡ Some c → column_at (with_given s table base) 0 (length s.tables) p ≡ Ok (col 0 (p + 1), declared (given table base) p c)
  unfolding column_at
  found_excluded p c got = rw (got_last s.tables (given table base), got, placed_given table base p) refl

  excluded_read : (name : Name) (p : ℕ) (c : Column) (st : State) → column_named (given table base) name ≡ Some p → slice_get (given table base).columns p ≡ Some c
      → column update_context (Some (codes "excluded")) name st ≡ Ok (col 0 (p + 1), record st { last = declared (given table base) p c })
  unfolding column term_of
  excluded_read name p c st is got = rw (find_excluded name p is, found_excluded p c got) refl

  pub lower_excluded : (name : Name) (p : ℕ) (c : Column) (next budget : ℕ) (last : Carried) → column_named (given table base) name ≡ Some p → slice_get (given table base).columns p ≡ Some c
      → nat_lt 1 budget ≡ true → (depth : ℕ) → lower_to (suc depth) update_context (excluded_expr name) (state_at next budget last) ≡ Ok (col 0 (p + 1), state_at next (budget - 1) (declared (given table base) p c))
  unfolding lower_to node opened spend begin finish passes ast_views
  lower_excluded name p c next budget last is got enough depth = rw (enough, excluded_read name p c (state_at next (budget - 1) nothing) is got) refl

  -- SET of these columns ends with these indexes and terms
  abbrev pub Reads : List ℕ → List ℕ × List Term → List Name → ℕ → Carried → List Term → Type 0
  Reads column_indexes so_far names budget last terms = (left : ℕ) × (now : Carried) × (sets_from update_context table so_far (excluded_sets names) (state_at 2 budget last) ≡ Ok ((column_indexes, terms), state_at 2 left now))

  pub sets_read : (names : List Name) (p : ℕ) (done : List ℕ × List Term) (column_indexes : List ℕ) (budget : ℕ) (last : Carried) → AreExcluded table base p names → places_from table done.0 names ≡ Ok column_indexes
      → length names < budget → Reads column_indexes done names budget last (done.1 ++ excluded_terms (p + 1) names)
  sets_read [] p done column_indexes budget last are placed enough = (budget, last, let is : done.0 ≡ column_indexes = cc in rw (append-nil, is) refl)
  sets_read (name ∷ more) p done column_indexes budget last are placed enough =
      go (with_place table done.0 name) refl placed (λ longer rest. sets_read more (p + 1) (longer, done.1 ++ col 0 (p + 1) ∷ []) column_indexes (budget - 1) (declared (given table base) p are.1.0) are.2 rest (omega (arith, enough)))
    where
      go : (w : Checked (List ℕ)) → with_place table done.0 name ≡ w → and_then w (λ longer. places_from table longer more) ≡ Ok column_indexes
          → ((longer : List ℕ) → places_from table longer more ≡ Ok column_indexes
          → Reads column_indexes (longer, done.1 ++ col 0 (p + 1) ∷ []) more (budget - 1) (declared (given table base) p are.1.0) ((done.1 ++ col 0 (p + 1) ∷ []) ++ excluded_terms (p + 1 + 1) more))
          → Reads column_indexes done (name ∷ more) budget last (done.1 ++ excluded_terms (p + 1) (name ∷ more))
      go (Err e) is rest later = absurd cc
      go (Ok longer) is rest later =
          let one : nat_lt 1 budget ≡ true = grind (arith) in
          let next = later longer rest in
          let joined = append_assoc done.1 (col 0 (p + 1) ∷ []) (excluded_terms (p + 1 + 1) more) in
          (next.0, next.1, rw (is, lower_excluded name p are.1.0 2 budget last are.0 are.1.1 one 699) (rw joined at next.2))

  -- ON CONFLICT (target) DO UPDATE SET a = excluded.a, ..
  pub update_read : (target names : List Name) (column_indexes : List ℕ) (project : List Term) → AreExcluded table base (base + 1) names → places_from table [] names ≡ Ok column_indexes → length names < max_budget
      → row table None column_indexes (col 1 0 ∷ []) (excluded_terms (base + 1 + 1) names) ≡ Ok project
      → do_update s at table base (record { target = target; sets = excluded_sets names; filter = None }) ≡ Ok (simple (Inner table.tree ∷ []) (equal Binary (col 1 0) (col 0 base) ∷ []) project)
  unfolding do_update updated_in assigned sets picked tests any_scans
  update_read target names column_indexes project are placed few shown =
      let read = sets_read names (base + 1) ([], []) column_indexes max_budget nothing are placed few in
      rw (read.2, shown) refl
