-- WHERE with a parameter for each of up to two columns, and one that a further column is above.
use Rattle.std.proofs.Common.{◌≡◌, refl, Ok, List, ℕ, suc, ◌-◌, ◌<◌, [], ◌∷◌, Some, true, false, slice_get, arith, nat_lt}
use Rattle.sqlite_sql.specs.declared.ops.BinaryOp.TheVariants as by
use Rattle.sqlite_sql.specs.declared.ops.CompareOp.TheVariants.{Gt}
use Rattle.sqlite_sql.specs.Term.{Term, col, op2}
use Rattle.sqlite_schema.specs.declared.schema.Schema.{Schema}
use Rattle.sqlite_schema.specs.declared.schema.Table.{Table}
use Rattle.sqlite_resolve.specs.declared.scope.Output.{Output}
use Rattle.sqlite_resolve.specs.declared.state.Carried.{Carried}
use Rattle.sqlite_resolve.specs.Lowering.{nothing, spend, begin, finish, chosen}
use Rattle.sqlite_resolve.specs.Scope.{Name, declared}
use Rattle.sqlite_resolve.specs.Expr.{lower_to, node, opened, passes, operation, wanted_truth, both, tests_truth, tests_alias, combine}
use Rattle.sqlite_resolve.specs.Body.{tests}
use Rattle.sql_tables.specs.{equals, equals_from, ast_views}
use Rattle.sql_queries.specs.{greater, filter_after}
use Rattle.sql_tables.proofs.ColumnIsRead.{context_of, state_at, lower_column}
use Rattle.sql_tables.proofs.WhereGiven.{Entry, AreColumns, IsGiven, test_of, compared_given, lower_equals, lower_both, lower_and}

-- column > ?n
abbrev pub above_test : Table → Entry → ℕ → Term
above_test table e n = op2 (by.Compare Gt (chosen (declared table e.at e.column) nothing)) (col 1 (suc e.at)) (col 0 n)

module _ (s : Schema) (table : Table) (name : Name) (at : ℕ) (is : slice_get s.tables at ≡ Some table) where
  pub lower_greater : (outs : List Output) (e : Entry) (m next budget : ℕ) (last : Carried) → AreColumns table (e ∷ []) → IsGiven table e → 3 < budget → (depth : ℕ)
      → lower_to (suc (suc depth)) (context_of s name at outs false) (greater e.name (suc m)) (state_at next budget last)
      ≡ Ok (above_test table e m, state_at next (budget - 1 - 1 - 1) nothing)
  unfolding lower_to node opened spend begin finish passes operation wanted_truth both tests_truth tests_alias combine ast_views
  lower_greater outs e m next budget last are g enough depth =
      let one : nat_lt 1 budget ≡ true = grind (arith) in
      let two : nat_lt 1 (budget - 1) ≡ true = grind (arith) in
      let back : suc m - 1 ≡ m = omega arith in
      let three : nat_lt 1 (budget - 1 - 1) ≡ true = grind (arith) in
      rw (
        one,
        lower_column s table name at is outs false e.name e.at e.column next (budget - 1) nothing are.0 are.1 two depth,
        three,
        g.column_index,
        back,
        compared_given s table name at is outs Gt (chosen (declared table e.at e.column) nothing) e m are.1 g,
      ) refl

  -- WHERE above > ?1
  pub none_above : (outs : List Output) (f : Entry) (budget : ℕ) (last : Carried) → AreColumns table (f ∷ []) → IsGiven table f → 3 < budget
      → tests (lower_to 700) (context_of s name at outs false) [] (filter_after [] f.name) (state_at 2 budget last)
      ≡ Ok (above_test table f 0 ∷ [], state_at 2 (budget - 1 - 1 - 1) nothing)
  unfolding tests
  none_above outs f budget last are g enough = rw (lower_greater outs f 0 2 budget last are g enough 698) refl

  -- WHERE a = ?1 AND above > ?2
  pub one_above : (outs : List Output) (a f : Entry) (budget : ℕ) (last : Carried) → AreColumns table (a ∷ f ∷ []) → IsGiven table a → IsGiven table f → 7 < budget
      → tests (lower_to 700) (context_of s name at outs false) [] (filter_after (a.name ∷ []) f.name) (state_at 2 budget last)
      ≡ Ok (test_of table a 0 ∷ above_test table f 1 ∷ [], state_at 2 (budget - 1 - 1 - 1 - 1 - 1 - 1 - 1) nothing)
  unfolding tests
  one_above outs a f budget last are g k enough =
      let left = budget - 1 - 1 - 1 - 1 in
      let first = lower_equals s table name at is outs a 0 2 (budget - 1) nothing (are.0, are.1, tt) g (omega arith) 697 in
      let second = lower_greater outs f 1 2 left nothing are.2 k (omega arith) 697 in
      rw (lower_and s table name at is outs (equals a.name 1) (greater f.name 2) (test_of table a 0) (above_test table f 1) 2 budget left (left - 1 - 1 - 1) last (omega arith) 697 first second) refl

  -- WHERE a = ?1 AND b = ?2 AND above > ?3
  pub two_above : (outs : List Output) (a b f : Entry) (budget : ℕ) (last : Carried) → AreColumns table (a ∷ b ∷ f ∷ []) → IsGiven table a → IsGiven table b → IsGiven table f → 11 < budget
      → tests (lower_to 700) (context_of s name at outs false) [] (filter_after (a.name ∷ b.name ∷ []) f.name) (state_at 2 budget last)
      ≡ Ok (test_of table a 0 ∷ test_of table b 1 ∷ above_test table f 2 ∷ [], state_at 2 (budget - 1 - 1 - 1 - 1 - 1 - 1 - 1 - 1 - 1 - 1 - 1) nothing)
  unfolding tests
  two_above outs a b f budget last are g k l enough =
      let pair = lower_both s table name at is outs a b 2 (budget - 1) nothing (are.0, are.1, (are.2.0, are.2.1, tt)) g k (omega arith) 696 in
      let left = budget - 1 - 1 - 1 - 1 - 1 - 1 - 1 - 1 in
      let third = lower_greater outs f 2 2 left nothing are.2.2 l (omega arith) 697 in
      rw (lower_and s table name at is outs (equals_from (equals a.name 1) 2 (b.name ∷ [])) (greater f.name 3) (op2 by.And (test_of table a 0) (test_of table b 1)) (above_test table f 2) 2 budget left (left - 1 - 1 - 1) last (omega arith) 697 pair third) refl
