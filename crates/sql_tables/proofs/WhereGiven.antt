-- WHERE with a parameter for each of some columns.
use Rattle.std.proofs.Common.{◌≡◌, refl, Ok, List, ℕ, suc, ◌-◌, ◌<◌, Bool, [], ◌∷◌, Some, true, false, slice_get, arith, nat_lt, ◌==◌, if◌then◌else◌}
use Rattle.sqlite_value.specs.declared.keys.Collation.{Collation}
use Rattle.sqlite_sql.specs.declared.ops.BinaryOp.TheVariants as by
use Rattle.sqlite_sql.specs.declared.ops.CompareOp.{CompareOp}
use Rattle.sqlite_sql.specs.declared.ops.CompareOp.TheVariants.{Eq}
use Rattle.sqlite_sql.specs.Term.{Term, col, op2}
use Rattle.sqlite_schema.specs.declared.schema.Schema.{Schema}
use Rattle.sqlite_schema.specs.declared.schema.Table.{Table}
use Rattle.sqlite_schema.specs.declared.schema.Column.{Column}
use Rattle.sqlite_schema.specs.declared.schema.Kind.TheVariants as kind
use Rattle.sqlite_schema.specs.Names.{place_of, column_named}
use Rattle.sqlite_resolve.specs.declared.scope.Output.{Output}
use Rattle.sqlite_resolve.specs.declared.state.Carried.{Carried}
use Rattle.sqlite_resolve.specs.Lowering.{nothing, spend, begin, finish, chosen, max_budget}
use Rattle.sqlite_resolve.specs.Scope.{Name, declared}
use Rattle.sqlite_schema.specs.declared.schema.Kind.{Kind}
use Rattle.sqlite_resolve.specs.declared.compare.Affinity.TheVariants as affinity
use Rattle.sqlite_resolve.specs.Compare.{is_filler, of_kind, compared, of_column, affinity_of, converted, may_be_text, spelled}
use Rattle.sqlite_resolve.specs.Expr.{lower_to, node, opened, passes, operation, wanted_truth, both, tests_truth, tests_alias, combine}
use Rattle.sqlite_resolve.specs.Body.{tests}
use Rattle.sql_tables.specs.{equals, equals_from, filter_of, taking, ast_views}
use Rattle.sql_tables.proofs.ColumnIsRead.{context_of, state_at, lower_column}
use Rattle.std.specs.Bool.{⊤}
use Rattle.sqlite_resolve.specs.Write.{deleted, picked}
use Rattle.sqlite_ast.specs.declared.Expr.{Expr}
use Rattle.sqlite_ast.specs.declared.Expr.TheVariants as e
use Rattle.sqlite_ast.specs.declared.Binary.TheVariants as op

-- a name, the index among the columns where it is found, and the column
pub record Entry : Type 0 where
  pub name : Name
  pub at : ℕ
  pub column : Column

abbrev pub AreColumns : Table → List Entry → Type 0
AreColumns table [] = ⊤
AreColumns table (e ∷ es) = (column_named table e.name ≡ Some e.at) × (slice_get table.columns e.at ≡ Some e.column) × AreColumns table es

-- the column is strict, and no INTEGER PRIMARY KEY
pub record IsGiven (table : Table) (e : Entry) : Type 0 where
  pub column_index : place_of table e.at ≡ suc e.at
  pub strict : e.column.is_strict ≡ true
  pub named : is_filler e.column ≡ false

-- column = ?n
abbrev pub test_of : Table → Entry → ℕ → Term
test_of table e n = op2 (by.Compare Eq (chosen (declared table e.at e.column) nothing)) (col 1 (suc e.at)) (col 0 n)

pub same_either : {X : Type 0} (b : Bool) (x : X) → (if b then x else x) ≡ x
same_either true x = refl
same_either false x = refl

unconverted : (which : CompareOp) (k : Kind) (how : Collation) (p m : ℕ)
    → op2 (by.Compare which how) (converted (of_kind k) affinity.None (col 1 (suc p))) (converted affinity.None (of_kind k) (col 0 m)) ≡ op2 (by.Compare which how) (col 1 (suc p)) (col 0 m)
unfolding converted may_be_text spelled
unconverted which kind.Integer how p m = refl
unconverted which _ how p m = refl

module _ (s : Schema) (table : Table) (name : Name) (at : ℕ) (is : slice_get s.tables at ≡ Some table) where
  no_affinity : (outs : List Output) (m : ℕ) → affinity_of (context_of s name at outs false) (col 0 m) ≡ affinity.None
  unfolding affinity_of of_column
  no_affinity outs m = same_either (m == 0) affinity.None

  its_affinity : (outs : List Output) (e : Entry) → slice_get table.columns e.at ≡ Some e.column → IsGiven table e → affinity_of (context_of s name at outs false) (col 1 (suc e.at)) ≡ of_kind e.column.kind
  unfolding affinity_of of_column
  its_affinity outs e got g = rw (is, got, g.named, g.strict) refl

  -- a column is compared with a parameter as it is
  pub compared_given : (outs : List Output) (which : CompareOp) (how : Collation) (e : Entry) (m : ℕ) → slice_get table.columns e.at ≡ Some e.column → IsGiven table e
      → compared (context_of s name at outs false) (by.Compare which how) (col 1 (suc e.at)) (col 0 m) ≡ op2 (by.Compare which how) (col 1 (suc e.at)) (col 0 m)
  unfolding compared
  compared_given outs which how e m got g = rw (no_affinity outs m, its_affinity outs e got g) (unconverted which e.column.kind how e.at m)

  pub lower_equals : (outs : List Output) (e : Entry) (m next budget : ℕ) (last : Carried) → AreColumns table (e ∷ []) → IsGiven table e → 3 < budget → (depth : ℕ)
      → lower_to (suc (suc depth)) (context_of s name at outs false) (equals e.name (suc m)) (state_at next budget last)
      ≡ Ok (test_of table e m, state_at next (budget - 1 - 1 - 1) nothing)
  unfolding lower_to node opened spend begin finish passes operation wanted_truth both tests_truth tests_alias combine ast_views
  lower_equals outs e m next budget last are g enough depth =
      let one : nat_lt 1 budget ≡ true = grind (arith) in
      let two : nat_lt 1 (budget - 1) ≡ true = grind (arith) in
      let back : suc m - 1 ≡ m = omega arith in
      let three : nat_lt 1 (budget - 1 - 1) ≡ true = grind (arith) in
      rw (
        one,
        lower_column s table name at is outs false e.name e.at e.column next (budget - 1) nothing are.0 are.1 two depth,
        three,
        g.column_index,
        back,
        compared_given outs Eq (chosen (declared table e.at e.column) nothing) e m are.1 g,
      ) refl

  -- WHERE a = ?1
  pub one_given : (outs : List Output) (e : Entry) (budget : ℕ) (last : Carried) → AreColumns table (e ∷ []) → IsGiven table e → 3 < budget
      → tests (lower_to 700) (context_of s name at outs false) [] (filter_of (e.name ∷ [])) (state_at 2 budget last)
      ≡ Ok (test_of table e 0 ∷ [], state_at 2 (budget - 1 - 1 - 1) nothing)
  unfolding tests
  one_given outs e budget last are g enough = rw (lower_equals outs e 0 2 budget last are g enough 698) refl

  -- both of two tests, each of which is lowered
  pub lower_and : (outs : List Output) (a b : Expr) (t u : Term) (next budget left after : ℕ) (last : Carried) → 1 < budget → (depth : ℕ)
      → lower_to (suc (suc depth)) (context_of s name at outs false) a (state_at next (budget - 1) nothing) ≡ Ok (t, state_at next left nothing)
      → lower_to (suc (suc depth)) (context_of s name at outs false) b (state_at next left nothing) ≡ Ok (u, state_at next after nothing)
      → lower_to (suc (suc (suc depth))) (context_of s name at outs false) (e.Binary op.And a b) (state_at next budget last) ≡ Ok (op2 by.And t u, state_at next after nothing)
  unfolding lower_to node opened spend begin finish passes operation wanted_truth both tests_truth tests_alias combine ast_views
  lower_and outs a b t u next budget left after last some depth first second =
      let one : nat_lt 1 budget ≡ true = grind (arith) in
      rw (one, first, second) refl

  pub lower_both : (outs : List Output) (e f : Entry) (next budget : ℕ) (last : Carried) → AreColumns table (e ∷ f ∷ []) → IsGiven table e → IsGiven table f → 7 < budget → (depth : ℕ)
      → lower_to (suc (suc (suc depth))) (context_of s name at outs false) (equals_from (equals e.name 1) 2 (f.name ∷ [])) (state_at next budget last)
      ≡ Ok (op2 by.And (test_of table e 0) (test_of table f 1), state_at next (budget - 1 - 1 - 1 - 1 - 1 - 1 - 1) nothing)
  lower_both outs e f next budget last are g k enough depth =
      lower_and outs (equals e.name 1) (equals f.name 2) (test_of table e 0) (test_of table f 1) next budget (budget - 1 - 1 - 1 - 1) (budget - 1 - 1 - 1 - 1 - 1 - 1 - 1) last (omega arith) depth
      (lower_equals outs e 0 next (budget - 1) nothing (are.0, are.1, tt) g (omega arith) depth)
      (lower_equals outs f 1 next (budget - 1 - 1 - 1 - 1) nothing are.2 k (omega arith) depth)

  -- WHERE a = ?1 AND b = ?2
  pub two_given : (outs : List Output) (e f : Entry) (budget : ℕ) (last : Carried) → AreColumns table (e ∷ f ∷ []) → IsGiven table e → IsGiven table f → 7 < budget
      → tests (lower_to 700) (context_of s name at outs false) [] (filter_of (e.name ∷ f.name ∷ [])) (state_at 2 budget last)
      ≡ Ok (test_of table e 0 ∷ test_of table f 1 ∷ [], state_at 2 (budget - 1 - 1 - 1 - 1 - 1 - 1 - 1) nothing)
  unfolding tests
  two_given outs e f budget last are g k enough = rw (lower_both outs e f 2 budget last are g k enough 697) refl

  -- WHERE a = ?1 AND b = ?2 AND c = ?3
  pub three_given : (outs : List Output) (e f h : Entry) (budget : ℕ) (last : Carried) → AreColumns table (e ∷ f ∷ h ∷ []) → IsGiven table e → IsGiven table f → IsGiven table h → 11 < budget
      → tests (lower_to 700) (context_of s name at outs false) [] (filter_of (e.name ∷ f.name ∷ h.name ∷ [])) (state_at 2 budget last)
      ≡ Ok (test_of table e 0 ∷ test_of table f 1 ∷ test_of table h 2 ∷ [], state_at 2 (budget - 1 - 1 - 1 - 1 - 1 - 1 - 1 - 1 - 1 - 1 - 1) nothing)
  unfolding tests
  three_given outs e f h budget last are g k l enough =
      let left = budget - 1 - 1 - 1 - 1 - 1 - 1 - 1 - 1 in
      let pair = lower_both outs e f 2 (budget - 1) nothing (are.0, are.1, (are.2.0, are.2.1, tt)) g k (omega arith) 696 in
      let third = lower_equals outs h 2 2 left nothing are.2.2 l (omega arith) 697 in
      rw (lower_and outs (equals_from (equals e.name 1) 2 (f.name ∷ [])) (equals h.name 3) (op2 by.And (test_of table e 0) (test_of table f 1)) (test_of table h 2) 2 budget left (left - 1 - 1 - 1) last (omega arith) 697 pair third) refl

-- ---- DELETE

-- DELETE FROM t WHERE a = ?1
pub one_deleted : (s : Schema) (table : Table) (at : ℕ) → slice_get s.tables at ≡ Some table → (e : Entry) → AreColumns table (e ∷ []) → IsGiven table e
    → deleted s at table (filter_of (e.name ∷ [])) ≡ Ok (taking table.tree (test_of table e 0 ∷ []))
unfolding deleted picked
one_deleted s table at is e are g = rw (one_given s table table.name at is [] e max_budget nothing are g (omega arith)) refl

-- DELETE FROM t WHERE a = ?1 AND b = ?2
pub two_deleted : (s : Schema) (table : Table) (at : ℕ) → slice_get s.tables at ≡ Some table → (e f : Entry) → AreColumns table (e ∷ f ∷ []) → IsGiven table e → IsGiven table f
    → deleted s at table (filter_of (e.name ∷ f.name ∷ [])) ≡ Ok (taking table.tree (test_of table e 0 ∷ test_of table f 1 ∷ []))
unfolding deleted picked
two_deleted s table at is e f are g k = rw (two_given s table table.name at is [] e f max_budget nothing are g k (omega arith)) refl
