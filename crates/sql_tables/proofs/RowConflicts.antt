-- Which rows a row of a definition's table meets, and that no foreign key acts.
use Rattle.std.proofs.Common.{◌≡◌, inl, inr, ℕ, zero, suc, ℤ, List, [], ◌∷◌, filter, drop, Bool, true, false, not, ◌&&◌, Option, Some, None, refl, sym, ap, subst, subst₂, eq-eqb, ◌∙◌, Ordering, Less, Equal, Greater, is_eq, slice_get, get_or, ltb, eqb, arith, flat_map, filter_map}
use Rattle.std.proofs.lemmas.Bool.{cases_Bool, false_from_ne_true, and_parts, and_from, or_cases}
use Rattle.std.proofs.lemmas.Bool.Decides.{nat_tests}
use Rattle.std.proofs.lemmas.Cmp.{tied_itself}
use Rattle.sqlite_value.proofs.OrderLemmas.{value_cmp_total}
use Rattle.std.specs.List.{list_any, list_all}
use Rattle.std.specs.Ordering.{is_ne}
use Rattle.sqlite.specs.declared.types.Value.{Value}
use Rattle.sqlite.specs.declared.types.Value.TheVariants.{Null, Int}
use Rattle.sqlite.specs.Order.{Row, column, value_cmp}
use Rattle.sqlite.specs.Table.{Table}
use Rattle.sqlite.specs.Schema.{Schema}
use Rattle.sqlite_schema.specs.declared.schema.Index.{Index}
use Rattle.sqlite_schema.specs.declared.schema.Reference.{Reference}
use Rattle.sqlite_schema.specs.declared.schema.Keys.{Keys}
use Rattle.sqlite_schema.specs.Names.{same_name}
use Rattle.sqlite_schema.specs.Rules.{agree, guards, equal, differ, parent_key, ParentKey, Fits}
use Rattle.sqlite_schema.specs.declared.schema.Constraint.TheVariants.{Unique}
use Rattle.sqlite_sql.specs.Ops.{binary}
use Rattle.sqlite_trees.specs.Tree.{Trees, rowid, has_rowid, put_row}
use Rattle.sqlite_trees.specs.View.{IsShaped, is_int}
use Rattle.sqlite_trees.specs.declared.store.Shape.TheVariants as shape
use Rattle.sqlite_value.specs.Keys.{plain, first_key, later}
use Rattle.sqlite_value.specs.declared.keys.Order.{Order}
use Rattle.sqlite_value.proofs.KeyLemmas.{first_key-plain}
use Rattle.sqlite_rules.specs.Lists.{Has}
use Rattle.sqlite_rules.specs.Edit.{without_all, is_taken, id_in}
use Rattle.sqlite_rules.specs.Keys.{aims, conflicts, shares}
use Rattle.sqlite_rules.specs.Action.{works, work_by}
use Rattle.sqlite_rules.specs.declared.action.Deed.{Deed}
use Rattle.sqlite_rules.proofs.ListLemmas.{all_has, test_has, some_has, some_from, has_got, has_kept}
use Rattle.sqlite_rules.proofs.PlaceLemmas.{tied_same, named_parent}
use Rattle.sqlite_rules.proofs.TableLemmas.{int_is, has_put, put_all_keeps, without_all_has}
use Rattle.sqlite_catalog.specs.Listing.{IsGuarded, automatic}
use Rattle.sql_tables.specs.{TableDef, table_of, plains, padded, IsDeclared}
use Rattle.sql_tables.proofs.RowLists.{same_bool, filter_on, without_is}

-- ---- foreign keys

flat_none : {X Y : Type 0} (f : X → List Y) (xs : List X) → ((x : X) → Has xs x → f x ≡ []) → flat_map f xs ≡ []
flat_none f [] h = refl
flat_none f (x ∷ xs) h = rw (h x (inl refl), flat_none f xs (λ y k. h y (inr k)))

map_none : {X Y : Type 0} (f : X → Option Y) (xs : List X) → ((x : X) → Has xs x → f x ≡ None) → filter_map f xs ≡ []
map_none f [] h = refl
map_none f (x ∷ xs) h = rw (h x (inl refl), map_none f xs (λ y k. h y (inr k)))

module _ (schema : Schema) (table_def : TableDef) (at tree : ℕ) (declared : IsDeclared schema table_def at tree) where
  other_parent : (child : Table) (ref : Reference) (key : ParentKey) → Has schema.tables child → Has child.references ref → parent_key schema.tables ref ≡ Some key → eqb key.0 tree ≡ false
  other_parent child ref key listed among is =
      let t = named_parent schema.tables ref key is in
      false_from_ne_true _ (λ same.
      let tree_is : t.0.tree ≡ tree = grind (arith, nat_tests) in
      let own = declared.own t.0 t.1 tree_is in
      let named : same_name table_def.name ref.parent ≡ true = (rw own at t.3) in
      let none : same_name table_def.name ref.parent ≡ false = all_has _ child.references ref (all_has _ schema.tables child declared.alone listed) among in
      cc)

  no_work : (keys : Keys) (moves : List (Row × Row)) (child : Table) (ref : Reference) → Has schema.tables child → Has child.references ref
      → (deed : Option Deed) (key : Option ParentKey) → parent_key schema.tables ref ≡ key → work_by 0 tree moves child ref deed key ≡ None
  no_work keys moves child ref listed among None key is = refl
  no_work keys moves child ref listed among (Some deed) None is = refl
  no_work keys moves child ref listed among (Some deed) (Some key) is = rw (other_parent child ref key listed among is)

  pub no_works : (keys : Keys) (olds news : List Row) → works schema keys 0 tree olds news ≡ []
  no_works keys olds news =
      flat_none _ schema.tables (λ child listed. map_none _ child.references (λ ref among. no_work keys _ child ref listed among _ _ refl))

-- ---- keys

none_has : {X : Type 0} (p : X → Bool) (xs : List X) (x : X) → list_any p xs ≡ false → Has xs x → p x ≡ false
none_has p xs x none there = false_from_ne_true _ (λ yes. let some = some_from p xs x there yes in cc)

pub placed : {X : Type 0} (xs : List X) (x : X) → Has xs x → (at : ℕ) × (slice_get xs at ≡ Some x)
placed [] x none = absurd none
placed (y ∷ ys) x (inl same) = (0, ap Some (sym same))
placed (y ∷ ys) x (inr more) = let at = placed ys x more in (suc at.0, at.1)

pub plains_are : (keys : List (List ℕ)) (at : ℕ) → get_or (plains keys) at plain ≡ plain
plains_are [] at = refl
plains_are (key ∷ keys) zero = refl
plains_are (key ∷ keys) (suc at) = plains_are keys at

-- a value that a row lacks is NULL already
pub padded_column : (n : ℕ) (vs : Row) (k : ℕ) → column vs k ≡ column (padded n vs) k
padded_column zero vs k = refl
padded_column (suc n) [] zero = refl
padded_column (suc n) [] (suc k) = padded_column n [] k
padded_column (suc n) (v ∷ vs) zero = refl
padded_column (suc n) (v ∷ vs) (suc k) = padded_column n vs k

pub column_shift : (n : ℕ) (a : Row) (p : ℕ) → ltb 0 p ≡ true → column a p ≡ column (Null ∷ padded n (drop 1 a)) p
column_shift n a zero h = absurd cc
column_shift n [] (suc p) h = padded_column n [] p
column_shift n (x ∷ xs) (suc p) h = padded_column n xs p

pub agree_shift : (o : Order) (ps : List ℕ) (n m : ℕ) (a b : Row) → list_all (λ p. ltb 0 p) ps ≡ true → agree o ps a ps b ≡ agree o ps (Null ∷ padded n (drop 1 a)) ps (Null ∷ padded m (drop 1 b))
agree_shift o [] n m a b h = refl
agree_shift o (p ∷ ps) n m a b h =
    let each = and_parts _ _ h in
    rw (column_shift n a p each.0, column_shift m b p each.0, agree_shift (later o) ps n m a b each.1)

equal_ints : (m n : ℤ) → is_eq (value_cmp (Int m) (Int n)) ≡ false → equal (first_key plain).collation (Int m) (Int n) ≡ false
unfolding binary
equal_ints m n h = rw (first_key-plain, h)

pub ints_apart : (a b : Value) → is_int a ≡ true → is_int b ≡ true → is_eq (value_cmp a b) ≡ false → equal (first_key plain).collation a b ≡ false
ints_apart a b i j apart =
    let p = int_is a i in
    let q = int_is b j in
    let apart' : is_eq (value_cmp (Int (id_in a)) (Int (id_in b))) ≡ false = (rw (p, q) at apart) in
    subst₂ (λ x y. equal (first_key plain).collation x y ≡ false) (sym p) (sym q) (equal_ints (id_in a) (id_in b) apart')

not_equal : (o : Ordering) → is_eq o ≡ false → is_ne o ≡ true
not_equal Less h = refl
not_equal Equal h = absurd cc
not_equal Greater h = refl

differ_ints : (m n : ℤ) → is_eq (value_cmp (Int m) (Int n)) ≡ false → differ (Int m) (Int n) ≡ true
unfolding binary
differ_ints m n h = rw (not_equal (value_cmp (Int m) (Int n)) h) refl

ints_differ : (a b : Value) → is_int a ≡ true → is_int b ≡ true → is_eq (value_cmp a b) ≡ false → differ a b ≡ true
ints_differ a b i j apart =
    let p = int_is a i in
    let q = int_is b j in
    let apart' : is_eq (value_cmp (Int (id_in a)) (Int (id_in b))) ≡ false = (rw (p, q) at apart) in
    subst₂ (λ x y. differ x y ≡ true) (sym p) (sym q) (differ_ints (id_in a) (id_in b) apart')

share_parts : (table : Table) (new r : Row) (i : Index) → shares None table new r i ≡ true → (guards i table ≡ true) × (agree i.order i.columns r i.columns new ≡ true)
share_parts table new r i h =
    let outer = and_parts (guards i table && true) (agree i.order i.columns r i.columns new) h in
    ((and_parts (guards i table) true outer.0).0, outer.1)

share_from : (table : Table) (new r : Row) (i : Index) → guards i table ≡ true → agree i.order i.columns r i.columns new ≡ true → shares None table new r i ≡ true
share_from table new r i g a = and_from (guards i table && true) _ (and_from (guards i table) true g refl) a

pub is_equal : (o : Ordering) → is_eq o ≡ true → o ≡ Equal
is_equal Less h = absurd cc
is_equal Equal h = refl
is_equal Greater h = absurd cc

pub same_row : (rows : List Row) → IsShaped shape.Table rows → (r source x : Row) (id : ℤ) → Has rows r → Has rows source → has_rowid id r ≡ true → id ≡ id_in (rowid x) → x ≡ rowid source ∷ [] → r ≡ source
same_row rows shaped r source x id there from has id_is x_is =
    let int = int_is (rowid source) (all_has _ rows source shaped.1 from) in
    let id_of : id ≡ id_in (rowid source) = id_is ∙ ap (λ y. id_in (rowid y)) x_is in
    let tie : is_eq (value_cmp (rowid r) (rowid source)) ≡ true = subst (λ v. is_eq (value_cmp (rowid r) v) ≡ true) (ap Int id_of ∙ sym int) has in
    tied_same rows r source shaped.0 there from (is_equal _ tie)

pub own_rowid : (r : Row) → is_int (rowid r) ≡ true → has_rowid (id_in (rowid r)) r ≡ true
own_rowid r int = rw (sym (int_is (rowid r) int), tied_itself value_cmp_total (rowid r))

-- the row is equal to the new one in some key
abbrev pub agreeing : TableDef → Row → Row → Bool
agreeing table_def new r = list_any (λ key. agree plain key r key new) table_def.keys

-- so it is where an index finds both
module _ (schema : Schema) (table_def : TableDef) (at tree : ℕ) (declared : IsDeclared schema table_def at tree) (guarded : IsGuarded schema.indexes (table_of table_def tree)) (new : Row) where
  sharing : (r : Row) → list_any (shares None (table_of table_def tree) new r) schema.indexes ≡ agreeing table_def new r
  sharing r =
      same_bool _ _
      (λ some.
      let i = some_has _ schema.indexes some in
      let parts = share_parts (table_of table_def tree) new r i.0 i.2 in
      let is = declared.keyed i.0 i.1 parts.0 in
      let agrees : agree plain i.0.columns r i.0.columns new ≡ true = subst (λ o. agree o i.0.columns r i.0.columns new ≡ true) is.0 parts.1 in
      some_from _ table_def.keys i.0.columns is.1 agrees)
      (λ some.
      let key = some_has _ table_def.keys some in
      let column_index = placed table_def.keys key.0 key.1 in
      let index = guarded column_index.0 key.0 column_index.1 in
      let order : get_or (plains table_def.keys) column_index.0 plain ≡ plain = plains_are table_def.keys column_index.0 in
      some_from _ schema.indexes _ index.1
      (share_from (table_of table_def tree) new r (automatic (table_of table_def tree) column_index.0 key.0 index.0) (eq-eqb tree tree refl)
      (subst (λ o. agree o key.0 r key.0 new ≡ true) (sym order) key.2)))

-- what ON CONFLICT finds, and what a step leaves
module _ (schema : Schema) (table_def : TableDef) (at tree : ℕ) (declared : IsDeclared schema table_def at tree) (guarded : IsGuarded schema.indexes (table_of table_def tree))
    (rows : List Row) (shaped : IsShaped shape.Table rows) (new : Row) (keyed : is_int (rowid new) ≡ true) where
  apart : is_taken rows new ≡ false → (r : Row) → Has rows r → agree plain (0 ∷ []) r (0 ∷ []) new ≡ false
  apart free r there =
      let other : is_eq (value_cmp (rowid r) (rowid new)) ≡ false = none_has (λ x. is_eq (value_cmp (rowid x) (rowid new))) rows r free there in
      rw (ints_apart (rowid r) (rowid new) (all_has _ rows r shaped.1 there) keyed other)

  pub conflict_meets : is_taken rows new ≡ false → (target : Option (List ℕ)) (r : Row) → Has rows r → conflicts target schema.indexes (table_of table_def tree) new r ≡ true → agreeing table_def new r ≡ true
  conflict_meets free target r there found = elim (or_cases _ _ found) [
    | inl same ↦ absurd (let one : agree plain (0 ∷ []) r (0 ∷ []) new ≡ true = (and_parts (aims target (0 ∷ [])) (agree plain (0 ∷ []) r (0 ∷ []) new) same).1 in let other = apart free r there in cc)
    | inr some ↦
        let i = some_has (shares target (table_of table_def tree) new r) schema.indexes some in
        let outer = and_parts (guards i.0 (table_of table_def tree) && aims target i.0.columns) _ i.2 in
        let guarding = (and_parts (guards i.0 (table_of table_def tree)) _ outer.0).0 in
        sym (sharing schema table_def at tree declared guarded new r) ∙ some_from (shares None (table_of table_def tree) new r) schema.indexes i.0 i.1 (share_from (table_of table_def tree) new r i.0 guarding outer.1)
  ]

  -- Where a step takes out only rows that the new row meets, the UNIQUE of each key says that it takes out each of them.
  module _ (ids : List ℤ) (free : is_taken (without_all rows ids) new ≡ false) (next : Trees) (fits : Fits schema next) (next_is : next tree ≡ put_row new (without_all rows ids)) where
    abbrev kept : List Row
    kept = without_all rows ids

    unmet : (r : Row) → Has kept r → agreeing table_def new r ≡ false
    unmet r there = false_from_ne_true _ (λ some.
        let table = table_of table_def tree in
        let i = some_has (shares None table new r) schema.indexes (sharing schema table_def at tree declared guarded new r ∙ some) in
        let parts = share_parts table new r i.0 i.2 in
        let stays : Has (next tree) r = subst (λ l. Has l r) (sym next_is) (put_all_keeps (new ∷ []) kept r (rw free refl) there) in
        let added : Has (next tree) new = subst (λ l. Has l new) (sym next_is) (has_put new kept) in
        let other : is_eq (value_cmp (rowid r) (rowid new)) ≡ false = none_has (λ x. is_eq (value_cmp (rowid x) (rowid new))) kept r free there in
        let differs = ints_differ (rowid r) (rowid new) (all_has _ rows r shaped.1 (without_all_has ids rows r there)) keyed other in
        let clash = some_from (λ x. agree i.0.order i.0.columns x i.0.columns new && differ (rowid x) (rowid new)) (next tree) r stays (and_from _ _ parts.1 differs) in
        let holds = all_has _ (next tree) new (all_has _ schema.tables table (fits.rules Unique (λ e. cc)) (has_got schema.tables at table declared.listed)) added in
        let quiet = rw (parts.0, clash) at (test_has _ schema.indexes i.0 holds i.1) in
        cc)

    pub left_is : ((r : Row) → Has rows r → list_any (λ id. has_rowid id r) ids ≡ true → agreeing table_def new r ≡ true) → kept ≡ filter (λ r. not (agreeing table_def new r)) rows
    left_is gone = without_is ids rows ∙ filter_on _ _ rows (λ r there. ap not (same_bool _ _ (gone r there) (λ meets. elim (cases_Bool (list_any (λ id. has_rowid id r) ids)) [
      | inl is ↦ is
      | inr isnt ↦
          let still : Has kept r = subst (λ l. Has l r) (sym (without_is ids rows)) (has_kept (λ x. not (list_any (λ id. has_rowid id x) ids)) rows r there (rw isnt refl)) in
          absurd (let none = unmet r still in cc)
    ])))
