-- Trees list one schema: each row of the list determines its table, its index or its view.
use Rattle.std.proofs.Common.{◌≡◌, ℕ, ◌+◌, ◌<◌, pos, List, [], ◌∷◌, codes, filter, Bool, true, false, Option, Some, None, inl, inr, refl, sym, ap, ap₂, subst, ◌∙◌, arith, get_or, ◌==◌, eq-eqb, MatchBool}
use Rattle.std.specs.List.{AllZip}
use Rattle.std.proofs.lemmas.Bool.{both_ways}
use Rattle.std.proofs.lemmas.Fmt.{decimal_injective}
use Rattle.std.proofs.lemmas.List.{append_cancel_left}
use Rattle.sqlite_value.specs.declared.value.Value.{Value}
use Rattle.sqlite_value.specs.declared.value.Value.TheVariants.{Null, Int, Text}
use Rattle.sqlite_value.specs.Order.{Row, column}
use Rattle.sqlite_trees.specs.Tree.{Trees, IsAscending}
use Rattle.sqlite_trees.specs.Objects.{catalog_tree}
use Rattle.sqlite_schema.specs.declared.schema.Table.{Table}
use Rattle.sqlite_schema.specs.declared.schema.View.{View as Stored}
use Rattle.sqlite_schema.specs.declared.schema.Index.{Index}
use Rattle.sqlite_schema.specs.declared.schema.Schema.{Schema}
use Rattle.sqlite_schema.specs.Names.{same_name}
use Rattle.sqlite_rules.specs.Lists.{Has}
use Rattle.sqlite_rules.proofs.ListLemmas.{all_has}
use Rattle.sqlite_catalog.proofs.StepLemmas.{same_itself}
use Rattle.sqlite_catalog.specs.Listing.{IsSound, IsTableRow, IsIndexRow, IsViewRow, IsDefined, IsAside, IsForeign, IsReadable, automatic, is_index_row}

one_zip : {A B : Type 0} (R : A → B → Type 0) → ((a : A) (b c : B) → R a b → R a c → b ≡ c) → (rows : List A) (bs cs : List B) → AllZip R rows bs → AllZip R rows cs → bs ≡ cs
one_zip R one [] [] [] p q = refl
one_zip R one [] [] (c ∷ cs) p q = absurd q
one_zip R one [] (b ∷ bs) cs p q = absurd p
one_zip R one (a ∷ rows) [] cs p q = absurd p
one_zip R one (a ∷ rows) (b ∷ bs) [] p q = absurd q
one_zip R one (a ∷ rows) (b ∷ bs) (c ∷ cs) p q = ap₂ (λ x xs. x ∷ xs) (one a b c p.0 q.0) (one_zip R one rows bs cs p.1 q.1)

-- ---- what a row determines

one_text : {v : Value} {a b : List ℕ} → v ≡ Text a → v ≡ Text b → a ≡ b
one_text p q = cc

one_tree : {v : Value} {a b : ℕ} → v ≡ Int (pos (a + 1)) → v ≡ Int (pos (b + 1)) → a ≡ b
one_tree {v} {a} {b} p q = let same : a + 1 ≡ b + 1 = cc in omega (arith, same)

-- ---- tables

one_table : (row : Row) (s t : Table) → IsTableRow row s → IsTableRow row t → s ≡ t
one_table row s t p q =
    let trees : s.tree ≡ t.tree = one_tree p.described.id q.described.id in
    let texts : p.sql ≡ q.sql = one_text p.sql_is q.sql_is in
    let made : p.defined.0 ≡ q.defined.0 = cc in
    p.defined.2 ∙ ap₂ (λ (m : Table) (n : ℕ). record m { tree = n }) made trees ∙ sym q.defined.2

one_listed : (tables : List Table) → IsAscending (λ s t. same_name s.name t.name ≡ false) tables → (s t : Table) → Has tables s → Has tables t → s.name ≡ t.name → s ≡ t
one_listed [] apart s t h k same = absurd h
one_listed (u ∷ tables) apart s t (inl h) (inl k) same = h ∙ sym k
one_listed (u ∷ tables) apart s t (inl h) (inr k) same =
    let other = all_has (λ (x : Table). same_name u.name x.name ≡ false) tables t apart.0 k in
    let none : same_name t.name t.name ≡ false = subst (λ n. same_name n t.name ≡ false) (ap (λ (x : Table). x.name) (sym h) ∙ same) other in
    let here = same_itself t.name in cc
one_listed (u ∷ tables) apart s t (inr h) (inl k) same =
    let other = all_has (λ (x : Table). same_name u.name x.name ≡ false) tables s apart.0 h in
    let none : same_name s.name s.name ≡ false = subst (λ n. same_name n s.name ≡ false) (ap (λ (x : Table). x.name) (sym k) ∙ sym same) other in
    let here = same_itself s.name in cc
one_listed (u ∷ tables) apart s t (inr h) (inr k) same = one_listed tables apart.1 s t h k same

-- ---- indexes

one_place : (table : Table) (m n : ℕ) (k l : List ℕ) (i j : ℕ) → m < 65536 → n < 65536 → (automatic table m k i).name ≡ (automatic table n l j).name → m ≡ n
one_place table m n k l i j p q same =
    let tails = append_cancel_left (codes "_") _ _ (append_cancel_left table.name _ _ (append_cancel_left (codes "sqlite_autoindex_") _ _ same)) in
    let next = decimal_injective (m + 1) (n + 1) (omega (arith, p)) (omega (arith, q)) tails in
    omega (arith, next)

one_defined : (table : Table) (i j : Index) (v : Value) → i.tree ≡ j.tree → i.name ≡ j.name → IsDefined table i v → IsDefined table j v → i ≡ j
one_defined table i j Null trees names (m, k, got, is, low) (n, l, found, equals, least) =
    let phase : m ≡ n = one_place table m n k l i.tree j.tree low least (ap (λ (x : Index). x.name) (sym is) ∙ names ∙ ap (λ (x : Index). x.name) equals) in
    let keys : k ≡ l = cc in
    is ∙ ap₂ (λ (x : ℕ × List ℕ) (t : ℕ). automatic table x.0 x.1 t) (ap₂ (λ x y. (x, y)) phase keys) trees ∙ sym equals
one_defined table i j (Text sql) trees names p q =
    let made : p.0 ≡ q.0 = cc in
    p.2 ∙ ap₂ (λ (x : Index) (t : ℕ). record x { tree = t; table = table.tree }) made trees ∙ sym q.2
one_defined table i j _ trees names p q = absurd p

one_index : (tables : List Table) → IsAscending (λ s t. same_name s.name t.name ≡ false) tables → (row : Row) (i j : Index) → IsIndexRow tables row i → IsIndexRow tables row j → i ≡ j
one_index tables apart row i j p q =
    let same : p.table ≡ q.table = one_listed tables apart p.table q.table p.listed q.listed (one_text p.described.owner_is q.described.owner_is) in
    one_defined q.table i j (column row 4) (one_tree p.described.id q.described.id) (one_text p.described.name_is q.described.name_is)
    (subst (λ t. IsDefined t i (column row 4)) same p.defined) q.defined

-- ---- views

one_answer : (P : Type 0) (a b : Bool) → MatchBool a P (¬ P) → MatchBool b P (¬ P) → a ≡ b
one_answer P true true p q = refl
one_answer P true false p q = absurd (q p)
one_answer P false true p q = absurd (p q)
one_answer P false false p q = refl

-- words that differ in a letter are two
differ : {a b : List ℕ} (phase : ℕ) → a ≡ b → (get_or a phase 0 == get_or b phase 0) ≡ false → ⊥
differ {a} {b} phase same other = both_ways _ other (eq-eqb (get_or a phase 0) (get_or b phase 0) (ap (λ (letters : List ℕ). get_or letters phase 0) same))

pub record IsSame (v w : Stored) : Type 0 where
  pub foreign : v.foreign ≡ w.foreign
  pub sql : v.sql ≡ w.sql
  pub binds : v.binds ≡ w.binds
  pub bound : v.is_bound ≡ w.is_bound

one_foreign : (row : Row) (v w : Stored) (kind : List ℕ) (code : ℕ) → IsForeign row v kind code → IsForeign row w kind code → (v.binds ≡ w.binds) × (v.is_bound ≡ w.is_bound)
one_foreign row v w kind code (inl p) (inl q) = (p.2 ∙ sym q.2, one_answer (IsReadable row) v.is_bound w.is_bound p.3 q.3)
one_foreign row v w kind code (inl p) (inr (inl q)) = absurd (differ 0 (sym p.0 ∙ q.0) refl)
one_foreign row v w kind code (inl p) (inr (inr q)) = absurd (differ 1 (sym p.0 ∙ q.0) refl)
one_foreign row v w kind code (inr (inl p)) (inl q) = absurd (differ 0 (sym q.0 ∙ p.0) refl)
one_foreign row v w kind code (inr (inl p)) (inr (inl q)) = (p.2 ∙ sym q.2, p.3 ∙ sym q.3)
one_foreign row v w kind code (inr (inl p)) (inr (inr q)) = absurd (differ 0 (sym p.0 ∙ q.0) refl)
one_foreign row v w kind code (inr (inr p)) (inl q) = absurd (differ 1 (sym q.0 ∙ p.0) refl)
one_foreign row v w kind code (inr (inr p)) (inr (inl q)) = absurd (differ 0 (sym q.0 ∙ p.0) refl)
one_foreign row v w kind code (inr (inr p)) (inr (inr q)) = (p.2 ∙ sym q.2, p.3 ∙ sym q.3)

no_view : (row : Row) (v : Stored) (code : ℕ) → IsForeign row v (codes "view") code → ⊥
no_view row v code (inl p) = differ 0 p.0 refl
no_view row v code (inr (inl p)) = differ 0 p.0 refl
no_view row v code (inr (inr p)) = differ 0 p.0 refl

one_aside : (row : Row) (v w : Stored) (kind owner : List ℕ) (code : ℕ) (e f : Option (List ℕ)) → IsAside row v kind owner code e → IsAside row w kind owner code f → v.foreign ≡ e → w.foreign ≡ f → IsSame v w
one_aside row v w kind owner code None None p q is equals = record { foreign = is ∙ sym equals; sql = one_text p.3 q.3; binds = p.6 ∙ sym q.6; bound = p.7 ∙ sym q.7 }
one_aside row v w kind owner code None (Some b) p q is equals = absurd (no_view row w code (subst (λ k. IsForeign row w k code) p.0 q.2))
one_aside row v w kind owner code (Some a) None p q is equals = absurd (no_view row v code (subst (λ k. IsForeign row v k code) q.0 p.2))
one_aside row v w kind owner code (Some a) (Some b) p q is equals =
    let reported = one_foreign row v w kind code p.2 q.2 in
    record { foreign = is ∙ ap Some (sym p.0 ∙ q.0) ∙ sym equals; sql = p.1 ∙ sym q.1; binds = reported.0; bound = reported.1 }

same_view : (v w : Stored) → v.name ≡ w.name → v.tree ≡ w.tree → IsSame v w → v ≡ w
same_view v w names trees same = λ i. record v {
  name = names i;
  tree = trees i;
  sql = same.sql i;
  foreign = same.foreign i;
  binds = same.binds i;
  is_bound = same.bound i;
}

one_view : (row : Row) (v w : Stored) → IsViewRow row v → IsViewRow row w → v ≡ w
one_view row v w p q =
    let kinds : p.kind ≡ q.kind = one_text p.described.kind_is q.described.kind_is in
    let owners : p.owner ≡ q.owner = one_text p.described.owner_is q.described.owner_is in
    let shapes : p.code ≡ q.code = sym p.described.shape_is ∙ q.described.shape_is in
    let was = subst (λ k. IsAside row v k q.owner q.code v.foreign) kinds (subst (λ o. IsAside row v p.kind o q.code v.foreign) owners (subst (λ n. IsAside row v p.kind p.owner n v.foreign) shapes p.aside)) in
    same_view v w (one_text p.described.name_is q.described.name_is) (one_tree p.described.id q.described.id)
    (one_aside row v w q.kind q.owner q.code v.foreign w.foreign was q.aside refl refl)

-- ---- schemas

pub one_schema : (s t : Schema) (trees : Trees) → IsSound s trees → IsSound t trees → s ≡ t
one_schema s t trees p q =
    let rows = trees catalog_tree in
    let l = p.lists.listed in let r = q.lists.listed in
    let tables : s.tables ≡ t.tables = one_zip IsTableRow one_table _ s.tables t.tables l.tables r.tables in
    let indexes : s.indexes ≡ t.indexes = one_zip (IsIndexRow t.tables) (one_index t.tables r.named) _ s.indexes t.indexes (subst (λ ts. AllZip (IsIndexRow ts) (filter is_index_row rows) s.indexes) tables l.indexes) r.indexes in
    let views : s.views ≡ t.views = one_zip IsViewRow one_view _ s.views t.views l.views r.views in
    ap (λ x. record s { tables = x }) tables ∙ ap (λ x. record s { tables = t.tables; indexes = x }) indexes ∙ ap (λ x. record t { views = x }) views
