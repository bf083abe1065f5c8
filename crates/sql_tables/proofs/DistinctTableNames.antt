-- Table definitions that are apart.
use Rattle.std.proofs.Common.{◌≡◌, inl, inr, ℕ, ◌+◌, ◌<◌, zero, suc, List, [], ◌∷◌, true, false, not, Some, sym, subst, slice_get, arith}
use Rattle.std.proofs.lemmas.Bool.{and_parts, cases_order, not-true}
use Rattle.std.specs.List.{list_all}
use Rattle.sqlite.specs.Change.{automatics}
use Rattle.sqlite_schema.specs.declared.schema.Index.{Index}
use Rattle.sqlite_schema.specs.Names.{same_name}
use Rattle.sqlite_catalog.proofs.StepLemmas.{same_itself}
use Rattle.sql_tables.specs.{TableDef, table_of, differs_from, all_differ, AreApart}

-- two table definitions whose names differ, and the names of the one's indexes from that of the other
pub record Differ (f g : TableDef) : Type 0 where
  pub names : same_name f.name g.name ≡ false
  pub guards : (tree : ℕ) → list_all (λ (i : Index). not (same_name i.name g.name)) (automatics (table_of f tree) 0 (tree + 1) f.keys) ≡ true

differ_of : (f : TableDef) (gs : List TableDef) (i : ℕ) (g : TableDef) → ((tree : ℕ) → differs_from tree f gs ≡ true) → slice_get gs i ≡ Some g → Differ f g
differ_of f [] i g d is = absurd cc
differ_of f (h ∷ gs) zero g d is =
    let same : h ≡ g = cc in
    subst (Differ f) same (record { names = not-true _ (and_parts _ _ (d 0)).0; guards = λ tree. (and_parts _ _ (and_parts _ _ (d tree)).1).0 })
differ_of f (h ∷ gs) (suc i) g d is = differ_of f gs i g (λ tree. (and_parts _ _ (and_parts _ _ (d tree)).1).1) is

pub differ_at : (fs : List TableDef) → ((tree : ℕ) → all_differ tree fs ≡ true) → (i j : ℕ) (f g : TableDef) → i < j → slice_get fs i ≡ Some f → slice_get fs j ≡ Some g → Differ f g
differ_at [] d i j f g before is there = absurd cc
differ_at (h ∷ fs) d zero zero f g before is there = absurd (omega arith)
differ_at (h ∷ fs) d zero (suc j) f g before is there =
    let same : h ≡ f = cc in
    subst (λ x. Differ x g) same (differ_of h fs j g (λ tree. (and_parts (differs_from tree h fs) (all_differ tree fs) (d tree)).0) there)
differ_at (h ∷ fs) d (suc i) zero f g before is there = absurd (omega arith)
differ_at (h ∷ fs) d (suc i) (suc j) f g before is there = differ_at fs (λ tree. (and_parts (differs_from tree h fs) (all_differ tree fs) (d tree)).1) i j f g (omega arith) is there

pub apart_at : (table_defs : List TableDef) → AreApart table_defs → (i j : ℕ) (f g : TableDef) → i < j → slice_get table_defs i ≡ Some f → slice_get table_defs j ≡ Some g → Differ f g
apart_at table_defs apart = differ_at table_defs apart.apart

apart_names : {a b : List ℕ} → same_name a b ≡ false → a ≡ b → ⊥
apart_names {a} {b} differ same = let equal = same_itself a in let none = rw (sym same) at differ in cc

-- equal names are at equal positions
pub same_column_index : (table_defs : List TableDef) → AreApart table_defs → (i j : ℕ) (f g : TableDef) → slice_get table_defs i ≡ Some f → slice_get table_defs j ≡ Some g → f.name ≡ g.name → i ≡ j
same_column_index table_defs apart i j f g is there same = elim (cases_order i j) [
  | inl at ↦ at
  | inr (inl before) ↦ absurd (apart_names (apart_at table_defs apart i j f g before is there).names same)
  | inr (inr after) ↦ absurd (apart_names (apart_at table_defs apart j i g f after there is).names (sym same))
]
