-- Lists that agree at each position, and what is at some position.
use Rattle.std.proofs.Common.{◌≡◌, inl, inr, refl, sym, ap, ap₂, subst, List, ℕ, zero, suc, [], ◌∷◌, ◌<◌, false, map, length, get_or, slice_get, Some, ◌∙◌, arith, ◌+◌, ◌≤◌}
use Rattle.std.proofs.lemmas.Bool.{cases_Bool, cases_lt}
use Rattle.std.specs.List.{list_any, AllByRecursion, AllZip}
use Rattle.sqlite.specs.Table.{Table}
use Rattle.sqlite.specs.Schema.{Schema}
use Rattle.sqlite_schema.specs.Names.{same_name}
use Rattle.sqlite_schema.specs.declared.schema.Reference.{Reference}
use Rattle.sqlite_rules.specs.Lists.{Has}
use Rattle.sql_tables.specs.{TableDef, IsUnnamed}
use Rattle.std.proofs.lemmas.Option.{slice_get_within}
use Rattle.std.proofs.lemmas.Slice.Zip.{AllZip-long}
use Rattle.std.proofs.lemmas.List.{length-map}

pub same_map : {X Y : Type 0} (f : Y → X) (xs : List X) (ys : List Y) → length xs ≡ length ys → ((k : ℕ) (d : X) (e : Y) → k < length xs → get_or xs k d ≡ f (get_or ys k e)) → xs ≡ map f ys
same_map f [] [] len same = refl
same_map f [] (y ∷ ys) len same = absurd (omega arith)
same_map f (x ∷ xs) [] len same = absurd (omega arith)
same_map f (x ∷ xs) (y ∷ ys) len same = ap₂ (λ a b. a ∷ b) (same 0 x y (omega arith)) (same_map f xs ys (omega arith) (λ k d e low. same (suc k) d e (omega arith)))

-- where each text says what is at its position, so does the one at this position
pub there_too : {X Y : Type 0} (Says : List ℕ → Y → Type 0) (f : X → List ℕ) (texts : List X) (ys : List Y) → AllZip Says (map f texts) ys → (i : ℕ) (d : X) → i < length texts
    → (y : Y) × (slice_get ys i ≡ Some y) × Says (f (get_or texts i d)) y
there_too Says f [] ys says i d low = absurd (omega arith)
there_too Says f (t ∷ texts) [] says i d low = absurd says
there_too Says f (t ∷ texts) (y ∷ ys) says zero d low = (y, refl, says.0)
there_too Says f (t ∷ texts) (y ∷ ys) says (suc i) d low = there_too Says f texts ys says.1 i d (omega arith)

-- and what has a position has one below the number of texts
pub past_all : {X Y : Type 0} (Says : List ℕ → Y → Type 0) (f : X → List ℕ) (texts : List X) (ys : List Y) → AllZip Says (map f texts) ys → (count : ℕ) → length texts ≤ count → (i : ℕ) (y : Y) → slice_get ys i ≡ Some y → i < count
past_all Says f texts ys says count whole i y is = omega (arith, slice_get_within ys i y is, AllZip-long Says (map f texts) ys says, length-map texts f)

-- what holds of the earlier ones, and of this one, holds of one more
pub one_further : {X : Type 0} (P : X → Type 0) (xs : List X) (count : ℕ) (x : X) → slice_get xs count ≡ Some x → ((i : ℕ) (y : X) → i < count → slice_get xs i ≡ Some y → P y) → P x
    → (i : ℕ) (y : X) → i < count + 1 → slice_get xs i ≡ Some y → P y
one_further P xs count x is before here i y early at = elim (cases_lt i count) [
  | inl less ↦ before i y less at
  | inr last ↦
      let same : i ≡ count = omega arith in
      let both : Some x ≡ Some y = sym is ∙ subst (λ k. slice_get xs k ≡ Some y) same at in
      let one : x ≡ y = cc in
      subst P one here
]

pub image_at : {X Y : Type 0} (f : Y → X) (xs : List X) (ys : List Y) → xs ≡ map f ys → (k : ℕ) (d : X) (e : Y) → k < length xs → get_or xs k d ≡ f (get_or ys k e)
image_at f xs [] same k d e low = absurd (let none = ap length same in omega arith)
image_at f [] (y ∷ ys) same k d e low = absurd (omega arith)
image_at f (x ∷ xs) (y ∷ ys) same zero d e low = cc
image_at f (x ∷ xs) (y ∷ ys) same (suc k) d e low = let more : xs ≡ map f ys = cc in image_at f xs ys more k d e (omega arith)

-- what holds at each position holds of each element
pub each_has : {X : Type 0} (P : X → Type 0) (xs : List X) → ((k : ℕ) (d : X) → k < length xs → P (get_or xs k d)) → (x : X) → Has xs x → P x
each_has P [] h x none = absurd none
each_has P (y ∷ ys) h x (inl is) = subst P (sym is) (h 0 y (omega arith))
each_has P (y ∷ ys) h x (inr more) = each_has P ys (λ k d low. h (suc k) d (omega arith)) x more

pub has_at : {X : Type 0} (xs : List X) (k : ℕ) (d : X) → k < length xs → Has xs (get_or xs k d)
has_at [] k d low = absurd (omega arith)
has_at (x ∷ xs) zero d low = inl refl
has_at (x ∷ xs) (suc k) d low = inr (has_at xs k d (omega arith))

pub has_image : {X Y : Type 0} (f : X → Y) (xs : List X) (k : ℕ) (d : X) → k < length xs → Has (map f xs) (f (get_or xs k d))
has_image f [] k d low = absurd (omega arith)
has_image f (x ∷ xs) zero d low = inl refl
has_image f (x ∷ xs) (suc k) d low = inr (has_image f xs k d (omega arith))

pub image_none : {X Y : Type 0} (f : X → Y) (xs : List X) (y : Y) → ((k : ℕ) (d : X) → k < length xs → (y ≡ f (get_or xs k d)) → ⊥) → Has (map f xs) y → ⊥
image_none f [] y h none = none
image_none f (x ∷ xs) y h (inl is) = h 0 x (omega arith) is
image_none f (x ∷ xs) y h (inr more) = image_none f xs y (λ k d low. h (suc k) d (omega arith)) more

-- ---- foreign keys

unnamed_in : (name : List ℕ) (refs : List Reference) → list_any (λ ref. same_name name ref.parent) refs ≡ false → AllByRecursion (λ ref. same_name name ref.parent ≡ false) refs
unnamed_in name [] none = tt
unnamed_in name (r ∷ refs) none = elim (cases_Bool (same_name name r.parent)) [
  | inl hit ↦ absurd (let e = rw hit at none in cc)
  | inr miss ↦ (miss, unnamed_in name refs (rw miss at none))
]

named_in : (name : List ℕ) (refs : List Reference) → AllByRecursion (λ ref. same_name name ref.parent ≡ false) refs → list_any (λ ref. same_name name ref.parent) refs ≡ false
named_in name [] none = refl
named_in name (r ∷ refs) none = rw (none.0, named_in name refs none.1) refl

unnamed_from : (name : List ℕ) (tables : List Table) → list_any (λ (t : Table). list_any (λ ref. same_name name ref.parent) t.references) tables ≡ false
    → AllByRecursion (λ (t : Table). AllByRecursion (λ ref. same_name name ref.parent ≡ false) t.references) tables
unnamed_from name [] none = tt
unnamed_from name (t ∷ tables) none = elim (cases_Bool (list_any (λ ref. same_name name ref.parent) t.references)) [
  | inl hit ↦ absurd (let e = rw hit at none in cc)
  | inr miss ↦ (unnamed_in name t.references miss, unnamed_from name tables (rw miss at none))
]

named_from : (name : List ℕ) (tables : List Table) → AllByRecursion (λ (t : Table). AllByRecursion (λ ref. same_name name ref.parent ≡ false) t.references) tables
    → list_any (λ (t : Table). list_any (λ ref. same_name name ref.parent) t.references) tables ≡ false
named_from name [] none = refl
named_from name (t ∷ tables) none = rw (named_in name t.references none.0, named_from name tables none.1) refl

pub unnamed_as : (schema : Schema) (table_def : TableDef) (name : List ℕ) → name ≡ table_def.name → list_any (λ (t : Table). list_any (λ ref. same_name name ref.parent) t.references) schema.tables ≡ false → IsUnnamed schema table_def
unnamed_as schema table_def name is none = unnamed_from table_def.name schema.tables (rw is at none)

pub named_as : (schema : Schema) (table_def : TableDef) (name : List ℕ) → name ≡ table_def.name → IsUnnamed schema table_def → list_any (λ (t : Table). list_any (λ ref. same_name name ref.parent) t.references) schema.tables ≡ false
named_as schema table_def name is none = rw is (named_from table_def.name schema.tables none)
