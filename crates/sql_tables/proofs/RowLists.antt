-- Facts on lists of rows.
use Rattle.std.proofs.Common.{◌≡◌, inl, inr, ℤ, List, [], ◌∷◌, filter, Bool, true, false, not, ◌&&◌, ◌||◌, cond, refl, sym, ◌∙◌, Ordering, Less, Equal, Greater, is_eq, IsPermutation}
use Rattle.std.proofs.lemmas.Bool.{cases_Bool, or_parts, and_parts}
use Rattle.std.specs.Ordering.{match_ordering}
use Rattle.std.specs.List.{list_any}
use Rattle.std.proofs.lemmas.List.Sorted.{IsPermutation-refl, IsPermutation-trans, IsPermutation-sym, IsPermutation-cons, IsPermutation-middle}
use Rattle.sqlite.specs.declared.types.Value.{Value}
use Rattle.sqlite.specs.declared.types.Value.TheVariants.{Null, Int, Text}
use Rattle.sqlite.specs.Order.{Row, value_cmp}
use Rattle.sqlite.specs.Cast.{cast, cast_all}
use Rattle.sqlite.specs.Kind.{Kind}
use Rattle.sqlite.specs.Kind.TheVariants as kind
use Rattle.sqlite_schema.specs.declared.schema.Column.{Column}
use Rattle.sqlite_sql.specs.Ops.{unary}
use Rattle.sqlite_trees.specs.Tree.{rowid, has_rowid, put_row, without_rowid}
use Rattle.sqlite_rules.specs.Lists.{Has}
use Rattle.sqlite_rules.specs.Edit.{without_all, is_taken}
use Rattle.sql_tables.specs.{fits_kind, fits_columns}
use Rattle.sqlite_catalog.proofs.ListFacts.{filter_all}

pub same_bool : (a b : Bool) → (a ≡ true → b ≡ true) → (b ≡ true → a ≡ true) → a ≡ b
same_bool true b f g = sym (f refl)
same_bool false true f g = g refl
same_bool false false f g = refl

pub filter_on : {X : Type 0} (p q : X → Bool) (xs : List X) → ((x : X) → Has xs x → p x ≡ q x) → filter p xs ≡ filter q xs
filter_on p q [] h = refl
filter_on p q (x ∷ xs) h = rw (h x (inl refl), filter_on p q xs (λ y k. h y (inr k)))

filter_both : {X : Type 0} (p q : X → Bool) (xs : List X) → filter q (filter p xs) ≡ filter (λ x. p x && q x) xs
filter_both p q [] = refl
filter_both p q (x ∷ xs) = elim (cases_Bool (p x)) [
  | inl is ↦ rw (is, filter_both p q xs)
  | inr isnt ↦ rw (isnt, filter_both p q xs)
]

nor : (a b : Bool) → (not a && not b) ≡ not (a || b)
nor true b = refl
nor false b = refl

pub without_is : (ids : List ℤ) (rows : List Row) → without_all rows ids ≡ filter (λ r. not (list_any (λ id. has_rowid id r) ids)) rows
without_is [] rows = sym (filter_all (λ _. true) rows (λ _ _. refl))
without_is (id ∷ ids) rows =
    without_is ids (without_rowid id rows) ∙ (filter_both (λ r. not (has_rowid id r)) (λ r. not (list_any (λ j. has_rowid j r) ids)) rows
    ∙ filter_on _ _ rows (λ r _. nor (has_rowid id r) (list_any (λ j. has_rowid j r) ids)))

-- a row whose rowid is free comes where its rowid belongs
pub put_moves : (new : Row) (rows : List Row) → is_taken rows new ≡ false → IsPermutation (new ∷ rows) (put_row new rows)
put_moves new [] free = IsPermutation-refl (new ∷ [])
put_moves new (r ∷ rs) free =
    let each = or_parts (is_eq (value_cmp (rowid r) (rowid new))) (is_taken rs new) free in
    go (value_cmp (rowid r) (rowid new)) each.0 (put_moves new rs each.1)
  where
    go : (o : Ordering) → is_eq o ≡ false → IsPermutation (new ∷ rs) (put_row new rs) → IsPermutation (new ∷ r ∷ rs) (match_ordering o (r ∷ put_row new rs) (new ∷ rs) (new ∷ r ∷ rs))
    go Less h moved =
        let turned : IsPermutation (new ∷ r ∷ rs) (r ∷ new ∷ rs) = IsPermutation-sym _ _ (IsPermutation-middle (r ∷ []) new rs) in
        IsPermutation-trans _ _ _ turned (IsPermutation-cons r (new ∷ rs) (put_row new rs) moved)
    go Equal h moved = absurd cc
    go Greater h moved = IsPermutation-refl (new ∷ r ∷ rs)

-- ---- what a column makes of a value of its type

either : (b : Bool) (x : Value) → cond b x x ≡ x
either true x = refl
either false x = refl

pub cast_null : cast kind.Integer Null ≡ Null
unfolding unary
cast_null = either _ Null

pub cast_int : (n : ℤ) → cast kind.Integer (Int n) ≡ Int n
unfolding unary
cast_int n = either _ (Int n)

cast_fits : (k : Kind) (v : Value) → fits_kind k v ≡ true → cast k v ≡ v
cast_fits kind.Integer Null h = cast_null
cast_fits kind.Text Null h = refl
cast_fits kind.Integer (Int n) h = cast_int n
cast_fits kind.Text (Text t) h = refl
cast_fits _ _ h = absurd cc

pub cast_columns : (cs : List Column) (vs : Row) → fits_columns cs vs ≡ true → cast_all cs vs ≡ vs
cast_columns [] [] h = refl
cast_columns [] (v ∷ vs) h = absurd cc
cast_columns (c ∷ cs) [] h = absurd cc
cast_columns (c ∷ cs) (v ∷ vs) h =
    let each = and_parts _ _ h in
    rw (cast_fits c.kind v (and_parts _ _ each.0).0, cast_columns cs vs each.1)
