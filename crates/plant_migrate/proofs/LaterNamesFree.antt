-- Whether the later tables can be made, by what a test of their names and one of the table of counts find.
use Rattle.std.proofs.Common.{◌≡◌, ◌∙◌, refl, sym, subst, List, Bool, true, false, not, All, ◌↔◌}
use Rattle.std.proofs.lemmas.Bool.{false≢true}
use Rattle.std.proofs.lemmas.Option.{get_or_from_slice_get, slice_get-get_or, slice_get_within}
use Rattle.sqlite.specs.Does.{lacks_sequence}
use Rattle.sqlite.specs.Schema.{Schema}
use Rattle.sql_tables.specs.{TableDef, IsFree, AreFree}

module _ (schema : Schema) (table_defs : List TableDef) where
  all_are_free : All (IsFree schema) table_defs → lacks_sequence schema ≡ false → AreFree table_defs schema
  all_are_free free counted = record {
    each = λ i table_def is. subst (IsFree schema) (get_or_from_slice_get table_defs i table_def table_def is) (free i table_def (slice_get_within table_defs i table_def is));
    counted = counted;
  }

  pub each_is_free : AreFree table_defs schema → All (IsFree schema) table_defs
  each_is_free free i d low = free.each i _ (slice_get-get_or table_defs i d low)

  pub names_taken : (a : Bool) → (a ≡ true) ↔ All (IsFree schema) table_defs → a ≡ false → (a ≡ true) ↔ AreFree table_defs schema
  names_taken a names taken = (λ free. absurd (false≢true (sym taken ∙ free)), λ all. names.1 (each_is_free all))

  pub names_free : (a b : Bool) → (a ≡ true) ↔ All (IsFree schema) table_defs → b ≡ lacks_sequence schema → a ≡ true → (not b ≡ true) ↔ AreFree table_defs schema
  names_free a true names counts free = (λ reported. absurd (false≢true reported), λ all. absurd (false≢true (sym all.counted ∙ sym counts)))
  names_free a false names counts free = (λ reported. all_are_free (names.0 free) (sym counts), λ all. refl)
