-- What the answer of a query of one table is.
use Rattle.std.proofs.Common.{◌≡◌, refl, ap, ◌∙◌, List, ℕ, ◌^◌, Bool, [], ◌∷◌, map, None, Option, nat_le, if◌then◌else◌, inl, inr, filter, flat_map, IsPermutation}
use Rattle.std.proofs.lemmas.List.Sorted.{IsPermutation-map}
use Rattle.sqlite_value.specs.Order.{Row, column}
use Rattle.sqlite_trees.specs.Tree.{Trees}
use Rattle.sqlite_sql.specs.Term.{Term, eval_all}
use Rattle.sqlite_sql.specs.Query.{IsAnswer, Output, output, Query}
use Rattle.sqlite_sql.specs.Program.{overlay}
use Rattle.sqlite_schema.specs.declared.schema.Table.{Table}
use Rattle.sqlite_schema.specs.Names.{place_of}
use Rattle.sqlite_resolve.specs.declared.scope.Output.{Output as Shown}
use Rattle.sqlite_draft.specs.Query.{query_of}
use Rattle.sql_queries.proofs.ShownRows.{at_places, passes_all}
use Rattle.sql_tables.proofs.WhereGiven.{Entry, same_either}
use Rattle.sql_queries.proofs.QueryMeaning.{outputs_of, draft_up_to}
use Rattle.std.proofs.lemmas.Bool.{cases_Bool}

abbrev pub places_of : Table → List Entry → List ℕ
places_of table = map (λ (e : Entry). place_of table e.at)

pub no_overlay : (db : Trees) (t : ℕ) → overlay db [] t ≡ db t
no_overlay db t =
    let none : Option (List Row) = None in
    rw (same_either (nat_le (2 ^ 31) t) none) refl

pub shows : (table : Table) (params row : Row) (es : List Entry) → eval_all (map (λ (o : Shown). o.term) (outputs_of table es)) (params ∷ row ∷ []) ≡ at_places (places_of table es) row
shows table params row [] = refl
shows table params row (e ∷ es) = ap (λ more. column row (place_of table e.at) ∷ more) (shows table params row es)

pub one_or_none : {X Y : Type 0} (test : X → Bool) (f : X → Y) (xs : List X) → flat_map (λ x. if test x then f x ∷ [] else []) xs ≡ map f (filter test xs)
one_or_none test f [] = refl
one_or_none test f (x ∷ xs) = elim (cases_Bool (test x)) [
  | inl is ↦ rw is (ap (λ more. f x ∷ more) (one_or_none test f xs))
  | inr isnt ↦ rw isnt (one_or_none test f xs)
]

module _ (table : Table) (es by : List Entry) (terms : List Term) (count : Term) (db : Trees) (params : Row) (rows : List Row) (a : IsAnswer (query_of (draft_up_to table es by terms count)) (overlay db []) params rows) where
  abbrev asked : Query
  asked = query_of (draft_up_to table es by terms count)

  abbrev picked : List Row
  picked = filter (passes_all params terms) (db table.tree)

  -- what is kept are the rows that pass
  pub kept_are : a.kept ≡ map (output asked) (map (λ (r : Row). params ∷ r ∷ []) picked)
  kept_are =
      let staged : a.staged ≡ map (λ (r : Row). params ∷ r ∷ []) picked = a.grouped ∙ rw (no_overlay db table.tree) (one_or_none (passes_all params terms) (λ r. params ∷ r ∷ []) (db table.tree)) in
      a.distinct ∙ ap (map (output asked)) staged

  each : (rs : List Row) → map (λ (o : Output). o.1) (map (output asked) (map (λ (r : Row). params ∷ r ∷ []) rs)) ≡ map (at_places (places_of table es)) rs
  each [] = refl
  each (r ∷ rs) = rw (shows table params r es) (ap (λ more. at_places (places_of table es) r ∷ more) (each rs))

  -- and what is put in order are these rows, as they are shown
  pub answer_lists : IsPermutation (map (at_places (places_of table es)) picked) (map (λ (o : Output). o.1) a.ordered)
  answer_lists =
      let shown : map (λ (o : Output). o.1) a.kept ≡ map (at_places (places_of table es)) picked = rw kept_are (each picked) in
      rw shown at (IsPermutation-map (λ (o : Output). o.1) a.kept a.ordered a.same)
