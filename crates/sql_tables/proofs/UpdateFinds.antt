-- Which rows the query of an update of one row finds.
use Rattle.std.proofs.Common.{◌≡◌, ◌⊎◌, ap₂, inl, inr, ℕ, ℤ, List, [], ◌∷◌, map, flat_map, cond, Bool, true, false, None, refl, sym, ap, subst, ◌∙◌, is_eq, IsPermutation}
use Rattle.std.specs.List.{list_all}
use Rattle.std.proofs.lemmas.Bool.{and_parts, cases_Bool}
use Rattle.std.proofs.lemmas.Cmp.{tied_itself}
use Rattle.std.proofs.lemmas.List.Sorted.{IsPermutation-sym}
use Rattle.sqlite_value.specs.declared.value.Value.TheVariants.{Null, Int}
use Rattle.sqlite_value.specs.declared.keys.Collation.TheVariants.{Binary}
use Rattle.sqlite_value.specs.Order.{Row, column, value_cmp}
use Rattle.sqlite_value.proofs.OrderLemmas.{value_cmp_total}
use Rattle.sqlite_value.proofs.KeyLemmas.{first_key-plain}
use Rattle.sqlite_trees.specs.Tree.{Trees, rowid}
use Rattle.sqlite_trees.specs.View.{IsShaped, is_int}
use Rattle.sqlite_trees.specs.declared.store.Shape.TheVariants as shape
use Rattle.sqlite_trees.proofs.ListLemmas.{all-permutation}
use Rattle.sqlite_sql.specs.Ops.{binary}
use Rattle.sqlite_sql.specs.Term.{Term, lit, col, holds, eval_all}
use Rattle.sqlite_sql.specs.Query.{Query, Output, output, matches, inner, end, IsAnswer}
use Rattle.sqlite_schema.specs.Rules.{equal}
use Rattle.sqlite_resolve.specs.Terms as term
use Rattle.sqlite_rules.specs.Lists.{Has}
use Rattle.sqlite_rules.specs.Edit.{id_in}
use Rattle.sqlite_rules.proofs.ListLemmas.{all_has, all_from, has_right}
use Rattle.sqlite_rules.proofs.PlaceLemmas.{tied_same}
use Rattle.sqlite_rules.proofs.ProbeLemmas.{has_mapped, mapped_has}
use Rattle.sqlite_rules.proofs.TableLemmas.{int_is}
use Rattle.sql_tables.proofs.RowConflicts.{ints_apart, is_equal}

-- ---- the rows that pass, each as it is shown

has_matched : {X Y : Type 0} (p : X → Bool) (f : X → Y) (xs : List X) (y : Y) → Has (flat_map (λ x. cond (p x) (f x ∷ []) []) xs) y → (x : X) × Has xs x × (p x ≡ true) × (y ≡ f x)
has_matched p f [] y h = absurd h
has_matched p f (x ∷ xs) y h = elim (cases_Bool (p x)) [
  | inl is ↦
      let here : (y ≡ f x) ⊎ Has (flat_map (λ z. cond (p z) (f z ∷ []) []) xs) y = rw is at h in
      elim here [ inl same ↦ (x, inl refl, is, same) | inr there ↦ let r = has_matched p f xs y there in (r.0, inr r.1, r.2, r.3) ]
  | inr isnt ↦ let r = has_matched p f xs y (rw isnt at h) in (r.0, inr r.1, r.2, r.3)
]

matched_has : {X Y : Type 0} (p : X → Bool) (f : X → Y) (xs : List X) (x : X) → Has xs x → p x ≡ true → Has (flat_map (λ z. cond (p z) (f z ∷ []) []) xs) (f x)
matched_has p f [] x h passes = absurd h
matched_has p f (z ∷ xs) x (inl same) passes = rw (← same, passes) (inl refl)
matched_has p f (z ∷ xs) x (inr later) passes = has_right (cond (p z) (f z ∷ []) []) (flat_map (λ w. cond (p w) (f w ∷ []) []) xs) (f x) (matched_has p f xs x later passes)

has_permuted : {X : Type 0} (xs ys : List X) (x : X) → IsPermutation xs ys → Has ys x → Has xs x
has_permuted xs ys x same = all_has (Has xs) ys x (all-permutation (Has xs) xs ys same (all_from (Has xs) xs (λ e h. h)))

abbrev pub showing : ℕ → List Term → List Term → Query
showing tree tests project = record { from = inner tree end; filter = tests; group = None; project = project; distinct = false; collations = []; order = []; limit = lit Null; offset = lit Null }

pub record AreShown (tests project : List Term) (rows : List Row) (given : Row) (found : List Row) : Type 0 where
  pub sound : (x : Row) → Has found x → (r : Row) × Has rows r × (list_all (holds (given ∷ r ∷ [])) tests ≡ true) × (x ≡ eval_all project (given ∷ r ∷ []))
  pub complete : (r : Row) → Has rows r → list_all (holds (given ∷ r ∷ [])) tests ≡ true → Has found (eval_all project (given ∷ r ∷ []))

pub found_shown : (tree : ℕ) (tests project : List Term) (db : Trees) (given : Row) (found : List Row) → IsAnswer (showing tree tests project) db given found → AreShown tests project (db tree) given found
found_shown tree tests project db given found answer =
    let q = showing tree tests project in
    let test = λ (r : Row). list_all (holds (given ∷ r ∷ [])) tests in
    let env = λ (r : Row). given ∷ r ∷ [] in
    let all = matches db tests (inner tree end) (given ∷ []) in
    let kept : answer.kept ≡ map (output q) all = answer.distinct ∙ ap (map (output q)) answer.grouped in
    record {
      sound = λ x h.
          let o = has_mapped (λ (k : Output). k.1) answer.ordered x (subst (λ l. Has l x) answer.shown h) in
          let e = has_mapped (output q) all o.0 (subst (λ l. Has l o.0) kept (has_permuted answer.kept answer.ordered o.0 answer.same o.1)) in
          let r = has_matched test env (db tree) e.0 e.1 in
          (r.0, r.1, r.2, o.2 ∙ ap (λ (k : Output). k.1) (e.2 ∙ ap (output q) r.3));
      complete = λ r h passes.
          let o = output q (env r) in
          let there = subst (λ l. Has l o) (sym kept) (mapped_has (output q) all (env r) (matched_has test env (db tree) r h passes)) in
          subst (λ l. Has l (eval_all project (env r))) (sym answer.shown) (mapped_has (λ (k : Output). k.1) answer.ordered o (has_permuted answer.ordered answer.kept o (IsPermutation-sym _ _ answer.same) there));
    }

abbrev pub OnceOrTwice : {X : Type 0} → List X → X → Type 0
OnceOrTwice {X} found x = (found ≡ x ∷ []) ⊎ ((more : List X) × (found ≡ x ∷ x ∷ more))

once_or_twice : {X : Type 0} (found : List X) (x : X) → ((y : X) → Has found y → y ≡ x) → Has found x → OnceOrTwice found x
once_or_twice [] x each some = absurd some
once_or_twice (y ∷ []) x each some = inl (ap (λ z. z ∷ []) (each y (inl refl)))
once_or_twice (y ∷ z ∷ more) x each some = inr (more, ap₂ (λ a b. a ∷ b ∷ more) (each y (inl refl)) (each z (inr (inl refl))))

-- ---- the row with a rowid that is given

abbrev pub rowid_test : ℕ → List Term
rowid_test column_index = term.equal Binary (col 1 0) (col 0 column_index) ∷ []

ints_equal : (n : ℤ) → equal Binary (Int n) (Int n) ≡ true
unfolding binary
ints_equal n = rw (tied_itself value_cmp_total (Int n)) refl

module _ (rows : List Row) (shaped : IsShaped shape.Table rows) (source : Row) (there : Has rows source) (given : Row) (column_index : ℕ) (is : column given column_index ≡ rowid source) where
  int : is_int (rowid source) ≡ true
  int = all_has _ rows source shaped.1 there

  source_passes : list_all (holds (given ∷ source ∷ [])) (rowid_test column_index) ≡ true
  source_passes = rw (is, int_is (rowid source) int, ints_equal (id_in (rowid source))) refl

  passing_source : (r : Row) → Has rows r → list_all (holds (given ∷ r ∷ [])) (rowid_test column_index) ≡ true → r ≡ source
  passing_source r had passes = elim (cases_Bool (is_eq (value_cmp (rowid r) (rowid source)))) [
    | inl tie ↦ tied_same rows r source shaped.0 had there (is_equal _ tie)
    | inr other ↦
        let apart : equal Binary (rowid r) (rowid source) ≡ false = rw first_key-plain at (ints_apart (rowid r) (rowid source) (all_has _ rows r shaped.1 had) int other) in
        let holds : equal Binary (rowid r) (column given column_index) ≡ true = (and_parts _ true passes).0 in
        absurd (let e = rw is at holds in cc)
  ]

  -- that row as it is shown, at most twice as far as is known here
  pub found_shows : (params : Row) (project : List Term) (found : List Row) → AreShown (rowid_test column_index) project rows given found → ((r : Row) → eval_all project (given ∷ r ∷ []) ≡ rowid r ∷ rowid r ∷ params)
      → OnceOrTwice found (rowid source ∷ rowid source ∷ params)
  found_shows params project found are shown = once_or_twice found (rowid source ∷ rowid source ∷ params)
      (λ y had. let r = are.sound y had in r.3 ∙ (shown r.0 ∙ ap (λ (s : Row). rowid s ∷ rowid s ∷ params) (passing_source r.0 r.1 r.2)))
      (subst (Has found) (shown source) (are.complete source there source_passes))
