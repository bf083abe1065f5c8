-- A page of what comes after a lot is all there is of each lot before its last, and of all where nothing comes after it.
use Rattle.std.proofs.Common.{◌≡◌, ◌∙◌, ℕ, ◌+◌, ◌-◌, ◌<◌, ◌≤◌, Bool, true, false, cond, nat_lt, List, [], ◌∷◌, ◌++◌, filter, take, drop, length, get_or, slice_get, option_map, Option, Some, None, refl, sym, ap, arith, if◌then◌else◌, is_eq, is_lt, Ordering, Less, Greater, append-nil, length-take, length-drop, get_or-take, get_or-drop, take_all}
use Rattle.std.specs.Ordering.{ordering_index, ordering_reverse}
use Rattle.std.proofs.lemmas.Bool.{and_parts, false≢true}
use Rattle.std.proofs.lemmas.Bool.Decides.{nat_tests}
use Rattle.std.proofs.lemmas.Cmp.{nat_list_cmp_total}
use Rattle.std.proofs.lemmas.Option.{get_or_from_slice_get, slice_get-get_or}
use Rattle.plant_base.specs.{id_cmp, same}
use Rattle.plant_view.proofs.ListLemmas.{same_id}
use Rattle.plant_questions.specs.{AreRead, Rise, end_of, is_before, is_between, rows_after, rows_of, page_of, page_size, is_after}
use Rattle.plant_questions.specs.declared.page.Page.{Page}
use Rattle.plant_questions.proofs.RowsOfLot.{prefix_and_rest, is_of, none_pass, rise_prefix, rises}

last_index : (o : Ordering) → 2 ≤ ordering_index o → is_eq o ≡ false
last_index Greater le = refl
last_index _ le = absurd (omega (arith, le))

behind : (a b : List ℕ) (o : Ordering) → id_cmp a b ≡ o → is_lt o ≡ true → ordering_index (id_cmp b a) ≡ 2
behind a b Less e h = ap ordering_index (nat_list_cmp_total.antisymm b a ∙ ap ordering_reverse e)
behind a b _ e h = absurd (false≢true h)

module _ {R : Type 0} (lot_of : R → List ℕ) where
  -- the rows of a lot that comes after this one are among those that do
  among : (cursor : Option (List ℕ)) (lot : List ℕ) → is_after cursor lot ≡ true → (all : List R) → rows_of lot_of lot (rows_after lot_of cursor all) ≡ rows_of lot_of lot all
  among cursor lot later [] = refl
  among cursor lot later (r ∷ all) = by (among cursor lot later all) (is_after cursor (lot_of r)) refl (same (lot_of r) lot) refl
    where
      by : rows_of lot_of lot (rows_after lot_of cursor all) ≡ rows_of lot_of lot all → (a : Bool) → is_after cursor (lot_of r) ≡ a → (b : Bool) → same (lot_of r) lot ≡ b → filter (λ q. same (lot_of q) lot) (cond a (r ∷ rows_after lot_of cursor all) (rows_after lot_of cursor all)) ≡ cond b (r ∷ rows_of lot_of lot all) (rows_of lot_of lot all)
      by more true e true f = rw f (ap (λ l. r ∷ l) more)
      by more true e false f = rw f more
      by more false e true f = absurd (false≢true (sym e ∙ ap (is_after cursor) (same_id (lot_of r) lot f) ∙ later))
      by more false e false f = more

  module _ (rows : List R) (rise : Rise lot_of rows) (lot : List ℕ) where
    abbrev prefix : List R
    prefix = take page_size rows

    -- after a row of a later lot there is none of this one
    cut_at : (z : R) → slice_get prefix (length prefix - 1) ≡ Some z → is_lt (id_cmp lot (lot_of z)) ≡ true → page_size < length rows → rows_of lot_of lot prefix ≡ rows_of lot_of lot rows
    cut_at z last before more = sym (prefix_and_rest (λ r. same (lot_of r) lot) page_size rows ∙ ap (λ l. rows_of lot_of lot prefix ++ l) none ∙ append-nil (rows_of lot_of lot prefix))
      where
        long : length prefix ≡ page_size
        long = let whole = length-take page_size rows in omega (arith, whole, more)

        there : (d : R) → get_or rows (page_size - 1) d ≡ z
        there d = sym (get_or-take page_size rows (page_size - 1) d (omega arith)) ∙ ap (λ n. get_or prefix (n - 1) d) (sym long) ∙ get_or_from_slice_get prefix (length prefix - 1) z d last

        none : filter (λ r. same (lot_of r) lot) (drop page_size rows) ≡ []
        none = none_pass (λ r. same (lot_of r) lot) (drop page_size rows) (λ k d within.
            let longer = length-drop page_size rows in
            let up = rises lot_of lot rows rise (page_size - 1) (page_size + k) d (omega arith) (omega (arith, within, longer)) in
            let at : ordering_index (id_cmp (lot_of (get_or rows (page_size - 1) d)) lot) ≡ 2 = ap (λ r. ordering_index (id_cmp (lot_of r) lot)) (there d) ∙ behind lot (lot_of z) (id_cmp lot (lot_of z)) refl before in
            is_of lot_of lot (get_or (drop page_size rows) k d) ∙ ap (λ r. is_eq (id_cmp (lot_of r) lot)) (get_or-drop page_size rows k d) ∙ last_index (id_cmp (lot_of (get_or rows (page_size + k) d)) lot) (omega (arith, up, at)))

    -- a page after which more rows come has rows
    cut_by : (o : Option R) → slice_get prefix (length prefix - 1) ≡ o → is_before (option_map lot_of o) lot ≡ true → page_size < length rows → rows_of lot_of lot prefix ≡ rows_of lot_of lot rows
    cut_by None last before more = absurd (none_there prefix (let whole = length-take page_size rows in omega (arith, whole, more)) last)
      where
        none_there : (xs : List R) → 0 < length xs → slice_get xs (length xs - 1) ≡ None → ⊥
        none_there [] some e = absurd (omega (arith, some))
        none_there (x ∷ xs) some e = let is = slice_get-get_or (x ∷ xs) (length (x ∷ xs) - 1) x (omega arith) in absurd cc
    cut_by (Some z) last before more = cut_at z last before more

    whole_prefix : (more : Bool) → nat_lt page_size (length rows) ≡ more → is_before (if more then option_map lot_of (slice_get prefix (length prefix - 1)) else None) lot ≡ true → rows_of lot_of lot prefix ≡ rows_of lot_of lot rows
    whole_prefix true e before = cut_by (slice_get prefix (length prefix - 1)) refl before (grind (arith, nat_tests))
    whole_prefix false e before = ap (rows_of lot_of lot) (take_all page_size rows (grind (arith, nat_tests)))

  -- what was read of such a page
  pub page_read : (all : List R) (cursor : Option (List ℕ)) (page : Page R) → Rise lot_of (rows_after lot_of cursor all) → page ≡ page_of (rows_after lot_of cursor all)
      → AreRead lot_of all page.rows true cursor (end_of lot_of page.rows page.has_more)
  page_read all cursor page rise is =
      let here = rows_after lot_of cursor all in
      rw is (record {
        rise = rise_prefix lot_of page_size here rise;
        whole = λ lot within.
            let bounds = and_parts (is_after cursor lot) (is_before (end_of lot_of (page_of here).rows (page_of here).has_more) lot) within in
            whole_prefix here rise lot (nat_lt page_size (length here)) refl bounds.1 ∙ among cursor lot bounds.0 all;
      })

  -- where nothing was read
  pub none_read : (all : List R) (after before : Option (List ℕ)) → AreRead lot_of all [] false after before
  none_read all after before = record { rise = λ k d low high. absurd (omega (arith, high)); whole = λ lot within. absurd (false≢true within) }

  -- what is found of a lot between the bounds
  pub run_is : (all rows run : List R) (is_read : Bool) (after before : Option (List ℕ)) (lot : List ℕ) → is_between is_read after before lot ≡ true → (Rise lot_of rows → run ≡ rows_of lot_of lot rows)
      → AreRead lot_of all rows is_read after before → run ≡ rows_of lot_of lot all
  run_is all rows run is_read after before lot within found read = found read.rise ∙ read.whole lot within
