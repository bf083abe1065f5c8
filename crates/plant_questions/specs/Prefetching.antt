-- Rows of lots that were read ahead of those that are asked for.
use Rattle.std.specs.Prelude.{◌≡◌, ◌-◌, ◌==◌, ℕ, Bool, true, false, not, ◌&&◌, if◌then◌else◌, List, [], Option, Some, None, filter, length, map, nat_eq, option_map, slice_get, take, IsSortedByKey}
use Rattle.std.specs.List.{starts_with}
use Rattle.std.specs.Ordering.{is_lt}
use Rattle.plant_base.specs.{State, id_cmp, same, Hold, Lot, Sublot}
use Rattle.plant_view.specs.{sublot_row}
use Rattle.plant_questions.specs.FetchPolicy.{after_hit, after_miss, first_policy, is_due, row_with}
use Rattle.plant_questions.specs.Pages.{page_of}
use Rattle.plant_questions.specs.Worklists.{is_after}
use Rattle.plant_questions.specs.declared.page.Page.{Page}
use Rattle.plant_questions.specs.declared.prefetch.ReadAhead.{ReadAhead}

-- the rows of one lot
abbrev pub rows_of : {R : Type 0} → (R → List ℕ) → List ℕ → List R → List R
rows_of lot_of lot rows = filter (λ r. same (lot_of r) lot) rows

-- the rows of all lots whose ids come after this one
abbrev pub rows_after : {R : Type 0} → (R → List ℕ) → Option (List ℕ) → List R → List R
rows_after lot_of cursor rows = filter (λ r. is_after cursor (lot_of r)) rows

-- the lot's id comes before this one, where there is one
abbrev pub is_before : Option (List ℕ) → List ℕ → Bool
is_before None lot = true
is_before (Some end) lot = is_lt (id_cmp lot end)

-- rows were read, and the lot is between those that bound them
abbrev pub is_between : Bool → Option (List ℕ) → Option (List ℕ) → List ℕ → Bool
is_between is_read after before lot = is_read && (is_after after lot && is_before before lot)

-- the last lot of a page after which more rows come: some of its rows may be among these
abbrev pub end_of : {R : Type 0} → (R → List ℕ) → List R → Bool → Option (List ℕ)
end_of lot_of rows has_more = if has_more then option_map lot_of (slice_get rows (length rows - 1)) else None

abbrev pub Rise : {R : Type 0} → (R → List ℕ) → List R → Type 0
Rise lot_of rows = IsSortedByKey lot_of id_cmp rows

-- They are in the order of their lots, and of each lot between the bounds they are all rows of the list.
pub record AreRead {R : Type 0} (lot_of : R → List ℕ) (all rows : List R) (is_read : Bool) (after before : Option (List ℕ)) : Type 0 where
  pub rise : Rise lot_of rows
  pub whole : (lot : List ℕ) → is_between is_read after before lot ≡ true → rows_of lot_of lot rows ≡ rows_of lot_of lot all

abbrev pub IsValidPrefetch : {R : Type 0} → (R → List ℕ) → List R → ReadAhead R → Type 0
IsValidPrefetch lot_of all a = AreRead lot_of all a.rows a.is_read a.after a.before

-- ---- lot by lot

-- nothing was read or asked for
abbrev pub unread : {R : Type 0} → Bool → ReadAhead R
unread at_once = record { rows = []; is_read = false; after = None; before = None; asked = None; last = None; policy = first_policy at_once }

-- the ids are of one length, and but for the last character the same
abbrev pub are_near : List ℕ → Option (List ℕ) → Bool
are_near lot None = false
are_near lot (Some other) = length lot == length other && starts_with nat_eq other (take (length lot - 1) lot)

-- the lot is asked for, after the one that was
abbrev pub asked_for : {R : Type 0} → List ℕ → ReadAhead R → ReadAhead R
asked_for lot a = record a { asked = Some lot; last = a.asked }

-- what was read answers the lot
abbrev pub is_answered : {R : Type 0} → List ℕ → ReadAhead R → Bool
is_answered lot a = is_between a.is_read a.after a.before lot

-- how many lots in a row are each near the one before, with this one
abbrev pub row_at : {R : Type 0} → List ℕ → ReadAhead R → ℕ
row_at lot a = row_with (are_near lot a.last) a.policy.row

-- a page is due for the lot that is asked for
abbrev pub is_page_due : {R : Type 0} → List ℕ → ReadAhead R → Bool
is_page_due lot a = is_due (row_at lot a) a.is_read a.policy

-- a page is read for a lot that what was read doesn't answer, where one is due
abbrev pub wants_page : {R : Type 0} → List ℕ → ReadAhead R → Bool
wants_page lot a = not (is_answered lot a) && is_page_due lot a

-- what is counted of it
abbrev pub counted : {R : Type 0} → List ℕ → ReadAhead R → ReadAhead R
counted lot a = record a { policy = if is_answered lot a then after_hit a.policy else after_miss (row_at lot a) (is_page_due lot a) a.policy }

-- a page of what comes after the lot before is there instead of what was read
abbrev pub with_page : {R : Type 0} → (R → List ℕ) → Page R → ReadAhead R → ReadAhead R
with_page lot_of page a = record a { rows = page.rows; is_read = true; after = a.last; before = end_of lot_of page.rows page.has_more }

-- the lot is asked for, and a page read where one is wanted
abbrev pub prefetched : {R : Type 0} → (R → List ℕ) → List R → List ℕ → ReadAhead R → ReadAhead R
prefetched lot_of all lot a =
    let now = asked_for lot a in
    if wants_page lot now then with_page lot_of (page_of (rows_after lot_of a.asked all)) (counted lot now) else counted lot now

-- ---- of a state

abbrev pub IsValidLotPrefetch : State → ReadAhead Lot → Type 0
IsValidLotPrefetch s a = IsValidPrefetch (λ l. l.id) s.lots a

abbrev pub IsValidSublotPrefetch : State → ReadAhead Sublot → Type 0
IsValidSublotPrefetch s a = IsValidPrefetch (λ r. r.lot) (map (sublot_row s.movements) s.places) a

abbrev pub IsValidHoldPrefetch : State → ReadAhead Hold → Type 0
IsValidHoldPrefetch s a = IsValidPrefetch (λ h. h.lot) s.holds a

abbrev pub prefetched_lots : State → List ℕ → ReadAhead Lot → ReadAhead Lot
prefetched_lots s lot a = prefetched (λ l. l.id) s.lots lot a

abbrev pub prefetched_sublots : State → List ℕ → ReadAhead Sublot → ReadAhead Sublot
prefetched_sublots s lot a = prefetched (λ r. r.lot) (map (sublot_row s.movements) s.places) lot a

abbrev pub prefetched_holds : State → List ℕ → ReadAhead Hold → ReadAhead Hold
prefetched_holds s lot a = prefetched (λ h. h.lot) s.holds lot a
