-- The rows of a merge make the tables of the next state, part by part.
use Rattle.std.proofs.Common.{◌≡◌, ◌∙◌, ℕ, ◌+◌, ◌-◌, true, false, cond, List, [], ◌∷◌, ◌++◌, map, is_some, refl, sym, ap, append_assoc, arith, ◌==◌, ◌&&◌, sum_by, append-nil}
use Rattle.std.specs.List.{AllByRecursion}
use Rattle.std.proofs.lemmas.List.Sums.{sum_by-cons}
use Rattle.plant_base.specs.{State, same, put, newest_schema, lot_order, place_order, lot_at, place_at, Merge, Movement, Part, Place, Stamp}
use Rattle.plant_view.proofs.ListLemmas.{put_there, all_weaker, key_itself, place_order_total, test_tie, all_two, sum_map}
use Rattle.plant_stock.specs.{entered, left, entering, leaving, total_of}
use Rattle.plant_stock.proofs.StockAfterMovement.{entered_push, left_push}
use Rattle.plant_view.specs.{sublot_standing, tables_of, changed, changed_all, sublot_order, sublot_row, edge_rows}
use Rattle.plant_view.specs.DecisionInvariant.{DecisionInvariant}
use Rattle.plant_view.specs.TableRows.{Tables}
use Rattle.plant_view.specs.declared.change.RowChange.TheVariants as row
use Rattle.plant_rules.specs.{part_line, part_lines, def_of_parts, merge, text_of, found_of, found_rows, total_found, def_found, merge_rows, is_some_blocked}
use Rattle.plant_rules.proofs.MergeKeepsMarks.{marks_merged}
use Rattle.plant_view.proofs.EdgeRowOrder.{edges_pushed}
use Rattle.plant_view.proofs.StockColumn.{sublots_taken, sublots_added, not_among, apart_fails, lots_apart, no_place, nothing_entered, nothing_left}
use Rattle.plant_view.proofs.RowKeys.{ids_apart}
use Rattle.plant_rules.proofs.EdgeRowChanges.{changed_append}
use Rattle.plant_rules.proofs.MergeParts.{Apart, AreApart, IsReady}

module _ (s : State) (sound : DecisionInvariant s) (seq : ℕ) (t : Stamp) (new : List ℕ) (none : is_some (lot_at s new) ≡ false) where
  -- the new lot gets nothing that a known lot's sublot counts
  brings_elsewhere : (p : Part) (k amount : ℕ) (lot : List ℕ) (n : ℕ) → is_some (lot_at s lot) ≡ true → entering (part_line seq t new k p) lot n ≡ 0
  brings_elsewhere p k amount lot n known = ap (λ b. cond (b && 0 == n) p.amount 0) (ids_apart (λ l. is_some (lot_at s l)) lot new known none).1

  -- a part that waits is as before
  waits : (ms : List Movement) (k : ℕ) (p q : Part) → IsReady s ms q → Apart p q → IsReady s (ms ++ part_line seq t new k p ∷ []) q
  waits ms k p q ready apart =
      let m = part_line seq t new k p in
      let takes : leaving m q.lot q.sub ≡ 0 = ap (λ b. cond b p.amount 0) apart in
      let brings = brings_elsewhere p k 0 q.lot q.sub ready.known in
      record {
        place = ready.place;
        known = ready.known;
        entered_same = omega (arith, entered_push ms m q.lot q.sub, brings, ready.entered_same);
        left_same = omega (arith, left_push ms m q.lot q.sub, takes, ready.left_same);
      }

  -- the column after one part
  one_part : (ms : List Movement) (k : ℕ) (p : Part) → IsReady s ms p
      → put sublot_order (record { lot = p.lot; number = p.sub; place = text_of (place_at s p.lot p.sub); stock = sublot_standing s p.lot p.sub - p.amount }) (map (sublot_row ms) s.places) ≡ map (sublot_row (ms ++ part_line seq t new k p ∷ [])) s.places
  one_part ms k p ready =
      let m = part_line seq t new k p in
      let now = ms ++ m ∷ [] in
      let place = text_of (place_at s p.lot p.sub) in
      let here : Place = record { lot = p.lot; number = p.sub; place = place } in
      let goes : leaving m p.lot p.sub ≡ p.amount = ap (λ b. cond b p.amount 0) (key_itself p.lot p.sub) in
      let brings = brings_elsewhere p k 0 p.lot p.sub ready.known in
      let stock : sublot_standing s p.lot p.sub - p.amount ≡ entered now p.lot p.sub - left now p.lot p.sub = omega (arith, entered_push ms m p.lot p.sub, left_push ms m p.lot p.sub, goes, brings, ready.entered_same, ready.left_same) in
      ap (λ n. put sublot_order (record { lot = p.lot; number = p.sub; place = place; stock = n }) (map (sublot_row ms) s.places)) stock
      ∙ sublots_taken ms m here s.places sound.stock.places (record { entering = not_among s sound new 0 p.amount none; leaving = λ q apart. ap (λ b. cond b p.amount 0) (apart_fails here q apart) })
      ∙ ap (map (sublot_row now)) (put_there place_order place_order_total here (λ r. same r.lot p.lot && r.number == p.sub) (test_tie here) s.places sound.stock.places ready.place)

  -- and after all of them
  pub all_parts : (base : Tables) (ms : List Movement) (k : ℕ) (ps : List Part) → AllByRecursion (IsReady s ms) ps → AreApart ps
      → changed_all (found_rows seq t new k (map (found_of s) ps)) (record base { sublots = map (sublot_row ms) s.places; movements = ms; edges = edge_rows ms })
      ≡ record base { sublots = map (sublot_row (ms ++ part_lines seq t new k ps)) s.places; movements = ms ++ part_lines seq t new k ps; edges = edge_rows (ms ++ part_lines seq t new k ps) }
  all_parts base ms k [] ready apart = λ i. record base { sublots = map (sublot_row (nothing i)) s.places; movements = nothing i; edges = edge_rows (nothing i) }
    where
      nothing : ms ≡ ms ++ []
      nothing = sym (append-nil ms)
  all_parts base ms k (p ∷ ps) ready apart =
      let m = part_line seq t new k p in
      let now = ms ++ m ∷ [] in
      let rest = found_rows seq t new (k + 1) (map (found_of s) ps) in
      let lines = part_lines seq t new (k + 1) ps in
      (λ i. changed_all rest (record base { sublots = one_part ms k p ready.0 i; movements = now; edges = sym (edges_pushed ms m) i }))
      ∙ all_parts base now (k + 1) ps (all_two _ _ _ (λ q r a. waits ms k p q r a) ps ready.1 apart.0) apart.1
      ∙ (λ i. record base { sublots = map (sublot_row (append_assoc ms (m ∷ []) lines i)) s.places; movements = append_assoc ms (m ∷ []) lines i; edges = edge_rows (append_assoc ms (m ∷ []) lines i) })

  -- what the lines bring to the new lot
  entered_lines : (ms : List Movement) (k : ℕ) (ps : List Part) → entered (ms ++ part_lines seq t new k ps) new 0 ≡ entered ms new 0 + sum_by (λ p. p.amount) ps
  entered_lines ms k [] = ap (λ xs. entered xs new 0) (append-nil ms) ∙ omega arith
  entered_lines ms k (p ∷ ps) =
      let m = part_line seq t new k p in
      let lines = part_lines seq t new (k + 1) ps in
      let brings : entering m new 0 ≡ p.amount = ap (λ b. cond b p.amount 0) (key_itself new 0) in
      let again = ap (λ xs. entered xs new 0) (append_assoc ms (m ∷ []) lines) in
      omega (arith, again, entered_lines (ms ++ m ∷ []) (k + 1) ps, entered_push ms m new 0, brings, sum_by-cons (λ (p : Part). p.amount) p ps)

  left_lines : (ms : List Movement) (k : ℕ) (ps : List Part) → AllByRecursion (λ p. is_some (lot_at s p.lot) ≡ true) ps → left (ms ++ part_lines seq t new k ps) new 0 ≡ left ms new 0
  left_lines ms k [] known = ap (λ xs. left xs new 0) (append-nil ms)
  left_lines ms k (p ∷ ps) known =
      let m = part_line seq t new k p in
      let lines = part_lines seq t new (k + 1) ps in
      let stays : leaving m new 0 ≡ 0 = ap (λ b. cond (b && p.sub == 0) p.amount 0) (lots_apart s p.lot new known.0 none) in
      let again = ap (λ xs. left xs new 0) (append_assoc ms (m ∷ []) lines) in
      omega (arith, again, left_lines (ms ++ m ∷ []) (k + 1) ps known.1, left_push ms m new 0, stays)

pub def_same : (s : State) (ps : List Part) → def_found (map (found_of s) ps) ≡ def_of_parts s ps
def_same s [] = refl
def_same s (p ∷ ps) = refl

-- the new lot, the parts, and the new sublot with the total
tables_after : (s : State) → DecisionInvariant s → (t : Stamp) (c : Merge) → is_some (lot_at s c.new) ≡ false → AllByRecursion (IsReady s s.movements) c.parts → AreApart c.parts → is_some_blocked s c.parts ≡ false
    → changed_all (row.Meta (record { schema = newest_schema; position = record { seq = s.seq + 1; at = t.at } }) ∷ row.Lot (record { id = c.new; def = def_of_parts s c.parts }) ∷ (found_rows s.seq t c.new 1 (map (found_of s) c.parts) ++ row.Sublot (record { lot = c.new; number = 0; place = c.place; stock = total_of c.parts }) ∷ [])) (tables_of newest_schema s) ≡ tables_of newest_schema (merge s t c)
tables_after s sound t c none ready apart free =
    let ps = c.parts in
    let ms = s.movements ++ part_lines s.seq t c.new 1 ps in
    let q : Place = record { lot = c.new; number = 0; place = c.place } in
    let base : Tables = record (tables_of newest_schema s) { meta = record { schema = newest_schema; position = record { seq = s.seq + 1; at = t.at } }; lots = put lot_order (record { id = c.new; def = def_of_parts s ps }) s.lots } in
    let away = no_place s sound c.new 0 none in
    let known = all_weaker (IsReady s s.movements) (λ (p : Part). is_some (lot_at s p.lot) ≡ true) (λ p r. r.known) ps ready in
    let stock : total_of ps ≡ entered ms c.new 0 - left ms c.new 0 = omega (arith, entered_lines s sound s.seq t c.new none s.movements 1 ps, left_lines s sound s.seq t c.new none s.movements 1 ps known, nothing_entered s sound c.new 0 away, nothing_left s sound c.new 0 away) in
    changed_append (found_rows s.seq t c.new 1 (map (found_of s) ps)) (row.Sublot (record { lot = c.new; number = 0; place = c.place; stock = total_of ps }) ∷ []) base
    ∙ (λ i. changed (row.Sublot (record { lot = c.new; number = 0; place = c.place; stock = stock i })) (all_parts s sound s.seq t c.new none base s.movements 1 ps ready apart i))
    ∙ (λ i. record base { sublots = sublots_added ms q s.places sound.stock.places i; movements = ms; edges = edge_rows ms; marks = sym (marks_merged s s.seq t c.new 1 ps free) i })

pub merge_tables : (s : State) → DecisionInvariant s → (t : Stamp) (c : Merge) → is_some (lot_at s c.new) ≡ false → AllByRecursion (IsReady s s.movements) c.parts → AreApart c.parts → is_some_blocked s c.parts ≡ false
    → changed_all (merge_rows s.seq t c (map (found_of s) c.parts)) (tables_of newest_schema s) ≡ tables_of newest_schema (merge s t c)
merge_tables s sound t c none ready apart free =
    let total : total_found (map (found_of s) c.parts) ≡ total_of c.parts = sum_map (λ f. f.part.amount) (found_of s) c.parts in
    (λ i. changed_all (row.Meta (record { schema = newest_schema; position = record { seq = s.seq + 1; at = t.at } }) ∷ row.Lot (record { id = c.new; def = def_same s c.parts i }) ∷ (found_rows s.seq t c.new 1 (map (found_of s) c.parts) ++ row.Sublot (record { lot = c.new; number = 0; place = c.place; stock = total i }) ∷ [])) (tables_of newest_schema s))
    ∙ tables_after s sound t c none ready apart free
