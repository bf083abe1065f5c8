-- Every command leaves a valid state valid, and the opening state is valid.
use Rattle.std.proofs.Common.{◌≡◌, ◌∙◌, ℕ, ◌≤◌, refl, sym, ap, subst, is_some, is_none, true, List, [], ◌∷◌, Option, Some, None, arith, nat_lt, length, not, ◌+◌, ◌&&◌, filter, IfSome, ltb-false}
use Rattle.std.specs.List.{AllByRecursion}
use Rattle.std.specs.List.Sorted.{IsStrictlySortedBy}
use Rattle.std.proofs.lemmas.Bool.{false≢true}
use Rattle.std.proofs.lemmas.List.Elements.{recursion_from_All}
use Rattle.plant_base.specs.{is_id, State, opening, same, put, class_order, definition_order, batch_order, lot_order, hold_order, receipt_order, recall_order, control_lines_of, definition_at, lot_at, place_at, batch_at, job_at, recall_at, HasValues, HasBodyValues, HasPartValues, is_phase_number, are_parts, stamp_of, Batch, Class, Command, Definition, Envelope, Hold, Lot, Part, Place, Receipt, Refusal, Stamp, content_of, HasClassValues, HasDefinitionValues, HasLotValues, HasHoldValues}
use Rattle.plant_base.specs.declared.refusal.Refusal.TheVariants.{BadForm, MomentBack}
use Rattle.plant_base.specs.declared.states.Word.TheVariants.{Done}
use Rattle.plant_base.specs.declared.states.Event.TheVariants as event
use Rattle.plant_base.specs.declared.rows.MovementKind.TheVariants as kind
use Rattle.plant_base.specs.declared.commands.Command.TheVariants as body
use Rattle.plant_view.proofs.ListLemmas.{found_keeps, all_weaker, all_put, found_new, same_itself, all_filtered, and_left, not_false}
use Rattle.plant_view.specs.{sublot_standing, is_taken, is_made}
use Rattle.plant_view.specs.DecisionInvariant.{DecisionInvariant}
use Rattle.plant_view.proofs.CommandsPreserveInvariant.{passed, is_there}
use Rattle.plant_rules_production.specs.{event_row, close_batch, control_of_job, lines_in, released_batch, release, add_recipe, approve, withdraw, import_orders, cancel_order}
use Rattle.plant_rules.specs.{line_of, next_number, opened, with_lifted, def_of, def_at, def_of_parts, part_lines, is_well_formed_body, wrong, wrong_body, wrong_there, decoded, kept_for, step, step_body, unless_refused, noted, taken}
use Rattle.plant_rules.proofs.NextSublotNumber.{next_free}
use Rattle.plant_rules.proofs.MergeParts.{formed_some, formed_few, formed_apart, parts_there, parts_ready, parts_pass}
use Rattle.plant_rules.proofs.StepPreservesInvariant.{plain_preserves_invariant, noted_consistent, opening_has_invariant}
use Rattle.plant_rules.proofs.StockOutRows.{scrap_takes, consumption_takes}
use Rattle.plant_invariant.specs.StateInvariant.{StateInvariant}
use Rattle.plant_invariant.proofs.BatchesKeepToRecipes.{kept_with_batch}
use Rattle.plant_invariant.proofs.SublotBirths.{births_divided}
use Rattle.plant_invariant.proofs.LineValues.{row_values}
use Rattle.plant_invariant.proofs.CommandKeepsRows.{IsNextStamp, valid_catalogued, valid_held, valid_recalled, valid_planned, no_later, held_no_later, recalls_stay, valid_happened, valid_taken, valid_divided, valid_born, sub_small, one_line}
use Rattle.plant_invariant.specs.{AreValidReceipts, IsValidRecall}
use Rattle.plant_invariant.proofs.ReceiptsStayValid.{none_valid, valid_with}
use Rattle.plant_invariant.proofs.RecallsStayValid.{recalls_lifted}
use Rattle.plant_rules.proofs.AcceptedHasNumber.{failing, behind, not_failing, number_left}
use Rattle.plant_rules.proofs.ReceiptDecisions.{next_number as number_after, next_receipts}
use Rattle.plant_invariant.proofs.MergeIsOneBooking.{lines_birth, lines_lead, lines_asked, part_booking}

-- ---- definitions of lots

-- the definition of a lot that is there is an id
def_named : (s : State) → StateInvariant s → (lot : List ℕ) → is_some (lot_at s lot) ≡ true → is_id (def_at s lot) ≡ true
def_named s valid lot known = by (lot_at s lot) refl known
  where
    by : (o : Option Lot) → lot_at s lot ≡ o → is_some o ≡ true → is_id (def_of o) ≡ true
    by None e some = absurd (false≢true some)
    by (Some r) e some = (found_keeps HasLotValues (λ (l : Lot). same l.id lot) s.lots r valid.values.lots e).def

-- and so is that of the parts of a merge
parts_named : (s : State) → StateInvariant s → (ps : List Part) → 1 ≤ length ps → AllByRecursion (λ p. is_some (lot_at s p.lot) ≡ true) ps → is_id (def_of_parts s ps) ≡ true
parts_named s valid [] some known = absurd (omega (arith, some))
parts_named s valid (p ∷ ps) some known = def_named s valid p.lot known.0

-- ---- the commands

good_body : (s : State) → StateInvariant s → (t : Stamp) (c : Command) → IsNextStamp s t → HasBodyValues c → is_well_formed_body c ≡ true → wrong_body s c ≡ None → DecisionInvariant (step_body s t c) → StateInvariant (step_body s t c)
good_body s valid t (body.AddClass c) stamp values formed fine sound =
    let r : Class = record { id = c.class; name = c.name } in
    valid_catalogued s valid t stamp (put class_order r s.classes) s.definitions (all_put class_order HasClassValues r s.classes (record { id = values.0; name = values.1 }) valid.values.classes) valid.values.definitions sound
good_body s valid t (body.AddDefinition c) stamp values formed fine sound =
    let r : Definition = record { id = c.def; class = c.class; name = c.name; unit = c.unit } in
    valid_catalogued s valid t stamp s.classes (put definition_order r s.definitions) valid.values.classes (all_put definition_order HasDefinitionValues r s.definitions (record { id = values.0; class = values.1; name = values.2; unit = values.3 }) valid.values.definitions) sound
good_body s valid t (body.Receive c) stamp values formed fine sound =
    let known = passed (is_none (definition_at s c.def)) _ _ fine in
    let new = passed (is_some (lot_at s c.lot)) _ _ known.1 in
    valid_born s valid t stamp (record { id = c.lot; def = c.def }) c.place (line_of s.seq t kind.Received c.lot 0 c.amount ∷ []) new.0 (record { id = values.0; def = values.1 }) values.3
    (one_line s valid t stamp kind.Received c.lot 0 c.amount tt values.0 (omega arith) values.2 tt) (refl, tt) ((refl, refl), tt) (tt, tt) sound
good_body s valid t (body.Scrap c) stamp values formed fine sound =
    let lot = passed (is_none (lot_at s c.lot)) _ _ fine in
    let there = is_there _ (passed (is_none (place_at s c.lot c.sub)) _ _ lot.1).0 in
    valid_taken s valid t stamp kind.Scrapped scrap_takes c.lot c.sub c.amount (one_line s valid t stamp kind.Scrapped c.lot c.sub c.amount tt values.0 (sub_small s valid t stamp c.lot c.sub there) values.1 there) tt sound
good_body s valid t (body.Divide c) stamp values formed fine sound =
    let lot = passed (is_none (lot_at s c.lot)) _ _ fine in
    let sublot = passed (is_none (place_at s c.lot c.sub)) _ _ lot.1 in
    let enough = passed (nat_lt (sublot_standing s c.lot c.sub) c.amount) _ _ sublot.1 in
    let free = passed _ _ _ enough.1 in
    let next = next_number s c.lot in
    let small = ltb-false _ _ free.0 in
    let there = is_there _ sublot.0 in
    let p : Place = record { lot = c.lot; number = next; place = c.place } in
    let lines = line_of s.seq t (kind.Divided next) c.lot c.sub c.amount ∷ [] in
    valid_divided s valid t stamp p lines (ap is_some (next_free s c.lot)) (record { lot = values.0; number = small; place = values.2 })
    (one_line s valid t stamp (kind.Divided next) c.lot c.sub c.amount small values.0 (sub_small s valid t stamp c.lot c.sub there) values.1 there) (refl, tt) (tt, tt)
    (births_divided s valid.sound p lines refl (refl, tt) refl valid.births) sound
good_body s valid t (body.Split c) stamp values formed fine sound =
    let lot = passed (is_none (lot_at s c.lot)) _ _ fine in
    let sublot = passed (is_none (place_at s c.lot c.sub)) _ _ lot.1 in
    let new = passed (is_some (lot_at s c.new)) _ _ sublot.1 in
    let there = is_there _ sublot.0 in
    valid_born s valid t stamp (record { id = c.new; def = def_of (lot_at s c.lot) }) c.place (line_of s.seq t (kind.Split c.new) c.lot c.sub c.amount ∷ []) new.0 (record { id = values.2; def = def_named s valid c.lot (is_there _ lot.0) }) values.3
    (one_line s valid t stamp (kind.Split c.new) c.lot c.sub c.amount values.2 values.0 (sub_small s valid t stamp c.lot c.sub there) values.1 there) (refl, tt) ((refl, refl), tt) (tt, tt) sound
good_body s valid t (body.Merge c) stamp values formed fine sound =
    let ps = c.parts in
    let there = parts_there s ps _ fine in
    let ready = parts_ready s ps there in
    let new = passed (is_some (lot_at s c.new)) _ _ (sym (parts_pass s ps _ there) ∙ fine) in
    let parts = and_left (are_parts ps) true formed in
    let r : Lot = record { id = c.new; def = def_of_parts s ps } in
    valid_born s valid t stamp r c.place (part_lines s.seq t c.new 1 ps) new.0
    (record { id = values.0; def = parts_named s valid ps (formed_some ps parts) (all_weaker _ _ (λ (p : Part) f. f.known) ps ready) }) values.1
    (part_booking s valid t stamp c.new ps values.0 (recursion_from_All HasPartValues ps values.2) (all_weaker _ _ (λ (p : Part) f. ap is_some f.place) ps ready) (formed_few ps parts) (formed_apart ps parts))
    (lines_lead s.seq t c.new c.place ps) (lines_birth s.seq t c.new ps (formed_some ps parts)) (lines_asked s r t ps) sound
good_body s valid t (body.Hold c) stamp values formed fine sound =
    let r : Hold = record { lot = c.lot; id = c.hold; at = t.at; by = t.by; note = t.note } in
    valid_held s valid t stamp (put hold_order r s.holds)
    (all_put hold_order HasHoldValues r s.holds (record { lot = values.0; id = values.1; at = stamp.at; by = stamp.by; note = stamp.note }) valid.values.holds)
    (all_put hold_order (λ (h : Hold). h.at ≤ t.at) r s.holds (omega arith) (held_no_later s valid t stamp)) sound
good_body s valid t (body.Unhold c) stamp values formed fine sound =
    let stays = λ (h : Hold). not (same h.lot c.lot && same h.id c.hold) in
    valid_held s valid t stamp (filter stays s.holds) (all_filtered HasHoldValues stays s.holds valid.values.holds) (all_filtered (λ (h : Hold). h.at ≤ t.at) stays s.holds (held_no_later s valid t stamp)) sound
good_body s valid t (body.AddRecipe c) stamp values formed fine sound =
    let next = add_recipe s t c in
    valid_planned s valid t stamp next.recipes next.master_lines s.jobs s.batches s.control_lines (no_later s valid t stamp) valid.kept sound
good_body s valid t (body.Approve c) stamp values formed fine sound =
    valid_planned s valid t stamp (approve s t c).recipes s.master_lines s.jobs s.batches s.control_lines (no_later s valid t stamp) valid.kept sound
good_body s valid t (body.Withdraw c) stamp values formed fine sound =
    valid_planned s valid t stamp (withdraw s t c).recipes s.master_lines s.jobs s.batches s.control_lines (no_later s valid t stamp) valid.kept sound
good_body s valid t (body.ImportOrders c) stamp values formed fine sound =
    valid_planned s valid t stamp s.recipes s.master_lines (import_orders s t c).jobs s.batches s.control_lines (no_later s valid t stamp) valid.kept sound
good_body s valid t (body.CancelOrder c) stamp values formed fine sound =
    valid_planned s valid t stamp s.recipes s.master_lines (cancel_order s t c).jobs s.batches s.control_lines (no_later s valid t stamp) valid.kept sound
good_body s valid t (body.Release c) stamp values formed fine sound =
    let next = release s t c in
    let there = passed (is_none (job_at s c.order)) _ _ fine in
    let new = passed (is_some (batch_at s c.batch)) _ _ there.1 in
    valid_planned s valid t stamp s.recipes s.master_lines next.jobs next.batches next.control_lines
    (all_put batch_order (λ (b : Batch). b.at ≤ t.at) (released_batch t c) s.batches (omega arith) (no_later s valid t stamp))
    (kept_with_batch s valid.sound c.batch new.0 (lines_in (control_of_job s (job_at s c.order))) valid.kept) sound
good_body s valid t (body.BatchCommand c) stamp values formed fine sound =
    valid_happened s valid t stamp s.jobs (event_row s.seq t c.batch (event.Moved c.word)) (record { batch = values; phase = tt; at = stamp.at; by = stamp.by; note = stamp.note }) (refl, refl) sound
good_body s valid t (body.Settle c) stamp values formed fine sound =
    valid_happened s valid t stamp s.jobs (event_row s.seq t c.batch (event.Moved Done)) (record { batch = values; phase = tt; at = stamp.at; by = stamp.by; note = stamp.note }) (refl, refl) sound
good_body s valid t (body.PhaseDone c) stamp values formed fine sound =
    valid_happened s valid t stamp s.jobs (event_row s.seq t c.batch (event.PhaseDone c.phase)) (record { batch = values; phase = and_left (is_phase_number c.phase) true formed; at = stamp.at; by = stamp.by; note = stamp.note }) (refl, refl) sound
good_body s valid t (body.CloseBatch c) stamp values formed fine sound =
    valid_happened s valid t stamp (close_batch s t c).jobs (event_row s.seq t c.batch event.Closed) (record { batch = values; phase = tt; at = stamp.at; by = stamp.by; note = stamp.note }) (refl, refl) sound
good_body s valid t (body.Consume c) stamp values formed fine sound =
    let taken = not_failing _ fine (not (is_taken (control_lines_of s c.batch) (def_at s c.lot))) (λ untaken. search (failing, behind) depth 12) in
    let lot = passed _ _ _ (passed (is_none (batch_at s c.batch)) _ _ fine).1 in
    let sublot = passed (is_none (place_at s c.lot c.sub)) _ _ lot.1 in
    let there = is_there _ sublot.0 in
    valid_taken s valid t stamp (kind.Consumed c.batch) (consumption_takes c.batch) c.lot c.sub c.amount
    (one_line s valid t stamp (kind.Consumed c.batch) c.lot c.sub c.amount values.0 values.1 (sub_small s valid t stamp c.lot c.sub there) values.2 there) (not_false _ taken) sound
good_body s valid t (body.Produce c) stamp values formed fine sound =
    let made = not_failing _ fine (not (is_made (control_lines_of s c.batch) c.def)) (λ unmade. search (failing, behind) depth 12) in
    let batch = passed (is_none (batch_at s c.batch)) _ _ fine in
    let known = passed (is_none (definition_at s c.def)) _ _ batch.1 in
    let new = passed (is_some (lot_at s c.lot)) _ _ known.1 in
    let r : Lot = record { id = c.lot; def = c.def } in
    valid_born s valid t stamp r c.place (line_of s.seq t (kind.Produced c.batch) c.lot 0 c.amount ∷ []) new.0 (record { id = values.1; def = values.2 }) values.4
    (one_line s valid t stamp (kind.Produced c.batch) c.lot 0 c.amount values.0 values.1 (omega arith) values.3 tt) (refl, tt) ((refl, refl), tt)
    (ap (λ o. is_made (control_lines_of s c.batch) (def_of o)) (found_new lot_order r (λ (x : Lot). same x.id c.lot) s.lots (same_itself c.lot) new.0) ∙ not_false _ made, tt) sound
good_body s valid t (body.Recall c) stamp values formed fine sound =
    let known = passed (is_none (lot_at s c.lot)) _ _ fine in
    valid_recalled s valid t stamp (put recall_order (opened t c) s.recalls)
    (all_put recall_order (IsValidRecall t.at s.lots) (opened t c) s.recalls (record {
      values = record { id = values.0; lot = values.1; at = stamp.at; by = stamp.by; note = stamp.note; lifting = tt };
      lot = is_there _ known.0;
      past = omega arith;
      lifting = tt;
    }) (recalls_stay s valid t stamp)) sound
good_body s valid t (body.Lift c) stamp values formed fine sound =
    valid_recalled s valid t stamp (with_lifted t (recall_at s c.recall) s.recalls)
    (recalls_lifted s.lots s.at t stamp.on (record { at = stamp.at; by = stamp.by; note = stamp.note }) s.recalls valid.recalls c.recall) sound

unless_valid : (w : Option Refusal) (s next : State) → StateInvariant s → (w ≡ None → StateInvariant next) → StateInvariant (unless_refused w s next)
unless_valid None s next valid h = h refl
unless_valid (Some r) s next valid h = valid

-- a command that isn't refused, but for its receipt
plain_valid : (s : State) → StateInvariant s → (e : Envelope) → HasValues e → is_well_formed_body e.body ≡ true → wrong_there s e ≡ None → StateInvariant (step_body s (stamp_of e) e.body)
plain_valid s valid e values formed fine =
    let moment = passed (nat_lt e.at s.at) MomentBack (wrong_body s e.body) fine in
    let next = plain_preserves_invariant s valid.sound e values formed fine in
    good_body s valid (stamp_of e) e.body (record { at = values.at; by = values.by; note = values.note; on = ltb-false _ _ moment.0; room = number_left s e.body moment.1 }) values.body formed moment.1 next

-- and with it
noted_valid : (s : State) → StateInvariant s → (e : Envelope) → HasValues e → (r : Option (List ℕ)) → IfSome r (λ id. is_id id ≡ true) → (next : State) → StateInvariant next → next.seq ≡ s.seq + 1 → next.receipts ≡ s.receipts → StateInvariant (noted r (content_of e) next)
noted_valid s valid e values None named next h number kept = h
noted_valid s valid e values (Some id) named next h number kept =
    let sound = noted_consistent (Some id) (content_of e) next h.sound in
    let v = h.values in
    record {
      sound = sound;
      values = row_values _ sound v.seq v.at v.classes v.definitions v.events v.lots v.places v.movements v.holds;
      births = h.births;
      kept = h.kept;
      numbers = h.numbers;
      moments = h.moments;
      recalls = h.recalls;
      receipts =
          subst (λ (x : ℕ × List Receipt). AreValidReceipts x.0 (put receipt_order (record { reference = id; seq = x.0; content = content_of e }) x.1)) {x = (s.seq + 1, s.receipts)} {y = (next.seq, next.receipts)} (λ i. (sym number i, sym kept i)) (valid_with s.seq s.receipts valid.receipts e values id named);
    }

pub step_preserves_validity : (s : State) → StateInvariant s → (e : Envelope) → HasValues e → StateInvariant (step s e)
unfolding step wrong
step_preserves_validity s valid e values = unless_valid (wrong s e) s (taken (kept_for s e) s e) valid (λ fine.
    let formed = passed (not (is_well_formed_body e.body)) BadForm (decoded (kept_for s e) (content_of e) (wrong_there s e)) fine in
    by (kept_for s e) (not_false _ formed.0) formed.1)
  where
    by : (k : Option Receipt) → is_well_formed_body e.body ≡ true → decoded k (content_of e) (wrong_there s e) ≡ None → StateInvariant (taken k s e)
    by None formed fine = noted_valid s valid e values e.reference values.reference (step_body s (stamp_of e) e.body) (plain_valid s valid e values formed fine) (number_after s (stamp_of e) e.body) (next_receipts s (stamp_of e) e.body)
    by (Some r) formed fine = valid

pub opening_is_valid : StateInvariant opening
unfolding IsStrictlySortedBy
opening_is_valid = record {
  sound = opening_has_invariant;
  values = row_values opening opening_has_invariant (omega arith) refl tt tt tt tt tt tt tt;
  births = record { numbered = tt; each = tt };
  kept = tt;
  numbers = record {
    movements = tt;
    events = tt;
    movements_given = tt;
    events_given = tt;
    apart = tt;
    bookings = λ n. record { numbered = tt; few = omega arith; merged = tt; distinct = tt };
    entered_before = tt;
  };
  moments = record { rising = tt; bookings = tt; released = tt; held = tt };
  receipts = none_valid;
  recalls = tt;
}
