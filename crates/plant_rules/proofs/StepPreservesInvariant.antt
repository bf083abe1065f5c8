-- Every command keeps a consistent state consistent, and the opening state is consistent.
use Rattle.std.proofs.Common.{◌≡◌, ◌∙◌, ℕ, ◌≤◌, refl, sym, ap, is_some, true, Option, Some, None, List, arith, nat_lt, nat_le, length, not, ltb-false}
use Rattle.std.specs.List.Sorted.{IsStrictlySortedBy}
use Rattle.std.proofs.lemmas.Bool.Decides.{nat_tests}
use Rattle.plant_base.specs.{greatest_amount, is_amount, is_moment, is_text, State, opening, HasValues, HasBodyValues, is_version, are_orders, are_parts, stamp_of, Command, Envelope, Part, Receipt, Refusal, Stamp, content_of}
use Rattle.plant_base.specs.declared.states.RecipeState.TheVariants.{Approved, Withdrawn}
use Rattle.plant_base.specs.declared.refusal.Refusal.TheVariants.{BadForm, MomentBack}
use Rattle.plant_base.specs.declared.states.Word.TheVariants.{Done}
use Rattle.plant_base.specs.declared.states.Event.TheVariants as event
use Rattle.plant_base.specs.declared.commands.Command.TheVariants as body
use Rattle.plant_view.proofs.ListLemmas.{all_weaker, and_left, and_right, each_fails, not_false}
use Rattle.plant_stock.specs.{entered, left}
use Rattle.plant_view.specs.{sublot_standing}
use Rattle.plant_rules.specs.{is_own_product, is_well_formed_body, wrong, wrong_body, wrong_there, decoded, kept_for, step, step_body, unless_refused, noted, taken}
use Rattle.plant_view.specs.DecisionInvariant.{DecisionInvariant}
use Rattle.plant_trace.proofs.AddingKeepsAcyclic.{first_edge}
use Rattle.plant_trace.proofs.LeadsIsReach.{none_in}
use Rattle.plant_view.proofs.CommandsPreserveInvariant.{passed, is_there}
use Rattle.plant_rules.proofs.CataloguePreservesInvariant.{add_class_preserves_invariant, add_definition_preserves_invariant}
use Rattle.plant_rules.proofs.BirthPreservesInvariant.{receive_preserves_invariant, produce_preserves_invariant}
use Rattle.plant_rules.proofs.TakingPreservesInvariant.{scrap_preserves_invariant, consume_preserves_invariant}
use Rattle.plant_rules.proofs.DividePreservesInvariant.{divide_preserves_invariant}
use Rattle.plant_rules.proofs.SplitPreservesInvariant.{split_preserves_invariant}
use Rattle.plant_rules_production.proofs.ProductionPreservesInvariant.{add_recipe_preserves_invariant, consistent_moved, import_sized, import_preserves_invariant, cancel_preserves_invariant, release_preserves_invariant, consistent_event, close_preserves_invariant}
use Rattle.plant_rules.proofs.MergeParts.{formed_apart, formed_some, parts_there, parts_ready, parts_pass}
use Rattle.plant_rules.proofs.AcceptedHasNumber.{failing, behind, not_failing}
use Rattle.plant_rules.proofs.MergePreservesInvariant.{merge_preserves_invariant}
use Rattle.plant_rules.proofs.HoldPreservesInvariant.{with_bars, hold_preserves_invariant, unhold_preserves_invariant}
use Rattle.plant_rules.proofs.RecallPreservesInvariant.{recall_preserves_invariant, lift_preserves_invariant}

pub amount_small : (n : ℕ) → is_amount n ≡ true → n ≤ greatest_amount
amount_small n e = grind (arith, nat_tests)

-- the values of a stamp obey their rules
abbrev HasStamp : Stamp → Type 0
HasStamp t = (is_moment t.at ≡ true) × (is_text t.by ≡ true) × (is_text t.note ≡ true)

sound_body : (s : State) → DecisionInvariant s → (t : Stamp) (c : Command) → HasStamp t → HasBodyValues c → is_well_formed_body c ≡ true → wrong_body s c ≡ None → DecisionInvariant (step_body s t c)
sound_body s sound t (body.AddClass c) stamp values formed fine = add_class_preserves_invariant s sound t c
sound_body s sound t (body.AddDefinition c) stamp values formed fine = add_definition_preserves_invariant s sound t c (is_there _ (passed _ _ _ fine).0)
sound_body s sound t (body.Receive c) stamp values formed fine =
    let known = passed _ _ _ fine in
    receive_preserves_invariant s sound t c (amount_small c.amount values.2) (is_there _ known.0) (passed _ _ _ known.1).0
sound_body s sound t (body.Scrap c) stamp values formed fine =
    let lot = passed _ _ _ fine in
    let sublot = passed _ _ _ lot.1 in
    let enough = passed _ _ _ sublot.1 in
    scrap_preserves_invariant s sound t c (is_there _ sublot.0) (ltb-false _ _ enough.0)
sound_body s sound t (body.Divide c) stamp values formed fine =
    let lot = passed _ _ _ fine in
    let sublot = passed _ _ _ lot.1 in
    let enough = passed _ _ _ sublot.1 in
    let room = passed _ _ _ enough.1 in
    divide_preserves_invariant s sound t c (amount_small c.amount values.1) (is_there _ lot.0) (is_there _ sublot.0) (ltb-false _ _ enough.0) (ltb-false _ _ room.0)
sound_body s sound t (body.Split c) stamp values formed fine =
    let lot = passed _ _ _ fine in
    let sublot = passed _ _ _ lot.1 in
    let new = passed _ _ _ sublot.1 in
    let enough = passed _ _ _ new.1 in
    split_preserves_invariant s sound t c (amount_small c.amount values.1) (is_there _ lot.0) (is_there _ sublot.0) new.0 (ltb-false _ _ enough.0)
sound_body s sound t (body.Merge c) stamp values formed fine =
    let there = parts_there s c.parts _ fine in
    let ready = parts_ready s c.parts there in
    let new = passed _ _ _ (sym (parts_pass s c.parts _ there) ∙ fine) in
    let enough = passed _ _ _ new.1 in
    let much = passed _ _ _ enough.1 in
    let held = passed _ _ _ much.1 in
    let mixed = passed _ _ _ held.1 in
    let parts = and_left (are_parts c.parts) true formed in
    merge_preserves_invariant s sound t c (formed_some c.parts parts) (formed_apart c.parts parts)
    (all_weaker _ _ (λ (p : Part) r. r.known) c.parts ready)
    (all_weaker _ _ (λ (p : Part) r. ap is_some r.place) c.parts ready)
    new.0
    (all_weaker _ _ (λ (p : Part) e. ltb-false _ _ e) c.parts (each_fails (λ (p : Part). nat_lt (sublot_standing s p.lot p.sub) p.amount) c.parts enough.0))
    (ltb-false _ _ much.0) mixed.0
sound_body s sound t (body.Hold c) stamp values formed fine = hold_preserves_invariant s sound t c (is_there _ (passed _ _ _ fine).0)
sound_body s sound t (body.Unhold c) stamp values formed fine = unhold_preserves_invariant s sound t c
sound_body s sound t (body.AddRecipe c) stamp values formed fine =
    let product = passed _ _ _ fine in
    let lines = passed _ _ _ product.1 in
    let new = passed _ _ _ lines.1 in
    add_recipe_preserves_invariant s sound t c values.0 values.1 (and_left _ _ formed) (and_right (is_version c.header.version) _ formed) (is_there _ product.0) (not_false _ lines.0) new.0
sound_body s sound t (body.Approve c) stamp values formed fine = consistent_moved s sound t c.recipe c.version Approved
sound_body s sound t (body.Withdraw c) stamp values formed fine = consistent_moved s sound t c.recipe c.version Withdrawn
sound_body s sound t (body.ImportOrders c) stamp values formed fine = import_preserves_invariant s sound t c values (and_right (nat_le (length c.orders) 1000) _ (and_left (are_orders c.orders) true formed)) (import_sized s c fine)
sound_body s sound t (body.CancelOrder c) stamp values formed fine =
    let there = passed _ _ _ fine in
    cancel_preserves_invariant s sound t c (not_false _ (passed _ _ _ there.1).0)
sound_body s sound t (body.Release c) stamp values formed fine =
    let there = passed _ _ _ fine in
    let new = passed _ _ _ there.1 in
    let approved = passed _ _ _ new.1 in
    let waits = passed _ _ _ approved.1 in
    let control = passed _ _ _ waits.1 in
    release_preserves_invariant s sound t c (record { id = values.1; job = values.0; at = stamp.0; by = stamp.1; note = stamp.2 }) new.0 (not_false _ waits.0) control.0
sound_body s sound t (body.BatchCommand c) stamp values formed fine = consistent_event s sound t c.batch (event.Moved c.word) refl fine
sound_body s sound t (body.Settle c) stamp values formed fine = consistent_event s sound t c.batch (event.Moved Done) refl fine
sound_body s sound t (body.PhaseDone c) stamp values formed fine = consistent_event s sound t c.batch (event.PhaseDone c.phase) refl fine
sound_body s sound t (body.CloseBatch c) stamp values formed fine = close_preserves_invariant s sound t c fine
sound_body s sound t (body.Consume c) stamp values formed fine =
    let foreign = not_failing _ fine (is_own_product s c.batch c.lot) (λ own. search (failing, behind) depth 12) in
    let batch = passed _ _ _ fine in
    let lot = passed _ _ _ batch.1 in
    let sublot = passed _ _ _ lot.1 in
    let enough = passed _ _ _ sublot.1 in
    consume_preserves_invariant s sound t c (is_there _ batch.0) (is_there _ sublot.0) (ltb-false _ _ enough.0) foreign
sound_body s sound t (body.Produce c) stamp values formed fine =
    let batch = passed _ _ _ fine in
    let known = passed _ _ _ batch.1 in
    let new = passed _ _ _ known.1 in
    produce_preserves_invariant s sound t c (amount_small c.amount values.3) (is_there _ batch.0) (is_there _ known.0) new.0
sound_body s sound t (body.Recall c) stamp values formed fine = recall_preserves_invariant s sound t c
sound_body s sound t (body.Lift c) stamp values formed fine = lift_preserves_invariant s sound t c

unless_consistent : (w : Option Refusal) (s next : State) → DecisionInvariant s → (w ≡ None → DecisionInvariant next) → DecisionInvariant (unless_refused w s next)
unless_consistent None s next sound h = h refl
unless_consistent (Some r) s next sound h = sound

-- what a command does that isn't refused
pub plain_preserves_invariant : (s : State) → DecisionInvariant s → (e : Envelope) → HasValues e → is_well_formed_body e.body ≡ true → wrong_there s e ≡ None → DecisionInvariant (step_body s (stamp_of e) e.body)
plain_preserves_invariant s sound e values formed fine =
    let moment = passed (nat_lt e.at s.at) MomentBack (wrong_body s e.body) fine in
    sound_body s sound (stamp_of e) e.body (values.at, values.by, values.note) values.body formed moment.1

-- receipts are of no matter to it
pub noted_consistent : (r : Option (List ℕ)) (c : List ℕ) (s : State) → DecisionInvariant s → DecisionInvariant (noted r c s)
noted_consistent None c s sound = sound
noted_consistent (Some reference) c s sound = with_bars s sound s.seq s.at s.holds s.recalls _ sound.bars.holds sound.bars.placed sound.bars.recalls

pub step_preserves_invariant : (s : State) → DecisionInvariant s → (e : Envelope) → HasValues e → DecisionInvariant (step s e)
unfolding step wrong
step_preserves_invariant s sound e values = unless_consistent (wrong s e) s (taken (kept_for s e) s e) sound (λ fine.
    let formed = passed (not (is_well_formed_body e.body)) BadForm (decoded (kept_for s e) (content_of e) (wrong_there s e)) fine in
    by (kept_for s e) (not_false _ formed.0) formed.1)
  where
    by : (k : Option Receipt) → is_well_formed_body e.body ≡ true → decoded k (content_of e) (wrong_there s e) ≡ None → DecisionInvariant (taken k s e)
    by None formed fine = noted_consistent e.reference (content_of e) _ (plain_preserves_invariant s sound e values formed fine)
    by (Some r) formed fine = sound

pub opening_has_invariant : DecisionInvariant opening
unfolding entered left IsStrictlySortedBy
opening_has_invariant = record {
  catalogue = record { classes = tt; definitions = tt; classified = tt; defined = tt };
  recipes = record { sorted = tt; rows_sorted = tt; whole = tt; listed = tt };
  production = record {
    orders = record { sorted = tt; values = tt; sized = tt; started = tt };
    batches = record { sorted = tt; control_sorted = tt; each = tt; controlled = tt; witnessed = tt };
    runs = tt;
  };
  stock = record { lots = tt; places = tt; housed = tt; numbered = tt; named = tt; one_material = tt; small = λ l n. omega arith; covered = λ l n. omega arith };
  genealogy = record { batched = tt; acyclic = λ x r. let first = first_edge r in none_in (x, first.0) first.1 };
  bars = record { holds = tt; placed = tt; recalls = tt };
}
