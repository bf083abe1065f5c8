-- What one more command does to a valid state, by what it adds.
use Rattle.std.proofs.Common.{◌≡◌, ℕ, ◌+◌, ◌≤◌, ◌<◌, true, false, List, [], ◌∷◌, ◌++◌, Option, Some, None, is_some, refl, ap, arith, ◌&&◌, ◌==◌}
use Rattle.std.specs.List.{AllByRecursion}
use Rattle.std.proofs.lemmas.Bool.{false≢true}
use Rattle.plant_base.specs.{is_id, is_text, is_amount, is_moment, greatest_sublot, greatest_seq, State, same, put, lot_order, place_order, lot_at, place_at, Batch, BatchEvent, Class, ControlLine, Definition, Hold, Job, Lot, MasterLine, Movement, MovementKind, Place, Recall, Recipe, Stamp, HasClassValues, HasDefinitionValues, HasLotValues, HasHoldValues}
use Rattle.plant_view.proofs.ListLemmas.{found_passes, found_keeps, same_key, all_weaker, all_put, all_push}
use Rattle.plant_stock.specs.{goes_to, comes_from}
use Rattle.plant_view.specs.{IsThere}
use Rattle.plant_view.specs.DecisionInvariant.{DecisionInvariant}
use Rattle.plant_view.proofs.StockColumn.{no_place}
use Rattle.plant_rules.specs.{line_of, taken_as}
use Rattle.plant_rules.proofs.StockOutRows.{Takes}
use Rattle.plant_invariant.specs.{HasEventValues, HasKindValues, HasMovementValues, HasPlaceValues, IsBooking, IsBirth, AreBorn, IsAsked, AreValidReceipts, AreValidRecalls}
use Rattle.plant_invariant.specs.KeepToRecipes.{KeepToRecipes}
use Rattle.plant_invariant.specs.StateInvariant.{StateInvariant}
use Rattle.plant_invariant.proofs.ReceiptsStayValid.{stay_valid}
use Rattle.plant_invariant.proofs.RecallsStayValid.{recalls_later, recalls_with_lot}
use Rattle.plant_invariant.proofs.AppendKeepsOrder.{all_append}
use Rattle.plant_invariant.proofs.NumbersAfterCommand.{numbers_later, numbers_happened, numbers_booked}
use Rattle.plant_invariant.proofs.MomentsAfterCommand.{batches_earlier, holds_earlier, moments_later, moments_happened, moments_booked}
use Rattle.plant_invariant.proofs.SublotBirths.{IsAbsent, PossibleOutcomes, LeadNowhere, unentered, nowhere_absent, into_absent, births_nowhere, births_new}
use Rattle.plant_invariant.proofs.BatchesKeepToRecipes.{kept_with_lot}
use Rattle.plant_invariant.proofs.LineValues.{row_values}

-- the command's values obey their rules, its moment isn't before the last one, and there is a number for it
pub record IsNextStamp (s : State) (t : Stamp) : Type 0 where
  pub at : is_moment t.at ≡ true
  pub by : is_text t.by ≡ true
  pub note : is_text t.note ≡ true
  pub on : s.at ≤ t.at
  pub room : s.seq < greatest_seq

-- the lines that the command books
pub record IsNextBooking (s : State) (t : Stamp) (lines : List Movement) : Type 0 where
  pub stamped : AllByRecursion (λ m. (m.seq ≡ s.seq + 1) × (m.at ≡ t.at)) lines
  pub values : AllByRecursion HasMovementValues lines
  pub one : IsBooking lines
  pub from : AllByRecursion (λ m. IsThere s (comes_from m.kind m.lot m.sub)) lines

module _ (s : State) (valid : StateInvariant s) (t : Stamp) (stamp : IsNextStamp s t) where
  -- a command changes no receipt
  receipts_stay : AreValidReceipts (s.seq + 1) s.receipts
  receipts_stay = stay_valid s.seq s.receipts valid.receipts

  -- and no recall but those that it opens or lifts
  pub recalls_stay : AreValidRecalls t.at s.lots s.recalls
  recalls_stay = recalls_later s.lots s.at t.at stamp.on s.recalls valid.recalls

  seq_small : s.seq + 1 ≤ greatest_seq
  seq_small = omega (arith, stamp.room)

  -- the batches that were there are no later
  pub no_later : AllByRecursion (λ b. b.at ≤ t.at) s.batches
  no_later = batches_earlier s.seq s.at s.movements s.events s.batches s.holds valid.numbers valid.moments t.at stamp.on

  -- so are the holds
  pub held_no_later : AllByRecursion (λ h. h.at ≤ t.at) s.holds
  held_no_later = holds_earlier s.seq s.at s.movements s.events s.batches s.holds valid.numbers valid.moments t.at stamp.on

  -- ---- a command that books nothing, and is no event of a batch

  -- the next state, with the other lists of n
  abbrev next_plain : State → State
  next_plain n = record n { seq = s.seq + 1; at = t.at; events = s.events; lots = s.lots; places = s.places; movements = s.movements; receipts = s.receipts }

  valid_plain : (n : State) → AllByRecursion HasClassValues n.classes → AllByRecursion HasDefinitionValues n.definitions → AllByRecursion HasHoldValues n.holds → AllByRecursion (λ b. b.at ≤ t.at) n.batches → AllByRecursion (λ h. h.at ≤ t.at) n.holds
      → KeepToRecipes s.lots n.control_lines s.movements → AreValidRecalls t.at s.lots n.recalls → DecisionInvariant (next_plain n) → StateInvariant (next_plain n)
  valid_plain n class_values definition_values hold_values released held kept recalled sound = record {
    sound = sound;
    values = row_values (next_plain n) sound seq_small stamp.at class_values definition_values valid.values.events valid.values.lots valid.values.places valid.values.movements hold_values;
    births = valid.births;
    kept = kept;
    numbers = numbers_later s.seq s.movements s.events valid.numbers;
    moments = moments_later s.seq s.at s.movements s.events s.batches s.holds valid.numbers valid.moments t.at stamp.on n.batches n.holds released held;
    receipts = receipts_stay;
    recalls = recalled;
  }

  pub valid_catalogued : (classes : List Class) (definitions : List Definition) → AllByRecursion HasClassValues classes → AllByRecursion HasDefinitionValues definitions
      → DecisionInvariant (record s { seq = s.seq + 1; at = t.at; classes = classes; definitions = definitions }) → StateInvariant (record s { seq = s.seq + 1; at = t.at; classes = classes; definitions = definitions })
  valid_catalogued classes definitions class_values definition_values sound =
      valid_plain (record s { classes = classes; definitions = definitions }) class_values definition_values valid.values.holds no_later held_no_later valid.kept recalls_stay sound

  pub valid_held : (holds : List Hold) → AllByRecursion HasHoldValues holds → AllByRecursion (λ h. h.at ≤ t.at) holds
      → DecisionInvariant (record s { seq = s.seq + 1; at = t.at; holds = holds }) → StateInvariant (record s { seq = s.seq + 1; at = t.at; holds = holds })
  valid_held holds hold_values earlier sound = valid_plain (record s { holds = holds }) valid.values.classes valid.values.definitions hold_values no_later earlier valid.kept recalls_stay sound

  pub valid_recalled : (recalls : List Recall) → AreValidRecalls t.at s.lots recalls
      → DecisionInvariant (record s { seq = s.seq + 1; at = t.at; recalls = recalls }) → StateInvariant (record s { seq = s.seq + 1; at = t.at; recalls = recalls })
  valid_recalled recalls recalled sound = valid_plain (record s { recalls = recalls }) valid.values.classes valid.values.definitions valid.values.holds no_later held_no_later valid.kept recalled sound

  pub valid_planned : (recipes : List Recipe) (master_lines : List MasterLine) (jobs : List Job) (batches : List Batch) (control_lines : List ControlLine) → AllByRecursion (λ b. b.at ≤ t.at) batches → KeepToRecipes s.lots control_lines s.movements
      → DecisionInvariant (record s { seq = s.seq + 1; at = t.at; recipes = recipes; master_lines = master_lines; jobs = jobs; batches = batches; control_lines = control_lines })
      → StateInvariant (record s { seq = s.seq + 1; at = t.at; recipes = recipes; master_lines = master_lines; jobs = jobs; batches = batches; control_lines = control_lines })
  valid_planned recipes master_lines jobs batches control_lines earlier kept sound =
      valid_plain (record s { recipes = recipes; master_lines = master_lines; jobs = jobs; batches = batches; control_lines = control_lines })
      valid.values.classes valid.values.definitions valid.values.holds earlier held_no_later kept recalls_stay sound

  -- ---- an event

  pub valid_happened : (jobs : List Job) (e : BatchEvent) → HasEventValues e → (e.seq ≡ s.seq + 1) × (e.at ≡ t.at)
      → DecisionInvariant (record s { seq = s.seq + 1; at = t.at; jobs = jobs; events = s.events ++ e ∷ [] }) → StateInvariant (record s { seq = s.seq + 1; at = t.at; jobs = jobs; events = s.events ++ e ∷ [] })
  valid_happened jobs e event_values given sound =
      let next = record s { seq = s.seq + 1; at = t.at; jobs = jobs; events = s.events ++ e ∷ [] } in
      let v = valid.values in
      record {
        sound = sound;
        values = row_values next sound seq_small stamp.at v.classes v.definitions (all_push HasEventValues s.events e v.events event_values) v.lots v.places v.movements v.holds;
        births = valid.births;
        kept = valid.kept;
        numbers = numbers_happened s.seq s.movements s.events valid.numbers e given.0;
        moments = moments_happened s.seq s.at s.movements s.events s.batches s.holds valid.numbers valid.moments t.at stamp.on e given;
        receipts = receipts_stay;
        recalls = recalls_stay;
      }

  -- ---- movements

  valid_booked : (lots : List Lot) (places : List Place) (lines : List Movement) → AllByRecursion HasLotValues lots → AllByRecursion HasPlaceValues places → IsNextBooking s t lines
      → AllByRecursion (λ m. IsAbsent s (goes_to m.kind m.lot m.sub)) lines → AreBorn lots places (s.movements ++ lines) → KeepToRecipes lots s.control_lines (s.movements ++ lines) → AreValidRecalls t.at lots s.recalls
      → DecisionInvariant (record s { seq = s.seq + 1; at = t.at; lots = lots; places = places; movements = s.movements ++ lines }) → StateInvariant (record s { seq = s.seq + 1; at = t.at; lots = lots; places = places; movements = s.movements ++ lines })
  valid_booked lots places lines lot_values place_values booking into births kept recalled sound =
      let next = record s { seq = s.seq + 1; at = t.at; lots = lots; places = places; movements = s.movements ++ lines } in
      let v = valid.values in
      record {
        sound = sound;
        values = row_values next sound seq_small stamp.at v.classes v.definitions v.events lot_values place_values (all_append HasMovementValues s.movements lines v.movements booking.values) v.holds;
        births = births;
        kept = kept;
        numbers = numbers_booked s.seq s.movements s.events valid.numbers lines (all_weaker _ _ (λ (m : Movement) g. g.0) lines booking.stamped) booking.one
            (all_weaker _ _ (λ (m : Movement) named. unentered s lines (comes_from m.kind m.lot m.sub) into named.1) s.movements valid.sound.stock.named)
            (all_weaker _ _ (λ (m : Movement) there. unentered s lines (comes_from m.kind m.lot m.sub) into there) lines booking.from);
        moments = moments_booked s.seq s.at s.movements s.events s.batches s.holds valid.numbers valid.moments t.at stamp.on lines booking.stamped;
        receipts = receipts_stay;
        recalls = recalled;
      }

  -- what is taken from a sublot
  pub valid_taken : (kind : MovementKind) → Takes kind → (lot : List ℕ) (sub amount : ℕ) → IsNextBooking s t (line_of s.seq t kind lot sub amount ∷ []) → IsAsked s.lots s.control_lines kind lot
      → DecisionInvariant (taken_as s t kind lot sub amount) → StateInvariant (taken_as s t kind lot sub amount)
  valid_taken kind takes lot sub amount booking asked sound =
      let m : Movement = line_of s.seq t kind lot sub amount in
      let nowhere : LeadNowhere (m ∷ []) = (takes.nowhere lot sub, tt) in
      valid_booked s.lots s.places (m ∷ []) valid.values.lots valid.values.places booking (nowhere_absent s (m ∷ []) nowhere)
      (births_nowhere s.lots s.places s.movements (m ∷ []) nowhere valid.births)
      (all_push (λ (x : Movement). IsAsked s.lots s.control_lines x.kind x.lot) s.movements m valid.kept asked) recalls_stay sound

  -- one more sublot of a lot that is there
  pub valid_divided : (p : Place) (lines : List Movement) → is_some (place_at s p.lot p.number) ≡ false → HasPlaceValues p → IsNextBooking s t lines → PossibleOutcomes p lines → AllByRecursion (λ m. IsAsked s.lots s.control_lines m.kind m.lot) lines
      → AreBorn s.lots (put place_order p s.places) (s.movements ++ lines)
      → DecisionInvariant (record s { seq = s.seq + 1; at = t.at; places = put place_order p s.places; movements = s.movements ++ lines }) → StateInvariant (record s { seq = s.seq + 1; at = t.at; places = put place_order p s.places; movements = s.movements ++ lines })
  valid_divided p lines none values booking into asked births sound =
      valid_booked s.lots (put place_order p s.places) lines valid.values.lots (all_put place_order HasPlaceValues p s.places values valid.values.places) booking (into_absent s p none lines into) births
      (all_append (λ (m : Movement). IsAsked s.lots s.control_lines m.kind m.lot) s.movements lines valid.kept asked) recalls_stay sound

  -- a new lot, which all of the lines lead to
  pub valid_born : (r : Lot) (place : List ℕ) (lines : List Movement) → is_some (lot_at s r.id) ≡ false → HasLotValues r → is_text place ≡ true → IsNextBooking s t lines → PossibleOutcomes (record { lot = r.id; number = 0; place = place }) lines → IsBirth lines
      → AllByRecursion (λ m. IsAsked (put lot_order r s.lots) s.control_lines m.kind m.lot) lines
      → DecisionInvariant (record s { seq = s.seq + 1; at = t.at; lots = put lot_order r s.lots; places = put place_order (record { lot = r.id; number = 0; place = place }) s.places; movements = s.movements ++ lines })
      → StateInvariant (record s { seq = s.seq + 1; at = t.at; lots = put lot_order r s.lots; places = put place_order (record { lot = r.id; number = 0; place = place }) s.places; movements = s.movements ++ lines })
  valid_born r place lines none values text booking into birth asked sound =
      let p : Place = record { lot = r.id; number = 0; place = place } in
      let lots = put lot_order r s.lots in
      valid_booked lots (put place_order p s.places) lines
      (all_put lot_order HasLotValues r s.lots values valid.values.lots)
      (all_put place_order HasPlaceValues p s.places (record { lot = values.id; number = omega arith; place = text }) valid.values.places)
      booking
      (into_absent s p (ap is_some (no_place s valid.sound r.id 0 none)) lines into)
      (births_new s valid.sound r place lines none into birth valid.births)
      (all_append (λ (m : Movement). IsAsked lots s.control_lines m.kind m.lot) s.movements lines (kept_with_lot s valid.sound r none valid.kept) asked)
      (recalls_with_lot s valid.sound r none t.at s.recalls recalls_stay)
      sound

  -- ---- bookings

  -- the number of a sublot that is there
  pub sub_small : (lot : List ℕ) (sub : ℕ) → is_some (place_at s lot sub) ≡ true → sub ≤ greatest_sublot
  sub_small lot sub there = by (place_at s lot sub) refl there
    where
      by : (o : Option Place) → place_at s lot sub ≡ o → is_some o ≡ true → sub ≤ greatest_sublot
      by None e some = absurd (false≢true some)
      by (Some p) e some =
          let own = λ (q : Place). same q.lot lot && q.number == sub in
          let keys = same_key p.lot lot p.number sub (found_passes own s.places p e) in
          let small : p.number ≤ greatest_sublot = found_keeps (λ (q : Place). q.number ≤ greatest_sublot) own s.places p valid.sound.stock.numbered e in
          omega (arith, small, keys.1)

  -- one line
  pub one_line : (kind : MovementKind) (lot : List ℕ) (sub amount : ℕ) → HasKindValues kind → is_id lot ≡ true → sub ≤ greatest_sublot → is_amount amount ≡ true → IsThere s (comes_from kind lot sub) → IsNextBooking s t (line_of s.seq t kind lot sub amount ∷ [])
  one_line kind lot sub amount named id small some there = record {
    stamped = ((refl, refl), tt);
    values = (record { kind = named; lot = id; sub = small; amount = some; at = stamp.at; by = stamp.by; note = stamp.note }, tt);
    one = record { numbered = (refl, tt); few = omega arith; merged = tt; distinct = (tt, tt) };
    from = (there, tt);
  }
