-- The values of the lines of recipes and of control recipes in a consistent state, and so of all its rows.
use Rattle.std.proofs.Common.{◌≡◌, ◌∙◌, ℕ, ◌≤◌, Bool, true, List, Option, Some, None, is_some, refl, sym, ap, ◌&&◌, ◌==◌}
use Rattle.std.specs.List.{AllByRecursion}
use Rattle.std.proofs.lemmas.Bool.{false≢true}
use Rattle.plant_base.specs.{is_id, is_moment, greatest_seq, is_version, HasLineValues, HasClassValues, HasDefinitionValues, HasLotValues, HasHoldValues, State, same, batch_at, Batch, ControlLine, Header, MasterLine}
use Rattle.plant_view.proofs.ListLemmas.{found_passes, found_keeps, same_id, same_key, same_itself, key_itself, all_two, all_unmapped, filtered_passes}
use Rattle.plant_view.specs.{headers_of, header_among, rows_among, IsConsistentRecipe, orders_of, control_among, IsConsistentBatch, is_batch_among}
use Rattle.plant_view.specs.DecisionInvariant.{DecisionInvariant}
use Rattle.plant_rules_production.proofs.ControlIsWellFormed.{control_made, made_valid}
use Rattle.plant_invariant.specs.{HasMasterValues, HasControlValues, HasEventValues, HasPlaceValues, HasMovementValues, HasRowValues}
use Rattle.plant_invariant.proofs.AppendKeepsOrder.{all_swap, all_passing}

module _ (s : State) (sound : DecisionInvariant s) where
  -- ---- recipes

  -- a recipe that is whole
  abbrev pub Whole : Type 0
  Whole = (h : Header) × IsConsistentRecipe s.definitions s.master_lines h

  -- the line is of this recipe
  abbrev is_line_of : Whole → MasterLine → Bool
  is_line_of r l = same l.recipe r.0.recipe && l.version == r.0.version

  -- what holds of the lines of each whole recipe holds of all
  pub each_master_line : (P : MasterLine → Type 0) → ((r : Whole) → AllByRecursion P (rows_among s.master_lines r.0.recipe r.0.version)) → AllByRecursion P s.master_lines
  each_master_line P each = all_two _ _ P of_recipe s.master_lines sound.recipes.listed
      (all_swap (λ (r : Whole) (l : MasterLine). is_line_of r l ≡ true → P l) s.master_lines (λ r. all_passing P (is_line_of r) s.master_lines (each r)))
    where
      of_recipe : (l : MasterLine) → is_some (header_among (headers_of s.recipes) l.recipe l.version) ≡ true → ((r : Whole) → is_line_of r l ≡ true → P l) → P l
      of_recipe l listed holds = by (header_among (headers_of s.recipes) l.recipe l.version) refl listed
        where
          by : (o : Option Header) → header_among (headers_of s.recipes) l.recipe l.version ≡ o → is_some o ≡ true → P l
          by None e there = absurd (false≢true there)
          by (Some h) e there =
              let own = λ (x : Header). same x.recipe l.recipe && x.version == l.version in
              let keys = same_key h.recipe l.recipe h.version l.version (found_passes own (headers_of s.recipes) h e) in
              let whole = found_keeps (IsConsistentRecipe s.definitions s.master_lines) own (headers_of s.recipes) h sound.recipes.whole e in
              holds (h, whole) ((λ i. same l.recipe (keys.0 i) && l.version == keys.1 i) ∙ key_itself l.recipe l.version)

  pub master_values : AllByRecursion HasMasterValues s.master_lines
  master_values = each_master_line HasMasterValues (λ r.
      let rows = rows_among s.master_lines r.0.recipe r.0.version in
      all_two (λ (l : MasterLine). is_line_of r l ≡ true) (λ (l : MasterLine). HasLineValues l.line) HasMasterValues (λ l own values.
      let keys = same_key l.recipe r.0.recipe l.version r.0.version own in
      record { recipe = ap is_id keys.0 ∙ r.1.values.recipe; version = ap is_version keys.1 ∙ r.1.version; line = values }) rows
      (filtered_passes (is_line_of r) s.master_lines)
      (all_unmapped HasLineValues (λ (l : MasterLine). l.line) rows r.1.line_values))

  -- ---- control recipes

  -- a batch that is found by an id
  abbrev pub Released : Type 0
  Released = (id : List ℕ) × (b : Batch) × (batch_at s id ≡ Some b)

  -- what holds of the lines of each batch holds of all
  pub each_control_line : (P : ControlLine → Type 0) → ((r : Released) → AllByRecursion P (control_among s.control_lines r.0)) → AllByRecursion P s.control_lines
  each_control_line P each = all_two _ _ P of_batch s.control_lines sound.production.batches.controlled
      (all_swap (λ (r : Released) (l : ControlLine). same l.batch r.0 ≡ true → P l) s.control_lines (λ r. all_passing P (λ (l : ControlLine). same l.batch r.0) s.control_lines (each r)))
    where
      of_batch : (l : ControlLine) → is_batch_among s.batches l.batch ≡ true → ((r : Released) → same l.batch r.0 ≡ true → P l) → P l
      of_batch l known holds = by (batch_at s l.batch) refl known
        where
          by : (o : Option Batch) → batch_at s l.batch ≡ o → is_some o ≡ true → P l
          by None e there = absurd (false≢true there)
          by (Some b) e there = holds (l.batch, b, e) (same_itself l.batch)

  pub control_values : AllByRecursion HasControlValues s.control_lines
  control_values = each_control_line HasControlValues (λ r.
      let own = λ (x : Batch). same x.id r.0 in
      let key = same_id r.1.id r.0 (found_passes own s.batches r.1 r.2) in
      let its = found_keeps (IsConsistentBatch (headers_of s.recipes) s.master_lines (orders_of s.jobs) s.batches s.control_lines) own s.batches r.1 sound.production.batches.each r.2 in
      all_two (λ (l : ControlLine). same l.batch r.0 ≡ true) (λ (l : ControlLine). HasLineValues l.line) HasControlValues (λ l mine values.
      record { batch = ap is_id (same_id l.batch r.0 mine ∙ sym key) ∙ its.values.id; line = values }) (control_among s.control_lines r.0)
      (filtered_passes (λ (l : ControlLine). same l.batch r.0) s.control_lines)
      (all_unmapped HasLineValues (λ (l : ControlLine). l.line) (control_among s.control_lines r.0) (made_valid _ (control_made s sound r.0 r.1 r.2))))

  -- ---- all rows

  -- the values of the other rows make those of all
  pub row_values : s.seq ≤ greatest_seq → is_moment s.at ≡ true → AllByRecursion HasClassValues s.classes → AllByRecursion HasDefinitionValues s.definitions → AllByRecursion HasEventValues s.events
      → AllByRecursion HasLotValues s.lots → AllByRecursion HasPlaceValues s.places → AllByRecursion HasMovementValues s.movements → AllByRecursion HasHoldValues s.holds → HasRowValues s
  row_values seq at classes definitions events lots places movements holds = record {
    seq = seq;
    at = at;
    classes = classes;
    definitions = definitions;
    master_lines = master_values;
    control_lines = control_values;
    events = events;
    lots = lots;
    places = places;
    movements = movements;
    holds = holds;
  }
