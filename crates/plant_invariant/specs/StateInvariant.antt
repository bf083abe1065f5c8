-- The states that commands lead to, with all that holds of their rows.
use Rattle.plant_base.specs.{State, opening, newest_schema, HasValues, Envelope}
use Rattle.plant_view.specs.DecisionInvariant.{DecisionInvariant}
use Rattle.plant_view.specs.{tables_of}
use Rattle.plant_rules.specs.{step}
use Rattle.plant_invariant.specs.RowValues.{HasRowValues}
use Rattle.plant_invariant.specs.Bookings.{IsNumbered}
use Rattle.plant_invariant.specs.Moments.{HasMoments}
use Rattle.plant_invariant.specs.Births.{AreBorn}
use Rattle.plant_invariant.specs.KeepToRecipes.{KeepToRecipes}
use Rattle.plant_invariant.specs.Columns.{HasColumns}
use Rattle.plant_invariant.specs.Receipts.{AreValidReceipts}
use Rattle.plant_invariant.specs.Recalls.{AreValidRecalls}

pub record StateInvariant (s : State) : Type 0 where
  pub sound : DecisionInvariant s
  pub values : HasRowValues s
  pub births : AreBorn s.lots s.places s.movements
  pub kept : KeepToRecipes s.lots s.control_lines s.movements
  pub numbers : IsNumbered s.seq s.movements s.events
  pub moments : HasMoments s.at s.movements s.events s.batches s.holds
  pub receipts : AreValidReceipts s.seq s.receipts
  pub recalls : AreValidRecalls s.at s.lots s.recalls

-- ---- laws

-- the opening state is valid
abbrev pub OpeningHasInvariant : Type 0
OpeningHasInvariant = StateInvariant opening

-- and each command leaves it so
abbrev pub StepPreservesInvariant : Type 0
StepPreservesInvariant = (s : State) → StateInvariant s → (e : Envelope) → HasValues e → StateInvariant (step s e)

-- the tables of a valid state keep the rules of their columns
abbrev pub InvariantImpliesColumns : Type 0
InvariantImpliesColumns = (s : State) → StateInvariant s → HasColumns (tables_of newest_schema s)
