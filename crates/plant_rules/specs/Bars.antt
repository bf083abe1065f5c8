-- What keeps a lot from being split or merged.
use Rattle.std.specs.Prelude.{◌≡◌, ℕ, List}
use Rattle.plant_base.specs.{State}
use Rattle.plant_rules.specs.declared.draw.Bars.{Bars}
use Rattle.plant_view.specs.{is_blocked, is_held}

pub record IsBarsOf (s : State) (lot : List ℕ) (b : Bars) : Type 0 where
  pub held : b.held ≡ is_held s lot
  pub recalled : b.recalled ≡ is_blocked s lot
