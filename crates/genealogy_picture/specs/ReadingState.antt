-- How far an input is read.
use Rattle.std.specs.Prelude.{ℕ, List}
use Rattle.genealogy_svg.specs.declared.reported.Reported.{Reported}

pub record ReadingState : Type 0 where
  -- what its lines reported
  pub reported : Reported
  -- the number of the line that is coming, counted from 1
  pub number : ℕ
  -- its bytes so far
  pub held : List ℕ
