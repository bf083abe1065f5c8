-- A pair as a direction sees it.
use Rattle.plant_trace.specs.declared.direction.Direction.{Direction}
use Rattle.plant_trace.specs.declared.direction.Direction.TheVariants.{Forward, Back}
use Rattle.plant_trace.specs.declared.node.Node.{Node}

-- the near end first
abbrev pub turned : Direction → Node × Node → Node × Node
turned Forward p = p
turned Back p = (p.1, p.0)
