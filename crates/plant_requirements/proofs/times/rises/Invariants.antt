use Rattle.std.proofs.Common.{◌≡◌, drop}
use Rattle.plant_requirements.specs.{rises}
use Rattle.plant_requirements.proofs.times.rises.Given as goal

-- the moments so far don't fall: all don't where those that are left go on from the latest
abbrev pub invariant-loop-mark : goal.invariant-loop-mark
invariant-loop-mark l = rises l.latest (drop l.mark-index l.marks) ≡ rises 0 l.marks
