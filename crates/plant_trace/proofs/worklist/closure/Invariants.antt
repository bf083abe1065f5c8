use Rattle.std.proofs.Common.{◌-◌, ◌^◌, ◌≤◌, length, take, All}
use Rattle.plant_trace.specs.{IsNext, HasSame}
use Rattle.plant_trace.specs.HoldsIfHonest.{HoldsIfHonest}
use Rattle.plant_trace.proofs.SearchFinds.{Found, Asked}
use Rattle.plant_trace.proofs.worklist.closure.Given as goal

abbrev pub invariant-walk : goal.invariant-walk
invariant-walk g l =
    let e = g.E.Edges in
    let edge = IsNext l.direction (e.pairs l.fn.edges) in
    record {
      reported : HoldsIfHonest e.honest e.kept e.frame l.fn.edges l.edges (Found edge l.start l.seen.keys × All (Asked edge l.seen.keys) (take l.at l.queue.items));
      same : HasSame l.seen.keys l.queue.items;
      reached : l.at ≤ length l.queue.items;
    }

abbrev pub decreases-walk : goal.decreases-walk
decreases-walk g l = 2 ^ 64 - l.at
