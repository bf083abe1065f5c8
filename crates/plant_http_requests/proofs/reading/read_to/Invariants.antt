use Rattle.std.proofs.Common.{◌≤◌, ◌+◌, ◌-◌, length}
use Rattle.plant_http_requests.specs.{GoesOn}
use Rattle.plant_http_requests.proofs.reading.read_to.Given as goal

abbrev pub invariant-loop-bytes : goal.invariant-loop-bytes
invariant-loop-bytes g l =
    GoesOn (g.R.Read.remaining l.fn.reader) (g.R.Read.remaining l.reader) l.fn.bytes.items l.bytes.items
    × (l.fn.reads + length l.fn.bytes.items ≤ l.reads + length l.bytes.items)
    × (length l.fn.bytes.items ≤ length l.bytes.items)

abbrev pub decreases-loop-bytes : goal.decreases-loop-bytes
decreases-loop-bytes g l = l.want - length l.bytes.items
