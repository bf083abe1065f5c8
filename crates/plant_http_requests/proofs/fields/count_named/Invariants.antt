use Rattle.std.proofs.Common.{◌≡◌, ◌+◌, ◌≤◌, drop, map}
use Rattle.httparse.specs.Spans.{header_bytes}
use Rattle.plant_http_requests.specs.{count_named}
use Rattle.plant_http_requests.proofs.fields.count_named.Given as goal

abbrev pub invariant-loop-field : goal.invariant-loop-field
invariant-loop-field l =
    (l.count ≤ l.field-index)
    × (l.count + count_named l.name (map (header_bytes l.head) (drop l.field-index l.fields)) ≡ count_named l.name (map (header_bytes l.head) l.fields))
