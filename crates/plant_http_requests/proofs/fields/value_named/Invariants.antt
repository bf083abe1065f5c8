use Rattle.std.proofs.Common.{◌≡◌, drop, map}
use Rattle.httparse.specs.Spans.{header_bytes}
use Rattle.plant_http_requests.specs.{value_named}
use Rattle.plant_http_requests.proofs.fields.value_named.Given as goal

abbrev pub invariant-loop-field : goal.invariant-loop-field
invariant-loop-field l =
    value_named l.name (map (header_bytes l.head) l.fields) ≡ value_named l.name (map (header_bytes l.head) (drop l.field-index l.fields))
