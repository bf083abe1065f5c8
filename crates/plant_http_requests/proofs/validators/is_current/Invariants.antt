use Rattle.std.proofs.Common.{◌≡◌, drop, map}
use Rattle.httparse.specs.Spans.{header_bytes}
use Rattle.plant_http_requests.specs.Validators.{is_current}
use Rattle.plant_http_requests.proofs.validators.is_current.Given as goal

-- no field so far names the tag
abbrev pub invariant-loop-field : goal.invariant-loop-field
invariant-loop-field l = is_current l.tag (map (header_bytes l.head) l.fields) ≡ is_current l.tag (map (header_bytes l.head) (drop l.field-index l.fields))
