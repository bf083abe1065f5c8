-- Which bytes are the head of a request.
use Rattle.std.specs.Prelude.{◌≡◌, ℕ, ◌-◌, ◌≤◌, ◌&&◌, ◌||◌, ◌==◌, List, [], length, take, map, count_by, slice_index, Option, Some, None, if◌then◌else◌}
use Rattle.httparse.specs.Grammar.{RequestHead, ReadsRequest}
use Rattle.httparse.specs.Spans.{header_bytes, span_bytes, name_and_value}
use Rattle.httparse.specs.declared.spans.RequestSpans.{RequestSpans}
use Rattle.httparse.specs.declared.spans.HeaderSpan.{HeaderSpan}

-- the lines of a head that are fields: all but one empty first line, the request line and the empty line at the end
abbrev pub field_lines : List ℕ → ℕ
field_lines head = count_by (λ b. b == 10) head - 2
    - (if (slice_index head 0 == 10) || ((slice_index head 0 == 13) && (slice_index head 1 == 10)) then 1 else 0)

-- the one head of at most 32 fields that the bytes are, in httparse's grammar, or that they are none
abbrev pub Parsed : List ℕ → Option RequestHead → Type 0
Parsed head (Some h) = ReadsRequest head h [] × (length h.fields ≤ 32)
Parsed head None = (h : RequestHead) → length h.fields ≤ 32 → ReadsRequest head h [] → ⊥

-- the bytes are this head, and its parts are at these positions
pub record ParsedAt (head : List ℕ) (fields : List HeaderSpan) (r : RequestSpans) (h : RequestHead) : Type 0 where
  pub reads : ReadsRequest head h []
  pub room : length h.fields ≤ 32
  pub method : span_bytes head r.method ≡ h.method
  pub path : span_bytes head r.path ≡ h.target
  pub version : r.version ≡ h.minor
  pub fields_are : map (header_bytes head) (take r.headers fields) ≡ map name_and_value h.fields
  pub whole : r.len ≡ length head
