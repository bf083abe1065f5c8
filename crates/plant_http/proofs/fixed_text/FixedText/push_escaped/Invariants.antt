use Rattle.std.proofs.Common.{◌≡◌, ◌+◌, ◌*◌, ◌≤◌, ◌++◌, length, drop}
use Rattle.plant_http.specs.{escaped}
use Rattle.plant_http.proofs.fixed_text.FixedText.push_escaped.Given as goal

abbrev pub invariant-loop-byte : goal.invariant-loop-byte
invariant-loop-byte l =
    (l.self ++ escaped (drop l.byte-index l.text) ≡ l.fn.self ++ escaped l.text)
    × (length l.self ≤ length l.fn.self + 2 * l.byte-index)
