use Rattle.std.proofs.Common.{◌≡◌, ◌+◌, ◌*◌, ◌≤◌, ◌++◌, length, drop}
use Rattle.plant_http.specs.Answers.{counts_text}
use Rattle.plant_http.proofs.fixed_text.FixedText.push_counts.Given as goal

abbrev pub invariant-loop-counted : goal.invariant-loop-counted
invariant-loop-counted l =
    (l.self ++ counts_text (drop l.counted-index l.counts) ≡ l.fn.self ++ counts_text l.counts)
    × (length l.self ≤ length l.fn.self + 44 * l.counted-index)
