use Rattle.std.proofs.Common.{◌≡◌, ◌+◌, drop, option_map}
use Rattle.plant_http_requests.specs.{head_length}
use Rattle.plant_http_requests.proofs.head_end.head_length.Given as goal

abbrev pub invariant-loop-at : goal.invariant-loop-at
invariant-loop-at l = head_length l.bytes ≡ option_map (λ n. l.at + n) (head_length (drop l.at l.bytes))
