-- What is done next with the connections.
use Rattle.std.specs.Prelude.{⊤, ◌≡◌, ◌<◌, ◌≤◌, ◌⊎◌, ℕ, Bool, ◌==◌, ◌&&◌, nat_lt, not, true, false, List, [], ◌∷◌, ◌++◌, length, map, min, Option, Some, None, slice_get, position}
use Rattle.std.specs.List.{reduce, remove}
use Rattle.desk_server.specs.Deadline.{time_left}
use Rattle.desk_server.specs.declared.connection.Connection.{Connection}
use Rattle.desk_server.specs.declared.queue.Arrivals.{Arrivals}
use Rattle.desk_server.specs.declared.queue.Step.{Step}
use Rattle.desk_server.specs.declared.queue.Step.TheVariants as step

-- for how many milliseconds more a connection may stay as it is
abbrev pub left_of : ℕ → Connection → ℕ
left_of now c = time_left c.stage c.moved now

-- the first connection whose time is over
abbrev pub first_over : List Connection → ℕ → Option ℕ
first_over connections now = position (λ (c : Connection). time_left c.stage c.moved now == 0) connections

-- the first connection that may go on
abbrev pub first_ready : List Connection → Option ℕ
first_ready connections = position (λ (c : Connection). c.is_ready) connections

-- the first connection of this number that isn't ready
abbrev pub waits_for : List Connection → ℕ → Option ℕ
waits_for connections number = position (λ (c : Connection). (c.number == number) && not c.is_ready) connections

-- a connection after the others, which may go on
abbrev pub with_ready : List Connection → Option Connection → List Connection
with_ready others None = others
with_ready others (Some c) = others ++ record c { is_ready = true } ∷ []

abbrev pub marked_at : List Connection → Option ℕ → List Connection
marked_at connections None = connections
marked_at connections (Some index) = with_ready (remove connections index) (slice_get connections index)

-- the connections, where the first of this number that wasn't ready may go on after the others
abbrev pub marked : List Connection → ℕ → List Connection
marked connections number = marked_at connections (waits_for connections number)

-- for how long all of them may stay as they are
abbrev pub soonest : List Connection → ℕ → Option ℕ
soonest connections now = reduce min (map (left_of now) connections)

-- one may be there that is taken before one that may go on: it is their turn, and fewer than 64 are there
abbrev pub goes_before : List Connection → Arrivals → Bool
goes_before connections arrivals = arrivals.may_take && arrivals.have_turn && nat_lt (length connections) 64

-- One whose time is over is dropped first; then the one that has stayed as it is for longest, where there are more than 64. Else one is
-- taken, where one may be there and goes before others, or none may go on; else the first goes on that may; and where none may go on and none
-- may be there, nothing is done until the next time is over.
abbrev pub IsNext : List Connection → ℕ → Arrivals → Step → Type 0
IsNext connections now arrivals (step.Drop index) =
    (first_over connections now ≡ Some index) ⊎ ((first_over connections now ≡ None) × (64 < length connections) × (index ≡ 0))
IsNext connections now arrivals step.Take =
    (first_over connections now ≡ None) × (length connections ≤ 64) × (arrivals.may_take ≡ true)
    × ((goes_before connections arrivals ≡ true) ⊎ (first_ready connections ≡ None))
IsNext connections now arrivals (step.Advance index) =
    (first_over connections now ≡ None) × (length connections ≤ 64) × (first_ready connections ≡ Some index)
    × (goes_before connections arrivals ≡ false)
IsNext connections now arrivals (step.Wait most) =
    (first_over connections now ≡ None) × (length connections ≤ 64) × (first_ready connections ≡ None) × (arrivals.may_take ≡ false)
    × (most ≡ soonest connections now)

-- a step that can be done with these: there is a connection to go on or to be dropped, or room for another
abbrev pub FitsStep : Step → List Connection → Type 0
FitsStep (step.Advance index) connections = index < length connections
FitsStep (step.Drop index) connections = index < length connections
FitsStep step.Take connections = length connections ≤ 64
FitsStep (step.Wait most) connections = ⊤
