-- How long a connection may stay as it is.
use Rattle.std.specs.Prelude.{ℕ, ◌-◌, min}
use Rattle.desk_server.specs.declared.connection.Stage.{Stage}
use Rattle.desk_server.specs.declared.connection.Stage.TheVariants as stage

-- For how many milliseconds more, where it last moved on at a moment: for ten seconds while its request or its answer is on the way, and never
-- past twenty seconds after the first byte of its request; for a second after its answer.
abbrev pub time_left : Stage → ℕ → ℕ → ℕ
time_left stage.Silent moved now = 10_000 - (now - moved)
time_left (stage.Reading first reads) moved now = min (10_000 - (now - moved)) (20_000 - (now - first))
time_left (stage.Writing status) moved now = 10_000 - (now - moved)
time_left (stage.Ending pieces) moved now = 1_000 - (now - moved)
