use Rattle.std.proofs.Common.{◌≡◌, ℕ, suc, ◌+◌, List}
use Rattle.csv.specs.Reading.{default_config, records_from}
use Rattle.csv.specs.declared.parser.State.{State}
use Rattle.plant_orders.specs.{orders_of, rows_of, ReaderIsAt}
use Rattle.plant_orders.proofs.RowsFollowRecords.{with_prefix}
use Rattle.plant_orders.proofs.read.read_orders.Given as goal

abbrev pub invariant-loop-n : goal.invariant-loop-n
invariant-loop-n l =
    (s : State) × (text : List ℕ) × (k : ℕ) × (l.n + k ≡ 1000) × ReaderIsAt l.reader s text
    × (orders_of l.fn.bytes ≡ with_prefix l.orders.items (rows_of l.n (records_from default_config (suc k) s text)))
