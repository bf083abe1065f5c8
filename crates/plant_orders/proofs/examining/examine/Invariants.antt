use Rattle.std.proofs.Common.{◌≡◌, ℕ, suc, ◌+◌, ◌++◌, List}
use Rattle.csv.specs.Reading.{default_config, records_from}
use Rattle.csv.specs.declared.parser.State.{State}
use Rattle.plant_orders.specs.{faults_of, numbered_orders_of, faults_from, orders_from, ReaderIsAt}
use Rattle.plant_orders.proofs.examining.examine.Given as goal

abbrev pub invariant-loop-n : goal.invariant-loop-n
invariant-loop-n l =
    (s : State) × (text : List ℕ) × (k : ℕ) × (l.n + k ≡ 1000) × ReaderIsAt l.reader s text
    × (faults_of l.fn.bytes ≡ l.lists.faults.items ++ faults_from l.n (records_from default_config (suc k) s text))
    × (numbered_orders_of l.fn.bytes ≡ l.lists.orders.items ++ orders_from l.n (records_from default_config (suc k) s text))
