-- Order files that were taken in.
use Rattle.std.proofs.Common.{◌≡◌, ℕ, List, Option, Some, None, Result, Ok, Err, subst, IfSome, IfOk, IfErr}
use Rattle.plant_base.specs.{Agrees, OrderRow}
use Rattle.plant_orders.specs.{orders_of, FaultOfFile, OrdersFault}
use Rattle.desk_program.specs.{IsGivenOf}

-- what a reader gave is of the file that it had left
pub given_of : (unread : Option (List ℕ)) (given : Result (List OrderRow) OrdersFault)
    → IfOk given (λ orders. (bytes : List ℕ) × Agrees unread bytes × (orders_of bytes ≡ Ok orders))
    → IfErr given (λ fault. (bytes : List ℕ) × Agrees unread bytes × FaultOfFile fault (orders_of bytes))
    → (bytes : List ℕ) × Agrees unread bytes × IsGivenOf (orders_of bytes) given
given_of unread (Ok orders) says reports = says
given_of unread (Err f) says reports = reports

-- what holds of an input's bytes, where its reader knows them
pub known_bytes : (known : Option (List ℕ)) (P : List ℕ → Type 0) → ((bytes : List ℕ) × Agrees known bytes × P bytes) → IfSome known P
known_bytes None P h = tt
known_bytes (Some whole) P h = subst P h.1 h.2
