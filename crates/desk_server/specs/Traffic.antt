-- What passes over connections, as a transport shows it.
use Rattle.std.specs.Prelude.{◌≡◌, ℕ, zero, suc, Bool, true, false, List, [], ◌∷◌, ◌++◌, length, take, Option, Some, None, option_map, Result, Ok, Err}
use Rattle.desk_server.specs.declared.fault.ServingFault.{ServingFault}
use Rattle.desk_server.specs.declared.transport.Piece.{Piece}
use Rattle.desk_server.specs.declared.transport.Piece.TheVariants as piece

-- what passed over a connection: what was received on it, whether its client has ended its side, and what was handed over to it
pub record Traffic : Type 0 where
  pub received : List ℕ
  pub has_ended : Bool
  pub sent : List ℕ

-- a connection over which nothing has passed
abbrev pub no_traffic : Traffic
no_traffic = record { received = []; has_ended = false; sent = [] }

abbrev pub with_received : List ℕ → Traffic → Traffic
with_received came c = record c { received = c.received ++ came }

abbrev pub with_end : Traffic → Traffic
with_end c = record c { has_ended = true }

abbrev pub with_sent : List ℕ → Traffic → Traffic
with_sent bytes c = record c { sent = c.sent ++ bytes }

-- the connections, of which the one of this number is changed so
abbrev pub changed_at : (Traffic → Traffic) → ℕ → List Traffic → List Traffic
changed_at f n [] = []
changed_at f zero (c ∷ all) = f c ∷ all
changed_at f (suc n) (c ∷ all) = c ∷ changed_at f n all

-- a connection that was taken comes after the others, and its number says how many came before it
abbrev pub TakesConnection : Result (Option ℕ) ServingFault → Option (List Traffic) → Option (List Traffic) → Type 0
TakesConnection (Ok (Some n)) old new =
    (new ≡ option_map (λ all. all ++ no_traffic ∷ []) old) × ((all : List Traffic) → old ≡ Some all → n ≡ length all)
TakesConnection (Ok None) old new = new ≡ old
TakesConnection (Err f) old new = new ≡ old

-- one read of the connection of this number gave the first of these bytes, or its end, or nothing
abbrev pub HasRead : Piece → ℕ → List ℕ → Option (List Traffic) → Option (List Traffic) → Type 0
HasRead (piece.Bytes k) n bytes old new = new ≡ option_map (changed_at (with_received (take k bytes)) n) old
HasRead piece.End n bytes old new = new ≡ option_map (changed_at with_end n) old
HasRead piece.Nothing n bytes old new = new ≡ old
HasRead piece.Broken n bytes old new = new ≡ old

-- one write to the connection of this number took so many of these bytes, or none
abbrev pub HasWritten : Option ℕ → ℕ → List ℕ → Option (List Traffic) → Option (List Traffic) → Type 0
HasWritten None n bytes old new = new ≡ old
HasWritten (Some k) n bytes old new = new ≡ option_map (changed_at (with_sent (take k bytes)) n) old
