use Rattle.std.proofs.Common.{take, inr}
use Rattle.desk_server.proofs.connection.Connection.receive.Goals as goal

pub returns-then-is_err-clause-shown : goal.returns-then-is_err-clause-shown
returns-then-is_err-clause-shown g c = inr (inr (take c.in-Bytes.n c.read-came.new.piece, c.in-Bytes.ensures.received))
