-- What was received on a connection, and what it is answered.
use Rattle.std.specs.Prelude.{⊤, ◌≡◌, ℕ, Bool, List}
use Rattle.plant_base.specs.{State}
use Rattle.plant_keeper.specs.{States}
use Rattle.plant_http_requests.specs.{HasCome, Now, Terms}
use Rattle.plant_http_requests.specs.declared.progress.RequestProgress.TheVariants as progress
use Rattle.desk_server.specs.Reply.{AnswersBytes}
use Rattle.desk_server.specs.declared.connection.Connection.{Connection}
use Rattle.desk_server.specs.declared.connection.Stage.TheVariants as stage
use Rattle.desk_server.specs.declared.receiving.Received.{Received}
use Rattle.desk_server.specs.declared.receiving.Received.TheVariants as received

-- a request is taken as whole only where its bytes are, by these terms and what was known
abbrev pub IsReceived : Terms → Now → List ℕ → Received → Type 0
IsReceived terms now request received.Whole = HasCome (record terms { now = now }) request progress.Whole
IsReceived terms now request received.Ended = ⊤
IsReceived terms now request received.Lacks = ⊤
IsReceived terms now request received.Broken = ⊤

-- The answer that is handed over to the connection from its first byte on is the answer to the bytes that were received on it, by what was
-- known before the first of them.
abbrev pub AnswersConnection : Terms → ℕ → State → Connection → States → Bool → (States → Type 0) → Connection → Type 0
AnswersConnection terms k s old represents shut crash_states new =
    (status : ℕ) × (new.stage ≡ stage.Writing status) × (new.handed ≡ 0) × (new.request ≡ old.request)
    × AnswersBytes terms old.now k s old.request.items represents shut crash_states (record { status = status; text = new.answer })
