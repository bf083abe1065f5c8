-- What is answered to the bytes of a connection.
use Rattle.std.specs.Prelude.{ℕ, Bool, List, [], Some, Ok}
use Rattle.plant_base.specs.{State}
use Rattle.plant_keeper.specs.{States}
use Rattle.plant_http_requests.specs.{Now, Terms}
use Rattle.plant_http.specs.{Serves}
use Rattle.plant_http.specs.declared.serve.Served.TheVariants.{Answered}
use Rattle.desk_server.specs.declared.reply.Reply.{Reply}

-- The text is the answer of this status to the request that the bytes are, by a keeper of schema k that represented s, where this was
-- known; and the keeper has done the request's task, once, before the text was there.
abbrev pub AnswersBytes : Terms → Now → ℕ → State → List ℕ → States → Bool → (States → Type 0) → Reply → Type 0
AnswersBytes terms now k s request represents shut crash_states reply =
    Serves (record terms { now = now }) k s request (Some []) (Some reply.text.items) represents shut crash_states (Ok (Answered reply.status))
