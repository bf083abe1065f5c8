use Rattle.std.proofs.Common.{subst, sym}
use Rattle.desk_server.specs.Exchanges.{AreHeld}
use Rattle.desk_server.proofs.StepsOfConnections.{stays_waiting}
use Rattle.desk_server.proofs.listening.Connections.ask.Goals as goal

pub loop-preserved : goal.loop-preserved
loop-preserved g c =
    let now = c.next_ready.ensures.same in
    let before = c.loop.invariant.0 in (
      cc,
      λ terms all journal held. subst (λ k. AreHeld {terms = terms} all k journal) (sym c.mark.ensures)
          (stays_waiting c.loop.self.queue.connections.items c.in-Some.number terms all journal (c.loop.invariant.1 terms all journal held)),
    )
