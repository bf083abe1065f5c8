use Rattle.sqlite.specs.Held.{state}
use Rattle.std.proofs.Common.{IfOk}
use Rattle.plant_trace.specs.{IsNext, Lists}
use Rattle.plant_view.specs.{edges_of}
use Rattle.plant_keyed.specs.{abstraction}
use Rattle.plant_keyed.proofs.LookupsKeep.{recalled_so, traced_on}
use Rattle.plant_keyed.proofs.keyed.Keyed.next_nodes.Goals as goal

pub returns-in-Some-clause-traced : goal.returns-in-Some-clause-traced
returns-in-Some-clause-traced g c =
    let old = state g.S.Store c.args.self.now.conn.now in
    let new = state g.S.Store c.fill_if_many.new.self.conn.now in
    recalled_so old new _ _ _ _ (λ s. Lists (IsNext c.args.direction (edges_of s) c.args.node) c.in-Some.nodes.items)
    c.fill_if_many.ensures.frame c.fill_if_many.ensures.stays
    (λ true_of. rw (c.in_ok-known.ensures.only, c.in-Some.is) at (c.recalled.ensures.next (abstraction new.now) true_of.edges))

pub returns-in-None-clause-traced : goal.returns-in-None-clause-traced
returns-in-None-clause-traced g c =
    let old = state g.S.Store c.args.self.now.conn.now in
    let mid = state g.S.Store c.fill_if_many.new.self.conn.now in
    let new = state g.S.Store c.look_up_next.new.self.conn.now in
    traced_on old mid new _ _ _ _ _ _ (λ s. IfOk c.look_up_next.result (λ nodes. Lists (IsNext c.args.direction (edges_of s) c.args.node) nodes.items))
    c.fill_if_many.ensures.frame c.fill_if_many.ensures.stays c.look_up_next.ensures.reported c.look_up_next.ensures.cached
