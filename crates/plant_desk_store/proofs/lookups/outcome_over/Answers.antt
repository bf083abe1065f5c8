use Rattle.std.proofs.Common.{◌≡◌, ◌∙◌, Ok, ap, subst, sym, rules}
use Rattle.sqlite.specs.Held.{state}
use Rattle.plant_base.specs.{State}
use Rattle.plant_desk_store.proofs.LookupsAreHonest.{honest_at}
use Rattle.plant_desk_store.proofs.lookups.outcome_over.Goals as goal

pub returns-clause-right : goal.returns-clause-right
returns-clause-right g c clean s at known =
    let old = state g.S.Store c.args.view.now.conn.now in
    let mid = state g.S.Store c.read_position.new.self.conn.now in
    let new = state g.S.Store c.look_up.new.view.conn.now in
    let read : c.read_position.result ≡ Ok c.in_ok-position.position = search rules in
    let position = rw read at c.read_position.ensures in
    let first = position.reported in
    let second = c.in_ok-outcome.ensures.right in
    let honest = honest_at old mid new c.args.view.now.has_failed c.read_position.new.self.has_failed c.look_up.new.view.has_failed c.args.view.now.cache.now c.read_position.new.self.cache.now c.look_up.new.view.cache.now s first.always second.always.1 position.stays second.always.2 clean c.if-view.false position.live at known in
    let before = (second.before (honest.ends, honest.true_of)).0 in
    let counted = ap (λ p. p.seq) (first.holds before) ∙ ap (λ (u : State). u.seq) (honest.showed ∙ sym honest.shows) in
    subst (λ (u : State). g.T.OverView.is_right u c.args.asked.now c.in_ok-outcome.outcome) honest.shows (second.holds (honest.ends, honest.true_of) before.valid.sound counted)
