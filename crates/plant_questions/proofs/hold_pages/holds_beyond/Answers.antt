use Rattle.plant_trace.proofs.HoldsIfHonest.{HoldsIfHonest-then}
use Rattle.plant_questions.proofs.hold_pages.holds_beyond.Goals as goal

pub returns : goal.returns
returns g c = HoldsIfHonest-then g.met.V.Edges.kept_trans g.met.V.Edges.frame_trans c.in_ok-near.ensures c.in_ok-far.ensures (λ k p q. c.joined.ensures _ _ p (rw (g.met.V.View.kept_state _ _ k) at q))
