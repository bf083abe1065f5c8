use Rattle.std.proofs.Common.{sym}
use Rattle.plant_trace.proofs.HoldsIfHonest.{HoldsIfHonest-weaker}
use Rattle.plant_questions.proofs.HoldsOfAllLots.{all_merged}
use Rattle.plant_questions.proofs.hold_pages.all_holds.Goals as goal

pub returns-in-None : goal.returns-in-None
returns-in-None g c = HoldsIfHonest-weaker (λ q sound. rw c.in-None.is q) c.holds_after.ensures

pub returns-in-Some : goal.returns-in-Some
returns-in-Some g c = HoldsIfHonest-weaker (λ q sound. rw (c.in-Some.is, sym (all_merged (g.V.View.state c.args.view.now) c.in-Some.place sound)) q) c.holds_beyond.ensures
