use Rattle.std.proofs.Common.{None, map}
use Rattle.plant_view.specs.{sublot_row}
use Rattle.plant_answers_genealogy.proofs.known_lots.KnownLots.new.Goals as goal

pub returns-clause-valid : goal.returns-clause-valid
returns-clause-valid c s = record { lots = c.unread.ensures.valid s.lots; sublots = c.unread-2.ensures.valid (map (sublot_row s.movements) s.places); holds = c.unread-3.ensures.valid s.holds; definition = tt }

pub returns-clause-nothing : goal.returns-clause-nothing
returns-clause-nothing c = λ i. record { lots = c.unread.ensures.nothing i; sublots = c.unread-2.ensures.nothing i; holds = c.unread-3.ensures.nothing i; definition = None }
