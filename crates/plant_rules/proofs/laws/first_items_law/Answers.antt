use Rattle.plant_rules.proofs.ItemsAreFirst.{orders_are_first, parts_are_first, lines_are_first}
use Rattle.plant_rules.proofs.laws.first_items_law.Goals as goal

pub returns-clause-orders : goal.returns-clause-orders
returns-clause-orders c = orders_are_first

pub returns-clause-parts : goal.returns-clause-parts
returns-clause-parts c = parts_are_first

pub returns-clause-lines : goal.returns-clause-lines
returns-clause-lines c = lines_are_first
