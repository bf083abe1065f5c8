use Rattle.std.proofs.Common.{refl}
use Rattle.plant_tables.proofs.DeskStatements.{all_indexed}
use Rattle.plant_tables.proofs.indexing.all_indexes.Goals as goal

pub returns-clause-named : goal.returns-clause-named
returns-clause-named c = refl

pub returns-clause-made : goal.returns-clause-made
returns-clause-made c = all_indexed
