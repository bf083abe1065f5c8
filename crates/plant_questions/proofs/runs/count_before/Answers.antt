use Rattle.std.proofs.Common.{rules, is_lt}
use Rattle.std.proofs.lemmas.List.Sorted.{IsPartitionPoint-from_clause}
use Rattle.plant_base.specs.{id_cmp}
use Rattle.plant_questions.proofs.RowsOfLot.{parted_before}
use Rattle.plant_questions.proofs.runs.count_before.Goals as goal

pub returns-clause-parted : goal.returns-clause-parted
returns-clause-parted g c rise = IsPartitionPoint-from_clause (λ r. is_lt (id_cmp (g.R.OfLot.lot_of r) c.args.lot)) _ _ c.partition_point.ensures.partitioned (parted_before g.R.OfLot.lot_of c.args.lot c.args.rows.now rise) (λ a r q k. search rules)
