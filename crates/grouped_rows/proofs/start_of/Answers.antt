use Rattle.std.proofs.Common.{rules, is_lt}
use Rattle.std.proofs.lemmas.List.Sorted.{IsPartitionPoint-from_clause}
use Rattle.grouped_rows.proofs.BinarySearch.{adjacent, before_first}
use Rattle.grouped_rows.proofs.start_of.Goals as goal

pub returns-clause-start : goal.returns-clause-start
returns-clause-start g c =
    IsPartitionPoint-from_clause (λ r. is_lt (adjacent g.G.Key.Ord.cmp g.G.Grouping.key_of c.args.key r)) c.args.rows.now _ c.partition_point.ensures.partitioned
    (before_first g.G.Key.Ord.cmp g.met.G.Key.Ord.total g.G.Grouping.key_of c.args.rows.now c.args.key c.requires) (λ a r q k. search rules)
