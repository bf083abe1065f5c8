use Rattle.std.proofs.Common.{rules, is_lt}
use Rattle.std.proofs.lemmas.List.Sorted.{IsPartitionPoint-from_clause}
use Rattle.plant_trace.specs.{node_cmp}
use Rattle.plant_keyed.proofs.CachedEdges.{parted_before}
use Rattle.plant_keyed.proofs.edge_cache.count_before.Goals as goal

pub returns-clause-parted : goal.returns-clause-parted
returns-clause-parted c = IsPartitionPoint-from_clause (λ l. is_lt (node_cmp l.0 c.args.node)) _ _ c.partition_point.ensures.partitioned (parted_before c.args.node c.args.links.now c.requires) (λ a r q k. search rules)
