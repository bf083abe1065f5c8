use Rattle.std.proofs.Common.{◌≤◌, ◌∙◌, arith, rules, sym, take, length-take, is_le}
use Rattle.std.proofs.lemmas.List.Sorted.{IsPartitionPoint-from_clause}
use Rattle.grouped_rows.specs.{EndsAt}
use Rattle.grouped_rows.proofs.BinarySearch.{adjacent, upto_first}
use Rattle.grouped_rows.proofs.RunEnds.{ends_among, upto_among}
use Rattle.grouped_rows.proofs.+end_of.Goals as goal

pub returns-then-most-rows-clause-end : goal.returns-then-most-rows-clause-end
returns-then-most-rows-clause-end g t c =
    let cmp = g.G.Key.Ord.cmp in
    let of = g.G.Grouping.key_of in
    let rows = c.args.rows.now in
    IsPartitionPoint-from_clause (λ r. is_le (adjacent cmp of c.args.key r)) rows _ c.partition_point.ensures.partitioned (upto_first cmp g.met.G.Key.Ord.total of rows c.args.key c.requires.rises) (λ a r q k. search rules)

pub returns-clause-end : goal.returns-clause-end
returns-clause-end g t c =
    let cmp = g.G.Key.Ord.cmp in
    let of = g.G.Grouping.key_of in
    let rows = c.args.rows.now in
    let most = c.args.most in
    let end = c.partition_point-2.result in
    let total = g.met.G.Key.Ord.total in
    let among : EndsAt cmp of (take most rows) c.args.key end = IsPartitionPoint-from_clause (λ r. is_le (adjacent cmp of c.args.key r)) (take most rows) _ c.partition_point-2.ensures.partitioned (upto_among cmp of rows c.args.key total c.requires.rises most) (λ a r q k. search rules) in
    let short : end ≤ most = omega (arith, c.partition_point-2.ensures.bound, length-take most rows) in
    ends_among cmp of rows c.args.key total c.requires.rises most (omega (arith, c.if-most-rows.false)) c.index-rows-most.result c.index-rows-most.is (sym c.is_upto.ensures ∙ c.if-is_upto.false) end short among
