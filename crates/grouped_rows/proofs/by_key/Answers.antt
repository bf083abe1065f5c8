use Rattle.std.proofs.Common.{rules, map}
use Rattle.std.proofs.lemmas.List.Sorted.{answers_always}
use Rattle.grouped_rows.proofs.SortedCopy.{searchable, searchable_copy}
use Rattle.grouped_rows.proofs.by_key.Goals as goal

pub returns : goal.returns
returns g c =
    let cmp = g.G.Key.Ord.cmp in
    let of = g.G.Grouping.key_of in
    let found = searchable cmp g.met.G.Key.Ord.total of (λ r. r.now) c.args.rows.now c.in_ok-found.found.items c.deref.result.now c.in_ok-found.ensures
    (rw c.deref.ensures.value (c.in_ok-sort_by_key.ensures.sorted (λ r. of r.now) (answers_always _ _ _ (λ f a r h k. search rules))))
    (rw c.deref.ensures.value (c.in_ok-sort_by_key.ensures.stable (λ r. of r.now) (answers_always _ _ _ (λ f a r h k. search rules)))) in
    searchable_copy cmp of c.args.rows.now (map (λ r. r.now) c.deref.result.now) c.copied.result found c.copied.ensures
