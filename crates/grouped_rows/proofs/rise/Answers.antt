use Rattle.std.proofs.Common.{rules, not, is_lt}
use Rattle.std.specs.Option.{option_cmp}
use Rattle.std.proofs.lemmas.List.Sorted.{answers_always}
use Rattle.grouped_rows.proofs.SortedCopy.{rises_from_answer}
use Rattle.grouped_rows.proofs.rise.Goals as goal

pub returns : goal.returns
returns g c =
    rises_from_answer g.G.Key.Ord.cmp g.G.Grouping.key_of c.args.rows.now c.is_sorted_by.result
    (c.is_sorted_by.ensures.cases (λ r s. not (is_lt (option_cmp g.G.Key.Ord.cmp (g.G.Grouping.key_of s) (g.G.Grouping.key_of r)))) (answers_always _ _ _ (λ f a r h k. search rules)))
