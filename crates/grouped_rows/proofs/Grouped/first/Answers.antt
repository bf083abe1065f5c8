use Rattle.std.proofs.Common.{◌∙◌}
use Rattle.grouped_rows.specs.{is_keyed}
use Rattle.grouped_rows.proofs.FirstPassing.{found_alike}
use Rattle.grouped_rows.proofs.Grouped.first.Goals as goal

pub returns : goal.returns
returns g c =
    c.first_of.ensures ∙ (rw c.searched.ensures (found_alike (λ r. is_keyed g.G.Key.Ord.cmp (g.G.Grouping.key_of r) c.args.key) _ _ (c.args.self.now.same c.args.key)))
