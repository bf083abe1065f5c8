use Rattle.std.proofs.Common.{◌∙◌, nat_cmp}
use Rattle.std.specs.Cmp.Lexicographic.{slice_cmp}
use Rattle.std.specs.Ordering.{ordering_then}
use Rattle.plant_values.proofs.PaddedTextsCompare.{padded_cmp}
use Rattle.plant_values.proofs.short.ShortOrd.cmp.Goals as goal

pub returns : goal.returns
returns g c =
    c.then.ensures
    ∙ (λ t. ordering_then (c.order.ensures t) (c.cmp.ensures t))
    ∙ padded_cmp g.row.N c.self.inside.len c.other.inside.len c.self.inside.bytes c.other.inside.bytes c.self.invariant c.other.invariant
    ∙ (λ t. slice_cmp nat_cmp (c.self.view_is t) (c.other.view_is t))
