use Rattle.std.proofs.Common.{◌≡◌, refl, subst, [], ◌∷◌}
use Rattle.sqlite.specs.Held.{state}
use Rattle.plant_trace.specs.{Node}
use Rattle.plant_view.specs.{marks_on}
use Rattle.plant_keyed.specs.{id_of, abstraction}
use Rattle.plant_keyed.proofs.LookupFinds.{marks_are}
use Rattle.plant_keyed.proofs.LookupsKeep.{reported_found}
use Rattle.plant_keyed.proofs.LookupTexts.{marks_on_node}
use Rattle.plant_keyed.proofs.keyed.Keyed.marks_at.Goals as goal

pub found-requires : goal.found-requires
found-requires g c = (2 ∷ 3 ∷ [], marks_on_node)

pub returns-clause-reported : goal.returns-clause-reported
returns-clause-reported g c = reported_found _ _ _ _ c.found.result _ _ c.found.ensures.frame
    (λ clean. rw (c.id.ensures, c.small.ensures, c.number.ensures, c.id_of.ensures) at (c.found.ensures.rows (2 ∷ 3 ∷ []) marks_on_node (refl, rw (c.id.ensures, c.small.ensures) refl) clean))
    (λ valid holds rows found. subst (λ (y : Node). rows.items ≡ marks_on (abstraction (state g.S.Store c.args.self.now.conn.now).now) y) c.kind_of-kind.ensures (marks_are _ _ valid holds c.kind_of-kind.result (id_of c.args.node.now) rows.items found))
