use Rattle.std.proofs.Common.{◌≡◌, ◌∙◌, ◌++◌, List, filter, map, ap₂, sym, subst, refl}
use Rattle.std.proofs.lemmas.Slice.{pushed}
use Rattle.sqlite.specs.Effect.{Database}
use Rattle.sqlite.specs.Held.{state}
use Rattle.plant_base.specs.{EdgeRow}
use Rattle.plant_view.specs.{edge_rows, edges_among, ends_of}
use Rattle.plant_keyed.specs.{begins_at, HasEdgesAt, abstraction}
use Rattle.plant_keyed.proofs.EdgesAtNode.{by_one, by_two}
use Rattle.plant_keyed.proofs.LookupsKeep.{reported_then, reported_weaker}
use Rattle.plant_keyed.proofs.keyed.Keyed.edges_at.Goals as goal

pub returns-in_default-clause-reported : goal.returns-in_default-clause-reported
returns-in_default-clause-reported g c =
    let all = (abstraction (state g.S.Store c.args.self.now.conn.now).now).movements in
    let kinds = c.kinds_at-kind in
    reported_weaker _ _ _ _ (c.in_ok-rows.rows.items ≡ filter (begins_at c.args.direction kinds.result.0 c.id_of-id.result.now) (edge_rows all)) _ (λ is. subst (λ (rows : List EdgeRow). HasEdgesAt c.args.direction c.args.node.now (edges_among all) (map ends_of rows)) (sym is)
    (by_one all c.args.direction c.args.node.now c.id_of-id.result.now c.id_of-id.ensures kinds.result kinds.ensures c.in_default.is)) c.in_ok-rows.ensures.reported

pub returns-clause-reported : goal.returns-clause-reported
returns-clause-reported g c =
    let old = state g.S.Store c.args.self.now.conn.now in
    let mid = state g.S.Store c.edges_of_kind.new.self.conn.now in
    let new = state g.S.Store c.edges_of_kind-2.new.self.conn.now in
    let id = c.id_of-id.result.now in
    let all = (abstraction old.now).movements in
    let kinds = c.kinds_at-kind in
    let first = c.in_ok-rows.ensures.reported in
    let second = c.in_ok-more.ensures.reported in
    let both = reported_then old mid new c.args.self.now.has_failed c.edges_of_kind.new.self.has_failed c.edges_of_kind-2.new.self.has_failed
    (λ (db : Database). c.in_ok-more.more.items ≡ filter (begins_at c.args.direction c.in-Some.other id) (edge_rows (abstraction db).movements)) first.always second in
    record {
      always = both.always;
      before = both.before;
      holds = λ honest.
          let is = pushed c.as_slice.result.now refl c.in_ok-if_memory.ensures.only c.extend_from_slice.ensures.items
          ∙ ap₂ (λ xs ys. xs ++ ys) (first.holds (second.before honest)) (c.as_slice.ensures.value ∙ both.holds honest) in
          subst (λ (rows : List EdgeRow). HasEdgesAt c.args.direction c.args.node.now (edges_among all) (map ends_of rows)) (sym is)
          (by_two all c.args.direction c.args.node.now id c.id_of-id.ensures kinds.result kinds.ensures c.in-Some.other c.in-Some.is);
    }
