use Rattle.std.proofs.Common.{◌≡◌, ◌∙◌, Option, IfSome, ap, sym, subst}
use Rattle.std.proofs.lemmas.Bool.{false≢true}
use Rattle.sqlite.specs.Effect.{Database}
use Rattle.sqlite.specs.Held.{state}
use Rattle.plant_base.specs.{Position}
use Rattle.plant_trace.specs.{Direction}
use Rattle.plant_view.specs.{edges_of, position_of}
use Rattle.plant_keyed.specs.{AreTurned, AreEdgesOf, abstraction}
use Rattle.plant_keyed.specs.declared.lookup_cache.LookupCache.{LookupCache}
use Rattle.plant_keyed.proofs.CachedEdges.{all_reported}
use Rattle.plant_keyed.proofs.keyed.Keyed.fill.Goals as goal

pub returns-clause-stays : goal.returns-clause-stays
returns-clause-stays g c honest =
    let old = state g.S.Store c.args.self.now.conn.now in
    let reported = c.in_ok-rows.ensures.reported in
    let all = c.in_ok-all.all in
    let now = reported.always.shows honest.clean honest.unfailed in
    let turned = rw (c.as_slice.ensures.value, reported.holds honest, c.in_ok-all.ensures.only) at c.cached_by.ensures.turned in
    let whole = all_reported (abstraction old.now).movements c.args.direction all.links.items turned in
    let true_of : AreEdgesOf (abstraction old.now) all = λ _. subst (λ (d : Direction). AreTurned d (edges_of (abstraction old.now)) all.links.items) (sym (rw c.in_ok-all.ensures.only at c.cached_by.ensures.way)) whole in
    let same = ap (λ (k : LookupCache). k.position) c.all_edges.ensures.cached in (
      λ was. record {
        position = subst (λ (db : Database). IfSome c.all_edges.new.self.cache.now.position (λ p. p ≡ position_of (abstraction db))) (sym now) (subst (λ (o : Option Position). IfSome o (λ p. p ≡ position_of (abstraction old.now))) (sym same) was.position);
        edges = subst (λ (db : Database). AreEdgesOf (abstraction db) all) (sym now) true_of;
      },
      λ is. record {
        position = subst (λ (o : Option Position). IfSome o (λ p. p ≡ position_of (abstraction old.now))) same (subst (λ (db : Database). IfSome c.all_edges.new.self.cache.now.position (λ p. p ≡ position_of (abstraction db))) now is.position);
        edges = λ read. absurd (false≢true (sym c.requires ∙ read));
      },
    )
