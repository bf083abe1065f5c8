use Rattle.std.proofs.Common.{rules, ◌≡◌, ◌∙◌, true, IfOk, subst, refl}
use Rattle.std.proofs.lemmas.Result.{IfOk-weaker}
use Rattle.std.specs.Set.{sorted_merge}
use Rattle.sqlite.specs.Effect.{Database}
use Rattle.sqlite.specs.Held.{state}
use Rattle.sqlite.specs.declared.types.Value.TheVariants.{Text}
use Rattle.plant_base.specs.{movement_order}
use Rattle.sql_queries.specs.{first_of}
use Rattle.plant_tables.specs.{movement_table}
use Rattle.plant_tables_columns.specs.{number, movement_read}
use Rattle.plant_questions.specs.{page_of, movement_after}
use Rattle.plant_keyed.specs.{IsPagedBeyond, frame_trans}
use Rattle.plant_keyed.proofs.LookupsKeep.{reported_then}
use Rattle.plant_keyed.proofs.TwoKeyPages.{ledger_is}
use Rattle.plant_keyed.proofs.TextsSelect.{ledger, ledger_at, ledger_by_second, ledger_by_second_at}
use Rattle.plant_keyed.proofs.LookupsReport.{valid_reported, view_reported}
use Rattle.plant_keyed.proofs.worklists.KeyedWorklists.ledger_of.Goals as goal

pub page_beyond-requires : goal.page_beyond-requires
page_beyond-requires g c = (4, 1, 2, rw c.first_key-by.ensures ledger_at, rw c.first_key-by.ensures ledger)

pub page_beyond-requires-2 : goal.page_beyond-requires-2
page_beyond-requires-2 g c = (6, 1, 2, rw c.first_key-by.ensures ledger_by_second_at, rw c.first_key-by.ensures ledger_by_second)

pub returns-in_err-named : goal.returns-in_err-named
returns-in_err-named g c = valid_reported g.S.Store c.page_beyond.ensures.same_reference c.page_beyond.ensures.frame c.page_beyond.ensures.cached (λ clean valid holds. search rules)

pub returns-in_err-made : goal.returns-in_err-made
returns-in_err-made g c =
    valid_reported g.S.Store (c.page_beyond-2.ensures.same_reference ∙ c.page_beyond.ensures.same_reference)
    (frame_trans _ _ _ _ _ _ c.page_beyond.ensures.frame c.page_beyond-2.ensures.frame) (c.page_beyond-2.ensures.cached ∙ c.page_beyond.ensures.cached) (λ clean valid holds. search rules)

pub returns : goal.returns
returns g c =
    let old = state g.S.Store c.args.self.now.conn.now in
    let mid = state g.S.Store c.page_beyond.new.self.conn.now in
    let new = state g.S.Store c.page_beyond-2.new.self.conn.now in
    let first = rw (c.first_key-by.ensures, c.id.ensures, c.in_ok-seq.ensures.value, c.small-line.ensures, c.movement_after-place.ensures) at
    (c.in_ok-named.ensures.reported 4 1 2 (rw c.first_key-by.ensures ledger_at) (rw c.first_key-by.ensures ledger) (rw c.id.ensures refl) (rw c.in_ok-seq.ensures.value refl) (rw c.small-line.ensures refl)) in
    let second = rw (c.first_key-by.ensures, c.id-2.ensures, c.in_ok-seq.ensures.value, c.small-line.ensures, c.movement_after-place.ensures) at
    (c.in_ok-made.ensures.reported 6 1 2 (rw c.first_key-by.ensures ledger_by_second_at) (rw c.first_key-by.ensures ledger_by_second) (rw c.id-2.ensures refl) (rw c.in_ok-seq.ensures.value refl) (rw c.small-line.ensures refl)) in
    let start = movement_after c.args.cursor in
    let both = reported_then old mid new c.args.self.now.has_failed c.page_beyond.new.self.has_failed c.page_beyond-2.new.self.has_failed
    (λ (db : Database). IsPagedBeyond db movement_table (first_of movement_table.keys) movement_read movement_order 6 1 2 (Text c.args.lot) (number start.first) (number start.second) c.in_ok-made.made) first.always second in
    view_reported g.S.Store (c.page_beyond-2.ensures.same_reference ∙ c.page_beyond.ensures.same_reference) (record {
      always = both.always;
      before = both.before;
      holds = λ honest.
          let earlier = both.before honest in
          IfOk-weaker c.if_memory.result _ _ (λ page is. ledger_is old.now _ earlier.valid earlier.holds c.args.lot c.args.cursor page (record {
            first = c.in_ok-named.named;
            second = c.in_ok-made.made;
            of_first = first.holds (second.before honest);
            of_second = both.holds honest;
            as_one = λ xs ys x y. subst (λ made. IfOk made (λ p. p ≡ page_of (sorted_merge movement_order true xs ys))) is (c.merge_pages.ensures xs ys x y);
          })) c.if_memory.ensures.only;
    }) (c.page_beyond-2.ensures.cached ∙ c.page_beyond.ensures.cached)
