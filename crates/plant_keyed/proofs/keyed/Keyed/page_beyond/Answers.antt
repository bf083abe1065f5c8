use Rattle.std.proofs.Common.{rules, ◌≡◌, ◌+◌, true, [], ◌∷◌, IfOk, subst, refl}
use Rattle.std.proofs.lemmas.Result.{IfOk-weaker}
use Rattle.std.specs.Set.{sorted_merge}
use Rattle.sqlite.specs.Effect.{Database}
use Rattle.sqlite.specs.Held.{state}
use Rattle.sqlite.specs.Values.{bound_value}
use Rattle.sqlite_value.specs.Value.{owned}
use Rattle.plant_tables_columns.specs.{number}
use Rattle.plant_questions.specs.{page_size, page_of}
use Rattle.plant_keyed.specs.{IsPaged, frame_trans}
use Rattle.plant_keyed.proofs.LookupsKeep.{reported_by, reported_then}
use Rattle.plant_keyed.proofs.keyed.Keyed.page_beyond.Goals as goal

pub page_found-requires : goal.page_found-requires
page_found-requires g c = (c.requires.0 ∷ c.requires.1 ∷ [], c.requires.2, c.requires.3)

pub page_found-requires-2 : goal.page_found-requires-2
page_found-requires-2 g c = (c.requires.0 ∷ [], c.requires.1, c.requires.4)

pub returns-in_err-far-clause-frame : goal.returns-in_err-far-clause-frame
returns-in_err-far-clause-frame g c = frame_trans _ _ _ _ _ _ c.page_found.ensures.frame c.page_found-2.ensures.frame

pub returns-in_err-far-clause-reported : goal.returns-in_err-far-clause-reported
returns-in_err-far-clause-reported g c place next last near far known one two =
    reported_by _ _ _ _ _ (frame_trans _ _ _ _ _ _ c.page_found.ensures.frame c.page_found-2.ensures.frame) (λ clean valid holds. search rules)

pub returns-clause-frame : goal.returns-clause-frame
returns-clause-frame g c = frame_trans _ _ _ _ _ _ c.page_found.ensures.frame c.page_found-2.ensures.frame

pub returns-clause-reported : goal.returns-clause-reported
returns-clause-reported g c place next last near far known one two =
    let old = state g.S.Store c.args.self.now.conn.now in
    let mid = state g.S.Store c.page_found.new.self.conn.now in
    let new = state g.S.Store c.page_found-2.new.self.conn.now in
    let by = c.args.by.now in
    let given = bound_value (owned c.args.given) in
    let start = bound_value (owned c.args.first) in
    let last_start = bound_value (owned c.args.second) in
    let first = reported_by old mid c.args.self.now.has_failed c.page_found.new.self.has_failed
    (IsPaged old.now c.args.table_def.now by g.R.Decoded.row_from (place ∷ next ∷ []) last (given ∷ start ∷ last_start ∷ number (page_size + 1) ∷ []) c.in_ok-near.near) c.page_found.ensures.frame
    (λ clean valid holds. rw c.small.ensures at (c.in_ok-near.ensures.rows (place ∷ next ∷ []) last near
    (record { long = refl; known = rw (known, one, two, c.small.ensures) refl; up_to = rw c.small.ensures refl }) clean)) in
    let second = reported_by mid new c.page_found.new.self.has_failed c.page_found-2.new.self.has_failed
    (IsPaged mid.now c.args.table_def.now by g.R.Decoded.row_from (place ∷ []) next (given ∷ start ∷ number (page_size + 1) ∷ []) c.in_ok-far.far) c.page_found-2.ensures.frame
    (λ clean valid holds. rw c.small-2.ensures at (c.in_ok-far.ensures.rows (place ∷ []) next far
    (record { long = refl; known = rw (known, one, c.small-2.ensures) refl; up_to = rw c.small-2.ensures refl }) clean)) in
    let both = reported_then old mid new c.args.self.now.has_failed c.page_found.new.self.has_failed c.page_found-2.new.self.has_failed
    (λ (db : Database). IsPaged db c.args.table_def.now by g.R.Decoded.row_from (place ∷ []) next (given ∷ start ∷ number (page_size + 1) ∷ []) c.in_ok-far.far) first.always second in
    record {
      always = both.always;
      before = both.before;
      holds = λ honest. IfOk-weaker c.if_memory.result _ _ (λ page is. record {
        first = c.in_ok-near.near;
        second = c.in_ok-far.far;
        of_first = first.holds (second.before honest);
        of_second = both.holds honest;
        as_one = λ xs ys x y. subst (λ made. IfOk made (λ p. p ≡ page_of (sorted_merge g.R.HasKeyOrder.order true xs ys))) is (c.merge_pages.ensures xs ys x y);
      }) c.if_memory.ensures.only;
    }
