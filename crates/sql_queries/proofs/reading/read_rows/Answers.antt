use Rattle.std.proofs.Common.{IsTrue, ◌≡◌, ◌∙◌, ◌++◌, ◌∷◌, ◌<◌, [], List, ℕ, Err, refl, ap, subst, length, length-append, rules, arith}
use Rattle.std.proofs.lemmas.Result.{IfErr-at_err}
use Rattle.sqlite_value.specs.Order.{Row}
use Rattle.sql_tables.specs.declared.fault.StoreFault.TheVariants.{Memory}
use Rattle.sqlite.specs.State.{HasCleanDisk}
use Rattle.sqlite.specs.Values.{bound}
use Rattle.sqlite.specs.Held.{Held, state}
use Rattle.sqlite_trees.specs.declared.store.Store.{Ghosts}
use Rattle.sqlite.proofs.Callers.{unchanged_then}
use Rattle.sqlite.proofs.StateLemmas.{survives_then}
use Rattle.sql_queries.specs.{HasGivenRow, is_before}
use Rattle.sql_queries.proofs.ReadingKeeps.{keeps_refused, commits_nothing, begun, shown_since}
use Rattle.sql_queries.proofs.RisingLists.{rises_more}
use Rattle.sql_queries.proofs.reading.read_rows.Goals as goal

at_the_end : {S : Type 0} (g : Ghosts S) (sql : List ℕ) (params : Row) (h end : Held S) → h ≡ end → HasGivenRow g sql params h → HasGivenRow g sql params end
at_the_end g sql params h end same given = subst (HasGivenRow g sql params) same given

longer : (xs : List Row) (x : Row) → 0 < length (xs ++ x ∷ [])
longer xs x = omega (arith, length-append xs (x ∷ []))

pub returns-in-Err-clause-kept : goal.returns-in-Err-clause-kept
returns-in-Err-clause-kept g c clean =
    let held = rw c.in-Err.is at c.query.follows.holds-at-none in
    keeps_refused c.args.sql.now _ _ _ c.in-Err.error c.requires.only_reads c.requires.rest (held.err clean)

pub returns-in-Err-clause-crash : goal.returns-in-Err-clause-crash
returns-in-Err-clause-crash g c =
    let held = rw c.in-Err.is at c.query.follows.holds-at-none in
    commits_nothing c.args.sql.now _ _ _ c.requires.only_reads held.survives

pub rows-init : goal.rows-init
rows-init g c =
    let made = c.in-Ok.ensures in
    (λ k d low. absurd (omega (arith, ap length c.new-list.ensures.items)), refl, made.mode c.requires.rest.mode, commits_nothing _ _ _ _ c.requires.only_reads made.survives, λ clean. rw c.new-list.ensures.items (begun g.S.Store _ _ c.args.conn.now _ c.requires.only_reads (made.begun clean)))

pub rows-preserved : goal.rows-preserved
rows-preserved g c =
    let old = state g.S.Store c.args.conn.now in
    let mid = state g.S.Store c.rows.rows.conn.now in
    let new = state g.S.Store c.next_row.new.rows.conn.now in
    let was = c.rows.invariant in
    let moved = c.next_row.ensures in
    let pushed : c.keep.new.list.items ≡ c.rows.list.items ++ c.in-Some.row ∷ [] = c.in_ok-keep.ensures.kept in
    let passed : IsTrue c.may_follow.result = search rules in
    let same : c.as_slice.result.now ≡ c.rows.list.items = search rules in
    let next = rw same at (c.may_follow.ensures.follows passed) in (
      rw pushed (rises_more (is_before c.args.by.now) c.rows.list.items c.in-Some.row was.0 next),
      moved.same_reference ∙ was.1,
      moved.mode was.2,
      survives_then old mid new _ _ _ (λ _ db none. none) (λ _ db none. none) was.3 moved.survives,
      λ clean.
          let early : HasCleanDisk mid = omega (arith, moved.survives.clean) in
          let before = was.4 early in
          let given = (rw c.in-Some.is at (c.in_ok-row.ensures.ok clean)) c.args.sql.now (bound c.args.params.now) _ before.0 in
          (rw pushed given, unchanged_then old mid new before.1 (c.in_ok-row.ensures.same clean)),
    )

pub returns-in_default-clause-rows : goal.returns-in_default-clause-rows
returns-in_default-clause-rows g c clean =
    let late : HasCleanDisk (state g.S.Store c.next_row.new.rows.conn.now) = search rules in
    let before = c.rows.invariant.4 (omega (arith, c.next_row.ensures.survives.clean)) in
    let shown = (rw c.in_default.is at (c.in_ok-row.ensures.ok late)) c.args.sql.now (bound c.args.params.now) _ before.0 in
    let whole = shown_since c.args.sql.now (bound c.args.params.now) (state g.S.Store c.args.conn.now) _ _ _ c.requires.only_reads before.1 shown in
    search rules

-- a row was given before memory was wanted for its value
pub returns-in_err-row-clause-memory : goal.returns-in_err-row-clause-memory
returns-in_err-row-clause-memory g c clean =
    let late : HasCleanDisk (state g.S.Store c.next_row.new.rows.conn.now) = search rules in
    let before = c.rows.invariant.4 (omega (arith, c.next_row.ensures.survives.clean)) in
    let is : c.from_residual.result ≡ Err c.in_err-row.field-0.0 = search rules in
    let given : c.in_err-row.field-0.0 ≡ Memory → HasGivenRow g.S.Store c.args.sql.now (bound c.args.params.now) c.next_row.new.rows.conn.now =
    λ memory.
    let reported = IfErr-at_err _ c.in_err-row.was (c.next_row.ensures.memory late) memory in
    (_, reported.1 c.args.sql.now (bound c.args.params.now) _ before.0, longer _ _) in
    rw is (λ memory. at_the_end g.S.Store c.args.sql.now (bound c.args.params.now) c.next_row.new.rows.conn.now _ (search rules) (given memory))

-- and before it was wanted for the list
pub returns-in_err-keep-clause-memory : goal.returns-in_err-keep-clause-memory
returns-in_err-keep-clause-memory g c clean =
    let late : HasCleanDisk (state g.S.Store c.next_row.new.rows.conn.now) = search rules in
    let before = c.rows.invariant.4 (omega (arith, c.next_row.ensures.survives.clean)) in
    let is : c.from_residual-in_err-keep.result ≡ Err c.in_err-keep.field-0.0 = search rules in
    let given : HasGivenRow g.S.Store c.args.sql.now (bound c.args.params.now) c.next_row.new.rows.conn.now =
    (_, (rw c.in-Some.is at (c.in_ok-row.ensures.ok late)) c.args.sql.now (bound c.args.params.now) _ before.0, longer _ _) in
    rw is (λ memory. at_the_end g.S.Store c.args.sql.now (bound c.args.params.now) c.next_row.new.rows.conn.now _ (search rules) given)
