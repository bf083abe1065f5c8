use Rattle.std.proofs.Common.{subst, sym, arith}
use Rattle.std.proofs.lemmas.Result.{IfOk-weaker}
use Rattle.sqlite_trees.specs.View.{IsClean}
use Rattle.sqlite_trees.specs.Tree.{Trees}
use Rattle.sqlite_catalog.specs.Listing.{IsSound}
use Rattle.sqlite.specs.Held.{state}
use Rattle.sql_tables.proofs.TransactionEnds.{IsStore}
use Rattle.sql_queries.specs.{IsRising}
use Rattle.sql_queries.proofs.StoreLaws.{rising_of, newly_opened, ok_three}
use Rattle.sql_queries.proofs.opening.open_over.Goals as goal

pub returns-clause-newly : goal.returns-clause-newly
returns-clause-newly g c =
    ok_three c.over.result _ _ _ _
    (λ conn opens trees cleaner clean.
    let store = c.args.store in
    let early : IsClean (g.S.Store.view store) = omega (arith, cleaner, clean) in
    let fresh = c.requires early in
    let opened = opens clean in
    let same = trees clean in
    let sound = subst (λ (t : Trees). IsSound conn.schema t) same (opened.1 opened.0.is_open).0 in
    let rising = rising_of (g.S.Store.view store).shape (g.S.Store.view store).reals conn.schema (g.S.Store.view store).trees (g.met.S.Alter.listed store fresh.sound) (g.met.S.Store.ordered store fresh.sound) sound in
    let laws : IsStore (state g.S.Store conn) = record { settled = g.met.S.Store.settled conn.store; stays = g.met.S.Store.stays conn.store; something = g.met.S.Store.survives conn.store } in
    newly_opened (state g.S.Store conn) opened.0 laws (subst (λ (t : Trees). IsRising (record { schema = conn.schema; trees = t })) (sym same) rising))
    c.over.ensures.opens c.over.ensures.trees c.over.ensures.clean

-- which says that rowids rise
pub returns-clause-rising : goal.returns-clause-rising
returns-clause-rising g c = IfOk-weaker c.over.result _ _ (λ conn newly clean. (newly clean).rising) (returns-clause-newly g c)
