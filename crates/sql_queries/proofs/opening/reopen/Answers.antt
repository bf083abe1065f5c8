use Rattle.std.proofs.Common.{rules, ◌≡◌, false, arith, ◌∙◌, sym, IsTrue}
use Rattle.sqlite_trees.specs.View.{IsClean}
use Rattle.sql_queries.proofs.StoreLaws.{open_if, ok_two}
use Rattle.sql_queries.proofs.opening.reopen.Goals as goal

pub returns-clause-trees : goal.returns-clause-trees
returns-clause-trees g c =
    ok_two c.open_over.result _ _ _
    (λ conn trees cleaner clean.
    let store = c.into_store-store.result in
    let early : IsClean (g.S.Store.view store) = omega (arith, cleaner, clean) in
    let unbroken : c.is_broken.result ≡ false = search rules in
    let sound : (g.S.Store.view store).is_broken ≡ false = sym (c.is_broken.ensures early) ∙ unbroken in
    let opened : IsTrue (g.S.Store.view store).is_open = open_if _ _ (g.met.S.Store.broken_if_shut store) sound in
    trees clean ∙ (c.into_store-store.ensures.undone.undone opened).0)
    c.open_over.ensures.trees c.open_over.ensures.clean
