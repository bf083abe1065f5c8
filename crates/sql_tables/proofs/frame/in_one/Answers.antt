use Rattle.std.proofs.Common.{◌≡◌, refl, subst, arith, rules, IsTrue, OnErr}
use Rattle.sqlite.specs.Held.{state}
use Rattle.sqlite.specs.State.{HasCleanDisk, Survives, KeepsCommit}
use Rattle.sql_tables.specs.{IsSettled, IsUndone}
use Rattle.sql_tables.proofs.TransactionEnds.{IsStore, begun, committed, ended_early, ended_late, err_always}
use Rattle.sql_tables.proofs.frame.in_one.Goals as goal

pub returns-in_err-run-clause-undone : goal.returns-in_err-run-clause-undone
returns-in_err-run-clause-undone g c clean at =
    let makes = g.W.TransactionWork.makes c.args.work.now in
    let old = state g.S.Store c.args.conn.now in
    let mid = state g.S.Store c.run.new.tx.conn.now in
    let end = c.drop-tx.new.self.0 in
    let same : end ≡ c.conn-1.given.0 = search rules in
    let late : HasCleanDisk (state g.S.Store end) = search rules in
    let was : HasCleanDisk mid = omega (arith, c.drop-tx.ensures.survives.clean) in
    let wrote : Survives (begun old) mid (λ _. ⊥) = rw c.transaction-tx.ensures.begun at c.run.ensures.survives in
    let kept : KeepsCommit (begun old) mid = rw c.transaction-tx.ensures.begun at (c.run.ensures.kept was) in
    let store : IsStore (state g.S.Store end) = record { settled = g.met.S.Store.settled end.store; stays = g.met.S.Store.stays end.store; something = g.met.S.Store.survives end.store } in
    subst (λ h. OnErr c.from_residual.result (IsUndone makes old (state g.S.Store h))) same
    (err_always c.from_residual.result _ (ended_early makes old mid (state g.S.Store end) at wrote kept (c.drop-tx.ensures.undone late) c.drop-tx.ensures.survives late store))

pub returns-in-Ok-clause-done : goal.returns-in-Ok-clause-done
returns-in-Ok-clause-done g c clean at =
    let makes = g.W.TransactionWork.makes c.args.work.now in
    let old = state g.S.Store c.args.conn.now in
    let mid = state g.S.Store c.run.new.tx.conn.now in
    let end = c.commit.new.self.0 in
    let same : end ≡ c.conn-2-1.given.0 = search rules in
    let late : HasCleanDisk (state g.S.Store end) = search rules in
    let was : HasCleanDisk mid = omega (arith, c.commit.ensures.survives.clean) in
    let made : makes old.now mid.now = rw c.transaction-tx.ensures.begun at (c.in_ok-run.ensures.made was) in
    let store : IsStore (state g.S.Store end) = record { settled = g.met.S.Store.settled end.store; stays = g.met.S.Store.stays end.store; something = g.met.S.Store.survives end.store } in
    let shown = c.in-Ok.ensures.ok late in
    subst (λ h. IsSettled (state g.S.Store h) × makes old.now (state g.S.Store h).now) same (committed makes old mid (state g.S.Store end) made shown.1 store)

pub returns-in-Err-clause-undone : goal.returns-in-Err-clause-undone
returns-in-Err-clause-undone g c clean at =
    let makes = g.W.TransactionWork.makes c.args.work.now in
    let old = state g.S.Store c.args.conn.now in
    let mid = state g.S.Store c.run.new.tx.conn.now in
    let end = c.commit.new.self.0 in
    let same : end ≡ c.conn-2-1.given.0 = search rules in
    let late : HasCleanDisk (state g.S.Store end) = search rules in
    let was : HasCleanDisk mid = omega (arith, c.commit.ensures.survives.clean) in
    let made : makes old.now mid.now = rw c.transaction-tx.ensures.begun at (c.in_ok-run.ensures.made was) in
    let wrote : Survives (begun old) mid (λ _. ⊥) = rw c.transaction-tx.ensures.begun at c.run.ensures.survives in
    let kept : KeepsCommit (begun old) mid = rw c.transaction-tx.ensures.begun at (c.run.ensures.kept was) in
    let inside : IsTrue mid.in_transaction = rw c.transaction-tx.ensures.begun at c.in_ok-run.ensures.inside was at.is_open refl in
    let store : IsStore (state g.S.Store end) = record { settled = g.met.S.Store.settled end.store; stays = g.met.S.Store.stays end.store; something = g.met.S.Store.survives end.store } in
    subst (λ h. IsUndone makes old (state g.S.Store h)) same (ended_late makes old mid (state g.S.Store end) c.in-Err.error at wrote kept made inside (c.in-Err.ensures.err late) c.commit.ensures.survives late store)
