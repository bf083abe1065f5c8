use Rattle.std.proofs.Common.{sym, subst, Err}
use Rattle.sqlite.specs.Held.{state}
use Rattle.sql_tables.proofs.TransactionEnds.{IsStore}
use Rattle.plant_questions.specs.{DeskFault}
use Rattle.plant_desk_store.specs.{HasMended}
use Rattle.plant_desk_store.proofs.MissingIndexesAreCreated.{mended, unmended, unread}
use Rattle.plant_desk_store.proofs.indexing.index_on.Goals as goal

pub returns-in-Err : goal.returns-in-Err
returns-in-Err g c =
    let end = c.read_meta.new.conn in
    let new = state g.S.Store end in
    let laws : IsStore new = record { settled = g.met.S.Store.settled end.store; stays = g.met.S.Store.stays end.store; something = g.met.S.Store.survives end.store } in
    let old = state g.S.Store c.args.connection.now in
    subst (λ (f : DeskFault). HasMended old new (Err f)) (sym c.fault_of.ensures) (unread old new c.in-Err.fault laws (c.read_meta.ensures.mode c.requires) c.read_meta.ensures.kept c.read_meta.ensures.crash)

pub returns-in-Ok-commit_missing : goal.returns-in-Ok-commit_missing
returns-in-Ok-commit_missing g c =
    let held = c.read_meta.new.conn in
    let mid = state g.S.Store held in
    let end = c.commit_missing.new.conn in
    let new = state g.S.Store end in
    let early : IsStore mid = record { settled = g.met.S.Store.settled held.store; stays = g.met.S.Store.stays held.store; something = g.met.S.Store.survives held.store } in
    let late : IsStore new = record { settled = g.met.S.Store.settled end.store; stays = g.met.S.Store.stays end.store; something = g.met.S.Store.survives end.store } in
    mended (state g.S.Store c.args.connection.now) mid new early c.in-Ok.ensures.same c.commit_missing.ensures.mode c.read_meta.ensures.kept c.read_meta.ensures.crash late c.in-Ok-commit_missing.ensures.gained

pub returns-in-Err-commit_missing : goal.returns-in-Err-commit_missing
returns-in-Err-commit_missing g c =
    let held = c.read_meta.new.conn in
    let mid = state g.S.Store held in
    let new = state g.S.Store c.commit_missing.new.conn in
    let early : IsStore mid = record { settled = g.met.S.Store.settled held.store; stays = g.met.S.Store.stays held.store; something = g.met.S.Store.survives held.store } in
    let old = state g.S.Store c.args.connection.now in
    subst (λ (f : DeskFault). HasMended old new (Err f)) (sym c.fault_of-in-Err-commit_missing.ensures) (unmended old mid new early c.in-Ok.ensures.same c.commit_missing.ensures.mode c.read_meta.ensures.kept c.read_meta.ensures.crash c.in-Err-commit_missing.fault c.in-Err-commit_missing.ensures.gained)
