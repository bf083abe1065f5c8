use Rattle.std.proofs.Common.{ap, arith}
use Rattle.sqlite.specs.Held.{state}
use Rattle.sqlite.specs.State.{HasCleanDisk}
use Rattle.sqlite.proofs.StateLemmas.{survives_then}
use Rattle.file_reports.proofs.FileReportIsRight.{all_held, keeps_both}
use Rattle.file_reports.proofs.file_report.held_in.Goals as goal

pub returns-in-Ok-clause-held : goal.returns-in-Ok-clause-held
returns-in-Ok-clause-held g c clean =
    let old = state g.S.Store c.args.connection.now in
    let mid = state g.S.Store c.found.new.conn in
    let before : HasCleanDisk mid = omega (arith, c.held_by.ensures.crash.clean, clean) in
    all_held old mid c.in-Ok.tables c.held_by.result c.in-Ok.ensures.nothing c.in-Ok.ensures.taken (c.in-Ok.ensures.version before) (λ none. ap (λ conn. (state g.S.Store conn).now) (c.in-Ok.ensures.untouched none)) (c.in-Ok.ensures.same before) (c.held_by.ensures.held clean)

pub returns-in-Ok-clause-kept : goal.returns-in-Ok-clause-kept
returns-in-Ok-clause-kept g c clean =
    let old = state g.S.Store c.args.connection.now in
    let mid = state g.S.Store c.found.new.conn in
    let new = state g.S.Store c.held_by.new.connection in
    let before : HasCleanDisk mid = omega (arith, c.held_by.ensures.crash.clean, clean) in
    keeps_both old mid new (c.found.ensures.kept before) (c.held_by.ensures.kept clean)

pub returns-in-Ok-clause-crash : goal.returns-in-Ok-clause-crash
returns-in-Ok-clause-crash g c =
    let old = state g.S.Store c.args.connection.now in
    let mid = state g.S.Store c.found.new.conn in
    let new = state g.S.Store c.held_by.new.connection in
    survives_then old mid new _ _ _ (λ _ db none. none) (λ _ db none. none) c.found.ensures.crash c.held_by.ensures.crash
