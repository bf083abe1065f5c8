use Rattle.std.proofs.Common.{◌≡◌, ◌<◌, [], ◌++◌, length, refl, sym, ◌∙◌, arith}
use Rattle.std.proofs.lemmas.Bool.Decides.{nat_tests}
use Rattle.plant_text.proofs.KnownBytes.{Consumes-nil, Consumes-append, Consumes-none}
use Rattle.plant_text.proofs.BufferSuffices.{held_more, held_after_none, each_none}
use Rattle.line_check.specs.{verdict_of}
use Rattle.line_check.proofs.ReportedLines.{reported_same, piece_reported, input_ends}
use Rattle.line_check.proofs.ReportEndsEarly.{early_at_end, early_at_read, early_in_piece}
use Rattle.line_check.proofs.lines.check_pieces.Goals as goal

pub reads-init : goal.reads-init
reads-init g c = ([], Consumes-nil _, c.new-held.ensures.items ∙ sym (held_after_none []), reported_same _ _ _ _ (each_none verdict_of []) refl)

pub returns-in-Ok-eq0-clause-reported : goal.returns-in-Ok-eq0-clause-reported
returns-in-Ok-eq0-clause-reported g c =
    let inv = c.reads.invariant in
    let some : 0 < length c.read.new.buf = omega arith in
    let read = c.in-Ok-eq0.ensures.bytes in
    let none : c.in-Ok-eq0.field-0 ≡ 0 = grind (arith, nat_tests) in
    input_ends c.end_input.result c.reads.tally inv.0 _ _ _ _ _ _ (Consumes-none _ _ _ inv.0 c.read.new.buf _ none inv.1 read.0) (read.1 none some)
    (c.deref.ensures.value ∙ inv.2) inv.3 c.end_input.ensures.reported

pub reads-preserved : goal.reads-preserved
reads-preserved g c =
    let inv = c.reads.invariant in
    let prefix = c.split_at.result.0.now in
    let read = rw (← c.split_at.ensures.front) at c.in-Ok.ensures.bytes.0 in (
      inv.0 ++ prefix,
      Consumes-append _ _ _ inv.0 prefix inv.1 read,
      held_more [] c.reads.held.items _ inv.0 prefix (inv.0 ++ prefix) inv.2 c.in-Ok-take_piece.ensures.held refl,
      piece_reported _ _ _ [] c.reads.held.items inv.0 prefix (inv.0 ++ prefix) _ _ _ inv.3 inv.2 c.in-Ok-take_piece.ensures.reported refl,
    )

pub returns-in-Ok-eq0-clause-early : goal.returns-in-Ok-eq0-clause-early
returns-in-Ok-eq0-clause-early g c =
    let inv = c.reads.invariant in
    let some : 0 < length c.read.new.buf = omega arith in
    let read = c.in-Ok-eq0.ensures.bytes in
    let none : c.in-Ok-eq0.field-0 ≡ 0 = grind (arith, nat_tests) in
    early_at_end c.end_input.result _ _ _ _ _ inv.0 _ c.reads.tally (Consumes-none _ _ _ inv.0 c.read.new.buf _ none inv.1 read.0) (read.1 none some)
    (c.deref.ensures.value ∙ inv.2) inv.3 c.end_input.ensures.early

pub returns-in-Err-take_piece-clause-early : goal.returns-in-Err-take_piece-clause-early
returns-in-Err-take_piece-clause-early g c =
    let inv = c.reads.invariant in
    let prefix = c.split_at.result.0.now in
    let read = rw (← c.split_at.ensures.front) at c.in-Ok.ensures.bytes.0 in
    early_in_piece c.in-Err-take_piece.fault _ _ _ _ _ inv.0 c.reads.held.items prefix c.reads.tally (Consumes-append _ _ _ inv.0 prefix inv.1 read) inv.2 inv.3
    c.in-Err-take_piece.ensures.early

pub returns-in-Err-clause-early : goal.returns-in-Err-clause-early
returns-in-Err-clause-early g c = let inv = c.reads.invariant in early_at_read _ _ _ _ inv.0 c.reads.tally inv.1 inv.3

pub returns-clause-early : goal.returns-clause-early
returns-clause-early g c = let inv = c.reads.invariant in early_at_read _ _ _ _ inv.0 c.reads.tally inv.1 inv.3
