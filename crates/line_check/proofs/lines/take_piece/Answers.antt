use Rattle.std.proofs.Common.{◌≡◌, ◌+◌, ◌<◌, [], ◌∷◌, ◌++◌, get_or, take, drop, length, refl, sym, ap, ◌∙◌, arith, take-append-drop}
use Rattle.std.proofs.lemmas.List.{take_more}
use Rattle.plant_text.proofs.BufferSuffices.{held_more, held_after_none, each_none}
use Rattle.line_check.specs.{verdict_of}
use Rattle.line_check.proofs.ReportedLines.{reported_same, piece_reported}
use Rattle.line_check.proofs.ReportEndsEarly.{early_at_byte}
use Rattle.line_check.proofs.lines.take_piece.Goals as goal

pub loop-b-init : goal.loop-b-init
loop-b-init g c = record {
  held = sym (held_after_none c.args.held.now.items);
  reported = reported_same _ _ _ _ (each_none verdict_of c.args.held.now.items) refl;
}

pub loop-b-preserved : goal.loop-b-preserved
loop-b-preserved g c =
    let i = c.loop-b.b-index in
    let xs = c.args.piece.now in
    let within : i < length xs = omega arith in
    let more : take (i + 1) xs ≡ take i xs ++ get_or xs i 0 ∷ [] = take_more xs i 0 within in
    let inv = c.loop-b.invariant in
    record {
      held = held_more c.args.held.now.items c.loop-b.held.items _ (take i xs) (get_or xs i 0 ∷ []) (take (i + 1) xs) inv.held c.in-Ok.ensures.held more;
      reported = piece_reported _ _ _ c.args.held.now.items c.loop-b.held.items (take i xs) (get_or xs i 0 ∷ []) (take (i + 1) xs) _ _ _ inv.reported inv.held c.in-Ok.ensures.reported more;
    }

pub returns-in-Err-clause-early : goal.returns-in-Err-clause-early
returns-in-Err-clause-early g c =
    let i = c.loop-b.b-index in
    let xs = c.args.piece.now in
    let within : i < length xs = omega arith in
    let more : take (i + 1) xs ≡ take i xs ++ get_or xs i 0 ∷ [] = take_more xs i 0 within in
    let inv = c.loop-b.invariant in
    early_at_byte c.in-Err.fault c.args.tally c.loop-b.tally c.args.held.now.items c.loop-b.held.items (take i xs) (get_or xs i 0 ∷ []) (drop (i + 1) xs) xs _ _ _
    inv.reported inv.held c.in-Err.ensures.early (sym (take-append-drop (i + 1) xs) ∙ ap (λ u. u ++ drop (i + 1) xs) more)
