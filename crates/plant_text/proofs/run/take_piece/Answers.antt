use Rattle.std.proofs.Common.{◌≡◌, ◌+◌, ◌<◌, [], ◌∷◌, ◌++◌, get_or, take, drop, length, sym, ap, add-one, drop-cons, take-append-drop, ◌∙◌, refl, arith}
use Rattle.std.proofs.lemmas.List.{take_more}
use Rattle.plant_text.specs.{entry_of}
use Rattle.plant_text.proofs.BufferSuffices.{held_more, held_after_none, each_none}
use Rattle.plant_keeper.proofs.SameDesk.{same_itself, same_after}
use Rattle.plant_text.proofs.RepliesConcatenate.{reported_same, piece_reported, piece_stops}
use Rattle.plant_text.proofs.run.take_piece.Goals as goal

pub loop-b-init : goal.loop-b-init
loop-b-init g c = record {
  not_shut = c.requires;
  same = same_itself _ _ _ _;
  held = sym (held_after_none c.args.held.now.items);
  reported = λ h s represented. reported_same _ _ _ _ _ _ c.args.refused (each_none entry_of c.args.held.now.items) refl represented;
}

pub returns-in-Err-clause-ends : goal.returns-in-Err-clause-ends
returns-in-Err-clause-ends g c = λ honest s represented e.
    let i = c.loop-b.b-index in
    let xs = c.args.piece.now in
    let within : i < length xs = omega arith in
    let cut : xs ≡ take i xs ++ (get_or xs i 0 ∷ drop (i + 1) xs) = sym (take-append-drop i xs) ∙ ap (λ ys. take i xs ++ ys) (rw (add-one, drop-cons xs i 0) refl) in
    let inv = c.loop-b.invariant in
    let before = c.take_byte.ensures.same.honest honest in
    piece_stops _ _ _ _ _ c.args.held.now.items c.loop-b.held.items (take i xs) (get_or xs i 0 ∷ []) (drop (i + 1) xs) xs _ _ _ _ _ _ _ c.in-Err.stop
    (inv.reported before s represented) (inv.same.schema before) inv.held (c.in-Err.ensures.ends honest) cut e

pub loop-b-preserved : goal.loop-b-preserved
loop-b-preserved g c =
    let i = c.loop-b.b-index in
    let xs = c.args.piece.now in
    let within : i < length xs = omega arith in
    let more : take (i + 1) xs ≡ take i xs ++ get_or xs i 0 ∷ [] = take_more xs i 0 within in
    let inv = c.loop-b.invariant in
    record {
      not_shut = c.in-Ok.ensures.open;
      same = same_after _ _ _ _ _ _ inv.same c.take_byte.ensures.same;
      held = held_more c.args.held.now.items c.loop-b.held.items _ (take i xs) (get_or xs i 0 ∷ []) (take (i + 1) xs) inv.held c.in-Ok.ensures.held more;
      reported = λ h s represented. let before = c.take_byte.ensures.same.honest h in
          piece_reported _ _ _ _ _ c.args.held.now.items c.loop-b.held.items (take i xs) (get_or xs i 0 ∷ []) (take (i + 1) xs) _ _ _ _ _ _
          (inv.reported before s represented) (inv.same.schema before) inv.held (c.in-Ok.ensures.ends h) more;
    }
