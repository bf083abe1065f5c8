use Rattle.std.proofs.Common.{◌≡◌, ◌<◌, [], ◌++◌, length, length-append, false, sym, ap, ◌∙◌, refl, arith, append-nil}
use Rattle.std.proofs.lemmas.Bool.Decides.{nat_tests}
use Rattle.plant_text.proofs.KnownBytes.{Consumes-nil, Consumes-append, Consumes-keeps, Consumes-none}
use Rattle.plant_text.specs.{entry_of}
use Rattle.plant_text.proofs.BufferSuffices.{held_more, held_after_none, each_none}
use Rattle.plant_keeper.proofs.SameDesk.{same_itself, same_after}
use Rattle.plant_text.proofs.RepliesConcatenate.{reported_same, piece_reported, piece_stops}
use Rattle.plant_text.proofs.RunEnds.{last_ends, read_ends, stopped_ends}
use Rattle.plant_text.proofs.run.run_pieces.Goals as goal

pub reads-init : goal.reads-init
reads-init g c = record {
  not_shut = c.requires.open;
  same = same_itself _ _ _ _;
  so_far = ([], Consumes-nil _, c.new-held.ensures.items ∙ sym (held_after_none []), omega arith, λ h s represented. reported_same _ _ _ _ _ _ false (each_none entry_of []) refl represented);
}

pub returns-in-Ok-eq0-clause-ends : goal.returns-in-Ok-eq0-clause-ends
returns-in-Ok-eq0-clause-ends g c =
    let inv = c.reads.invariant in
    let some : 0 < length c.read.new.buf = omega arith in
    let read = c.in-Ok-eq0.ensures.bytes in
    let none : c.in-Ok-eq0.field-0 ≡ 0 = grind (arith, nat_tests) in (
      inv.so_far.0,
      Consumes-none _ _ _ inv.so_far.0 c.read.new.buf _ none inv.so_far.1 read.0,
      λ h s represented. let before = c.end_input.ensures.same.honest h in
          let keeper = g.K.Keeper in
          let now = c.end_input.new.keeper in
          last_ends c.args.most (keeper.schema c.args.keeper.now) _ s _ (keeper.represents now) inv.so_far.0 c.reads.held.items _ _ _ _ _ (keeper.shut now) (keeper.crash_states now) c.end_input.result
          (inv.so_far.4 before s represented) (inv.same.schema before) inv.so_far.2 (read.1 none some) (rw (← c.deref.ensures.value) (c.end_input.ensures.ends h)),
    )

pub returns-in-Err-take_piece-clause-ends : goal.returns-in-Err-take_piece-clause-ends
returns-in-Err-take_piece-clause-ends g c =
    let inv = c.reads.invariant in
    let prefix = c.split_at.result.0.now in
    let read = rw (← c.split_at.ensures.front) at c.in-Ok.ensures.bytes.0 in (
      inv.so_far.0 ++ prefix,
      Consumes-append _ _ _ inv.so_far.0 prefix inv.so_far.1 read,
      λ h s represented. let before = c.take_piece.ensures.same.honest h in
          let keeper = g.K.Keeper in
          let now = c.take_piece.new.keeper in
          rw c.end_of.ensures
          (stopped_ends c.args.most (keeper.schema c.args.keeper.now) s (inv.so_far.0 ++ prefix) _ _ _ (keeper.represents now) (keeper.shut now) (keeper.crash_states now) c.in-Err-take_piece.stop
          (piece_stops _ _ _ _ _ [] c.reads.held.items inv.so_far.0 prefix [] (inv.so_far.0 ++ prefix) _ _ _ _ _ _ _ c.in-Err-take_piece.stop
          (inv.so_far.4 before s represented) (inv.same.schema before) inv.so_far.2 (c.in-Err-take_piece.ensures.ends h) (ap (λ ys. inv.so_far.0 ++ ys) (sym (append-nil prefix))))),
    )

pub returns-in-Err-clause-ends : goal.returns-in-Err-clause-ends
returns-in-Err-clause-ends g c =
    let inv = c.reads.invariant in (
      inv.so_far.0,
      Consumes-keeps _ _ _ inv.so_far.0 inv.so_far.1 c.in-Err.ensures.bytes,
      λ h s represented. (c.reads.refused, read_ends _ _ inv.so_far.0 _ _ _ _ _ (inv.so_far.4 h s represented), inv.not_shut),
    )

pub reads-preserved : goal.reads-preserved
reads-preserved g c =
    let inv = c.reads.invariant in
    let prefix = c.split_at.result.0.now in
    let some : 0 < c.in-Ok.n = grind (arith, nat_tests) in
    let read = rw (← c.split_at.ensures.front) at c.in-Ok.ensures.bytes.0 in
    record {
      not_shut = c.in-Ok-take_piece.ensures.open;
      same = same_after _ _ _ _ _ _ inv.same c.take_piece.ensures.same;
      so_far = (
        inv.so_far.0 ++ prefix,
        Consumes-append _ _ _ inv.so_far.0 prefix inv.so_far.1 read,
        held_more [] c.reads.held.items _ inv.so_far.0 prefix (inv.so_far.0 ++ prefix) inv.so_far.2 c.in-Ok-take_piece.ensures.held refl,
        omega (arith, some, inv.so_far.3, c.split_at.ensures.front_len, length-append inv.so_far.0 prefix),
        λ h s represented. let before = c.take_piece.ensures.same.honest h in
            piece_reported _ _ _ _ _ [] c.reads.held.items inv.so_far.0 prefix (inv.so_far.0 ++ prefix) _ _ _ _ _ _
            (inv.so_far.4 before s represented) (inv.same.schema before) inv.so_far.2 (c.in-Ok-take_piece.ensures.ends h) refl,
      );
    }

pub returns-clause-ends : goal.returns-clause-ends
returns-clause-ends g c =
    let inv = c.reads.invariant in
    (inv.so_far.0, inv.so_far.1, λ h s represented. (c.reads.refused, read_ends _ _ inv.so_far.0 _ _ _ _ _ (inv.so_far.4 h s represented), inv.not_shut, omega (arith, inv.so_far.3)))
