use Rattle.std.proofs.Common.{◌≡◌, false, take}
use Rattle.plant_base.specs.{State}
use Rattle.plant_keeper.specs.{IsSameDesk}
use Rattle.plant_text.specs.{AreAnswered, held_after, entries_after}
use Rattle.plant_text.proofs.run.take_piece.Given as goal

abbrev pub invariant-loop-b : goal.invariant-loop-b
invariant-loop-b g l =
    let keeper = g.K.Keeper in
    record {
      not_shut : keeper.shut l.keeper ≡ false;
      same : IsSameDesk keeper.honest keeper.schema keeper.foreign_tables l.fn.keeper l.keeper;
      held : l.held.items ≡ held_after l.fn.held.items (take l.b-index l.piece);
      reported : keeper.honest l.keeper → (s : State) → keeper.represents l.fn.keeper s
          → AreAnswered (keeper.schema l.fn.keeper) s (entries_after l.fn.held.items (take l.b-index l.piece))
          (g.W.Write.contents l.fn.writer) (g.W.Write.contents l.writer) (keeper.represents l.keeper) l.fn.refused l.refused;
    }
