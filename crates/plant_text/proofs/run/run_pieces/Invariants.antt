use Rattle.std.proofs.Common.{◌≡◌, ℕ, ◌≤◌, List, [], length, false}
use Rattle.std.specs.Io.KnownBytes.{Consumes}
use Rattle.plant_base.specs.{State}
use Rattle.plant_keeper.specs.{IsSameDesk}
use Rattle.plant_text.specs.{AreAnswered, held_after, entries_after}
use Rattle.plant_text.proofs.run.run_pieces.Given as goal

abbrev pub invariant-reads : goal.invariant-reads
invariant-reads g l =
    let keeper = g.K.Keeper in
    record {
      not_shut : keeper.shut l.keeper ≡ false;
      same : IsSameDesk keeper.honest keeper.schema keeper.foreign_tables l.fn.keeper l.keeper;
      so_far : (bytes : List ℕ) × Consumes (g.R.Read.remaining l.fn.reader) (g.R.Read.remaining l.reader) bytes
          × (l.held.items ≡ held_after [] bytes)
          × (l._made ≤ length bytes)
          × (keeper.honest l.keeper → (s : State) → keeper.represents l.fn.keeper s → AreAnswered (keeper.schema l.fn.keeper) s (entries_after [] bytes)
          (g.W.Write.contents l.fn.writer) (g.W.Write.contents l.writer) (keeper.represents l.keeper) false l.refused);
    }
