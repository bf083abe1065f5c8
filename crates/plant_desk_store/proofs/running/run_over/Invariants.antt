use Rattle.std.proofs.Common.{◌≡◌, ◌+◌, ◌-◌, ◌≤◌, false, length, take, vec_len, vec_capacity}
use Rattle.plant_base.specs.{State}
use Rattle.plant_keeper.specs.{IsSameDesk, fold, replies}
use Rattle.plant_desk_store.proofs.running.run_over.Given as goal

abbrev pub invariant-loop-envelope : goal.invariant-loop-envelope
invariant-loop-envelope g l = record {
  count : length l.items.items ≡ l.envelope-index;
  room : vec_len l.items + (length l.list - l.envelope-index) ≤ vec_capacity l.items;
  is_open : g.K.Keeper.shut l.keeper ≡ false;
  same : IsSameDesk g.K.Keeper.honest g.K.Keeper.schema g.K.Keeper.foreign_tables l.fn.keeper l.keeper;
  reported : g.K.Keeper.honest l.keeper → (s : State) → g.K.Keeper.represents l.fn.keeper s → l.items.items ≡ replies s (take l.envelope-index l.list);
  represents : g.K.Keeper.honest l.keeper → (s : State) → g.K.Keeper.represents l.fn.keeper s → g.K.Keeper.represents l.keeper (fold s (take l.envelope-index l.list));
}
