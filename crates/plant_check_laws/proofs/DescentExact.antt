-- The rule on descent: nothing came of itself, and the edges are those of the movements.
use Rattle.std.proofs.Common.{◌≡◌, ◌∙◌, ℕ, true, List, map, refl, sym, ap, Decides}
use Rattle.plant_base.specs.{State, newest_schema, EdgeRow, Movement}
use Rattle.plant_trace.specs.{IsAcyclic, Node}
use Rattle.plant_view.specs.{tables_of, edges_in}
use Rattle.plant_view.specs.TableRows.{Tables}
use Rattle.plant_tables_columns.specs.{booked_of}
use Rattle.plant_tables.proofs.TablesOfRows.{same_tables}
use Rattle.plant_check_rules.specs.{movements_in, are_acyclic, are_same_edges, are_kept_edges}
use Rattle.plant_check_rules.proofs.CycleTestIsExact.{to_acyclic, acyclic_tested}
use Rattle.plant_check_rules.proofs.EdgeListsCompared.{same_list, same_itself}

-- the movements that the rows of a state's table book are the state's
pub movements_again : (s : State) → movements_in (map booked_of s.movements) ≡ s.movements
movements_again s = ap (λ (t : Tables). t.movements) (same_tables (tables_of newest_schema s))

pub acyclic_exact : (pairs : List (Node × Node)) → Decides (are_acyclic pairs) (IsAcyclic pairs)
acyclic_exact pairs = (to_acyclic pairs, (λ acyclic. sym (acyclic_tested pairs true ((λ reported. acyclic), (λ a. refl)))))

pub edges_exact : (schema : ℕ) (rows : List EdgeRow) (ms : List Movement) → Decides (are_kept_edges schema rows ms) (rows ≡ edges_in schema ms)
edges_exact schema rows ms = let all = edges_in schema ms in (same_list rows all, (λ e. ap (λ es. are_same_edges es all) e ∙ same_itself all))
