pub mod Control
pub mod WellFormed
pub mod Progress
pub mod Scaling
pub mod StateTable
pub use Control.{KeepsProcedure, control_of, is_size_of, line_scaled, scales_to_nothing}
pub use WellFormed.{HasPhasesIfWellFormed, OccursOnceIfWellFormed, WholeRecipe, all_fit, fits, greatest_lines, has_allowed_length, has_no_repeats, has_phase, has_product, has_size_range, is_in_of, is_out_of, is_parameter_of, is_phase, is_well_formed, phases_of, repeats}
pub use Progress.{ClosingIsFinal, GoesAlong, IsInRange, NeverFalls, StaysInRange, ends_with_phases_left, greatest_attempt, greatest_phases, has_no_attempt_left, is_done, is_ended, is_phase_left, is_reset, is_running, moved_to, opening_progress, progress_of, refuse_event, then_turn, turn, turn_or_stay, turn_to}
unfoldable pub use Progress.{progress_after, run_of, turn_closed, turn_moved, turn_phase_done}
pub use Scaling.{KeepsAtBase, RisesWithSize, scaled_of}
pub use StateTable.{IsWholeTable, Row, next_state_of, state_table}
