-- The rows of the state table and its moves by cases are one.
use Rattle.std.proofs.Common.{◌≡◌, ◌∙◌, ℕ, ◌<◌, Some, refl, ap, lit<, Contains, slice_index_or}
use Rattle.std.specs.List.{AllByRecursion}
use Rattle.std.proofs.lemmas.List.Elements.{All-contains, All-from_recursion}
use Rattle.plant_base.specs.{BatchState, Word}
use Rattle.plant_base.specs.declared.states.BatchState.TheVariants.{Idle, Running, Complete, Pausing, Paused, Holding, Held, Restarting, Stopping, Stopped, Aborting, Aborted}
use Rattle.plant_base.specs.declared.states.Word.TheVariants.{Start, Stop, Hold, Restart, Abort, Reset, Pause, Resume, Done}
use Rattle.plant_recipe.specs.{Row, state_table, next_state_of, IsWholeTable}

-- each row is a move
rows_move : AllByRecursion (λ (r : Row). next_state_of r.0 r.1 ≡ Some r.2) state_table
rows_move = (refl, (refl, (refl, (refl, (refl, (refl, (refl, (refl, (refl, (refl, (refl, (refl, (refl, (refl, (refl, (refl, (refl, (refl, (refl, (refl, (refl, (refl, (refl, (refl, (refl, (refl, (refl, (refl, (refl, (refl, (refl, tt)))))))))))))))))))))))))))))))

-- the table has the row at this position
row_at : (k : ℕ) (from : BatchState) (word : Word) (to there : BatchState) → Some there ≡ Some to → k < 31 → ((d : Row) → slice_index_or state_table k d ≡ (from, word, there)) → Contains state_table (from, word, to)
row_at k from word to there e h at = let same : there ≡ to = cc in (k, h, at _ ∙ ap (λ s. (from, word, s)) same)

moves_stand : (from : BatchState) (word : Word) (to : BatchState) → next_state_of from word ≡ Some to → Contains state_table (from, word, to)
moves_stand Idle Start to e = row_at 0 _ _ to _ e (lit< tt) (λ d. refl)
moves_stand Idle _ to e = cc
moves_stand Running Done to e = row_at 1 _ _ to _ e (lit< tt) (λ d. refl)
moves_stand Running Pause to e = row_at 2 _ _ to _ e (lit< tt) (λ d. refl)
moves_stand Running Hold to e = row_at 3 _ _ to _ e (lit< tt) (λ d. refl)
moves_stand Running Stop to e = row_at 4 _ _ to _ e (lit< tt) (λ d. refl)
moves_stand Running Abort to e = row_at 5 _ _ to _ e (lit< tt) (λ d. refl)
moves_stand Running _ to e = cc
moves_stand Pausing Done to e = row_at 6 _ _ to _ e (lit< tt) (λ d. refl)
moves_stand Pausing Hold to e = row_at 7 _ _ to _ e (lit< tt) (λ d. refl)
moves_stand Pausing Stop to e = row_at 8 _ _ to _ e (lit< tt) (λ d. refl)
moves_stand Pausing Abort to e = row_at 9 _ _ to _ e (lit< tt) (λ d. refl)
moves_stand Pausing _ to e = cc
moves_stand Paused Resume to e = row_at 10 _ _ to _ e (lit< tt) (λ d. refl)
moves_stand Paused Hold to e = row_at 11 _ _ to _ e (lit< tt) (λ d. refl)
moves_stand Paused Stop to e = row_at 12 _ _ to _ e (lit< tt) (λ d. refl)
moves_stand Paused Abort to e = row_at 13 _ _ to _ e (lit< tt) (λ d. refl)
moves_stand Paused _ to e = cc
moves_stand Holding Done to e = row_at 14 _ _ to _ e (lit< tt) (λ d. refl)
moves_stand Holding Stop to e = row_at 15 _ _ to _ e (lit< tt) (λ d. refl)
moves_stand Holding Abort to e = row_at 16 _ _ to _ e (lit< tt) (λ d. refl)
moves_stand Holding _ to e = cc
moves_stand Held Restart to e = row_at 17 _ _ to _ e (lit< tt) (λ d. refl)
moves_stand Held Stop to e = row_at 18 _ _ to _ e (lit< tt) (λ d. refl)
moves_stand Held Abort to e = row_at 19 _ _ to _ e (lit< tt) (λ d. refl)
moves_stand Held _ to e = cc
moves_stand Restarting Done to e = row_at 20 _ _ to _ e (lit< tt) (λ d. refl)
moves_stand Restarting Hold to e = row_at 21 _ _ to _ e (lit< tt) (λ d. refl)
moves_stand Restarting Stop to e = row_at 22 _ _ to _ e (lit< tt) (λ d. refl)
moves_stand Restarting Abort to e = row_at 23 _ _ to _ e (lit< tt) (λ d. refl)
moves_stand Restarting _ to e = cc
moves_stand Stopping Done to e = row_at 24 _ _ to _ e (lit< tt) (λ d. refl)
moves_stand Stopping Abort to e = row_at 25 _ _ to _ e (lit< tt) (λ d. refl)
moves_stand Stopping _ to e = cc
moves_stand Stopped Reset to e = row_at 26 _ _ to _ e (lit< tt) (λ d. refl)
moves_stand Stopped Abort to e = row_at 27 _ _ to _ e (lit< tt) (λ d. refl)
moves_stand Stopped _ to e = cc
moves_stand Aborting Done to e = row_at 28 _ _ to _ e (lit< tt) (λ d. refl)
moves_stand Aborting _ to e = cc
moves_stand Aborted Reset to e = row_at 29 _ _ to _ e (lit< tt) (λ d. refl)
moves_stand Aborted _ to e = cc
moves_stand Complete Reset to e = row_at 30 _ _ to _ e (lit< tt) (λ d. refl)
moves_stand Complete _ to e = cc

pub whole_table : IsWholeTable
whole_table from word to = (λ represents. All-contains (λ (r : Row). next_state_of r.0 r.1 ≡ Some r.2) state_table (from, word, to) (All-from_recursion (λ (r : Row). next_state_of r.0 r.1 ≡ Some r.2) state_table rows_move) represents, moves_stand from word to)
