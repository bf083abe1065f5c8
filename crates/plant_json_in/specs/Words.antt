-- The words that choose the row of a list, those for a batch, and the states of orders and recipes.
use Rattle.std.specs.Prelude.{ℕ, List, if◌then◌else◌, codes, Option, Some, None, bytes_eq}
use Rattle.plant_base.specs.{JobState, RecipeState, Word}
use Rattle.plant_base.specs.declared.states.JobState.TheVariants as job_state
use Rattle.plant_base.specs.declared.states.RecipeState.TheVariants as recipe
use Rattle.plant_base.specs.declared.states.Word.TheVariants.{Start, Stop, Hold, Restart, Abort, Reset, Pause, Resume}
use Rattle.plant_json_in.specs.declared.words.RowKind.{RowKind}
use Rattle.plant_json_in.specs.declared.words.RowKind.TheVariants as row

-- the recipe's line of a kind
abbrev pub line_kind : List ℕ → Option RowKind
line_kind word =
    if bytes_eq word (codes "in") then Some row.In else (
    if bytes_eq word (codes "out") then Some row.Out else (
    if bytes_eq word (codes "par") then Some row.Parameter else (
    if bytes_eq word (codes "phase") then Some row.Phase else (
    None))))

-- the word for a batch that a text is; the ending of a state is none
abbrev pub batch_word : List ℕ → Option Word
batch_word text =
    if bytes_eq text (codes "start") then Some Start else (
    if bytes_eq text (codes "stop") then Some Stop else (
    if bytes_eq text (codes "hold") then Some Hold else (
    if bytes_eq text (codes "restart") then Some Restart else (
    if bytes_eq text (codes "abort") then Some Abort else (
    if bytes_eq text (codes "reset") then Some Reset else (
    if bytes_eq text (codes "pause") then Some Pause else (
    if bytes_eq text (codes "resume") then Some Resume else (
    None))))))))

-- the state of an order that a text names
abbrev pub order_state : List ℕ → Option JobState
order_state text =
    if bytes_eq text (codes "open") then Some job_state.Open else (
    if bytes_eq text (codes "cancelled") then Some job_state.Cancelled else (
    if bytes_eq text (codes "released") then Some job_state.Released else (
    if bytes_eq text (codes "finished") then Some job_state.Finished else (
    None))))

-- the state of a recipe that a text names
abbrev pub recipe_state : List ℕ → Option RecipeState
recipe_state text =
    if bytes_eq text (codes "draft") then Some recipe.Draft else (
    if bytes_eq text (codes "approved") then Some recipe.Approved else (
    if bytes_eq text (codes "withdrawn") then Some recipe.Withdrawn else (
    None)))
