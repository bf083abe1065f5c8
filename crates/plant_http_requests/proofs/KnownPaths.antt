-- Paths that are known.
use Rattle.std.proofs.Common.{◌≡◌, Some, None, codes, refl}
use Rattle.matchit.proofs.OnLiterals.{matchit_on_literals}
use Rattle.plant_base.specs.{two_of, is_due_day, due_day_of, digits_of}
use Rattle.plant_base.specs.declared.states.JobState.TheVariants.{Open}
use Rattle.plant_base.specs.declared.states.RecipeState.TheVariants.{Approved}
use Rattle.plant_questions.specs.declared.question.Question.TheVariants as Q
use Rattle.plant_trace.specs.declared.direction.Direction.TheVariants.{Back}
use Rattle.plant_trace.specs.declared.node.Node.TheVariants as node
use Rattle.plant_questions.specs.declared.list_question.ListQuestion.TheVariants as list
use Rattle.plant_http_requests.specs.{target_of, found_in}
use Rattle.plant_http_requests.specs.declared.routes.BodyFormat.TheVariants.{Json, Record}
use Rattle.plant_http_requests.specs.declared.routes.Post.TheVariants as post
use Rattle.plant_http_requests.specs.declared.routes.Target.TheVariants as target

pub back : target_of (codes "/v1/lots/L-1/back") ≡ Some (target.Question (Q.Trace Back (node.Lot (codes "L-1"))) Json)
unfolding matchit_on_literals found_in
back = refl

pub record_of_a_batch : target_of (codes "/v1/batches/B-1/record") ≡ Some (target.Question (Q.Batch (codes "B-1")) Record)
unfolding matchit_on_literals found_in
record_of_a_batch = refl

pub orders : target_of (codes "/v1/orders") ≡ Some (target.Post post.Orders)
unfolding matchit_on_literals found_in
orders = refl

pub check : target_of (codes "/v1/check") ≡ Some (target.Post post.Check)
unfolding matchit_on_literals found_in
check = refl

pub lower_case : target_of (codes "/v1/lots/l-1") ≡ None
unfolding matchit_on_literals found_in
lower_case = refl

pub slash : target_of (codes "/v1/desk/") ≡ None
unfolding matchit_on_literals found_in
slash = refl

pub open_orders : target_of (codes "/v1/lists/orders/open") ≡ Some (target.Question (Q.List (list.Orders Open None)) Json)
unfolding matchit_on_literals found_in
open_orders = refl

pub further_lots : target_of (codes "/v1/lists/lots/FLOUR/F-9") ≡ Some (target.Question (Q.List (list.Lots (codes "FLOUR") (Some (codes "F-9")))) Json)
unfolding matchit_on_literals found_in
further_lots = refl

pub no_such_state : target_of (codes "/v1/lists/orders/late") ≡ None
unfolding matchit_on_literals found_in
no_such_state = refl

pub further_recipes : target_of (codes "/v1/lists/recipes/approved/CAKE.2") ≡ Some (target.Question (Q.List (list.Recipes Approved (Some (record { first = codes "CAKE"; second = 2 })))) Json)
unfolding matchit_on_literals found_in digits_of
further_recipes = refl

pub further_movements : target_of (codes "/v1/lists/movements/F-1/12.1") ≡ Some (target.Question (Q.List (list.Movements (codes "F-1") (Some (record { first = 12; second = 1 })))) Json)
unfolding matchit_on_literals found_in digits_of
further_movements = refl

pub no_version : target_of (codes "/v1/lists/recipes/approved/CAKE") ≡ None
unfolding matchit_on_literals found_in digits_of
no_version = refl

pub recall : target_of (codes "/v1/recalls/R-1") ≡ Some (target.Question (Q.Recall (codes "R-1")) Json)
unfolding matchit_on_literals found_in
recall = refl

pub definition : target_of (codes "/v1/definitions/FLOUR") ≡ Some (target.Question (Q.Definition (codes "FLOUR")) Json)
unfolding matchit_on_literals found_in
definition = refl

pub recipe : target_of (codes "/v1/recipes/CAKE/12") ≡ Some (target.Question (Q.Recipe (codes "CAKE") 12) Json)
unfolding matchit_on_literals found_in digits_of
recipe = refl

pub recipe_without_version : target_of (codes "/v1/recipes/CAKE") ≡ None
unfolding matchit_on_literals found_in
recipe_without_version = refl

pub batch_lines : target_of (codes "/v1/batches/B-1/lines") ≡ Some (target.Question (Q.BatchLines (codes "B-1")) Json)
unfolding matchit_on_literals found_in
batch_lines = refl

pub find : target_of (codes "/v1/find/B-1") ≡ Some (target.Question (Q.Find (codes "B-1")) Json)
unfolding matchit_on_literals found_in
find = refl

pub further_holds : target_of (codes "/v1/lists/all_holds/F-1.H-2") ≡ Some (target.Question (Q.List (list.AllHolds (Some (record { first = codes "F-1"; second = codes "H-2" })))) Json)
unfolding matchit_on_literals found_in
further_holds = refl

pub closed_batches : target_of (codes "/v1/lists/closed_batches") ≡ Some (target.Question (Q.List (list.ClosedBatches None)) Json)
unfolding matchit_on_literals found_in
closed_batches = refl

pub further_by_due : target_of (codes "/v1/lists/orders_by_due/open/2027-03-01.O-1") ≡ Some (target.Question (Q.List (list.OrdersByDue Open (Some (record { first = codes "2027-03-01"; second = codes "O-1" })))) Json)
unfolding matchit_on_literals found_in two_of is_due_day due_day_of
further_by_due = refl

pub commands : target_of (codes "/v1/lists/commands") ≡ Some (target.Question (Q.List (list.Commands None)) Json)
unfolding matchit_on_literals found_in
commands = refl

pub further_commands : target_of (codes "/v1/lists/commands/12") ≡ Some (target.Question (Q.List (list.Commands (Some 12))) Json)
unfolding matchit_on_literals found_in digits_of
further_commands = refl

pub no_number : target_of (codes "/v1/lists/commands/0") ≡ None
unfolding matchit_on_literals found_in digits_of
no_number = refl

pub further_stock : target_of (codes "/v1/lists/stock/FLOUR/12.F-1") ≡ Some (target.Question (Q.List (list.Stock (codes "FLOUR") (Some (record { first = 12; second = codes "F-1" })))) Json)
unfolding matchit_on_literals found_in digits_of
further_stock = refl

pub stock_behind_an_id : target_of (codes "/v1/lists/stock/FLOUR/F-1") ≡ None
unfolding matchit_on_literals found_in digits_of
stock_behind_an_id = refl

pub stocks : target_of (codes "/v1/lists/stocks/RAW") ≡ Some (target.Question (Q.List (list.Stocks (codes "RAW") None)) Json)
unfolding matchit_on_literals found_in
stocks = refl

-- the web page has no route: which profile has it, and who may ask for it, is judged elsewhere
pub page : target_of (codes "/") ≡ None
unfolding matchit_on_literals found_in
page = refl
