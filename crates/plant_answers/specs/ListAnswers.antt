-- What is answered of a list.
use Rattle.std.specs.Prelude.{true, false, Option, Some, None}
use Rattle.plant_base.specs.{State, class_at, definition_at, lot_at, Refusal}
use Rattle.plant_base.specs.declared.refusal.Refusal.TheVariants.{UnknownClass, UnknownDefinition, UnknownLot}
use Rattle.plant_questions.specs.{page_of, orders_in, orders_by_due, receipts_by_number, batches_in, lots_of, holds_on, recalls_in, classes_after, definitions_in, recipes_in, ledger_of, all_holds, ListQuestion}
use Rattle.plant_questions.specs.declared.list_question.ListQuestion.TheVariants as list
use Rattle.plant_answers_genealogy.specs.{lot_page}
use Rattle.plant_answers_pages.specs.{batch_page, command_page, history_page}
use Rattle.plant_answers.specs.Stock.{stock_page, stocks_page}
use Rattle.plant_questions.specs.{Answer, Listed}
use Rattle.plant_questions.specs.declared.listed.Listed.TheVariants as listed
use Rattle.plant_questions.specs.declared.question.Answer.TheVariants as A

-- the refusal where this isn't there
abbrev pub unless_there : {A : Type 0} → Option A → Refusal → Option Refusal
unless_there None refusal = Some refusal
unless_there (Some x) refusal = None

-- the refusal where what the list is of isn't there
abbrev pub unknown_of : State → ListQuestion → Option Refusal
unknown_of s (list.Lots def cursor) = unless_there (definition_at s def) UnknownDefinition
unknown_of s (list.Holds lot cursor) = unless_there (lot_at s lot) UnknownLot
unknown_of s (list.Definitions class cursor) = unless_there (class_at s class) UnknownClass
unknown_of s (list.Movements lot cursor) = unless_there (lot_at s lot) UnknownLot
unknown_of s (list.Stock def cursor) = unless_there (definition_at s def) UnknownDefinition
unknown_of s (list.Stocks class cursor) = unless_there (class_at s class) UnknownClass
unknown_of s _ = None

-- the page: what comes after the cursor, or the beginning where none is given
abbrev pub listed_of : State → ListQuestion → Listed
listed_of s (list.Orders state cursor) = listed.Orders (page_of (orders_in s state cursor))
listed_of s (list.OrdersByDue state cursor) = listed.Orders (page_of (orders_by_due s state cursor))
listed_of s (list.Batches cursor) = listed.Batches (batch_page s (page_of (batches_in s false cursor)))
listed_of s (list.ClosedBatches cursor) = listed.Batches (batch_page s (page_of (batches_in s true cursor)))
listed_of s (list.Lots def cursor) = listed.Lots (lot_page s (page_of (lots_of s def cursor)))
listed_of s (list.Holds lot cursor) = listed.Holds (page_of (holds_on s lot cursor))
listed_of s (list.AllHolds cursor) = listed.AllHolds (page_of (all_holds s cursor))
listed_of s (list.Recalls cursor) = listed.Recalls (page_of (recalls_in s true cursor))
listed_of s (list.LiftedRecalls cursor) = listed.LiftedRecalls (page_of (recalls_in s false cursor))
listed_of s (list.Classes cursor) = listed.Classes (page_of (classes_after s cursor))
listed_of s (list.Definitions class cursor) = listed.Definitions (page_of (definitions_in s class cursor))
listed_of s (list.Recipes state cursor) = listed.Recipes (page_of (recipes_in s state cursor))
listed_of s (list.Movements lot cursor) = listed.Ledger (page_of (ledger_of s lot cursor))
listed_of s (list.Commands cursor) = listed.Commands (command_page (page_of (receipts_by_number s cursor)))
listed_of s (list.History id cursor) = listed.History (history_page id (page_of (receipts_by_number s cursor)))
listed_of s (list.Stock def cursor) = listed.Stock (stock_page s def cursor)
listed_of s (list.Stocks class cursor) = listed.Stocks (stocks_page s class cursor)

abbrev pub unless_unknown : Option Refusal → Listed → Answer
unless_unknown (Some refusal) rows = A.Unknown refusal
unless_unknown None rows = A.List rows

-- the page that is asked for, or the refusal where what the list is of isn't there
abbrev pub answer_list : State → ListQuestion → Answer
answer_list s q = unless_unknown (unknown_of s q) (listed_of s q)
