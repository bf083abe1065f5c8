pub mod Prefetching
pub mod Pages
pub mod RisingIds
pub mod Cursors
pub mod FetchPolicy
pub mod Sorting
pub mod Worklists
pub mod Booked
pub mod Faults
pub mod Finding
pub mod Phases
pub use Prefetching.{AreRead, IsValidHoldPrefetch, IsValidLotPrefetch, IsValidSublotPrefetch, Rise, asked_for, counted, end_of, is_answered, is_before, is_between, is_page_due, prefetched, prefetched_holds, prefetched_lots, prefetched_sublots, rows_after, rows_of, unread, wants_page, with_page}
pub use Pages.{page_of, page_size}
pub use Cursors.{cursor_in, cursor_of, is_dot}
pub use Sorting.{in_order}
pub use Worklists.{agree, all_holds, batches_after, batches_in, classes_after, definitions_after, definitions_in, due_after, due_order, holds_after, holds_on, is_after, is_batch_in, is_definition_in, is_due_in, is_hold_after, is_hold_on, is_in_ledger, is_lot_of, is_movement_after, is_number_after, is_order_in, is_recall_in, ledger_of, lot_made, lots_after, lots_of, movement_after, movements_into, movements_of_lot, number_after, number_order, orders_after, orders_by_due, orders_in, other_lot, recalls_after, recalls_in, receipts_by_number, recipe_after, recipes_after, recipes_in, sublots_after, sublots_in_stock, text_after, versions_of}
pub use declared.cursors.Cursor.{Cursor}
pub use declared.list_question.ListQuestion.{ListQuestion}
pub use declared.page.Page.{Page}
unfoldable pub use Booked.{booked_of}
pub use Faults.{fault_number}
pub use Finding.{begins_with, first_begun, most_found}
pub use Phases.{phases_in}
pub use declared.finding.FoundIds.{FoundIds}
pub use declared.genealogy.BookedEdge.{BookedEdge}
pub use declared.genealogy.Genealogy.{Genealogy}
pub use declared.genealogy.LotNode.{LotNode}
pub use declared.genealogy.NodeAnswer.{NodeAnswer}
pub use declared.listed.BookedCommand.{BookedCommand}
pub use declared.listed.CommandHead.{CommandHead}
pub use declared.listed.DefinitionStock.{DefinitionStock}
pub use declared.listed.HistoryPage.{HistoryPage}
pub use declared.listed.Listed.{Listed}
pub use declared.listed.LotPage.{LotPage}
pub use declared.listed.NamedCommand.{NamedCommand}
pub use declared.listed.NextPhase.{NextPhase}
pub use declared.listed.OpenBatch.{OpenBatch}
pub use declared.listed.PlannedBatch.{PlannedBatch}
pub use declared.listed.StockedLot.{StockedLot}
pub use declared.question.Answer.{Answer}
pub use declared.question.BatchLines.{BatchLines}
pub use declared.question.BatchView.{BatchView}
pub use declared.question.BookedLine.{BookedLine}
pub use declared.question.Booking.{Booking}
pub use declared.question.LotAnswer.{LotAnswer}
pub use declared.question.LotBalance.{LotBalance}
pub use declared.question.LotFlows.{LotFlows}
pub use declared.question.MeasuredLine.{MeasuredLine}
pub use declared.question.Need.{Need}
pub use declared.question.OrderAnswer.{OrderAnswer}
pub use declared.question.Question.{Question}
pub use declared.question.RecallAnswer.{RecallAnswer}
pub use declared.question.RecipeAnswer.{RecipeAnswer}
pub use declared.question.RecipeLineAnswer.{RecipeLineAnswer}
pub use declared.question.StandingLot.{StandingLot}
pub use declared.reply.DeskFault.{DeskFault}
pub use declared.reply.Reply.{Reply}
