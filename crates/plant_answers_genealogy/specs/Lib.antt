pub mod Surroundings
pub mod Balances
pub mod Booked
pub mod Bookings
pub mod Genealogy
pub mod KnownLots
pub mod LotAnswers
pub mod StandingLots
pub mod RecallAnswers
pub mod Traces
pub use Surroundings.{IsAround, StandsFrom, answer_stands, lots_standing, nodes_around, standing_order, stocked_at, stocked_if}
pub use Balances.{answer_balance, balance_at, balance_if, balances_around, entered_in_all, in_64_bits, left_in_all, lot_balance}
pub use Booked.{Fits, IsSetOf, booked_at, booked_if, bookings_around, counted, is_booked, movements_at, reported_at, reported_by, sum_at, sum_with, summed, total_along}
pub use Bookings.{AreBookingsOf, booked_on, booking_in, consumption, is_consumed_by, is_produced_by, production}
unfoldable pub use Bookings.{scrapped_of}
pub use Genealogy.{amount_of, answer_edges, booked_along, booked_edge, edges_between, genealogy_around, is_among, is_between, is_made, lot_node, named, node_answer, node_if}
pub use KnownLots.{AreKnown, after_definition, after_lot, after_row, last_one}
pub use LotAnswers.{answer_lot, lot_answer}
pub use StandingLots.{if_stocked, lot_page, standing_lot}
pub use RecallAnswers.{answer_recall, recall_answer}
unfoldable pub use RecallAnswers.{reached_list}
pub use Traces.{answer_trace, ends, is_reached, missing, trace_along, trace_of}
pub use declared.bookings.BatchBookings.{BatchBookings}
