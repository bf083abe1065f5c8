pub mod Births
pub mod Bookings
pub mod Columns
pub mod StateInvariant
pub mod KeepToRecipes
pub mod Recalls
pub mod Receipts
pub mod Moments
pub mod RowValues
pub use Births.{AreBorn, AreFromZero, IsBirth, IsBorn, IsDivision, are_one_birth, numbers_among}
pub use Bookings.{AreCounted, AreDistinct, AreOfOneMerge, IsBooking, IsEnteredBefore, IsNumbered, booked}
pub use Columns.{BeginsAtZero, HasColumns, HasProgressValues}
pub use KeepToRecipes.{IsAsked}
pub use Recalls.{AreValidRecalls, IsLiftedBetween, IsValidRecall}
pub use Receipts.{AreApart, AreValidReceipts, AreValidWith, HasReceiptValues, OpeningHasNone, StayValid}
pub use Moments.{HasMoments, IsNoLater, mark_of_event, mark_of_movement, marks}
pub use RowValues.{HasControlValues, HasEventValues, HasKindValues, HasMasterValues, HasMovementValues, HasPlaceValues, HasRowValues}
