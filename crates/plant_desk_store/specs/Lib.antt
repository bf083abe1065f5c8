pub mod Adopting
pub mod CallContracts
pub mod Faults
pub mod Headline
pub mod Machines
pub mod DeskLaws
pub mod KeptCrashStates
pub mod Executions
pub mod Lookups
pub mod PrivateContracts
pub mod Runs
pub mod Resent
pub mod Replicas
pub mod Digests
pub mod DeskStates
pub mod Checks
pub use Adopting.{AdoptedFrom, Adopts, AreMade, BrokenBy, HoldsValidState, IsAdopted, IsFirstBroken, IsNewlyOpened, IsMigrated, IsRefusedBy, IsRisingAt, IsUnmigrated, NamesFirst, ShowsUnchanged, ValidStateSurvives}
pub use CallContracts.{HasAdopted, HasIndexed, HasRefused, IsAccounted}
pub use Faults.{adopt_fault, desk_fault, rows_to_adopt, rows_to_test, schema_found}
pub use Headline.{AreStandingIn, HasOpenableCrashState, IsAnsweredIn, IsAtState, IsFoundAt, IsKeptAt, IsLotIn, IsSoAt, IsTraceIn, SaysOf}
pub use DeskLaws.{IsAdoptable, IsOpenedAfter, MarksAreReached, ValidIsAdoptedAgain}
pub use KeptCrashStates.{kept_crash_states}
pub use Machines.{Attempt, LeadsTo, acknowledged, in_flight}
pub use Executions.{Execution, PossibleOutcome, StorePhase, adopted, asked, attempt_as, begun, cut_off, desk, executed, command_checked, found, given_back, indexed, opened, ran, refused, stopped, unadopted, verified}
pub use Lookups.{IsDecidedAt, IsRepeat}
pub use PrivateContracts.{HasAnswered, HasChecked, HasDecided, HasLookedUpCheck, HasMade, HasMended, HasMigrated, HasStepped, HasTaken, IsCommitted, OnlyReads, PossibleOutcomes}
pub use Runs.{Ran, RunEnds}
pub use Resent.{AreNextAgain, AreResent, ExecutionsApplyInOrder, ExecutionsApplyOnce, ExecutionsAreSendings, IsAcknowledged, IsLedTo, IsNext, IsOrderOf, StoresApplyOnce, acknowledged_of, all_attempts}
pub use Replicas.{AreAnsweredInOrder, AreReferenced, AreSentInOrder, IsBeginningAt, IsReplica, ReplicasAgree, ReplicasAnswerAlike, ReplicasReplyAlike}
pub use DeskStates.{Executed, FindsState, FindsStateOf, HasCrashStates, HasForeignTables, IsDurablyAt, KeepsForeignTables, Represents, ShowsState}
pub use Checks.{FailsChecks, FailsChecksBy, FailsChecksOf, PassesChecks, PassesChecksOf}
pub use declared.adopting.AdoptFault.{AdoptFault}
pub use declared.digest.Digest.{Digest}
pub use declared.stored.Desk.{Desk}
