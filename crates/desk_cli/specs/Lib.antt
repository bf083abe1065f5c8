pub mod Arguments
pub mod CommandLine
pub mod Hosts
pub mod FieldNames
pub mod Meaning
pub mod PlainWords
pub mod Taken
pub mod CheckFaults
pub mod Checking
pub mod DeskChecking
pub use CommandLine.{the_program}
pub use Hosts.{hosts_of_names, is_host_name, names_of}
pub use Meaning.{IsFaultOf, IsRefusalOf, IsRefusedBy, Meant, NamesBroken, all_meant, asks_help, fault_as, is_mistake, is_numeral, is_set, meant_in, words_meant}
unfoldable pub use Meaning.{number_in, work_in}
pub use PlainWords.{AreWrong, Break, FileWords, ImportWords, Mean, ReportWords, ServeWords, begins_with_dash}
pub use CheckFaults.{fault_status}
pub use Checking.{line_check_app, order_check_app}
pub use DeskChecking.{IsUnchecked, desk_check_app, given}
pub use declared.check_fault.CheckFault.{CheckFault}
pub use declared.meaning.Serving.{Serving}
pub use declared.meaning.Task.{Task}
pub use declared.meaning.WordsFault.{WordsFault}
pub use declared.meaning.Work.{Work}
