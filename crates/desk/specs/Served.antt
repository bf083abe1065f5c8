-- How the outcome of serving requests is reported.
use Rattle.std.specs.Prelude.{Bool, false, Result, Ok, Err}
use Rattle.desk_program.specs.{ProgramFault}
use Rattle.desk_program.specs.declared.fault.ProgramFault.TheVariants as fault
use Rattle.desk_server.specs.{ServingFault}
use Rattle.desk_server.specs.declared.fault.ServingFault.TheVariants as serving

-- nothing counts as a refusal, or the fault
abbrev pub outcome_of : Result (Unit {0}) ServingFault → Result Bool ProgramFault
outcome_of (Ok served) = Ok false
outcome_of (Err serving.Store) = Err fault.Store
outcome_of (Err serving.Net) = Err fault.Net
outcome_of (Err serving.Memory) = Err fault.Memory
