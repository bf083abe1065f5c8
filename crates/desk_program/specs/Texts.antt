-- The lines that the program writes, each without its LF.
use Rattle.std.specs.Prelude.{ℕ, List, ◌++◌, codes, decimal}
use Rattle.plant_check_rules.specs.{rule_number}
use Rattle.desk_program.specs.declared.fault.ProgramFault.{ProgramFault}
use Rattle.desk_program.specs.declared.fault.ProgramFault.TheVariants as fault

abbrev pub ready_text : ℕ → List ℕ
ready_text schema = codes "ready schema " ++ decimal schema

abbrev pub good_text : ℕ → ℕ → List ℕ
good_text schema seq = codes "good schema " ++ decimal schema ++ codes " seq " ++ decimal seq

-- what comes after `fault: `
unfoldable pub fault_name : ProgramFault → List ℕ
fault_name fault.Store = codes "store"
fault_name (fault.Newer schema) = codes "newer " ++ decimal schema
fault_name (fault.Damaged rule) = codes "damaged G" ++ decimal (rule_number rule)
fault_name fault.Memory = codes "memory"
fault_name fault.Read = codes "read"
fault_name fault.Write = codes "write"
fault_name fault.Endless = codes "endless"
fault_name fault.Net = codes "net"

abbrev pub fault_text : ProgramFault → List ℕ
fault_text f = codes "fault: " ++ fault_name f
