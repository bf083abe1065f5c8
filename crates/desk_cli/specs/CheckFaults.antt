-- The message of a check that ends before it has reported all.
use Rattle.std.specs.Prelude.{ℕ, List, codes}
use Rattle.desk_cli.specs.declared.check_fault.CheckFault.{CheckFault}
use Rattle.desk_cli.specs.declared.check_fault.CheckFault.TheVariants as fault

-- what a fault says on standard error, without its LF
abbrev pub fault_text : CheckFault → List ℕ
fault_text fault.Open = codes "fault: open"
fault_text fault.Read = codes "fault: read"
fault_text fault.Write = codes "fault: write"
fault_text fault.Memory = codes "fault: memory"

-- the exit status
abbrev pub fault_status : CheckFault → ℕ
fault_status fault.Memory = 4
fault_status _ = 3
