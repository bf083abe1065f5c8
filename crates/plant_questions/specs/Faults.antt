-- The numbers of the faults.
use Rattle.std.specs.Prelude.{ℕ}
use Rattle.plant_questions.specs.declared.reply.DeskFault.{DeskFault}
use Rattle.plant_questions.specs.declared.reply.DeskFault.TheVariants.{Store, Memory, Shut}

abbrev pub fault_number : DeskFault → ℕ
fault_number Store = 1
fault_number Memory = 2
fault_number Shut = 3
