-- Faults by where they come from.
use Rattle.std.proofs.Common.{◌≡◌, ◌≢◌}
use Rattle.plant_desk_store.specs.{AdoptFault}
use Rattle.plant_desk_store.specs.declared.adopting.AdoptFault.TheVariants as adopt
use Rattle.desk_program.specs.{adopt_fault}
use Rattle.desk_program.specs.declared.fault.ProgramFault.{ProgramFault}
use Rattle.desk_program.specs.declared.fault.ProgramFault.TheVariants as fault

-- no adoption fails at standard output
pub reported_write_error : (f : AdoptFault) (reported : ProgramFault) → reported ≡ adopt_fault f → reported ≢ fault.Write
reported_write_error adopt.Store reported e = λ w. absurd cc
reported_write_error _ reported e = λ w. absurd cc
