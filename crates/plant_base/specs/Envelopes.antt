-- What holds of the values of an envelope.
use Rattle.std.specs.Prelude.{IfSome, IsTrue}
use Rattle.plant_values.specs.{is_id, is_text, is_moment}
use Rattle.plant_base.specs.declared.commands.Command.TheVariants as body
use Rattle.plant_base.specs.declared.command.Envelope.{Envelope}
use Rattle.plant_base.specs.declared.command.Stamp.{Stamp}
use Rattle.plant_base.specs.EachCommand.{HasBodyValues}

abbrev pub stamp_of : Envelope → Stamp
stamp_of e = record { at = e.at; by = e.by; note = e.note }

pub record HasValues (e : Envelope) : Type 0 where
  pub at : IsTrue (is_moment e.at)
  pub by : IsTrue (is_text e.by)
  pub note : IsTrue (is_text e.note)
  pub reference : IfSome e.reference (λ id. IsTrue (is_id id))
  pub body : HasBodyValues e.body
