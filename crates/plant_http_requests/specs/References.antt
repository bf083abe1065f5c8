-- The reference of a command: the one that the head gives it, and whether it has the one that it needs.
use Rattle.std.specs.Prelude.{ℕ, Bool, false, ◌&&◌, List, Option, Some, None, is_none, if◌then◌else◌}
use Rattle.plant_base.specs.{Envelope}
use Rattle.plant_json_in.specs.declared.checks.ToCheck.TheVariants as to_check
use Rattle.plant_http_requests.specs.declared.task.RequestTask.{RequestTask}
use Rattle.plant_http_requests.specs.declared.task.RequestTask.TheVariants.{Command, Check, NoReference}

-- its own, or else the given one
abbrev pub own_or : Option (List ℕ) → Option (List ℕ) → Option (List ℕ)
own_or (Some reference) given = Some reference
own_or None given = given

abbrev pub with_given : Option (List ℕ) → Envelope → Envelope
with_given given e = record e { reference = own_or e.reference given }

-- the task, whose command has the given reference where it says none itself
abbrev pub referred : Option (List ℕ) → RequestTask → RequestTask
referred given (Command e) = Command (with_given given e)
referred given (Check (to_check.Command e)) = Check (to_check.Command (with_given given e))
referred given task = task

-- a command is to be executed, and has no reference; one that is to be checked needs none, since it may get its reference after the check
abbrev pub lacks_reference : RequestTask → Bool
lacks_reference (Command e) = is_none e.reference
lacks_reference _ = false

-- it lacks a reference where one is needed
abbrev pub lacks_needed : Bool → RequestTask → Bool
lacks_needed needs_references task = needs_references && lacks_reference task

-- the task, where its command has a reference or needs none
abbrev pub with_reference : Bool → RequestTask → RequestTask
with_reference needs_references task = if lacks_needed needs_references task then NoReference else task
