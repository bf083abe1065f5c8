-- Whether a command's moment is later than the machine's clock allows.
use Rattle.std.specs.Prelude.{ℕ, ◌+◌, nat_lt, Option, Some, None, if◌then◌else◌}
use Rattle.httpdate.specs.Date.{unix_secs}
use Rattle.httpdate.specs.declared.date.HttpDate.{HttpDate}
use Rattle.plant_json_in.specs.declared.checks.ToCheck.TheVariants as to_check
use Rattle.plant_http_requests.specs.declared.task.RequestTask.{RequestTask}
use Rattle.plant_http_requests.specs.declared.task.RequestTask.TheVariants.{Command, Check, Ahead}
use Rattle.plant_http_requests.specs.declared.profile.Terms.{Terms}

-- the moment of the command that is to be executed or checked
abbrev pub moment_of : RequestTask → Option ℕ
moment_of (Command e) = Some e.at
moment_of (Check (to_check.Command e)) = Some e.at
moment_of _ = None

-- by how many seconds a moment may be later than the machine's time, where it is later by more
abbrev pub overrun : Option ℕ → Option HttpDate → Option ℕ → Option ℕ
overrun None now most = None
overrun (Some at) None most = None
overrun (Some at) (Some now) None = None
overrun (Some at) (Some now) (Some most) = if nat_lt (unix_secs now + most) at then Some most else None

abbrev pub ahead_or : Option ℕ → RequestTask → RequestTask
ahead_or None task = task
ahead_or (Some most) task = Ahead most

-- the task, where its command isn't too far ahead of the machine's clock
abbrev pub in_time : Terms → RequestTask → RequestTask
in_time terms task = ahead_or (overrun (moment_of task) terms.now.time terms.most_ahead) task
