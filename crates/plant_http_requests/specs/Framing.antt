-- What the fields of a request say of its body, and whether it may be answered.
use Rattle.std.specs.Prelude.{ℕ, Bool, ◌==◌, nat_lt, nat_le, codes, Option, Some, None, option_and_then, Result, Ok, Err, if◌then◌else◌}
use Rattle.plant_base.specs.{digits_of}
use Rattle.plant_http_requests.specs.Fields.{Fields, count_named, value_named}
use Rattle.plant_http_requests.specs.Origins.{is_permitted}
use Rattle.plant_http_requests.specs.declared.profile.Profile.{Profile}
use Rattle.plant_http_requests.specs.declared.status.Status.{Status}
use Rattle.plant_http_requests.specs.declared.status.Status.TheVariants.{BadRequest, Forbidden, PayloadTooLarge, NotImplemented}

-- the most bytes of a body
abbrev pub longest_body : ℕ
longest_body = 262144

abbrev pub length_from : Option ℕ → Result (Option ℕ) Status
length_from None = Err BadRequest
length_from (Some n) = if nat_lt longest_body n then Err PayloadTooLarge else Ok (Some n)

-- the body's length, where one is named: in 1 to 18 digits
unfoldable pub body_length : Fields → Result (Option ℕ) Status
body_length fs =
    if count_named (codes "content-length") fs == 0 then Ok None
    else if count_named (codes "content-length") fs == 1 then length_from (option_and_then (digits_of 18) (value_named (codes "content-length") fs))
    else Err BadRequest

-- one Host field in version 1.1, and at most one in version 1.0
abbrev pub has_host : ℕ → ℕ → Bool
has_host minor hosts = if minor == 1 then hosts == 1 else nat_le hosts 1

-- the body's length, or the status of the first rule that is broken
unfoldable pub framing : Profile → ℕ → Fields → Result (Option ℕ) Status
framing profile minor fs =
    if has_host minor (count_named (codes "host") fs)
    then (if is_permitted profile fs then (if count_named (codes "transfer-encoding") fs == 0 then body_length fs else Err NotImplemented) else Err Forbidden)
    else Err BadRequest
