-- How much of a request is there.
use Rattle.std.specs.Prelude.{◌≡◌, ℕ, ◌+◌, nat_le, List, length, take, if◌then◌else◌}
use Rattle.plant_http_requests.specs.HeadEnd.{end_of_head}
use Rattle.plant_http_requests.specs.Tasks.{StepOf}
use Rattle.plant_http_requests.specs.declared.reading.HeadEnd.{HeadEnd}
use Rattle.plant_http_requests.specs.declared.reading.HeadEnd.TheVariants as end
use Rattle.plant_http_requests.specs.declared.task.HeadStep.{HeadStep}
use Rattle.plant_http_requests.specs.declared.task.HeadStep.TheVariants as S
use Rattle.plant_http_requests.specs.declared.profile.Terms.{Terms}
use Rattle.plant_http_requests.specs.declared.progress.RequestProgress.{RequestProgress}
use Rattle.plant_http_requests.specs.declared.progress.RequestProgress.TheVariants.{Whole, LacksHead, LacksBody}

-- a head of n bytes decides this, and so many bytes have come
abbrev pub progress_after : HeadStep → ℕ → ℕ → RequestProgress
progress_after (S.Decided decision) n came = Whole
progress_after (S.Body size fields sender) n came = if nat_le (n + size) came then Whole else LacksBody (n + size)

-- the head has n of these bytes
abbrev pub HasComeOfHead : Terms → ℕ → List ℕ → RequestProgress → Type 0
HasComeOfHead terms n bytes progress = (step : HeadStep) × StepOf terms (take n bytes) step × (progress ≡ progress_after step n (length bytes))

abbrev pub HasComeTo : Terms → HeadEnd → List ℕ → RequestProgress → Type 0
HasComeTo terms end.Nothing bytes progress = progress ≡ LacksHead
HasComeTo terms end.Early bytes progress = progress ≡ LacksHead
HasComeTo terms end.TooLong bytes progress = progress ≡ Whole
HasComeTo terms (end.Found n) bytes progress = HasComeOfHead terms n bytes progress

-- So much is there of a request that begins with these bytes: its head may go on, or has ended, or is too long; and where the
-- head asks for a body, so many bytes are lacking or none.
abbrev pub HasCome : Terms → List ℕ → RequestProgress → Type 0
HasCome terms bytes progress = HasComeTo terms (end_of_head bytes) bytes progress
