-- How much of a request is there.
use Rattle.std.proofs.Common.{◌≡◌, ◌<◌, ◌≤◌, ℕ, ◌==◌, nat_le, Bool, true, false, List, length, take, Some, None, refl, inl, inr, sym, ◌∙◌, arith, take_all, min}
use Rattle.std.proofs.lemmas.Bool.{cases_lt}
use Rattle.std.proofs.lemmas.Bool.Decides.{nat_tests}
use Rattle.plant_http_requests.specs.{end_of_head, head_length}
use Rattle.plant_http_requests.specs.{HasCome, HasComeOfHead}
use Rattle.plant_http_requests.specs.declared.profile.Terms.{Terms}
use Rattle.plant_http_requests.specs.declared.progress.RequestProgress.{RequestProgress}
use Rattle.plant_http_requests.specs.declared.progress.RequestProgress.TheVariants.{Whole, LacksHead}

-- no more than the longest head is looked at
pub front_of : (bytes : List ℕ) → take (min (length bytes) 8192) bytes ≡ take 8192 bytes
front_of bytes = elim (cases_lt (length bytes) 8192) [
  | inl short ↦ let least : min (length bytes) 8192 ≡ length bytes = omega arith in
      rw least (take_all (length bytes) bytes (omega arith) ∙ sym (take_all 8192 bytes (omega (arith, short))))
  | inr long ↦ let least : min (length bytes) 8192 ≡ 8192 = omega (arith, long) in rw least refl
]

pub come_found : (terms : Terms) (bytes : List ℕ) (n : ℕ) (p : RequestProgress) → head_length (take 8192 bytes) ≡ Some n → HasComeOfHead terms n bytes p → HasCome terms bytes p
unfolding end_of_head
come_found terms bytes n p is come = rw is come

pub come_too_long : (terms : Terms) (bytes : List ℕ) → head_length (take 8192 bytes) ≡ None → 8192 ≤ length bytes → HasCome terms bytes Whole
unfolding end_of_head
come_too_long terms bytes is long =
    let there : nat_le 8192 (length bytes) ≡ true = grind (arith, nat_tests) in rw (is, there) refl

come_early : (terms : Terms) (bytes : List ℕ) (none : Bool) → (length bytes == 0) ≡ none → head_length (take 8192 bytes) ≡ None → nat_le 8192 (length bytes) ≡ false → HasCome terms bytes LacksHead
unfolding end_of_head
come_early terms bytes true none is short = rw (is, short, none) refl
come_early terms bytes false none is short = rw (is, short, none) refl

pub come_lacks : (terms : Terms) (bytes : List ℕ) → head_length (take 8192 bytes) ≡ None → length bytes < 8192 → HasCome terms bytes LacksHead
come_lacks terms bytes is early =
    let short : nat_le 8192 (length bytes) ≡ false = grind (arith, nat_tests) in come_early terms bytes (length bytes == 0) refl is short
