-- The page of a new file.
use Rattle.std.proofs.Common.{◌≡◌, ◌∙◌, ℕ, ◌≤◌, List, ◌++◌, take, replicate, length, ap, arith, refl, length-take}
use Rattle.std.proofs.lemmas.List.FromFn.{length-map-range_with_len}
use Rattle.sqlite_pool.specs.Header.{first_page, first_page_byte}
use Rattle.desk_file.specs.declared.new_file.TheConstants.{FRONT}
use Rattle.desk_file.specs.{new_page}

-- its first bytes, and zeros
pub front_and_zeros : FRONT ++ replicate 916 0 ≡ new_page
unfolding first_page
front_and_zeros = refl

new_page_length : length new_page ≡ 1024
unfolding first_page
new_page_length = length-map-range_with_len (first_page_byte 1024) 0 1024

-- what is a prefix of it has no more bytes
pub front_is_short : (found : List ℕ) → found ≡ take (length found) new_page → length found ≤ 1024
front_is_short found same =
    let count = ap length same ∙ length-take (length found) new_page in
    let whole = new_page_length in
    omega (arith, count, whole)
