-- Pages of lists.
use Rattle.std.specs.Prelude.{ℕ, List, length, nat_lt, take}
use Rattle.plant_questions.specs.declared.page.Page.{Page}

-- no page has more rows
abbrev pub page_size : ℕ
page_size = 100

-- the first so many of all, and whether more come after them
abbrev pub page_of : {R : Type 0} → List R → Page R
page_of all = record { rows = take page_size all; has_more = nat_lt page_size (length all) }
