-- The content of a file that is made new.
use Rattle.std.specs.Prelude.{ℕ, List}
use Rattle.sqlite_pool.specs.Header.{first_page}

-- The one page of an empty database, of 1,024 bytes, as the store itself makes that of a new file.
abbrev pub new_page : List ℕ
new_page = first_page 1024
