-- What keeps the desk from a file that opens.
use Rattle.std.specs.Prelude.{ℕ, ◌+◌, Bool, true, not, ◌||◌, ◌==◌, nat_le, bit_and, if◌then◌else◌, Option, Some, None}
use Rattle.file_reports.specs.{OpenError}
use Rattle.file_reports.specs.declared.open_error.OpenError.TheVariants as open_error
use Rattle.desk_check.specs.declared.room.Rights.{Rights}

-- a page of the log with its head
abbrev pub page_bytes : ℕ
page_bytes = 4120

-- a file of so many bytes may grow by a page, where so many a file may have
abbrev pub takes_page : ℕ → ℕ → Bool
takes_page limit bytes = nat_le (bytes + page_bytes) limit

-- a mode allows all of these rights
abbrev pub allows : ℕ → ℕ → Bool
allows mode rights = bit_and mode rights == rights

-- a folder lets this user make a file, by the rights to write and to search of its owner, of its group and of others
abbrev pub lets_make : Rights → ℕ → Bool
lets_make folder user = if user == 0 then true
    else (if folder.owner == user then allows folder.mode 0o300
    else (allows folder.mode 0o030 || allows folder.mode 0o003))

-- what keeps the desk from a file that may be written or not, may grow with its log or not, and whose log is there or may be made or not
abbrev pub hindrance : Bool → Bool → Bool → Option OpenError
hindrance writable grows logs = if not writable then Some open_error.Unwritable
    else (if not grows then Some open_error.Limited
    else (if not logs then Some open_error.NoLog else None))
