-- Why a file can't be read as a desk's, in words.
use Rattle.std.specs.Prelude.{◌≡◌, ℕ, List, ◌++◌, codes, Option, Some, None, IsSome}
use Rattle.std.specs.declared.io.ErrorKind.{ErrorKind}
use Rattle.std.specs.declared.io.ErrorKind.TheVariants as kind
use Rattle.sqlite.specs.declared.error.Error.{Error}
use Rattle.sqlite.specs.declared.error.Error.TheVariants.{SqliteFailure}
use Rattle.sqlite.specs.declared.error.ErrorCode.TheVariants as code
use Rattle.sql_tables.specs.{StoreFault}
use Rattle.sql_tables.specs.declared.fault.StoreFault.TheVariants as fault
use Rattle.file_reports.specs.declared.open_error.OpenError.{OpenError}
use Rattle.file_reports.specs.declared.open_error.OpenError.TheVariants as open_error

-- ---- errors of the toolkit

abbrev pub closed_name : Error → List ℕ
closed_name (SqliteFailure code.NotADatabase) = codes "nodatabase"
closed_name (SqliteFailure code.DatabaseCorrupt) = codes "damaged"
closed_name (SqliteFailure code.DiskFull) = codes "full"
closed_name _ = codes "store"

abbrev pub closed_cause : Error → List ℕ
closed_cause (SqliteFailure code.NotADatabase) = codes "It is no database of SQLite, or one that the desk can't read, with a virtual table."
closed_cause (SqliteFailure code.DatabaseCorrupt) = codes "It is damaged below its tables (cut off, or a page was overwritten), or of a kind that the desk can't read: texts in UTF-16, auto_vacuum."
closed_cause (SqliteFailure code.DiskFull) = codes "The disk is full."
closed_cause _ = codes "The store failed."

abbrev pub closed_advice : Error → List ℕ
closed_advice (SqliteFailure code.NotADatabase) = codes "Name another file; file, or sqlite3 with .schema, tells what it is."
closed_advice (SqliteFailure code.DatabaseCorrupt) = codes "Take the last backup; of a copy sqlite3 with PRAGMA integrity_check tells whether it is damaged, with PRAGMA encoding and PRAGMA auto_vacuum its kind."
closed_advice (SqliteFailure code.DiskFull) = codes "Make room; df -h shows how much there is."
closed_advice _ = codes "Mend the disk, or start again with more memory."

-- ---- obstacles

abbrev pub open_error_name : OpenError → List ℕ
open_error_name open_error.Missing = codes "missing"
open_error_name open_error.NoFolder = codes "folder"
open_error_name open_error.NoFile = codes "nofile"
open_error_name open_error.Unreadable = codes "unreadable"
open_error_name open_error.Unwritable = codes "unwritable"
open_error_name open_error.NoLog = codes "nolog"
open_error_name open_error.Limited = codes "limit"
open_error_name open_error.Linked = codes "linked"
open_error_name open_error.Journal = codes "journal"
open_error_name open_error.Locked = codes "locked"
open_error_name open_error.Unread = codes "read"
open_error_name (open_error.Closed e) = closed_name e
open_error_name open_error.Failed = codes "store"
open_error_name open_error.Memory = codes "memory"

abbrev pub cause_text : OpenError → List ℕ
cause_text open_error.Missing = codes "It isn't there, and nothing was made."
cause_text open_error.NoFolder = codes "Its folder isn't there."
cause_text open_error.NoFile = codes "It is a folder, a device or a pipe, or a link that leads nowhere."
cause_text open_error.Unreadable = codes "This user may not read it, its log or its folder."
cause_text open_error.Unwritable = codes "This user may not write it or its log, or its file system may only be read."
cause_text open_error.NoLog = codes "This user may make no file in its folder, where the desk makes its log."
cause_text open_error.Limited = codes "It or its log may not grow by a page: how large a file may become is limited."
cause_text open_error.Linked = codes "It or its log has a second name."
cause_text open_error.Journal = codes "SQLite left a journal beside it."
cause_text open_error.Locked = codes "Another program has it open: another word of the desk, or sqlite3, also one that only reads."
cause_text open_error.Unread = codes "A read of it failed."
cause_text (open_error.Closed e) = closed_cause e
cause_text open_error.Failed = codes "The store failed as its tables were read."
cause_text open_error.Memory = codes "Memory was refused."

abbrev pub advice_text : OpenError → List ℕ
advice_text open_error.Missing = codes "Look for a slip in the name; desk init makes a desk in a new file."
advice_text open_error.NoFolder = codes "Make the folder, or mend the name."
advice_text open_error.NoFile = codes "Name another file; ls -ld shows what it is."
advice_text open_error.Unreadable = codes "Give the rights to the user that runs the desk; ls -ld of the file, its -wal and its folder, id and findmnt -T show them."
advice_text open_error.Unwritable = codes "Give the rights to the user that runs the desk; ls -ld of the file, its -wal and its folder, id and findmnt -T show them."
advice_text open_error.NoLog = codes "Give the rights to the user that runs the desk; ls -ld of the file, its -wal and its folder, id and findmnt -T show them."
advice_text open_error.Limited = codes "Raise the limit; ulimit -f shows it."
advice_text open_error.Linked = codes "Remove the second name, or copy the file; ls -l shows how many it has."
advice_text open_error.Journal = codes "Open it with sqlite3 once, which plays the journal back."
advice_text open_error.Locked = codes "Wait until that program has ended, or end it; fuser -v or lsof with the file names it."
advice_text open_error.Unread = codes "Mend the disk; dmesg tells what it had to say."
advice_text (open_error.Closed e) = closed_advice e
advice_text open_error.Failed = codes "Start again with more memory; free -h and ulimit -v show how much there is."
advice_text open_error.Memory = codes "Start again with more memory; free -h and ulimit -v show how much there is."

-- the toolkit's own error
abbrev pub error_of : OpenError → Option Error
error_of open_error.Missing = None
error_of open_error.NoFolder = Some (SqliteFailure code.CannotOpen)
error_of open_error.NoFile = Some (SqliteFailure code.CannotOpen)
error_of open_error.Unreadable = Some (SqliteFailure code.CannotOpen)
error_of open_error.Unwritable = Some (SqliteFailure code.CannotOpen)
error_of open_error.NoLog = Some (SqliteFailure code.CannotOpen)
error_of open_error.Limited = None
error_of open_error.Linked = Some (SqliteFailure code.CannotOpen)
error_of open_error.Journal = Some (SqliteFailure code.CannotOpen)
error_of open_error.Locked = Some (SqliteFailure code.DatabaseBusy)
error_of open_error.Unread = Some (SqliteFailure code.SystemIoFailure)
error_of (open_error.Closed e) = Some e
error_of open_error.Failed = None
error_of open_error.Memory = Some (SqliteFailure code.OutOfMemory)

-- ---- the toolkit's words, of which no contract speaks

-- the sentence that a file doesn't open, with the words of an error, where there is one
abbrev pub closed_text : List ℕ → List ℕ
closed_text words = (codes "The file doesn't open: " ++ words) ++ codes "."

abbrev pub IsErrorText : Option Error → List ℕ → Type 0
IsErrorText None text = text ≡ codes "The file doesn't open."
IsErrorText (Some e) text = (words : List ℕ) × (text ≡ closed_text words)

-- words are there exactly where there is an error
abbrev pub HasWords : Option Error → Option (List ℕ) → Type 0
HasWords None words = words ≡ None
HasWords (Some e) words = IsSome words

-- the same of what keeps a file closed, where something does
abbrev pub HasWordsOf : Option OpenError → Option (List ℕ) → Type 0
HasWordsOf None words = words ≡ None
HasWordsOf (Some o) words = HasWords (error_of o) words

-- ---- where they come from

abbrev pub open_error_of : Error → OpenError
open_error_of (SqliteFailure code.OutOfMemory) = open_error.Memory
open_error_of e = open_error.Closed e

abbrev pub open_error_in : StoreFault → OpenError
open_error_in fault.Store = open_error.Failed
open_error_in fault.Memory = open_error.Memory

abbrev pub open_error_at : ErrorKind → OpenError
open_error_at kind.PermissionDenied = open_error.Unreadable
open_error_at kind.NotADirectory = open_error.NoFolder
open_error_at kind.OutOfMemory = open_error.Memory
open_error_at _ = open_error.Unread

-- as a file is made next to it and a page written to that
abbrev pub open_error_of_sibling : ErrorKind → OpenError
open_error_of_sibling kind.StorageFull = open_error.Closed (SqliteFailure code.DiskFull)
open_error_of_sibling kind.QuotaExceeded = open_error.Closed (SqliteFailure code.DiskFull)
open_error_of_sibling kind.PermissionDenied = open_error.NoLog
open_error_of_sibling kind.ReadOnlyFilesystem = open_error.Unwritable
open_error_of_sibling kind.OutOfMemory = open_error.Memory
open_error_of_sibling _ = open_error.Closed (SqliteFailure code.SystemIoFailure)
