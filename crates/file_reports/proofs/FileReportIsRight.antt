-- The report on an opened store is right.
use Rattle.std.proofs.Common.{◌≡◌, ◌∙◌, ◌<◌, ◌≤◌, ℕ, ℤ, pos, Option, Some, None, Result, Ok, Err, IfOk, IfSome, refl, sym, subst, inl, inr, arith, ◌↔◌, ◌≢◌, All}
use Rattle.sqlite.specs.Effect.{Database}
use Rattle.sqlite.specs.State as store
use Rattle.sqlite.specs.State.{IsUnchanged}
use Rattle.sql_tables.specs.{Keeps, StoreFault, AreFree, IsFree}
use Rattle.plant_base.specs.{newest_schema}
use Rattle.plant_tables.specs.{IsVersion, FoundTables, Loaded}
use Rattle.plant_tables.proofs.OneVersion.{one_version}
use Rattle.plant_check_rules.specs.{first_broken, IsDamaged, Rule}
use Rattle.plant_check.specs.{first_rule}
use Rattle.plant_check.proofs.FirstFoundIsFirstBroken.{first_found}
use Rattle.plant_tables.specs.{desk_table_defs}
use Rattle.plant_tables.specs.declared.finding.FoundTables.TheVariants as tables
use Rattle.plant_check_rules.specs.declared.rule.Rule.TheVariants as rule
use Rattle.file_reports.specs.{HoldsRows, IsHeldBy, IsHeldIn, IsReadAt, IsFileReportOf, IsReportOf, first_reported}
use Rattle.file_reports.specs.declared.barred.DeskIndex.{DeskIndex}
use Rattle.file_reports.specs.declared.file_report.Held.{Held}
use Rattle.file_reports.specs.declared.file_report.Held.TheVariants as held
use Rattle.file_reports.specs.declared.file_report.FileReport.{FileReport}
use Rattle.file_reports.specs.declared.file_report.FileReport.TheVariants as file_report

pos_same : (m n : ℕ) → pos m ≡ pos n → m ≡ n
pos_same m n e = cc

-- no version above the newest is reported where there is one that isn't
pub only_known : (db : Database) (version : ℕ) → IsVersion db (pos version) → version ≤ newest_schema → (n : ℕ) → newest_schema < n → ¬ IsVersion db (pos n)
only_known db version reported known n above other = let same : n ≡ version = pos_same n version (one_version db (pos n) (pos version) other reported) in absurd (omega (arith, same, above, known))

-- the first rule that all rows break is the first that the tables do
pub rows_damaged : (db : Database) (x : Loaded) (barred : Option DeskIndex) (r : Rule) → HoldsRows db x barred → first_broken x ≡ Some r → IsDamaged db r
rows_damaged db x barred r rows broken = record {
  taken = rows.taken;
  known = only_known db rows.version rows.reported rows.known;
  broken = inr (rows.version, rows.reported, rows.whole, (x, rows.loaded, broken));
}

-- ---- what is held, by what was found

module _ (db : Database) (t : FoundTables) (nothing : (t ≡ tables.Nothing) ↔ AreFree desk_table_defs db.schema) (taken : t ≢ tables.Nothing → ¬ All (IsFree db.schema) desk_table_defs)
    (version : (n : ℤ) → (t ≡ tables.Version n) ↔ IsVersion db n) where
  no_version : t ≡ tables.NoMeta → (n : ℤ) → ¬ IsVersion db n
  no_version none n reported = let is = (version n).1 reported in absurd (cc)

  lacks_meta : t ≡ tables.NoMeta → IsDamaged db rule.Tables
  lacks_meta none = record {
    taken = taken (λ e. absurd (cc));
    known = λ n above. no_version none (pos n);
    broken = inl (refl, inl (no_version none));
  }

  read_at : (v : ℤ) (schema : ℕ) (h : Held) → t ≡ tables.Version v → v ≡ pos schema → IsReadAt db schema h → IsHeldIn db h
  read_at v schema (held.Nothing barred) is number read = absurd read
  read_at v schema (held.Newer n) is number read = (subst (λ k. IsVersion db (pos k)) (sym read.0) (subst (IsVersion db) number ((version v).0 is)), read.1)
  read_at v schema held.Lacking is number read = let reported = subst (IsVersion db) number ((version v).0 is) in record {
    taken = taken (λ e. absurd (cc));
    known = only_known db schema reported read.0;
    broken = inl (refl, inr (schema, reported, read.1));
  }
  read_at v schema (held.Tables x barred) is number read = record {
    version = schema;
    taken = taken (λ e. absurd (cc));
    reported = subst (IsVersion db) number ((version v).0 is);
    known = read.0;
    whole = read.1;
    loaded = read.2;
    bars = read.3;
  }

-- what is held by what was found of a database is held in it
pub held_of : (db : Database) (t : FoundTables) (h : Held) → (t ≡ tables.Nothing) ↔ AreFree desk_table_defs db.schema → (t ≢ tables.Nothing → ¬ All (IsFree db.schema) desk_table_defs)
    → ((n : ℤ) → (t ≡ tables.Version n) ↔ IsVersion db n) → IsHeldBy db t h → IsHeldIn db h
held_of db tables.Nothing h nothing taken version by = subst (IsHeldIn db) (sym by) (nothing.0 refl, refl)
held_of db tables.NoMeta h nothing taken version by = subst (IsHeldIn db) (sym by) (lacks_meta db tables.NoMeta nothing taken version refl)
held_of db (tables.Version v) h nothing taken version by = read_at db (tables.Version v) nothing taken version v by.0 h refl by.1 by.2

held_before : (old mid : store.State) (t : FoundTables) (h : Held) → (t ≡ tables.Nothing → mid.now ≡ old.now) → ((n : ℤ) → t ≡ tables.Version n → IsUnchanged old mid) → IsHeldBy mid.now t h → IsHeldBy old.now t h
held_before old mid tables.Nothing h still same by = subst (λ db. IsHeldBy db tables.Nothing h) (still refl) by
held_before old mid tables.NoMeta h still same by = by
held_before old mid (tables.Version v) h still same by = subst (λ db. IsHeldBy db (tables.Version v) h) (same v refl).0.now_is by

-- the same of what a reading came to, where nothing was changed before it
pub all_held : (old mid : store.State) (t : FoundTables) (r : Result Held StoreFault) → (t ≡ tables.Nothing) ↔ AreFree desk_table_defs old.now.schema
    → (t ≢ tables.Nothing → ¬ All (IsFree old.now.schema) desk_table_defs) → ((n : ℤ) → (t ≡ tables.Version n) ↔ IsVersion old.now n)
    → (t ≡ tables.Nothing → mid.now ≡ old.now) → ((n : ℤ) → t ≡ tables.Version n → IsUnchanged old mid) → IfOk r (IsHeldBy mid.now t) → IfOk r (IsHeldIn old.now)
all_held old mid t (Ok h) nothing taken version still same by = held_of old.now t h nothing taken version (held_before old mid t h still same by)
all_held old mid t (Err f) nothing taken version still same by = tt

pub keeps_both : (a b c : store.State) → Keeps a b → Keeps b c → Keeps a c
keeps_both a b c one two = record {
  was_open = λ live. one.was_open (two.was_open live);
  now = λ live. two.now live ∙ one.now (two.was_open live);
  committed = λ live. two.committed live ∙ one.committed (two.was_open live);
}

-- ---- the report, by what is held

pub reported_on : (db : Database) (h : Held) (s : FileReport) → IsHeldIn db h → IsReportOf h s → IsFileReportOf db s
reported_on db (held.Nothing barred) s held reported = subst (IsFileReportOf db) (sym reported) held
reported_on db (held.Newer n) s held reported = subst (IsFileReportOf db) (sym reported) held
reported_on db held.Lacking s held reported = subst (IsFileReportOf db) (sym reported) held
reported_on db (held.Tables x bars) (file_report.Nothing barred) held reported = absurd reported
reported_on db (held.Tables x bars) (file_report.Newer n) held reported = absurd reported
reported_on db (held.Tables x bars) (file_report.Lacking b) held reported = absurd reported
reported_on db (held.Tables x bars) (file_report.Desk summary barred findings) held reported = record { loaded = x; rows = subst (HoldsRows db x) (sym reported.1) held; reported = reported.0 }

by_first : (db : Database) (x : Loaded) (barred : Option DeskIndex) (o : Option Rule) → HoldsRows db x barred → o ≡ first_broken x → IfSome o (IsDamaged db)
by_first db x barred None rows is = tt
by_first db x barred (Some r) rows is = rows_damaged db x barred r rows (sym is)

pub first_damaged : (db : Database) (s : FileReport) → IsFileReportOf db s → IfSome (first_reported s) (IsDamaged db)
first_damaged db (file_report.Nothing barred) reported = tt
first_damaged db (file_report.Newer n) reported = tt
first_damaged db (file_report.Lacking b) reported = reported
first_damaged db (file_report.Desk summary barred findings) reported =
    by_first db reported.loaded barred (first_rule findings) reported.rows (first_found reported.loaded findings reported.reported.breaks)

-- the same of what a reading came to
pub all_reported_on : (db : Database) (h : Held) (r : Result FileReport StoreFault) → IsHeldIn db h → IfOk r (IsReportOf h) → IfOk r (IsFileReportOf db)
all_reported_on db h (Ok s) held reported = reported_on db h s held reported
all_reported_on db h (Err f) held reported = tt

pub all_damaged : (db : Database) (h : Held) (r : Result FileReport StoreFault) → IsHeldIn db h → IfOk r (IsReportOf h) → IfOk r (λ s. IfSome (first_reported s) (IsDamaged db))
all_damaged db h (Ok s) held reported = first_damaged db s (reported_on db h s held reported)
all_damaged db h (Err f) held reported = tt
