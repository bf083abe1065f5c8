-- A file that was just opened: the rows of its tables are in the order of their rowids.
use Rattle.std.proofs.Common.{◌≡◌, ◌∙◌, ℕ, true, inl, inr, List, [], ◌∷◌, sym, ap, subst}
use Rattle.std.proofs.Math.Logic.{∥∥₁_elim}
use Rattle.std.specs.List.{AllZip}
use Rattle.sqlite_pages.specs.PageMap.{PageMap}
use Rattle.sqlite_pool.specs.File.{version_in, in_use}
use Rattle.sqlite_rules.specs.Lists.{Has}
use Rattle.sqlite_schema.specs.declared.schema.Schema.{Schema}
use Rattle.sqlite_schema.specs.declared.schema.Table.{Table}
use Rattle.sqlite_catalog.specs.Listing.{IsSound, IsTableRow}
use Rattle.sqlite_trees.specs.Tree.{Trees}
use Rattle.sqlite_trees.specs.View.{IsOrdered}
use Rattle.sqlite_trees.specs.Props.{IsOrdered-prop}
use Rattle.sqlite_trees.specs.Objects.{catalog_tree, IsListed}
use Rattle.sqlite_store.specs.declared.catalog.Wanted.{Wanted}
use Rattle.sqlite_store.specs.Listing.{file_trees, listed_from, all_shapes, all_reals, IsOurs}
use Rattle.sqlite_store.specs.Listed.{catalog_rows, is_listed}
use Rattle.sqlite_store.proofs.ListingLemmas.{all_ordered}
use Rattle.sqlite_store.specs.declared.store.FileStore.{FileStore}
use Rattle.sqlite_store.specs.Laws.{settled_at, stays_at, survives_at}
use Rattle.sqlite_disk.specs.declared.Disk.{Ghosts}
use Rattle.sqlite_wal.specs.Recovery.{Image}
use Rattle.sqlite_wal.proofs.LogLemmas.{SeenMayStay}
use Rattle.sqlite.specs.Effect.{Database}
use Rattle.sqlite.specs.Held.{Held}
use Rattle.sqlite.specs.Files.{AreFoundIn, IsEmpty, IsOpened, file_state}
use Rattle.sql_tables.proofs.TransactionEnds.{IsStore}
use Rattle.sql_queries.specs.{IsNewlyOpened, IsRising}
use Rattle.sql_queries.proofs.StoreLaws.{rising_of, newly_opened}

-- the trees of a whole file
file_rises : {size : ℕ} {pages : PageMap} {wanted : List Wanted} (schema : Schema) (db : Trees) → ∥ IsOurs size true wanted pages ∥₁ → db ≡ file_trees size wanted pages → IsSound schema db
    → IsRising (record { schema = schema; trees = db })
file_rises {size} {pages} {wanted} schema db ours reads = rising_of (all_shapes wanted) (all_reals wanted) schema db listed ordered
  where
    rows : db catalog_tree ≡ listed_from 0 wanted
    rows = ap (λ (d : Trees). d catalog_tree) reads ∙ catalog_rows size wanted (in_use size pages)

    listed : IsListed (db catalog_tree) (all_shapes wanted) (all_reals wanted)
    listed = subst (λ r. IsListed r (all_shapes wanted) (all_reals wanted)) (sym rows) (is_listed wanted)

    ordered : IsOrdered (all_shapes wanted) db
    ordered = ∥∥₁_elim ours (IsOrdered-prop _ _) (λ it. subst (IsOrdered (all_shapes wanted)) (sym reads) (all_ordered it.file.db (version_in pages)))

-- no row lists no table
none_listed : (tables : List Table) → AllZip IsTableRow [] tables → (t : Table) → Has tables t → ⊥
none_listed [] listed t has = has
none_listed (first ∷ rest) listed t has = absurd listed

-- where nothing was, no table is listed
empty_rises : (schema : Schema) (db : Trees) → IsEmpty db → IsSound schema db → IsRising (record { schema = schema; trees = db })
empty_rises schema db empty sound = record {
  rises = λ t has. absurd (none_listed schema.tables (rw empty.1 at sound.lists.listed.tables) t has);
}

found_rises : (image : Image) (schema : Schema) (db : Trees) → AreFoundIn image db → IsSound schema db → IsRising (record { schema = schema; trees = db })
found_rises image schema db (inl found) sound = file_rises schema db found.4 found.5 sound
found_rises image schema db (inr nothing) sound = empty_rises schema db nothing.1 sound

-- what the opening of a file says of the connection that it gives
pub file_opened : {D : Type 0} {g : Ghosts D} (conn : Held (FileStore D g)) (image : Image) → SeenMayStay g → IsOpened conn → AreFoundIn image (file_state conn).committed.trees
    → IsNewlyOpened (file_state conn)
file_opened conn image stays opened found = newly_opened (file_state conn) opened.0 laws (found_rises image conn.schema (file_state conn).now.trees shown (opened.1 opened.0.is_open).0)
  where
    laws : IsStore (file_state conn)
    laws = record { settled = settled_at conn.store stays; stays = stays_at conn.store stays; something = survives_at conn.store stays }

    shown : AreFoundIn image (file_state conn).now.trees
    shown = subst (AreFoundIn image) (ap (λ (d : Database). d.trees) (sym opened.0.clean)) found
