-- What a desk represents once it was asked, or a command was checked.
use Rattle.std.proofs.Common.{◌≡◌, Bool, Result, Ok, Err, refl}
use Rattle.sqlite.specs.Effect.{Database}
use Rattle.sqlite.specs.State as store
use Rattle.sqlite.specs.State.{HasCleanDisk}
use Rattle.plant_base.specs.{State, newest_schema, Envelope}
use Rattle.sql_tables.proofs.TransactionEnds.{IsStore}
use Rattle.plant_rules.specs.{Checked}
use Rattle.plant_keeper.specs.{Checks, Asks}
use Rattle.plant_questions.specs.{Answer, DeskFault, Question}
use Rattle.plant_questions.specs.declared.reply.DeskFault.TheVariants.{Store, Memory, Shut}
use Rattle.plant_desk_store.specs.{OnlyReads, HasLookedUpCheck, HasAnswered, Represents, HasForeignTables}
use Rattle.plant_desk_store.proofs.ForeignTablesKept.{others_kept}
use Rattle.plant_desk_store.proofs.ReadingKeepsState.{still_represents, still_crash_states}

-- a desk whose store was only read represents what it represented
pub read_represents : (old new : store.State) (shut : Bool) (s : State) → OnlyReads old new → IsStore new → HasCleanDisk new → Represents old shut s → Represents new shut s
read_represents old new shut s reads laws clean represented =
    (still_represents old new s represented.0 (reads.kept clean) laws, λ unchanged. still_crash_states old new (λ u. u ≡ s) (represented.1 unchanged) clean reads.crash laws)

pub asked_foreign_tables : (before : Database) (old new : store.State) (shut : Bool) → OnlyReads old new → IsStore new → HasCleanDisk new → HasForeignTables old shut before → HasForeignTables new shut before
asked_foreign_tables before old new shut reads laws clean represented = record {
  state = represented.state;
  represents = read_represents old new shut represented.state reads laws clean represented.represents;
  others = others_kept before old new represented.others clean (reads.kept clean) reads.crash;
}

pub checked_stands : (old new : store.State) (shut : Bool) (s : State) (e : Envelope) (r : Result Checked DeskFault) → HasLookedUpCheck old new e r → IsStore new → HasCleanDisk new → Represents old shut s → Checks s (Represents new shut) e r
checked_stands old new shut s e (Ok c) did laws clean represented = (did.checks clean s represented.0, read_represents old new shut s did.reads laws clean represented)
checked_stands old new shut s e (Err Store) did laws clean represented = read_represents old new shut s did.reads laws clean represented
checked_stands old new shut s e (Err Memory) did laws clean represented = read_represents old new shut s did.reads laws clean represented
checked_stands old new shut s e (Err Shut) did laws clean represented = absurd (did.unshut refl)

pub asked_stands : (old new : store.State) (shut : Bool) (s : State) (q : Question) (r : Result Answer DeskFault) → HasAnswered old new q r → IsStore new → HasCleanDisk new → Represents old shut s → Asks newest_schema s (Represents new shut) q r
asked_stands old new shut s q (Ok a) did laws clean represented = (did.answers clean s represented.0, read_represents old new shut s did.reads laws clean represented)
asked_stands old new shut s q (Err Store) did laws clean represented = read_represents old new shut s did.reads laws clean represented
asked_stands old new shut s q (Err Memory) did laws clean represented = read_represents old new shut s did.reads laws clean represented
asked_stands old new shut s q (Err Shut) did laws clean represented = absurd (did.unshut refl)
