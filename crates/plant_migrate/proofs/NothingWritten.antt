-- A store that nothing was written to.
use Rattle.std.proofs.Common.{◌≡◌, ◌∙◌, inl, inr, refl, sym, ap, subst, ℕ, ◌≤◌, nat_le, IsTrue, arith}
use Rattle.std.proofs.lemmas.Bool.{cases_Bool}
use Rattle.std.proofs.lemmas.Bool.Decides.{nat_tests}
use Rattle.sqlite.specs.Tree.{Trees}
use Rattle.sqlite.specs.Effect.{Database}
use Rattle.sqlite.specs.State.{State, HasCleanDisk, Survives}
use Rattle.plant_base.specs.StateRows as desk
use Rattle.plant_view.specs.{tables_of}
use Rattle.plant_view.specs.TableRows.{Tables}
use Rattle.sql_tables.specs.{Keeps, KeepsOtherTables, IsSettled}
use Rattle.sql_tables.proofs.TransactionEnds.{IsStore}
use Rattle.plant_tables.specs.{desk_table_defs, HoldsTablesOf, IsAtOf, FindsOf, FailureLeavesOf}
use Rattle.plant_tables.proofs.WritingEnds.{finds_same}
use Rattle.plant_migrate.specs.{FailureLeavesAmid, FindsBetween, migrated_to}

pub keeps_itself : (s : State) → Keeps s s
keeps_itself s = record { was_open = λ live. live; now = λ _. refl; committed = λ _. refl }

pub settled_still : (old new : State) → IsSettled old → Keeps old new → IsStore new → IsTrue new.is_open → IsSettled new
settled_still old new settled kept laws live = record {
  is_open = live;
  shows = kept.now live ∙ settled.shows ∙ sym (kept.committed live);
  crash_states = laws.stays live;
  nothing_else = λ db left. laws.settled db live left;
}

module _ (version : ℕ) (old new : State) (t : Tables) (at : IsAtOf version old t) (kept : Keeps old new) (laws : IsStore new) where
  pub at_still : IsTrue new.is_open → IsAtOf version new t
  at_still live = record {
    settled = settled_still old new at.settled kept laws live;
    holds = subst (λ d. HoldsTablesOf version d t) (sym (kept.now live)) at.holds;
  }

  pub found_still : (db : Trees) → old.may_leave db → FindsOf version old.now db t
  found_still db left =
      let same : db ≡ old.now.trees = at.settled.nothing_else db left ∙ ap (λ (d : Database). d.trees) (sym at.settled.shows) in
      finds_same version old.now db t at.holds same

  pub not_begun : (later : ℕ) (after : Tables) → HasCleanDisk new → Survives old new (λ _. ⊥) → FailureLeavesOf version later old new t after
  not_begun later after clean wrote = record {
    crash_states = laws.something clean;
    nothing_else = λ db left. elim (wrote.crash clean db left) [
      | inl still ↦ inl (found_still db still)
      | inr none ↦ absurd none
    ];
    shows = λ live. (at_still live, kept.now live);
  }

-- the version itself is one from it to the one that is asked for
pub migrated_above : (version to : ℕ) → version ≤ migrated_to version to
migrated_above version to = elim (cases_Bool (nat_le to version)) [
  | inl low ↦ rw low (omega arith)
  | inr high ↦ rw high (grind (arith, nat_tests))
]

-- a migration to a schema that wasn't begun
pub not_migrated : (version to : ℕ) (old new : State) (s : desk.State) → IsAtOf version old (tables_of version s) → Keeps old new → IsStore new → HasCleanDisk new → Survives old new (λ _. ⊥) → FailureLeavesAmid version to old new s
not_migrated version to old new s at kept laws clean wrote = record {
  crash_states = laws.something clean;
  nothing_else = λ db left. elim (wrote.crash clean db left) [
    | inl still ↦ let low : version ≤ version = omega arith in (version, low, migrated_above version to, found_still version old new (tables_of version s) at kept laws db still)
    | inr none ↦ absurd none
  ];
  shows = λ live. inl (at_still version old new (tables_of version s) at kept laws live, kept.now live);
}

-- what a stop leaves, as seen from a store before that shows the same
pub amid_since : (version to : ℕ) (first mid new : State) (s : desk.State) → mid.now ≡ first.now → FailureLeavesAmid version to mid new s → FailureLeavesAmid version to first new s
amid_since version to first mid new s same cut = record {
  crash_states = cut.crash_states;
  nothing_else = λ db left. subst (λ (d : Database). FindsBetween version (migrated_to version to) s d db) same (cut.nothing_else db left);
  shows = λ live. elim (cut.shows live) [
    | inl still ↦ inl (still.0, still.1 ∙ same)
    | inr amid ↦ inr (record { later = amid.later; above = amid.above; below = amid.below; at = amid.at; others = subst (λ (d : Database). KeepsOtherTables desk_table_defs d new.now) same amid.others })
  ];
}
