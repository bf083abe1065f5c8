use Rattle.std.proofs.Common.{◌≡◌, pos, ℤ, Ok, Err, refl, inl, rules}
use Rattle.sqlite.specs.Held.{state}
use Rattle.sqlite.proofs.StateLemmas.{survives_weaker}
use Rattle.sql_tables.proofs.TransactionEnds.{IsStore}
use Rattle.plant_tables.specs.{IsVersion}
use Rattle.plant_tables.specs.declared.finding.FoundTables.TheVariants as tables
use Rattle.plant_desk_store.specs.{IsRefusedBy}
use Rattle.plant_desk_store.proofs.AdoptionOutcomes.{made_or_not, taken_or_not}
use Rattle.plant_desk_store.proofs.CheckedStore.{stays_valid}
use Rattle.plant_desk_store.proofs.FaultsOfCalls.{nothing_found, known_found, something_found, unfound}
use Rattle.plant_desk_store.proofs.adopting.adopt_on.Goals as goal

pub returns-in-None : goal.returns-in-None
returns-in-None g c =
    let end = c.make_opening.new.connection in
    let laws : IsStore (state g.S.Store end) = record { settled = g.met.S.Store.settled end.store; stays = g.met.S.Store.stays end.store; something = g.met.S.Store.survives end.store } in
    let is : c.found.result ≡ Ok tables.Nothing = nothing_found c.found.result (rw c.in-None.is at c.in_ok-schema_found.ensures) in
    made_or_not (state g.S.Store c.args.connection.now) (state g.S.Store end) laws c.found.ensures.live ((rw is at c.found.ensures.nothing).0 refl) c.make_opening.result
    (rw ((rw is at c.found.ensures.untouched) refl) at c.make_opening.ensures)

pub returns-in-Some : goal.returns-in-Some
returns-in-Some g c =
    let held = c.found.new.conn in
    let end = c.adopt_tables.new.connection in
    let old = state g.S.Store c.args.connection.now in
    let mid = state g.S.Store held in
    let first : IsStore mid = record { settled = g.met.S.Store.settled held.store; stays = g.met.S.Store.stays held.store; something = g.met.S.Store.survives held.store } in
    let laws : IsStore (state g.S.Store end) = record { settled = g.met.S.Store.settled end.store; stays = g.met.S.Store.stays end.store; something = g.met.S.Store.survives end.store } in
    let reported = rw c.in-Some.is at c.in_ok-schema_found.ensures in
    taken_or_not c.in-Some.schema old mid (state g.S.Store end) first laws c.found.ensures.crash c.found.ensures.kept
    (λ was. known_found old mid c.found.result c.in-Some.schema reported (c.found.ensures.version was) (c.found.ensures.same was))
    (something_found _ c.found.result c.in-Some.schema reported c.found.ensures.taken) c.adopt_tables.result c.adopt_tables.ensures

-- nothing that can be adopted was found
pub returns-in_err-schema_found : goal.returns-in_err-schema_found
returns-in_err-schema_found g c =
    let end = c.found.new.conn in
    let old = state g.S.Store c.args.connection.now in
    let new = state g.S.Store end in
    let laws : IsStore new = record { settled = g.met.S.Store.settled end.store; stays = g.met.S.Store.stays end.store; something = g.met.S.Store.survives end.store } in
    let fault = c.in_err-schema_found.field-0.0 in
    let is : c.from_residual.result ≡ Err fault = search rules in
    rw is (record {
      refused = λ clean. unfound (IsRefusedBy old.now) c.found.result fault c.in_err-schema_found.ensures
          (λ is.
          let none : (n : ℤ) → ¬ IsVersion old.now n = λ n v. absurd (let reported = ((rw is at c.found.ensures.version clean) n).1 v in cc) in
          record {
            taken = (rw is at c.found.ensures.taken) (λ e. absurd cc);
            known = λ n above. none (pos n);
            broken = inl (refl, inl none);
          })
          (λ n is above. (((rw is at c.found.ensures.version clean) (pos n)).0 refl, above)) tt tt;
      rests = c.found.ensures.mode c.requires;
      shows = λ clean newly is_live. inl (c.found.ensures.kept clean);
      unchanged = stays_valid old new c.found.ensures.kept c.found.ensures.crash laws;
      no_crash_state_added = λ _. c.found.ensures.crash;
      unmade = λ _. c.found.ensures.crash;
      crash = survives_weaker _ _ _ _ (λ clean db none. absurd none) c.found.ensures.crash;
      something = laws.something;
    })
