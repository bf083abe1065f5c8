-- A command that isn't refused has a number: the limit of accepted commands isn't reached.
use Rattle.std.proofs.Common.{◌≡◌, ◌∙◌, ◌<◌, Bool, true, false, List, [], ◌∷◌, Option, None, Result, Ok, Err, is_some, is_none, refl, sym, ap, arith}
use Rattle.std.proofs.lemmas.Bool.{false≢true}
use Rattle.std.proofs.lemmas.Bool.Decides.{nat_tests}
use Rattle.plant_base.specs.{greatest_seq, State, lot_at, place_at, Command, Part, Refusal}
use Rattle.plant_base.specs.declared.commands.Command.TheVariants as body
use Rattle.plant_recipe.specs.declared.progress.Progress.{Progress}
use Rattle.plant_view.specs.{refuse, at_limit}
use Rattle.plant_rules_production.specs.{refuse_turn}
use Rattle.plant_rules.specs.{wrong_parts, wrong_body}

-- ---- conditions

-- a condition that fails refuses, whatever comes before it
pub failing : (b : Bool) (r : Refusal) (rest : Option Refusal) → b ≡ true → is_some (refuse b r rest) ≡ true
failing true r rest fails = refl
failing false r rest fails = absurd (false≢true fails)

pub behind : (b : Bool) (r : Refusal) (rest : Option Refusal) → is_some rest ≡ true → is_some (refuse b r rest) ≡ true
behind true r rest refused = refl
behind false r rest refused = refused

behind_turn : (turn : Result Progress Refusal) (rest : Option Refusal) → is_some rest ≡ true → is_some (refuse_turn turn rest) ≡ true
behind_turn (Ok p) rest refused = refused
behind_turn (Err r) rest refused = refl

behind_parts : (s : State) (ps : List Part) (rest : Option Refusal) → is_some rest ≡ true → is_some (wrong_parts s ps rest) ≡ true
behind_parts s [] rest refused = refused
behind_parts s (p ∷ ps) rest refused = behind (is_none (lot_at s p.lot)) _ _ (behind (is_none (place_at s p.lot p.sub)) _ _ (behind_parts s ps rest refused))

-- so none fails of a command that isn't refused
pub not_failing : (w : Option Refusal) → w ≡ None → (b : Bool) → (b ≡ true → is_some w ≡ true) → b ≡ false
not_failing w fine true refused = absurd (false≢true (sym (ap is_some fine) ∙ refused refl))
not_failing w fine false refused = refl

-- ---- the limit

-- at the limit each command is refused
full : (s : State) (c : Command) → at_limit s ≡ true → is_some (wrong_body s c) ≡ true
full s (body.Merge c) limit = search (failing, behind, behind_parts) depth 12
full s (body.BatchCommand c) limit = search (failing, behind, behind_turn)
full s (body.Settle c) limit = search (failing, behind, behind_turn)
full s (body.PhaseDone c) limit = search (failing, behind, behind_turn)
full s _ limit = search (failing, behind) depth 12

pub number_left : (s : State) (c : Command) → wrong_body s c ≡ None → s.seq < greatest_seq
number_left s c fine =
    let below : at_limit s ≡ false = not_failing (wrong_body s c) fine (at_limit s) (full s c) in
    grind (arith, nat_tests)
