-- Which refusals clap's kinds lead to.
use Rattle.std.proofs.Common.{◌≡◌, Bool, true, false, List, [], ◌∷◌, inl, inr, Err, ap, sym, ◌∙◌, refl, subst, rules}
use Rattle.std.specs.List.{list_any}
use Rattle.clap.specs.Kinds.{HasKind, IsAmong, Kinds}
use Rattle.clap.specs.Words.{Text, fault_of, kind_of, subcommand_of}
use Rattle.clap.specs.declared.error.Error.{Error}
use Rattle.clap.specs.declared.error.kind.ErrorKind.{ErrorKind}
use Rattle.clap.specs.declared.error.kind.ErrorKind.TheVariants as kind
use Rattle.desk_cli.specs.{the_program, IsFaultOf, IsRefusalOf, IsRefusedBy, NamesBroken, asks_help, is_mistake, meant_in, fault_as}
use Rattle.desk_cli.specs.declared.argument.Argument.{Argument}
use Rattle.desk_cli.specs.declared.meaning.WordsFault.{WordsFault}
use Rattle.desk_cli.specs.declared.meaning.WordsFault.TheVariants.{Usage, Help, Memory}

-- a kind among these passes a test: so does one of them
any_among : (p : ErrorKind → Bool) (k : ErrorKind) (ks : Kinds) → IsAmong k ks → p k ≡ true → list_any p ks ≡ true
any_among p k [] h e = absurd h
any_among p k (x ∷ xs) (inl same) e = let first : p x ≡ true = sym (ap p same) ∙ e in search (rules, first)
any_among p k (x ∷ xs) (inr later) e = let rest = any_among p k xs later e in search (rules, rest)

-- the fault for an error, with its text, is a fault of it
pub reported_fault : (k : ErrorKind) (usage help fault : WordsFault) → fault ≡ fault_as k usage help
    → (is_mistake k ≡ true → IsFaultOf k usage) → (asks_help k ≡ true → IsFaultOf k help) → IsFaultOf k fault
reported_fault kind.OutOfMemory usage help fault is mistake helps = subst (IsFaultOf kind.OutOfMemory) (sym is) tt
reported_fault kind.DisplayHelp usage help fault is mistake helps = subst (IsFaultOf kind.DisplayHelp) (sym is) (helps refl)
reported_fault kind.DisplayVersion usage help fault is mistake helps = subst (IsFaultOf kind.DisplayVersion) (sym is) (helps refl)
reported_fault k usage help fault is mistake helps = rw is (mistake refl)

-- a refusal of clap's has its kind among those that it found
pub refusal_by : (ks : Kinds) (fault : WordsFault) (e : Error) → HasKind ks e → IsFaultOf (kind_of e) fault → IsRefusalOf ks fault
refusal_by ks (Usage text) e (inl memory) h = let bad : false ≡ true = sym (ap is_mistake memory) ∙ h in cc bad
refusal_by ks (Usage text) e (inr among) h = any_among is_mistake (kind_of e) ks among h
refusal_by ks (Help text) e (inl memory) h = let bad : false ≡ true = sym (ap asks_help memory) ∙ h in cc bad
refusal_by ks (Help text) e (inr among) h = any_among asks_help (kind_of e) ks among h
refusal_by ks Memory e k h = tt

pub refused_by : (words : List Text) (fault : WordsFault) → IsRefusalOf (fault_of the_program words) fault → IsRefusedBy words fault
refused_by words (Usage text) h = inl h
refused_by words (Help text) h = h
refused_by words Memory h = h

-- arguments of which a value breaks its rule are refused by that, or for want of memory
pub broken : (words : List Text) (a : Argument) (fault : WordsFault) → meant_in (subcommand_of the_program words) ≡ Err a
    → NamesBroken a fault → IsRefusedBy words fault
broken words a (Usage text) none h = inr (a, none, h)
broken words a (Help text) none h = absurd h
broken words a Memory none h = tt
