-- Which refusals clap's kinds lead to.
use Rattle.std.proofs.Common.{◌≡◌, ◌∙◌, Bool, true, false, [], ◌∷◌, inl, inr, ap, sym, rules}
use Rattle.std.specs.List.{list_any}
use Rattle.clap.specs.Kinds.{HasKind, IsAmong, Kinds}
use Rattle.clap.specs.Words.{kind_of}
use Rattle.clap.specs.declared.error.Error.{Error}
use Rattle.clap.specs.declared.error.kind.ErrorKind.{ErrorKind}
use Rattle.desk_cli.specs.{IsFaultOf, IsRefusalOf, asks_help, is_mistake, WordsFault}
use Rattle.desk_cli.specs.declared.meaning.WordsFault.TheVariants.{Usage, Help, Memory}

-- a kind among these passes a test: so does one of them
any_among : (p : ErrorKind → Bool) (k : ErrorKind) (ks : Kinds) → IsAmong k ks → p k ≡ true → list_any p ks ≡ true
any_among p k [] h e = absurd h
any_among p k (x ∷ xs) (inl same) e = let first : p x ≡ true = sym (ap p same) ∙ e in search (rules, first)
any_among p k (x ∷ xs) (inr later) e = let rest = any_among p k xs later e in search (rules, rest)

-- a refusal of clap's has its kind among those that it found
pub refusal_by : (ks : Kinds) (fault : WordsFault) (e : Error) → HasKind ks e → IsFaultOf (kind_of e) fault → IsRefusalOf ks fault
refusal_by ks (Usage text) e (inl memory) h = let bad : false ≡ true = sym (ap is_mistake memory) ∙ h in cc bad
refusal_by ks (Usage text) e (inr among) h = any_among is_mistake (kind_of e) ks among h
refusal_by ks (Help text) e (inl memory) h = let bad : false ≡ true = sym (ap asks_help memory) ∙ h in cc bad
refusal_by ks (Help text) e (inr among) h = any_among asks_help (kind_of e) ks among h
refusal_by ks Memory e k h = tt
