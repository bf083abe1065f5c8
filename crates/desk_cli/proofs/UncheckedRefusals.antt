-- Which refusals the arguments of a check of a desk's file lead to.
use Rattle.std.proofs.Common.{◌≡◌, List, None, inl, inr, codes}
use Rattle.clap.specs.Words.{Text, fault_of}
use Rattle.desk_cli.specs.{IsUnchecked, desk_check_app, given, IsRefusalOf, NamesBroken}
use Rattle.desk_cli.specs.declared.argument.Argument.TheVariants as argument
use Rattle.desk_cli.specs.declared.meaning.WordsFault.{WordsFault}
use Rattle.desk_cli.specs.declared.meaning.WordsFault.TheVariants.{Usage, Help, Memory}

-- as clap refuses them
pub refused_so : (words : List Text) (fault : WordsFault) → IsRefusalOf (fault_of desk_check_app words) fault → IsUnchecked words fault
refused_so words (Usage text) h = inl h
refused_so words (Help text) h = h
refused_so words Memory h = h

-- since they give no file, or for want of memory
pub lacking : (words : List Text) (fault : WordsFault) → given words (codes "file") ≡ None → NamesBroken argument.File fault → IsUnchecked words fault
lacking words (Usage text) none h = inr (none, h)
lacking words (Help text) none h = absurd h
lacking words Memory none h = tt
