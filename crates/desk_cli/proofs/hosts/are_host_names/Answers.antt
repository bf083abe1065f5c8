use Rattle.std.proofs.Common.{◌∙◌, sym}
use Rattle.std.proofs.lemmas.List.Folds.{list_all-map}
use Rattle.desk_cli.specs.{is_host_name}
use Rattle.desk_cli.proofs.hosts.are_host_names.Goals as goal

pub returns : goal.returns
returns c = c.all_host_names.ensures ∙ sym (list_all-map is_host_name (λ s. s.now) c.args.texts.now)
