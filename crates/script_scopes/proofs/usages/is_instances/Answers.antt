use Rattle.std.proofs.Common.{sym, ◌∙◌}
use Rattle.std.specs.Prelude.{codes}
use Rattle.std.specs.Cmp.{both_ways}
use Rattle.script_scopes.proofs.NameLemmas.{is_same, same_is}
use Rattle.script_scopes.proofs.UsageLemmas.{all_instances_characters}
use Rattle.script_scopes.proofs.usages.is_instances.Goals as goal

pub returns : goal.returns
returns c = both_ways _ _ (λ h. is_same (codes "allInstances") c.args.name.now (sym (c.is.ensures.0 h ∙ all_instances_characters)))
    (λ h. c.is.ensures.1 (sym (same_is (codes "allInstances") c.args.name.now h) ∙ sym all_instances_characters))
