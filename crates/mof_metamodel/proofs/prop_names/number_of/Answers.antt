use Rattle.std.proofs.Common.{ap, ◌∙◌}
use Rattle.std.specs.Option.{unwrap_or}
use Rattle.mof_metamodel.specs.declared.desc.PropDesc.{PropDesc}
use Rattle.mof_metamodel.specs.Tables.{number_in}
use Rattle.mof_metamodel.proofs.NumberLemmas.{number_found}
use Rattle.mof_metamodel.proofs.prop_names.number_of.Goals as goal

pub returns : goal.returns
returns c =
    c.unwrap_or.ensures
    ∙ ap (λ o. unwrap_or o c.args.p) (c.number.ensures ∙ ap (number_in c.args.names.now) (c.as_str.ensures.characters ∙ ap (λ (d : PropDesc). d.name) c.prop.ensures))
    ∙ number_found c.args.named.now c.args.names.now c.args.p c.requires.prop c.requires.names
