use Rattle.std.proofs.Common.{◌∙◌, ap, sym}
use Rattle.std.specs.Prelude.{is_some, position}
use Rattle.mof_metamodel.specs.Characters.{same_name}
use Rattle.mof_metamodel.specs.NameTables.{value_of}
use Rattle.mof_metamodel.proofs.NameIndexLemmas.{value_is_some}
use Rattle.mof_metamodel.proofs.name_table.NameTable.contains.Goals as goal

pub returns : goal.returns
returns g c =
    c.is_some.ensures ∙ ap is_some (c.place.ensures.number ∙ ap (λ name. position (same_name name) c.self.inside.names) c.as_str.ensures.characters)
    ∙ sym (value_is_some c.args.name.now c.self.inside.names c.self.inside.values.items c.self.invariant) ∙ ap (λ names. is_some (value_of names c.args.name.now)) c.self.view_is
