use Rattle.std.proofs.Common.{◌∙◌, ap, sym, ◌++◌, ◌∷◌, []}
use Rattle.std.specs.Prelude.{is_some}
use Rattle.std.specs.List.{zip}
use Rattle.mof_metamodel.specs.NameTables.{value_of, with_value}
use Rattle.mof_metamodel.proofs.NameIndexLemmas.{value_is_some, zip_more}
use Rattle.mof_metamodel.proofs.name_table.NameTable.put.Goals as goal

pub add-requires : goal.add-requires
add-requires g c =
    sym (value_is_some c.args.name c.self.inside.names c.self.inside.values.items c.self.invariant)
    ∙ ap (λ names. is_some (value_of names c.args.name)) c.self.view_is ∙ c.requires

pub returns-in-Ok-clause-ok : goal.returns-in-Ok-clause-ok
returns-in-Ok-clause-ok g c =
    ap (λ names. zip names c.push.new.self.items) c.in-Ok.ensures.ok ∙ ap (zip (c.self.inside.names ++ c.args.name ∷ [])) c.in_ok-push.ensures.items
    ∙ zip_more c.self.inside.names c.self.inside.values.items c.args.name c.args.value c.self.invariant
    ∙ ap (λ names. with_value names c.args.name c.args.value) c.self.view_is
