use Rattle.std.proofs.Common.{◌∙◌, ap, sym}
use Rattle.std.specs.Prelude.{chars}
use Rattle.mof_metamodel.specs.NameTables.{value_of}
use Rattle.mof_metamodel.proofs.NameIndexLemmas.{value_none, value_some}
use Rattle.mof_metamodel.proofs.name_table.NameTable.get.Goals as goal

pub returns-in-Some : goal.returns-in-Some
returns-in-Some g c =
    sym (value_some (chars c.args.name.now) c.self.inside.names c.self.inside.values.items c.self.invariant c.in-Some.place c.index.result.now (sym c.in-Some.ensures.number) c.index.ensures)
    ∙ ap (λ names. value_of names (chars c.args.name.now)) c.self.view_is

pub returns-in-None : goal.returns-in-None
returns-in-None g c =
    sym (value_none (chars c.args.name.now) c.self.inside.names c.self.inside.values.items c.self.invariant (sym c.in-None.ensures.number))
    ∙ ap (λ names. value_of names (chars c.args.name.now)) c.self.view_is
