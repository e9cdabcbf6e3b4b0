use Rattle.std.proofs.Common.{◌∙◌, ap, sym, length, arith}
use Rattle.std.specs.Prelude.{position}
use Rattle.mof_metamodel.specs.Characters.{same_name}
use Rattle.mof_metamodel.specs.NameTables.{value_of, number_of}
use Rattle.mof_metamodel.proofs.NameIndexLemmas.{number_is, value_none, value_some, length-table}
use Rattle.mof_metamodel.proofs.name_table.NameTable.find.Goals as goal

pub returns-in-Some-clause-number : goal.returns-in-Some-clause-number
returns-in-Some-clause-number g c =
    c.in-Some.ensures.number ∙ ap (λ name. position (same_name name) c.self.inside.names) c.as_str.ensures.characters
    ∙ sym (number_is c.args.name.now c.self.inside.names c.self.inside.values.items c.self.invariant) ∙ ap (λ names. number_of names c.args.name.now) c.self.view_is

pub returns-in-Some-clause-value : goal.returns-in-Some-clause-value
returns-in-Some-clause-value g c =
    sym (value_some c.args.name.now c.self.inside.names c.self.inside.values.items c.self.invariant c.in-Some.place c.index.result.now
    (sym (c.in-Some.ensures.number ∙ ap (λ name. position (same_name name) c.self.inside.names) c.as_str.ensures.characters)) c.index.ensures)
    ∙ ap (λ names. value_of names c.args.name.now) c.self.view_is

pub returns-in-Some-clause-within : goal.returns-in-Some-clause-within
returns-in-Some-clause-within g c =
    let same = sym (ap length c.self.view_is) ∙ length-table c.self.inside.names c.self.inside.values.items c.self.invariant in
    let invariant = c.self.invariant in
    let within = c.in-Some.ensures.within in
    omega (arith, same, invariant, within)

pub returns-in-None-clause-number : goal.returns-in-None-clause-number
returns-in-None-clause-number g c =
    c.in-None.ensures.number ∙ ap (λ name. position (same_name name) c.self.inside.names) c.as_str.ensures.characters
    ∙ sym (number_is c.args.name.now c.self.inside.names c.self.inside.values.items c.self.invariant) ∙ ap (λ names. number_of names c.args.name.now) c.self.view_is

pub returns-in-None-clause-value : goal.returns-in-None-clause-value
returns-in-None-clause-value g c =
    sym (value_none c.args.name.now c.self.inside.names c.self.inside.values.items c.self.invariant
    (sym (c.in-None.ensures.number ∙ ap (λ name. position (same_name name) c.self.inside.names) c.as_str.ensures.characters)))
    ∙ ap (λ names. value_of names c.args.name.now) c.self.view_is
