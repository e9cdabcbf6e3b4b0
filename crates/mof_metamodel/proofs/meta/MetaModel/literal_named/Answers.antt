use Rattle.std.proofs.Common.{◌≡◌, rules}
use Rattle.std.specs.Prelude.{chars}
use Rattle.mof_metamodel.specs.Metamodels.{literal_number}
use Rattle.mof_metamodel.proofs.MetaLaws.{literal_within, literal_named}
use Rattle.mof_metamodel.proofs.meta.MetaModel.literal_named.Goals as goal

pub returns-clause-within : goal.returns-clause-within
returns-clause-within c =
    let number : c.literal_number.result ≡ literal_number c.args.self.now c.args.e.0 (chars c.args.name.now) = search rules in
    literal_within c.args.self.now c.args.e.0 (chars c.args.name.now) c.literal_number.result number

pub returns-clause-named : goal.returns-clause-named
returns-clause-named c =
    let number : c.literal_number.result ≡ literal_number c.args.self.now c.args.e.0 (chars c.args.name.now) = search rules in
    literal_named c.args.self.now c.args.e.0 (chars c.args.name.now) c.literal_number.result number
