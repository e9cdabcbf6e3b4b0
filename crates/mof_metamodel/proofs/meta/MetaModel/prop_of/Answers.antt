use Rattle.std.proofs.Common.{◌≡◌, rules}
use Rattle.std.specs.Prelude.{chars}
use Rattle.std.specs.Option.{option_map}
use Rattle.mof_metamodel.specs.Metamodels.{prop_number}
use Rattle.mof_metamodel.proofs.MetaLaws.{prop_named}
use Rattle.mof_metamodel.proofs.meta.MetaModel.prop_of.Goals as goal

pub returns-clause-named : goal.returns-clause-named
returns-clause-named c =
    let number : option_map (λ p. p.0) c.map.result ≡ prop_number c.args.self.now c.args.c.0 (chars c.args.name.now) = search rules in
    prop_named c.args.self.now c.args.c.0 (chars c.args.name.now) c.map.result number
