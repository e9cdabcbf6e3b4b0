use Rattle.std.proofs.Common.{◌∙◌, ap}
use Rattle.std.specs.Prelude.{chars, position}
use Rattle.mof_metamodel.specs.Characters.{same_name}
use Rattle.mof_metamodel.proofs.NameIndexLemmas.{ordered_lookup, position_within}
use Rattle.mof_metamodel.proofs.name_index.NameIndex.place.Goals as goal

pub returns-clause-number : goal.returns-clause-number
returns-clause-number c =
    c.copied.ensures ∙ c.get.ensures.value ∙ ordered_lookup c.args.name.now c.self.inside.places.entries c.utf8.name
    ∙ c.self.invariant.found (chars c.args.name.now) ∙ ap (position (same_name (chars c.args.name.now))) c.self.view_is

pub returns-clause-within : goal.returns-clause-within
returns-clause-within c = position_within (same_name (chars c.args.name.now)) c.args.self.now c.copied.result (returns-clause-number c)
