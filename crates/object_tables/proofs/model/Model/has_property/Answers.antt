use Rattle.std.proofs.Common.{ap, ◌∙◌}
use Rattle.std.specs.Prelude.{position, nat_eq}
use Rattle.mof_metamodel.specs.declared.desc.MetaDesc.{MetaDesc}
use Rattle.mof_metamodel.specs.Metamodels.{props_of}
use Rattle.object_tables.proofs.ConditionLemmas.{told, property-exactly}
use Rattle.object_tables.proofs.model.Model.has_property.Goals as goal

pub returns : goal.returns
returns c =
    told c.is_some.result _ c.is_some.ensures
    (property-exactly c.args.self.now c.args.o.0 c.args.p.0 c.class_of.result.0 c.place_of.result c.class_of.ensures.class
    (c.place_of.ensures ∙ ap (λ (d : MetaDesc). position (nat_eq c.args.p.0) (props_of d c.class_of.result.0)) c.meta.ensures))
