use Rattle.std.proofs.Common.{◌≡◌, ◌<◌, ◌++◌, subst}
use Rattle.mof_metamodel.specs.declared.desc.MetaDesc.{MetaDesc}
use Rattle.mof_metamodel.specs.Metamodels.{class_count, props_of, inherited_props, own_props}
use Rattle.mof_metamodel.proofs.MetaLaws.{has_exactly}
use Rattle.mof_metamodel.proofs.ClassOrderLemmas.{class_order}
use Rattle.mof_metamodel.proofs.meta.MetaModel.props.Goals as goal

pub returns-clause-order : goal.returns-clause-order
returns-clause-order c =
    let class = c.args.c.0 in
    let P : MetaDesc → Type 0 = λ desc. class < class_count desc → props_of desc class ≡ inherited_props desc class ++ own_props desc class in
    subst P c.self.view_is (class_order c.self.inside.ordered c.self.invariant.grounded class) c.requires

pub returns-clause-inherited : goal.returns-clause-inherited
returns-clause-inherited c = has_exactly c.args.self.now c.args.c.0 c.requires
