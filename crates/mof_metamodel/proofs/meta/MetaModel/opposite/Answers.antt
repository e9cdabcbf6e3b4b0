use Rattle.mof_metamodel.proofs.MetaLaws.{opposite_pair, opposite_container}
use Rattle.mof_metamodel.proofs.meta.MetaModel.opposite.Goals as goal

pub returns-clause-pair : goal.returns-clause-pair
returns-clause-pair c = opposite_pair c.args.self.now c.resolved.ensures.well c.args.p.0 c.requires c.resolved.result.now.opposite c.resolved.ensures.prop.opposite

pub returns-clause-container : goal.returns-clause-container
returns-clause-container c =
    opposite_container c.args.self.now c.resolved.ensures.well c.args.p.0 c.requires c.resolved.result.now.opposite c.resolved.ensures.prop.opposite
