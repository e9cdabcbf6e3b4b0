use Rattle.ocl_types.proofs.ReachLaws.{let_given}
use Rattle.ocl_types.proofs.typing_scopes.let_type.Goals as goal

pub returns-clause-given : goal.returns-clause-given
returns-clause-given c =
    let_given c.declared_type.result c.env.result.now c.args.scope.now c.args.name.now c.args.tree.now c.env.ensures c.in_ok-free_name.ensures.given c.declared_type.ensures
