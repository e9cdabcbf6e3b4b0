use Rattle.std.proofs.Common.{arith}
use Rattle.ocl_environments.proofs.QueryCallLemmas.{cycle_behind, cycle_within, cycle_told}
use Rattle.ocl_environments.proofs.query_cycles.cycle_fault.Goals as goal

pub overflow_sub-place : goal.overflow_sub-place
overflow_sub-place c = cycle_behind c.args.before c.args.queries.now c.args.u c.requires

pub query_name-requires : goal.query_name-requires
query_name-requires c =
    let behind = cycle_behind c.args.before c.args.queries.now c.args.u c.requires in
    let within = cycle_within c.args.before c.args.queries.now c.args.u c.requires in
    omega (arith, behind, within)

pub returns : goal.returns
returns c = cycle_told c.args.before c.args.queries.now c.args.u c.in_ok-name.name c.requires c.in_ok-name.ensures
