use Rattle.std.proofs.Common.{sym}
use Rattle.template_match.specs.Prepared.{problem_in}
use Rattle.template_match.specs.Search.{usable_conjunct, conjuncts_in}
use Rattle.template_match.proofs.ListLaws.{find_some, find_none}
use Rattle.template_match.proofs.branching.next_branch.Goals as goal

pub said_branch-requires-clause-conjunct : goal.said_branch-requires-clause-conjunct
said_branch-requires-clause-conjunct c =
    let p = problem_in c.args.prepared.now in
    (find_some (usable_conjunct p c.args.binding.now.values) (conjuncts_in p) c.in-Some.conjunct.now (sym c.in-Some.ensures)).0

pub said_branch-requires-clause-usable : goal.said_branch-requires-clause-usable
said_branch-requires-clause-usable c =
    let p = problem_in c.args.prepared.now in
    (find_some (usable_conjunct p c.args.binding.now.values) (conjuncts_in p) c.in-Some.conjunct.now (sym c.in-Some.ensures)).1

pub branch_without_conjunct-requires-clause-conjuncts : goal.branch_without_conjunct-requires-clause-conjuncts
branch_without_conjunct-requires-clause-conjuncts c k within =
    let p = problem_in c.args.prepared.now in
    find_none (usable_conjunct p c.args.binding.now.values) (conjuncts_in p) k (sym c.in-None.ensures) within
