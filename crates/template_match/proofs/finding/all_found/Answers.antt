use Rattle.template_match.specs.Tasks.{problem_of}
use Rattle.template_match.proofs.BindingLaws.{all_exact, all_sorted}
use Rattle.template_match.proofs.finding.all_found.Goals as goal

pub returns-clause-exact : goal.returns-clause-exact
returns-clause-exact c = all_exact (problem_of c.args.task.now) c.args.roots.now.values c.in_ok-found.found c.each_once.result c.in_ok-found.ensures c.each_once.ensures

pub returns-clause-sorted : goal.returns-clause-sorted
returns-clause-sorted c = all_sorted (problem_of c.args.task.now) c.args.roots.now.values c.in_ok-found.found c.each_once.result c.in_ok-found.ensures c.each_once.ensures
