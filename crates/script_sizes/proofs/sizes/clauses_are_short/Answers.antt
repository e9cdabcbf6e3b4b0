use Rattle.script_sizes.proofs.ProgramSizes.{short_clause, few_conjuncts}
use Rattle.script_sizes.proofs.sizes.clauses_are_short.Goals as goal

pub returns-clause-short : goal.returns-clause-short
returns-clause-short c = short_clause

pub returns-clause-few : goal.returns-clause-few
returns-clause-few c = few_conjuncts
