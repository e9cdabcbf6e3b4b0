use Rattle.example_program.proofs.Main.{main_is_storable, few_variables, few_conjuncts}
use Rattle.example_program.proofs.laws.main_program_is_small.Goals as goal

pub returns-clause-texts : goal.returns-clause-texts
returns-clause-texts c = main_is_storable

pub returns-clause-vars : goal.returns-clause-vars
returns-clause-vars c = few_variables

pub returns-clause-wheres : goal.returns-clause-wheres
returns-clause-wheres c = few_conjuncts
