use Rattle.std.proofs.Common.{arith}
use Rattle.std.proofs.lemmas.Grind.{common_steps}
use Rattle.mof_metamodel.proofs.named.Named.new.Goals as goal

pub returns-in-Err : goal.returns-in-Err
returns-in-Err c = grind (arith, common_steps)

pub returns-in-Err-enum_names : goal.returns-in-Err-enum_names
returns-in-Err-enum_names c = grind (arith, common_steps)

pub returns-in-Err-own_names : goal.returns-in-Err-own_names
returns-in-Err-own_names c = grind (arith, common_steps)

pub returns-in-Err-literal_names : goal.returns-in-Err-literal_names
returns-in-Err-literal_names c = grind (arith, common_steps)

pub returns-in-Err-first_numbers : goal.returns-in-Err-first_numbers
returns-in-Err-first_numbers c = grind (arith, common_steps)

pub returns-in-Err-prop_places : goal.returns-in-Err-prop_places
returns-in-Err-prop_places c = grind (arith, common_steps)

pub returns : goal.returns
returns c = grind (arith, common_steps)
