use Rattle.mof_metamodel.specs.Tables.{AreHolders}
use Rattle.mof_metamodel.proofs.prop_names.all_holders.Given as goal

-- the properties of the classes so far were added
abbrev pub invariant-loop-c : goal.invariant-loop-c
invariant-loop-c l = AreHolders l.ordered l.c l.holders.items
