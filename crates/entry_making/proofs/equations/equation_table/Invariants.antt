use Rattle.std.proofs.Common.{◌≡◌, None, length, map, drop, replicate}
use Rattle.std.specs.Option.{option_map}
use Rattle.entry_making.specs.Equations.{shown_equation, with_conjuncts}
use Rattle.entry_making.proofs.equations.equation_table.Given as goal

abbrev pub invariant-loop-conjunct : goal.invariant-loop-conjunct
invariant-loop-conjunct l = with_conjuncts (map (option_map shown_equation) l.table.items) (drop l.conjunct-index l.rel.wheres) ≡ with_conjuncts (replicate (length l.rel.vars) None) l.rel.wheres
