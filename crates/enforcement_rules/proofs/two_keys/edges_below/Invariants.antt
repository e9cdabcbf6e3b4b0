use Rattle.enforcement_rules.specs.TwoKeys.{AreBelowEdges}
use Rattle.enforcement_rules.proofs.two_keys.edges_below.Given as goal

abbrev pub invariant-loop-c : goal.invariant-loop-c
invariant-loop-c l = AreBelowEdges l.meta l.c l.edges
