use Rattle.std.proofs.Common.{◌∙◌, ap, sym, subst, List, ℕ}
use Rattle.mof_metamodel.specs.Metamodels.{united}
use Rattle.mof_metamodel.specs.Tables.{IsWalk, class_numbers}
use Rattle.mof_metamodel.proofs.WalkLemmas.{walk_begun, starts_within}
use Rattle.mof_metamodel.proofs.reached.reached.Goals as goal

pub walk-requires-clause-begun : goal.walk-requires-clause-begun
walk-requires-clause-begun c =
    let P : List ℕ → Type 0 = λ met. IsWalk c.args.hierarchy.now (class_numbers c.args.starts.now) 0 met in
    let met = c.in-Ok-meet.ensures.met ∙ ap (λ xs. united xs (class_numbers c.args.starts.now)) c.new-met.ensures in
    subst P (sym met) (walk_begun c.args.hierarchy.now (class_numbers c.args.starts.now) (starts_within c.args.hierarchy.now c.args.starts.now c.requires))
