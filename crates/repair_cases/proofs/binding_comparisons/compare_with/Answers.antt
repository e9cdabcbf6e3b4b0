use Rattle.std.proofs.Common.{subst}
use Rattle.std.specs.Prelude.{All}
use Rattle.std.proofs.lemmas.List.Elements.{All-contains}
use Rattle.repair_cases.specs.Roots.{IsGiven}
use Rattle.repair_cases.proofs.binding_comparisons.compare_with.Goals as goal

pub bindings-requires-clause-planned : goal.bindings-requires-clause-planned
bindings-requires-clause-planned c =
    let rel = c.args.of.now.rel.now in
    let given = IsGiven c.args.fixed.now.values in
    let all = subst (All given) c.as_slice.ensures (c.are_given.ensures c.if-not-are_given.false) in
    (rel, c.requires.planned, c.has_places.ensures c.if-not-has_places.false, λ dom called member. All-contains given rel.domains dom all member)
