use Rattle.std.proofs.Common.{subst}
use Rattle.std.specs.Prelude.{All}
use Rattle.std.proofs.lemmas.List.Elements.{All-contains}
use Rattle.template_match.specs.Posed.{HasValue}
use Rattle.repair_cases.proofs.binding_comparisons.compare_target.Goals as goal

pub target_bindings-requires-clause-planned : goal.target_bindings-requires-clause-planned
target_bindings-requires-clause-planned c =
    let rel = c.args.of.now.rel.now in
    let has = HasValue c.args.binding.now.values in
    let all = subst (All has) c.as_slice.ensures (c.have_values.ensures c.if-not-have_values.false) in
    (rel, c.requires.planned, c.has_places.ensures c.if-not-has_places.false, λ v member. All-contains has rel.universal v all member)
