use Rattle.std.proofs.Common.{List, subst, sym, refl, get_or, length, ◌≡◌}
use Rattle.std.proofs.lemmas.Option.{slice_get_read}
use Rattle.qv_syntax.specs.declared.program.Rel.{Rel}
use Rattle.template_match.specs.Plans.{IsPlanOf}
use Rattle.repair_cases.proofs.binding_comparisons.compare_numbered.Goals as goal

pub compare_relation-requires-clause-planned : goal.compare_relation-requires-clause-planned
compare_relation-requires-clause-planned c =
    let program = c.args.trial.now.account.program.now in
    let rel = c.index-as_slice-number.result in
    let here = subst (λ (rs : List Rel). rel ≡ get_or rs c.args.number rel) c.as_slice.ensures c.index-as_slice-number.is in
    let is = slice_get_read program.rels (length program.rels) c.args.number rel refl c.requires.within here in
    let plan = c.in_ok-plan.ensures rel is in
    subst (λ n. IsPlanOf program n rel c.in_ok-plan.plan) (sym plan.number_is) plan
