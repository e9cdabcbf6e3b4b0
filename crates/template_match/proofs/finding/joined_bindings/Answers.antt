use Rattle.std.proofs.Common.{◌≡◌, ◌∙◌, ℕ, List, sym, ap, subst, length}
use Rattle.std.specs.Prelude.{◌↔◌, slice_index_or, Contains, AllPairs}
use Rattle.std.proofs.lemmas.Option.{get_or_from_slice_get}
use Rattle.std.proofs.lemmas.Result.{IfOk-weaker}
use Rattle.qv_syntax.specs.declared.program.Rel.{Rel}
use Rattle.qvtr_semantics.specs.Bindings.{Source}
use Rattle.qvtr_semantics.specs.Satisfaction.{IsLess}
use Rattle.template_match.specs.declared.side.Side.TheVariants as sides
use Rattle.template_match.specs.declared.link.Link.{Link}
use Rattle.template_match.specs.Joins.{AreJoined}
use Rattle.template_match.specs.Posed.{IsPosed, IsSought}
use Rattle.template_match.specs.Search.{values_of}
use Rattle.template_match.proofs.PublicLaws.{posing, one_relation, source_posed, source_is}
use Rattle.template_match.proofs.finding.joined_bindings.Goals as goal

pub all_found-requires-clause-posed : goal.all_found-requires-clause-posed
all_found-requires-clause-posed c =
    let planned = c.requires.planned in
    let plan = c.args.plan.now in
    let rel = c.index-as_slice-plan.result in
    let here : rel ≡ planned.0 = c.index-as_slice-plan.is ∙ ap (λ rels. slice_index_or rels plan.rel rel) c.as_slice.ensures ∙ get_or_from_slice_get c.args.program.now.rels plan.rel planned.0 rel planned.1.found in
    subst (λ (vs : List ℕ). IsPosed (posing sides.Source c.args.program.now c.args.models.now rel c.as_slice-2.result.now vs c.args.joins.now) c.args.fixed.now.values) (sym (c.as_slice-3.ensures))
    (subst (λ (ls : List Link). IsPosed (posing sides.Source c.args.program.now c.args.models.now rel ls (rel.universal) c.args.joins.now) c.args.fixed.now.values) (sym c.as_slice-2.ensures)
    (subst (λ (r : Rel). IsPosed (posing sides.Source c.args.program.now c.args.models.now r plan.source (r.universal) c.args.joins.now) c.args.fixed.now.values) (sym here)
    (source_posed c.args.program.now c.args.models.now plan.rel planned.0 plan c.args.joins.now c.args.fixed.now.values c.requires.meant planned.1 planned.3)))

pub all_found-requires-clause-places : goal.all_found-requires-clause-places
all_found-requires-clause-places c =
    let planned = c.requires.planned in
    let plan = c.args.plan.now in
    let rel = c.index-as_slice-plan.result in
    let here : rel ≡ planned.0 = c.index-as_slice-plan.is ∙ ap (λ rels. slice_index_or rels plan.rel rel) c.as_slice.ensures ∙ get_or_from_slice_get c.args.program.now.rels plan.rel planned.0 rel planned.1.found in
    planned.2 ∙ ap (λ (r : Rel). length r.vars) (sym here)

pub returns-clause-exact : goal.returns-clause-exact
returns-clause-exact c =
    let planned = c.requires.planned in
    let plan = c.args.plan.now in
    let rel = c.index-as_slice-plan.result in
    let here : rel ≡ planned.0 = c.index-as_slice-plan.is ∙ ap (λ rels. slice_index_or rels plan.rel rel) c.as_slice.ensures ∙ get_or_from_slice_get c.args.program.now.rels plan.rel planned.0 rel planned.1.found in
    IfOk-weaker c.all_found.result _ _
    (λ bs h of p b.
    let same : rel ≡ of = here ∙ one_relation c.args.program.now plan.rel planned.0 of plan planned.1 p in
    let met = source_is c.args.program.now c.args.models.now rel c.as_slice-2.result.now c.args.joins.now c.args.fixed.now.values b in
    let back = subst (λ (vs : List ℕ). IsSought (posing sides.Source c.args.program.now c.args.models.now rel c.as_slice-2.result.now vs c.args.joins.now) c.args.fixed.now.values b) (c.as_slice-3.ensures) in
    let forth = subst (λ (vs : List ℕ). IsSought (posing sides.Source c.args.program.now c.args.models.now rel c.as_slice-2.result.now vs c.args.joins.now) c.args.fixed.now.values b) (sym (c.as_slice-3.ensures)) in
    subst (λ (r : Rel). Contains (values_of bs) b ↔ (Source c.args.program.now c.args.models.now r c.args.fixed.now.values b × AreJoined c.args.joins.now b)) same
    (λ k. met.0 (back ((h b).0 k)), λ k. (h b).1 (forth (met.1 k))))
    c.all_found.ensures.exact

pub returns-clause-sorted : goal.returns-clause-sorted
returns-clause-sorted c =
    let planned = c.requires.planned in
    let plan = c.args.plan.now in
    let rel = c.index-as_slice-plan.result in
    let here : rel ≡ planned.0 = c.index-as_slice-plan.is ∙ ap (λ rels. slice_index_or rels plan.rel rel) c.as_slice.ensures ∙ get_or_from_slice_get c.args.program.now.rels plan.rel planned.0 rel planned.1.found in
    IfOk-weaker c.all_found.result _ _
    (λ bs h of p.
    let sorted = subst (λ (vs : List ℕ). AllPairs (IsLess vs) (values_of bs)) (c.as_slice-3.ensures) h in
    subst (λ (r : Rel). AllPairs (IsLess (r.universal)) (values_of bs)) (here ∙ one_relation c.args.program.now plan.rel planned.0 of plan planned.1 p) sorted)
    c.all_found.ensures.sorted
