use Rattle.std.proofs.Common.{◌≡◌, ◌<◌, ◌-◌, ◌∙◌, List, length, sym, ap, subst}
use Rattle.std.proofs.lemmas.Option.{slice_get_within, same_Some}
use Rattle.std.proofs.lemmas.Result.{err_from_is_err_and}
use Rattle.qv_syntax.specs.declared.program.Rel.{Rel}
use Rattle.qvtr_semantics.specs.declared.limits.TheConstants.{MAX_CALLS}
use Rattle.template_match.specs.Posed.{HasPrimitives}
use Rattle.template_match.specs.Search.{values_of}
use Rattle.relation_calls.specs.Faults.{IsFault}
use Rattle.relation_calls.specs.Names.{call_named, chain_named}
use Rattle.relation_calls.specs.Seen.{Seen}
use Rattle.relation_calls.proofs.AskingLaws.{planned_at, clean_call, fault_call, visited, found_all}
use Rattle.relation_calls.proofs.HeldLaws.{all_linked}
use Rattle.relation_calls.proofs.JoinLaws.{enough_in}
use Rattle.relation_calls.proofs.VisitLaws.{ends_with, source_binding}
use Rattle.relation_calls.proofs.asking.explore.Goals as goal

pub plan_of-requires : goal.plan_of-requires
plan_of-requires c = slice_get_within c.args.program.now.rels c.args.name.now.rel c.requires.askable.rel c.requires.askable.found

pub bounds-as_slice-name : goal.bounds-as_slice-name
bounds-as_slice-name c =
    let a = c.requires.askable in
    subst (λ (rs : List Rel). c.args.name.now.rel < length rs) (sym c.as_slice.ensures) (slice_get_within c.args.program.now.rels c.args.name.now.rel a.rel a.found)

pub enough_bindings-requires-clause-visit : goal.enough_bindings-requires-clause-visit
enough_bindings-requires-clause-visit c =
    let a = c.requires.askable in
    let rel = c.index-as_slice-name.result in
    let is = visited c.args.program.now c.args.name.now.rel a.rel rel c.as_slice.result.now c.as_slice.ensures a.found c.index-as_slice-name.is in
    record { formed = c.requires.formed; planned = planned_at c.args.program.now c.args.name.now.rel rel c.in_ok-plan.plan c.in_ok-plan.ensures is; chain = c.requires.chain }

pub outcomes_of-requires-clause-visit : goal.outcomes_of-requires-clause-visit
outcomes_of-requires-clause-visit c =
    let a = c.requires.askable in
    let rel = c.index-as_slice-name.result in
    let is = visited c.args.program.now c.args.name.now.rel a.rel rel c.as_slice.result.now c.as_slice.ensures a.found c.index-as_slice-name.is in
    record { formed = c.requires.formed; planned = planned_at c.args.program.now c.args.name.now.rel rel c.in_ok-plan.plan c.in_ok-plan.ensures is; chain = c.requires.chain }

pub enough_bindings-requires-clause-places : goal.enough_bindings-requires-clause-places
enough_bindings-requires-clause-places c =
    let a = c.requires.askable in
    let rel = c.index-as_slice-name.result in
    let is = visited c.args.program.now c.args.name.now.rel a.rel rel c.as_slice.result.now c.as_slice.ensures a.found c.index-as_slice-name.is in
    subst (λ (r : Rel). length c.args.name.now.roots.values ≡ length r.vars) (same_Some a.rel rel (sym a.found ∙ is)) a.places

pub enough_bindings-requires-clause-primitives : goal.enough_bindings-requires-clause-primitives
enough_bindings-requires-clause-primitives c =
    let a = c.requires.askable in
    let rel = c.index-as_slice-name.result in
    let is = visited c.args.program.now c.args.name.now.rel a.rel rel c.as_slice.result.now c.as_slice.ensures a.found c.index-as_slice-name.is in
    subst (λ (r : Rel). HasPrimitives r c.args.name.now.roots.values) (same_Some a.rel rel (sym a.found ∙ is)) a.primitives

pub outcomes_of-requires-clause-sources : goal.outcomes_of-requires-clause-sources
outcomes_of-requires-clause-sources c =
    let a = c.requires.askable in
    let rel = c.index-as_slice-name.result in
    let is = visited c.args.program.now c.args.name.now.rel a.rel rel c.as_slice.result.now c.as_slice.ensures a.found c.index-as_slice-name.is in
    let enough = enough_in c.args.program.now c.args.models.now rel c.args.name.now.roots.values (values_of c.in_ok-bindings.bindings) (values_of c.as_slice-2.result.now)
    (ap values_of c.as_slice-2.ensures) c.in_ok-bindings.ensures.enough in
    λ b has. source_binding c.args.program.now c.args.models.now rel c.args.name.now.roots.values b (enough.only b has)

pub outcomes_of-requires-clause-linked : goal.outcomes_of-requires-clause-linked
outcomes_of-requires-clause-linked c =
    let a = c.requires.askable in
    let rel = c.index-as_slice-name.result in
    let is = visited c.args.program.now c.args.name.now.rel a.rel rel c.as_slice.result.now c.as_slice.ensures a.found c.index-as_slice-name.is in
    let enough = enough_in c.args.program.now c.args.models.now rel c.args.name.now.roots.values (values_of c.in_ok-bindings.bindings) (values_of c.as_slice-2.result.now)
    (ap values_of c.as_slice-2.ensures) c.in_ok-bindings.ensures.enough in
    all_linked c.args.program.now c.args.models.now (chain_named c.args.upto.now) rel (call_named c.args.name.now) (values_of c.as_slice-2.result.now) is enough.only c.requires.linked

pub returns-in_err-outcomes-clause-fault : goal.returns-in_err-outcomes-clause-fault
returns-in_err-outcomes-clause-fault c =
    let a = c.requires.askable in
    let rel = c.index-as_slice-name.result in
    let is = visited c.args.program.now c.args.name.now.rel a.rel rel c.as_slice.result.now c.as_slice.ensures a.found c.index-as_slice-name.is in
    let enough = enough_in c.args.program.now c.args.models.now rel c.args.name.now.roots.values (values_of c.in_ok-bindings.bindings) (values_of c.as_slice-2.result.now)
    (ap values_of c.as_slice-2.ensures) c.in_ok-bindings.ensures.enough in
    let e = c.in_err-outcomes.field-0.0 in
    let p = err_from_is_err_and c.from_residual-in_err-outcomes.result c.from_residual-in_err-outcomes.ensures.1 in
    ends_with (IsFault (Seen c.args.program.now c.args.models.now (chain_named c.args.upto.now) (call_named c.args.name.now))) c.from_residual-in_err-outcomes.result e p.0 p.1 (cc p.2)
    (fault_call c.args.program.now c.args.models.now (chain_named c.args.upto.now) rel (call_named c.args.name.now) (values_of c.as_slice-2.result.now) is enough e c.in_err-outcomes.ensures.fault)

pub returns-clause-clean : goal.returns-clause-clean
returns-clause-clean c =
    let a = c.requires.askable in
    let rel = c.index-as_slice-name.result in
    let is = visited c.args.program.now c.args.name.now.rel a.rel rel c.as_slice.result.now c.as_slice.ensures a.found c.index-as_slice-name.is in
    let enough = enough_in c.args.program.now c.args.models.now rel c.args.name.now.roots.values (values_of c.in_ok-bindings.bindings) (values_of c.as_slice-2.result.now)
    (ap values_of c.as_slice-2.ensures) c.in_ok-bindings.ensures.enough in
    clean_call c.args.program.now c.args.models.now (chain_named c.args.upto.now) rel (call_named c.args.name.now) (values_of c.as_slice-2.result.now) is enough c.in_ok-outcomes.ensures.clean

pub returns-clause-value : goal.returns-clause-value
returns-clause-value c =
    let a = c.requires.askable in
    let rel = c.index-as_slice-name.result in
    let is = visited c.args.program.now c.args.name.now.rel a.rel rel c.as_slice.result.now c.as_slice.ensures a.found c.index-as_slice-name.is in
    λ r there.
    found_all c.args.program.now c.args.models.now (MAX_CALLS - length (chain_named c.args.upto.now)) rel r (same_Some rel r (sym is ∙ there)) c.args.name.now.roots.values c.in_ok-bindings.bindings
    c.as_slice-2.result.now c.as_slice-2.ensures c.in_ok-outcomes.outcomes c.in_ok-bindings.ensures.enough c.in_ok-bindings.ensures.sorted c.in_ok-outcomes.ensures.value
