use Rattle.std.proofs.Common.{◌≡◌, ◌<◌, ◌∙◌, List, length, sym, subst}
use Rattle.std.proofs.lemmas.Option.{slice_get_within, same_Some}
use Rattle.qv_syntax.specs.declared.program.Rel.{Rel}
use Rattle.template_match.specs.Posed.{HasPrimitives}
use Rattle.relation_calls.proofs.AskingLaws.{visited, planned_at}
use Rattle.relation_calls.proofs.FrameLaws.{bindings_found}
use Rattle.relation_calls.proofs.stepping.called_bindings.Goals as goal

pub bounds-as_slice-call : goal.bounds-as_slice-call
bounds-as_slice-call c =
    let v = c.args.visit.now in
    let a = c.requires.askable in
    subst (λ (rs : List Rel). c.args.call.now.name.rel < length rs) (sym c.as_slice.ensures) (slice_get_within v.program.now.rels c.args.call.now.name.rel a.rel a.found)

pub enough_bindings-requires-clause-visit : goal.enough_bindings-requires-clause-visit
enough_bindings-requires-clause-visit c =
    let v = c.args.visit.now in
    let a = c.requires.askable in
    let number = c.args.call.now.name.rel in
    let rel = c.index-as_slice-call.result in
    let is = visited v.program.now number a.rel rel c.as_slice.result.now c.as_slice.ensures a.found c.index-as_slice-call.is in
    record { formed = c.requires.visit.formed; planned = planned_at v.program.now number rel c.args.plan.now c.requires.planned is; chain = c.requires.chain }

pub enough_bindings-requires-clause-places : goal.enough_bindings-requires-clause-places
enough_bindings-requires-clause-places c =
    let v = c.args.visit.now in
    let a = c.requires.askable in
    let number = c.args.call.now.name.rel in
    let rel = c.index-as_slice-call.result in
    let is = visited v.program.now number a.rel rel c.as_slice.result.now c.as_slice.ensures a.found c.index-as_slice-call.is in
    subst (λ (r : Rel). length c.args.call.now.name.roots.values ≡ length r.vars) (same_Some a.rel rel (sym a.found ∙ is)) a.places

pub enough_bindings-requires-clause-primitives : goal.enough_bindings-requires-clause-primitives
enough_bindings-requires-clause-primitives c =
    let v = c.args.visit.now in
    let a = c.requires.askable in
    let number = c.args.call.now.name.rel in
    let rel = c.index-as_slice-call.result in
    let is = visited v.program.now number a.rel rel c.as_slice.result.now c.as_slice.ensures a.found c.index-as_slice-call.is in
    subst (λ (r : Rel). HasPrimitives r c.args.call.now.name.roots.values) (same_Some a.rel rel (sym a.found ∙ is)) a.primitives

pub returns-clause-found : goal.returns-clause-found
returns-clause-found c =
    let v = c.args.visit.now in
    let a = c.requires.askable in
    let number = c.args.call.now.name.rel in
    let rel = c.index-as_slice-call.result in
    let is = visited v.program.now number a.rel rel c.as_slice.result.now c.as_slice.ensures a.found c.index-as_slice-call.is in
    bindings_found v.program.now v.models.now number c.args.call.now.name.roots.values rel is c.enough_bindings.result c.enough_bindings.ensures.enough c.enough_bindings.ensures.sorted
