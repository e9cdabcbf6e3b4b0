use Rattle.std.specs.Prelude.{◌≡◌, All, OnOk}
use Rattle.std.proofs.Common.{sym, subst}
use Rattle.mof_metamodel.specs.declared.desc.MetaDesc.{MetaDesc}
use Rattle.object_tables.specs.Kept.{Kept}
use Rattle.candidate_laws.proofs.Keeping.{made_kept}
use Rattle.demand_conflicts.specs.NumberedDemands.{IsDemandOf}
use Rattle.enforce_mode.specs.Plans.{plan_demands}
use Rattle.enforce_mode.proofs.MadeLaws.{demands_known}
use Rattle.enforce_mode.proofs.making.fill_made.Goals as goal
use Rattle.enforce_mode.proofs.MadeLaws.{model_by}

pub new-requires : goal.new-requires
new-requires c =
    let p = c.args.plan.now in
    subst (λ (meta : MetaDesc). All (IsDemandOf meta) p.numbered.list.now) (sym c.meta.ensures)
    (demands_known p.program.now p.target.now p.numbered.table.now p.numbered.list.now p.numbered.terms.now p.numbers.now.objects.items
    p.numbers.now.images
    p.numbers.now.fresh c.requires.plan.placed c.requires.plan.numbered)

pub fill-requires-clause-kept : goal.fill-requires-clause-kept
fill-requires-clause-kept c =
    let p = c.args.plan.now in
    subst Kept
    (sym (model_by p c.requires.plan c.args.staying.now c.requires.staying c.in_ok-claims.claims c.as_slice.result.now c.meta.result.now
    c.as_slice-objects.result.now c.as_slice.ensures c.meta.ensures c.as_slice-objects.ensures.value c.in_ok-claims.ensures))
    (made_kept p.program.now p.target.now (plan_demands p) c.requires.plan.placed.placeable)

pub returns : goal.returns
returns c =
    let p = c.args.plan.now in
    subst (λ model. OnOk c.fill.result (c.fill.new.model ≡ model))
    (model_by p c.requires.plan c.args.staying.now c.requires.staying c.in_ok-claims.claims c.as_slice.result.now c.meta.result.now
    c.as_slice-objects.result.now c.as_slice.ensures c.meta.ensures c.as_slice-objects.ensures.value c.in_ok-claims.ensures)
    c.fill.ensures
