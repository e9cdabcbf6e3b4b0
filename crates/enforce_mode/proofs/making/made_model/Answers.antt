use Rattle.std.specs.Prelude.{◌<◌, All}
use Rattle.std.proofs.Common.{◌∙◌, sym, subst, ℕ, Bool, List}
use Rattle.object_tables.specs.declared.limit.TheConstants.{MAX_OBJECTS}
use Rattle.object_tables.specs.Models.{ModelData, live_count}
use Rattle.candidate_laws.specs.Placing.{IsConcrete}
use Rattle.repair_semantics.specs.declared.term.Term.{out-Term}
use Rattle.term_table.specs.TermTables.{term_at}
use Rattle.model_filling.specs.Counterparts.{HasObjectsOf}
use Rattle.made_objects.specs.Making.{made_of}
use Rattle.enforce_mode.proofs.MadeLaws.{fresh_concrete, stays_by, stays_long, plan_claims, planned_by}
use Rattle.enforce_mode.proofs.making.made_model.Goals as goal

pub made_objects-requires-clause-staying : goal.made_objects-requires-clause-staying
made_objects-requires-clause-staying c =
    stays_long c.args.plan.now c.as_slice-2.result.now
    (c.as_slice-2.ensures ∙ stays_by c.args.plan.now c.as_slice.result.now c.in_ok-stays.stays c.in_ok-stays.ensures c.as_slice.ensures)

pub made_objects-requires-clause-concrete : goal.made_objects-requires-clause-concrete
made_objects-requires-clause-concrete c =
    let p = c.args.plan.now in
    subst (λ (ks : List ℕ). All (λ k. IsConcrete p.target.now.meta (out-Term (term_at p.numbered.table.now k)).class.0) ks)
    (sym c.as_slice-fresh.ensures)
    (fresh_concrete p.program.now p.target.now p.numbered.table.now p.numbered.list.now p.numbered.terms.now p.numbers.now.objects.items
    p.numbers.now.images
    p.numbers.now.fresh c.requires.placed c.requires.numbered)

pub returns-in_default-clause-against : goal.returns-in_default-clause-against
returns-in_default-clause-against c =
    let p = c.args.plan.now in
    let many = rw c.in_default.is at c.in_ok-made.ensures.many in
    subst (λ (model : ModelData). MAX_OBJECTS < live_count model)
    (planned_by p c.requires c.as_slice-2.result.now
    (c.as_slice-2.ensures ∙ stays_by p c.as_slice.result.now c.in_ok-stays.stays c.in_ok-stays.ensures c.as_slice.ensures) c.as_slice-fresh.result.now
    c.as_slice-fresh.ensures)
    (many p.program.now (plan_claims p))

pub fill_made-requires-clause-objects : goal.fill_made-requires-clause-objects
fill_made-requires-clause-objects c =
    let p = c.args.plan.now in
    let objects = rw c.in-Some.is at c.in_ok-made.ensures.objects in
    λ claims.
    subst (λ (ks : List ℕ). HasObjectsOf c.in-Some.made
    (made_of p.program.now p.target.now c.as_slice-3.result.now claims p.numbered.table.now ks))
    c.as_slice-fresh.ensures
    (subst (λ (stay : List Bool). HasObjectsOf c.in-Some.made
    (made_of p.program.now p.target.now stay claims p.numbered.table.now c.as_slice-fresh.result.now))
    (c.as_slice-2.ensures ∙ sym c.as_slice-3.ensures) (objects p.program.now claims))
