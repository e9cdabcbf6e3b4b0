use Rattle.std.proofs.Common.{◌∙◌, ap, sym, map}
use Rattle.mof_metamodel.specs.Metamodels.{opposite_of, prop_at}
use Rattle.object_tables.proofs.ModelLemmas.{placed_seen}
use Rattle.object_tables.proofs.ContainerLemmas.{place_known, place_within, place_partners, not_opposite, not_whole, no_partner, contained_by}
use Rattle.object_tables.proofs.WholeLemmas.{kept_seen}
use Rattle.object_tables.proofs.model.Model.container_at.Goals as goal

pub opposite-requires : goal.opposite-requires
opposite-requires c = place_known _ _ _ _ _ _ c.self.view_is c.requires

pub returns-in_err-p-clause-none : goal.returns-in_err-p-clause-none
returns-in_err-p-clause-none c =
    rw c.from_residual.ensures
    (λ a p e h. not_opposite _ p c.args.q.0 (kept_seen _ _ _ _ _ c.self.invariant c.self.view_is) (ap (λ m. opposite_of m.meta c.args.q.0) (sym c.self.view_is) ∙ sym c.in_err-p.ensures.number) e)

pub prop-requires : goal.prop-requires
prop-requires c = c.in_ok-p.ensures.within

pub returns-then-not-prop-clause-none : goal.returns-then-not-prop-clause-none
returns-then-not-prop-clause-none c = λ a p e h.
    not_whole _ c.args.o.0 c.args.q.0 a p c.in_ok-p.p.0 (kept_seen _ _ _ _ _ c.self.invariant c.self.view_is)
    (ap (λ m. opposite_of m.meta c.args.q.0) (sym c.self.view_is) ∙ sym c.in_ok-p.ensures.number)
    (ap (λ m. (prop_at m.meta c.in_ok-p.p.0).composite) (sym c.self.view_is) ∙ sym c.prop.ensures.composite ∙ c.if-not-prop.true) e h

pub joined-requires-clause-place : goal.joined-requires-clause-place
joined-requires-clause-place c = place_within _ _ _ _ _ _ _ _ c.self.invariant.tied c.self.view_is c.requires

pub returns-in_err-object-clause-none : goal.returns-in_err-object-clause-none
returns-in_err-object-clause-none c =
    rw c.from_residual-in_err-object.ensures
    (λ a p e h. no_partner _ c.args.o.0 c.args.q.0 a p (kept_seen _ _ _ _ _ c.self.invariant c.self.view_is)
    (place_partners _ _ _ _ _ _ c.self.view_is c.requires ∙ ap (map (λ x. x.0)) (sym c.joined.ensures ∙ c.in_err-object.ensures.steps.0)) e h)

pub returns-clause-contained : goal.returns-clause-contained
returns-clause-contained c =
    contained_by _ c.args.o.0 c.args.q.0 c.in_ok-object.object c.in_ok-p.p.0 (map (λ x. x.0) c.next.new.self) (kept_seen _ _ _ _ _ c.self.invariant c.self.view_is)
    (place_partners _ _ _ _ _ _ c.self.view_is c.requires ∙ ap (map (λ x. x.0)) (sym c.joined.ensures ∙ c.in_ok-object.ensures.steps))
    (ap (λ m. opposite_of m.meta c.args.q.0) (sym c.self.view_is) ∙ sym c.in_ok-p.ensures.number)
    (ap (λ m. (prop_at m.meta c.in_ok-p.p.0).composite) (sym c.self.view_is) ∙ sym c.prop.ensures.composite ∙ c.if-not-prop.false)

pub joined-requires-clause-object : goal.joined-requires-clause-object
joined-requires-clause-object c = (placed_seen _ _ _ _ _ _ _ c.self.invariant.tied c.self.view_is c.requires.class_is).object

pub returns-clause-none : goal.returns-clause-none
returns-clause-none c = tt

pub returns-in_err-p-clause-contained : goal.returns-in_err-p-clause-contained
returns-in_err-p-clause-contained c = rw c.from_residual.ensures tt

pub returns-in_err-object-clause-contained : goal.returns-in_err-object-clause-contained
returns-in_err-object-clause-contained c = rw c.from_residual-in_err-object.ensures tt
