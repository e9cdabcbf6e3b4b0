use Rattle.std.proofs.Common.{ap, sym, ◌∙◌, ◌<◌, subst, rules}
use Rattle.mof_metamodel.specs.declared.desc.MetaDesc.{MetaDesc}
use Rattle.mof_metamodel.specs.Metamodels.{prop_count, prop_at, opposite_of}
use Rattle.object_tables.proofs.ConditionLemmas.{known_at, opposed-exactly, unopposed}
use Rattle.object_tables.proofs.model.Model.is_part_at.Goals as goal

pub opposite-requires : goal.opposite-requires
opposite-requires c = known_at c.args.self.now c.args.o.0 c.args.p.0 c.meta.result.now c.meta.ensures c.requires

pub prop-requires : goal.prop-requires
prop-requires c = subst (λ (d : MetaDesc). c.in-Some.q.0 < prop_count d) (c.meta.ensures ∙ sym c.meta-in-Some.ensures) c.in-Some.ensures.within

pub returns-in-Some : goal.returns-in-Some
returns-in-Some c =
    opposed-exactly c.args.self.now.meta c.args.p.0 c.in-Some.q.0 c.prop.result.now.composite
    (ap (λ (d : MetaDesc). opposite_of d c.args.p.0) (sym c.meta.ensures) ∙ sym c.in-Some.ensures.number)
    (c.prop.ensures.composite ∙ ap (λ (d : MetaDesc). (prop_at d c.in-Some.q.0).composite) c.meta-in-Some.ensures)

pub returns-in-None : goal.returns-in-None
returns-in-None c = (
  (λ no. absurd (search rules)),
  (λ h. absurd (unopposed c.args.self.now.meta c.args.p.0 (ap (λ (d : MetaDesc). opposite_of d c.args.p.0) (sym c.meta.ensures) ∙ sym c.in-None.ensures.number) h)),
)
