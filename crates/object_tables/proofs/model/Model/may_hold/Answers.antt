use Rattle.std.proofs.Common.{rules, true≢false, sym, subst, ◌∙◌}
use Rattle.mof_metamodel.specs.declared.desc.MetaDesc.{MetaDesc}
use Rattle.mof_metamodel.specs.Metamodels.{IsTypeOf}
use Rattle.object_tables.proofs.ConditionLemmas.{slot-exactly, slot_untyped}
use Rattle.object_tables.proofs.model.Model.may_hold.Goals as goal

pub returns-then-not-are_of_type : goal.returns-then-not-are_of_type
returns-then-not-are_of_type c = (
  (λ no. absurd (search rules)),
  (λ slot. absurd (true≢false (sym (c.are_of_type.ensures.1 (slot_untyped c.args.self.now c.meta.result.now c.args.p.0 c.args.values.now c.type_at.result c.meta.ensures c.type_at.ensures.type_is slot)) ∙ c.if-not-are_of_type.true))),
)

pub returns : goal.returns
returns c =
    slot-exactly c.args.self.now c.meta.result.now c.args.p.0 c.args.values.now c.type_at.result c.are_distinct.result c.meta.ensures c.type_at.ensures.type_is
    (c.are_of_type.ensures.0 c.if-not-are_of_type.false) c.are_distinct.ensures

pub are_of_type-requires : goal.are_of_type-requires
are_of_type-requires c = subst (λ (d : MetaDesc). IsTypeOf d c.type_at.result) (sym c.meta.ensures) c.type_at.ensures.within
