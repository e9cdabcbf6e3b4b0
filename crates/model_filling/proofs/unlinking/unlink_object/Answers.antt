use Rattle.std.proofs.Common.{◌≡◌, ◌∙◌, [], arith, below_more, true≢false, sym}
use Rattle.object_tables.specs.Models.{partners_at}
use Rattle.model_filling.proofs.PropertyLaws.{by_description, prop_in, property_of_reference, live_by_property, each_property}
use Rattle.model_filling.proofs.UnlinkLaws.{loses_nothing, loses_through, still_none}
use Rattle.model_filling.proofs.unlinking.unlink_object.Goals as goal

pub returns-then-not-is_live : goal.returns-then-not-is_live
returns-then-not-is_live c =
    let old = c.args.model.now in
    let o = c.args.o.0 in
    record {
      loses = loses_nothing old c.requires;
      none = λ p r. absurd
          (true≢false (sym (c.is_live.ensures.1 (live_by_property old o p (property_of_reference old o p r))) ∙ c.if-not-is_live.true));
    }

pub loop-p-init : goal.loop-p-init
loop-p-init c = record { loses = loses_nothing c.args.model.now c.requires; none = λ k l. absurd (omega (arith, l)) }

pub unlink_property-requires : goal.unlink_property-requires
unlink_property-requires c = c.loop-p.invariant.loses.kept

pub loop-p-preserved : goal.loop-p-preserved
loop-p-preserved c =
    let o = c.args.o.0 in
    let now = c.loop-p.model in
    let new = c.unlink_property.new.model in
    let props = c.props-p-items.result.now in
    record {
      loses = loses_through c.args.model.now now new c.loop-p.invariant.loses c.unlink_property.ensures.loses;
      none = below_more (λ k. partners_at new o (prop_in props k) ≡ []) c.loop-p.p-index
          (λ k l. still_none now new o (prop_in props k) c.unlink_property.ensures.loses (c.loop-p.invariant.none k l))
          c.unlink_property.ensures.none;
    }

pub returns-clause-none : goal.returns-clause-none
returns-clause-none c =
    let old = c.args.model.now in
    let o = c.args.o.0 in
    λ p r. each_property old o c.class_of.result.0 c.props-p-items.result.now (λ q. partners_at c.loop-p.model o q ≡ []) c.class_of.ensures.class
    (by_description _ _ c.class_of.result.0 c.props-p-items.result.now c.props-p-items.ensures.numbers c.meta.ensures)
    (λ k l. c.loop-p.invariant.none k (omega arith)) p (property_of_reference old o p r)
