use Rattle.std.proofs.Common.{◌∙◌, sym, arith, below_more, true≢false}
use Rattle.model_filling.specs.Filling.{IsFilledAt}
use Rattle.model_filling.proofs.CounterpartLaws.{objects_back, objects_between, property_there}
use Rattle.model_filling.proofs.FillLaws.{fills_nothing, fills_through}
use Rattle.model_filling.proofs.PropertyLaws.{by_description, prop_in, live_by_property, each_property, placed_property}
use Rattle.model_filling.proofs.filling.fill_object.Goals as goal

pub returns-then-not-is_live : goal.returns-then-not-is_live
returns-then-not-is_live g c =
    let wanted = g.C.Contents.held c.args.contents.now in
    let old = c.args.model.now in
    let o = c.args.o.0 in
    let back = objects_back old wanted c.requires.objects in
    record {
      fills = fills_nothing wanted old c.requires;
      filled = λ p q. absurd
          (true≢false (sym (c.is_live.ensures.1 (live_by_property old o p (property_there wanted old o p back q))) ∙ c.if-not-is_live.true));
    }

pub loop-p-init : goal.loop-p-init
loop-p-init g c =
    record {
      fills = fills_nothing (g.C.Contents.held c.args.contents.now) c.args.model.now c.requires;
      filled = λ k l. absurd (omega (arith, l));
    }

pub fill_property-requires-clause-part : goal.fill_property-requires-clause-part
fill_property-requires-clause-part g c = c.loop-p.invariant.fills.part

pub fill_property-requires-clause-property : goal.fill_property-requires-clause-property
fill_property-requires-clause-property g c =
    let wanted = g.C.Contents.held c.args.contents.now in
    let old = c.args.model.now in
    let now = c.loop-p.model in
    let o = c.args.o.0 in
    let props = c.props-p-items.result.now in
    property_there old now o (prop_in props c.loop-p.p-index) (objects_between old wanted now c.requires.objects c.loop-p.invariant.fills.part.objects)
    (placed_property old o c.class_of.result.0 c.loop-p.p-index props c.class_of.ensures.class
    (by_description _ _ c.class_of.result.0 c.props-p-items.result.now c.props-p-items.ensures.numbers c.meta.ensures) c.loop-p-test.true)

pub loop-p-preserved : goal.loop-p-preserved
loop-p-preserved g c =
    let wanted = g.C.Contents.held c.args.contents.now in
    let new = c.fill_property.new.model in
    let o = c.args.o.0 in
    let props = c.props-p-items.result.now in
    let fills = c.in_ok-fill_property.ensures.fills in
    record {
      fills = fills_through wanted c.args.model.now c.loop-p.model new c.loop-p.invariant.fills fills;
      filled = below_more (λ k. IsFilledAt wanted new o (prop_in props k)) c.loop-p.p-index
          (λ k l. fills.still o (prop_in props k) (c.loop-p.invariant.filled k l))
          c.in_ok-fill_property.ensures.filled;
    }

pub returns-clause-filled : goal.returns-clause-filled
returns-clause-filled g c =
    let wanted = g.C.Contents.held c.args.contents.now in
    let old = c.args.model.now in
    let o = c.args.o.0 in
    λ p q. each_property old o c.class_of.result.0 c.props-p-items.result.now (IsFilledAt wanted c.loop-p.model o) c.class_of.ensures.class
    (by_description _ _ c.class_of.result.0 c.props-p-items.result.now c.props-p-items.ensures.numbers c.meta.ensures)
    (λ k l. c.loop-p.invariant.filled k (omega arith)) p (property_there wanted old o p (objects_back old wanted c.requires.objects) q)
