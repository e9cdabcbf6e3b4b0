use Rattle.std.proofs.Common.{◌∙◌, ap, arith, length, below_more}
use Rattle.std.proofs.lemmas.List.{length-map}
use Rattle.mof_metamodel.specs.Metamodels.{props_of}
use Rattle.object_tables.proofs.ModelLemmas.{placed_seen}
use Rattle.object_tables.proofs.WholeLemmas.{kept_seen}
use Rattle.object_tables.proofs.ContainerLemmas.{place_of_property}
use Rattle.object_tables.proofs.BreachLemmas.{kept-before, keeps-all}
use Rattle.object_tables.proofs.model.Model.broken_bound_of.Goals as goal

pub overflow_cast-i : goal.overflow_cast-i
overflow_cast-i c =
    let s = placed_seen _ _ _ _ _ _ _ c.self.invariant.tied c.self.view_is c.class_of.ensures.class in
    let small = s.small in
    let same = ap length c.props-p-items.ensures.numbers in
    let len = length-map c.props-p-items.result.now (λ p. p.0) in
    omega arith

pub overflow_add-i : goal.overflow_add-i
overflow_add-i c =
    let s = placed_seen _ _ _ _ _ _ _ c.self.invariant.tied c.self.view_is c.class_of.ensures.class in
    let small = s.small in
    let same = ap length c.props-p-items.ensures.numbers in
    let len = length-map c.props-p-items.result.now (λ p. p.0) in
    omega arith

pub broken_bound_at-requires : goal.broken_bound_at-requires
broken_bound_at-requires c =
    place_of_property _ c.args.o.0 c.class_of.result.0 c.loop-i.i c.props-p-items.result.now (record { 0 = 0 }) (kept_seen _ _ _ _ _ c.self.invariant c.self.view_is) c.class_of.ensures.class c.class_of.ensures.within
    (c.props-p-items.ensures.numbers ∙ ap (λ m. props_of m.meta c.class_of.result.0) c.self.view_is) c.loop-i-test.true

pub returns-in-Some-clause-breach : goal.returns-in-Some-clause-breach
returns-in-Some-clause-breach c = (
  c.in-Some.ensures.broken,
  kept-before c.args.self.now c.args.o.0 c.class_of.result.0 c.loop-i.i c.props-p-items.result.now (record { 0 = 0 }) c.class_of.ensures.class
      (c.props-p-items.ensures.numbers ∙ ap (λ m. props_of m.meta c.class_of.result.0) c.self.view_is) c.loop-i-test.true c.loop-i.invariant c.requires.before,
)

pub loop-i-preserved : goal.loop-i-preserved
loop-i-preserved c = below_more _ _ c.loop-i.invariant c.in_default.ensures.none

pub returns-clause-none : goal.returns-clause-none
returns-clause-none c =
    keeps-all c.args.self.now c.args.o.0 c.class_of.result.0 c.props-p-items.result.now (record { 0 = 0 }) c.class_of.ensures.class
    (c.props-p-items.ensures.numbers ∙ ap (λ m. props_of m.meta c.class_of.result.0) c.self.view_is) (λ k l. c.loop-i.invariant k (omega arith))
