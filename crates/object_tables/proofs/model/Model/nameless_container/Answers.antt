use Rattle.std.proofs.Common.{◌∙◌, ap, sym}
use Rattle.mof_metamodel.specs.Metamodels.{props_of}
use Rattle.object_tables.proofs.ModelLemmas.{live_from_class}
use Rattle.object_tables.proofs.ContainerLemmas.{nameless_place, nameless_found, nameless_prop, nameless_none}
use Rattle.object_tables.proofs.WholeLemmas.{kept_seen}
use Rattle.object_tables.proofs.model.Model.nameless_container.Goals as goal

pub joined-requires-clause-place : goal.joined-requires-clause-place
joined-requires-clause-place c = nameless_place _ _ _ _ _ _ c.self.invariant.tied c.self.view_is c.requires

pub class_of-requires : goal.class_of-requires
class_of-requires c =
    let s = nameless_found _ _ _ _ c.args.o.0 c.in-Some.object c.in-Some.place c.next.new.self c.args.self.now c.self.invariant.tied c.look.ensures.both c.self.view_is c.requires (sym c.joined.ensures ∙ c.in-Some.ensures.steps) in
    live_from_class c.args.self.now c.in-Some.object s.class s.class_is

pub overflow_sub-result : goal.overflow_sub-result
overflow_sub-result c =
    let s = nameless_found _ _ _ _ c.args.o.0 c.in-Some.object c.in-Some.place c.next.new.self c.args.self.now c.self.invariant.tied c.look.ensures.both c.self.view_is c.requires (sym c.joined.ensures ∙ c.in-Some.ensures.steps) in
    (nameless_prop c.args.self.now _ _ _ c.class_of.result.0 c.props-props.result.now (record { 0 = 0 }) s c.class_of.ensures.class (c.props-props.ensures.numbers ∙ ap (λ m. props_of m.meta c.class_of.result.0) c.self.view_is)).0

pub bounds-props-place : goal.bounds-props-place
bounds-props-place c =
    let s = nameless_found _ _ _ _ c.args.o.0 c.in-Some.object c.in-Some.place c.next.new.self c.args.self.now c.self.invariant.tied c.look.ensures.both c.self.view_is c.requires (sym c.joined.ensures ∙ c.in-Some.ensures.steps) in
    (nameless_prop c.args.self.now _ _ _ c.class_of.result.0 c.props-props.result.now (record { 0 = 0 }) s c.class_of.ensures.class (c.props-props.ensures.numbers ∙ ap (λ m. props_of m.meta c.class_of.result.0) c.self.view_is)).1

pub returns-in-Some-clause-contained : goal.returns-in-Some-clause-contained
returns-in-Some-clause-contained c =
    let s = nameless_found _ _ _ _ c.args.o.0 c.in-Some.object c.in-Some.place c.next.new.self c.args.self.now c.self.invariant.tied c.look.ensures.both c.self.view_is c.requires (sym c.joined.ensures ∙ c.in-Some.ensures.steps) in
    (nameless_prop c.args.self.now _ _ _ c.class_of.result.0 c.props-props.result.now (record { 0 = 0 }) s c.class_of.ensures.class (c.props-props.ensures.numbers ∙ ap (λ m. props_of m.meta c.class_of.result.0) c.self.view_is)).2

pub returns-in-None-clause-none : goal.returns-in-None-clause-none
returns-in-None-clause-none c = λ a p e h.
    nameless_none _ _ _ _ _ a p _ c.self.invariant.tied c.look.ensures.both c.self.view_is (kept_seen _ _ _ _ _ c.self.invariant c.self.view_is) (sym c.joined.ensures ∙ c.in-None.ensures.steps.0) e h
