use Rattle.std.proofs.Common.{length, suc, arith, sym, ◌∙◌, ap, inl, inr}
use Rattle.mof_metamodel.specs.Metamodels.{class_at as meta_class, props_of}
use Rattle.mof_metamodel.proofs.PlaceLemmas.{props_few}
use Rattle.object_tables.specs.Models.{ModelData}
use Rattle.object_tables.proofs.AddLemmas.{full_from, room_from, is_found, is_absent, if_ok_any, memory_cause}
use Rattle.object_tables.proofs.model.Model.add.Goals as goal
use Rattle.object_tables.proofs.model.Model.add.Goals.{then-self-ge-MAX_OBJECTS-via-then-self-ge-MAX_OBJECTS, then-self-ge-MAX_OBJECTS-via-else-self-ge-MAX_OBJECTS+then-len-ge-MAX_ADDED}

pub returns-then-self-ge-MAX_OBJECTS-clause-causes : goal.returns-then-self-ge-MAX_OBJECTS-clause-causes
returns-then-self-ge-MAX_OBJECTS-clause-causes c =
    full_from _ _ _ _ _ c.self.invariant.tied c.self.view_is
    (elim c.then-self-ge-MAX_OBJECTS.branch [
      | then-self-ge-MAX_OBJECTS-via-then-self-ge-MAX_OBJECTS w ↦ inl (omega arith)
      | then-self-ge-MAX_OBJECTS-via-else-self-ge-MAX_OBJECTS+then-len-ge-MAX_ADDED w ↦ inr (omega arith)
    ])

pub returns-then-is_abstract-clause-causes : goal.returns-then-is_abstract-clause-causes
returns-then-is_abstract-clause-causes c = (
  room_from _ _ _ _ _ c.self.invariant.tied c.self.view_is c.if-self-ge-MAX_OBJECTS.false (let e = c.len.ensures in let l = c.if-len-ge-MAX_ADDED.false in omega arith),
  ap (λ m. (meta_class m.meta c.args.class.0).is_abstract) (sym c.self.view_is) ∙ sym c.is_abstract.ensures ∙ c.if-is_abstract.true,
)

pub returns-then-is_some-clause-causes : goal.returns-then-is_some-clause-causes
returns-then-is_some-clause-causes c = (
  room_from _ _ _ _ _ c.self.invariant.tied c.self.view_is c.if-self-ge-MAX_OBJECTS.false (let e = c.len.ensures in let l = c.if-len-ge-MAX_ADDED.false in omega arith),
  ap (λ m. (meta_class m.meta c.args.class.0).is_abstract) (sym c.self.view_is) ∙ sym c.is_abstract.ensures ∙ c.if-is_abstract.false,
  is_found c.by_id.result c.args.self.now c.args.id c.as_str.result.now c.by_id.ensures.found c.as_str.ensures.characters (sym c.is_some.ensures ∙ c.if-is_some.true),
)

pub enter-requires-clause-addable : goal.enter-requires-clause-addable
enter-requires-clause-addable c = record {
  room = room_from _ _ _ _ _ c.self.invariant.tied c.self.view_is c.if-self-ge-MAX_OBJECTS.false (let e = c.len.ensures in let l = c.if-len-ge-MAX_ADDED.false in omega arith);
  concrete = ap (λ m. (meta_class m.meta c.args.class.0).is_abstract) (sym c.self.view_is) ∙ sym c.is_abstract.ensures ∙ c.if-is_abstract.false;
  new = is_absent c.by_id.result c.args.self.now c.args.id c.as_str.result.now c.by_id.ensures.none c.as_str.ensures.characters (sym c.is_some.ensures ∙ c.if-is_some.false);
}

pub returns-clause-causes_ok : goal.returns-clause-causes_ok
returns-clause-causes_ok c = if_ok_any c.enter.result _ (record {
  room = room_from _ _ _ _ _ c.self.invariant.tied c.self.view_is c.if-self-ge-MAX_OBJECTS.false (let e = c.len.ensures in let l = c.if-len-ge-MAX_ADDED.false in omega arith);
  concrete = ap (λ m. (meta_class m.meta c.args.class.0).is_abstract) (sym c.self.view_is) ∙ sym c.is_abstract.ensures ∙ c.if-is_abstract.false;
  new = is_absent c.by_id.result c.args.self.now c.args.id c.as_str.result.now c.by_id.ensures.none c.as_str.ensures.characters (sym c.is_some.ensures ∙ c.if-is_some.false);
})

pub returns-clause-causes : goal.returns-clause-causes
returns-clause-causes c = memory_cause c.enter.result c.args.self.now c.args.class.0 c.args.id c.enter.ensures.memory (record {
  room = room_from _ _ _ _ _ c.self.invariant.tied c.self.view_is c.if-self-ge-MAX_OBJECTS.false (let e = c.len.ensures in let l = c.if-len-ge-MAX_ADDED.false in omega arith);
  concrete = ap (λ m. (meta_class m.meta c.args.class.0).is_abstract) (sym c.self.view_is) ∙ sym c.is_abstract.ensures ∙ c.if-is_abstract.false;
  new = is_absent c.by_id.result c.args.self.now c.args.id c.as_str.result.now c.by_id.ensures.none c.as_str.ensures.characters (sym c.is_some.ensures ∙ c.if-is_some.false);
})

pub enter-requires-clause-count : goal.enter-requires-clause-count
enter-requires-clause-count c = c.place_count-count.ensures ∙ ap (λ (v : ModelData). suc (suc (length (props_of v.meta c.args.class.0)))) c.self.view_is

pub place_count-count-requires-clause-small : goal.place_count-count-requires-clause-small
place_count-count-requires-clause-small c = omega (arith, props_few c.self.inside.meta.now c.args.class.0, c.self.invariant.tied.well.limits.props)
