use Rattle.std.proofs.Common.{sym, subst, ap, ◌∙◌}
use Rattle.key_index.specs.Indexes.{IsIndexOf, IsExtentOf}
use Rattle.key_index.specs.Instances.{AreOrdered, objects_of}
use Rattle.key_index.proofs.InstanceLaws.{ordered, extent_is}
use Rattle.key_index.proofs.key_index.KeyIndex.extent.Goals as goal

pub new-requires : goal.new-requires
new-requires c =
    let m = c.args.model.now in
    let instances = c.self.inside.instances.items in
    let of_model = (subst (IsIndexOf m) (sym c.self.view_is) c.requires).instances in
    let meta = c.meta.ensures in
    subst (λ d. AreOrdered d c.as_slice.result.now) (sym meta)
    (subst (AreOrdered m.meta) (sym c.as_slice.ensures.value) (ordered m instances c.end.ensures.kept of_model c.self.invariant.1))

pub returns : goal.returns
returns c =
    let m = c.args.model.now in
    let class = c.args.class.0 in
    let instances = c.self.inside.instances.items in
    let of_model = (subst (IsIndexOf m) (sym c.self.view_is) c.requires).instances in
    subst (IsExtentOf m class) (sym (c.new.ensures ∙ ap (λ d. objects_of d class c.as_slice.result.now) c.meta.ensures ∙ ap (objects_of m.meta class) c.as_slice.ensures.value))
    (extent_is m class instances of_model)
