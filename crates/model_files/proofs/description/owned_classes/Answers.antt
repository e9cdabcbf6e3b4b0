use Rattle.std.proofs.Common.{◌≡◌, ◌∙◌, List, IfOk, map, codes, ap, subst}
use Rattle.object_tables.specs.declared.value.ObjId.{ObjId}
use Rattle.object_tables.specs.Ids.{object_ids}
use Rattle.mof_metamodel.specs.declared.desc.ClassDesc.{ClassDesc}
use Rattle.model_files.specs.Described.{class_of, owned_of_class}
use Rattle.model_files.proofs.DescriptionLaws.{through_ids}
use Rattle.model_files.proofs.description.owned_classes.Goals as goal

pub returns : goal.returns
returns c =
    let f = class_of c.args.model.now c.args.root.0 in
    let os = owned_of_class c.args.model.now c.args.root.0 (codes "Class") in
    let listed : c.as_slice.result.now ≡ object_ids os = c.as_slice.ensures ∙ c.in_ok-classes.ensures in
    subst (λ (xs : List ClassDesc). IfOk c.classes_of.result (λ ys. ys ≡ xs)) (ap (map (λ (o : ObjId). f o.0)) listed ∙ through_ids f os) c.classes_of.ensures
