use Rattle.std.proofs.Common.{◌≡◌, ◌∙◌, List, IfOk, map, codes, ap, subst}
use Rattle.object_tables.specs.declared.value.ObjId.{ObjId}
use Rattle.object_tables.specs.Ids.{object_ids}
use Rattle.mof_metamodel.specs.declared.desc.PropDesc.{PropDesc}
use Rattle.model_files.specs.Reflection.{partners_named}
use Rattle.model_files.specs.Described.{prop_of}
use Rattle.model_files.proofs.DescriptionLaws.{through_ids}
use Rattle.model_files.proofs.description.attributes_of.Goals as goal

pub returns : goal.returns
returns c =
    let f = prop_of c.args.model.now c.args.root.0 in
    let os = partners_named c.args.model.now c.args.c.0 (codes "ownedAttribute") in
    let listed : c.as_slice.result.now ≡ object_ids os = c.as_slice.ensures ∙ c.in_ok-props.ensures in
    subst (λ (xs : List PropDesc). IfOk c.props_of.result (λ ys. ys ≡ xs)) (ap (map (λ (o : ObjId). f o.0)) listed ∙ through_ids f os) c.props_of.ensures
