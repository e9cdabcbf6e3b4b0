use Rattle.std.proofs.Common.{◌≡◌, ◌∙◌, List, IfOk, map, codes, ap, subst}
use Rattle.object_tables.specs.declared.value.ObjId.{ObjId}
use Rattle.object_tables.specs.Ids.{object_ids}
use Rattle.mof_metamodel.specs.declared.desc.EnumDesc.{EnumDesc}
use Rattle.model_files.specs.Described.{enum_of, owned_of_class}
use Rattle.model_files.proofs.DescriptionLaws.{through_ids}
use Rattle.model_files.proofs.description.owned_enums.Goals as goal

pub returns : goal.returns
returns c =
    let f = enum_of c.args.model.now in
    let os = owned_of_class c.args.model.now c.args.root.0 (codes "Enumeration") in
    let listed : c.as_slice.result.now ≡ object_ids os = c.as_slice.ensures ∙ c.in_ok-enums.ensures in
    subst (λ (xs : List EnumDesc). IfOk c.enums_of.result (λ ys. ys ≡ xs)) (ap (map (λ (o : ObjId). f o.0)) listed ∙ through_ids f os) c.enums_of.ensures
