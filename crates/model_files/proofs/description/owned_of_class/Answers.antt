use Rattle.std.proofs.Common.{◌≡◌, ◌∙◌, List, IfOk, codes, ap, subst}
use Rattle.std.specs.Prelude.{filter}
use Rattle.object_tables.specs.declared.value.ObjId.{ObjId}
use Rattle.object_tables.specs.Ids.{object_ids}
use Rattle.model_files.specs.Reflection.{is_of_class, partners_named}
use Rattle.model_files.proofs.DescriptionLaws.{filtered_ids}
use Rattle.model_files.proofs.description.owned_of_class.Goals as goal

pub returns : goal.returns
returns c =
    let p = is_of_class c.args.model.now c.args.name.now in
    let os = partners_named c.args.model.now c.args.root.0 (codes "ownedType") in
    let listed : c.as_slice.result.now ≡ object_ids os = c.as_slice.ensures ∙ c.in_ok-owned.ensures in
    subst (λ (xs : List ObjId). IfOk c.of_class.result (λ ys. ys ≡ xs)) (ap (filter (λ (o : ObjId). p o.0)) listed ∙ filtered_ids p os) c.of_class.ensures
