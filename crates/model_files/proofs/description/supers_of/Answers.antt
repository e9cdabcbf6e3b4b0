use Rattle.std.proofs.Common.{◌≡◌, ◌∙◌, List, ℕ, IfOk, map, codes, ap, subst}
use Rattle.object_tables.specs.declared.value.ObjId.{ObjId}
use Rattle.object_tables.specs.Ids.{object_ids}
use Rattle.model_files.specs.Reflection.{partners_named}
use Rattle.model_files.specs.Described.{owned_name}
use Rattle.model_files.proofs.DescriptionLaws.{through_ids}
use Rattle.model_files.proofs.description.supers_of.Goals as goal

pub returns : goal.returns
returns c =
    let f = owned_name c.args.model.now c.args.root.0 in
    let os = partners_named c.args.model.now c.args.c.0 (codes "superClass") in
    let listed : c.as_slice.result.now ≡ object_ids os = c.as_slice.ensures ∙ c.in_ok-classes.ensures in
    subst (λ (xs : List (List ℕ)). IfOk c.super_names.result (λ ys. ys ≡ xs)) (ap (map (λ (o : ObjId). f o.0)) listed ∙ through_ids f os) c.super_names.ensures
