use Rattle.std.proofs.Common.{◌≡◌, ◌∙◌, List, ℕ, IfOk, map, codes, ap, subst}
use Rattle.object_tables.specs.declared.value.ObjId.{ObjId}
use Rattle.object_tables.specs.Ids.{object_ids}
use Rattle.model_files.specs.Reflection.{partners_named}
use Rattle.model_files.specs.Described.{name_of}
use Rattle.model_files.proofs.DescriptionLaws.{through_ids}
use Rattle.model_files.proofs.description.literals_of.Goals as goal

pub returns : goal.returns
returns c =
    let f = name_of c.args.model.now in
    let os = partners_named c.args.model.now c.args.e.0 (codes "ownedLiteral") in
    let listed : c.as_slice.result.now ≡ object_ids os = c.as_slice.ensures ∙ c.in_ok-literals.ensures in
    subst (λ (xs : List (List ℕ)). IfOk c.names_of.result (λ ys. ys ≡ xs)) (ap (map (λ (o : ObjId). f o.0)) listed ∙ through_ids f os) c.names_of.ensures
