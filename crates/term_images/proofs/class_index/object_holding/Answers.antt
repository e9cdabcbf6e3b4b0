use Rattle.std.specs.Prelude.{◌≡◌, ℕ, List, Option, Some, option_map}
use Rattle.std.proofs.Common.{ap, sym, subst, ◌∙◌}
use Rattle.std.proofs.lemmas.Result.{IfOk-weaker}
use Rattle.qvtr_semantics.specs.Objects.{extent_of}
use Rattle.repair_semantics.specs.TargetItems.{key_of}
use Rattle.object_tables.specs.declared.value.ObjId.{ObjId}
use Rattle.term_images.specs.ClassIndexes.{number_of, numbers_of, first_holding, object_holding, IsIndexOf}
use Rattle.term_images.proofs.IndexLaws.{first_in_extent}
use Rattle.term_images.proofs.class_index.object_holding.Goals as goal

pub returns-in-Some : goal.returns-in-Some
returns-in-Some c =
    let program = c.args.target.now.program.now in
    let m = c.args.target.now.model.now in
    let class = c.args.class.0 in
    let ps = c.in-Some.props.now in
    let key : key_of program class ≡ Some ps = sym c.in-Some.ensures in
    let whole : numbers_of c.in-Objects.objects ≡ extent_of m class = subst (IsIndexOf program m class) c.in-Objects.is c.requires in
    let os : List ℕ = numbers_of c.as_slice.result.now in
    IfOk-weaker c.first_holding.result
    (λ (first : Option ObjId). option_map number_of first ≡ first_holding program m ps c.as_slice-in-Some.result.now os)
    (λ (first : Option ObjId). option_map number_of first ≡ object_holding program m class c.args.values)
    (λ first is. is
    ∙ ap (λ ws. first_holding program m ps ws os) c.as_slice-in-Some.ensures
    ∙ first_in_extent program m class ps c.args.values os key (ap numbers_of c.as_slice.ensures ∙ whole))
    c.first_holding.ensures
