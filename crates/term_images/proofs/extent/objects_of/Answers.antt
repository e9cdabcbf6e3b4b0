use Rattle.std.specs.Prelude.{◌≡◌, List}
use Rattle.std.specs.List.{filter_map}
use Rattle.std.proofs.Common.{ap, ◌∙◌}
use Rattle.std.proofs.lemmas.Result.{IfOk-weaker}
use Rattle.object_tables.specs.declared.value.ObjId.{ObjId}
use Rattle.qvtr_semantics.specs.Objects.{extent_of}
use Rattle.term_images.specs.ClassIndexes.{numbers_of}
use Rattle.term_images.specs.Extents.{object_in}
use Rattle.term_images.proofs.IndexLaws.{objects_of_numbers}
use Rattle.term_images.proofs.extent.objects_of.Goals as goal

pub returns : goal.returns
returns c =
    let extent = extent_of c.args.target.now.model.now c.args.class.0 in
    let all = c.as_slice.ensures ∙ c.in_ok-extent.ensures in
    IfOk-weaker c.objects_in.result
    (λ (objects : List ObjId). objects ≡ filter_map object_in c.as_slice.result.now)
    (λ (objects : List ObjId). numbers_of objects ≡ extent)
    (λ objects is. ap numbers_of (is ∙ ap (filter_map object_in) all) ∙ objects_of_numbers c.args.target.now.program.now.target extent)
    c.objects_in.ensures
