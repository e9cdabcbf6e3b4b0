use Rattle.std.proofs.Common.{ℕ, List, ◌++◌, ap, ◌∙◌}
use Rattle.mof_metamodel.specs.Tables.{class_numbers, table}
use Rattle.object_tables.proofs.ListLemmas.{on_ok}
use Rattle.qvtr_semantics.specs.Objects.{is_number_among}
use Rattle.staying_objects.proofs.ClassLaws.{classes_of_relation}
use Rattle.staying_objects.proofs.classes.put_relation.Goals as goal

pub returns : goal.returns
returns c =
    let rel = c.args.rel.now in
    let marks =
    c.as_slice-2.ensures.value ∙ c.in_ok-existential.ensures
    ∙ ap (λ (xs : List ℕ). table (λ v. is_number_among v xs) c.len.result) c.as_slice.ensures
    ∙ ap (λ (n : ℕ). table (λ v. is_number_among v rel.existential) n) c.len.ensures in
    on_ok c.put_classes.result
    (λ put. put ∙ ap (λ (cs : List ℕ). class_numbers c.args.out.now ++ cs)
    (classes_of_relation c.args.program.now rel c.as_slice-2.result.now c.as_slice-3.result.now c.if-not-rel.false marks
    (c.as_slice-3.ensures ∙ c.in_ok-variables.ensures)))
    c.put_classes.ensures
