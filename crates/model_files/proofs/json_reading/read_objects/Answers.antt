use Rattle.std.proofs.Common.{◌≡◌, ◌∙◌, Some, sym, ap}
use Rattle.std.proofs.lemmas.Result.{err_from_is_err_and}
use Rattle.serde_json.specs.View.{view}
use Rattle.model_files.specs.JsonContent.{objects_of}
use Rattle.model_files.specs.JsonFaults.{first_fault}
use Rattle.model_files.proofs.JsonReadingLaws.{content_fault, unshaped_is_error}
use Rattle.model_files.proofs.json_reading.read_objects.Goals as goal

pub returns-in_err-value-clause-fault : goal.returns-in_err-value-clause-fault
returns-in_err-value-clause-fault c =
    let p = err_from_is_err_and c.from_residual.result c.from_residual.ensures.1 in
    rw (p.1, p.2) (unshaped_is_error c.args.meta.now c.args.bytes.now c.in_err-value.field-0.0 c.in_err-value.ensures.fault)

pub returns-in-Some-clause-fault : goal.returns-in-Some-clause-fault
returns-in-Some-clause-fault c =
    let d = view c.in_ok-value.value in
    let e : first_fault c.args.meta.now (objects_of d) ≡ Some c.in-Some.fault =
    ap (first_fault c.args.meta.now) (sym c.objects_of.ensures) ∙ sym c.in-Ok-or_drop.ensures ∙ c.in-Some.is in
    (d, c.in_ok-value.ensures.ok.value, content_fault c.args.meta.now d c.in-Some.fault c.in_ok-value.ensures.ok.shape e)
