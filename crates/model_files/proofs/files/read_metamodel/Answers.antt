use Rattle.model_files.proofs.MetaFileLaws.{no_meta_error, only_meta, known_of_metamodel, known_answer}
use Rattle.model_files.proofs.ReadingLaws.{meta_spelled, not_spelled, emof_spelled, emof_told}
use Rattle.model_files.proofs.files.read_metamodel.Goals as goal

pub returns-in-Ok-clause-ok : goal.returns-in-Ok-clause-ok
returns-in-Ok-clause-ok c =
    meta_spelled c.args.bytes.now c.in-Ok.model c.metamodel_of-meta.result
    (emof_spelled c.args.bytes.now c.in_ok-emof.emof c.form_of-form.result c.in-Ok.model c.in_ok-emof.ensures c.form_of-form.ensures c.in-Ok.ensures.ok) c.metamodel_of-meta.ensures.ok

pub returns-in-Ok-clause-fault : goal.returns-in-Ok-clause-fault
returns-in-Ok-clause-fault c =
    not_spelled c.args.bytes.now c.in-Ok.model c.metamodel_of-meta.result
    (emof_spelled c.args.bytes.now c.in_ok-emof.emof c.form_of-form.result c.in-Ok.model c.in_ok-emof.ensures c.form_of-form.ensures c.in-Ok.ensures.ok) c.metamodel_of-meta.ensures.fault

pub returns-in-Ok-clause-printable : goal.returns-in-Ok-clause-printable
returns-in-Ok-clause-printable c =
    known_answer c.args.bytes.now c.metamodel_of-meta.result
    (not_spelled c.args.bytes.now c.in-Ok.model c.metamodel_of-meta.result
    (emof_spelled c.args.bytes.now c.in_ok-emof.emof c.form_of-form.result c.in-Ok.model c.in_ok-emof.ensures c.form_of-form.ensures c.in-Ok.ensures.ok) c.metamodel_of-meta.ensures.fault)

pub returns-in-Ok-clause-only : goal.returns-in-Ok-clause-only
returns-in-Ok-clause-only c =
    only_meta c.args.bytes.now c.metamodel_of-meta.result
    (not_spelled c.args.bytes.now c.in-Ok.model c.metamodel_of-meta.result
    (emof_spelled c.args.bytes.now c.in_ok-emof.emof c.form_of-form.result c.in-Ok.model c.in_ok-emof.ensures c.form_of-form.ensures c.in-Ok.ensures.ok) c.metamodel_of-meta.ensures.fault)

pub returns-in-Err-clause-fault : goal.returns-in-Err-clause-fault
returns-in-Err-clause-fault c =
    emof_told c.args.bytes.now c.in_ok-emof.emof c.form_of-form.result c.in-Err.error c.in_ok-emof.ensures c.form_of-form.ensures c.in-Err.ensures.fault

pub returns-in-Err-clause-printable : goal.returns-in-Err-clause-printable
returns-in-Err-clause-printable c =
    known_of_metamodel c.args.bytes.now c.in-Err.error
    (emof_told c.args.bytes.now c.in_ok-emof.emof c.form_of-form.result c.in-Err.error c.in_ok-emof.ensures c.form_of-form.ensures c.in-Err.ensures.fault)

pub returns-in-Err-clause-only : goal.returns-in-Err-clause-only
returns-in-Err-clause-only c desc spelled =
    no_meta_error c.args.bytes.now desc spelled c.in-Err.error
    (emof_told c.args.bytes.now c.in_ok-emof.emof c.form_of-form.result c.in-Err.error c.in_ok-emof.ensures c.form_of-form.ensures c.in-Err.ensures.fault)
