use Rattle.serde_json.specs.View.{view}
use Rattle.model_assembly.specs.declared.fault.Externs.TheVariants as externs
use Rattle.model_files.proofs.ReadingLaws.{is_whole, assembled_spells, assembled_told}
use Rattle.model_files.proofs.files.read_json.Goals as goal

pub assembled-requires : goal.assembled-requires
assembled-requires c =
    is_whole c.args.meta.now c.class_count.ensures.well c.args.bytes.now (view c.in_ok-value.value) c.in_ok-value.ensures.ok c.in_ok-filed.filed c.in_ok-filed.ensures.filed
    c.in_ok-filed.ensures.sound

pub returns-clause-ok : goal.returns-clause-ok
returns-clause-ok c =
    assembled_spells c.args.meta.now c.class_count.ensures.well c.args.bytes.now (view c.in_ok-value.value) c.in_ok-value.ensures.ok c.in_ok-filed.filed
    c.in_ok-filed.ensures.filed externs.None c.assembled.result c.assembled.ensures.ok

pub returns-clause-fault : goal.returns-clause-fault
returns-clause-fault c =
    assembled_told c.args.meta.now c.class_count.ensures.well c.args.bytes.now (view c.in_ok-value.value) c.in_ok-value.ensures.ok c.in_ok-filed.filed
    c.in_ok-filed.ensures.filed externs.None c.assembled.result c.assembled.ensures.fault
