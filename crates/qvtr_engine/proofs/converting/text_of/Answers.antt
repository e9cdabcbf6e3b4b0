use Rattle.model_assembly.specs.declared.fault.Externs.TheVariants as externs
use Rattle.qvtr_engine.proofs.FileLaws.{file_valid, file_depth}
use Rattle.qvtr_engine.proofs.converting.text_of.Goals as goal

pub model_text-requires-clause-valid : goal.model_text-requires-clause-valid
model_text-requires-clause-valid c = file_valid c.args.meta.now externs.None c.args.bytes.now c.in_ok-read.read.model c.in_ok-read.ensures.ok

pub model_text-requires-clause-depth : goal.model_text-requires-clause-depth
model_text-requires-clause-depth c = file_depth c.args.meta.now externs.None c.args.bytes.now c.in_ok-read.read.model c.in_ok-read.ensures.ok
