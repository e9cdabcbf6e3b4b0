use Rattle.model_files.specs.FileForm.{form_of}
use Rattle.model_files.proofs.FileLaws.{no_error_in}
use Rattle.model_files.proofs.MetaFileLaws.{no_meta_error}
use Rattle.model_files.proofs.file_laws.models_have_no_faults.Goals as goal

pub returns-clause-model : goal.returns-clause-model
returns-clause-model c meta outside bytes m e spelled told not = not (no_error_in meta outside bytes m (form_of bytes) spelled e told)

pub returns-clause-metamodel : goal.returns-clause-metamodel
returns-clause-metamodel c bytes desc e spelled told not = not (no_meta_error bytes desc spelled e told)
