use Rattle.model_files.specs.FileForm.{form_of}
use Rattle.model_files.proofs.FileLaws.{same_limit_in}
use Rattle.model_files.proofs.MetaFileLaws.{same_limit_of_metamodel}
use Rattle.model_files.proofs.file_laws.errors_agree_on_limits.Goals as goal

pub returns-clause-model : goal.returns-clause-model
returns-clause-model c meta outside bytes e f = same_limit_in meta outside bytes (form_of bytes) e f

pub returns-clause-metamodel : goal.returns-clause-metamodel
returns-clause-metamodel c = same_limit_of_metamodel
