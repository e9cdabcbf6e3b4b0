use Rattle.model_files.specs.FileForm.{form_of}
use Rattle.model_files.proofs.FileLaws.{one_in}
use Rattle.model_files.proofs.MetaFileLaws.{one_metamodel}
use Rattle.model_files.proofs.file_laws.files_are_one_model.Goals as goal

pub returns-clause-model : goal.returns-clause-model
returns-clause-model c meta outside bytes a b = one_in meta outside bytes (form_of bytes) a b

pub returns-clause-metamodel : goal.returns-clause-metamodel
returns-clause-metamodel c = one_metamodel
