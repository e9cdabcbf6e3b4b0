use Rattle.model_files.specs.FileForm.{form_of}
use Rattle.model_files.proofs.EmofLaws.{emof_is_well}
use Rattle.model_files.proofs.OneErrorLaws.{one_error_in, one_error_of_metamodel}
use Rattle.model_files.proofs.file_laws.one_error_is_told.Goals as goal

pub returns-clause-model : goal.returns-clause-model
returns-clause-model c meta outside bytes e f well = one_error_in meta outside bytes well (form_of bytes) e f

pub returns-clause-metamodel : goal.returns-clause-metamodel
returns-clause-metamodel c = one_error_of_metamodel emof_is_well
