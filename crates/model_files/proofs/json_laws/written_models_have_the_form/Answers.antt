use Rattle.model_files.proofs.JsonFormLaws.{written_right}
use Rattle.model_files.proofs.json_laws.written_models_have_the_form.Goals as goal

pub returns : goal.returns
returns c = written_right
