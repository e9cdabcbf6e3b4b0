use Rattle.std.proofs.Common.{inl, inr}
use Rattle.model_files.specs.FileForm.{form_of}
use Rattle.model_files.proofs.AnsweredLaws as models
use Rattle.model_files.proofs.DescribedLaws as metamodels
use Rattle.model_files.proofs.file_laws.files_are_answered.Goals as goal

pub returns-clause-model : goal.returns-clause-model
returns-clause-model c meta outside bytes well = elim (models.answered meta well outside bytes (form_of bytes)) [
  | models.spells m h ↦ inl (m, h)
  | models.refused e told h ↦ inr (e, told, h)
]

pub returns-clause-metamodel : goal.returns-clause-metamodel
returns-clause-metamodel c bytes = elim (metamodels.answered bytes) [
  | metamodels.describes desc h ↦ inl (desc, h)
  | metamodels.refused e told h ↦ inr (e, told, h)
]
