use Rattle.std.proofs.Common.{Ok, Err}
use Rattle.xmi_profile.specs.declared.fault.XmiError.TheVariants as errors
use Rattle.xmi_profile.proofs.AnsweredLaws.{spells, misspelled, refused, answered}
use Rattle.xmi_profile.proofs.answer_laws.files_are_answered.Goals as goal

pub returns : goal.returns
returns c meta outside bytes well = elim (answered meta outside bytes well) [
  | spells m h ↦ (Ok m, h, λ e. cc)
  | misspelled fault h ↦ (Err (errors.Text fault), h, λ e. cc)
  | refused fault h ↦ (Err (errors.Content fault), h, λ e. cc)
]
