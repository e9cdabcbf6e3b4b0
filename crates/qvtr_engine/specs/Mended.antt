-- What the files are once their target was enforced (QVT 1.3, sections 7.2 and 7.10.2): the relations hold with it, and there is nothing left to change.
use Rattle.std.specs.Prelude.{◌≡◌, ℕ, false, Some, slice_get}
use Rattle.vault_io.specs.Files.{Files}
use Rattle.object_tables.specs.Models.{ModelData}
use Rattle.qv_syntax.specs.declared.program.Program.{Program}
use Rattle.repair_semantics.specs.Deletions.{managed_classes, images_of, is_unneeded}
use Rattle.demand_set.specs.DemandSets.{DemandData, IsDemandSet}
use Rattle.qvtr_engine.specs.declared.mode.Mode.TheVariants.{Check, Enforce}
use Rattle.qvtr_engine.specs.CheckWords.{CheckWords}
use Rattle.qvtr_engine.specs.ExecutionAnswer.{ExecutionAnswer}
use Rattle.qvtr_engine.specs.Reply as replies
use Rattle.qvtr_engine.specs.StepsAnswer.{Inputs, ResolvesTo, question_of}

-- Over these files a check says yes, and an enforcement leaves the target as it is.
pub record IsMended (files : Files) (w : CheckWords) : Type 0 where
  pub holds : ExecutionAnswer Check files w replies.holds
  pub kept : ExecutionAnswer Enforce files w replies.kept

-- Each object of the target whose class is one of which enforcement makes objects is demanded.
abbrev pub IsAllNeeded : Files → CheckWords → Type 0
IsAllNeeded files w = (i : Inputs files w) (program : Program) → ResolvesTo files w i program
    → (target : ModelData) (d : DemandData) → slice_get (question_of files w i program).models program.target ≡ Some target
    → IsDemandSet program (question_of files w i program).models d
    → (o : ℕ) → is_unneeded target (managed_classes program) (images_of program target d.terms) o ≡ false
