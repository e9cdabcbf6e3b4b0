-- The script of a check resolves to one program, and a question has one least failing binding.
use Rattle.vault_io.specs.Files.{Files}
use Rattle.qvtr_types.proofs.one_program.Programs.{programs_are_one}
use Rattle.relation_calls.proofs.FailingLaws.{least_is_one}
use Rattle.qvtr_engine.specs.CheckWords.{CheckWords}
use Rattle.qvtr_engine.specs.CheckedMetamodels.{numbered_metas}
use Rattle.qvtr_engine.specs.CheckedNames.{target_of}
use Rattle.answer_texts.specs.Question.{Question}
use Rattle.qvtr_engine.proofs.AlikeLaws.{HaveOneProgram}
use Rattle.qvtr_engine.proofs.VerdictLaws.{HaveOneLeast}
use Rattle.qvtr_engine.proofs.InputStepLaws.{steps_are_one}

pub one_program : (files : Files) (w : CheckWords) → HaveOneProgram files w
one_program files w i p q x y =
    programs_are_one (numbered_metas w i.script i.metas) i.script (target_of w)
    ((steps_are_one files w).well i.script i.metas i.fit i.metamodels)
    x.faultless p q x.resolution y.resolution

pub one_least : (q : Question) → HaveOneLeast q
one_least q n b c x y = least_is_one q.program q.models n b c x y
