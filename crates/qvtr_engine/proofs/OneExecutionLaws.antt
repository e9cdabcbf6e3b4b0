-- The replies to an execution over files are alike.
use Rattle.vault_io.specs.Files.{Files}
use Rattle.qv_syntax.specs.declared.program.Program.{Program}
use Rattle.model_files.specs.declared.file_form.Form.{Form}
use Rattle.qvtr_engine.specs.declared.mode.Mode.{Mode}
use Rattle.qvtr_engine.specs.declared.mode.Mode.TheVariants.{Check, Enforce, Trace}
use Rattle.qvtr_engine.specs.CheckWords.{CheckWords}
use Rattle.qvtr_engine.specs.ExecutionAnswer.{ExecutionAnswer, last_answer, last_over, are_alike_last}
use Rattle.qvtr_engine.specs.Reply.{Reply}
use Rattle.qvtr_engine.specs.StepsAnswer.{Inputs, ResolvesTo, question_of, AreAlike}
use Rattle.qvtr_engine.specs.Target.{target_form, target_path}
use Rattle.qvtr_engine.proofs.AlikeLaws.{replies_alike}
use Rattle.qvtr_engine.proofs.EnforceAlikeLaws.{enforcements_alike, traces_alike}
use Rattle.qvtr_engine.proofs.InputStepLaws.{steps_are_one}
use Rattle.qvtr_engine.proofs.OneCheckLaws.{verdicts_alike}
use Rattle.qvtr_engine.proofs.ProgramLaws.{one_program, one_least}

lasts_alike : (mode : Mode) (files : Files) (w : CheckWords) (form : Form) (i : Inputs files w) (p : Program) → ResolvesTo files w i p
    → (r o : Reply) → last_answer mode form (target_path w) (question_of files w i p) r → last_answer mode form (target_path w) (question_of files w i p) o
    → AreAlike (are_alike_last mode (target_path w)) files w r o
lasts_alike Check files w form i p is r o x y = verdicts_alike files w one_least i p is r o x y
lasts_alike Enforce files w form i p is r o x y = enforcements_alike files w i p is form r o x y
lasts_alike Trace files w form i p is r o x y = traces_alike files w i p is r o x y

pub one_execution : (mode : Mode) (files : Files) (w : CheckWords) (r o : Reply) → ExecutionAnswer mode files w r → ExecutionAnswer mode files w o
    → AreAlike (are_alike_last mode (target_path w)) files w r o
one_execution mode files w r o x y =
    replies_alike (last_over mode files w) (are_alike_last mode (target_path w)) files w (steps_are_one files w) (one_program files w)
    (λ i p is a b s t. lasts_alike mode files w (target_form files w) i p is a b s t) r o x y
