use Rattle.std.proofs.Common.{map}
use Rattle.std.specs.Prelude.{string_bytes}
use Rattle.vault_io.specs.Files.{Files}
use Rattle.qvtr_engine.specs.Answer as answers
use Rattle.qvtr_engine.specs.Answer.{Answer, AreAlikeAnswers, HasOneAnswer}
use Rattle.qvtr_engine.specs.Command.{IsUsage}
use Rattle.qvtr_engine.specs.ConvertWords.{ConvertWords, IsConvert}
use Rattle.qvtr_engine.specs.Reply.{Reply, misused}
use Rattle.qvtr_engine.proofs.AnswerLaws.{answers_alike, convert_has_one}
use Rattle.qvtr_engine.proofs.RunLaws.{if_some_all}
use Rattle.qvtr_engine.proofs.top.one_answer.Goals as goal

pub returns : goal.returns
returns g c =
    let words = map string_bytes c.args.words.now in
    let P : Files → Type 0 = λ files. (reply other : Reply) → Answer words files reply → Answer words files other → AreAlikeAnswers words files reply other in
    let U : Files → Type 0 = λ files. IsUsage words → Answer words files misused in
    let V : Files → Type 0 = λ files. (w : ConvertWords) → IsConvert words w → HasOneAnswer words files in
    record {
      usage = if_some_all (g.F.Vault.files c.args.vault.now) U (λ files u. answers.usage u);
      conversions = if_some_all (g.F.Vault.files c.args.vault.now) V (λ files w is. convert_has_one words files w is);
      single = if_some_all (g.F.Vault.files c.args.vault.now) P (λ files. answers_alike words files);
    }
