use Rattle.std.proofs.Common.{◌∙◌, ap, drop, lit<, add-one}
use Rattle.std.proofs.lemmas.Str.Pattern.{split_once_first}
use Rattle.qvtr_engine.proofs.CheckLaws.{name_taken, path_dropped, all_name}
use Rattle.qvtr_engine.proofs.check_words.split_at_equals.Goals as goal

pub returns-in-Some : goal.returns-in-Some
returns-in-Some c =
    let parts = split_once_first 61 c.args.word.now c.split_once.result c.split_once.ensures.cases (lit< tt) in
    let found = rw c.in-Some.is at parts in (
      found.1 ∙ name_taken c.args.word.now,
      found.2 ∙ ap (λ n. drop n c.args.word.now) (add-one _) ∙ path_dropped c.args.word.now,
    )

pub returns-in-None : goal.returns-in-None
returns-in-None c =
    let none = split_once_first 61 c.args.word.now c.split_once.result c.split_once.ensures.cases (lit< tt) in
    all_name c.args.word.now (rw c.in-None.is at none)
