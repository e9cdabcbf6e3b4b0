use Rattle.std.proofs.lemmas.Result.{on_ok_weaker}
use Rattle.entry_tops.proofs.NameLaws.{one_added}
use Rattle.entry_tops.proofs.names.add_one.Goals as goal

pub returns-in-Some : goal.returns-in-Some
returns-in-Some c = on_ok_weaker c.add.result (λ added. one_added c.args.matches.now c.add.new.self c.in-Some.found c.args.more c.in-Some.is added) c.add.ensures.added
