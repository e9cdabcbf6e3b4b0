use Rattle.std.proofs.Common.{refl}
use Rattle.relation_calls.proofs.MemoLaws.{unchanged_holds, more_holds}
use Rattle.relation_calls.proofs.memo.Memo.keep_hold.Goals as goal

pub returns-in_err-insert-clause-told : goal.returns-in_err-insert-clause-told
returns-in_err-insert-clause-told c = λ program models told is.
    let old = c.args.self.now in
    unchanged_holds program models old (record { matching = old.matching; holding = c.insert.new.self; heights = old.heights; tables = old.tables }) told c.in_err-insert.ensures.err refl refl refl

pub returns-clause-told : goal.returns-clause-told
returns-clause-told c = λ program models told is.
    let old = c.args.self.now in
    more_holds program models old (record { matching = old.matching; holding = c.insert.new.self; heights = old.heights; tables = old.tables }) told c.args.call c.args.answer c.in_ok-insert.ensures.updates refl refl refl is
