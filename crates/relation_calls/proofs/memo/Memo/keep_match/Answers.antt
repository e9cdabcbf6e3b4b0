use Rattle.std.proofs.Common.{refl}
use Rattle.relation_calls.proofs.MemoLaws.{unchanged_matches, more_matches}
use Rattle.relation_calls.proofs.memo.Memo.keep_match.Goals as goal

pub returns-in_err-insert-clause-told : goal.returns-in_err-insert-clause-told
returns-in_err-insert-clause-told c = λ program models told is.
    let old = c.args.self.now in
    unchanged_matches program models old (record { matching = c.insert.new.self; holding = old.holding; heights = old.heights; tables = old.tables }) told c.in_err-insert.ensures.err refl refl refl

pub returns-clause-told : goal.returns-clause-told
returns-clause-told c = λ program models told is.
    let old = c.args.self.now in
    more_matches program models old (record { matching = c.insert.new.self; holding = old.holding; heights = old.heights; tables = old.tables }) told c.args.call c.args.one c.in_ok-insert.ensures.updates refl refl refl is
