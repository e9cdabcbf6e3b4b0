use Rattle.std.proofs.Common.{refl}
use Rattle.relation_calls.proofs.MemoLaws.{unchanged_heights, more_heights}
use Rattle.relation_calls.proofs.memo.Memo.keep_height.Goals as goal

pub returns-in_err-insert : goal.returns-in_err-insert
returns-in_err-insert c =
    record {
      told = λ program models told is.
          let old = c.args.self.now in
          unchanged_heights program models old (record { matching = old.matching; holding = old.holding; heights = c.insert.new.self; tables = old.tables }) told c.in_err-insert.ensures.err refl refl refl;
    }

pub returns : goal.returns
returns c =
    record {
      told = λ program models told is.
          let old = c.args.self.now in
          more_heights program models old (record { matching = old.matching; holding = old.holding; heights = c.insert.new.self; tables = old.tables }) told c.args.number c.args.height c.in_ok-insert.ensures.updates refl refl refl is;
    }
