use Rattle.std.proofs.Common.{refl}
use Rattle.relation_calls.proofs.MemoLaws.{unchanged_tables, more_tables}
use Rattle.relation_calls.proofs.memo.Memo.keep_table.Goals as goal

pub returns-in_err-insert : goal.returns-in_err-insert
returns-in_err-insert c =
    record {
      told = λ program models told is.
          let old = c.args.self.now in
          unchanged_tables program models old (record { matching = old.matching; holding = old.holding; heights = old.heights; tables = c.insert.new.self }) told c.in_err-insert.ensures.err refl refl refl;
    }

pub returns : goal.returns
returns c =
    record {
      told = λ program models told is.
          let old = c.args.self.now in
          more_tables program models old (record { matching = old.matching; holding = old.holding; heights = old.heights; tables = c.insert.new.self }) told c.args.number c.args.table c.in_ok-insert.ensures.updates refl refl refl is;
    }
