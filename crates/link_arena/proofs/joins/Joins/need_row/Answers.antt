use Rattle.std.proofs.Common.{ap, arith}
use Rattle.link_arena.specs.declared.half.Head.{Head}
use Rattle.link_arena.proofs.Threaded.{length-list_at}
use Rattle.link_arena.proofs.joins.Joins.need_row.Goals as goal

pub returns-clause-some : goal.returns-clause-some
returns-clause-some c =
    omega (
      arith,
      length-list_at c.args.self.now.heads c.args.self.now.halves 0 c.requires.within,
      ap (λ (h : Head). h.len) c.head.ensures,
      c.if-head-eq0.false,
    )
