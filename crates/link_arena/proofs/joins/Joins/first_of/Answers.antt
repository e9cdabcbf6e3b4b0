use Rattle.std.proofs.Common.{◌≡◌, ◌<◌, ap, arith, length, subst, sym}
use Rattle.link_arena.specs.declared.half.Head.{Head}
use Rattle.link_arena.specs.Lists.{head_at, list_at, owner_at}
use Rattle.link_arena.proofs.Found.{first_there, list_bounds}
use Rattle.link_arena.proofs.Members.{IsIn, owned_in}
use Rattle.link_arena.proofs.joins.Joins.first_of.Goals as goal

pub returns-else-head-eq0-clause-some : goal.returns-else-head-eq0-clause-some
returns-else-head-eq0-clause-some c =
    let some : 0 < (head_at c.args.self.now.heads c.args.id).len = omega (arith, c.if-head-eq0.false, ap (λ (h : Head). h.len) c.head-head.ensures) in
    let there : IsIn (head_at c.args.self.now.heads c.args.id).first (list_at c.args.self.now.heads c.args.self.now.halves c.args.id) =
    first_there c.args.self.now.heads c.args.self.now.halves c.requires.arena c.args.id c.requires.within some in
    subst (λ (h : Head). (h.first < length c.args.self.now.halves) × (owner_at c.args.self.now.halves h.first ≡ c.args.id)) (sym c.head-head.ensures) (
      (list_bounds c.args.self.now.heads c.args.self.now.halves c.requires.arena c.args.id c.requires.within _ there).0,
      owned_in c.requires.arena.filed.threaded c.args.id _ there,
    )
