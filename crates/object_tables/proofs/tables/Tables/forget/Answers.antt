use Rattle.std.proofs.Common.{◌≡◌, ◌∙◌, length, ap, arith}
use Rattle.object_tables.proofs.ListLemmas.{length-update_at}
use Rattle.object_tables.proofs.FlatLemmas.{flat-forget, rows-forget}
use Rattle.object_tables.proofs.tables.Tables.forget.Goals as goal

pub invariant_of-self : goal.invariant_of-self
invariant_of-self c =
    let same : length c.forget_at.new.entries.items ≡ length c.self.inside.entries.items = ap length c.forget_at.ensures
    ∙ length-update_at c.self.inside.entries.items c.args.o _ in
    let marks = c.self.invariant.2 in
    let order = c.self.invariant.3 in
    (flat-forget _ _ _ _ _ _ c.self.invariant.0 c.forget_at.ensures, c.self.invariant.1, omega arith, omega arith)

pub returns : goal.returns
returns c =
    rows-forget c.self.inside.entries.items c.forget_at.new.entries.items c.self.inside.values c.self.inside.index.items c.self.inside.homes.items c.self.inside.arena.links
    c.args.self.now c.args.o c.self.view_is c.forget_at.ensures
