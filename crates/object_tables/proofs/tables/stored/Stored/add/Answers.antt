use Rattle.std.proofs.Common.{◌≡◌, ◌++◌, ◌∙◌, replicate, length, ap, sym, arith, []}
use Rattle.object_tables.proofs.StoredLemmas.{stored-add, seen-add, length-stored}
use Rattle.object_tables.proofs.tables.stored.Stored.add.Goals as goal

pub returns-clause-ok : goal.returns-clause-ok
returns-clause-ok c =
    seen-add c.self.inside.index.items c.push_zeros.new.index.items c.self.inside.lists.items c.begin_lists.new.lists.items _ c.args.count c.self.invariant
    (c.push_zeros.ensures ∙ ap (λ xs. xs ++ replicate c.args.count 0) c.reserve.ensures.items)
    (λ e. c.begin_lists.ensures.first (ap length c.reserve-2.ensures.items ∙ e))
    (λ ne. c.begin_lists.ensures.later (λ z. ne (sym (ap length c.reserve-2.ensures.items) ∙ z)) ∙ c.reserve-2.ensures.items)
    ∙ ap (λ us. us ++ replicate c.args.count []) c.self.view_is

pub invariant_of-self-2 : goal.invariant_of-self-2
invariant_of-self-2 c =
    let len : c.len.result ≡ length c.self.inside.index.items = c.len.ensures ∙ c.reserve.new.self.ok.0 ∙ ap length c.reserve.ensures.items in
    let lists : c.len-2.result ≡ length c.self.inside.lists.items = c.len-2.ensures ∙ c.self.inside.lists.ok.0 in
    let places : length c.args.self.now ≡ length c.self.inside.index.items = ap length (sym c.self.view_is)
    ∙ length-stored c.self.inside.index.items c.self.inside.lists.items in
    let small = c.requires in
    let got = c.in_ok-reserve-2.ensures.ok in
    let few = c.self.invariant.few in
    let kept = c.begin_lists.ensures.capacity in
    let known = c.self.inside.lists.ok.0 in
    stored-add c.self.inside.index.items c.push_zeros.new.index.items c.self.inside.lists.items c.begin_lists.new.lists.items _ _ c.args.count c.self.invariant (omega
    arith)
    (c.push_zeros.ensures ∙ ap (λ xs. xs ++ replicate c.args.count 0) c.reserve.ensures.items)
    (λ e. c.begin_lists.ensures.first (ap length c.reserve-2.ensures.items ∙ e))
    (λ ne. c.begin_lists.ensures.later (λ z. ne (sym (ap length c.reserve-2.ensures.items) ∙ z)) ∙ c.reserve-2.ensures.items)
    (omega arith)
