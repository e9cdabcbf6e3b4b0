use Rattle.std.proofs.Common.{◌≡◌, ◌<◌, ◌∙◌, sym, length, get_or, set, ap, arith}
use Rattle.std.proofs.lemmas.List.{get_or_read}
use Rattle.object_tables.specs.Stored.{stored}
use Rattle.object_tables.proofs.StoredLemmas.{seen-new, seen-old, length-stored}
use Rattle.object_tables.proofs.tables.stored.Stored.put.Goals as goal

pub returns-then-number-eq0 : goal.returns-then-number-eq0
returns-then-number-eq0 c =
    let inside : c.args.n < length c.self.inside.index.items = (let v = ap length c.self.view_is in let s =
    length-stored c.self.inside.index.items c.self.inside.lists.items in let r = c.requires in omega arith) in
    let read : c.index-number.result.now ≡ get_or c.self.inside.index.items c.args.n 0 =
    get_or_read c.self.inside.index.items c.args.n c.index-number.result.now inside c.index-number.ensures 0 in
    let len : c.len.result ≡ length c.self.inside.lists.items = c.len.ensures ∙ c.self.inside.lists.ok.0 in
    ap (λ xs. stored xs c.push_reserved.new.self.items) (c.write_number.ensures ∙ ap (set c.self.inside.index.items c.args.n) len)
    ∙ ap (stored (set c.self.inside.index.items c.args.n (length c.self.inside.lists.items))) c.push_reserved.ensures.items
    ∙ seen-new c.self.inside.index.items c.self.inside.lists.items _ c.args.n c.args.values c.self.invariant inside (sym read ∙ c.if-number-eq0.true)
    ∙ ap (λ xs. set xs c.args.n c.args.values) c.self.view_is

pub returns-else-number-eq0 : goal.returns-else-number-eq0
returns-else-number-eq0 c =
    let inside : c.args.n < length c.self.inside.index.items = (let v = ap length c.self.view_is in let s =
    length-stored c.self.inside.index.items c.self.inside.lists.items in let r = c.requires in omega arith) in
    let read : c.index-number.result.now ≡ get_or c.self.inside.index.items c.args.n 0 =
    get_or_read c.self.inside.index.items c.args.n c.index-number.result.now inside c.index-number.ensures 0 in
    ap (stored c.self.inside.index.items) (c.write_list.ensures.items ∙ ap (λ x. set c.self.inside.lists.items x c.args.values) read)
    ∙ seen-old c.self.inside.index.items c.self.inside.lists.items _ c.args.n c.args.values c.self.invariant inside (λ z. c.if-number-eq0.false (read ∙ z))
    ∙ ap (λ xs. set xs c.args.n c.args.values) c.self.view_is
