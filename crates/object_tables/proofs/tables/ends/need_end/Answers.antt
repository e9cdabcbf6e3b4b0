use Rattle.std.proofs.Common.{◌≡◌, ◌<◌, ◌∙◌, ap, sym, length, get_or, arith}
use Rattle.std.proofs.lemmas.List.{get_or_read}
use Rattle.link_arena.specs.Links.{Linkage}
use Rattle.object_tables.proofs.FlatLemmas.{number_placed}
use Rattle.object_tables.proofs.GrowLemmas.{ends_few, grown_at}
use Rattle.object_tables.proofs.tables.ends.need_end.Goals as goal

pub returns-clause-grown : goal.returns-clause-grown
returns-clause-grown c =
    let inside : c.number_of-n.result < length c.args.index.now.items = (let p = number_placed _ _ _ _ _ _ c.requires.flat c.requires.spot in let e =
    c.number_of-n.ensures in omega arith) in
    let read : c.index-end.result.now ≡ get_or c.args.index.now.items c.number_of-n.result 0 =
    get_or_read c.args.index.now.items c.number_of-n.result c.index-end.result.now inside c.index-end.ensures 0 in
    grown_at _ _ _ _ _ _ _ _ _ c.number_of-n.result c.in_ok-end.end c.requires.flat c.in_ok-end.ensures.simple c.requires.spot c.number_of-n.ensures (sym read
    ∙ c.if-end-ne0.false) c.in_ok-end.ensures.number
    c.write_number.ensures c.in_ok-end.ensures.homes (ap (λ (v : Linkage). v.links) c.in_ok-end.ensures.arena)

pub add_end-requires-clause-room : goal.add_end-requires-clause-room
add_end-requires-clause-room c =
    let inside : c.number_of-n.result < length c.args.index.now.items =
    (let p = number_placed _ _ _ _ _ _ c.requires.flat c.requires.spot in let e = c.number_of-n.ensures in omega arith) in
    let read : c.index-end.result.now ≡ get_or c.args.index.now.items c.number_of-n.result 0 =
    get_or_read c.args.index.now.items c.number_of-n.result c.index-end.result.now inside c.index-end.ensures 0 in
    ends_few _ _ _ _ _ _ c.number_of-n.result c.requires.flat c.requires.spot c.number_of-n.ensures (sym read ∙ c.if-end-ne0.false)
