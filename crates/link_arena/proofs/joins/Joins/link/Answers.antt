use Rattle.std.proofs.Common.{◌≡◌, ◌<◌, ◌+◌, ◌++◌, ◌∷◌, [], ◌∙◌, List, ap, length, set, subst, sym}
use Rattle.std.proofs.lemmas.List.{get_or_default, length-set, with_items_is}
use Rattle.std.specs.Vec.{with_items}
use Rattle.link_arena.specs.declared.half.Half.{Half}
use Rattle.link_arena.specs.declared.half.Head.{Head}
use Rattle.link_arena.specs.Threads.{start_onto, step_onto}
use Rattle.link_arena.specs.Lists.{JoinTables, head_at, nexts, previouses, owners, list_at, IsAfter}
use Rattle.link_arena.specs.Twins.{no_head}
use Rattle.link_arena.proofs.Threaded.{last_within, room_for, linked}
use Rattle.link_arena.proofs.Members.{contains_in}
use Rattle.link_arena.proofs.joins.Joins.link.Goals as goal

pub put_in-requires-clause-at : goal.put_in-requires-clause-at
put_in-requires-clause-at c =
    subst (λ (l : List Half). c.args.at < length l) (sym (c.as_mut_slice.ensures.value ∙ ap (λ (j : JoinTables). j.halves) c.self.view_is)) c.requires.half_within

pub put_in-requires-clause-last : goal.put_in-requires-clause-last
put_in-requires-clause-last c =
    let J : JoinTables = c.args.self.now in
    let within : c.args.id < length c.self.inside.heads.items = subst (λ (j : JoinTables). c.args.id < length j.heads) (sym c.self.view_is) c.requires.within in
    let head : c.index.result.now ≡ head_at J.heads c.args.id =
    c.index.ensures ∙ (get_or_default c.self.inside.heads.items c.args.id c.index.result.now no_head within ∙ ap (λ (j : JoinTables). head_at j.heads c.args.id) c.self.view_is) in
    let halves : c.as_mut_slice.result.now ≡ J.halves = c.as_mut_slice.ensures.value ∙ ap (λ (j : JoinTables). j.halves) c.self.view_is in
    subst (λ (l : List Half). 0 < c.index.result.now.len → c.index.result.now.last < length l) (sym halves)
    (subst (λ (h : Head). 0 < h.len → h.last < length J.halves) (sym head) (last_within J.heads J.halves c.args.id c.requires.threaded c.requires.within))

pub put_in-requires-clause-room : goal.put_in-requires-clause-room
put_in-requires-clause-room c =
    let J : JoinTables = c.args.self.now in
    let within : c.args.id < length c.self.inside.heads.items = subst (λ (j : JoinTables). c.args.id < length j.heads) (sym c.self.view_is) c.requires.within in
    let head : c.index.result.now ≡ head_at J.heads c.args.id =
    c.index.ensures ∙ (get_or_default c.self.inside.heads.items c.args.id c.index.result.now no_head within ∙ ap (λ (j : JoinTables). head_at j.heads c.args.id) c.self.view_is) in
    let halves : c.as_mut_slice.result.now ≡ J.halves = c.as_mut_slice.ensures.value ∙ ap (λ (j : JoinTables). j.halves) c.self.view_is in
    subst (λ (l : List Half). c.index.result.now.len < length l) (sym halves)
    (subst (λ (h : Head). h.len < length J.halves) (sym head)
    (room_for J.heads J.halves c.args.id c.args.at c.requires.threaded c.requires.within c.requires.half_within
    (λ h. c.requires.out c.args.id (contains_in (list_at J.heads J.halves c.args.id) c.args.at h))))

pub returns-clause-after : goal.returns-clause-after
returns-clause-after c =
    let J : JoinTables = c.args.self.now in
    let within : c.args.id < length c.self.inside.heads.items = subst (λ (j : JoinTables). c.args.id < length j.heads) (sym c.self.view_is) c.requires.within in
    let head : c.index.result.now ≡ head_at J.heads c.args.id =
    c.index.ensures ∙ (get_or_default c.self.inside.heads.items c.args.id c.index.result.now no_head within ∙ ap (λ (j : JoinTables). head_at j.heads c.args.id) c.self.view_is) in
    let halves : c.as_mut_slice.result.now ≡ J.halves = c.as_mut_slice.ensures.value ∙ ap (λ (j : JoinTables). j.halves) c.self.view_is in
    let written : (with_items c.self.inside.halves c.put_in.new.halves).items ≡ c.put_in.new.halves =
    with_items_is c.self.inside.halves c.put_in.new.halves (c.put_in.auto.halves ∙ c.as_mut_slice.ensures.len) in
    let after : IsAfter J.heads J.halves (set J.heads c.args.id c.put_in.result) c.put_in.new.halves c.args.id (list_at J.heads J.halves c.args.id ++ c.args.at ∷ []) =
    linked J.heads J.halves c.args.id c.args.at c.put_in.result c.put_in.new.halves c.requires.threaded c.requires.within c.requires.half_within
    (λ j h. c.requires.out j (contains_in (list_at J.heads J.halves j) c.args.at h))
    (c.put_in.ensures.first ∙ ap (λ (h : Head). start_onto h.len h.first c.args.at) head)
    c.put_in.ensures.last
    (c.put_in.ensures.len ∙ ap (λ (h : Head). h.len + 1) head)
    (c.put_in.ensures.nexts
    ∙ (ap (λ (l : List Half). step_onto (nexts l) c.index.result.now.len c.index.result.now.last c.args.at) halves
    ∙ ap (λ (h : Head). step_onto (nexts J.halves) h.len h.last c.args.at) head))
    (c.put_in.ensures.previouses
    ∙ (ap (λ (l : List Half). set (previouses l) c.args.at c.index.result.now.last) halves ∙ ap (λ (h : Head). set (previouses J.halves) c.args.at h.last) head))
    (c.put_in.ensures.owners ∙ ap (λ (l : List Half). set (owners l) c.args.at c.args.id) halves) in
    subst (λ (l : List Half). IsAfter J.heads J.halves (set c.self.inside.heads.items c.args.id c.put_in.result) l c.args.id (list_at J.heads J.halves c.args.id ++ c.args.at ∷ []))
    (sym written)
    (subst (λ (l : List Head). IsAfter J.heads J.halves (set l c.args.id c.put_in.result) c.put_in.new.halves c.args.id (list_at J.heads J.halves c.args.id ++ c.args.at ∷ []))
    (sym (ap (λ (j : JoinTables). j.heads) c.self.view_is)) after)

pub returns-clause-owners : goal.returns-clause-owners
returns-clause-owners c =
    let written : (with_items c.self.inside.halves c.put_in.new.halves).items ≡ c.put_in.new.halves =
    with_items_is c.self.inside.halves c.put_in.new.halves (c.put_in.auto.halves ∙ c.as_mut_slice.ensures.len) in
    ap owners written
    ∙ (c.put_in.ensures.owners ∙ ap (λ (l : List Half). set (owners l) c.args.at c.args.id) (c.as_mut_slice.ensures.value ∙ ap (λ (j : JoinTables). j.halves) c.self.view_is))

pub returns-clause-same : goal.returns-clause-same
returns-clause-same c = record {
  lists = length-set c.self.inside.heads.items c.args.id c.put_in.result ∙ ap (λ (j : JoinTables). length j.heads) c.self.view_is;
  capacity = ap (λ (j : JoinTables). j.capacity) c.self.view_is;
}

pub returns-clause-half_count : goal.returns-clause-half_count
returns-clause-half_count c =
    let written : (with_items c.self.inside.halves c.put_in.new.halves).items ≡ c.put_in.new.halves =
    with_items_is c.self.inside.halves c.put_in.new.halves (c.put_in.auto.halves ∙ c.as_mut_slice.ensures.len) in
    ap length written ∙ (c.put_in.auto.halves ∙ ap length (c.as_mut_slice.ensures.value ∙ ap (λ (j : JoinTables). j.halves) c.self.view_is))
