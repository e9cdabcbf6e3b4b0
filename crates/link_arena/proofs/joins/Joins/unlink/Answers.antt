use Rattle.std.proofs.Common.{◌≡◌, ◌≢◌, ◌<◌, ◌-◌, ◌∙◌, List, ap, get_or, length, set, subst, sym}
use Rattle.std.proofs.lemmas.List.{get_or_default, length-set, with_items_is}
use Rattle.std.specs.Vec.{with_items}
use Rattle.link_arena.specs.declared.half.Half.{Half}
use Rattle.link_arena.specs.declared.half.Head.{Head}
use Rattle.link_arena.specs.Links.{without}
use Rattle.link_arena.specs.Threads.{start_past, step_past}
use Rattle.link_arena.specs.Lists.{JoinTables, head_at, nexts, previouses, owners, list_at, IsAfter}
use Rattle.link_arena.specs.Twins.{no_head}
use Rattle.link_arena.proofs.Threaded.{bounds_around, before_within, after_within, unlinked}
use Rattle.link_arena.proofs.Members.{in_from}
use Rattle.link_arena.proofs.joins.Joins.unlink.Goals as goal

pub take_out-requires-clause-at : goal.take_out-requires-clause-at
take_out-requires-clause-at c =
    let J : JoinTables = c.args.self.now in
    subst (λ (l : List Half). c.args.at < length l) (sym (c.as_mut_slice.ensures.value ∙ ap (λ (j : JoinTables). j.halves) c.self.view_is))
    (bounds_around J.heads J.halves c.args.id c.args.at c.requires.threaded c.requires.within (in_from (list_at J.heads J.halves c.args.id) c.args.at c.requires.there)).0

pub take_out-requires-clause-some : goal.take_out-requires-clause-some
take_out-requires-clause-some c =
    let J : JoinTables = c.args.self.now in
    let within : c.args.id < length c.self.inside.heads.items = subst (λ (j : JoinTables). c.args.id < length j.heads) (sym c.self.view_is) c.requires.within in
    let head : c.index.result.now ≡ head_at J.heads c.args.id =
    c.index.ensures ∙ (get_or_default c.self.inside.heads.items c.args.id c.index.result.now no_head within ∙ ap (λ (j : JoinTables). head_at j.heads c.args.id) c.self.view_is) in
    subst (λ (h : Head). 0 < h.len) (sym head)
    (bounds_around J.heads J.halves c.args.id c.args.at c.requires.threaded c.requires.within (in_from (list_at J.heads J.halves c.args.id) c.args.at c.requires.there)).1

pub take_out-requires-clause-before : goal.take_out-requires-clause-before
take_out-requires-clause-before c =
    let J : JoinTables = c.args.self.now in
    let within : c.args.id < length c.self.inside.heads.items = subst (λ (j : JoinTables). c.args.id < length j.heads) (sym c.self.view_is) c.requires.within in
    let head : c.index.result.now ≡ head_at J.heads c.args.id =
    c.index.ensures ∙ (get_or_default c.self.inside.heads.items c.args.id c.index.result.now no_head within ∙ ap (λ (j : JoinTables). head_at j.heads c.args.id) c.self.view_is) in
    let halves : c.as_mut_slice.result.now ≡ J.halves = c.as_mut_slice.ensures.value ∙ ap (λ (j : JoinTables). j.halves) c.self.view_is in
    subst (λ (l : List Half). c.index.result.now.first ≢ c.args.at → get_or (previouses l) c.args.at 0 < length l) (sym halves)
    (subst (λ (h : Head). h.first ≢ c.args.at → get_or (previouses J.halves) c.args.at 0 < length J.halves) (sym head)
    (before_within J.heads J.halves c.args.id c.args.at c.requires.threaded c.requires.within (in_from (list_at J.heads J.halves c.args.id) c.args.at c.requires.there)))

pub take_out-requires-clause-after : goal.take_out-requires-clause-after
take_out-requires-clause-after c =
    let J : JoinTables = c.args.self.now in
    let within : c.args.id < length c.self.inside.heads.items = subst (λ (j : JoinTables). c.args.id < length j.heads) (sym c.self.view_is) c.requires.within in
    let head : c.index.result.now ≡ head_at J.heads c.args.id =
    c.index.ensures ∙ (get_or_default c.self.inside.heads.items c.args.id c.index.result.now no_head within ∙ ap (λ (j : JoinTables). head_at j.heads c.args.id) c.self.view_is) in
    let halves : c.as_mut_slice.result.now ≡ J.halves = c.as_mut_slice.ensures.value ∙ ap (λ (j : JoinTables). j.halves) c.self.view_is in
    subst (λ (l : List Half). c.index.result.now.last ≢ c.args.at → get_or (nexts l) c.args.at 0 < length l) (sym halves)
    (subst (λ (h : Head). h.last ≢ c.args.at → get_or (nexts J.halves) c.args.at 0 < length J.halves) (sym head)
    (after_within J.heads J.halves c.args.id c.args.at c.requires.threaded c.requires.within (in_from (list_at J.heads J.halves c.args.id) c.args.at c.requires.there)))

pub returns-clause-after : goal.returns-clause-after
returns-clause-after c =
    let J : JoinTables = c.args.self.now in
    let within : c.args.id < length c.self.inside.heads.items = subst (λ (j : JoinTables). c.args.id < length j.heads) (sym c.self.view_is) c.requires.within in
    let head : c.index.result.now ≡ head_at J.heads c.args.id =
    c.index.ensures ∙ (get_or_default c.self.inside.heads.items c.args.id c.index.result.now no_head within ∙ ap (λ (j : JoinTables). head_at j.heads c.args.id) c.self.view_is) in
    let halves : c.as_mut_slice.result.now ≡ J.halves = c.as_mut_slice.ensures.value ∙ ap (λ (j : JoinTables). j.halves) c.self.view_is in
    let written : (with_items c.self.inside.halves c.take_out.new.halves).items ≡ c.take_out.new.halves =
    with_items_is c.self.inside.halves c.take_out.new.halves (c.take_out.auto.halves ∙ c.as_mut_slice.ensures.len) in
    let after : IsAfter J.heads J.halves (set J.heads c.args.id c.take_out.result) c.take_out.new.halves c.args.id (without c.args.at (list_at J.heads J.halves c.args.id)) =
    unlinked J.heads J.halves c.args.id c.args.at c.take_out.result c.take_out.new.halves c.requires.threaded c.requires.within
    (in_from (list_at J.heads J.halves c.args.id) c.args.at c.requires.there)
    (c.take_out.ensures.first ∙ (ap (λ (l : List Half). start_past (nexts l) c.index.result.now.first c.args.at) halves ∙ ap (λ (h : Head). start_past (nexts J.halves) h.first c.args.at) head))
    (c.take_out.ensures.last ∙ (ap (λ (l : List Half). start_past (previouses l) c.index.result.now.last c.args.at) halves ∙ ap (λ (h : Head). start_past (previouses J.halves) h.last c.args.at) head))
    (c.take_out.ensures.len ∙ ap (λ (h : Head). h.len - 1) head)
    (c.take_out.ensures.nexts
    ∙ (ap (λ (l : List Half). step_past (nexts l) c.index.result.now.first (get_or (previouses l) c.args.at 0) c.args.at) halves
    ∙ ap (λ (h : Head). step_past (nexts J.halves) h.first (get_or (previouses J.halves) c.args.at 0) c.args.at) head))
    (c.take_out.ensures.previouses
    ∙ (ap (λ (l : List Half). step_past (previouses l) c.index.result.now.last (get_or (nexts l) c.args.at 0) c.args.at) halves
    ∙ ap (λ (h : Head). step_past (previouses J.halves) h.last (get_or (nexts J.halves) c.args.at 0) c.args.at) head))
    (c.take_out.ensures.owners ∙ ap owners halves) in
    subst (λ (l : List Half). IsAfter J.heads J.halves (set c.self.inside.heads.items c.args.id c.take_out.result) l c.args.id (without c.args.at (list_at J.heads J.halves c.args.id)))
    (sym written)
    (subst (λ (l : List Head). IsAfter J.heads J.halves (set l c.args.id c.take_out.result) c.take_out.new.halves c.args.id (without c.args.at (list_at J.heads J.halves c.args.id)))
    (sym (ap (λ (j : JoinTables). j.heads) c.self.view_is)) after)

pub returns-clause-owners : goal.returns-clause-owners
returns-clause-owners c =
    let written : (with_items c.self.inside.halves c.take_out.new.halves).items ≡ c.take_out.new.halves =
    with_items_is c.self.inside.halves c.take_out.new.halves (c.take_out.auto.halves ∙ c.as_mut_slice.ensures.len) in
    ap owners written ∙ (c.take_out.ensures.owners ∙ ap owners (c.as_mut_slice.ensures.value ∙ ap (λ (j : JoinTables). j.halves) c.self.view_is))

pub returns-clause-same : goal.returns-clause-same
returns-clause-same c = record {
  lists = length-set c.self.inside.heads.items c.args.id c.take_out.result ∙ ap (λ (j : JoinTables). length j.heads) c.self.view_is;
  capacity = ap (λ (j : JoinTables). j.capacity) c.self.view_is;
}

pub returns-clause-half_count : goal.returns-clause-half_count
returns-clause-half_count c =
    let written : (with_items c.self.inside.halves c.take_out.new.halves).items ≡ c.take_out.new.halves =
    with_items_is c.self.inside.halves c.take_out.new.halves (c.take_out.auto.halves ∙ c.as_mut_slice.ensures.len) in
    ap length written ∙ (c.take_out.auto.halves ∙ ap length (c.as_mut_slice.ensures.value ∙ ap (λ (j : JoinTables). j.halves) c.self.view_is))
