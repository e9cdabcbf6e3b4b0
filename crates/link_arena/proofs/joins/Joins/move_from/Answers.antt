use Rattle.std.specs.Prelude.{Contains}
use Rattle.std.proofs.Common.{◌≡◌, ℕ, ◌<◌, List, [], get_or, subst, sym, ◌∙◌, ap}
use Rattle.std.proofs.lemmas.List.{length-map}
use Rattle.link_arena.specs.Links.{with_last}
use Rattle.link_arena.specs.Lists.{lists, list_of, list_at, moved_to}
use Rattle.link_arena.proofs.Filed.{in_some_list, out_of_all, filed-moved}
use Rattle.link_arena.proofs.Members.{IsIn, in_from, filed_in}
use Rattle.link_arena.proofs.Free.{same_twice}
use Rattle.link_arena.proofs.joins.Joins.move_from.Goals as goal

pub unlink-requires-clause-there : goal.unlink-requires-clause-there
unlink-requires-clause-there c =
    subst (λ (i : ℕ). Contains (list_at c.args.self.now.heads c.args.self.now.halves i) c.args.at)
    (sym c.requires.from) (c.requires.filed.all c.args.at c.requires.half_within)

pub unlink-requires-clause-within : goal.unlink-requires-clause-within
unlink-requires-clause-within c =
    let has : IsIn c.args.at (list_at c.args.self.now.heads c.args.self.now.halves c.args.from) =
    subst (λ (i : ℕ). IsIn c.args.at (list_at c.args.self.now.heads c.args.self.now.halves i))
    (sym c.requires.from) (filed_in c.requires.filed c.args.at c.requires.half_within) in
    subst (λ (n : ℕ). c.args.from < n) (length-map c.args.self.now.heads (list_of c.args.self.now.halves))
    (in_some_list (lists c.args.self.now.heads c.args.self.now.halves) c.args.from c.args.at has)

pub link-requires-clause-out : goal.link-requires-clause-out
link-requires-clause-out c = λ j has.
    let has_from : IsIn c.args.at (list_at c.args.self.now.heads c.args.self.now.halves c.args.from) =
    subst (λ (i : ℕ). IsIn c.args.at (list_at c.args.self.now.heads c.args.self.now.halves i))
    (sym c.requires.from) (filed_in c.requires.filed c.args.at c.requires.half_within) in
    out_of_all c.args.self.now.heads c.args.self.now.halves c.requires.filed.threaded c.args.from c.args.at
    (in_some_list (lists c.args.self.now.heads c.args.self.now.halves) c.args.from c.args.at has_from)
    (sym c.requires.from) j
    (subst (λ (l : List (List ℕ)). IsIn c.args.at (get_or l j [])) c.unlink.ensures.after.lists_are (in_from (list_at c.unlink.new.self.heads c.unlink.new.self.halves j) c.args.at has))

pub returns-clause-filed : goal.returns-clause-filed
returns-clause-filed c =
    let all : lists c.link.new.self.heads c.link.new.self.halves ≡ moved_to (lists c.args.self.now.heads c.args.self.now.halves) c.args.from c.args.to c.args.at =
    c.link.ensures.after.lists_are
    ∙ ap (λ (l : List (List ℕ)). with_last l c.args.to c.args.at) c.unlink.ensures.after.lists_are in
    filed-moved c.args.self.now.heads c.args.self.now.halves c.link.new.self.heads c.link.new.self.halves c.args.to c.args.at
    c.requires.filed c.requires.within c.requires.half_within c.link.ensures.after.threaded
    (all ∙ ap (λ (i : ℕ). moved_to (lists c.args.self.now.heads c.args.self.now.halves) i c.args.to c.args.at) c.requires.from)
    (cc)

pub returns-clause-same : goal.returns-clause-same
returns-clause-same c = same_twice c.args.self.now c.unlink.new.self c.link.new.self c.unlink.ensures.same c.link.ensures.same

pub returns-clause-half_count : goal.returns-clause-half_count
returns-clause-half_count c = c.link.ensures.half_count ∙ c.unlink.ensures.half_count
