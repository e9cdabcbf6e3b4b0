use Rattle.std.proofs.Common.{arith, ◌≡◌, ◌∙◌, List, ℕ, length, max, ap, refl, sym, subst}
use Rattle.std.specs.Vec.{vec_capacity}
use Rattle.link_arena.specs.declared.half.Head.{Head}
use Rattle.link_arena.specs.Links.{Linkage, with_links, with_room}
use Rattle.link_arena.specs.Twins.{links, IsRoomy}
use Rattle.link_arena.proofs.Roomy.{IsReady, roomy_ready, roomy_wider}
use Rattle.std.proofs.lemmas.Result.{MatchResult-from_err}
use Rattle.link_arena.proofs.arena.Arena.reserve.Goals as goal

pub invariant_of-self-in_err-reserve : goal.invariant_of-self-in_err-reserve
invariant_of-self-in_err-reserve c =
    let ready : IsReady c.self.inside.joins c.need_free_list.new.joins (length c.need_free_list.new.marks.items) (vec_capacity c.need_free_list.new.marks) c.self.inside.spare_ends c.self.inside.spare_joins =
    roomy_ready c.self.inside.joins c.need_free_list.new.joins _ _ _ _ c.self.inside.spare_ends c.self.inside.spare_joins c.self.invariant
    c.in_ok-need_free_list.ensures.ok c.need_free_list.ensures.halves c.need_free_list.ensures.marks c.need_free_list.ensures.same
    (λ h. ap (λ v. length v.items) (c.need_free_list.ensures.same_marks h)) (λ h. ap (λ v. vec_capacity v) (c.need_free_list.ensures.same_marks h)) in
    subst (λ (n : ℕ). IsRoomy c.need_free_list.new.joins n (vec_capacity c.reserve.new.self) c.self.inside.spare_ends c.self.inside.spare_joins) (sym (ap length c.reserve.ensures.items))
    (roomy_wider c.need_free_list.new.joins c.need_free_list.new.joins _ _ _ _ _ ready.roomy refl refl (omega arith) c.reserve.ensures.capacity)

pub invariant_of-self-in_err-reserve_lists : goal.invariant_of-self-in_err-reserve_lists
invariant_of-self-in_err-reserve_lists c =
    let ready : IsReady c.self.inside.joins c.need_free_list.new.joins (length c.need_free_list.new.marks.items) (vec_capacity c.need_free_list.new.marks) c.self.inside.spare_ends c.self.inside.spare_joins =
    roomy_ready c.self.inside.joins c.need_free_list.new.joins _ _ _ _ c.self.inside.spare_ends c.self.inside.spare_joins c.self.invariant
    c.in_ok-need_free_list.ensures.ok c.need_free_list.ensures.halves c.need_free_list.ensures.marks c.need_free_list.ensures.same
    (λ h. ap (λ v. length v.items) (c.need_free_list.ensures.same_marks h)) (λ h. ap (λ v. vec_capacity v) (c.need_free_list.ensures.same_marks h)) in
    let wide : IsRoomy c.reserve_lists.new.self (length c.reserve.new.self.items) (vec_capacity c.reserve.new.self) c.self.inside.spare_ends c.self.inside.spare_joins =
    subst (λ (n : ℕ). IsRoomy c.reserve_lists.new.self n (vec_capacity c.reserve.new.self) c.self.inside.spare_ends c.self.inside.spare_joins) (sym (ap length c.reserve.ensures.items))
    (roomy_wider c.need_free_list.new.joins c.reserve_lists.new.self _ _ _ _ _ ready.roomy c.reserve_lists.ensures.heads c.reserve_lists.ensures.halves
    c.reserve_lists.ensures.capacity c.reserve.ensures.capacity) in
    wide

pub reserve_rows-requires-clause-arena : goal.reserve_rows-requires-clause-arena
reserve_rows-requires-clause-arena c =
    let ready : IsReady c.self.inside.joins c.need_free_list.new.joins (length c.need_free_list.new.marks.items) (vec_capacity c.need_free_list.new.marks) c.self.inside.spare_ends c.self.inside.spare_joins =
    roomy_ready c.self.inside.joins c.need_free_list.new.joins _ _ _ _ c.self.inside.spare_ends c.self.inside.spare_joins c.self.invariant
    c.in_ok-need_free_list.ensures.ok c.need_free_list.ensures.halves c.need_free_list.ensures.marks c.need_free_list.ensures.same
    (λ h. ap (λ v. length v.items) (c.need_free_list.ensures.same_marks h)) (λ h. ap (λ v. vec_capacity v) (c.need_free_list.ensures.same_marks h)) in
    let wide : IsRoomy c.reserve_lists.new.self (length c.reserve.new.self.items) (vec_capacity c.reserve.new.self) c.self.inside.spare_ends c.self.inside.spare_joins =
    subst (λ (n : ℕ). IsRoomy c.reserve_lists.new.self n (vec_capacity c.reserve.new.self) c.self.inside.spare_ends c.self.inside.spare_joins) (sym (ap length c.reserve.ensures.items))
    (roomy_wider c.need_free_list.new.joins c.reserve_lists.new.self _ _ _ _ _ ready.roomy c.reserve_lists.ensures.heads c.reserve_lists.ensures.halves
    c.reserve_lists.ensures.capacity c.reserve.ensures.capacity) in
    wide.arena

pub returns-in_err-reserve_rows-clause-err : goal.returns-in_err-reserve_rows-clause-err
returns-in_err-reserve_rows-clause-err c =
    let ready : IsReady c.self.inside.joins c.need_free_list.new.joins (length c.need_free_list.new.marks.items) (vec_capacity c.need_free_list.new.marks) c.self.inside.spare_ends c.self.inside.spare_joins =
    roomy_ready c.self.inside.joins c.need_free_list.new.joins _ _ _ _ c.self.inside.spare_ends c.self.inside.spare_joins c.self.invariant
    c.in_ok-need_free_list.ensures.ok c.need_free_list.ensures.halves c.need_free_list.ensures.marks c.need_free_list.ensures.same
    (λ h. ap (λ v. length v.items) (c.need_free_list.ensures.same_marks h)) (λ h. ap (λ v. vec_capacity v) (c.need_free_list.ensures.same_marks h)) in
    let seen : links c.reserve_lists.new.self.heads c.reserve_lists.new.self.halves ≡ links c.self.inside.joins.heads c.self.inside.joins.halves =
    ap (λ (l : List Head). links l c.reserve_lists.new.self.halves) c.reserve_lists.ensures.heads
    ∙ (ap (links c.need_free_list.new.joins.heads) c.reserve_lists.ensures.halves ∙ ready.view) in
    let was : Linkage =
    record { links = links c.self.inside.joins.heads c.self.inside.joins.halves; spare_ends = c.self.inside.spare_ends; spare_joins = c.self.inside.spare_joins } in
    MatchResult-from_err c.from_residual-in_err-reserve_rows.result _ _ c.from_residual-in_err-reserve_rows.ensures.0
    (λ e. ap (with_links was) (c.reserve_rows.ensures.view ∙ seen) ∙ c.self.view_is)

pub returns-clause-ok : goal.returns-clause-ok
returns-clause-ok c =
    let ready : IsReady c.self.inside.joins c.need_free_list.new.joins (length c.need_free_list.new.marks.items) (vec_capacity c.need_free_list.new.marks) c.self.inside.spare_ends c.self.inside.spare_joins =
    roomy_ready c.self.inside.joins c.need_free_list.new.joins _ _ _ _ c.self.inside.spare_ends c.self.inside.spare_joins c.self.invariant
    c.in_ok-need_free_list.ensures.ok c.need_free_list.ensures.halves c.need_free_list.ensures.marks c.need_free_list.ensures.same
    (λ h. ap (λ v. length v.items) (c.need_free_list.ensures.same_marks h)) (λ h. ap (λ v. vec_capacity v) (c.need_free_list.ensures.same_marks h)) in
    let seen : links c.reserve_lists.new.self.heads c.reserve_lists.new.self.halves ≡ links c.self.inside.joins.heads c.self.inside.joins.halves =
    ap (λ (l : List Head). links l c.reserve_lists.new.self.halves) c.reserve_lists.ensures.heads
    ∙ (ap (links c.need_free_list.new.joins.heads) c.reserve_lists.ensures.halves ∙ ready.view) in
    let shown_as : List (List ℕ) → ℕ → ℕ → Linkage = λ l n m. record { links = l; spare_ends = n; spare_joins = m } in
    ap (λ (l : List (List ℕ)). shown_as l c.max-self-inside.result c.max-self-inside-2.result) (c.reserve_rows.ensures.view ∙ seen)
    ∙ (ap (λ (n : ℕ). shown_as (links c.self.inside.joins.heads c.self.inside.joins.halves) n c.max-self-inside-2.result) c.max-self-inside.ensures
    ∙ (ap (shown_as (links c.self.inside.joins.heads c.self.inside.joins.halves) (max c.self.inside.spare_ends c.args.ends)) c.max-self-inside-2.ensures
    ∙ ap (λ (v : Linkage). with_room v c.args.ends c.args.joins) c.self.view_is))
