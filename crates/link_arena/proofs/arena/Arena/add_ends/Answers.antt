use Rattle.std.proofs.Common.{arith, ◌≡◌, ◌<◌, ◌≤◌, ◌+◌, ◌-◌, ◌^◌, ◌∙◌, ◌++◌, List, ℕ, [], length, replicate, ap, refl, sym, subst}
use Rattle.std.specs.Vec.{vec_capacity}
use Rattle.link_arena.specs.declared.half.Head.{Head}
use Rattle.link_arena.specs.Links.{Linkage, with_ends}
use Rattle.link_arena.specs.Twins.{links, IsRoomy}
use Rattle.link_arena.proofs.Roomy.{IsReady, IsExtended, roomy_as, roomy_ready, roomy_wider, roomy_more}
use Rattle.link_arena.proofs.arena.Arena.add_ends.Goals as goal

pub invariant_of-self-in_err-reserve : goal.invariant_of-self-in_err-reserve
invariant_of-self-in_err-reserve c =
    let ready : IsReady c.self.inside.joins c.need_free_list.new.joins (length c.need_free_list.new.marks.items) (vec_capacity c.need_free_list.new.marks) c.self.inside.spare_ends c.self.inside.spare_joins =
    roomy_ready c.self.inside.joins c.need_free_list.new.joins _ _ _ _ c.self.inside.spare_ends c.self.inside.spare_joins c.self.invariant
    c.in_ok-need_free_list.ensures.ok c.need_free_list.ensures.halves c.need_free_list.ensures.marks c.need_free_list.ensures.same
    (λ h. ap (λ v. length v.items) (c.need_free_list.ensures.same_marks h)) (λ h. ap (λ v. vec_capacity v) (c.need_free_list.ensures.same_marks h)) in
    subst (λ (n : ℕ). IsRoomy c.need_free_list.new.joins n (vec_capacity c.reserve.new.self) c.self.inside.spare_ends c.self.inside.spare_joins) (sym (ap length c.reserve.ensures.items))
    (roomy_wider c.need_free_list.new.joins c.need_free_list.new.joins _ _ _ _ _ ready.roomy refl refl (omega arith) c.reserve.ensures.capacity)

pub invariant_of-self-in_err-reserve_lists : goal.invariant_of-self-in_err-reserve_lists
invariant_of-self-in_err-reserve_lists c =
    let ready : IsReady c.self.inside.joins c.need_free_list.new.joins (length c.need_free_list.new.marks.items) (vec_capacity c.need_free_list.new.marks) c.self.inside.spare_ends c.self.inside.spare_joins =
    roomy_ready c.self.inside.joins c.need_free_list.new.joins _ _ _ _ c.self.inside.spare_ends c.self.inside.spare_joins c.self.invariant
    c.in_ok-need_free_list.ensures.ok c.need_free_list.ensures.halves c.need_free_list.ensures.marks c.need_free_list.ensures.same
    (λ h. ap (λ v. length v.items) (c.need_free_list.ensures.same_marks h)) (λ h. ap (λ v. vec_capacity v) (c.need_free_list.ensures.same_marks h)) in
    let wide : IsRoomy c.reserve_lists.new.self (length c.reserve.new.self.items) (vec_capacity c.reserve.new.self) c.self.inside.spare_ends c.self.inside.spare_joins =
    subst (λ (n : ℕ). IsRoomy c.reserve_lists.new.self n (vec_capacity c.reserve.new.self) c.self.inside.spare_ends c.self.inside.spare_joins) (sym (ap length c.reserve.ensures.items))
    (roomy_wider c.need_free_list.new.joins c.reserve_lists.new.self _ _ _ _ _ ready.roomy c.reserve_lists.ensures.heads c.reserve_lists.ensures.halves
    c.reserve_lists.ensures.capacity c.reserve.ensures.capacity) in
    wide

pub invariant_of-self-2 : goal.invariant_of-self-2
invariant_of-self-2 c =
    let ready : IsReady c.self.inside.joins c.need_free_list.new.joins (length c.need_free_list.new.marks.items) (vec_capacity c.need_free_list.new.marks) c.self.inside.spare_ends c.self.inside.spare_joins =
    roomy_ready c.self.inside.joins c.need_free_list.new.joins _ _ _ _ c.self.inside.spare_ends c.self.inside.spare_joins c.self.invariant
    c.in_ok-need_free_list.ensures.ok c.need_free_list.ensures.halves c.need_free_list.ensures.marks c.need_free_list.ensures.same
    (λ h. ap (λ v. length v.items) (c.need_free_list.ensures.same_marks h)) (λ h. ap (λ v. vec_capacity v) (c.need_free_list.ensures.same_marks h)) in
    let wide : IsRoomy c.reserve_lists.new.self (length c.reserve.new.self.items) (vec_capacity c.reserve.new.self) c.self.inside.spare_ends c.self.inside.spare_joins =
    subst (λ (n : ℕ). IsRoomy c.reserve_lists.new.self n (vec_capacity c.reserve.new.self) c.self.inside.spare_ends c.self.inside.spare_joins) (sym (ap length c.reserve.ensures.items))
    (roomy_wider c.need_free_list.new.joins c.reserve_lists.new.self _ _ _ _ _ ready.roomy c.reserve_lists.ensures.heads c.reserve_lists.ensures.halves
    c.reserve_lists.ensures.capacity c.reserve.ensures.capacity) in
    let some : 0 < length c.reserve_lists.new.self.heads = omega (arith, ready.some, ap length c.reserve_lists.ensures.heads) in
    let few : length c.reserve_lists.new.self.heads + c.args.count ≤ 2 ^ 32 =
    omega (arith, ready.count, ap length c.reserve_lists.ensures.heads, ap (λ (v : Linkage). length v.links) c.self.view_is, c.requires) in
    let more : IsExtended c.reserve_lists.new.self c.push_lists.new.self (length c.push_marks.new.marks.items) (vec_capacity c.reserve.new.self)
    (c.self.inside.spare_ends - c.args.count) c.self.inside.spare_joins c.args.count =
    roomy_more c.reserve_lists.new.self c.push_lists.new.self _ _ _ _ _ c.args.count wide some few c.push_lists.ensures.heads c.push_lists.ensures.halves
    c.push_lists.ensures.capacity c.push_marks.ensures.count in
    roomy_as c.push_lists.new.self _ _ _ _ _ _ _ _ more.roomy refl c.push_marks.ensures.capacity c.saturating_sub-self-inside.ensures refl

pub returns-clause-ok : goal.returns-clause-ok
returns-clause-ok c =
    let ready : IsReady c.self.inside.joins c.need_free_list.new.joins (length c.need_free_list.new.marks.items) (vec_capacity c.need_free_list.new.marks) c.self.inside.spare_ends c.self.inside.spare_joins =
    roomy_ready c.self.inside.joins c.need_free_list.new.joins _ _ _ _ c.self.inside.spare_ends c.self.inside.spare_joins c.self.invariant
    c.in_ok-need_free_list.ensures.ok c.need_free_list.ensures.halves c.need_free_list.ensures.marks c.need_free_list.ensures.same
    (λ h. ap (λ v. length v.items) (c.need_free_list.ensures.same_marks h)) (λ h. ap (λ v. vec_capacity v) (c.need_free_list.ensures.same_marks h)) in
    let wide : IsRoomy c.reserve_lists.new.self (length c.reserve.new.self.items) (vec_capacity c.reserve.new.self) c.self.inside.spare_ends c.self.inside.spare_joins =
    subst (λ (n : ℕ). IsRoomy c.reserve_lists.new.self n (vec_capacity c.reserve.new.self) c.self.inside.spare_ends c.self.inside.spare_joins) (sym (ap length c.reserve.ensures.items))
    (roomy_wider c.need_free_list.new.joins c.reserve_lists.new.self _ _ _ _ _ ready.roomy c.reserve_lists.ensures.heads c.reserve_lists.ensures.halves
    c.reserve_lists.ensures.capacity c.reserve.ensures.capacity) in
    let some : 0 < length c.reserve_lists.new.self.heads = omega (arith, ready.some, ap length c.reserve_lists.ensures.heads) in
    let few : length c.reserve_lists.new.self.heads + c.args.count ≤ 2 ^ 32 =
    omega (arith, ready.count, ap length c.reserve_lists.ensures.heads, ap (λ (v : Linkage). length v.links) c.self.view_is, c.requires) in
    let more : IsExtended c.reserve_lists.new.self c.push_lists.new.self (length c.push_marks.new.marks.items) (vec_capacity c.reserve.new.self)
    (c.self.inside.spare_ends - c.args.count) c.self.inside.spare_joins c.args.count =
    roomy_more c.reserve_lists.new.self c.push_lists.new.self _ _ _ _ _ c.args.count wide some few c.push_lists.ensures.heads c.push_lists.ensures.halves
    c.push_lists.ensures.capacity c.push_marks.ensures.count in
    let seen : links c.reserve_lists.new.self.heads c.reserve_lists.new.self.halves ≡ links c.self.inside.joins.heads c.self.inside.joins.halves =
    ap (λ (l : List Head). links l c.reserve_lists.new.self.halves) c.reserve_lists.ensures.heads
    ∙ (ap (links c.need_free_list.new.joins.heads) c.reserve_lists.ensures.halves ∙ ready.view) in
    let shown_as : List (List ℕ) → ℕ → Linkage = λ l n. record { links = l; spare_ends = n; spare_joins = c.self.inside.spare_joins } in
    ap (shown_as (links c.push_lists.new.self.heads c.push_lists.new.self.halves)) c.saturating_sub-self-inside.ensures
    ∙ (ap (λ (l : List (List ℕ)). shown_as l (c.self.inside.spare_ends - c.args.count)) (more.view ∙ ap (λ (l : List (List ℕ)). l ++ replicate c.args.count []) seen)
    ∙ ap (λ (v : Linkage). with_ends v c.args.count) c.self.view_is)
