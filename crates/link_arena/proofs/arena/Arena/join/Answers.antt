use Rattle.std.proofs.Common.{arith, ◌∙◌, ◌-◌, List, ℕ, ap, length, subst, sym}
use Rattle.std.proofs.lemmas.Result.{IfOk-from_err, MatchResult-from_err}
use Rattle.std.specs.Prelude.{Contains}
use Rattle.link_arena.specs.Links.{Linkage, others_of, with_links, with_join}
use Rattle.link_arena.specs.Twins.{links}
use Rattle.link_arena.proofs.Found.{length_links}
use Rattle.link_arena.proofs.Roomy.{roomy_same}
use Rattle.link_arena.proofs.arena.Arena.join.Goals as goal

pub join_at-requires-clause-arena : goal.join_at-requires-clause-arena
join_at-requires-clause-arena c = c.self.invariant.arena

pub join_at-requires-clause-first_within : goal.join_at-requires-clause-first_within
join_at-requires-clause-first_within c =
    omega (arith, length_links c.self.inside.joins.heads c.self.inside.joins.halves, ap (λ (v : Linkage). length v.links) c.self.view_is, c.requires.first_within)

pub join_at-requires-clause-second_within : goal.join_at-requires-clause-second_within
join_at-requires-clause-second_within c =
    omega (arith, length_links c.self.inside.joins.heads c.self.inside.joins.halves, ap (λ (v : Linkage). length v.links) c.self.view_is, c.requires.second_within)

pub join_at-requires-clause-unjoined : goal.join_at-requires-clause-unjoined
join_at-requires-clause-unjoined c =
    subst (λ (v : Linkage). ¬ Contains (others_of v.links c.args.first) c.args.second) (sym c.self.view_is) c.requires.unjoined

pub invariant_of-self : goal.invariant_of-self
invariant_of-self c =
    roomy_same c.self.inside.joins c.join_at.new.self _ _ _ _ c.self.inside.spare_joins c.self.invariant c.join_at.ensures.arena c.join_at.ensures.same
    (omega (arith, c.self.invariant.joins, c.in_err-join_at.ensures.free_stay))

pub invariant_of-self-2 : goal.invariant_of-self-2
invariant_of-self-2 c =
    roomy_same c.self.inside.joins c.join_at.new.self _ _ _ _ c.saturating_sub-self-inside.result c.self.invariant c.join_at.ensures.arena c.join_at.ensures.same
    (omega (arith, c.self.invariant.joins, c.in_ok-join_at.ensures.free, c.saturating_sub-self-inside.ensures))

pub returns-clause-ok : goal.returns-clause-ok
returns-clause-ok c =
    let shown_as : List (List ℕ) → ℕ → Linkage = λ l n. record { links = l; spare_ends = c.self.inside.spare_ends; spare_joins = n } in
    ap (shown_as (links c.join_at.new.self.heads c.join_at.new.self.halves)) c.saturating_sub-self-inside.ensures
    ∙ (ap (λ (l : List (List ℕ)). shown_as l (c.self.inside.spare_joins - 1)) c.in_ok-join_at.ensures.ok ∙ ap (λ (v : Linkage). with_join v c.args.first c.args.second) c.self.view_is)

pub returns-in_err-join_at-clause-ok : goal.returns-in_err-join_at-clause-ok
returns-in_err-join_at-clause-ok c = IfOk-from_err c.from_residual.result _ c.from_residual.ensures.0

pub returns-in_err-join_at-clause-err : goal.returns-in_err-join_at-clause-err
returns-in_err-join_at-clause-err c =
    let was : Linkage =
    record { links = links c.self.inside.joins.heads c.self.inside.joins.halves; spare_ends = c.self.inside.spare_ends; spare_joins = c.self.inside.spare_joins } in
    MatchResult-from_err c.from_residual.result _ _ c.from_residual.ensures.0 (λ e. ap (with_links was) c.in_err-join_at.ensures.err ∙ c.self.view_is)
