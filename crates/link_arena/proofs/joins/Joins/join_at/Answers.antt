use Rattle.std.proofs.Common.{ℕ, ◌∙◌, ◌+◌, ◌<◌, List, ap, subst, sym}
use Rattle.std.proofs.lemmas.Result.{IfOk-from_err, MatchResult-from_err}
use Rattle.std.specs.Prelude.{Contains}
use Rattle.link_arena.specs.Links.{others_of, joined_ends}
use Rattle.link_arena.proofs.Free.{same_twice}
use Rattle.link_arena.proofs.joins.Joins.join_at.Goals as goal

pub returns-clause-ok : goal.returns-clause-ok
returns-clause-ok c = c.join_first.ensures.view ∙ ap (λ (l : List (List ℕ)). joined_ends l c.args.first c.args.second) c.need_row.ensures.view

pub returns-in_err-need_row-clause-ok : goal.returns-in_err-need_row-clause-ok
returns-in_err-need_row-clause-ok c = IfOk-from_err c.from_residual.result _ c.from_residual.ensures.0

pub returns-in_err-need_row-clause-err : goal.returns-in_err-need_row-clause-err
returns-in_err-need_row-clause-err c = MatchResult-from_err c.from_residual.result _ _ c.from_residual.ensures.0 (λ e. c.need_row.ensures.view)

pub join_first-requires-clause-first_within : goal.join_first-requires-clause-first_within
join_first-requires-clause-first_within c = subst (λ (n : ℕ). c.args.first + 1 < n) (sym c.need_row.ensures.same.lists) c.requires.first_within

pub join_first-requires-clause-second_within : goal.join_first-requires-clause-second_within
join_first-requires-clause-second_within c = subst (λ (n : ℕ). c.args.second + 1 < n) (sym c.need_row.ensures.same.lists) c.requires.second_within

pub join_first-requires-clause-unjoined : goal.join_first-requires-clause-unjoined
join_first-requires-clause-unjoined c =
    subst (λ (l : List (List ℕ)). ¬ Contains (others_of l c.args.first) c.args.second) (sym c.need_row.ensures.view) c.requires.unjoined

pub returns-clause-same : goal.returns-clause-same
returns-clause-same c = same_twice c.args.self.now c.need_row.new.self c.join_first.new.self c.need_row.ensures.same c.join_first.ensures.same
