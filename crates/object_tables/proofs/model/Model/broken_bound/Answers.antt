use Rattle.std.proofs.Common.{ℕ, below_more, inl, inr, length, arith, sym, ◌∙◌, true≢false}
use Rattle.std.proofs.lemmas.Bool.{cases_lt}
use Rattle.object_tables.specs.Validity.{KeepsBounds}
use Rattle.object_tables.proofs.ContainmentLemmas.{live-below}
use Rattle.object_tables.proofs.BreachLemmas.{keeps-gone}
use Rattle.object_tables.proofs.model.Model.broken_bound.Goals as goal
use Rattle.object_tables.proofs.model.Model.broken_bound.Goals.{then-is_live+in_default, else-is_live}

pub loop-o-preserved : goal.loop-o-preserved
loop-o-preserved c = λ a p l. below_more (λ a. (p : ℕ) → KeepsBounds c.args.self.now a p) c.loop-o.o (λ a l p. c.loop-o.invariant a p l)
    (elim c.if-is_live.branch [
      | then-is_live+in_default w ↦ w.in_default.ensures.none
      | else-is_live w ↦ (λ p. keeps-gone c.args.self.now c.loop-o.o p (λ live. true≢false (sym (c.is_live.ensures.1 live) ∙ w.if-is_live.false)))
    ]) a l p

pub returns-clause-none : goal.returns-clause-none
returns-clause-none c = λ o p. elim (cases_lt o (length c.args.self.now.objects)) [
  | inl l ↦ c.loop-o.invariant o p (omega arith)
  | inr le ↦ keeps-gone c.args.self.now o p (λ live. let l = live-below c.args.self.now o live in absurd (omega arith))
]
