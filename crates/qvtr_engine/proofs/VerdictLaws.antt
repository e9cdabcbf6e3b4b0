-- A question has one verdict, where a relation has one least failing binding.
use Rattle.std.proofs.Common.{◌≡◌, ℕ, inl, inr, refl, sym, ◌∙◌, ap, subst, arith}
use Rattle.std.specs.Prelude.{slice_get}
use Rattle.std.proofs.lemmas.Bool.{cases_lt}
use Rattle.qvtr_semantics.specs.Satisfaction.{LeastFailing}
use Rattle.qvtr_semantics.specs.Templates.{Values}
use Rattle.answer_texts.specs.Question.{Question}
use Rattle.answer_texts.specs.AnswerTexts.{failing_text}
use Rattle.qvtr_engine.specs.CheckedRelations.{IsVerdict, yes, no}
use Rattle.qvtr_engine.specs.Reply.{Reply, fails}
use Rattle.std.proofs.lemmas.Option.{same_Some}

abbrev pub HaveOneLeast : Question → Type 0
HaveOneLeast q = (n : ℕ) (b c : Values) → LeastFailing q.program q.models n b → LeastFailing q.program q.models n c → b ≡ c

-- two least failing bindings are of one relation, and one
one_text : (q : Question) → HaveOneLeast q → (n m : ℕ) (b c : Values) (x : LeastFailing q.program q.models n b) (y : LeastFailing q.program q.models m c)
    → n ≡ m → fails (failing_text q x.failing.rel b) ≡ fails (failing_text q y.failing.rel c)
one_text q one n m b c x y same =
    let rel : x.failing.rel ≡ y.failing.rel = same_Some x.failing.rel y.failing.rel (sym x.failing.top.is ∙ ap (λ k. slice_get q.program.rels k) same ∙ y.failing.top.is) in
    let values : b ≡ c = one n b c x (subst (λ k. LeastFailing q.program q.models k c) (sym same) y) in
    λ i. fails (failing_text q (rel i) (values i))

-- each is of the first relation that fails
one_failing : (q : Question) → HaveOneLeast q → (n m : ℕ) (b c : Values) (x : LeastFailing q.program q.models n b) (y : LeastFailing q.program q.models m c)
    → fails (failing_text q x.failing.rel b) ≡ fails (failing_text q y.failing.rel c)
one_failing q one n m b c x y = elim (cases_lt n m) [
  | inl less ↦ absurd (y.first n b less x.failing)
  | inr at_least ↦ elim (cases_lt m n) [
    | inl less ↦ absurd (x.first m c less y.failing)
    | inr at_most ↦ one_text q one n m b c x y (omega (arith, at_least, at_most))
  ]
]

pub one_verdict : (q : Question) → HaveOneLeast q → (r o : Reply) → IsVerdict q r → IsVerdict q o → r ≡ o
one_verdict q one r o (yes s) (yes t) = refl
one_verdict q one r o (yes s) (no m c y) = absurd (s m c y.failing)
one_verdict q one r o (no n b x) (yes t) = absurd (t n b x.failing)
one_verdict q one r o (no n b x) (no m c y) = one_failing q one n m b c x y
