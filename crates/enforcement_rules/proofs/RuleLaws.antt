-- What the answer says is one, and nothing else is broken before it.
use Rattle.std.proofs.Common.{◌≡◌, ◌<◌, ◌⊎◌, ℕ, List, true, sym, subst, ⊎_elim}
use Rattle.std.specs.Prelude.{Some, slice_get}
use Rattle.std.proofs.lemmas.Bool.{cases_order}
use Rattle.mof_metamodel.specs.declared.desc.MetaDesc.{MetaDesc}
use Rattle.qv_syntax.specs.declared.program.Program.{Program}
use Rattle.qv_syntax.specs.declared.program.Rel.{Rel}
use Rattle.enforcement_rules.specs.Rules.{Breaks, Broken, IsEnforceable}

module _ (metas : List MetaDesc) (program : Program) where
  one_number : (number rule other least : ℕ) → Broken metas program number rule → Broken metas program other least → number ≡ other
  one_number number rule other least a b = ⊎_elim
      (λ (same : number ≡ other). same)
      (λ (apart : (number < other) ⊎ (other < number)). ⊎_elim
      (λ (less : number < other). absurd (b.first number rule less a.breaks))
      (λ (more : other < number). absurd (a.first other least more b.breaks))
      apart)
      (cases_order number other)

  one_rule : (number rule least : ℕ) → Broken metas program number rule → Broken metas program number least → rule ≡ least
  one_rule number rule least a b = ⊎_elim
      (λ (same : rule ≡ least). same)
      (λ (apart : (rule < least) ⊎ (least < rule)). ⊎_elim
      (λ (less : rule < least). absurd (b.least rule less a.breaks))
      (λ (more : least < rule). absurd (a.least least more b.breaks))
      apart)
      (cases_order rule least)

  pub one_answer : (number rule other least : ℕ) → Broken metas program number rule → Broken metas program other least → (number ≡ other) × (rule ≡ least)
  one_answer number rule other least a b =
      let same = one_number number rule other least a b in
      (same, one_rule number rule least a (subst (λ (n : ℕ). Broken metas program n least) (sym same) b))

  pub answer_refuses : (number rule : ℕ) → Broken metas program number rule → ¬ IsEnforceable metas program
  answer_refuses number rule a kept = kept number rule a.breaks

  pub kept_by_each : (number rule : ℕ) (rel : Rel) → IsEnforceable metas program → slice_get program.rels number ≡ Some rel → rel.in_direction ≡ true → ¬ Breaks metas program rel rule
  kept_by_each number rule rel kept found is breaks = kept number rule (record { rel = rel; found = found; in_direction = is; breaks = breaks })
