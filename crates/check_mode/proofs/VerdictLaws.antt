-- A program has one verdict over its models.
use Rattle.std.specs.Prelude.{◌≡◌, ℕ, List}
use Rattle.std.proofs.Common.{refl, sym, ap, subst, ◌∙◌}
use Rattle.object_tables.specs.Models.{ModelData}
use Rattle.qv_syntax.specs.declared.program.Program.{Program}
use Rattle.qvtr_semantics.specs.declared.binding.Binding.{Binding}
use Rattle.qvtr_semantics.specs.Templates.{Values}
use Rattle.qvtr_semantics.specs.Satisfaction.{LeastFailing}
use Rattle.relation_calls.proofs.FailingLaws.{first_is_one, least_is_one}
use Rattle.check_mode.specs.declared.verdict.Verdict.{Verdict}
use Rattle.check_mode.specs.declared.verdict.Verdict.TheVariants as verdicts
use Rattle.check_mode.specs.Verdicts.{IsVerdict}

abbrev binding_with : Values → Binding
binding_with values = record { values = values }

same_no : (n k : ℕ) (b c : Binding) → n ≡ k → b.values ≡ c.values → verdicts.No n b ≡ verdicts.No k c
same_no n k b c here same = ap (λ m. verdicts.No m b) here ∙ ap (λ v. verdicts.No k (binding_with v)) same

pub one_verdict : (program : Program) (models : List ModelData) (verdict other : Verdict) → IsVerdict program models verdict → IsVerdict program models other → verdict ≡ other
one_verdict program models verdicts.Yes verdicts.Yes x y = refl
one_verdict program models verdicts.Yes (verdicts.No n b) x y = absurd (x n b.values y.failing)
one_verdict program models (verdicts.No n b) verdicts.Yes x y = absurd (y n b.values x.failing)
one_verdict program models (verdicts.No n b) (verdicts.No k c) x y =
    let here = first_is_one program models n k b.values c.values x y in
    same_no n k b c here (least_is_one program models n b.values c.values x (subst (λ m. LeastFailing program models m c.values) (sym here) y))
