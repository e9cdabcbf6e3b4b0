-- Wrong verdicts that the definitions exclude: over two packages `a` and `b` with the schema `a` alone, where PackageToSchema fails for the
-- package `b`, and over any models.
use Rattle.std.specs.Prelude.{◌≡◌, ◌<◌, ℕ, false, List, Option, None, Some, slice_get}
use Rattle.std.proofs.Common.{refl, sym, ap, ◌∙◌, arith, true≢false}
use Rattle.std.proofs.lemmas.Option.{same_Some}
use Rattle.object_tables.specs.Models.{ModelData}
use Rattle.qv_syntax.specs.declared.program.Program.{Program}
use Rattle.qv_syntax.specs.declared.program.Rel.{Rel}
use Rattle.qvtr_semantics.specs.declared.binding.Binding.{Binding}
use Rattle.qvtr_semantics.specs.Templates.{Values}
use Rattle.qvtr_semantics.specs.Satisfaction.{IsTop, Failing}
use Rattle.qvtr_semantics.specs.SmallModels.{program, one_only, b_alone}
use Rattle.qvtr_semantics.proofs.RowAnswers.{package_b_is_the_least}
use Rattle.check_mode.specs.declared.verdict.Verdict.TheVariants as verdicts
use Rattle.check_mode.specs.Verdicts.{IsVerdict, IsVerdictOf, IsFoundOf}

-- ---- the package `b` has no schema

-- nothing fails of a relation
pub nothing_fails : IsFoundOf program one_only 0 None → ⊥
nothing_fails none = none b_alone package_b_is_the_least.failing

-- yes, where the first relation fails
pub without_the_first : IsVerdict program one_only verdicts.Yes → ⊥
without_the_first satisfied = satisfied 0 b_alone package_b_is_the_least.failing

-- yes again, where a relation failed before this one
pub earlier_failure_forgotten : IsVerdictOf program one_only 2 verdicts.Yes → ⊥
earlier_failure_forgotten satisfied = satisfied 0 b_alone (omega arith) package_b_is_the_least.failing

-- ---- any program and models

-- a later relation is named than one that fails
pub later_relation : (p : Program) (models : List ModelData) (earlier later : ℕ) (b : Values) (told : Binding) → earlier < later → Failing p models earlier b
    → IsVerdict p models (verdicts.No later told) → ⊥
later_relation p models earlier later b told less failing answer = answer.first earlier b less failing

-- a relation is named of which no binding fails
pub another_relation : (p : Program) (models : List ModelData) (number : ℕ) (told : Binding) → ((b : Values) → ¬ Failing p models number b)
    → IsVerdict p models (verdicts.No number told) → ⊥
another_relation p models number told none answer = none told.values answer.failing

-- a top relation of another direction is one to look at
pub another_direction : (p : Program) (number : ℕ) (rel other : Rel) → slice_get p.rels number ≡ Some rel → rel.in_direction ≡ false → IsTop p number other → ⊥
another_direction p number rel other found out top =
    true≢false (sym top.in_direction ∙ ap (λ (r : Rel). r.in_direction) (same_Some other rel (sym top.is ∙ found)) ∙ out)
