-- The string literals of a program that is told plainly are storable, where the tests of its relations hold.
use Rattle.std.proofs.Common.{◌≡◌, ℕ, List, [], ◌∷◌, refl, sym, ap, ◌∙◌, subst}
use Rattle.std.specs.Prelude.{Contains}
use Rattle.mof_metamodel.proofs.Facts.{nothing_in}
use Rattle.qv_syntax.specs.declared.typed.Typed.{Typed}
use Rattle.qv_syntax.specs.declared.program.Rel.{Rel}
use Rattle.qv_syntax.specs.declared.program.Conj.{Conj}
use Rattle.qv_syntax.specs.Relations.{InConjunct}
use Rattle.evaluation_laws.specs.Literals.{HasStorableLiterals, IsExpressionOf, HasStorableTexts}
use Rattle.example_program.specs.Words.{prefixed}
use Rattle.example_program.proofs.Tests.{image_of}
use Rattle.example_program.proofs.Plain.{call_of, Clause, given, called, conjunct_of, Relation, rel_of, program_of}
use Rattle.example_program.proofs.ExpressionLaws.{IsPlain, plain_prefixed, storable_text}
use Rattle.example_program.proofs.DomainLaws.{item_expression}
use Rattle.example_program.proofs.WellLaws.{IsTested, when_call_ok, where_clause_ok}
use Rattle.example_program.proofs.PatternRules.{IsTold, item_told, argument_told}

module _ (rs : List Relation) (r : Relation) (t : IsTested rs r) where
  told_storable : (e : Typed) → IsTold rs r t e → HasStorableLiterals e
  told_storable e x ty text within = storable_text x.names e x.plain ty text within

  clause_storable : (c : Clause) → Contains r.wheres c → (e : Typed) → InConjunct (conjunct_of c) e → HasStorableLiterals e
  clause_storable (given v prefix name) there e inside = told_storable e (record { names = prefix ∷ name ∷ []; plain = subst (IsPlain (prefix ∷ name ∷ [])) inside (plain_prefixed prefix name) })
  clause_storable (called call) there e inside = told_storable e (argument_told rs r t call (where_clause_ok rs r t.clauses (called call) there) e inside)

  expression_storable : (e : Typed) → IsExpressionOf (rel_of r) e → HasStorableLiterals e
  expression_storable e (IsExpressionOf.of_when c there inside) =
      let call = image_of call_of r.whens c there in
      told_storable e (argument_told rs r t call.0 (when_call_ok rs r t.clauses call.0 call.1) e (subst (λ x. InConjunct x e) (sym call.2) inside))
  expression_storable e (IsExpressionOf.of_where c there inside) =
      let clause = image_of conjunct_of r.wheres c there in
      clause_storable clause.0 clause.1 e (subst (λ x. InConjunct x e) (sym clause.2) inside)
  expression_storable e (IsExpressionOf.of_item dom c is) = told_storable e (item_told rs r t e (item_expression r dom e c is))

pub texts_storable : (rs : List Relation) → ((r : Relation) → Contains rs r → IsTested rs r) → HasStorableTexts (program_of rs)
texts_storable rs each = record {
  queries = λ q c. absurd (nothing_in q c);
  relations = λ rel e c is.
      let r = image_of rel_of rs rel c in
      expression_storable rs r.0 (each r.0 r.1) e (subst (λ (x : Rel). IsExpressionOf x e) (sym r.2) is);
}
