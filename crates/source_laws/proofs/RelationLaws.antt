-- Of a relation that hands objects of the target only on each expression has one value over models that agree but for the target.
use Rattle.std.specs.Prelude.{◌≡◌, ℕ, List, Option, None, Some, Contains}
use Rattle.std.specs.List.{list_all}
use Rattle.std.proofs.Common.{refl, ap, subst, ◌∙◌}
use Rattle.object_tables.specs.Models.{ModelData}
use Rattle.qv_syntax.specs.declared.program.Program.{Program}
use Rattle.qv_syntax.specs.declared.program.Rel.{Rel}
use Rattle.qv_syntax.specs.declared.program.Conj.{Conj}
use Rattle.qv_syntax.specs.declared.program.Conj.TheVariants as conjuncts
use Rattle.qv_syntax.specs.declared.typed.Typed.{Typed}
use Rattle.qv_syntax.specs.Relations.{InConjunct}
use Rattle.qv_syntax.specs.Directions.{HasVariables, HasEquations}
use Rattle.qvtr_semantics.specs.declared.datum.Datum.{Datum}
use Rattle.qvtr_semantics.specs.Outs.{datum_of, boolean_of}
use Rattle.qvtr_semantics.specs.Equality.{is_known_true}
use Rattle.qvtr_semantics.specs.Expressions.{value_for}
use Rattle.qvtr_semantics.specs.Templates.{Values, value_at}
use Rattle.qvtr_semantics.specs.Bindings.{are_one, conjunct_holds}
use Rattle.template_match.specs.Sources.{IsAsked}
use Rattle.source_laws.specs.Agreement.{AgreeBut}
use Rattle.source_laws.specs.SourceValues.{IsOfSources, HasNoTarget}
use Rattle.source_laws.specs.SourceExpressions.{SpeaksOfSources}
use Rattle.source_laws.specs.SourceRelations.{AgreeOnSources, IsApart, NamesSources}
use Rattle.source_laws.specs.TargetRule.{HasConjunct, MayBeTarget, HandsTargetOn, IsExpressionOf}
use Rattle.source_laws.proofs.DataLaws.{IfOfSources}
use Rattle.source_laws.proofs.OperationLaws.{datum_apart}
use Rattle.source_laws.proofs.QueryLaws.{value_alike, value_of_sources}
use Rattle.source_laws.proofs.CallLaws.{argument_same}
use Rattle.source_laws.proofs.RuleLaws.{plain_by}
use Rattle.source_laws.proofs.TypingLaws.{is_in}
use Rattle.source_laws.proofs.BindingLaws.{all_same, subject_outside}

pub datum_by : (t : ℕ) (o : Option Datum) (d : Datum) → IfOfSources t o → o ≡ Some d → IsOfSources t d
datum_by t None d p is = absurd (cc)
datum_by t (Some x) d p is = let same : x ≡ d = cc in subst (IsOfSources t) same p

module _ (program : Program) (ms ns : List ModelData) (agree : AgreeBut program.target ms ns) (rel : Rel) (rule : HandsTargetOn program rel) (b : Values) (apart : IsApart program rel b) where
  -- a condition, or the value of an equation
  asked_alike : (c : Conj) (e : Typed) → HasConjunct rel c → IsAsked c e → InConjunct c e → (value_for program ms e b ≡ value_for program ns e b) × HasNoTarget program.target (value_for program ms e b)
  asked_alike c e there asked within =
      value_of_sources program ms ns e b agree (rule.speaks e (IsExpressionOf.conjunct c there within)) (λ v d names at. apart v d (rule.named c e there asked v names) at)

  handed_same : (e : Typed) → MayBeTarget rel e → SpeaksOfSources program e → value_for program ms e b ≡ value_for program ns e b
  handed_same e may speaks = argument_same program ms ns agree rel b apart e (plain_by program rel e (is_in e.node) refl rule may speaks)

  conjunct_by : (c : Conj) (e : Typed) → HasConjunct rel c → InConjunct c e → value_for program ms e b ≡ value_for program ns e b
  conjunct_by (conjuncts.Cond x) e there within = (asked_alike (conjuncts.Cond x) e there within within).0
  conjunct_by (conjuncts.Equation v x) e there within = (asked_alike (conjuncts.Equation v x) e there within within).0
  conjunct_by (conjuncts.Call n args) e there within = handed_same e (MayBeTarget.argument n args there within) (rule.speaks e (IsExpressionOf.conjunct (conjuncts.Call n args) there within))

  pub expression_same : (e : Typed) → IsExpressionOf rel e → value_for program ms e b ≡ value_for program ns e b
  expression_same e (IsExpressionOf.item dom c is) = handed_same e (MayBeTarget.item dom c is) (rule.speaks e (IsExpressionOf.item dom c is))
  expression_same e (IsExpressionOf.conjunct c there within) = conjunct_by c e there within

  -- what an equation gives its variable is no object of the target
  pub equation_apart : (v : ℕ) (e : Typed) (d : Datum) → HasConjunct rel (conjuncts.Equation v e) → datum_of (value_for program ms e b) ≡ Some d → IsOfSources program.target d
  equation_apart v e d there is =
      datum_by program.target (datum_of (value_for program ms e b)) d (datum_apart program.target (value_for program ms e b) (asked_alike (conjuncts.Equation v e) e there refl refl).1) is

-- ---- in two bindings

module _ (program : Program) (ms ns : List ModelData) (agree : AgreeBut program.target ms ns) (rel : Rel) (rule : HandsTargetOn program rel) (b c : Values) (apart : IsApart program rel b)
    (both : AgreeOnSources program rel b c) where
  pub expression_alike : (e : Typed) → IsExpressionOf rel e → NamesSources program rel e → value_for program ms e b ≡ value_for program ns e c
  expression_alike e is names =
      (value_alike program ms ns e b c agree (rule.speaks e is) both.places (λ v named. both.same v (names v named)) (λ v d named at. apart v d (names v named) at)).0

  module _ (IsSought : ℕ → Type 0) (clause : List Conj) (there : (x : Conj) → Contains clause x → HasConjunct rel x) (variables : HasVariables program rel)
      (equations : HasEquations rel IsSought clause) where
    asked_alike_in : (x : Conj) (e : Typed) → Contains clause x → IsAsked x e → InConjunct x e → value_for program ms e b ≡ value_for program ns e c
    asked_alike_in x e within asked inside = expression_alike e (IsExpressionOf.conjunct x (there x within) inside) (rule.named x e (there x within) asked)

    conjunct_alike : (x : Conj) → Contains clause x → conjunct_holds program ms b x ≡ conjunct_holds program ns c x
    conjunct_alike (conjuncts.Cond e) within = ap (λ o. is_known_true (boolean_of o)) (asked_alike_in (conjuncts.Cond e) e within refl refl)
    conjunct_alike (conjuncts.Equation v e) within =
        ap (λ o. are_one (value_at b v) (datum_of o)) (asked_alike_in (conjuncts.Equation v e) e within refl refl)
        ∙ ap (λ o. are_one o (datum_of (value_for program ns e c))) (both.same v (subject_outside program rel IsSought clause variables equations v e within))
    conjunct_alike (conjuncts.Call n args) within = refl

    -- the conditions and equations of a clause hold alike
    pub clause_alike : list_all (conjunct_holds program ms b) clause ≡ list_all (conjunct_holds program ns c) clause
    clause_alike = all_same (conjunct_holds program ms b) (conjunct_holds program ns c) clause conjunct_alike
