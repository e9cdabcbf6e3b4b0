-- The calls of a clause over models that agree but for the target are the same, where each argument is a variable alone, or speaks of sources.
use Rattle.std.specs.Prelude.{◌≡◌, ℕ, List, [], ◌∷◌, map, length, slice_get, Contains}
use Rattle.std.proofs.Common.{refl, sym, ap, ◌∙◌}
use Rattle.object_tables.specs.Models.{ModelData}
use Rattle.qv_syntax.specs.declared.program.Program.{Program}
use Rattle.qv_syntax.specs.declared.program.Rel.{Rel}
use Rattle.qv_syntax.specs.declared.program.Conj.{Conj}
use Rattle.qv_syntax.specs.declared.program.Conj.TheVariants as conjuncts
use Rattle.qv_syntax.specs.declared.ty.Ty.{Ty}
use Rattle.qv_syntax.specs.declared.typed.Typed.{Typed}
use Rattle.qv_syntax.specs.declared.typed.Node.TheVariants as nodes
use Rattle.qvtr_semantics.specs.declared.out.Out.{Out}
use Rattle.qvtr_semantics.specs.Outs.{datum_of, all_given}
use Rattle.qvtr_semantics.specs.Objects.{Setting}
use Rattle.qvtr_semantics.specs.Expressions.{Queries, Scope, variable, meaning, setting, queries_within, scope_of, value_for}
use Rattle.qvtr_semantics.specs.Templates.{Values}
use Rattle.qvtr_semantics.specs.Calls.{call_with, call_of, calls_of}
use Rattle.qvtr_semantics.proofs.ExpressionLaws.{typed_is, variable_is, node_of}
use Rattle.template_match.proofs.ListLaws.{contains_later}
use Rattle.mof_metamodel.proofs.Facts.{contains_first}
use Rattle.source_laws.specs.Agreement.{AgreeBut}
use Rattle.source_laws.specs.SourceRelations.{IsPlainArgument, HavePlainArguments, IsApart}
use Rattle.source_laws.proofs.QueryLaws.{value_of_sources}

-- a variable alone has the value of the variable, whatever the models are
pub alone_meaning : (s : Setting) (q : Queries) (ty : Ty) (v : ℕ) (x : Scope) → meaning s q (record { ty = ty; node = nodes.Variable v }) x ≡ variable x v
alone_meaning s q ty v x =
    ap (λ (m : Scope → Out). m x) (typed_is s q ty (nodes.Variable v)) ∙ ap (λ n. node_of s q n x) (sym (nodes.rolls-Variable v)) ∙ ap (λ (m : Scope → Out). m x) (variable_is s q v)

pub alone_value : (program : Program) (models : List ModelData) (ty : Ty) (v : ℕ) (b : Values) → value_for program models (record { ty = ty; node = nodes.Variable v }) b ≡ variable (scope_of b) v
alone_value program models ty v b = alone_meaning (setting program models) (queries_within program.queries (setting program models) (length program.queries)) ty v (scope_of b)

module _ (program : Program) (ms ns : List ModelData) (agree : AgreeBut program.target ms ns) (rel : Rel) (b : Values) (apart : IsApart program rel b) where
  pub argument_same : (e : Typed) → IsPlainArgument program rel e → value_for program ms e b ≡ value_for program ns e b
  argument_same e (IsPlainArgument.alone ty v is) =
      ap (λ x. value_for program ms x b) is ∙ alone_value program ms ty v b ∙ sym (alone_value program ns ty v b) ∙ sym (ap (λ x. value_for program ns x b) is)
  argument_same e (IsPlainArgument.of_sources speaks names) = (value_of_sources program ms ns e b agree speaks (λ v d is at. apart v d (names v is) at)).0

  arguments_same : (args : List Typed) → ((e : Typed) → Contains args e → IsPlainArgument program rel e)
      → map (λ e. datum_of (value_for program ms e b)) args ≡ map (λ e. datum_of (value_for program ns e b)) args
  arguments_same [] plain = refl
  arguments_same (e ∷ es) plain =
      ap (λ o. datum_of o ∷ map (λ x. datum_of (value_for program ms x b)) es) (argument_same e (plain e (contains_first e es)))
      ∙ ap (λ os. datum_of (value_for program ns e b) ∷ os) (arguments_same es (λ x c. plain x (contains_later x e es c)))

  call_same : (number : ℕ) (args : List Typed) → ((e : Typed) → Contains args e → IsPlainArgument program rel e) → call_of program ms b number args ≡ call_of program ns b number args
  call_same number args plain = ap (λ os. call_with number (slice_get program.rels number) (all_given os)) (arguments_same args plain)

  pub calls_same : (clause : List Conj) → HavePlainArguments program rel clause → calls_of program ms b clause ≡ calls_of program ns b clause
  calls_same [] plain = refl
  calls_same (conjuncts.Call number args ∷ cs) plain =
      ap (λ c. c ∷ calls_of program ms b cs) (call_same number args (λ e c. plain number args e (contains_first (conjuncts.Call number args) cs) c))
      ∙ ap (λ os. call_of program ns b number args ∷ os) (calls_same cs (λ n xs e c within. plain n xs e (contains_later (conjuncts.Call n xs) (conjuncts.Call number args) cs c) within))
  calls_same (conjuncts.Cond x ∷ cs) plain = calls_same cs (λ n xs e c within. plain n xs e (contains_later (conjuncts.Call n xs) (conjuncts.Cond x) cs c) within)
  calls_same (conjuncts.Equation v x ∷ cs) plain = calls_same cs (λ n xs e c within. plain n xs e (contains_later (conjuncts.Call n xs) (conjuncts.Equation v x) cs c) within)
