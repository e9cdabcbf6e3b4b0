-- Types are kept in programs: queries give values of their results' types, expressions of theirs, and where no query that gives objects is
-- called, objects of the model of the typing.
use Rattle.std.proofs.Common.{◌≡◌, ℕ, zero, suc, false, List, [], ◌∷◌, map, length, Option, None, Some, refl, sym, ap, ◌∙◌, subst}
use Rattle.std.specs.Prelude.{slice_get, Contains}
use Rattle.std.specs.Option.{option_map}
use Rattle.std.proofs.lemmas.Option.{none-some, same_Some, slice_get-map, slice_get_within, get_or_from_slice_get}
use Rattle.mof_metamodel.specs.declared.desc.MetaDesc.{MetaDesc}
use Rattle.object_tables.specs.Models.{ModelData}
use Rattle.qv_syntax.specs.declared.ty.Ty.{Ty}
use Rattle.qv_syntax.specs.declared.typed.Typed.{Typed}
use Rattle.qv_syntax.specs.declared.typed.Node.TheVariants as nodes
use Rattle.qv_syntax.specs.declared.query.Query.{Query}
use Rattle.qv_syntax.specs.declared.program.Program.{Program}
use Rattle.qv_syntax.specs.Types.{IsOneModel, has_objects}
use Rattle.qv_syntax.specs.TypedTrees.{QueryType, Context, Typing, Variables, without_model, IsTyped}
use Rattle.qv_syntax.specs.Parts.{IsWithin, CallsQuery}
use Rattle.qv_syntax.specs.ProgramTypes.{query_type, context_of, IsQueryTyped}
use Rattle.qvtr_semantics.specs.declared.out.Out.{Out}
use Rattle.qvtr_semantics.specs.Objects.{Setting}
use Rattle.qvtr_semantics.specs.Expressions.{Scope, Queries, variable, meaning, query_value, queries_within, setting, value}
use Rattle.evaluation_laws.specs.TypedValues.{AreModels, IsValueIn, IsValueOf, IsValueOfTyping, AreArguments, anywhere}
use Rattle.evaluation_laws.specs.Literals.{HasStorableLiterals, HasStorableTexts}
use Rattle.evaluation_laws.specs.Scopes.{HasValuesOfTypes, HasValuesOfTypings, of_any_model, of_its_model}
use Rattle.evaluation_laws.proofs.ValueLaws.{value_conforms, value_of_data}
use Rattle.evaluation_laws.proofs.TypeLaws.{typed_kept}
use Rattle.mof_metamodel.proofs.Facts.{contains_at}

-- the model is that of each part that has one
its_joined : (parts : List (Option ℕ)) (part joined : Option ℕ) (k : ℕ) → IsOneModel parts joined → Contains parts part → of_its_model part k → of_its_model joined k
its_joined parts part joined k one among is = one.each k (subst (Contains parts) is among)

any_joined : (parts : List (Option ℕ)) (part joined : Option ℕ) (k : ℕ) → IsOneModel parts joined → Contains parts part → of_any_model part k → of_any_model joined k
any_joined parts part joined k one among is = tt

module _ (metas : List MetaDesc) (program : Program) (contents : List ModelData) where
  abbrev s : Setting
  s = setting program contents

  abbrev context : Context
  context = context_of metas program

  -- the queries give values of their results' types for values of their parameters' types
  abbrev AreKept : Queries → Type 0
  AreKept q = (number : ℕ) (query : QueryType) (xs : List Out) → slice_get context.queries number ≡ Some query → AreArguments metas s query.params xs → IsValueOf metas s query.result (q number xs)

  arguments_long : (params : List Ty) (xs : List Out) → AreArguments metas s params xs → length xs ≡ length (map without_model params)
  arguments_long [] [] are = refl
  arguments_long [] (x ∷ xs) are = absurd are
  arguments_long (ty ∷ params) [] are = absurd are
  arguments_long (ty ∷ params) (x ∷ xs) are = ap suc (arguments_long params xs are.1)

  argument_at : (params : List Ty) (xs : List Out) → AreArguments metas s params xs → (n : ℕ) (v : Typing) → slice_get (map without_model params) n ≡ Some v → IsValueOf metas s v.ty (variable xs n)
  argument_at [] [] are n v at = absurd (none-some v at)
  argument_at [] (x ∷ xs) are n v at = absurd are
  argument_at (ty ∷ params) [] are n v at = absurd are
  argument_at (ty ∷ params) (x ∷ xs) are zero v at = subst (λ (t : Typing). IsValueOf metas s t.ty x) (same_Some (without_model ty) v at) are.0
  argument_at (ty ∷ params) (x ∷ xs) are (suc n) v at = argument_at params xs are.1 n v at

  module _ (models : AreModels metas s) where
    -- a typed expression, where queries keep types
    expression_kept : (q : Queries) → AreKept q → (vars : Variables) (e : Typed) (t : Typing) (scope : Scope) → HasStorableLiterals e → HasValuesOfTypes metas s e vars scope
        → IsTyped context vars e t → IsValueOf metas s t.ty (meaning s q e scope)
    expression_kept q kept vars e t scope literals known typed =
        typed_kept context contents models of_any_model any_joined (λ k. tt) q e literals
        (λ ty number args query xs w at are. kept number query xs at are) vars e t scope known (IsWithin.whole e) typed

    module _ (typed : (query : Query) → Contains program.queries query → IsQueryTyped metas program query) (literals : HasStorableTexts program) where
      answered : (q : Queries) → AreKept q → (number : ℕ) (type_is : QueryType) (xs : List Out) (o : Option Query) → slice_get program.queries number ≡ o
          → option_map query_type o ≡ Some type_is → AreArguments metas s type_is.params xs → IsValueOf metas s type_is.result (query_value s q o xs)
      answered q kept number type_is xs None found at are = tt
      answered q kept number type_is xs (Some query) found at are =
          let same : query_type query ≡ type_is = same_Some (query_type query) type_is at in
          let among : Contains program.queries query = contains_at program.queries number query found in
          let is = typed query among in
          let of_params : AreArguments metas s query.params xs = subst (λ (t : QueryType). AreArguments metas s t.params xs) (sym same) are in
          let scope : HasValuesOfTypes metas s query.body (map without_model query.params) xs = record {
            places = arguments_long query.params xs of_params;
            values = λ n v there names. argument_at query.params xs of_params n v there;
          } in
          let body = expression_kept q kept (map without_model query.params) query.body is.typing xs (literals.queries query among) scope is.body in
          subst (λ (t : QueryType). IsValueOf metas s t.result (query_value s q (Some query) xs)) same
          (value_conforms metas s anywhere models is.typing.ty query.result is.conforms (meaning s q query.body xs) body)

      pub queries_kept : (n : ℕ) → AreKept (queries_within program.queries s n)
      queries_kept zero number query xs at are = tt
      queries_kept (suc n) number query xs at are =
          answered (queries_within program.queries s n) (queries_kept n) number query xs (slice_get program.queries number) refl
          (sym (slice_get-map query_type program.queries number) ∙ at) are

      abbrev all_queries : Queries
      all_queries = queries_within program.queries s (length program.queries)

      -- null, invalid, or a value of the type
      pub types_kept : (vars : Variables) (e : Typed) (t : Typing) (scope : Scope) → HasStorableLiterals e → HasValuesOfTypes metas s e vars scope
          → IsTyped context vars e t → IsValueOf metas s t.ty (value program contents e scope)
      types_kept vars e t scope stored known typed = expression_kept all_queries (queries_kept (length program.queries)) vars e t scope stored known typed

      -- and of the model, where no query that is called gives objects
      pub models_kept : (vars : Variables) (e : Typed) (t : Typing) (scope : Scope) → HasStorableLiterals e
          → ((number : ℕ) (query : Query) → CallsQuery e number → slice_get program.queries number ≡ Some query → has_objects query.result ≡ false)
          → HasValuesOfTypings metas s e vars scope → IsTyped context vars e t → IsValueOfTyping metas s t (value program contents e scope)
      models_kept vars e t scope stored none known typed =
          typed_kept context contents models of_its_model its_joined (λ k. refl) all_queries e stored answers vars e t scope known (IsWithin.whole e) typed
        where
          without : (number : ℕ) (type_is : QueryType) (o : Option Query) → CallsQuery e number → slice_get program.queries number ≡ o → option_map query_type o ≡ Some type_is → has_objects type_is.result ≡ false
          without number type_is None calls found at = absurd (none-some type_is at)
          without number type_is (Some query) calls found at = subst (λ (q : QueryType). has_objects q.result ≡ false) (same_Some (query_type query) type_is at) (none number query calls found)

          answers : (ty : Ty) (number : ℕ) (args : List Typed) (query : QueryType) (xs : List Out) → IsWithin e (record { ty = ty; node = nodes.Query number args })
              → slice_get context.queries number ≡ Some query → AreArguments metas s query.params xs → IsValueIn metas s (of_its_model None) query.result (all_queries number xs)
          answers ty number args query xs w at are =
              value_of_data metas s anywhere (of_its_model None) query.result
              (without number query (slice_get program.queries number) (ty, args, w) refl (sym (slice_get-map query_type program.queries number) ∙ at))
              (all_queries number xs) (queries_kept (length program.queries) number query xs at are)
