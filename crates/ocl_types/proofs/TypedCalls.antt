-- What is called on a typed part is typed: properties, operations and iterators (OCL 2.4, chapters 7 and 11).
use Rattle.std.proofs.Common.{◌≡◌, ℕ, Bool, true, false, List, [], ◌∷◌, Option, None, Some, map, length, if◌then◌else◌, refl, sym, ap, ◌∙◌, subst, inl, inr, append_assoc, append-nil}
use Rattle.std.specs.Prelude.{IsTrue, encode_utf8_all}
use Rattle.std.proofs.lemmas.Bool.{false≢true}
use Rattle.std.proofs.lemmas.List.{length-map}
use Rattle.mof_metamodel.specs.declared.desc.MetaDesc.{MetaDesc}
use Rattle.qv_syntax.specs.declared.name.Path.{Path}
use Rattle.qv_syntax.specs.declared.operation.Operation.TheVariants as singles
use Rattle.qv_syntax.specs.declared.operation.CollectionOperation.{CollectionOperation}
use Rattle.qv_syntax.specs.declared.operation.CollectionOperation.TheVariants as collections
use Rattle.qv_syntax.specs.declared.operation.IteratorKind.{IteratorKind}
use Rattle.qv_syntax.specs.declared.operation.IteratorKind.TheVariants as iterators
use Rattle.qv_syntax.specs.declared.ty.Ty.{Ty}
use Rattle.qv_syntax.specs.declared.ty.Ty.TheVariants as types
use Rattle.qv_syntax.specs.declared.type_tree.Kind.{Kind}
use Rattle.qv_syntax.specs.declared.type_tree.Kind.TheVariants as kinds
use Rattle.qv_syntax.specs.declared.type_tree.TypeTree.{TypeTree}
use Rattle.qv_syntax.specs.declared.typed.Call.{Call}
use Rattle.qv_syntax.specs.declared.typed.Call.TheVariants as calls
use Rattle.qv_syntax.specs.declared.typed.Values.{Values}
use Rattle.qv_syntax.specs.declared.typed.Values.TheVariants as values
use Rattle.qv_syntax.specs.declared.typed.TypedPostfix.{TypedPostfix}
use Rattle.qv_syntax.specs.Types.{ConformsTo, IsOneModel}
use Rattle.mof_metamodel.specs.declared.desc.PropId.{PropId}
use Rattle.qv_syntax.specs.TypeRules.{HasProperty, OperationGives, CollectionGives}
use Rattle.qv_syntax.specs.TypedTrees as trees
use Rattle.qv_syntax.specs.TypedTrees.{Typing, objects_of, IsElementVariable, given_model, IsTyped, AreTyped, AreCalled, IsCalled}
use Rattle.ocl_environments.specs.declared.part.TypedPart.{TypedPart}
use Rattle.ocl_environments.specs.declared.part.CallsSoFar.{CallsSoFar}
use Rattle.ocl_environments.specs.declared.variable.Variable.{Variable}
use Rattle.ocl_environments.specs.Environments.{Environment, is_over, with_variable}
use Rattle.ocl_environments.specs.Naming.{names_of}
use Rattle.ocl_environments.specs.Classifiers.{named_class}
use Rattle.ocl_environments.specs.Navigation.{navigated}
use Rattle.ocl_environments.specs.Agreement.{collection_parts, has_objects, model_for}
use Rattle.ocl_environments.specs.Parts.{tree_of, trees_of, types_of, and_called, uncalled}
use Rattle.ocl_types.specs.Judged.{Judged}
use Rattle.ocl_types.specs.Operations.{operation_row, class_row, collection_row, iterator_row, operation_named, class_operation_named, collection_operation_named, iterator_named}
use Rattle.ocl_types.specs.Signatures.{result_type, collection_result, collected_kind}
use Rattle.ocl_types.specs.Typing.{called_whole}
use Rattle.ocl_types.specs.TypingSteps.{tested}
use Rattle.ocl_types.specs.TypingCollections as checked
use Rattle.ocl_types.specs.TypingCollections.{kind_by, element_by, kind_of, element_of, gathered_by, gathered, called_on, iterated_type}
use Rattle.ocl_types.specs.TypeRules.{property_judged_by, property_judged, exact_judged, operation_judged, class_operation_judged, summed_judged, collection_operation_judged, variable_type_judged, iterator_variable_judged, condition_judged, iterator_judged}
use Rattle.ocl_types.specs.TypedContext.{context_of, variables_of, typing_of}
use Rattle.ocl_types.proofs.LayerLaws.{is_collection, no_collection_is, objects_of_collection, kept_again, kept_alike}
use Rattle.ocl_types.proofs.ConformanceLaws.{alike}
use Rattle.ocl_types.proofs.ClassifierLaws.{class_there}
use Rattle.ocl_types.proofs.WrittenLaws.{declared_written}
use Rattle.ocl_types.specs.OperationRows.{AreAll, IsSummed}
use Rattle.ocl_types.proofs.OperationLaws.{named_is_called, operation_gives, class_operation_gives, collection_gives, iterator_gives}
use Rattle.ocl_types.proofs.RelationLaws.{models_alike}
use Rattle.ocl_types.proofs.RangeLaws.{elements_of, written_over, call_over}
use Rattle.ocl_types.proofs.TypedParts.{part_over, IsReady, IsPart, AreParts, typing_so_far, IsCalledOn, typed_with, count_of, finds_has}
use Rattle.ocl_types.proofs.TypedForms.{same_types}

-- ---- one call behind others

-- nothing is called yet
pub uncalled_typed : (env : Environment) (ready : IsReady env) (p : TypedPart) → IsPart env p → IsCalledOn env (typing_of p) (uncalled p)
uncalled_typed env ready p part = record { extends = λ rest last more. more; kept = part.kept; over = part_over env ready p part }

-- one call more
pub called_more : (env : Environment) (ready : IsReady env) (first : Typing) (c : CallsSoFar) (call : Call) (ty : Ty) (model : Option ℕ) → IsCalledOn env first c
    → IsCalled (context_of env) (variables_of env) (typing_so_far c) call (record { ty = ty; model = model }) → model_for ty model ≡ model
    → IsCalledOn env first (and_called c call ty model)
called_more env ready first c call ty model before one kept = record {
  extends = λ rest last more.
      let step : TypedPostfix = record { call = call; ty = ty } in
      let behind : AreCalled (context_of env) (variables_of env) (typing_so_far c) (step ∷ rest) last =
      AreCalled.call (variables_of env) (typing_so_far c) call (record { ty = ty; model = model }) rest last one more in
      subst (λ steps. AreCalled (context_of env) (variables_of env) first steps last) (sym (append_assoc c.calls (step ∷ []) rest)) (before.extends (step ∷ rest) last behind);
  kept = kept;
  over = call_over (context_of env) ready.results (variables_of env) (typing_so_far c) call (record { ty = ty; model = model }) ready.over before.over one;
}

-- the part with what was called on it
pub whole_typed : (env : Environment) (p : TypedPart) (c : CallsSoFar) → IsPart env p → IsCalledOn env (typing_of p) c → IsPart env (called_whole p c)
unfolding called_whole
whole_typed env p c part on = record {
  typed = IsTyped.called (variables_of env) (tree_of p) c.calls (typing_of p) (typing_so_far c) part.typed
      (subst (λ steps. AreCalled (context_of env) (variables_of env) (typing_of p) steps (typing_so_far c)) (append-nil c.calls)
      (on.extends [] (typing_so_far c) (AreCalled.all_called (variables_of env) (typing_so_far c))));
  kept = on.kept;
}

-- ---- the value as a collection

-- the kind and the type of the elements of what an arrow stands behind, and the calls up to there
record IsGathered (env : Environment) (first : Typing) (c g : CallsSoFar) : Type 0 where
  on : IsCalledOn env first g
  is : g.ty ≡ types.Coll (kind_of c.ty) (element_of c.ty)
  model : g.model ≡ c.model

gathered_typed : (env : Environment) (ready : IsReady env) (first : Typing) (c : CallsSoFar) → IsCalledOn env first c → IsGathered env first c (gathered c)
gathered_typed env ready first c on = by (collection_parts c.ty) refl
  where
    by : (o : Option (Kind × Ty)) → collection_parts c.ty ≡ o → IsGathered env first c (gathered_by c o)
    by (Some p) at = record {
      on = on;
      is = is_collection c.ty p at ∙ ap (λ q. types.Coll (kind_by q) (element_by c.ty q)) (sym at);
      model = refl;
    }
    by None at =
        let kept : model_for (types.Coll kinds.Set c.ty) c.model ≡ c.model = kept_alike c.ty (types.Coll kinds.Set c.ty) c.model (sym (objects_of_collection kinds.Set c.ty)) on.kept in
        let one : IsCalled (context_of env) (variables_of env) (typing_so_far c) (calls.Operation singles.AsSingletonSet []) (objects_of (types.Coll kinds.Set c.ty) c.model) =
        IsCalled.operation (variables_of env) (typing_so_far c) singles.AsSingletonSet [] [] (types.Coll kinds.Set c.ty) (AreTyped.none (variables_of env)) (no_collection_is c.ty at, refl, refl) in
        record {
          on = called_more env ready first c (calls.Operation singles.AsSingletonSet []) (types.Coll kinds.Set c.ty) c.model on
              (subst (λ m. IsCalled (context_of env) (variables_of env) (typing_so_far c) (calls.Operation singles.AsSingletonSet []) (record { ty = types.Coll kinds.Set c.ty; model = m })) kept one) kept;
          is = ap (λ q. types.Coll (kind_by q) (element_by c.ty q)) (sym at);
          model = refl;
        }

-- the elements of what an arrow stands behind are of the metamodels
pub element_over : (env : Environment) → IsReady env → (first : Typing) (c : CallsSoFar) → IsCalledOn env first c → is_over env.metas (element_of c.ty) ≡ true
element_over env ready first c on =
    let g = gathered_typed env ready first c on in
    elements_of env.metas (kind_of c.ty) (element_of c.ty) (subst (λ t. is_over env.metas t ≡ true) g.is g.on.over)

-- ---- properties

navigated_alike : (gives : Values) (ty : Ty) → has_objects (navigated gives ty) ≡ has_objects ty
navigated_alike values.Single ty = refl
navigated_alike values.Set ty = objects_of_collection kinds.Set ty
navigated_alike values.OrderedSet ty = objects_of_collection kinds.OrderedSet ty

-- the model is kept for what is made of the type as for the type
same_kept : (a b : Ty) (model : Option ℕ) → has_objects a ≡ has_objects b → model_for a model ≡ model_for b model
same_kept a b model same = ap (λ t. if t then model else None) same

pub property_typed : (env : Environment) (ready : IsReady env) (name : List ℕ) (first : Typing) (c d : CallsSoFar) → IsCalledOn env first c → (property_judged env.metas name c).has d → IsCalledOn env first d
property_typed env ready name first c d on is = by (collection_parts c.ty) refl is
  where
    by : (o : Option (Kind × Ty)) → collection_parts c.ty ≡ o → (property_judged_by env.metas name c o).has d → IsCalledOn env first d
    by None at is =
        let p : PropId × Values × Ty = is.0 in
        let has : HasProperty env.metas c.ty p.0 p.1 p.2 = is.1.property in
        let same : model_for (navigated p.1 p.2) c.model ≡ model_for p.2 c.model = same_kept (navigated p.1 p.2) p.2 c.model (navigated_alike p.1 p.2) in
        let call : Call = calls.Property p.0 p.1 in
        subst (IsCalledOn env first) (sym is.2) (called_more env ready first c call (navigated p.1 p.2) (model_for p.2 c.model) on
        (subst (λ m. IsCalled (context_of env) (variables_of env) (typing_so_far c) call (record { ty = navigated p.1 p.2; model = m })) same
        (IsCalled.property (variables_of env) (typing_so_far c) p.0 p.1 p.2 has))
        (kept_alike p.2 (navigated p.1 p.2) (model_for p.2 c.model) (sym (navigated_alike p.1 p.2)) (kept_again p.2 c.model)))
    by (Some parts) at is =
        let p : PropId × Values × Ty = is.0 in
        let has : HasProperty env.metas parts.1 p.0 p.1 p.2 = is.1.property in
        let whole : Ty = types.Coll (collected_kind parts.0) p.2 in
        let like : has_objects whole ≡ has_objects p.2 = objects_of_collection (collected_kind parts.0) p.2 in
        let call : Call = calls.CollectProperty p.0 p.1 in
        subst (IsCalledOn env first) (sym is.2) (called_more env ready first c call whole (model_for p.2 c.model) on
        (subst (λ m. IsCalled (context_of env) (variables_of env) (typing_so_far c) call (record { ty = whole; model = m })) (same_kept whole p.2 c.model like)
        (IsCalled.collect_property (variables_of env) (typing_so_far c) parts.0 parts.1 p.0 p.1 p.2 (is_collection c.ty parts at) has))
        (kept_alike p.2 whole (model_for p.2 c.model) (sym like) (kept_again p.2 c.model)))

-- ---- operations on single values

exact_are : (metas : List MetaDesc) (wanted : Ty) (args : List TypedPart) (j : Judged CallsSoFar) (d : CallsSoFar) → (exact_judged metas wanted args j).has d
    → AreAll wanted (types_of args) × j.has d
exact_are metas wanted [] j d is = (tt, is)
exact_are metas wanted (p ∷ ps) j d is = let rest = exact_are metas wanted ps j d is.1 in ((is.0, rest.0), rest.1)

types_count : (args : List TypedPart) → length (types_of args) ≡ length args
types_count args = length-map args (λ p. p.ty)

pub operation_typed : (env : Environment) (ready : IsReady env) (name : List ℕ) (first : Typing) (c d : CallsSoFar) (args : List TypedPart) → IsCalledOn env first c → AreParts env args
    → (operation_judged env.metas name c args).has d → IsCalledOn env first d
operation_typed env ready name first c d args on parts is =
    let o = finds_has (operation_named (encode_utf8_all name)) _ _ d is in
    let e = exact_are env.metas _ args _ d o.2.1.1 in
    let t : Ty = result_type (operation_row o.0).result c.ty in
    let gives : OperationGives o.0 c.ty (types_of args) t = operation_gives o.0 c.ty (types_of args) (named_is_called (encode_utf8_all name) o.0 o.1) o.2.0 (types_count args ∙ o.2.1.0) e.0 in
    subst (IsCalledOn env first) (sym e.1) (called_more env ready first c (calls.Operation o.0 (trees_of args)) t (model_for t c.model) on
    (IsCalled.operation (variables_of env) (typing_so_far c) o.0 (trees_of args) (map typing_of args) t parts.typed (subst (λ tys. OperationGives o.0 c.ty tys t) (sym (same_types args)) gives))
    (kept_again t c.model))

pub class_operation_typed : (env : Environment) (ready : IsReady env) (name : List ℕ) (path : Path) (first : Typing) (c d : CallsSoFar) → IsCalledOn env first c
    → (class_operation_judged env name path c).has d → IsCalledOn env first d
class_operation_typed env ready name path first c d on is =
    let o = finds_has (class_operation_named (encode_utf8_all name)) _ _ d is in
    let k = finds_has (named_class env (names_of path)) _ _ d o.2 in
    let t : Ty = tested (class_row o.0).result k.0 in
    subst (IsCalledOn env first) (sym k.2.1) (called_more env ready first c (calls.Class o.0 k.0.1) t (model_for t c.model) on
    (IsCalled.class_operation (variables_of env) (typing_so_far c) o.0 k.0.1 t (class_operation_gives env.metas o.0 k.0 c.ty (class_there env (names_of path) k.0 k.1) k.2.0))
    (kept_again t c.model))

-- ---- operations on collections

summed_is : (metas : List MetaDesc) (operation : CollectionOperation) (of : Ty) (j : Judged CallsSoFar) (d : CallsSoFar) → (summed_judged metas operation of j).has d → IsSummed operation of × j.has d
summed_is metas collections.Sum of j d is = (is.0, is.1)
summed_is metas operation of j d is = (tt, is)

result_alike : (operation : CollectionOperation) (model joined : Option ℕ) → checked.result_model operation model joined ≡ given_model operation model joined
result_alike collections.Excluding model joined = refl
result_alike operation model joined = refl

pub collection_operation_typed : (env : Environment) (ready : IsReady env) (name : List ℕ) (first : Typing) (c d : CallsSoFar) (args : List TypedPart) → IsCalledOn env first c → AreParts env args
    → (collection_operation_judged env.metas name c args).has d → IsCalledOn env first d
collection_operation_typed env ready name first c d args on parts is =
    let o = finds_has (collection_operation_named (encode_utf8_all name)) _ _ d is in
    let s = summed_is env.metas o.0 (element_of c.ty) _ d o.2.1.1 in
    let u : Ty = s.1.0.0 in
    let joined : Option ℕ = s.1.0.1 in
    let kind : Kind = kind_of c.ty in
    let of : Ty = element_of c.ty in
    let g = gathered_typed env ready first c on in
    let t : Ty = collection_result (collection_row o.0).result kind of u in
    let call : Call = calls.Collection o.0 (trees_of args) in
    let gives : CollectionGives env.metas o.0 kind of (types_of args) t = collection_gives env.metas kind of o.0 (types_of args) u o.2.0 (types_count args ∙ o.2.1.0) s.0 s.1.1.0 in
    let one : IsOneModel (c.model ∷ trees.models_of (map typing_of args)) joined = subst (λ ms. IsOneModel (c.model ∷ ms) joined) (sym (models_alike args)) s.1.1.1 in
    let model : Option ℕ = checked.result_model o.0 c.model joined in
    subst (IsCalledOn env first) (sym s.1.2) (called_more env ready first (gathered c) call t (model_for t model) g.on
    (subst (λ m. IsCalled (context_of env) (variables_of env) (typing_so_far (gathered c)) call (record { ty = t; model = model_for t m })) (ap (λ m. given_model o.0 m joined) g.model ∙ sym (result_alike o.0 c.model joined))
    (IsCalled.collection (variables_of env) (typing_so_far (gathered c)) o.0 kind of (trees_of args) (map typing_of args) t joined g.is parts.typed
    (subst (λ tys. CollectionGives env.metas o.0 kind of tys t) (sym (same_types args)) gives)
    (subst (λ m. IsOneModel (m ∷ trees.models_of (map typing_of args)) joined) (sym g.model) one)))
    (kept_again t model))

-- ---- iterators

variable_is : (env : Environment) (tree : Option TypeTree) (of ty : Ty) → (variable_type_judged env tree of).has ty → IsElementVariable env.metas of ty × (has_objects of ≡ has_objects ty)
variable_is env None of ty is = (inl is, ap has_objects (sym is))
variable_is env (Some tree) of ty is =
    let t : Ty = is.0 in
    let conforms : ConformsTo env.metas of t = is.2.0 in
    subst (λ s. IsElementVariable env.metas of s × (has_objects of ≡ has_objects s)) (sym is.2.1)
    (inr (declared_written env tree t is.1, conforms), alike env.metas of t conforms)

pub iterator_variable_kept : (env : Environment) (ready : IsReady env) (name : List ℕ) (tree : Option TypeTree) (first : Typing) (c : CallsSoFar) (v : Variable) → IsCalledOn env first c
    → (iterator_variable_judged env name tree c).has v → model_for v.ty v.model ≡ v.model
iterator_variable_kept env ready name tree first c v on is =
    let g = gathered_typed env ready first c on in
    let of : Ty = element_of c.ty in
    let e = variable_is env tree of is.1.0 is.1.1 in
    let like : has_objects (gathered c).ty ≡ has_objects is.1.0 = ap has_objects g.is ∙ objects_of_collection (kind_of c.ty) of ∙ e.1 in
    let kept : model_for is.1.0 c.model ≡ c.model = kept_alike (gathered c).ty is.1.0 c.model like (subst (λ m. model_for (gathered c).ty m ≡ m) g.model g.on.kept) in
    subst (λ (w : Variable). model_for w.ty w.model ≡ w.model) (sym is.1.2) kept

pub iterator_variable_over : (env : Environment) (ready : IsReady env) (name : List ℕ) (tree : Option TypeTree) (first : Typing) (c : CallsSoFar) (v : Variable) → IsCalledOn env first c
    → (iterator_variable_judged env name tree c).has v → IsTrue (is_over env.metas v.ty)
iterator_variable_over env ready name tree first c v on is =
    let of : Ty = element_of c.ty in
    let ty : Ty = is.1.0 in
    let elements : is_over env.metas of ≡ true = element_over env ready first c on in
    let over : is_over env.metas ty ≡ true = elim (variable_is env tree of ty is.1.1).0 [
      | inl same ↦ subst (λ t. is_over env.metas t ≡ true) (sym same) elements
      | inr written ↦ written_over env.metas ty written.0
    ] in
    subst (λ (w : Variable). is_over env.metas w.ty ≡ true) (sym is.1.2) over

condition_is : (metas : List MetaDesc) (conditional : Bool) (ty : Ty) (j : Judged CallsSoFar) (d : CallsSoFar) → (condition_judged metas conditional ty j).has d
    → (IsTrue conditional → ty ≡ types.Bool) × j.has d
condition_is metas true ty j d is = (λ h. is.0, is.1)
condition_is metas false ty j d is = (λ h. absurd (false≢true h), is)

iterated_alike : (iterator : IteratorKind) (t : Ty) (model body : Option ℕ)
    → trees.iterated_model iterator model body ≡ checked.iterated_model (iterator_row iterator).result model body
unfolding iterator_row
iterated_alike iterators.Select t model body = refl
iterated_alike iterators.Reject t model body = refl
iterated_alike iterators.Collect t model body = refl
iterated_alike iterators.Exists t model body = refl
iterated_alike iterators.ForAll t model body = refl
iterated_alike iterators.One t model body = refl
iterated_alike iterators.IsUnique t model body = refl

pub iterator_typed : (env : Environment) (ready : IsReady env) (name variable : List ℕ) (tree : Option TypeTree) (first : Typing) (c d : CallsSoFar) (v : Variable) (body : TypedPart) → IsCalledOn env first c
    → (iterator_variable_judged env variable tree c).has v → IsPart (with_variable env variable v) body
    → (iterator_judged env.metas name (length env.variables) c body).has d → IsCalledOn env first d
iterator_typed env ready name variable tree first c d v body on named inside is =
    let i = finds_has (iterator_named (encode_utf8_all name)) _ _ d is in
    let k = condition_is env.metas (iterator_row i.0).conditional body.ty _ d i.2 in
    let g = gathered_typed env ready first c on in
    let kind : Kind = kind_of c.ty in
    let of : Ty = element_of c.ty in
    let ty : Ty = named.1.0 in
    let t : Ty = iterated_type (iterator_row i.0).result kind of body.ty in
    let model : Option ℕ = checked.iterated_model (iterator_row i.0).result c.model body.model in
    let call : ℕ → Call = λ n. calls.Iterator i.0 n (tree_of body) in
    let e = variable_is env tree of ty named.1.1 in
    let typed : IsTyped (context_of env) (trees.with_variable (variables_of env) (record { ty = ty; model = (gathered c).model })) (tree_of body) (typing_of body) =
    subst (λ m. IsTyped (context_of env) (trees.with_variable (variables_of env) (record { ty = ty; model = m })) (tree_of body) (typing_of body)) (sym g.model)
    (subst (λ (w : Variable). IsTyped (context_of env) (trees.with_variable (variables_of env) (record { ty = w.ty; model = w.model })) (tree_of body) (typing_of body)) named.1.2
    (typed_with env variable v body inside)) in
    let one : IsCalled (context_of env) (variables_of env) (typing_so_far (gathered c)) (call (length (variables_of env)))
    (objects_of t (trees.iterated_model i.0 (gathered c).model body.model)) =
    IsCalled.iterator (variables_of env) (typing_so_far (gathered c)) i.0 kind of ty (tree_of body) (typing_of body) t g.is e.0 typed (iterator_gives i.0 kind of body.ty k.0) in
    let same : trees.iterated_model i.0 (gathered c).model body.model ≡ model = ap (λ m. trees.iterated_model i.0 m body.model) g.model ∙ iterated_alike i.0 t c.model body.model in
    subst (IsCalledOn env first) (sym k.1) (called_more env ready first (gathered c) (call (length env.variables)) t (model_for t model) g.on
    (subst (λ n. IsCalled (context_of env) (variables_of env) (typing_so_far (gathered c)) (call n) (record { ty = t; model = model_for t model })) (count_of env)
    (subst (λ m. IsCalled (context_of env) (variables_of env) (typing_so_far (gathered c)) (call (length (variables_of env))) (record { ty = t; model = model_for t m })) same one))
    (kept_again t model))
