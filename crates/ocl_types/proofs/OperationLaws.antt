-- The rows of the table of operations say what the definition says of each operation (OCL 2.4, sections 11.3 to 11.9).
use Rattle.std.proofs.Common.{◌≡◌, ℕ, Bool, true, false, List, [], ◌∷◌, Option, None, Some, length, cond, refl, subst, inl, inr, arith}
use Rattle.std.specs.Prelude.{IsTrue, find}
use Rattle.std.specs.List.{list_all}
use Rattle.std.specs.Str.{bytes_eq}
use Rattle.std.proofs.lemmas.Bool.{false≢true}
use Rattle.std.proofs.lemmas.Option.{none-some, same_Some}
use Rattle.mof_metamodel.specs.declared.desc.MetaDesc.{MetaDesc}
use Rattle.mof_metamodel.specs.declared.desc.ClassId.{ClassId}
use Rattle.qv_syntax.specs.declared.operation.Operation.{Operation}
use Rattle.qv_syntax.specs.declared.operation.Operation.TheVariants as singles
use Rattle.qv_syntax.specs.declared.operation.ClassOperation.{ClassOperation}
use Rattle.qv_syntax.specs.declared.operation.ClassOperation.TheVariants as classes
use Rattle.qv_syntax.specs.declared.operation.CollectionOperation.{CollectionOperation}
use Rattle.qv_syntax.specs.declared.operation.CollectionOperation.TheVariants as collections
use Rattle.qv_syntax.specs.declared.operation.IteratorKind.{IteratorKind}
use Rattle.qv_syntax.specs.declared.operation.IteratorKind.TheVariants as iterators
use Rattle.qv_syntax.specs.declared.ty.Ty.{Ty}
use Rattle.qv_syntax.specs.declared.ty.Ty.TheVariants as types
use Rattle.qv_syntax.specs.declared.type_tree.Kind.{Kind}
use Rattle.qv_syntax.specs.Types.{IsClassIn}
use Rattle.qv_syntax.specs.TypeRules as laws
use Rattle.qv_syntax.specs.TypeRules.{OperationGives, ClassOperationGives, CollectionGives, Flattened, IteratorGives}
use Rattle.ocl_types.specs.declared.collection_operations.Argument.TheVariants as takes
use Rattle.ocl_types.specs.Operations.{operation_row, class_row, collection_row, iterator_row, operations, operation_named}
use Rattle.ocl_types.specs.Signatures.{parameter_count, parameter_type, result_type, argument_count, collection_result}
use Rattle.ocl_environments.specs.Agreement.{collection_parts}
use Rattle.ocl_types.specs.TypingSteps.{tested}
use Rattle.ocl_types.specs.TypeRules.{IsReceiver, IsObjectOf, IsOfKind, GivenConforms}
use Rattle.ocl_types.specs.OperationRows.{AreAll, IsSummed}
use Rattle.ocl_types.specs.TypingCollections.{element_by, element_of, iterated_type}
use Rattle.std.proofs.lemmas.Bool.{and_parts}
use Rattle.ocl_types.proofs.LayerLaws.{is_collection, no_collection_is}
use Rattle.ocl_types.proofs.ConformanceLaws.{top_related}

-- ---- arguments

none_given : {X : Type 0} (xs : List X) → length xs ≡ 0 → xs ≡ []
none_given [] count = refl
none_given (x ∷ xs) count = absurd (omega (arith, count))

one_given : (wanted : Ty) (xs : List Ty) → length xs ≡ 1 → AreAll wanted xs → xs ≡ wanted ∷ []
one_given wanted [] count all = absurd (omega (arith, count))
one_given wanted (x ∷ xs) count all =
    let none : xs ≡ [] = none_given xs (omega (arith, count)) in
    λ i. all.0 i ∷ none i

two_given : (wanted : Ty) (xs : List Ty) → length xs ≡ 2 → AreAll wanted xs → xs ≡ wanted ∷ wanted ∷ []
two_given wanted [] count all = absurd (omega (arith, count))
two_given wanted (x ∷ xs) count all =
    let one : xs ≡ wanted ∷ [] = one_given wanted xs (omega (arith, count)) all.1 in
    λ i. all.0 i ∷ one i

-- ---- operations on single values

-- it has a name in the language
abbrev pub is_called : Operation → Bool
is_called singles.AsSingletonSet = false
is_called operation = true

found_passes : {X : Type 0} (p q : X → Bool) (xs : List X) (x : X) → list_all q xs ≡ true → find p xs ≡ Some x → q x ≡ true
found_passes p q [] x all is = absurd (none-some x is)
found_passes p q (y ∷ ys) x all is =
    let both = and_parts (q y) (list_all q ys) all in
    by (p y) is both.0 (λ later. found_passes p q ys x both.1 later)
  where
    by : (b : Bool) → cond b (Some y) (find p ys) ≡ Some x → q y ≡ true → (find p ys ≡ Some x → q x ≡ true) → q x ≡ true
    by true is here later = subst (λ z. q z ≡ true) (same_Some y x is) here
    by false is here later = later is

pub named_is_called : (name : List ℕ) (operation : Operation) → operation_named name ≡ Some operation → is_called operation ≡ true
unfolding operation_named
named_is_called name operation is = found_passes (λ o. bytes_eq name (operation_row o).name) is_called operations operation refl is

pub operation_gives : (operation : Operation) (x : Ty) (args : List Ty) → is_called operation ≡ true
    → IsReceiver (operation_row operation).receivers x → length args ≡ parameter_count (operation_row operation).parameters
    → AreAll (parameter_type (operation_row operation).parameters) args
    → OperationGives operation x args (result_type (operation_row operation).result x)
unfolding operation_row
operation_gives singles.Absolute x args named behind count all = (behind, none_given args count, refl)
operation_gives singles.Divide x args named behind count all = (behind, one_given types.Int args count all, refl)
operation_gives singles.Modulo x args named behind count all = (behind, one_given types.Int args count all, refl)
operation_gives singles.Maximum x args named behind count all = (behind, one_given types.Int args count all, refl)
operation_gives singles.Minimum x args named behind count all = (behind, one_given types.Int args count all, refl)
operation_gives singles.ToString x args named (inl int) count all = inl (int, none_given args count, refl)
operation_gives singles.ToString x args named (inr bool) count all = inr (bool, none_given args count, refl)
operation_gives singles.Length x args named behind count all = (behind, none_given args count, refl)
operation_gives singles.Concatenate x args named behind count all = (behind, one_given types.Str args count all, refl)
operation_gives singles.ToInteger x args named behind count all = (behind, none_given args count, refl)
operation_gives singles.Substring x args named behind count all = (behind, two_given types.Int args count all, refl)
operation_gives singles.IsUndefined x args named behind count all = (none_given args count, refl)
operation_gives singles.IsInvalid x args named behind count all = (none_given args count, refl)
operation_gives singles.AsSingletonSet x args named behind count all = absurd (false≢true named)

-- ---- type tests and casts

tested_alike : (operation : ClassOperation) (c : ℕ × ClassId) → tested (class_row operation).result c ≡ laws.tested operation c.0 c.1
unfolding class_row
tested_alike classes.IsTypeOf c = refl
tested_alike classes.IsKindOf c = refl
tested_alike classes.AsType c = refl

pub class_operation_gives : (metas : List MetaDesc) (operation : ClassOperation) (c : ℕ × ClassId) (x : Ty) → IsClassIn metas c.0 c.1 → IsObjectOf c.0 x
    → ClassOperationGives metas operation c.1 x (tested (class_row operation).result c)
class_operation_gives metas operation c x has behind = record { m = c.0; own = behind.0; is = behind.1; has = has; gives = tested_alike operation c }

-- ---- operations on collections

module _ (metas : List MetaDesc) (kind : Kind) (of : Ty) where
  nothing_given : (args : List Ty) → length args ≡ 0 → args ≡ []
  nothing_given args count = none_given args count

  abbrev Element : Ty → List Ty → Type 0
  Element u args = GivenConforms metas takes.Element kind of args u

  abbrev Collected : Ty → List Ty → Type 0
  Collected u args = GivenConforms metas takes.Collection kind of args u

  abbrev SameKind : Ty → List Ty → Type 0
  SameKind u args = GivenConforms metas takes.SameKind kind of args u

  with_element : (gives u : Ty) (args : List Ty) → Element u args → laws.WithElement metas gives of args gives
  with_element gives u args g = record { element = g.0; is = g.1; related = top_related metas of g.0 u g.2; result = refl }

  with_collection : (gives u : Ty) (args : List Ty) → Collected u args → laws.WithCollection metas gives of args gives
  with_collection gives u args g = record { kind = g.0; element = g.1; is = g.2; related = top_related metas of g.1 u g.3; result = refl }

  joins_element : (u : Ty) (args : List Ty) → Element u args → laws.JoinsElement metas kind of args (types.Coll kind u)
  joins_element u args g = record { element = g.0; is = g.1; top = u; joined = g.2; result = refl }

  joins_collection : (u : Ty) (args : List Ty) → SameKind u args → laws.JoinsCollection metas kind of args (types.Coll kind u)
  joins_collection u args g = record { element = g.0; is = g.1; top = u; joined = g.2; result = refl }

  pub collection_gives : (operation : CollectionOperation) (args : List Ty) (u : Ty) → IsOfKind (collection_row operation).kinds kind
      → length args ≡ argument_count (collection_row operation).argument → IsSummed operation of
      → GivenConforms metas (collection_row operation).argument kind of args u
      → CollectionGives metas operation kind of args (collection_result (collection_row operation).result kind of u)
  unfolding collection_row
  collection_gives collections.Size args u behind count summed is = (nothing_given args count, refl)
  collection_gives collections.IsEmpty args u behind count summed is = (nothing_given args count, refl)
  collection_gives collections.NotEmpty args u behind count summed is = (nothing_given args count, refl)
  collection_gives collections.Includes args u behind count summed is = with_element types.Bool u args is
  collection_gives collections.Excludes args u behind count summed is = with_element types.Bool u args is
  collection_gives collections.IncludesAll args u behind count summed is = with_collection types.Bool u args is
  collection_gives collections.ExcludesAll args u behind count summed is = with_collection types.Bool u args is
  collection_gives collections.Count args u behind count summed is = with_element types.Int u args is
  collection_gives collections.Sum args u behind count summed is = (summed, (nothing_given args count, refl))
  collection_gives collections.Including args u behind count summed is = joins_element u args is
  collection_gives collections.Excluding args u behind count summed is = with_element (types.Coll kind of) u args is
  collection_gives collections.Union args u behind count summed is = joins_collection u args is
  collection_gives collections.Intersection args u behind count summed is = (behind, joins_collection u args is)
  collection_gives collections.AsSet args u behind count summed is = (nothing_given args count, refl)
  collection_gives collections.AsBag args u behind count summed is = (nothing_given args count, refl)
  collection_gives collections.AsSequence args u behind count summed is = (nothing_given args count, refl)
  collection_gives collections.AsOrderedSet args u behind count summed is = (nothing_given args count, refl)
  collection_gives collections.First args u behind count summed is = (behind, (nothing_given args count, refl))
  collection_gives collections.Last args u behind count summed is = (behind, (nothing_given args count, refl))
  collection_gives collections.At args u behind count summed is = (behind, is.0, refl)
  collection_gives collections.Append args u behind count summed is = (behind, joins_element u args is)
  collection_gives collections.Prepend args u behind count summed is = (behind, joins_element u args is)

-- ---- iterators

flattened : (body : Ty) → Flattened body (element_of body)
flattened body = by (collection_parts body) refl
  where
    by : (o : Option (Kind × Ty)) → collection_parts body ≡ o → Flattened body (element_by body o)
    by (Some p) at = inl (p.0, is_collection body p at)
    by None at = inr (no_collection_is body at, refl)

pub iterator_gives : (iterator : IteratorKind) (kind : Kind) (of body : Ty) → (IsTrue (iterator_row iterator).conditional → body ≡ types.Bool)
    → IteratorGives iterator kind of body (iterated_type (iterator_row iterator).result kind of body)
unfolding iterator_row
iterator_gives iterators.Select kind of body condition = (condition refl, refl)
iterator_gives iterators.Reject kind of body condition = (condition refl, refl)
iterator_gives iterators.Collect kind of body condition = (element_of body, flattened body, refl)
iterator_gives iterators.Exists kind of body condition = (condition refl, refl)
iterator_gives iterators.ForAll kind of body condition = (condition refl, refl)
iterator_gives iterators.One kind of body condition = (condition refl, refl)
iterator_gives iterators.IsUnique kind of body condition = refl
