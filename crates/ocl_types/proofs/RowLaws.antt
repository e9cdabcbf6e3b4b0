-- What is said of each operation by the rules is what its row says: the other way of OperationLaws (OCL 2.4, sections 11.3 to 11.9).
use Rattle.std.proofs.Common.{◌≡◌, true, List, [], ◌∷◌, length, refl, sym, ap, ◌∙◌, subst, inl, inr}
use Rattle.std.specs.Prelude.{◌↔◌, ◌≢◌}
use Rattle.std.proofs.lemmas.Bool.{false≢true}
use Rattle.mof_metamodel.specs.declared.desc.MetaDesc.{MetaDesc}
use Rattle.qv_syntax.specs.declared.operation.Operation.{Operation}
use Rattle.qv_syntax.specs.declared.operation.Operation.TheVariants as singles
use Rattle.qv_syntax.specs.declared.operation.CollectionOperation.{CollectionOperation}
use Rattle.qv_syntax.specs.declared.operation.CollectionOperation.TheVariants as collections
use Rattle.qv_syntax.specs.declared.operation.IteratorKind.{IteratorKind}
use Rattle.qv_syntax.specs.declared.operation.IteratorKind.TheVariants as iterators
use Rattle.qv_syntax.specs.declared.ty.Ty.{Ty}
use Rattle.qv_syntax.specs.declared.ty.Ty.TheVariants as types
use Rattle.qv_syntax.specs.declared.type_tree.Kind.{Kind}
use Rattle.qv_syntax.specs.Types.{ConformsTo, AreRelated, IsTopOf}
use Rattle.qv_syntax.specs.TypeRules.{OperationGives, CollectionGives, WithElement, WithCollection, Flattened, IteratorGives, collected_kind}
use Rattle.ocl_types.specs.declared.collection_operations.Argument.{Argument}
use Rattle.ocl_types.specs.declared.collection_operations.Argument.TheVariants as takes
use Rattle.ocl_types.specs.Operations.{operation_row, collection_row, iterator_row}
use Rattle.ocl_environments.specs.Agreement.{collection_parts}
use Rattle.ocl_types.specs.TypingCollections.{element_by, element_of}
use Rattle.ocl_types.specs.TypeRules.{GivenConforms}
use Rattle.ocl_types.specs.OperationRows.{AreAll, RowGives, CollectionRowGives, IteratorRowGives}
use Rattle.ocl_types.proofs.LayerLaws.{parts_of_collection, no_parts}
use Rattle.ocl_types.proofs.ConformanceLaws.{first_in, later_in, in_two}
use Rattle.ocl_types.proofs.OperationLaws.{is_called, operation_gives, collection_gives, iterator_gives}

-- ---- operations on single values

all_none : (wanted : Ty) (args : List Ty) → args ≡ [] → AreAll wanted args
all_none wanted args is = subst (AreAll wanted) (sym is) tt

all_one : (wanted : Ty) (args : List Ty) → args ≡ wanted ∷ [] → AreAll wanted args
all_one wanted args is = subst (AreAll wanted) (sym is) (refl, tt)

all_two : (wanted : Ty) (args : List Ty) → args ≡ wanted ∷ wanted ∷ [] → AreAll wanted args
all_two wanted args is = subst (AreAll wanted) (sym is) (refl, (refl, tt))

row_says : (operation : Operation) (x : Ty) (args : List Ty) (t : Ty) → OperationGives operation x args t → RowGives operation x args t
unfolding operation_row
row_says singles.Absolute x args t (is, given, gives) = record { behind = is; count = ap length given; each = all_none types.Int args given; result = gives }
row_says singles.Divide x args t (is, given, gives) = record { behind = is; count = ap length given; each = all_one types.Int args given; result = gives }
row_says singles.Modulo x args t (is, given, gives) = record { behind = is; count = ap length given; each = all_one types.Int args given; result = gives }
row_says singles.Maximum x args t (is, given, gives) = record { behind = is; count = ap length given; each = all_one types.Int args given; result = gives }
row_says singles.Minimum x args t (is, given, gives) = record { behind = is; count = ap length given; each = all_one types.Int args given; result = gives }
row_says singles.ToString x args t (inl (is, given, gives)) = record { behind = inl is; count = ap length given; each = all_none types.Int args given; result = gives }
row_says singles.ToString x args t (inr (is, given, gives)) = record { behind = inr is; count = ap length given; each = all_none types.Int args given; result = gives }
row_says singles.Length x args t (is, given, gives) = record { behind = is; count = ap length given; each = all_none types.Int args given; result = gives }
row_says singles.Concatenate x args t (is, given, gives) = record { behind = is; count = ap length given; each = all_one types.Str args given; result = gives }
row_says singles.ToInteger x args t (is, given, gives) = record { behind = is; count = ap length given; each = all_none types.Int args given; result = gives }
row_says singles.Substring x args t (is, given, gives) = record { behind = is; count = ap length given; each = all_two types.Int args given; result = gives }
row_says singles.IsUndefined x args t (given, gives) = record { behind = tt; count = ap length given; each = all_none types.Int args given; result = gives }
row_says singles.IsInvalid x args t (given, gives) = record { behind = tt; count = ap length given; each = all_none types.Int args given; result = gives }
row_says singles.AsSingletonSet x args t (single, given, gives) = record { behind = tt; count = ap length given; each = all_none types.Int args given; result = gives }

called_where : (operation : Operation) → operation ≢ singles.AsSingletonSet → is_called operation ≡ true
called_where singles.AsSingletonSet isnt = absurd (isnt refl)
called_where operation isnt = refl

-- each operation that is called by a name, but for `oclAsSet`, which `->` takes of a single value
pub operation_told : (operation : Operation) (x : Ty) (args : List Ty) (t : Ty) → operation ≢ singles.AsSingletonSet → OperationGives operation x args t ↔ RowGives operation x args t
operation_told operation x args t isnt = (
  row_says operation x args t,
  λ row. subst (OperationGives operation x args) (sym row.result) (operation_gives operation x args (called_where operation isnt) row.behind row.count row.each),
)

-- ---- operations on collections

module _ (metas : List MetaDesc) (kind : Kind) (of : Ty) where
  -- of two related types one is that to which both conform
  top_where : (e : Ty) → AreRelated metas of e → (u : Ty) × IsTopOf metas (of ∷ e ∷ []) u
  top_where e (inl is) = (
    e,
    record {
      among = later_in of e (e ∷ []) (first_in e e [] refl);
      above = in_two (λ ty. ConformsTo metas ty e) of e is (inl refl);
    },
  )
  top_where e (inr is) = (of, record { among = first_in of of (e ∷ []) refl; above = in_two (λ ty. ConformsTo metas ty of) of e (inl refl) is })

  abbrev Given : Argument → List Ty → Ty → Type 0
  Given argument args u = GivenConforms metas argument kind of args u

  element_given : (gives t : Ty) (args : List Ty) → WithElement metas gives of args t → (u : Ty) × Given takes.Element args u
  element_given gives t args w = let top = top_where w.element w.related in (top.0, (w.element, w.is, top.1))

  collection_given : (gives t : Ty) (args : List Ty) → WithCollection metas gives of args t → (u : Ty) × Given takes.Collection args u
  collection_given gives t args w = let top = top_where w.element w.related in (top.0, (w.kind, w.element, w.is, top.1))

  one_long : (a : Ty) (args : List Ty) → args ≡ a ∷ [] → length args ≡ 1
  one_long a args is = ap length is

  collection_row_says : (operation : CollectionOperation) (args : List Ty) (t : Ty) → CollectionGives metas operation kind of args t → CollectionRowGives metas operation kind of args t
  unfolding collection_row
  collection_row_says collections.Size args t (none, gives) = record { behind = tt; count = ap length none; summed = tt; upper = of; given = (none, refl); result = gives }
  collection_row_says collections.IsEmpty args t (none, gives) = record { behind = tt; count = ap length none; summed = tt; upper = of; given = (none, refl); result = gives }
  collection_row_says collections.NotEmpty args t (none, gives) = record { behind = tt; count = ap length none; summed = tt; upper = of; given = (none, refl); result = gives }
  collection_row_says collections.Includes args t w =
      let g = element_given types.Bool t args w in record { behind = tt; count = one_long w.element args w.is; summed = tt; upper = g.0; given = g.1; result = w.result }
  collection_row_says collections.Excludes args t w =
      let g = element_given types.Bool t args w in record { behind = tt; count = one_long w.element args w.is; summed = tt; upper = g.0; given = g.1; result = w.result }
  collection_row_says collections.IncludesAll args t w =
      let g = collection_given types.Bool t args w in record { behind = tt; count = one_long (types.Coll w.kind w.element) args w.is; summed = tt; upper = g.0; given = g.1; result = w.result }
  collection_row_says collections.ExcludesAll args t w =
      let g = collection_given types.Bool t args w in record { behind = tt; count = one_long (types.Coll w.kind w.element) args w.is; summed = tt; upper = g.0; given = g.1; result = w.result }
  collection_row_says collections.Count args t w =
      let g = element_given types.Int t args w in record { behind = tt; count = one_long w.element args w.is; summed = tt; upper = g.0; given = g.1; result = w.result }
  collection_row_says collections.Sum args t (summed, (none, gives)) = record { behind = tt; count = ap length none; summed = summed; upper = of; given = (none, refl); result = gives }
  collection_row_says collections.Including args t j =
      record { behind = tt; count = one_long j.element args j.is; summed = tt; upper = j.top; given = (j.element, j.is, j.joined); result = j.result }
  collection_row_says collections.Excluding args t w =
      let g = element_given (types.Coll kind of) t args w in record { behind = tt; count = one_long w.element args w.is; summed = tt; upper = g.0; given = g.1; result = w.result }
  collection_row_says collections.Union args t j =
      record { behind = tt; count = one_long (types.Coll kind j.element) args j.is; summed = tt; upper = j.top; given = (j.element, j.is, j.joined); result = j.result }
  collection_row_says collections.Intersection args t (set, j) =
      record { behind = set; count = one_long (types.Coll kind j.element) args j.is; summed = tt; upper = j.top; given = (j.element, j.is, j.joined); result = j.result }
  collection_row_says collections.AsSet args t (none, gives) = record { behind = tt; count = ap length none; summed = tt; upper = of; given = (none, refl); result = gives }
  collection_row_says collections.AsBag args t (none, gives) = record { behind = tt; count = ap length none; summed = tt; upper = of; given = (none, refl); result = gives }
  collection_row_says collections.AsSequence args t (none, gives) = record { behind = tt; count = ap length none; summed = tt; upper = of; given = (none, refl); result = gives }
  collection_row_says collections.AsOrderedSet args t (none, gives) = record { behind = tt; count = ap length none; summed = tt; upper = of; given = (none, refl); result = gives }
  collection_row_says collections.First args t (ordered, (none, gives)) = record { behind = ordered; count = ap length none; summed = tt; upper = of; given = (none, refl); result = gives }
  collection_row_says collections.Last args t (ordered, (none, gives)) = record { behind = ordered; count = ap length none; summed = tt; upper = of; given = (none, refl); result = gives }
  collection_row_says collections.At args t (ordered, index, gives) =
      record { behind = ordered; count = one_long types.Int args index; summed = tt; upper = of; given = (index, refl); result = gives }
  collection_row_says collections.Append args t (ordered, j) =
      record { behind = ordered; count = one_long j.element args j.is; summed = tt; upper = j.top; given = (j.element, j.is, j.joined); result = j.result }
  collection_row_says collections.Prepend args t (ordered, j) =
      record { behind = ordered; count = one_long j.element args j.is; summed = tt; upper = j.top; given = (j.element, j.is, j.joined); result = j.result }

  pub collection_told : (operation : CollectionOperation) (args : List Ty) (t : Ty) → CollectionGives metas operation kind of args t ↔ CollectionRowGives metas operation kind of args t
  collection_told operation args t = (
    collection_row_says operation args t,
    λ row. subst (CollectionGives metas operation kind of args) (sym row.result) (collection_gives metas kind of operation args row.upper row.behind row.count row.summed row.given),
  )

-- ---- iterators

-- what a body adds to what is collected is one type
flat_is : (body element : Ty) → Flattened body element → element ≡ element_of body
flat_is body element (inl (kind, is)) = sym (ap (element_by body) (ap collection_parts is ∙ parts_of_collection kind element))
flat_is body element (inr (single, is)) = is ∙ sym (ap (element_by body) (no_parts body single))

iterator_row_says : (iterator : IteratorKind) (kind : Kind) (of body t : Ty) → IteratorGives iterator kind of body t → IteratorRowGives iterator kind of body t
unfolding iterator_row
iterator_row_says iterators.Select kind of body t (condition, gives) = record { condition = λ is. condition; result = gives }
iterator_row_says iterators.Reject kind of body t (condition, gives) = record { condition = λ is. condition; result = gives }
iterator_row_says iterators.Collect kind of body t (element, flat, gives) = record { condition = λ is. absurd (false≢true is); result = gives ∙ ap (λ e. types.Coll (collected_kind kind) e) (flat_is body element flat) }
iterator_row_says iterators.Exists kind of body t (condition, gives) = record { condition = λ is. condition; result = gives }
iterator_row_says iterators.ForAll kind of body t (condition, gives) = record { condition = λ is. condition; result = gives }
iterator_row_says iterators.One kind of body t (condition, gives) = record { condition = λ is. condition; result = gives }
iterator_row_says iterators.IsUnique kind of body t gives = record { condition = λ is. absurd (false≢true is); result = gives }

pub iterator_told : (iterator : IteratorKind) (kind : Kind) (of body t : Ty) → IteratorGives iterator kind of body t ↔ IteratorRowGives iterator kind of body t
iterator_told iterator kind of body t = (
  iterator_row_says iterator kind of body t,
  λ row. subst (IteratorGives iterator kind of body) (sym row.result) (iterator_gives iterator kind of body row.condition),
)
