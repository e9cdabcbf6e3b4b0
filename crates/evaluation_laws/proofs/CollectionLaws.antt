-- What operations on collections and iterators give is of the type and the model that their rules say (OCL 2.4, sections 11.7 and 11.9).
use Rattle.std.proofs.Common.{◌≡◌, ◌==◌, ℕ, zero, suc, ℤ, Bool, not, List, [], ◌∷◌, ◌++◌, map, length, Option, None, Some, refl, sym, ap, ◌∙◌, subst, inl, inr, if◌then◌else◌, arith}
use Rattle.std.specs.Prelude.{slice_get, Contains, All, pos, ◌+ℤ◌}
use Rattle.std.specs.List.{filter, list_all, last_or, count_by, items_where_true}
use Rattle.std.proofs.lemmas.Option.{none-some, same_Some}
use Rattle.std.proofs.lemmas.List.Elements.{All-nil, All-cons, All-head, All-tail, All-append, All-push, All-filter, All-weaker}
use Rattle.mof_metamodel.specs.declared.desc.MetaDesc.{MetaDesc}
use Rattle.qv_syntax.specs.declared.type_tree.Kind.{Kind}
use Rattle.qv_syntax.specs.declared.type_tree.Kind.TheVariants as kinds
use Rattle.qv_syntax.specs.declared.ty.Ty.{Ty}
use Rattle.qv_syntax.specs.declared.ty.Ty.TheVariants as types
use Rattle.qv_syntax.specs.declared.operation.CollectionOperation.{CollectionOperation}
use Rattle.qv_syntax.specs.declared.operation.CollectionOperation.TheVariants as of_collections
use Rattle.qv_syntax.specs.declared.operation.IteratorKind.{IteratorKind}
use Rattle.qv_syntax.specs.declared.operation.IteratorKind.TheVariants as iterators
use Rattle.qv_syntax.specs.Types.{ConformsTo, IsOneModel}
use Rattle.qv_syntax.specs.TypeRules.{CollectionGives, JoinsElement, JoinsCollection, IteratorGives, Flattened, collected_kind}
use Rattle.qv_syntax.specs.TypedTrees.{Typing, types_of, models_of, given_model, iterated_model}
use Rattle.qvtr_semantics.specs.declared.datum.Datum.{Datum}
use Rattle.qvtr_semantics.specs.declared.out.Out.{Out}
use Rattle.qvtr_semantics.specs.declared.out.Out.TheVariants as outs
use Rattle.qvtr_semantics.specs.Outs.{Collection, and_then, given, integer_of, integer_of_datum, datum_of, collection_of, boolean, boolean_of, natural, all_given}
use Rattle.qvtr_semantics.specs.Data.{same_datum, is_among}
use Rattle.qvtr_semantics.specs.Equality.{same_kind, all_differ}
use Rattle.qvtr_semantics.specs.Integers as integers
use Rattle.qvtr_semantics.specs.Truth.{all_of, some_of}
use Rattle.qvtr_semantics.specs.Collections as collections
use Rattle.qvtr_semantics.specs.Iterators as iterating
use Rattle.qvtr_semantics.specs.Objects.{Setting}
use Rattle.qvtr_semantics.specs.Expressions.{argument, with_datum, with_collection, on_collection}
use Rattle.evaluation_laws.specs.TypedValues.{AreModels, IsDatumIn, IsValueIn}
use Rattle.evaluation_laws.proofs.ListLaws.{either_way, all_where, all_at, all_last, all_element_at}
use Rattle.evaluation_laws.proofs.ValueLaws.{of_given, same_element, AreOf, first_argument, HasElements, elements_in, datum_in, datum_elsewhere, datum_conforms, is_boolean, is_truth, is_integer_value, is_bounded, is_collected}
use Rattle.mof_metamodel.proofs.Facts.{contains_first}

pub later_in : {X : Type 0} (x y : X) (xs : List X) → Contains xs y → Contains (x ∷ xs) y
later_in x y xs c = let (k, within, is) = c in (suc k, omega arith, is)

model_in : (parts : List Typing) (p : Typing) → Contains parts p → Contains (models_of parts) p.model
model_in [] p (k, within, is) = absurd (omega (arith, within))
model_in (q ∷ parts) p (zero, within, is) = subst (λ (t : Typing). Contains (models_of (q ∷ parts)) t.model) is (contains_first q.model (models_of parts))
model_in (q ∷ parts) p (suc k, within, is) = later_in q.model p.model (models_of parts) (model_in parts p (k, omega (arith, within), is))

module _ (metas : List MetaDesc) (s : Setting) (models : AreModels metas s) (In : Option ℕ → ℕ → Type 0)
    (joins : (parts : List (Option ℕ)) (part joined : Option ℕ) (k : ℕ) → IsOneModel parts joined → Contains parts part → In part k → In joined k) where
  abbrev IsOf : Option ℕ → Ty → Out → Type 0
  IsOf model ty x = IsValueIn metas s (In model) ty x

  abbrev AllOf : Option ℕ → Ty → List Datum → Type 0
  AllOf model ty ds = All (IsDatumIn metas s (In model) ty) ds

  -- elements of one of several parts, of a type that conforms to the type of all
  all_joined : (parts : List (Option ℕ)) (part joined : Option ℕ) (a b : Ty) → IsOneModel parts joined → Contains parts part → ConformsTo metas a b
      → (ds : List Datum) → AllOf part a ds → AllOf joined b ds
  all_joined parts part joined a b one among conforms ds all =
      All-weaker (IsDatumIn metas s (In part) a) (IsDatumIn metas s (In joined) b)
      (λ d is. datum_conforms metas s (In joined) models a b conforms d (datum_elsewhere metas s (In part) (In joined) (λ k here. joins parts part joined k one among here) a d is)) ds all

  module _ (model joined : Option ℕ) (parts : List Typing) (one : IsOneModel (model ∷ models_of parts) joined) (xs : List Out) (are : AreOf metas s In parts xs) where
    abbrev Elements : Kind → Ty → Collection → Type 0
    Elements kind of c = HasElements metas s (In model) kind of c

    own : (ty : Ty) (ds : List Datum) → AllOf model ty ds → AllOf joined ty ds
    own ty ds all = all_joined (model ∷ models_of parts) model joined ty ty one (contains_first model (models_of parts)) (inl refl) ds all

    -- ---- results of a fixed type

    truth_of : (b : Bool) → IsOf joined types.Bool (boolean b)
    truth_of b = is_boolean metas s (In joined) b

    number_of : (i : ℤ) → IsOf joined types.Int (integers.integer i)
    number_of i = is_integer_value metas s (In joined) i

    with_one : (ty : Ty) (x : Out) (f : Datum → Out) → ((d : Datum) → datum_of x ≡ Some d → IsOf joined ty (f d)) → IsOf joined ty (with_datum x f)
    with_one ty x f gives = of_given (IsOf joined ty) (datum_of x) f tt gives

    with_many : (ty : Ty) (x : Out) (f : Collection → Out) → ((c : Collection) → collection_of x ≡ Some c → IsOf joined ty (f c)) → IsOf joined ty (with_collection x f)
    with_many ty x f gives = of_given (IsOf joined ty) (collection_of x) f tt gives

    sum_is : (ds : List Datum) (i : ℤ) → IsOf joined types.Int (integers.sum_onto i ds)
    sum_is [] i = number_of i
    sum_is (d ∷ ds) i = of_given (IsOf joined types.Int) (integer_of_datum d) (λ j. if integers.is_integer (i +ℤ j) then integers.sum_onto (i +ℤ j) ds else outs.Invalid) tt
        (λ j has. either_way (IsOf joined types.Int) (integers.is_integer (i +ℤ j)) (integers.sum_onto (i +ℤ j) ds) outs.Invalid (sum_is ds (i +ℤ j)) tt)

    -- ---- elements

    -- the kind is that of the collection
    of_kind : (kind : Kind) (of ty : Ty) (c : Collection) → Elements kind of c → (x : Out) → IsOf joined (types.Coll c.kind ty) x → IsOf joined (types.Coll kind ty) x
    of_kind kind of ty c e x is = subst (λ k. IsOf joined (types.Coll k ty) x) (sym e.kind_is) is

    element_is : (kind : Kind) (ty : Ty) (o : Option Datum) → ((d : Datum) → o ≡ Some d → IsDatumIn metas s (In joined) ty d) → IsOf joined ty (collections.element kind o)
    element_is kind ty o has = either_way (IsOf joined ty) (collections.is_ordered kind) (given o outs.One) outs.Invalid (of_given (IsOf joined ty) o outs.One tt has) tt

    -- ---- one element more, or a collection

    record IsOneMore (of : Ty) (top : Ty) : Type 0 where
      below : ConformsTo metas of top
      is : (d : Datum) → datum_of (argument xs 0) ≡ Some d → IsDatumIn metas s (In joined) top d

    record IsOther (kind : Kind) (of : Ty) (top : Ty) : Type 0 where
      below : ConformsTo metas of top
      all : (c : Collection) → collection_of (argument xs 0) ≡ Some c → AllOf joined top c.elements

    one_element : (kind : Kind) (of t : Ty) (j : JoinsElement metas kind of (types_of parts) t) → IsOneMore of j.top
    one_element kind of t j =
        let first = first_argument metas s In parts j.element [] xs are j.is in
        record {
          below = j.joined.above of (contains_first of (j.element ∷ []));
          is = λ d has.
              datum_conforms metas s (In joined) models j.element j.top (j.joined.above j.element (later_in of j.element (j.element ∷ []) (contains_first j.element []))) d
              (datum_elsewhere metas s (In first.part.model) (In joined)
              (λ k here. joins (model ∷ models_of parts) first.part.model joined k one (later_in model first.part.model (models_of parts) (model_in parts first.part first.among)) here) j.element d
              (datum_in metas s (In first.part.model) j.element (argument xs 0) first.is d has));
        }

    other_elements : (kind : Kind) (of t : Ty) (j : JoinsCollection metas kind of (types_of parts) t) → IsOther kind of j.top
    other_elements kind of t j =
        let first = first_argument metas s In parts (types.Coll kind j.element) [] xs are j.is in
        record {
          below = j.joined.above of (contains_first of (j.element ∷ []));
          all = λ c has.
              all_joined (model ∷ models_of parts) first.part.model joined j.element j.top one
              (later_in model first.part.model (models_of parts) (model_in parts first.part first.among))
              (j.joined.above j.element (later_in of j.element (j.element ∷ []) (contains_first j.element []))) c.elements
              (elements_in metas s (In first.part.model) kind j.element (argument xs 0) first.is c has).all;
        }

    raised : (of top : Ty) → ConformsTo metas of top → (ds : List Datum) → AllOf model of ds → AllOf joined top ds
    raised of top below ds all = all_joined (model ∷ models_of parts) model joined of top one (contains_first model (models_of parts)) below ds all

    appended_is : (ty : Ty) (k : Kind) (ds : List Datum) (d : Datum) → AllOf joined ty ds → IsDatumIn metas s (In joined) ty d → IsOf joined (types.Coll k ty) (collections.appended k ds d)
    appended_is ty kinds.Sequence ds d all is = is_bounded metas s (In joined) kinds.Sequence ty (ds ++ d ∷ []) (All-push (IsDatumIn metas s (In joined) ty) ds d all is)
    appended_is ty kinds.OrderedSet ds d all is =
        is_bounded metas s (In joined) kinds.OrderedSet ty (collections.without d ds ++ d ∷ [])
        (All-push (IsDatumIn metas s (In joined) ty) (collections.without d ds) d (All-filter (λ e. not (same_datum d e)) (IsDatumIn metas s (In joined) ty) ds all) is)
    appended_is ty k ds d all is = tt

    prepended_is : (ty : Ty) (k : Kind) (ds : List Datum) (d : Datum) → AllOf joined ty ds → IsDatumIn metas s (In joined) ty d → IsOf joined (types.Coll k ty) (collections.prepended k ds d)
    prepended_is ty kinds.Sequence ds d all is = is_bounded metas s (In joined) kinds.Sequence ty (d ∷ ds) (All-cons (IsDatumIn metas s (In joined) ty) d ds is all)
    prepended_is ty kinds.OrderedSet ds d all is =
        is_bounded metas s (In joined) kinds.OrderedSet ty (d ∷ collections.without d ds)
        (All-cons (IsDatumIn metas s (In joined) ty) d (collections.without d ds) is (All-filter (λ e. not (same_datum d e)) (IsDatumIn metas s (In joined) ty) ds all))
    prepended_is ty k ds d all is = tt

    -- of two Sets: the elements of the first that are in both
    common_is : (ty : Ty) (k l : Kind) (ds es : List Datum) → AllOf joined ty ds → IsOf joined (types.Coll kinds.Set ty) (collections.intersection_of ds k es l)
    common_is ty kinds.Set kinds.Set ds es all = is_bounded metas s (In joined) kinds.Set ty (filter (λ d. is_among d es) ds) (All-filter (λ d. is_among d es) (IsDatumIn metas s (In joined) ty) ds all)
    common_is ty k l ds es all = tt

    -- ---- the operations that keep elements

    including_is : (kind : Kind) (of t : Ty) (c : Collection) → Elements kind of c → JoinsElement metas kind of (types_of parts) t → IsOf joined t (with_datum (argument xs 0) (collections.including c))
    including_is kind of t c e j =
        let more = one_element kind of t j in
        subst (λ u. IsOf joined u (with_datum (argument xs 0) (collections.including c))) (sym j.result)
        (with_one (types.Coll kind j.top) (argument xs 0) (collections.including c) (λ d has.
        of_kind kind of j.top c e (collections.including c d) (is_collected metas s (In joined) c.kind j.top (c.elements ++ d ∷ [])
        (All-push (IsDatumIn metas s (In joined) j.top) c.elements d (raised of j.top more.below c.elements e.all) (more.is d has)))))

    append_is : (kind : Kind) (of t : Ty) (c : Collection) → Elements kind of c → JoinsElement metas kind of (types_of parts) t → IsOf joined t (with_datum (argument xs 0) (collections.append c))
    append_is kind of t c e j =
        let more = one_element kind of t j in
        subst (λ u. IsOf joined u (with_datum (argument xs 0) (collections.append c))) (sym j.result)
        (with_one (types.Coll kind j.top) (argument xs 0) (collections.append c) (λ d has.
        of_kind kind of j.top c e (collections.append c d) (appended_is j.top c.kind c.elements d (raised of j.top more.below c.elements e.all) (more.is d has))))

    prepend_is : (kind : Kind) (of t : Ty) (c : Collection) → Elements kind of c → JoinsElement metas kind of (types_of parts) t → IsOf joined t (with_datum (argument xs 0) (collections.prepend c))
    prepend_is kind of t c e j =
        let more = one_element kind of t j in
        subst (λ u. IsOf joined u (with_datum (argument xs 0) (collections.prepend c))) (sym j.result)
        (with_one (types.Coll kind j.top) (argument xs 0) (collections.prepend c) (λ d has.
        of_kind kind of j.top c e (collections.prepend c d) (prepended_is j.top c.kind c.elements d (raised of j.top more.below c.elements e.all) (more.is d has))))

    union_is : (kind : Kind) (of t : Ty) (c : Collection) → Elements kind of c → JoinsCollection metas kind of (types_of parts) t → IsOf joined t (with_collection (argument xs 0) (collections.union c))
    union_is kind of t c e j =
        let more = other_elements kind of t j in
        subst (λ u. IsOf joined u (with_collection (argument xs 0) (collections.union c))) (sym j.result)
        (with_many (types.Coll kind j.top) (argument xs 0) (collections.union c) (λ o has.
        of_kind kind of j.top c e (collections.union c o)
        (either_way (IsOf joined (types.Coll c.kind j.top)) (same_kind c.kind o.kind) (collections.collection c.kind (c.elements ++ o.elements)) outs.Invalid
        (is_collected metas s (In joined) c.kind j.top (c.elements ++ o.elements)
        (All-append (IsDatumIn metas s (In joined) j.top) c.elements o.elements (raised of j.top more.below c.elements e.all) (more.all o has))) tt)))

    intersection_is : (kind : Kind) (of t : Ty) (c : Collection) → Elements kind of c → kind ≡ kinds.Set → JoinsCollection metas kind of (types_of parts) t
        → IsOf joined t (with_collection (argument xs 0) (collections.intersection c))
    intersection_is kind of t c e set j =
        let more = other_elements kind of t j in
        subst (λ u. IsOf joined u (with_collection (argument xs 0) (collections.intersection c))) (sym j.result)
        (with_many (types.Coll kind j.top) (argument xs 0) (collections.intersection c) (λ o has.
        subst (λ k. IsOf joined (types.Coll k j.top) (collections.intersection c o)) (sym set)
        (common_is j.top c.kind o.kind c.elements o.elements (raised of j.top more.below c.elements e.all))))

    as_kind_is : (kind to : Kind) (of t : Ty) (c : Collection) → Elements kind of c → t ≡ types.Coll to of → IsOf joined t (collections.as_kind to c)
    as_kind_is kind to of t c e is = subst (λ u. IsOf joined u (collections.as_kind to c)) (sym is) (is_collected metas s (In joined) to of c.elements (own of c.elements e.all))

    -- ---- all operations

    kept_is : (o : CollectionOperation) (kind : Kind) (of t : Ty) → CollectionGives metas o kind of (types_of parts) t → (c : Collection) → Elements kind of c → IsOf joined t (on_collection o c xs)
    kept_is of_collections.Size kind of t is c e = subst (λ u. IsOf joined u (on_collection of_collections.Size c xs)) (sym is.1) (number_of (pos (length c.elements)))
    kept_is of_collections.IsEmpty kind of t is c e = subst (λ u. IsOf joined u (on_collection of_collections.IsEmpty c xs)) (sym is.1) (truth_of (length c.elements == 0))
    kept_is of_collections.NotEmpty kind of t is c e = subst (λ u. IsOf joined u (on_collection of_collections.NotEmpty c xs)) (sym is.1) (truth_of (not (length c.elements == 0)))
    kept_is of_collections.Includes kind of t is c e = subst (λ u. IsOf joined u (on_collection of_collections.Includes c xs)) (sym is.result) (with_one types.Bool (argument xs 0) (collections.includes c) (λ d has. truth_of (is_among d c.elements)))
    kept_is of_collections.Excludes kind of t is c e = subst (λ u. IsOf joined u (on_collection of_collections.Excludes c xs)) (sym is.result) (with_one types.Bool (argument xs 0) (collections.excludes c) (λ d has. truth_of (not (is_among d c.elements))))
    kept_is of_collections.IncludesAll kind of t is c e =
        subst (λ u. IsOf joined u (on_collection of_collections.IncludesAll c xs)) (sym is.result) (with_many types.Bool (argument xs 0) (collections.includes_all c) (λ o has. truth_of (list_all (λ d. is_among d c.elements) o.elements)))
    kept_is of_collections.ExcludesAll kind of t is c e =
        subst (λ u. IsOf joined u (on_collection of_collections.ExcludesAll c xs)) (sym is.result) (with_many types.Bool (argument xs 0) (collections.excludes_all c) (λ o has. truth_of (list_all (λ d. not (is_among d c.elements)) o.elements)))
    kept_is of_collections.Count kind of t is c e = subst (λ u. IsOf joined u (on_collection of_collections.Count c xs)) (sym is.result) (with_one types.Int (argument xs 0) (collections.count c) (λ d has. number_of (pos (count_by (same_datum d) c.elements))))
    kept_is of_collections.Sum kind of t is c e = subst (λ u. IsOf joined u (on_collection of_collections.Sum c xs)) (sym is.1.1) (sum_is c.elements (pos 0))
    kept_is of_collections.Including kind of t is c e = including_is kind of t c e is
    kept_is of_collections.Excluding kind of t is c e =
        subst (λ u. IsOf joined u (on_collection of_collections.Excluding c xs)) (sym is.result)
        (with_one (types.Coll kind of) (argument xs 0) (collections.excluding c) (λ d has.
        of_kind kind of of c e (collections.excluding c d) (is_bounded metas s (In joined) c.kind of (collections.without d c.elements)
        (All-filter (λ x. not (same_datum d x)) (IsDatumIn metas s (In joined) of) c.elements (own of c.elements e.all)))))
    kept_is of_collections.Union kind of t is c e = union_is kind of t c e is
    kept_is of_collections.Intersection kind of t is c e = intersection_is kind of t c e is.0 is.1
    kept_is of_collections.AsSet kind of t is c e = as_kind_is kind kinds.Set of t c e is.1
    kept_is of_collections.AsBag kind of t is c e = as_kind_is kind kinds.Bag of t c e is.1
    kept_is of_collections.AsSequence kind of t is c e = as_kind_is kind kinds.Sequence of t c e is.1
    kept_is of_collections.AsOrderedSet kind of t is c e = as_kind_is kind kinds.OrderedSet of t c e is.1
    kept_is of_collections.First kind of t is c e =
        subst (λ u. IsOf joined u (on_collection of_collections.First c xs)) (sym is.1.1)
        (element_is c.kind of (slice_get c.elements 0) (λ d has. all_at (IsDatumIn metas s (In joined) of) c.elements 0 d (own of c.elements e.all) has))
    kept_is of_collections.Last kind of t is c e =
        subst (λ u. IsOf joined u (on_collection of_collections.Last c xs)) (sym is.1.1)
        (element_is c.kind of (last_or None c.elements) (λ d has. all_last (IsDatumIn metas s (In joined) of) c.elements (own of c.elements e.all) d has))
    kept_is of_collections.At kind of t is c e =
        subst (λ u. IsOf joined u (on_collection of_collections.At c xs)) (sym is.2)
        (of_given (IsOf joined of) (integer_of (argument xs 0)) (collections.at c) tt (λ i has.
        of_given (IsOf joined of) (natural i) (λ n. collections.element c.kind (collections.element_at c.elements n)) tt (λ n there.
        element_is c.kind of (collections.element_at c.elements n) (λ d found. all_element_at (IsDatumIn metas s (In joined) of) c.elements n d (own of c.elements e.all) found))))
    kept_is of_collections.Append kind of t is c e = append_is kind of t c e is.1
    kept_is of_collections.Prepend kind of t is c e = prepend_is kind of t c e is.1

    -- `excluding` gives no objects of the argument's model
    excluding_is : (kind : Kind) (of t : Ty) → CollectionGives metas of_collections.Excluding kind of (types_of parts) t → (c : Collection) → Elements kind of c
        → IsOf model t (on_collection of_collections.Excluding c xs)
    excluding_is kind of t is c e =
        subst (λ u. IsOf model u (on_collection of_collections.Excluding c xs)) (sym is.result)
        (of_given (IsOf model (types.Coll kind of)) (datum_of (argument xs 0)) (collections.excluding c) tt (λ d has.
        subst (λ k. IsOf model (types.Coll k of) (collections.excluding c d)) (sym e.kind_is) (is_bounded metas s (In model) c.kind of (collections.without d c.elements)
        (All-filter (λ x. not (same_datum d x)) (IsDatumIn metas s (In model) of) c.elements e.all))))

    given_is : (o : CollectionOperation) (kind : Kind) (of t : Ty) → CollectionGives metas o kind of (types_of parts) t → (c : Collection) → Elements kind of c
        → IsOf (given_model o model joined) t (on_collection o c xs)
    given_is of_collections.Excluding kind of t is c e = excluding_is kind of t is c e
    given_is o kind of t is c e = kept_is o kind of t is c e

    -- what an operation gives of a collection of this kind and type, and arguments of those
    pub collection_is : (o : CollectionOperation) (kind : Kind) (of t : Ty) → CollectionGives metas o kind of (types_of parts) t → (x : Out) → IsOf model (types.Coll kind of) x
        → IsOf (given_model o model joined) t (with_collection x (λ c. on_collection o c xs))
    collection_is o kind of t is x are_of =
        of_given (IsOf (given_model o model joined) t) (collection_of x) (λ c. on_collection o c xs) tt (λ c has.
        given_is o kind of t is c (elements_in metas s (In model) kind of x are_of c has))

  -- ---- iterators

  module _ (model body : Option ℕ) (kind : Kind) (of bt : Ty) (c : Collection) (e : HasElements metas s (In model) kind of c) (results : List Out)
      (all : All (IsValueIn metas s (In body) bt) results) where
    chosen_is : (t : Ty) → t ≡ types.Coll kind of → (o : Option (List Bool)) (f : List Bool → List Bool) → IsOf model t (given o (λ bs. collections.bounded c.kind (items_where_true (f bs) c.elements)))
    chosen_is t is o f =
        subst (λ u. IsOf model u (given o (λ bs. collections.bounded c.kind (items_where_true (f bs) c.elements)))) (sym is)
        (of_given (IsOf model (types.Coll kind of)) o (λ bs. collections.bounded c.kind (items_where_true (f bs) c.elements)) tt (λ bs has.
        subst (λ k. IsOf model (types.Coll k of) (collections.bounded c.kind (items_where_true (f bs) c.elements))) (sym e.kind_is)
        (is_bounded metas s (In model) c.kind of (items_where_true (f bs) c.elements) (all_where (IsDatumIn metas s (In model) of) (f bs) c.elements e.all))))

    truth_is : (t : Ty) → t ≡ types.Bool → (x : Out) → IsOf model types.Bool x → IsOf model t x
    truth_is t is x b = subst (λ u. IsOf model u x) (sym is) b

    -- what a result adds is of the type of the elements
    from_one : (element : Ty) → Flattened bt element → (x : Out) → IsOf body bt x → (ds : List Datum) → iterating.collected_from x ≡ Some ds → AllOf body element ds
    from_one element (inl (k, is)) (outs.One d) at ds same = absurd (subst (λ u. IsDatumIn metas s (In body) u d) is at)
    from_one element (inr (single, is)) (outs.One d) at ds same =
        subst (AllOf body element) (same_Some (d ∷ []) ds same)
        (All-cons (IsDatumIn metas s (In body) element) d [] (subst (λ u. IsDatumIn metas s (In body) u d) (sym is) at) (All-nil (IsDatumIn metas s (In body) element)))
    from_one element (inl (k, is)) (outs.Many l es) (inner, at, each) ds same =
        let one : inner ≡ element = same_element l k inner element (sym at ∙ is) in
        subst (AllOf body element) (same_Some es ds same) (subst (λ u. AllOf body u es) one each)
    from_one element (inr (single, is)) (outs.Many l es) (inner, at, each) ds same = absurd (single l inner at)
    from_one element f outs.Null at ds same = subst (AllOf body element) (same_Some [] ds same) (All-nil (IsDatumIn metas s (In body) element))
    from_one element f outs.Invalid at ds same = absurd (none-some ds same)

    joint : (o p : Option (List Datum)) (ds : List Datum) → and_then o (λ xs. and_then p (λ ys. Some (xs ++ ys))) ≡ Some ds
        → (xs : List Datum) × (ys : List Datum) × (o ≡ Some xs) × (p ≡ Some ys) × (xs ++ ys ≡ ds)
    joint None p ds is = absurd (none-some ds is)
    joint (Some xs) None ds is = absurd (none-some ds is)
    joint (Some xs) (Some ys) ds is = (xs, ys, refl, refl, same_Some (xs ++ ys) ds is)

    from_all : (element : Ty) → Flattened bt element → (xs : List Out) → All (IsValueIn metas s (In body) bt) xs → (ds : List Datum) → iterating.all_collected xs ≡ Some ds → AllOf body element ds
    from_all element f [] every ds same = subst (AllOf body element) (same_Some [] ds same) (All-nil (IsDatumIn metas s (In body) element))
    from_all element f (x ∷ xs) every ds same =
        let (ys, zs, one, more, joined) = joint (iterating.collected_from x) (iterating.all_collected xs) ds same in
        subst (AllOf body element) joined (All-append (IsDatumIn metas s (In body) element) ys zs
        (from_one element f x (All-head (IsValueIn metas s (In body) bt) x xs every) ys one)
        (from_all element f xs (All-tail (IsValueIn metas s (In body) bt) x xs every) zs more))

    same_kinds : (k : Kind) → iterating.collected_kind k ≡ collected_kind k
    same_kinds kinds.Set = refl
    same_kinds kinds.Bag = refl
    same_kinds kinds.Sequence = refl
    same_kinds kinds.OrderedSet = refl

    pub collect_is : (element : Ty) → Flattened bt element → IsOf body (types.Coll (collected_kind kind) element) (iterating.collect c results)
    collect_is element f =
        of_given (IsOf body (types.Coll (collected_kind kind) element)) (iterating.all_collected results) (collections.collection (iterating.collected_kind c.kind)) tt (λ ds has.
        subst (λ k. IsOf body (types.Coll k element) (collections.collection (iterating.collected_kind c.kind) ds)) (same_kinds c.kind ∙ ap collected_kind (sym e.kind_is))
        (is_collected metas s (In body) (iterating.collected_kind c.kind) element ds (from_all element f results all ds has)))

    pub iterator_is : (i : IteratorKind) (t : Ty) → IteratorGives i kind of bt t → IsOf (iterated_model i model body) t (iterating.iterated i c results)
    iterator_is iterators.Select t is = chosen_is t is.1 (iterating.conditions results) (λ bs. bs)
    iterator_is iterators.Reject t is = chosen_is t is.1 (iterating.conditions results) (map not)
    iterator_is iterators.Collect t (element, f, is) = subst (λ u. IsOf body u (iterating.collect c results)) (sym is) (collect_is element f)
    iterator_is iterators.Exists t is = truth_is t is.1 (iterating.exists results) (is_truth metas s (In model) (some_of (map boolean_of results)))
    iterator_is iterators.ForAll t is = truth_is t is.1 (iterating.for_all results) (is_truth metas s (In model) (all_of (map boolean_of results)))
    iterator_is iterators.One t is =
        truth_is t is.1 (iterating.one results) (of_given (IsOf model types.Bool) (iterating.conditions results) (λ bs. boolean (count_by (λ b. b) bs == 1)) tt (λ bs has. is_boolean metas s (In model) (count_by (λ b. b) bs == 1)))
    iterator_is iterators.IsUnique t is =
        truth_is t is (iterating.is_unique results) (of_given (IsOf model types.Bool) (all_given (map iterating.defined results)) (λ xs. boolean (all_differ xs)) tt (λ xs has. is_boolean metas s (In model) (all_differ xs)))
