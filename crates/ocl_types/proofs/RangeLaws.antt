-- The types in a typed tree are of its metamodels: each class and each enumeration is one of these.
use Rattle.std.proofs.Common.{◌≡◌, ◌<◌, ℕ, Bool, true, false, List, [], ◌∷◌, Option, None, Some, length, refl, sym, ap, ◌∙◌, subst, inl, inr, if◌then◌else◌, arith}
use Rattle.std.specs.Prelude.{IsTrue, nat_lt, slice_get, Contains}
use Rattle.std.specs.Option.{option_map, option_or}
use Rattle.std.proofs.lemmas.Bool.Decides.{nat_tests}
use Rattle.std.proofs.lemmas.Option.{none-some, same_Some, slice_get_within, get_or_from_slice_get}
use Rattle.std.proofs.lemmas.List.Quantifiers.{position-Some}
use Rattle.mof_metamodel.specs.declared.desc.MetaDesc.{MetaDesc}
use Rattle.mof_metamodel.specs.declared.desc.ClassDesc.{ClassDesc}
use Rattle.mof_metamodel.specs.declared.desc.EnumDesc.{EnumDesc}
use Rattle.mof_metamodel.specs.declared.desc.ClassId.{ClassId}
use Rattle.mof_metamodel.specs.declared.desc.EnumId.{EnumId}
use Rattle.mof_metamodel.specs.declared.desc.PropType.{PropType}
use Rattle.mof_metamodel.specs.declared.desc.PropType.TheVariants as props
use Rattle.mof_metamodel.specs.Metamodels.{same_name, class_count, enum_count, class_number, enum_number, no_class, no_enum, declared_type, type_of, prop_at, IsTypeOf}
use Rattle.qv_syntax.specs.declared.operator.Operator.{Operator}
use Rattle.qv_syntax.specs.declared.operator.Operator.TheVariants as operators
use Rattle.qv_syntax.specs.declared.operation.Operation.{Operation}
use Rattle.qv_syntax.specs.declared.operation.Operation.TheVariants as singles
use Rattle.qv_syntax.specs.declared.operation.ClassOperation.{ClassOperation}
use Rattle.qv_syntax.specs.declared.operation.ClassOperation.TheVariants as tests
use Rattle.qv_syntax.specs.declared.operation.CollectionOperation.{CollectionOperation}
use Rattle.qv_syntax.specs.declared.operation.CollectionOperation.TheVariants as collections
use Rattle.qv_syntax.specs.declared.operation.IteratorKind.{IteratorKind}
use Rattle.qv_syntax.specs.declared.operation.IteratorKind.TheVariants as iterators
use Rattle.qv_syntax.specs.declared.ty.Ty.{Ty, map-Ty, roll-Ty, fold-roll-Ty}
use Rattle.qv_syntax.specs.declared.ty.Ty.TheOpen as of
use Rattle.qv_syntax.specs.declared.ty.Ty.TheVariants as types
use Rattle.qv_syntax.specs.declared.type_tree.Kind.{Kind}
use Rattle.qv_syntax.specs.declared.typed.Typed.{Typed}
use Rattle.qv_syntax.specs.declared.typed.Call.{Call}
use Rattle.qv_syntax.specs.declared.typed.Values.{Values}
use Rattle.qv_syntax.specs.declared.typed.Values.TheVariants as values
use Rattle.qv_syntax.specs.declared.typed.TypedInfix.{TypedInfix}
use Rattle.qv_syntax.specs.declared.typed.TypedPostfix.{TypedPostfix}
use Rattle.qv_syntax.specs.Types.{IsClassIn, IsEnumIn, IsSingleType, IsWrittenType, IsTopOf}
use Rattle.qv_syntax.specs.TypeRules.{Operated, Branches, Elements, HasProperty, value_type, navigated, OperationGives, CollectionGives, JoinsElement, JoinsCollection, IteratorGives, tested}
use Rattle.qv_syntax.specs.TypedTrees.{QueryType, Context, Typing, Variables, with_variable, types_of, IsTyped, AreTyped, IsChained, AreCalled, IsCalled}
use Rattle.ocl_environments.specs.Environments.{no_meta, meta_at, is_over, is_over_step}
use Rattle.std.proofs.lemmas.Bool.{and_from}
use Rattle.ocl_types.proofs.ConformanceLaws.{first_in, in_two, in_either, one_more}
use Rattle.mof_metamodel.proofs.Facts.{nothing_in}
use Rattle.std.proofs.lemmas.Bool.{lt-ltb}

module _ (metas : List MetaDesc) where
  abbrev IsOver : Ty → Type 0
  IsOver ty = is_over metas ty ≡ true

  at_layer : (l : of.Ty-F Ty) (ty : Ty) → roll-Ty l ≡ ty → is_over_step metas (map-Ty Ty Bool (is_over metas) l) ≡ is_over metas ty
  at_layer l ty same = sym (fold-roll-Ty Bool (is_over_step metas) l) ∙ ap (is_over metas) same

  pub over_str : IsOver types.Str
  over_str = sym (at_layer of.Str types.Str types.rolls-Str)

  pub over_int : IsOver types.Int
  over_int = sym (at_layer of.Int types.Int types.rolls-Int)

  pub over_bool : IsOver types.Bool
  over_bool = sym (at_layer of.Bool types.Bool types.rolls-Bool)

  pub over_null : IsOver types.Null
  over_null = sym (at_layer of.Null types.Null types.rolls-Null)

  pub over_class : (m : ℕ) (c : ClassId) → IsClassIn metas m c → IsOver (types.Class m c)
  over_class m c has =
      let same : meta_at metas m ≡ has.meta = get_or_from_slice_get metas m has.meta no_meta has.found in
      let within : c.0 < class_count (meta_at metas m) = subst (λ d. c.0 < class_count d) (sym same) has.within in
      sym (at_layer (of.Class m c) (types.Class m c) (types.rolls-Class m c))
      ∙ and_from (nat_lt m (length metas)) (nat_lt c.0 (class_count (meta_at metas m))) (lt-ltb m (length metas) (slice_get_within metas m has.meta has.found)) (lt-ltb c.0 (class_count (meta_at metas m)) within)

  pub over_enum : (m : ℕ) (e : EnumId) → IsEnumIn metas m e → IsOver (types.Enum m e)
  over_enum m e has =
      let same : meta_at metas m ≡ has.meta = get_or_from_slice_get metas m has.meta no_meta has.found in
      let within : e.0 < enum_count (meta_at metas m) = subst (λ d. e.0 < enum_count d) (sym same) has.within in
      sym (at_layer (of.Enum m e) (types.Enum m e) (types.rolls-Enum m e))
      ∙ and_from (nat_lt m (length metas)) (nat_lt e.0 (enum_count (meta_at metas m))) (lt-ltb m (length metas) (slice_get_within metas m has.meta has.found)) (lt-ltb e.0 (enum_count (meta_at metas m)) within)

  -- a collection is of the metamodels where its elements are
  over_collection : (kind : Kind) (inner : Ty) → is_over metas inner ≡ is_over metas (types.Coll kind inner)
  over_collection kind inner = at_layer (of.Coll kind inner) (types.Coll kind inner) (types.rolls-Coll kind inner)

  pub of_elements : (kind : Kind) (inner : Ty) → IsOver inner → IsOver (types.Coll kind inner)
  of_elements kind inner is = sym (over_collection kind inner) ∙ is

  pub elements_of : (kind : Kind) (inner : Ty) → IsOver (types.Coll kind inner) → IsOver inner
  elements_of kind inner is = over_collection kind inner ∙ is

  -- ---- written types

  single_over : (ty : Ty) → IsSingleType metas ty → IsOver ty
  single_over types.Str is = over_str
  single_over types.Int is = over_int
  single_over types.Bool is = over_bool
  single_over (types.Enum m e) is = over_enum m e is
  single_over (types.Class m c) is = over_class m c is
  single_over ty is = absurd is

  pub written_over : (ty : Ty) → IsWrittenType metas ty → IsOver ty
  written_over ty (inl single) = single_over ty single
  written_over ty (inr (kind, inner, same, single)) = subst IsOver (sym same) (of_elements kind inner (single_over inner single))

  -- ---- types of properties

  class_named : (meta : MetaDesc) (name : List ℕ) (o : Option ℕ) (t : PropType) → class_number meta name ≡ o → option_map (λ c. props.Class (record { 0 = c })) o ≡ Some t → IsTypeOf meta t
  class_named meta name None t at is = absurd (none-some t is)
  class_named meta name (Some c) t at is = subst (IsTypeOf meta) (same_Some (props.Class (record { 0 = c })) t is) ((position-Some (λ (d : ClassDesc). same_name name d.name) meta.classes c no_class at).0)

  type_named_over : (meta : MetaDesc) (name : List ℕ) (o : Option ℕ) (t : PropType) → enum_number meta name ≡ o
      → option_or (option_map (λ e. props.Enum (record { 0 = e })) o) (option_map (λ c. props.Class (record { 0 = c })) (class_number meta name)) ≡ Some t → IsTypeOf meta t
  type_named_over meta name None t at is = class_named meta name (class_number meta name) t refl is
  type_named_over meta name (Some e) t at is = subst (IsTypeOf meta) (same_Some (props.Enum (record { 0 = e })) t is) ((position-Some (λ (d : EnumDesc). same_name name d.name) meta.enums e no_enum at).0)

  any_named : (meta : MetaDesc) (name : List ℕ) (t : PropType) (a b c : Bool)
      → (if a then Some props.Str else if b then Some props.Int else if c then Some props.Bool else declared_type meta name) ≡ Some t → IsTypeOf meta t
  any_named meta name t true b c is = subst (IsTypeOf meta) (same_Some props.Str t is) tt
  any_named meta name t false true c is = subst (IsTypeOf meta) (same_Some props.Int t is) tt
  any_named meta name t false false true is = subst (IsTypeOf meta) (same_Some props.Bool t is) tt
  any_named meta name t false false false is = type_named_over meta name (enum_number meta name) t refl is

  prop_type : (meta : MetaDesc) (p : ℕ) (t : PropType) → type_of meta p ≡ Some t → IsTypeOf meta t
  prop_type meta p t is = any_named meta (prop_at meta p).type_name t _ _ _ is

  value_over : (m : ℕ) (meta : MetaDesc) (t : PropType) → slice_get metas m ≡ Some meta → IsTypeOf meta t → IsOver (value_type m t)
  value_over m meta props.Str found is = over_str
  value_over m meta props.Int found is = over_int
  value_over m meta props.Bool found is = over_bool
  value_over m meta (props.Enum e) found is = over_enum m e (record { meta = meta; found = found; within = is })
  value_over m meta (props.Class c) found is = over_class m c (record { meta = meta; found = found; within = is })

  pub property_over : (object : Ty) (prop : _) (gives : Values) (t : Ty) → HasProperty metas object prop gives t → IsOver t
  property_over object prop gives t p = subst IsOver (sym p.value) (value_over p.m p.has.meta p.of p.has.found (prop_type p.has.meta prop.0 p.of p.typed))

  navigated_over : (gives : Values) (t : Ty) → IsOver t → IsOver (navigated gives t)
  navigated_over values.Single t is = is
  navigated_over values.Set t is = of_elements _ t is
  navigated_over values.OrderedSet t is = of_elements _ t is

  -- ---- what rules give

  top_over : (tys : List Ty) (t : Ty) → ((ty : Ty) → Contains tys ty → IsOver ty) → IsTopOf metas tys t → IsOver t
  top_over tys t over top = over t top.among

  either_over : (a b t : Ty) → IsOver a → IsOver b → IsTopOf metas (a ∷ b ∷ []) t → IsOver t
  either_over a b t one other top = top_over (a ∷ b ∷ []) t (in_two IsOver a b one other) top

  pub operated_over : (operator : Operator) (a b t : Ty) → Operated metas operator a b t → IsOver t
  operated_over operators.Implies a b t is = subst IsOver (sym is.2) over_bool
  operated_over operators.Xor a b t is = subst IsOver (sym is.2) over_bool
  operated_over operators.Or a b t is = subst IsOver (sym is.2) over_bool
  operated_over operators.And a b t is = subst IsOver (sym is.2) over_bool
  operated_over operators.Equal a b t is = subst IsOver (sym is.1) over_bool
  operated_over operators.NotEqual a b t is = subst IsOver (sym is.1) over_bool
  operated_over operators.Less a b t is = subst IsOver (sym is.2) over_bool
  operated_over operators.Greater a b t is = subst IsOver (sym is.2) over_bool
  operated_over operators.AtMost a b t is = subst IsOver (sym is.2) over_bool
  operated_over operators.AtLeast a b t is = subst IsOver (sym is.2) over_bool
  operated_over operators.Plus a b t (inl is) = subst IsOver (sym is.2) over_int
  operated_over operators.Plus a b t (inr is) = subst IsOver (sym is.2) over_str
  operated_over operators.Minus a b t is = subst IsOver (sym is.2) over_int
  operated_over operators.Times a b t is = subst IsOver (sym is.2) over_int

  branches_over : (a b t : Ty) → IsOver a → IsOver b → Branches metas a b t → IsOver t
  branches_over a b t one other (inl is) = subst IsOver (sym is.1) other
  branches_over a b t one other (inr (inl is)) = subst IsOver (sym is.1) one
  branches_over a b t one other (inr (inr top)) = either_over a b t one other top

  elements_over : (tys : List Ty) (t : Ty) → ((ty : Ty) → Contains tys ty → IsOver ty) → Elements metas tys t → IsOver t
  elements_over [] t over is = subst IsOver (sym is) over_null
  elements_over (a ∷ more) t over is = top_over (a ∷ more) t over is.0

  operation_over : (operation : Operation) (x t : Ty) (args : List Ty) → IsOver x → OperationGives operation x args t → IsOver t
  operation_over singles.Absolute x t args over is = subst IsOver (sym is.2) over_int
  operation_over singles.Divide x t args over is = subst IsOver (sym is.2) over_int
  operation_over singles.Modulo x t args over is = subst IsOver (sym is.2) over_int
  operation_over singles.Maximum x t args over is = subst IsOver (sym is.2) over_int
  operation_over singles.Minimum x t args over is = subst IsOver (sym is.2) over_int
  operation_over singles.ToString x t args over (inl is) = subst IsOver (sym is.2) over_str
  operation_over singles.ToString x t args over (inr is) = subst IsOver (sym is.2) over_str
  operation_over singles.Length x t args over is = subst IsOver (sym is.2) over_int
  operation_over singles.Concatenate x t args over is = subst IsOver (sym is.2) over_str
  operation_over singles.ToInteger x t args over is = subst IsOver (sym is.2) over_int
  operation_over singles.Substring x t args over is = subst IsOver (sym is.2) over_str
  operation_over singles.IsUndefined x t args over is = subst IsOver (sym is.1) over_bool
  operation_over singles.IsInvalid x t args over is = subst IsOver (sym is.1) over_bool
  operation_over singles.AsSingletonSet x t args over is = subst IsOver (sym is.2) (of_elements _ x over)

  tested_over : (operation : ClassOperation) (m : ℕ) (class : ClassId) → IsClassIn metas m class → IsOver (tested operation m class)
  tested_over tests.IsTypeOf m class has = over_bool
  tested_over tests.IsKindOf m class has = over_bool
  tested_over tests.AsType m class has = over_class m class has

  joined_over : (kind : Kind) (of t : Ty) (args : List Ty) → IsOver of → ((ty : Ty) → Contains args ty → IsOver ty) → JoinsElement metas kind of args t → IsOver t
  joined_over kind of t args over all j =
      let e : IsOver j.element = all j.element (subst (λ tys. Contains tys j.element) (sym j.is) (first_in j.element j.element [] refl)) in
      subst IsOver (sym j.result) (of_elements kind j.top (either_over of j.element j.top over e j.joined))

  joined_collection_over : (kind : Kind) (of t : Ty) (args : List Ty) → IsOver of → ((ty : Ty) → Contains args ty → IsOver ty) → JoinsCollection metas kind of args t → IsOver t
  joined_collection_over kind of t args over all j =
      let c : Ty = types.Coll kind j.element in
      let e : IsOver j.element = elements_of kind j.element (all c (subst (λ tys. Contains tys c) (sym j.is) (first_in c c [] refl))) in
      subst IsOver (sym j.result) (of_elements kind j.top (either_over of j.element j.top over e j.joined))

  collection_over : (operation : CollectionOperation) (kind : Kind) (of t : Ty) (args : List Ty) → IsOver of → ((ty : Ty) → Contains args ty → IsOver ty)
      → CollectionGives metas operation kind of args t → IsOver t
  collection_over collections.Size kind of t args over all is = subst IsOver (sym is.1) over_int
  collection_over collections.IsEmpty kind of t args over all is = subst IsOver (sym is.1) over_bool
  collection_over collections.NotEmpty kind of t args over all is = subst IsOver (sym is.1) over_bool
  collection_over collections.Includes kind of t args over all is = subst IsOver (sym is.result) over_bool
  collection_over collections.Excludes kind of t args over all is = subst IsOver (sym is.result) over_bool
  collection_over collections.IncludesAll kind of t args over all is = subst IsOver (sym is.result) over_bool
  collection_over collections.ExcludesAll kind of t args over all is = subst IsOver (sym is.result) over_bool
  collection_over collections.Count kind of t args over all is = subst IsOver (sym is.result) over_int
  collection_over collections.Sum kind of t args over all is = subst IsOver (sym is.1.1) over_int
  collection_over collections.Including kind of t args over all is = joined_over kind of t args over all is
  collection_over collections.Excluding kind of t args over all is = subst IsOver (sym is.result) (of_elements kind of over)
  collection_over collections.Union kind of t args over all is = joined_collection_over kind of t args over all is
  collection_over collections.Intersection kind of t args over all is = joined_collection_over kind of t args over all is.1
  collection_over collections.AsSet kind of t args over all is = subst IsOver (sym is.1) (of_elements _ of over)
  collection_over collections.AsBag kind of t args over all is = subst IsOver (sym is.1) (of_elements _ of over)
  collection_over collections.AsSequence kind of t args over all is = subst IsOver (sym is.1) (of_elements _ of over)
  collection_over collections.AsOrderedSet kind of t args over all is = subst IsOver (sym is.1) (of_elements _ of over)
  collection_over collections.First kind of t args over all is = subst IsOver (sym is.1.1) over
  collection_over collections.Last kind of t args over all is = subst IsOver (sym is.1.1) over
  collection_over collections.At kind of t args over all is = subst IsOver (sym is.2) over
  collection_over collections.Append kind of t args over all is = joined_over kind of t args over all is.1
  collection_over collections.Prepend kind of t args over all is = joined_over kind of t args over all is.1

  iterator_over : (iterator : IteratorKind) (kind : Kind) (of body t : Ty) → IsOver of → IsOver body → IteratorGives iterator kind of body t → IsOver t
  iterator_over iterators.Select kind of body t over inner is = subst IsOver (sym is.1) (of_elements kind of over)
  iterator_over iterators.Reject kind of body t over inner is = subst IsOver (sym is.1) (of_elements kind of over)
  iterator_over iterators.Collect kind of body t over inner (element, inl (other, same), gives) = subst IsOver (sym gives) (of_elements _ element (elements_of other element (subst IsOver same inner)))
  iterator_over iterators.Collect kind of body t over inner (element, inr (single, same), gives) = subst IsOver (sym gives) (of_elements _ element (subst IsOver (sym same) inner))
  iterator_over iterators.Exists kind of body t over inner is = subst IsOver (sym is.1) over_bool
  iterator_over iterators.ForAll kind of body t over inner is = subst IsOver (sym is.1) over_bool
  iterator_over iterators.One kind of body t over inner is = subst IsOver (sym is.1) over_bool
  iterator_over iterators.IsUnique kind of body t over inner is = subst IsOver (sym is) over_bool

-- ---- variables

-- the type of each variable is of the metamodels
abbrev pub AllOver : List MetaDesc → Variables → Type 0
AllOver metas vars = (v : Typing) (n : ℕ) → slice_get vars n ≡ Some v → IsTrue (is_over metas v.ty)

pub over_with : (metas : List MetaDesc) (vars : Variables) (v : Typing) → AllOver metas vars → IsOver metas v.ty → AllOver metas (with_variable vars v)
over_with metas vars v all one = λ w n at. elim (one_more vars v n w at) [ inl before ↦ all w n before | inr same ↦ subst (λ (u : Typing). IsOver metas u.ty) same one ]

-- ---- typed trees

module _ (context : Context) (results : (q : QueryType) (n : ℕ) → slice_get context.queries n ≡ Some q → IsTrue (is_over context.metas q.result)) where
  abbrev Over : Ty → Type 0
  Over ty = is_over context.metas ty ≡ true

  mutual
    pub typed_over : (vars : Variables) (e : Typed) (p : Typing) → AllOver context.metas vars → IsTyped context vars e p → Over p.ty
    typed_over vars e p all (IsTyped.number _ value) = over_int context.metas
    typed_over vars e p all (IsTyped.string _ text) = over_str context.metas
    typed_over vars e p all (IsTyped.boolean _ value) = over_bool context.metas
    typed_over vars e p all (IsTyped.null _) = over_null context.metas
    typed_over vars e p all (IsTyped.invalid _) = over_null context.metas
    typed_over vars e p all (IsTyped.enum_literal _ m enumeration literal there) = over_enum context.metas m enumeration there.has
    typed_over vars e p all (IsTyped.variable _ number _ at) = all p number at
    typed_over vars e p all (IsTyped.let_in _ ty value body v _ written given conforms inside) =
        typed_over (with_variable vars (record { ty = ty; model = v.model })) body p (over_with context.metas vars (record { ty = ty; model = v.model }) all (written_over context.metas ty written)) inside
    typed_over vars e p all (IsTyped.chain _ first rest a t one links) = chained_over vars a.ty rest t all (typed_over vars first a all one) links
    typed_over vars e p all (IsTyped.negation _ operand a one is) = over_bool context.metas
    typed_over vars e p all (IsTyped.negated _ operand a one is) = over_int context.metas
    typed_over vars e p all (IsTyped.called _ part steps a _ one calls) = called_over vars a steps p all (typed_over vars part a all one) calls
    typed_over vars e p all (IsTyped.branches _ condition one other c a b t model first is second third goes join) =
        branches_over context.metas a.ty b.ty t (typed_over vars one a all second) (typed_over vars other b all third) goes
    typed_over vars e p all (IsTyped.literal _ kind elements parts t model each goes join) =
        of_elements context.metas kind t (elements_over context.metas (types_of parts) t (each_over vars elements parts all each) goes)
    typed_over vars e p all (IsTyped.extent _ m model class only) = of_elements context.metas _ (types.Class m class) (over_class context.metas m class only.has)
    typed_over vars e p all (IsTyped.query _ number args parts q at each conform) = results q number at

    pub each_over : (vars : Variables) (es : List Typed) (ps : List Typing) → AllOver context.metas vars → AreTyped context vars es ps → (ty : Ty) → Contains (types_of ps) ty → Over ty
    each_over vars es ps all (AreTyped.none _) = λ ty among. absurd (nothing_in ty among)
    each_over vars es ps all (AreTyped.one_more _ e more p others one rest) = λ ty among. elim (in_either p.ty ty (types_of others) among) [
      | inl same ↦ subst Over same (typed_over vars e p all one)
      | inr there ↦ each_over vars more others all rest ty there
    ]

    chained_over : (vars : Variables) (a : Ty) (links : List TypedInfix) (t : Ty) → AllOver context.metas vars → Over a → IsChained context vars a links t → Over t
    chained_over vars a links t all over (IsChained.no_more _ _) = over
    chained_over vars a links t all over (IsChained.operator _ _ o right b s rest _ one gives more) = chained_over vars s rest t all (operated_over context.metas o a b.ty s gives) more

    called_over : (vars : Variables) (a : Typing) (steps : List TypedPostfix) (b : Typing) → AllOver context.metas vars → Over a.ty → AreCalled context vars a steps b → Over b.ty
    called_over vars a steps b all over (AreCalled.all_called _ _) = over
    called_over vars a steps b all over (AreCalled.call _ _ c between rest _ one more) = called_over vars between rest b all (call_over vars a c between all over one) more

    pub call_over : (vars : Variables) (a : Typing) (c : Call) (b : Typing) → AllOver context.metas vars → Over a.ty → IsCalled context vars a c b → Over b.ty
    call_over vars a c b all over (IsCalled.property _ _ prop gives t has) = navigated_over context.metas gives t (property_over context.metas a.ty prop gives t has)
    call_over vars a c b all over (IsCalled.collect_property _ _ kind of prop gives t is has) = of_elements context.metas _ t (property_over context.metas of prop gives t has)
    call_over vars a c b all over (IsCalled.operation _ _ o args parts t each gives) = operation_over context.metas o a.ty t (types_of parts) over gives
    call_over vars a c b all over (IsCalled.class_operation _ _ o class t gives) = subst Over (sym gives.gives) (tested_over context.metas o gives.m class gives.has)
    call_over vars a c b all over (IsCalled.collection _ _ o kind of args parts t joined is each gives one) =
        collection_over context.metas o kind of t (types_of parts) (elements_of context.metas kind of (subst Over is over)) (each_over vars args parts all each) gives
    call_over vars a c b all over (IsCalled.iterator _ _ i kind of ty body p t is variable inside gives) =
        let elements : Over of = elements_of context.metas kind of (subst Over is over) in
        let given : Over ty = elim variable [ inl same ↦ subst Over (sym same) elements | inr written ↦ written_over context.metas ty written.0 ] in
        let v : Typing = record { ty = ty; model = a.model } in
        iterator_over context.metas i kind of p.ty t elements (typed_over (with_variable vars v) body p (over_with context.metas vars v all given) inside) gives
