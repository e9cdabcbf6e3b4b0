-- Types are kept: the value of a typed expression is of its type, by induction on the rules that type it (OCL 2.4, chapters 8 and 11).
use Rattle.std.proofs.Common.{◌≡◌, ℕ, zero, suc, Bool, true, false, List, [], ◌∷◌, ◌++◌, map, length, take, Option, None, Some, refl, sym, ap, ◌∙◌, subst, inl, inr, arith}
use Rattle.std.specs.Prelude.{slice_get, Contains, All}
use Rattle.std.specs.List.{flat_map}
use Rattle.std.specs.Option.{option_map}
use Rattle.std.proofs.lemmas.Option.{none-some, same_Some}
use Rattle.std.proofs.lemmas.List.{take_all}
use Rattle.std.proofs.lemmas.List.Elements.{All-nil, All-cons, All-map, All-weaker, Contains-append_left, Contains-append_right}
use Rattle.mof_metamodel.specs.declared.desc.PropId.{PropId}
use Rattle.mof_metamodel.specs.declared.desc.PropType.{PropType}
use Rattle.mof_metamodel.specs.declared.desc.PropType.TheVariants as props
use Rattle.mof_metamodel.specs.Characters.{is_storable_text}
use Rattle.object_tables.specs.Models.{ModelData}
use Rattle.qv_syntax.specs.declared.type_tree.Kind.{Kind}
use Rattle.qv_syntax.specs.declared.type_tree.Kind.TheVariants as kinds
use Rattle.qv_syntax.specs.declared.ty.Ty.{Ty}
use Rattle.qv_syntax.specs.declared.ty.Ty.TheVariants as types
use Rattle.qv_syntax.specs.declared.typed.Typed.{Typed}
use Rattle.qv_syntax.specs.declared.typed.Node.{Node, roll-Node, map-Node, fold-roll-Node, out-Node, out-roll-Node}
use Rattle.qv_syntax.specs.declared.typed.Node.TheVariants as nodes
use Rattle.qv_syntax.specs.declared.typed.Call.{Call, roll-Call, map-Call, fold-Call, fold-roll-Call, out-Call, out-roll-Call}
use Rattle.qv_syntax.specs.declared.typed.Call.TheVariants as calls
use Rattle.qv_syntax.specs.declared.typed.Call.TheOpen as of
use Rattle.qv_syntax.specs.declared.typed.TypedInfix.{TypedInfix, fold-TypedInfix, fold-roll-TypedInfix}
use Rattle.qv_syntax.specs.declared.typed.TypedPostfix.{TypedPostfix, fold-TypedPostfix, fold-roll-TypedPostfix}
use Rattle.qv_syntax.specs.declared.typed.Values.{Values}
use Rattle.qv_syntax.specs.declared.typed.Values.TheVariants as gives
use Rattle.qv_syntax.specs.Types.{ConformsTo, AllConform, IsOneModel}
use Rattle.qv_syntax.specs.TypeRules.{Branches, Elements as OfElements, HasProperty, Flattened, collected_kind, navigated as navigated_type, value_type}
use Rattle.qv_syntax.specs.TypedTrees.{QueryType, Context, Typing, Variables, with_variable as with_typing, objects_of, types_of, models_of, given_model, iterated_model, IsTyped, AreTyped, IsChained, AreCalled, IsCalled}
use Rattle.qv_syntax.specs.Parts.{IsWithin, parts_of, node_parts, call_parts, parts_of_call}
use Rattle.qvtr_semantics.specs.declared.datum.Datum.{Datum}
use Rattle.qvtr_semantics.specs.declared.out.Out.{Out}
use Rattle.qvtr_semantics.specs.declared.out.Out.TheVariants as outs
use Rattle.qvtr_semantics.specs.Outs.{datum_of, boolean_of, collection_of, all_given}
use Rattle.qvtr_semantics.specs.Collections as collections
use Rattle.qvtr_semantics.specs.Iterators.{iterated, collect}
use Rattle.qvtr_semantics.specs.Objects.{Setting, property}
use Rattle.qvtr_semantics.specs.Expressions.{Scope, Meaning, Operated, Called, Queries, variable, with_variable, operated, all_operated, all_called, in_scope, each, chosen, literal, node_meaning, typed_meaning, infix_meaning, call_meaning, postfix_meaning, meaning}
use Rattle.qvtr_semantics.proofs.ExpressionLaws.{node_of, typed_is}
use Rattle.evaluation_laws.specs.TypedValues.{AreModels, IsDatumIn, IsValueIn, AreArguments, anywhere}
use Rattle.evaluation_laws.specs.Scopes.{HasValuesIn}
use Rattle.evaluation_laws.proofs.ValueLaws.{of_given, no_collection_text, no_collection_number, no_collection_truth, no_collection_enum, no_collection_class, no_collection_null, with_model, value_elsewhere, value_conforms, datum_elsewhere, datum_conforms, datum_in, elements_in, AreOf, is_boolean, is_integer_value, is_collected}
use Rattle.evaluation_laws.proofs.OperatorLaws.{operated_is, operation_is, negation_is, negated_is}
use Rattle.evaluation_laws.proofs.NavigationLaws.{property_is, class_operation_is, extent_is}
use Rattle.evaluation_laws.proofs.CollectionLaws.{later_in, collection_is, collect_is, iterator_is}
use Rattle.mof_metamodel.proofs.Facts.{contains_first}

-- ---- what stands within what

pub within_through : (e m p : Typed) → IsWithin e m → IsWithin m p → IsWithin e p
within_through e m p (IsWithin.whole _) k = k
within_through e m p (IsWithin.inside _ part _ c w) k = IsWithin.inside e part p c (within_through part m p w k)

pub part_within : (e m p : Typed) → IsWithin e m → Contains (parts_of m) p → IsWithin e p
part_within e m p w c = within_through e m p w (IsWithin.inside m p p c (IsWithin.whole p))

-- each of them, if none is missing
abbrev more_given : Option Datum → Option (List Datum) → Option (List Datum)
more_given None os = None
more_given (Some d) os = option_map (λ ds. d ∷ ds) os

-- what each element gives
all_results : (P : Datum → Type 0) (Q : Out → Type 0) (f : Datum → Out) → ((d : Datum) → P d → Q (f d)) → (ds : List Datum) → All P ds → All Q (map f ds)
all_results P Q f gives ds all = All-map Q f ds (All-weaker P (λ d. Q (f d)) gives ds all)

module _ (context : Context) (contents : List ModelData) where
  abbrev s : Setting
  s = record { slots = context.slots; models = contents }

  abbrev IsOf : (ℕ → Type 0) → Ty → Out → Type 0
  IsOf In ty x = IsValueIn context.metas s In ty x

  -- only null and invalid are of the type of null
  null_is : (In To : ℕ → Type 0) (ty : Ty) (x : Out) → IsOf In types.Null x → IsOf To ty x
  null_is In To ty (outs.One d) is = absurd is
  null_is In To ty (outs.Many kind ds) (inner, same, all) = absurd (no_collection_null kind inner same)
  null_is In To ty outs.Null is = tt
  null_is In To ty outs.Invalid is = tt

  module _ (models : AreModels context.metas s) (In : Option ℕ → ℕ → Type 0)
      (joins : (parts : List (Option ℕ)) (part joined : Option ℕ) (k : ℕ) → IsOneModel parts joined → Contains parts part → In part k → In joined k)
      (has_model : (k : ℕ) → In (Some k) k) where
    abbrev IsTypedValue : Typing → Out → Type 0
    IsTypedValue p x = IsOf (In p.model) p.ty x

    -- of one of several parts, of a type that conforms to that of all
    joined_value : (parts : List (Option ℕ)) (part joined : Option ℕ) (a b : Ty) → IsOneModel parts joined → Contains parts part → ConformsTo context.metas a b → (x : Out)
        → IsOf (In part) a x → IsOf (In joined) b x
    joined_value parts part joined a b one among conforms x is =
        value_conforms context.metas s (In joined) models a b conforms x (value_elsewhere context.metas s (In part) (In joined) (λ k here. joins parts part joined k one among here) a x is)

    -- ---- if

    chosen_is : (a b : Typing) (t : Ty) (model : Option ℕ) → Branches context.metas a.ty b.ty t → IsOneModel (a.model ∷ b.model ∷ []) model
        → (c : Option Bool) (x y : Out) → IsTypedValue a x → IsTypedValue b y → IsOf (In model) t (chosen c x y)
    chosen_is a b t model goes one None x y first second = tt
    chosen_is a b t model (inl is) one (Some true) x y first second = null_is (In a.model) (In model) t x (subst (λ u. IsOf (In a.model) u x) is.0 first)
    chosen_is a b t model (inl is) one (Some false) x y first second =
        joined_value (a.model ∷ b.model ∷ []) b.model model b.ty t one (later_in a.model b.model (b.model ∷ []) (contains_first b.model [])) (inl (sym is.1)) y second
    chosen_is a b t model (inr (inl is)) one (Some true) x y first second =
        joined_value (a.model ∷ b.model ∷ []) a.model model a.ty t one (contains_first a.model (b.model ∷ [])) (inl (sym is.1)) x first
    chosen_is a b t model (inr (inl is)) one (Some false) x y first second = null_is (In b.model) (In model) t y (subst (λ u. IsOf (In b.model) u y) is.0 second)
    chosen_is a b t model (inr (inr top)) one (Some true) x y first second =
        joined_value (a.model ∷ b.model ∷ []) a.model model a.ty t one (contains_first a.model (b.model ∷ [])) (top.above a.ty (contains_first a.ty (b.ty ∷ []))) x first
    chosen_is a b t model (inr (inr top)) one (Some false) x y first second =
        joined_value (a.model ∷ b.model ∷ []) b.model model b.ty t one (later_in a.model b.model (b.model ∷ []) (contains_first b.model []))
        (top.above b.ty (later_in a.ty b.ty (b.ty ∷ []) (contains_first b.ty []))) y second

    -- ---- collection literals

    one_given : (o : Option Datum) (os : Option (List Datum)) (t : Ty) (model : Option ℕ) → ((d : Datum) → o ≡ Some d → IsDatumIn context.metas s (In model) t d)
        → ((es : List Datum) → os ≡ Some es → All (IsDatumIn context.metas s (In model) t) es) → (ds : List Datum) → more_given o os ≡ Some ds → All (IsDatumIn context.metas s (In model) t) ds
    one_given None os t model one more ds is = absurd (none-some ds is)
    one_given (Some d) None t model one more ds is = absurd (none-some ds is)
    one_given (Some d) (Some es) t model one more ds is =
        subst (All (IsDatumIn context.metas s (In model) t)) (same_Some (d ∷ es) ds is) (All-cons (IsDatumIn context.metas s (In model) t) d es (one d refl) (more es refl))

    -- one more of those that are given
    given_more : (o : Option Datum) (os : List (Option Datum)) → all_given (o ∷ os) ≡ more_given o (all_given os)
    given_more None os = refl
    given_more (Some d) os = refl

    all_data : (ps : List Typing) (xs : List Out) (t : Ty) (model : Option ℕ)
        → ((p : Typing) → Contains ps p → ConformsTo context.metas p.ty t) → ((p : Typing) → Contains ps p → (k : ℕ) → In p.model k → In model k)
        → AreOf context.metas s In ps xs → (ds : List Datum) → all_given (map datum_of xs) ≡ Some ds → All (IsDatumIn context.metas s (In model) t) ds
    all_data [] [] t model conform join are ds is = subst (All (IsDatumIn context.metas s (In model) t)) (same_Some [] ds is) (All-nil (IsDatumIn context.metas s (In model) t))
    all_data [] (x ∷ xs) t model conform join are ds is = absurd are
    all_data (p ∷ ps) [] t model conform join are ds is = absurd are
    all_data (p ∷ ps) (x ∷ xs) t model conform join are ds is =
        one_given (datum_of x) (all_given (map datum_of xs)) t model
        (λ d at. datum_conforms context.metas s (In model) models p.ty t (conform p (contains_first p ps)) d
        (datum_elsewhere context.metas s (In p.model) (In model) (join p (contains_first p ps)) p.ty d (datum_in context.metas s (In p.model) p.ty x are.0 d at)))
        (all_data ps xs t model (λ q c. conform q (later_in p q ps c)) (λ q c. join q (later_in p q ps c)) are.1) ds (sym (given_more (datum_of x) (map datum_of xs)) ∙ is)

    type_in : (ps : List Typing) (p : Typing) → Contains ps p → Contains (types_of ps) p.ty
    type_in [] p (k, within, is) = absurd (omega (arith, within))
    type_in (q ∷ ps) p (zero, within, is) = subst (λ (t : Typing). Contains (types_of (q ∷ ps)) t.ty) is (contains_first q.ty (types_of ps))
    type_in (q ∷ ps) p (suc k, within, is) = later_in q.ty p.ty (types_of ps) (type_in ps p (k, omega (arith, within), is))

    model_in : (ps : List Typing) (p : Typing) → Contains ps p → Contains (models_of ps) p.model
    model_in [] p (k, within, is) = absurd (omega (arith, within))
    model_in (q ∷ ps) p (zero, within, is) = subst (λ (t : Typing). Contains (models_of (q ∷ ps)) t.model) is (contains_first q.model (models_of ps))
    model_in (q ∷ ps) p (suc k, within, is) = later_in q.model p.model (models_of ps) (model_in ps p (k, omega (arith, within), is))

    elements_conform : (ps : List Typing) (t : Ty) → OfElements context.metas (types_of ps) t → (p : Typing) → Contains ps p → ConformsTo context.metas p.ty t
    elements_conform [] t goes p (k, within, is) = absurd (omega (arith, within))
    elements_conform (q ∷ ps) t goes p c = goes.0.above p.ty (type_in (q ∷ ps) p c)

    literal_is : (kind : Kind) (ps : List Typing) (xs : List Out) (t : Ty) (model : Option ℕ) → OfElements context.metas (types_of ps) t → IsOneModel (models_of ps) model
        → AreOf context.metas s In ps xs → IsOf (In model) (types.Coll kind t) (literal kind xs)
    literal_is kind ps xs t model goes one are =
        of_given (IsOf (In model) (types.Coll kind t)) (all_given (map datum_of xs)) (collections.collection kind) tt (λ ds has.
        is_collected context.metas s (In model) kind t ds
        (all_data ps xs t model (elements_conform ps t goes) (λ p c k here. joins (models_of ps) p.model model k one (model_in ps p c) here) are ds has))

    -- ---- arguments of queries

    arguments_are : (ps : List Typing) (params : List Ty) (xs : List Out) → AllConform context.metas (types_of ps) params → AreOf context.metas s In ps xs → AreArguments context.metas s params xs
    arguments_are [] [] [] conform are = tt
    arguments_are [] (ty ∷ params) xs conform are = absurd conform
    arguments_are (p ∷ ps) [] xs conform are = absurd conform
    arguments_are [] [] (x ∷ xs) conform are = absurd are
    arguments_are (p ∷ ps) (ty ∷ params) [] conform are = absurd are
    arguments_are (p ∷ ps) (ty ∷ params) (x ∷ xs) conform are = (
      value_conforms context.metas s anywhere models p.ty ty conform.0 x (value_elsewhere context.metas s (In p.model) anywhere (λ k here. tt) p.ty x are.0),
      arguments_are ps params xs conform.1 are.1,
    )

    -- ---- navigation from the elements of a collection

    no_collections : (m : ℕ) (t : PropType) (kind : Kind) (inner : Ty) → value_type m t ≡ types.Coll kind inner → ⊥
    no_collections m props.Str kind inner same = no_collection_text kind inner same
    no_collections m props.Int kind inner same = no_collection_number kind inner same
    no_collections m props.Bool kind inner same = no_collection_truth kind inner same
    no_collections m (props.Enum e) kind inner same = no_collection_enum m e kind inner same
    no_collections m (props.Class c) kind inner same = no_collection_class m c kind inner same

    flat : (v : Values) (object t : Ty) (prop : PropId) → HasProperty context.metas object prop v t → Flattened (navigated_type v t) t
    flat gives.Single object t prop p = inr (λ kind inner same. no_collections p.m p.of kind inner (sym p.value ∙ same), refl)
    flat gives.Set object t prop p = inl (kinds.Set, refl)
    flat gives.OrderedSet object t prop p = inl (kinds.OrderedSet, refl)

    navigated_all : (model : Option ℕ) (object t : Ty) (prop : PropId) (v : Values) → HasProperty context.metas object prop v t → (ds : List Datum)
        → All (IsDatumIn context.metas s (In model) object) ds → All (IsOf (In model) (navigated_type v t)) (map (property s prop.0 v) ds)
    navigated_all model object t prop v p ds all =
        all_results (IsDatumIn context.metas s (In model) object) (IsOf (In model) (navigated_type v t)) (property s prop.0 v)
        (λ d is. property_is context.metas s models (In model) object prop v t p d is) ds all

    -- ---- variables

    -- one more variable stands behind those in reach
    last_in : (vars : Variables) (scope : Scope) (v : Typing) (x : Out) (n : ℕ) (w : Typing) → length scope ≡ length vars → slice_get (vars ++ v ∷ []) n ≡ Some w
        → IsTypedValue v x → (slice_get vars n ≡ Some w → IsTypedValue w (variable scope n)) → IsTypedValue w (variable (scope ++ x ∷ []) n)
    last_in [] [] v x zero w long at is before = subst (λ (t : Typing). IsTypedValue t x) (same_Some v w at) is
    last_in [] [] v x (suc n) w long at is before = absurd (none-some w at)
    last_in [] (y ∷ scope) v x n w long at is before = absurd (omega (arith, long))
    last_in (u ∷ vars) [] v x n w long at is before = absurd (omega (arith, long))
    last_in (u ∷ vars) (y ∷ scope) v x zero w long at is before = before at
    last_in (u ∷ vars) (y ∷ scope) v x (suc n) w long at is before =
        let short : length scope ≡ length vars = omega (arith, long) in
        last_in vars scope v x n w short at is before

    module _ (q : Queries) (e0 : Typed)
        (literals : (ty : Ty) (text : List ℕ) → IsWithin e0 (record { ty = ty; node = nodes.Str text }) → is_storable_text text ≡ true)
        (answers : (ty : Ty) (number : ℕ) (args : List Typed) (query : QueryType) (xs : List Out) → IsWithin e0 (record { ty = ty; node = nodes.Query number args })
        → slice_get context.queries number ≡ Some query → AreArguments context.metas s query.params xs → IsOf (In None) query.result (q number xs)) where
      abbrev InScope : Variables → Scope → Type 0
      InScope vars scope = HasValuesIn context.metas s In e0 vars scope

      one_more : (vars : Variables) (scope : Scope) (v : Typing) (x : Out) → InScope vars scope → IsTypedValue v x → InScope (with_typing vars v) (with_variable scope (length vars) x)
      one_more vars scope v x in_reach is =
          let same : take (length vars) scope ≡ scope = take_all (length vars) scope (omega (arith, in_reach.places)) in
          subst (λ (front : Scope). InScope (with_typing vars v) (front ++ x ∷ [])) (sym same) (record {
            places = longer vars scope in_reach.places;
            values = λ n w at names. last_in vars scope v x n w in_reach.places at is (λ before. in_reach.values n w before names);
          })
        where
          longer : (us : Variables) (xs : Scope) → length xs ≡ length us → length (xs ++ x ∷ []) ≡ length (us ++ v ∷ [])
          longer [] [] long = refl
          longer [] (y ∷ xs) long = absurd (omega (arith, long))
          longer (u ∷ us) [] long = absurd (omega (arith, long))
          longer (u ∷ us) (y ∷ xs) long = let short : length xs ≡ length us = omega (arith, long) in ap suc (longer us xs short)

      -- ---- what forms are by their parts

      abbrev call_of : Call → Called
      call_of = fold-Call Called Meaning Meaning Operated Called (call_meaning s) (node_meaning s q) typed_meaning infix_meaning postfix_meaning

      abbrev infix_of : TypedInfix → Operated
      infix_of = fold-TypedInfix Called Meaning Meaning Operated Called (call_meaning s) (node_meaning s q) typed_meaning infix_meaning postfix_meaning

      abbrev postfix_of : TypedPostfix → Called
      postfix_of = fold-TypedPostfix Called Meaning Meaning Operated Called (call_meaning s) (node_meaning s q) typed_meaning infix_meaning postfix_meaning

      abbrev node_layer : of.Node-F Call Node Typed TypedInfix TypedPostfix → Meaning
      node_layer d = node_meaning s q (map-Node Call Node Typed TypedInfix TypedPostfix Called Meaning Meaning Operated Called call_of (node_of s q) (meaning s q) infix_of postfix_of d)

      abbrev call_layer : of.Call-F Call Node Typed TypedInfix TypedPostfix → Called
      call_layer d = call_meaning s (map-Call Call Node Typed TypedInfix TypedPostfix Called Meaning Meaning Operated Called call_of (node_of s q) (meaning s q) infix_of postfix_of d)

      by_node : (d : of.Node-F Call Node Typed TypedInfix TypedPostfix) (node : Node) → roll-Node d ≡ node → (ty : Ty) (Q : Out → Type 0) (scope : Scope)
          → Q (node_layer d scope) → Q (meaning s q (record { ty = ty; node = node }) scope)
      by_node d node rolled ty Q scope is =
          let same : meaning s q (record { ty = ty; node = node }) ≡ node_layer d =
          typed_is s q ty node ∙ ap (node_of s q) (sym rolled)
          ∙ fold-roll-Node Called Meaning Meaning Operated Called (call_meaning s) (node_meaning s q) typed_meaning infix_meaning postfix_meaning d in
          subst Q (sym (ap (λ (m : Meaning). m scope) same)) is

      by_call : (d : of.Call-F Call Node Typed TypedInfix TypedPostfix) (c : Call) → roll-Call d ≡ c → (Q : Out → Type 0) (scope : Scope) (x : Out)
          → Q (call_layer d scope x) → Q (call_of c scope x)
      by_call d c rolled Q scope x is =
          let same : call_of c ≡ call_layer d =
          ap call_of (sym rolled) ∙ fold-roll-Call Called Meaning Meaning Operated Called (call_meaning s) (node_meaning s q) typed_meaning infix_meaning postfix_meaning d in
          subst Q (sym (ap (λ (m : Called). m scope x) same)) is

      -- the parts of a node that stands within the expression stand within it
      abbrev AreWithin : List Typed → Type 0
      AreWithin ps = (p : Typed) → Contains ps p → IsWithin e0 p

      node_within : (d : of.Node-F Call Node Typed TypedInfix TypedPostfix) (node : Node) → roll-Node d ≡ node → (ty : Ty) → IsWithin e0 (record { ty = ty; node = node }) → AreWithin (node_parts d)
      node_within d node rolled ty w p c =
          let same : node_parts d ≡ node_parts (out-Node node) = ap node_parts (sym (out-roll-Node d) ∙ ap out-Node rolled) in
          part_within e0 (record { ty = ty; node = node }) p w (subst (λ ps. Contains ps p) same c)

      call_within : (d : of.Call-F Call Node Typed TypedInfix TypedPostfix) (c : Call) → roll-Call d ≡ c → AreWithin (call_parts (out-Call c)) → AreWithin (call_parts d)
      call_within d c rolled are p among = are p (subst (λ ps. Contains ps p) (ap call_parts (sym (out-roll-Call d) ∙ ap out-Call rolled)) among)

      first_within : (p : Typed) (ps : List Typed) → AreWithin (p ∷ ps) → IsWithin e0 p
      first_within p ps are = are p (contains_first p ps)

      others_within : (p : Typed) (ps : List Typed) → AreWithin (p ∷ ps) → AreWithin ps
      others_within p ps are r c = are r (later_in p r ps c)

      mutual
        pub typed_kept : (vars : Variables) (e : Typed) (p : Typing) (scope : Scope) → InScope vars scope → IsWithin e0 e → IsTyped context vars e p → IsTypedValue p (meaning s q e scope)
        typed_kept vars e p scope known w (IsTyped.number _ value) =
            by_node (of.Number value) (nodes.Number value) (nodes.rolls-Number value) types.Int (IsOf (In None) types.Int) scope (is_integer_value context.metas s (In None) value)
        typed_kept vars e p scope known w (IsTyped.string _ text) =
            by_node (of.Str text) (nodes.Str text) (nodes.rolls-Str text) types.Str (IsOf (In None) types.Str) scope (text, refl, literals types.Str text w)
        typed_kept vars e p scope known w (IsTyped.boolean _ value) =
            by_node (of.Bool value) (nodes.Bool value) (nodes.rolls-Bool value) types.Bool (IsOf (In None) types.Bool) scope (is_boolean context.metas s (In None) value)
        typed_kept vars e p scope known w (IsTyped.null _) = by_node of.Null nodes.Null nodes.rolls-Null types.Null (IsOf (In None) types.Null) scope tt
        typed_kept vars e p scope known w (IsTyped.invalid _) = by_node of.Invalid nodes.Invalid nodes.rolls-Invalid types.Null (IsOf (In None) types.Null) scope tt
        typed_kept vars e p scope known w (IsTyped.enum_literal _ m enumeration place there) =
            by_node (of.EnumLiteral m enumeration place) (nodes.EnumLiteral m enumeration place) (nodes.rolls-EnumLiteral m enumeration place) (types.Enum m enumeration)
            (IsOf (In None) (types.Enum m enumeration)) scope (place, refl, there)
        typed_kept vars e p scope known w (IsTyped.variable _ number _ at) =
            by_node (of.Variable number) (nodes.Variable number) (nodes.rolls-Variable number) p.ty (IsTypedValue p) scope (known.values number p at (p.ty, w))
        typed_kept vars e p scope known w (IsTyped.let_in _ ty value body v _ written given conforms inside) =
            let d : of.Node-F Call Node Typed TypedInfix TypedPostfix = of.Let (length vars) value body in
            let parts = node_within d (nodes.Let (length vars) value body) (nodes.rolls-Let (length vars) value body) p.ty w in
            let of_value = typed_kept vars value v scope known (first_within value (body ∷ []) parts) given in
            let of_type = value_conforms context.metas s (In v.model) models v.ty ty conforms (meaning s q value scope) of_value in
            by_node d (nodes.Let (length vars) value body) (nodes.rolls-Let (length vars) value body) p.ty (IsTypedValue p) scope
            (typed_kept (with_typing vars (record { ty = ty; model = v.model })) body p (with_variable scope (length vars) (meaning s q value scope))
            (one_more vars scope (record { ty = ty; model = v.model }) (meaning s q value scope) known of_type)
            (first_within body [] (others_within value (body ∷ []) parts)) inside)
        typed_kept vars e p scope known w (IsTyped.chain _ first rest a t one links) =
            let d : of.Node-F Call Node Typed TypedInfix TypedPostfix = of.Chain first rest in
            let parts = node_within d (nodes.Chain first rest) (nodes.rolls-Chain first rest) t w in
            let rights = map (λ (l : TypedInfix). l.right) rest in
            by_node d (nodes.Chain first rest) (nodes.rolls-Chain first rest) t (IsTypedValue (objects_of t a.model)) scope
            (with_model context.metas s In t a.model (all_operated scope (meaning s q first scope) (map infix_of rest))
            (chained_kept vars a.ty rest t a.model scope (meaning s q first scope) known (others_within first rights parts) (typed_kept vars first a scope known (first_within first rights parts) one) links))
        typed_kept vars e p scope known w (IsTyped.negation _ operand a one is) =
            by_node (of.Not operand) (nodes.Not operand) (nodes.rolls-Not operand) types.Bool (IsOf (In None) types.Bool) scope (negation_is context.metas s (In None) (meaning s q operand scope))
        typed_kept vars e p scope known w (IsTyped.negated _ operand a one is) =
            by_node (of.Negated operand) (nodes.Negated operand) (nodes.rolls-Negated operand) types.Int (IsOf (In None) types.Int) scope (negated_is context.metas s (In None) (meaning s q operand scope))
        typed_kept vars e p scope known w (IsTyped.called _ part steps a _ one are) =
            let d : of.Node-F Call Node Typed TypedInfix TypedPostfix = of.Calls part steps in
            let parts = node_within d (nodes.Calls part steps) (nodes.rolls-Calls part steps) p.ty w in
            let others = flat_map parts_of_call steps in
            by_node d (nodes.Calls part steps) (nodes.rolls-Calls part steps) p.ty (IsTypedValue p) scope
            (called_kept vars a steps p scope (meaning s q part scope) known (others_within part others parts) (typed_kept vars part a scope known (first_within part others parts) one) are)
        typed_kept vars e p scope known w (IsTyped.branches _ condition one other c a b t model first is second third goes join) =
            let d : of.Node-F Call Node Typed TypedInfix TypedPostfix = of.If condition one other in
            let parts = node_within d (nodes.If condition one other) (nodes.rolls-If condition one other) t w in
            let more = others_within condition (one ∷ other ∷ []) parts in
            by_node d (nodes.If condition one other) (nodes.rolls-If condition one other) t (IsOf (In model) t) scope
            (chosen_is a b t model goes join (boolean_of (meaning s q condition scope)) (meaning s q one scope) (meaning s q other scope)
            (typed_kept vars one a scope known (first_within one (other ∷ []) more) second)
            (typed_kept vars other b scope known (first_within other [] (others_within one (other ∷ []) more)) third))
        typed_kept vars e p scope known w (IsTyped.literal _ kind elements ps t model each_typed goes join) =
            let d : of.Node-F Call Node Typed TypedInfix TypedPostfix = of.Coll kind elements in
            let parts = node_within d (nodes.Coll kind elements) (nodes.rolls-Coll kind elements) (types.Coll kind t) w in
            by_node d (nodes.Coll kind elements) (nodes.rolls-Coll kind elements) (types.Coll kind t) (IsOf (In model) (types.Coll kind t)) scope
            (literal_is kind ps (in_scope scope (map (meaning s q) elements)) t model goes join (each_kept vars elements ps scope known parts each_typed))
        typed_kept vars e p scope known w (IsTyped.extent _ m model class only) =
            by_node (of.Extent model class) (nodes.Extent model class) (nodes.rolls-Extent model class) (types.Coll kinds.Set (types.Class m class)) (IsOf (In (Some model)) (types.Coll kinds.Set (types.Class m class))) scope
            (subst (λ n. IsOf (In (Some model)) (types.Coll kinds.Set (types.Class n class)) (node_layer (of.Extent model class) scope)) only.typed
            (extent_is context.metas s models (In (Some model)) model only.slot class only.found (has_model model)))
        typed_kept vars e p scope known w (IsTyped.query _ number args ps query at each_typed conform) =
            let d : of.Node-F Call Node Typed TypedInfix TypedPostfix = of.Query number args in
            let parts = node_within d (nodes.Query number args) (nodes.rolls-Query number args) query.result w in
            by_node d (nodes.Query number args) (nodes.rolls-Query number args) query.result (IsOf (In None) query.result) scope
            (answers query.result number args query (in_scope scope (map (meaning s q) args)) w at
            (arguments_are ps query.params (in_scope scope (map (meaning s q) args)) conform (each_kept vars args ps scope known parts each_typed)))

        each_kept : (vars : Variables) (es : List Typed) (ps : List Typing) (scope : Scope) → InScope vars scope → AreWithin es → AreTyped context vars es ps
            → AreOf context.metas s In ps (in_scope scope (map (meaning s q) es))
        each_kept vars es ps scope known are (AreTyped.none _) = tt
        each_kept vars es ps scope known are (AreTyped.one_more _ e more p others one rest) =
            (typed_kept vars e p scope known (first_within e more are) one, each_kept vars more others scope known (others_within e more are) rest)

        chained_kept : (vars : Variables) (a : Ty) (links : List TypedInfix) (t : Ty) (model : Option ℕ) (scope : Scope) (x : Out) → InScope vars scope → AreWithin (map (λ l. l.right) links)
            → IsOf (In model) a x → IsChained context vars a links t → IsOf (In model) t (all_operated scope x (map infix_of links))
        chained_kept vars a links t model scope x known are is (IsChained.no_more _ _) = is
        chained_kept vars a links t model scope x known are is (IsChained.operator _ _ o right b u rest _ one gives more) =
            let link : TypedInfix = record { operator = o; right = right; ty = u } in
            let rights = map (λ (l : TypedInfix). l.right) rest in
            let same : infix_of link ≡ record { operator = o; right = meaning s q right } =
            fold-roll-TypedInfix Called Meaning Meaning Operated Called (call_meaning s) (node_meaning s q) typed_meaning infix_meaning postfix_meaning (record { operator = o; right = right; ty = u }) in
            let y : Out = meaning s q right scope in
            let here = operated_is context.metas s (In model) (In b.model) o a b.ty u gives x y is (typed_kept vars right b scope known (first_within right rights are) one) in
            subst (λ (l : Operated). IsOf (In model) t (all_operated scope (operated l.operator x (l.right scope)) (map infix_of rest))) (sym same)
            (chained_kept vars u rest t model scope (operated o x y) known (others_within right rights are) here more)

        called_kept : (vars : Variables) (a : Typing) (steps : List TypedPostfix) (b : Typing) (scope : Scope) (x : Out) → InScope vars scope → AreWithin (flat_map parts_of_call steps)
            → IsTypedValue a x → AreCalled context vars a steps b → IsTypedValue b (all_called scope x (map postfix_of steps))
        called_kept vars a steps b scope x known are is (AreCalled.all_called _ _) = is
        called_kept vars a steps b scope x known are is (AreCalled.call _ _ c between rest _ one more) =
            let step : TypedPostfix = record { call = c; ty = between.ty } in
            let same : postfix_of step ≡ call_of c =
            fold-roll-TypedPostfix Called Meaning Meaning Operated Called (call_meaning s) (node_meaning s q) typed_meaning infix_meaning postfix_meaning (record { call = c; ty = between.ty }) in
            let here = call_kept vars a c between scope x known (λ p among. are p (Contains-append_left (parts_of_call step) (flat_map parts_of_call rest) p among)) is one in
            subst (λ (m : Called). IsTypedValue b (all_called scope (m scope x) (map postfix_of rest))) (sym same)
            (called_kept vars between rest b scope (call_of c scope x) known (λ p among. are p (Contains-append_right (parts_of_call step) (flat_map parts_of_call rest) p among)) here more)

        call_kept : (vars : Variables) (a : Typing) (c : Call) (b : Typing) (scope : Scope) (x : Out) → InScope vars scope → AreWithin (call_parts (out-Call c))
            → IsTypedValue a x → IsCalled context vars a c b → IsTypedValue b (call_of c scope x)
        call_kept vars a c b scope x known are is (IsCalled.property _ _ prop v t has) =
            by_call (of.Property prop v) (calls.Property prop v) (calls.rolls-Property prop v) (IsTypedValue (objects_of (navigated_type v t) a.model)) scope x
            (with_model context.metas s In (navigated_type v t) a.model (call_layer (of.Property prop v) scope x)
            (of_given (IsOf (In a.model) (navigated_type v t)) (datum_of x) (property s prop.0 v) tt (λ d there.
            property_is context.metas s models (In a.model) a.ty prop v t has d (datum_in context.metas s (In a.model) a.ty x is d there))))
        call_kept vars a c b scope x known are is (IsCalled.collect_property _ _ kind element prop v t same has) =
            by_call (of.CollectProperty prop v) (calls.CollectProperty prop v) (calls.rolls-CollectProperty prop v) (IsTypedValue (objects_of (types.Coll (collected_kind kind) t) a.model)) scope x
            (with_model context.metas s In (types.Coll (collected_kind kind) t) a.model (call_layer (of.CollectProperty prop v) scope x)
            (of_given (IsOf (In a.model) (types.Coll (collected_kind kind) t)) (collection_of x) (λ found. collect found (map (property s prop.0 v) found.elements)) tt (λ found there.
            let elements = elements_in context.metas s (In a.model) kind element x (subst (λ u. IsOf (In a.model) u x) same is) found there in
            collect_is context.metas s models In joins a.model a.model kind element (navigated_type v t) found elements (map (property s prop.0 v) found.elements)
            (navigated_all a.model element t prop v has found.elements elements.all) t (flat v element t prop has))))
        call_kept vars a c b scope x known are is (IsCalled.operation _ _ o args ps t each_typed gives) =
            let parts = call_within (of.Operation o args) c (calls.rolls-Operation o args) are in
            by_call (of.Operation o args) (calls.Operation o args) (calls.rolls-Operation o args) (IsTypedValue (objects_of t a.model)) scope x
            (with_model context.metas s In t a.model (call_layer (of.Operation o args) scope x)
            (operation_is context.metas s (In a.model) In o a.ty ps t gives x (in_scope scope (map (meaning s q) args)) is (each_kept vars args ps scope known parts each_typed)))
        call_kept vars a c b scope x known are is (IsCalled.class_operation _ _ o class t gives) =
            by_call (of.Class o class) (calls.Class o class) (calls.rolls-Class o class) (IsTypedValue (objects_of t a.model)) scope x
            (with_model context.metas s In t a.model (call_layer (of.Class o class) scope x) (class_operation_is context.metas s models (In a.model) o class a.ty t gives x is))
        call_kept vars a c b scope x known are is (IsCalled.collection _ _ o kind element args ps t joined same each_typed gives one) =
            let parts = call_within (of.Collection o args) c (calls.rolls-Collection o args) are in
            by_call (of.Collection o args) (calls.Collection o args) (calls.rolls-Collection o args) (IsTypedValue (objects_of t (given_model o a.model joined))) scope x
            (with_model context.metas s In t (given_model o a.model joined) (call_layer (of.Collection o args) scope x)
            (collection_is context.metas s models In joins a.model joined ps one (in_scope scope (map (meaning s q) args)) (each_kept vars args ps scope known parts each_typed)
            o kind element t gives x (subst (λ u. IsOf (In a.model) u x) same is)))
        call_kept vars a c b scope x known are is (IsCalled.iterator _ _ i kind element ty body p t same variable_is inside gives) =
            let parts = call_within (of.Iterator i (length vars) body) c (calls.rolls-Iterator i (length vars) body) are in
            by_call (of.Iterator i (length vars) body) (calls.Iterator i (length vars) body) (calls.rolls-Iterator i (length vars) body) (IsTypedValue (objects_of t (iterated_model i a.model p.model))) scope x
            (with_model context.metas s In t (iterated_model i a.model p.model) (call_layer (of.Iterator i (length vars) body) scope x)
            (of_given (IsOf (In (iterated_model i a.model p.model)) t) (collection_of x) (λ found. iterated i found (each scope (length vars) (meaning s q body) found.elements)) tt (λ found there.
            let elements = elements_in context.metas s (In a.model) kind element x (subst (λ u. IsOf (In a.model) u x) same is) found there in
            iterator_is context.metas s models In joins a.model p.model kind element p.ty found elements (each scope (length vars) (meaning s q body) found.elements)
            (all_results (IsDatumIn context.metas s (In a.model) element) (IsTypedValue p) (λ d. meaning s q body (with_variable scope (length vars) (outs.One d))) (λ d of_element.
            let v : Typing = record { ty = ty; model = a.model } in
            let of_variable : IsDatumIn context.metas s (In a.model) ty d = elim variable_is [
              | inl one ↦ subst (λ u. IsDatumIn context.metas s (In a.model) u d) (sym one) of_element
              | inr written ↦ datum_conforms context.metas s (In a.model) models element ty written.1 d of_element
            ] in
            typed_kept (with_typing vars v) body p (with_variable scope (length vars) (outs.One d)) (one_more vars scope v (outs.One d) known of_variable) (first_within body [] parts) inside)
            found.elements elements.all) i t gives)))
