-- Values of types: what a value of a type is, what conformance keeps, and what is said of their objects.
use Rattle.std.proofs.Common.{◌≡◌, ℕ, ℤ, Bool, true, false, List, [], ◌∷◌, Option, None, Some, refl, sym, ap, ◌∙◌, subst, inl, inr, if◌then◌else◌, arith}
use Rattle.std.specs.Prelude.{slice_get, Contains, All, nat_le, length}
use Rattle.std.proofs.lemmas.Bool.{true≢false}
use Rattle.std.proofs.lemmas.Option.{none-some, same_Some}
use Rattle.std.proofs.lemmas.List.Elements.{All-weaker}
use Rattle.mof_metamodel.specs.declared.desc.MetaDesc.{MetaDesc}
use Rattle.mof_metamodel.specs.declared.desc.ClassId.{ClassId}
use Rattle.mof_metamodel.specs.declared.desc.EnumId.{EnumId}
use Rattle.qvtr_semantics.specs.declared.limits.TheConstants.{MAX_RESULT}
use Rattle.mof_metamodel.specs.Metamodels.{Conforms}
use Rattle.mof_metamodel.specs.Characters.{is_storable_text}
use Rattle.mof_metamodel.proofs.ReachLemmas.{conforms_through}
use Rattle.object_tables.specs.declared.value.ObjId.{ObjId}
use Rattle.object_tables.specs.declared.value.Value.TheVariants as values
use Rattle.qv_syntax.specs.declared.type_tree.Kind.{Kind}
use Rattle.qv_syntax.specs.declared.ty.Ty.{Ty, roll-Ty, out-Ty, out-roll-Ty, fold-roll-Ty}
use Rattle.qv_syntax.specs.declared.ty.Ty.TheOpen as of
use Rattle.qv_syntax.specs.declared.ty.Ty.TheVariants as types
use Rattle.qv_syntax.specs.Types.{IsNoCollection, ConformsTo, object_step, has_objects, model_for}
use Rattle.qv_syntax.specs.TypedTrees.{Typing, types_of}
use Rattle.qvtr_semantics.specs.declared.datum.Datum.{Datum}
use Rattle.qvtr_semantics.specs.declared.datum.Datum.TheVariants.{Val}
use Rattle.qvtr_semantics.specs.declared.out.Out.{Out}
use Rattle.qvtr_semantics.specs.declared.out.Out.TheVariants as outs
use Rattle.qvtr_semantics.specs.Outs.{Collection, datum_of, integer_of, string_of, collection_of, given, boolean, truth, string}
use Rattle.qvtr_semantics.specs.Integers.{is_integer, integer}
use Rattle.qvtr_semantics.specs.Collections.{bounded, collection, kept}
use Rattle.qvtr_semantics.specs.Objects.{Setting}
use Rattle.qvtr_semantics.specs.Expressions.{argument}
use Rattle.evaluation_laws.specs.TypedValues.{AreModels, IsObjectOf, IsDatumIn, IsValueIn}
use Rattle.evaluation_laws.proofs.ListLaws.{either_way, all_kept}

-- ---- what is given

pub of_given : {X : Type 0} (Q : Out → Type 0) (o : Option X) (f : X → Out) → Q outs.Invalid → ((x : X) → o ≡ Some x → Q (f x)) → Q (given o f)
of_given Q None f none some = none
of_given Q (Some x) f none some = some x refl

-- ---- types of collections

-- the kind and the type of the elements
record Inner : Type 0 where
  kind : Kind
  ty : Ty

abbrev inner : Kind → Ty → Inner
inner kind ty = record { kind = kind; ty = ty }

abbrev inner_in : of.Ty-F Ty → Option Inner
inner_in (of.Coll kind ty) = Some (record { kind = kind; ty = ty })
inner_in layer = None

abbrev inner_of : Ty → Option Inner
inner_of ty = inner_in (out-Ty ty)

at_layer : (layer : of.Ty-F Ty) (ty : Ty) → roll-Ty layer ≡ ty → inner_of ty ≡ inner_in layer
at_layer layer ty rolled = ap inner_of (sym rolled) ∙ ap inner_in (out-roll-Ty layer)

at_collection : (kind : Kind) (ty : Ty) → inner_of (types.Coll kind ty) ≡ Some (record { kind = kind; ty = ty })
at_collection kind ty = at_layer (of.Coll kind ty) (types.Coll kind ty) (types.rolls-Coll kind ty)

same_inner : (k l : Kind) (a b : Ty) → types.Coll k a ≡ types.Coll l b → inner k a ≡ inner l b
same_inner k l a b same = same_Some (inner k a) (inner l b) (sym (at_collection k a) ∙ ap inner_of same ∙ at_collection l b)

pub same_element : (k l : Kind) (a b : Ty) → types.Coll k a ≡ types.Coll l b → a ≡ b
same_element k l a b same = ap (λ (i : Inner). i.ty) (same_inner k l a b same)

pub same_kind_of : (k l : Kind) (a b : Ty) → types.Coll k a ≡ types.Coll l b → k ≡ l
same_kind_of k l a b same = ap (λ (i : Inner). i.kind) (same_inner k l a b same)

no_layer : (layer : of.Ty-F Ty) (ty : Ty) → roll-Ty layer ≡ ty → inner_in layer ≡ None → (kind : Kind) (inner : Ty) → ty ≡ types.Coll kind inner → ⊥
no_layer layer ty rolled none kind inner is =
    none-some (record { kind = kind; ty = inner }) (sym none ∙ sym (at_layer layer ty rolled) ∙ ap inner_of is ∙ at_collection kind inner)

-- the other types are no collections
pub no_collection_text : IsNoCollection types.Str
no_collection_text = no_layer of.Str types.Str types.rolls-Str refl

pub no_collection_number : IsNoCollection types.Int
no_collection_number = no_layer of.Int types.Int types.rolls-Int refl

pub no_collection_truth : IsNoCollection types.Bool
no_collection_truth = no_layer of.Bool types.Bool types.rolls-Bool refl

pub no_collection_enum : (m : ℕ) (e : EnumId) → IsNoCollection (types.Enum m e)
no_collection_enum m e = no_layer (of.Enum m e) (types.Enum m e) (types.rolls-Enum m e) refl

pub no_collection_class : (m : ℕ) (c : ClassId) → IsNoCollection (types.Class m c)
no_collection_class m c = no_layer (of.Class m c) (types.Class m c) (types.rolls-Class m c) refl

pub no_collection_null : IsNoCollection types.Null
no_collection_null = no_layer of.Null types.Null types.rolls-Null refl

-- ---- types of objects

pub objects_of_class : (m : ℕ) (c : ClassId) → has_objects (types.Class m c) ≡ true
objects_of_class m c = ap has_objects (sym (types.rolls-Class m c)) ∙ fold-roll-Ty Bool object_step (of.Class m c)

pub objects_of_collection : (kind : Kind) (inner : Ty) → has_objects (types.Coll kind inner) ≡ has_objects inner
objects_of_collection kind inner = ap has_objects (sym (types.rolls-Coll kind inner)) ∙ fold-roll-Ty Bool object_step (of.Coll kind inner)

pub no_objects_text : has_objects types.Str ≡ false
no_objects_text = ap has_objects (sym types.rolls-Str) ∙ fold-roll-Ty Bool object_step of.Str

-- an object is one of each class that its own conforms to
pub of_other_class : (s : Setting) (m : ℕ) (a b : ClassId) (model : ℕ) (object : ObjId) (there : IsObjectOf s m a model object) → Conforms there.content.meta there.of_class.class b.0 → IsObjectOf s m b model object
of_other_class s m a b model object there conforms = record {
  slot = there.slot;
  placed = there.placed;
  typed = there.typed;
  content = there.content;
  found = there.found;
  of_class = record { class = there.of_class.class; class_is = there.of_class.class_is; conforms = conforms };
}

module _ (metas : List MetaDesc) (s : Setting) where
  -- ---- what is said of the models of objects

  pub datum_elsewhere : (In To : ℕ → Type 0) → ((m : ℕ) → In m → To m) → (ty : Ty) (d : Datum) → IsDatumIn metas s In ty d → IsDatumIn metas s To ty d
  datum_elsewhere In To to types.Str d is = is
  datum_elsewhere In To to types.Int d is = is
  datum_elsewhere In To to types.Bool d is = is
  datum_elsewhere In To to (types.Enum m e) d is = is
  datum_elsewhere In To to (types.Class m class) d (model, object, same, there, here) = (model, object, same, there, to model here)
  datum_elsewhere In To to ty d is = absurd is

  pub value_elsewhere : (In To : ℕ → Type 0) → ((m : ℕ) → In m → To m) → (ty : Ty) (x : Out) → IsValueIn metas s In ty x → IsValueIn metas s To ty x
  value_elsewhere In To to ty (outs.One d) is = datum_elsewhere In To to ty d is
  value_elsewhere In To to ty (outs.Many kind ds) (inner, same, all) = (inner, same, All-weaker (IsDatumIn metas s In inner) (IsDatumIn metas s To inner) (datum_elsewhere In To to inner) ds all)
  value_elsewhere In To to ty outs.Null is = tt
  value_elsewhere In To to ty outs.Invalid is = tt

  -- values that are no objects are in each model
  datum_of_data : (In To : ℕ → Type 0) (ty : Ty) → has_objects ty ≡ false → (d : Datum) → IsDatumIn metas s In ty d → IsDatumIn metas s To ty d
  datum_of_data In To types.Str none d is = is
  datum_of_data In To types.Int none d is = is
  datum_of_data In To types.Bool none d is = is
  datum_of_data In To (types.Enum m e) none d is = is
  datum_of_data In To (types.Class m class) none d is = absurd (true≢false (sym (objects_of_class m class) ∙ none))
  datum_of_data In To ty none d is = absurd is

  pub value_of_data : (In To : ℕ → Type 0) (ty : Ty) → has_objects ty ≡ false → (x : Out) → IsValueIn metas s In ty x → IsValueIn metas s To ty x
  value_of_data In To ty none (outs.One d) is = datum_of_data In To ty none d is
  value_of_data In To ty none (outs.Many kind ds) (inner, same, all) =
      let without : has_objects inner ≡ false = sym (objects_of_collection kind inner) ∙ sym (ap has_objects same) ∙ none in
      (inner, same, All-weaker (IsDatumIn metas s In inner) (IsDatumIn metas s To inner) (datum_of_data In To inner without) ds all)
  value_of_data In To ty none outs.Null is = tt
  value_of_data In To ty none outs.Invalid is = tt

  -- a type without objects needs no model
  pub with_model : (In : Option ℕ → ℕ → Type 0) (ty : Ty) (model : Option ℕ) (x : Out) → IsValueIn metas s (In model) ty x → IsValueIn metas s (In (model_for ty model)) ty x
  with_model In ty model x is = by (has_objects ty) refl
    where
      by : (b : Bool) → has_objects ty ≡ b → IsValueIn metas s (In (if b then model else None)) ty x
      by true has = is
      by false has = value_of_data (In model) (In None) ty has x is

  -- ---- conformance

  pub datum_conforms : (In : ℕ → Type 0) → AreModels metas s → (a b : Ty) → ConformsTo metas a b → (d : Datum) → IsDatumIn metas s In a d → IsDatumIn metas s In b d
  datum_conforms In models a b (inl same) d is = subst (λ ty. IsDatumIn metas s In ty d) same is
  datum_conforms In models a b (inr sub) d is = subst (λ ty. IsDatumIn metas s In ty d) (sym sub.second) (up (subst (λ ty. IsDatumIn metas s In ty d) sub.first is))
    where
      up : IsDatumIn metas s In (types.Class sub.m sub.class) d → IsDatumIn metas s In (types.Class sub.m sub.super) d
      up (model, object, same, there, here) =
          let there_is = models model there.slot there.content there.placed there.found in
          let one : sub.meta ≡ there.content.meta = same_Some sub.meta there.content.meta (sym sub.found ∙ ap (slice_get metas) (sym there.typed) ∙ there_is.described) in
          let conforms : Conforms there.content.meta sub.class.0 sub.super.0 = subst (λ meta. Conforms meta sub.class.0 sub.super.0) one sub.conforms in (
            model,
            object,
            same,
            of_other_class s sub.m sub.class sub.super model object there
                (conforms_through there.content.meta there.of_class.class sub.class.0 sub.super.0 there.of_class.conforms conforms),
            here,
          )

  pub value_conforms : (In : ℕ → Type 0) → AreModels metas s → (a b : Ty) → ConformsTo metas a b → (x : Out) → IsValueIn metas s In a x → IsValueIn metas s In b x
  value_conforms In models a b c (outs.One d) is = datum_conforms In models a b c d is
  value_conforms In models a b (inl same) (outs.Many kind ds) is = subst (λ ty. IsValueIn metas s In ty (outs.Many kind ds)) same is
  value_conforms In models a b (inr sub) (outs.Many kind ds) (inner, same, all) = absurd (no_collection_class sub.m sub.class kind inner (sym sub.first ∙ same))
  value_conforms In models a b c outs.Null is = tt
  value_conforms In models a b c outs.Invalid is = tt

  module _ (In : ℕ → Type 0) where
    abbrev IsOf : Ty → Out → Type 0
    IsOf ty x = IsValueIn metas s In ty x

    -- ---- what results are

    pub is_boolean : (b : Bool) → IsOf types.Bool (boolean b)
    is_boolean b = (b, refl)

    pub is_truth : (o : Option Bool) → IsOf types.Bool (truth o)
    is_truth o = of_given (IsOf types.Bool) o boolean tt (λ b same. is_boolean b)

    pub is_integer_value : (i : ℤ) → IsOf types.Int (integer i)
    is_integer_value i = either_way (IsOf types.Int) (is_integer i) (outs.One (Val 0 (values.Int i))) outs.Invalid (i, refl) tt

    pub is_string : (t : List ℕ) → is_storable_text t ≡ true → IsOf types.Str (string t)
    is_string t storable = either_way (IsOf types.Str) (nat_le (length t) MAX_RESULT) (outs.One (Val 0 (values.Str t))) outs.Invalid (t, refl, storable) tt

    pub is_bounded : (kind : Kind) (ty : Ty) (ds : List Datum) → All (IsDatumIn metas s In ty) ds → IsOf (types.Coll kind ty) (bounded kind ds)
    is_bounded kind ty ds all = either_way (IsOf (types.Coll kind ty)) (nat_le (length ds) MAX_RESULT) (outs.Many kind ds) outs.Invalid (ty, refl, all) tt

    pub is_collected : (kind : Kind) (ty : Ty) (ds : List Datum) → All (IsDatumIn metas s In ty) ds → IsOf (types.Coll kind ty) (collection kind ds)
    is_collected kind ty ds all = is_bounded kind ty (kept kind ds) (all_kept (IsDatumIn metas s In ty) kind ds all)

    -- ---- what values have

    pub datum_in : (ty : Ty) (x : Out) → IsOf ty x → (d : Datum) → datum_of x ≡ Some d → IsDatumIn metas s In ty d
    datum_in ty (outs.One e) is d same = subst (IsDatumIn metas s In ty) (same_Some e d same) is
    datum_in ty (outs.Many kind ds) is d same = absurd (none-some d same)
    datum_in ty outs.Null is d same = absurd (none-some d same)
    datum_in ty outs.Invalid is d same = absurd (none-some d same)

    pub text_in : (x : Out) → IsOf types.Str x → (t : List ℕ) → string_of x ≡ Some t → is_storable_text t ≡ true
    text_in (outs.One d) (text, is, storable) t same =
        let one : Some text ≡ Some t = ap (λ e. string_of (outs.One e)) (sym is) ∙ same in
        subst (λ u. is_storable_text u ≡ true) (same_Some text t one) storable
    text_in (outs.Many kind ds) is t same = absurd (none-some t same)
    text_in outs.Null is t same = absurd (none-some t same)
    text_in outs.Invalid is t same = absurd (none-some t same)

    pub no_integer : (x : Out) → IsOf types.Str x → integer_of x ≡ None
    no_integer (outs.One d) (text, is, storable) = ap (λ e. integer_of (outs.One e)) is
    no_integer (outs.Many kind ds) is = refl
    no_integer outs.Null is = refl
    no_integer outs.Invalid is = refl

    pub no_text : (x : Out) → IsOf types.Int x → string_of x ≡ None
    no_text (outs.One d) (i, is) = ap (λ e. string_of (outs.One e)) is
    no_text (outs.Many kind ds) is = refl
    no_text outs.Null is = refl
    no_text outs.Invalid is = refl

    -- the kind and the elements of a collection
    pub record HasElements (kind : Kind) (ty : Ty) (c : Collection) : Type 0 where
      pub kind_is : kind ≡ c.kind
      pub all : All (IsDatumIn metas s In ty) c.elements

    pub elements_in : (kind : Kind) (ty : Ty) (x : Out) → IsOf (types.Coll kind ty) x → (c : Collection) → collection_of x ≡ Some c → HasElements kind ty c
    elements_in kind ty (outs.One d) is c same = absurd (none-some c same)
    elements_in kind ty (outs.Many l ds) (inner, is, all) c same =
        subst (HasElements kind ty) (same_Some (record { kind = l; elements = ds }) c same) (record {
          kind_is = same_kind_of kind l ty inner is;
          all = subst (λ t. All (IsDatumIn metas s In t) ds) (sym (same_element kind l ty inner is)) all;
        })
    elements_in kind ty outs.Null is c same = absurd (none-some c same)
    elements_in kind ty outs.Invalid is c same = absurd (none-some c same)

  -- ---- arguments

  module _ (In : Option ℕ → ℕ → Type 0) where
    -- each value is of the typing at its place
    abbrev pub AreOf : List Typing → List Out → Type 0
    AreOf [] [] = Unit {0}
    AreOf (p ∷ ps) (x ∷ xs) = IsValueIn metas s (In p.model) p.ty x × AreOf ps xs
    AreOf ps xs = ⊥

    pub record IsArgument (parts : List Typing) (ty : Ty) (x : Out) : Type 0 where
      pub part : Typing
      pub among : Contains parts part
      pub is : IsValueIn metas s (In part.model) ty x

    pub first_argument : (parts : List Typing) (ty : Ty) (rest : List Ty) (xs : List Out) → AreOf parts xs → types_of parts ≡ ty ∷ rest → IsArgument parts ty (argument xs 0)
    first_argument [] ty rest xs are same = absurd (none-some ty (ap (λ (l : List Ty). slice_get l 0) same))
    first_argument (p ∷ ps) ty rest [] are same = absurd are
    first_argument (p ∷ ps) ty rest (x ∷ xs) are same = record {
      part = p;
      among = (0, omega arith, refl);
      is = subst (λ t. IsValueIn metas s (In p.model) t x) (same_Some p.ty ty (ap (λ (l : List Ty). slice_get l 0) same)) are.0;
    }
