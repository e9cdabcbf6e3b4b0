-- Conformance, and types to which others conform, in the words of typed trees (OCL 2.4, section 8.2.1).
use Rattle.std.proofs.Common.{◌≡◌, ◌<◌, ℕ, zero, suc, Bool, true, false, ◌||◌, List, [], ◌∷◌, ◌++◌, Option, None, Some, Ok, refl, sym, ap, ◌∙◌, subst, ◌⊎◌, ⊎_elim, inl, inr, arith}
use Rattle.std.specs.Prelude.{Contains, slice_get}
use Rattle.std.proofs.lemmas.Bool.{false≢true}
use Rattle.std.proofs.lemmas.Option.{slice_get-get_or, none-some, same_Some}
use Rattle.std.proofs.lemmas.List.Elements.{Contains-append_left, Contains-append_right, Contains-append_cases, Contains-push, Contains-push_cases}
use Rattle.mof_metamodel.specs.declared.desc.MetaDesc.{MetaDesc}
use Rattle.mof_metamodel.specs.declared.desc.ClassId.{ClassId}
use Rattle.mof_metamodel.proofs.SearchLemmas.{passes_each}
use Rattle.qv_syntax.specs.declared.type_tree.Kind.{Kind}
use Rattle.qv_syntax.specs.declared.ty.Ty.{Ty}
use Rattle.qv_syntax.specs.declared.ty.Ty.TheVariants as types
use Rattle.qv_syntax.specs.Types.{ConformsTo, AreRelated, IsTopOf}
use Rattle.qv_syntax.specs.TypeRules.{AreLikeCollections, AreComparable}
use Rattle.ocl_environments.specs.Environments.{no_meta, meta_at, class_of, AreWell}
use Rattle.ocl_environments.specs.Conformance.{ConformsBy, TypeConforms}
use Rattle.ocl_environments.specs.Agreement.{same_kind, is_null, collection_parts, has_objects, fits, are_related, agreed, upper, IsTop, comparable_elements, are_comparable}
use Rattle.ocl_environments.proofs.TypeLaws.{same_kinds}
use Rattle.std.proofs.lemmas.Bool.{and_parts}
use Rattle.ocl_types.proofs.UpperLaws.{fits_exactly, agreed_sound}
use Rattle.ocl_types.proofs.LayerLaws.{is_class, is_collection, null_is, objects_of_class}
use Rattle.mof_metamodel.proofs.Facts.{nothing_in}

-- ---- lists of one more

pub first_in : {X : Type 0} (x y : X) (xs : List X) → x ≡ y → Contains (x ∷ xs) y
first_in x y xs same = Contains-append_left (x ∷ []) xs y (subst (Contains (x ∷ [])) same (Contains-push [] x))

pub later_in : {X : Type 0} (x y : X) (xs : List X) → Contains xs y → Contains (x ∷ xs) y
later_in x y xs among = Contains-append_right (x ∷ []) xs y among

pub in_either : {X : Type 0} (x y : X) (xs : List X) → Contains (x ∷ xs) y → (x ≡ y) ⊎ Contains xs y
in_either x y xs among = ⊎_elim
    (λ (here : Contains (x ∷ []) y). ⊎_elim (λ (none : Contains [] y). absurd (nothing_in y none)) (λ (same : x ≡ y). inl same) (Contains-push_cases [] x y here))
    (λ (there : Contains xs y). inr there)
    (Contains-append_cases (x ∷ []) xs y among)

pub in_two : {X : Type 0} (P : X → Type 0) (a b : X) → P a → P b → (x : X) → Contains (a ∷ b ∷ []) x → P x
in_two P a b one other x among = elim (in_either a x (b ∷ []) among) [
  | inl same ↦ subst P same one
  | inr more ↦ elim (in_either b x [] more) [ inl same ↦ subst P same other | inr none ↦ absurd (nothing_in x none) ]
]

-- what stands in a list with one more stands in the list, or is that
pub one_more : {X : Type 0} (xs : List X) (y : X) (n : ℕ) (x : X) → slice_get (xs ++ y ∷ []) n ≡ Some x → (slice_get xs n ≡ Some x) ⊎ (y ≡ x)
one_more [] y zero x is = inr (same_Some y x is)
one_more [] y (suc n) x is = absurd (none-some x is)
one_more (z ∷ xs) y zero x is = inl is
one_more (z ∷ xs) y (suc n) x is = one_more xs y n x is

-- ---- conformance

-- a type that conforms as the checker's test says does so by the definition
pub conforms_to : (metas : List MetaDesc) (a b : Ty) → TypeConforms metas a b → ConformsTo metas a b
conforms_to metas a b is = by (class_of a) (class_of b) refl refl is
  where
    by : (x y : Option (ℕ × ClassId)) → class_of a ≡ x → class_of b ≡ y → ConformsBy metas a b x y → ConformsTo metas a b
    by (Some c) (Some d) one other has = inr (record {
      m = c.0;
      class = c.1;
      super = d.1;
      meta = meta_at metas c.0;
      found = slice_get-get_or metas c.0 no_meta has.1.0;
      within = has.1.1;
      conforms = has.1.2;
      first = is_class a c one;
      second = is_class b d other ∙ ap (λ m. types.Class m d.1) (sym has.0);
    })
    by (Some c) None one other has = inl has
    by None y one other has = inl has

-- types of which one conforms to the other have objects alike
pub alike : (metas : List MetaDesc) (a b : Ty) → ConformsTo metas a b → has_objects a ≡ has_objects b
alike metas a b (inl same) = ap has_objects same
alike metas a b (inr sub) = ap has_objects sub.first ∙ objects_of_class sub.m sub.class ∙ sym (objects_of_class sub.m sub.super) ∙ sym (ap has_objects sub.second)

module _ (metas : List MetaDesc) (well : AreWell metas) where
  pub fits_conform : (a b : Ty) → fits metas a b ≡ true → ConformsTo metas a b
  fits_conform a b is = conforms_to metas a b ((fits_exactly metas well a b).0 is)

  pub related_are : (a b : Ty) → are_related metas a b ≡ true → AreRelated metas a b
  related_are a b is = by (fits metas a b) refl is
    where
      by : (one : Bool) → fits metas a b ≡ one → (one || fits metas b a) ≡ true → AreRelated metas a b
      by true one is = inl (fits_conform a b one)
      by false one is = inr (fits_conform b a is)

  -- ---- types to which others conform

  pub top_of : (tys : List Ty) (top : Ty) → IsTop metas tys top → IsTopOf metas tys top
  top_of tys top is = record {
    among = is.among;
    above = λ ty among. fits_conform ty top (passes_each (λ t. fits metas t top) tys is.above ty among);
  }

  pub agreed_top : (ty t : Ty) (tys : List Ty) → agreed metas ty tys ≡ Ok t → IsTopOf metas (ty ∷ tys) t
  agreed_top ty t tys is = top_of (ty ∷ tys) t (agreed_sound metas ty t tys is)

  pub upper_top : (a b t : Ty) → upper metas a b ≡ Ok t → IsTopOf metas (a ∷ b ∷ []) t
  upper_top a b t is = agreed_top a t (b ∷ []) is

  -- ---- what may be compared

  one_of_four : (a b c d : Bool) → (a || b || c || d) ≡ true → (a ≡ true) ⊎ ((b ≡ true) ⊎ ((c ≡ true) ⊎ (d ≡ true)))
  one_of_four true b c d is = inl refl
  one_of_four false true c d is = inr (inl refl)
  one_of_four false false true d is = inr (inr (inl refl))
  one_of_four false false false d is = inr (inr (inr is))

  like_collections : (a b : Ty) → comparable_elements metas (collection_parts a) (collection_parts b) ≡ true → AreLikeCollections metas a b
  like_collections a b is = by (collection_parts a) (collection_parts b) refl refl is
    where
      by : (x y : Option (Kind × Ty)) → collection_parts a ≡ x → collection_parts b ≡ y → comparable_elements metas x y ≡ true → AreLikeCollections metas a b
      by (Some p) (Some q) one other is =
          let both = and_parts (same_kind p.0 q.0) (are_related metas p.1 q.1) is in
          record {
            kind = p.0;
            one = p.1;
            other = q.1;
            first = is_collection a p one;
            second = is_collection b q other ∙ ap (λ k. types.Coll k q.1) (sym (same_kinds p.0 q.0 both.0));
            related = related_are p.1 q.1 both.1;
          }
      by (Some p) None one other is = absurd (false≢true is)
      by None y one other is = absurd (false≢true is)

  pub comparable_are : (a b : Ty) → are_comparable metas a b ≡ true → AreComparable metas a b
  comparable_are a b is = elim (one_of_four (is_null a) (is_null b) (are_related metas a b) (comparable_elements metas (collection_parts a) (collection_parts b)) is) [
    | inl null ↦ inl ((null_is a).0 null)
    | inr more ↦ elim more [
      | inl null ↦ inr (inl ((null_is b).0 null))
      | inr rest ↦ elim rest [
        | inl related ↦ inr (inr (inl (related_are a b related)))
        | inr like ↦ inr (inr (inr (like_collections a b like)))
      ]
    ]
  ]

-- a type to which two conform is one of them, so one conforms to the other
pub top_related : (metas : List MetaDesc) (a b t : Ty) → IsTopOf metas (a ∷ b ∷ []) t → AreRelated metas a b
top_related metas a b t top = elim (in_either a t (b ∷ []) top.among) [
  | inl same ↦ inr (subst (ConformsTo metas b) (sym same) (top.above b (later_in a b (b ∷ []) (first_in b b [] refl))))
  | inr more ↦ elim (in_either b t [] more) [
    | inl same ↦ inl (subst (ConformsTo metas a) (sym same) (top.above a (first_in a a (b ∷ []) refl)))
    | inr none ↦ absurd (nothing_in t none)
  ]
]
