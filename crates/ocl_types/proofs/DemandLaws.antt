-- What rules ask of types, as the checker's tests and as the relations on types (OCL 2.4, sections 7.4, 7.5, 8.2.1 and 11.3 to 11.7).
use Rattle.std.proofs.Common.{◌≡◌, ℕ, Bool, true, false, ◌||◌, List, Option, None, Some, Err, refl, sym, ap, ◌∙◌, subst, ◌⊎◌, ⊎_elim, inl, inr, eq-eqb}
use Rattle.std.specs.Prelude.{IsTrue, ◌↔◌}
use Rattle.std.proofs.lemmas.Bool.{false≢true, eqb-true}
use Rattle.std.proofs.lemmas.Option.{none-some, same_Some}
use Rattle.mof_metamodel.specs.declared.desc.MetaDesc.{MetaDesc}
use Rattle.mof_metamodel.specs.declared.desc.ClassId.{ClassId}
use Rattle.mof_metamodel.proofs.LineageLemmas.{or_cases}
use Rattle.qv_syntax.specs.declared.ty.Ty.{Ty}
use Rattle.qv_syntax.specs.declared.ty.Ty.TheVariants as types
use Rattle.qv_syntax.specs.declared.type_tree.Kind.{Kind}
use Rattle.qv_syntax.specs.declared.type_tree.Kind.TheVariants as kinds
use Rattle.qv_syntax.specs.Types.{ConformsTo, AreRelated}
use Rattle.qv_syntax.specs.TypeRules.{AreLikeCollections, AreComparable, IsOrdered}
use Rattle.ocl_environments.specs.declared.fault.TypeFault.{TypeFault}
use Rattle.ocl_types.specs.declared.operations.Receivers.{Receivers}
use Rattle.ocl_types.specs.declared.operations.Receivers.TheVariants as receivers
use Rattle.ocl_types.specs.declared.collection_operations.Kinds.{Kinds}
use Rattle.ocl_types.specs.declared.collection_operations.Kinds.TheVariants as behind
use Rattle.ocl_environments.specs.Environments.{AreWell, is_over, class_of}
use Rattle.ocl_environments.specs.Outcomes.{RuleResult}
use Rattle.ocl_environments.specs.Agreement.{same_kind, same_type, is_null, collection_parts, fits, are_related, comparable_elements, are_comparable}
use Rattle.ocl_types.specs.Signatures.{is_receiver, is_ordered, is_set, is_of_kind}
use Rattle.ocl_types.specs.TypingSteps.{is_of_meta}
use Rattle.ocl_types.specs.TypeRules.{IsReceiver, IsObjectOf, IsOfKind}
use Rattle.ocl_types.specs.Judged.{Judged, says, taking}
use Rattle.ocl_types.proofs.JudgedLaws.{Decides, ok_err, err_err}
use Rattle.ocl_environments.proofs.TypeLaws.{same_is_one, same_kind_itself}
use Rattle.std.proofs.lemmas.Bool.{and_from}
use Rattle.ocl_types.proofs.LayerLaws.{is_class, class_of_class, parts_of_collection, null_is}
use Rattle.ocl_types.proofs.ConformanceLaws.{fits_conform, comparable_are}
use Rattle.ocl_types.proofs.RangeLaws.{elements_of}
use Rattle.ocl_types.proofs.TopLaws.{fits_where}

-- ---- conformance, and what may be compared

or_either : (a b : Bool) → (a ≡ true) ⊎ (b ≡ true) → (a || b) ≡ true
or_either true b either = refl
or_either false b (inl is) = absurd (false≢true is)
or_either false b (inr is) = is

one_of_all : (a b c d : Bool) → (a ≡ true) ⊎ ((b ≡ true) ⊎ ((c ≡ true) ⊎ (d ≡ true))) → (a || b || c || d) ≡ true
one_of_all true b c d one = refl
one_of_all false true c d one = refl
one_of_all false false true d one = refl
one_of_all false false false d (inl is) = absurd (false≢true is)
one_of_all false false false d (inr (inl is)) = absurd (false≢true is)
one_of_all false false false d (inr (inr (inl is))) = absurd (false≢true is)
one_of_all false false false d (inr (inr (inr is))) = is

module _ (metas : List MetaDesc) (well : AreWell metas) where
  abbrev IsOver : Ty → Type 0
  IsOver ty = is_over metas ty ≡ true

  -- a type of the metamodels conforms to another exactly where the test says so
  pub conforming_is : (a b : Ty) → IsOver a → IsTrue (fits metas a b) ↔ ConformsTo metas a b
  conforming_is a b over = (λ is. fits_conform metas well a b is, λ is. fits_where metas well a b over is)

  related_where : (a b : Ty) → IsOver a → IsOver b → AreRelated metas a b → are_related metas a b ≡ true
  related_where a b one other (inl is) = or_either (fits metas a b) (fits metas b a) (inl (fits_where metas well a b one is))
  related_where a b one other (inr is) = or_either (fits metas a b) (fits metas b a) (inr (fits_where metas well b a other is))

  like_where : (a b : Ty) → IsOver a → IsOver b → AreLikeCollections metas a b → comparable_elements metas (collection_parts a) (collection_parts b) ≡ true
  like_where a b one other like =
      let first : collection_parts a ≡ Some (like.kind, like.one) = ap collection_parts like.first ∙ parts_of_collection like.kind like.one in
      let second : collection_parts b ≡ Some (like.kind, like.other) = ap collection_parts like.second ∙ parts_of_collection like.kind like.other in
      let inner : IsOver like.one = elements_of metas like.kind like.one (subst IsOver like.first one) in
      let outer : IsOver like.other = elements_of metas like.kind like.other (subst IsOver like.second other) in
      ap (λ o. comparable_elements metas o (collection_parts b)) first
      ∙ ap (comparable_elements metas (Some (like.kind, like.one))) second
      ∙ and_from (same_kind like.kind like.kind) (are_related metas like.one like.other) (same_kind_itself like.kind) (related_where like.one like.other inner outer like.related)

  comparable_where : (a b : Ty) → IsOver a → IsOver b → AreComparable metas a b → are_comparable metas a b ≡ true
  comparable_where a b one other are = one_of_all (is_null a) (is_null b) (are_related metas a b) (comparable_elements metas (collection_parts a) (collection_parts b)) (by are)
    where
      by : AreComparable metas a b
          → (is_null a ≡ true) ⊎ ((is_null b ≡ true) ⊎ ((are_related metas a b ≡ true) ⊎ (comparable_elements metas (collection_parts a) (collection_parts b) ≡ true)))
      by (inl null) = inl ((null_is a).1 null)
      by (inr (inl null)) = inr (inl ((null_is b).1 null))
      by (inr (inr (inl related))) = inr (inr (inl (related_where a b one other related)))
      by (inr (inr (inr like))) = inr (inr (inr (like_where a b one other like)))

  -- types of the metamodels may be compared exactly where the test says so
  pub comparing_is : (a b : Ty) → IsOver a → IsOver b → IsTrue (are_comparable metas a b) ↔ AreComparable metas a b
  comparing_is a b one other = (λ is. comparable_are metas well a b is, λ are. comparable_where a b one other are)

-- ---- behind what operations stand

pub receiver_is : (r : Receivers) (ty : Ty) → IsTrue (is_receiver r ty) ↔ IsReceiver r ty
receiver_is receivers.Int ty = same_is_one ty types.Int
receiver_is receivers.IntOrBool ty = (
  λ is. ⊎_elim (λ int. inl ((same_is_one ty types.Int).0 int)) (λ bool. inr ((same_is_one ty types.Bool).0 bool)) (or_cases (same_type ty types.Int) (same_type ty types.Bool) is),
  λ is. or_either (same_type ty types.Int) (same_type ty types.Bool) (⊎_elim (λ int. inl ((same_is_one ty types.Int).1 int)) (λ bool. inr ((same_is_one ty types.Bool).1 bool)) is),
)
receiver_is receivers.Str ty = same_is_one ty types.Str
receiver_is receivers.Any ty = (λ is. tt, λ is. refl)

pub ordered_is : (kind : Kind) → IsTrue (is_ordered kind) ↔ IsOrdered kind
ordered_is kinds.Set = (λ is. absurd (false≢true is), λ is. absurd is)
ordered_is kinds.Bag = (λ is. absurd (false≢true is), λ is. absurd is)
ordered_is kinds.Sequence = (λ is. tt, λ is. refl)
ordered_is kinds.OrderedSet = (λ is. tt, λ is. refl)

set_is : (kind : Kind) → is_set kind ≡ true → kind ≡ kinds.Set
set_is kinds.Set is = refl
set_is kinds.Bag is = absurd (false≢true is)
set_is kinds.Sequence is = absurd (false≢true is)
set_is kinds.OrderedSet is = absurd (false≢true is)

pub kind_is : (ks : Kinds) (kind : Kind) → IsTrue (is_of_kind ks kind) ↔ IsOfKind ks kind
kind_is behind.Any kind = (λ is. tt, λ is. refl)
kind_is behind.Set kind = (set_is kind, λ same. ap is_set same)
kind_is behind.Ordered kind = ordered_is kind

-- objects of a metamodel
pub object_is : (m : ℕ) (ty : Ty) → IsTrue (is_of_meta m (class_of ty)) ↔ IsObjectOf m ty
object_is m ty = (λ is. by (class_of ty) refl is, λ is. ap (is_of_meta m) (ap class_of is.1 ∙ class_of_class m is.0) ∙ eq-eqb m m refl)
  where
    by : (o : Option (ℕ × ClassId)) → class_of ty ≡ o → is_of_meta m o ≡ true → IsObjectOf m ty
    by None at is = absurd (false≢true is)
    by (Some own) at is = (own.1, is_class ty own at ∙ ap (λ n. types.Class n own.1) (eqb-true own.0 m is))

-- ---- what is looked up

-- what is looked up is what a relation says, and where that says nothing of anything, the fault stands
pub known_decides : {X Y : Type 0} (o : Option X) (R : X → Type 0) (f : TypeFault) (r : Option X → RuleResult Y) (rest : X → Judged Y)
    → ((x : X) → o ≡ Some x → R x) → ((x : X) → R x → o ≡ Some x) → r None ≡ Err f → ((x : X) → R x → Decides (r (Some x)) (rest x))
    → Decides (r o) (taking (says R (λ g. g ≡ f)) rest)
known_decides {Y = Y} None R f r rest there back none some = subst (λ (q : RuleResult Y). Decides q (taking (says R (λ g. g ≡ f)) rest)) (sym none) (record {
  told = λ y h. absurd (ok_err (Err f) y f h refl);
  only = λ y h. absurd (none-some h.0 (back h.0 h.1));
  fault = λ g h. inl ((λ x has. none-some x (back x has)), err_err (Err f) g f h refl);
  refused = λ g h y e. ok_err (Err f) y f e refl;
})
known_decides {X = X} (Some x) R f r rest there back none some = record {
  told = λ y h. (x, has, d.told y h);
  only = λ y h. d.only y (subst (λ z. (rest z).has y) (sym (same h.0 h.1)) h.2);
  fault = λ g h. inr (x, has, d.fault g h);
  refused = λ g h y e. ⊎_elim (λ s. s.0 x has) (λ s. d.refused g (subst (λ z. (rest z).stands g) (sym (same s.0 s.1)) s.2) y e) h;
}
  where
    has : R x
    has = there x refl

    d : Decides (r (Some x)) (rest x)
    d = some x has

    same : (z : X) → R z → x ≡ z
    same z is = same_Some x z (back z is)
