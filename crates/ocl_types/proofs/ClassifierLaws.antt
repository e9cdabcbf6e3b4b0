-- What the names of a script name stands in its metamodels (OCL 2.4, section 9.4.1).
use Rattle.std.proofs.Common.{◌≡◌, ◌<◌, ℕ, suc, ◌+◌, Bool, true, false, List, [], ◌∷◌, ◌++◌, Option, None, Some, length, if◌then◌else◌, refl, subst, ⊎_elim, inl, inr, arith}
use Rattle.std.specs.Prelude.{Contains, slice_get, position}
use Rattle.std.specs.Option.{option_map, option_and_then}
use Rattle.std.proofs.lemmas.Option.{none-some, same_Some, get_or_from_slice_get}
use Rattle.std.proofs.lemmas.List.Quantifiers.{position-Some}
use Rattle.std.proofs.lemmas.List.Elements.{Contains-append_cases, Contains-push}
use Rattle.mof_metamodel.specs.declared.desc.MetaDesc.{MetaDesc}
use Rattle.mof_metamodel.specs.declared.desc.ClassDesc.{ClassDesc}
use Rattle.mof_metamodel.specs.declared.desc.EnumDesc.{EnumDesc}
use Rattle.mof_metamodel.specs.declared.desc.ClassId.{ClassId}
use Rattle.mof_metamodel.specs.declared.desc.EnumId.{EnumId}
use Rattle.mof_metamodel.specs.Metamodels.{same_name, class_number, enum_number, enum_at, no_class, no_enum}
use Rattle.qv_syntax.specs.declared.ty.Ty.{Ty}
use Rattle.qv_syntax.specs.Types.{IsClassIn, IsEnumIn, IsSingleType}
use Rattle.qv_syntax.specs.TypedTrees.{IsLiteralIn}
use Rattle.ocl_environments.specs.declared.classifier.Classifier.{Classifier}
use Rattle.ocl_environments.specs.declared.classifier.Classifier.TheVariants.{Class, Enum}
use Rattle.ocl_environments.specs.declared.classifier.Wanted.{Wanted}
use Rattle.ocl_environments.specs.declared.classifier.Wanted.TheVariants.{Types, Classes, Enums}
use Rattle.ocl_environments.specs.Environments.{Environment, no_meta, meta_at}
use Rattle.ocl_environments.specs.Classifiers.{class_in, enum_in, is_meant, wanted_classes, wanted_enums, classifiers_in, classifiers_from, path_classifiers, classifier_type, named_type, class_alone, named_class, literal_in, path_literal, named_literal, only}
use Rattle.ocl_types.proofs.ConformanceLaws.{in_either}
use Rattle.mof_metamodel.proofs.Facts.{nothing_in}

-- the class or the enumeration is one of the metamodels
abbrev pub IsClassifierIn : List MetaDesc → Classifier → Type 0
IsClassifierIn metas (Class m c) = IsClassIn metas m c
IsClassifierIn metas (Enum m e) = IsEnumIn metas m e

-- the one item of a list stands in it
pub only_in : {X : Type 0} (xs : List X) (x : X) → only xs ≡ Some x → Contains xs x
only_in [] x is = absurd (none-some x is)
only_in (y ∷ []) x is = subst (Contains (y ∷ [])) (same_Some y x is) (Contains-push [] y)
only_in (y ∷ z ∷ xs) x is = absurd (none-some x is)

module _ (metas : List MetaDesc) where
  module _ (m : ℕ) (meta : MetaDesc) (found : slice_get metas m ≡ Some meta) (name : List ℕ) where
    class_here : (c : Classifier) (k : ℕ) → class_number meta name ≡ Some k → Contains (Class m (record { 0 = k }) ∷ []) c → IsClassifierIn metas c
    class_here c k is among = elim (in_either (Class m (record { 0 = k })) c [] among) [
      | inl same ↦ subst (IsClassifierIn metas) same (record { meta = meta; found = found; within = (position-Some (λ (d : ClassDesc). same_name name d.name) meta.classes k no_class is).0 })
      | inr none ↦ absurd (nothing_in c none)
    ]

    class_listed : (wanted : Wanted) (c : Classifier) (o : Option ℕ) → class_number meta name ≡ o
        → Contains (wanted_classes wanted (option_map (λ k. Class m (record { 0 = k })) o)) c → IsClassifierIn metas c
    class_listed Types c (Some k) is among = class_here c k is among
    class_listed Classes c (Some k) is among = class_here c k is among
    class_listed Enums c (Some k) is among = absurd (nothing_in c among)
    class_listed Types c None is among = absurd (nothing_in c among)
    class_listed Classes c None is among = absurd (nothing_in c among)
    class_listed Enums c None is among = absurd (nothing_in c among)

    enum_here : (c : Classifier) (k : ℕ) → enum_number meta name ≡ Some k → Contains (Enum m (record { 0 = k }) ∷ []) c → IsClassifierIn metas c
    enum_here c k is among = elim (in_either (Enum m (record { 0 = k })) c [] among) [
      | inl same ↦ subst (IsClassifierIn metas) same (record { meta = meta; found = found; within = (position-Some (λ (d : EnumDesc). same_name name d.name) meta.enums k no_enum is).0 })
      | inr none ↦ absurd (nothing_in c none)
    ]

    enum_listed : (wanted : Wanted) (c : Classifier) (o : Option ℕ) → enum_number meta name ≡ o
        → Contains (wanted_enums wanted (option_map (λ k. Enum m (record { 0 = k })) o)) c → IsClassifierIn metas c
    enum_listed Types c (Some k) is among = enum_here c k is among
    enum_listed Classes c (Some k) is among = absurd (nothing_in c among)
    enum_listed Enums c (Some k) is among = enum_here c k is among
    enum_listed Types c None is among = absurd (nothing_in c among)
    enum_listed Classes c None is among = absurd (nothing_in c among)
    enum_listed Enums c None is among = absurd (nothing_in c among)

    listed_here : (wanted : Wanted) (names : List (List ℕ)) (qualifier : Option (List ℕ)) (c : Classifier) (meant : Bool)
        → Contains (if meant then wanted_classes wanted (class_in m meta name) ++ wanted_enums wanted (enum_in m meta name) else []) c → IsClassifierIn metas c
    listed_here wanted names qualifier c true among = ⊎_elim
        (λ (first : Contains (wanted_classes wanted (class_in m meta name)) c). class_listed wanted c (class_number meta name) refl first)
        (λ (second : Contains (wanted_enums wanted (enum_in m meta name)) c). enum_listed wanted c (enum_number meta name) refl second)
        (Contains-append_cases (wanted_classes wanted (class_in m meta name)) (wanted_enums wanted (enum_in m meta name)) c among)
    listed_here wanted names qualifier c false among = absurd (nothing_in c among)

  -- those from a number on stand in the metamodels, where these are the metamodels from that number on
  from_listed : (wanted : Wanted) (m : ℕ) (rest : List MetaDesc) (names : List (List ℕ)) (qualifier : Option (List ℕ)) (name : List ℕ) (c : Classifier)
      → ((k : ℕ) (d : MetaDesc) → slice_get rest k ≡ Some d → slice_get metas (m + k) ≡ Some d)
      → Contains (classifiers_from wanted m rest names qualifier name) c → IsClassifierIn metas c
  unfolding classifiers_from
  from_listed wanted m [] names qualifier name c placed among = absurd (nothing_in c among)
  from_listed wanted m (meta ∷ rest) names qualifier name c placed among = ⊎_elim
      (λ (here : Contains (classifiers_in wanted names qualifier name m meta) c).
      listed_here m meta (let at : m + 0 ≡ m = omega arith in subst (λ n. slice_get metas n ≡ Some meta) at (placed 0 meta refl)) name wanted names qualifier c (is_meant names qualifier m) here)
      (λ (there : Contains (classifiers_from wanted (m + 1) rest names qualifier name) c).
      from_listed wanted (m + 1) rest names qualifier name c
      (λ k d is. let at : m + suc k ≡ m + 1 + k = omega arith in subst (λ n. slice_get metas n ≡ Some d) at (placed (suc k) d is)) there)
      (Contains-append_cases (classifiers_in wanted names qualifier name m meta) (classifiers_from wanted (m + 1) rest names qualifier name) c among)

  all_listed : (wanted : Wanted) (names : List (List ℕ)) (qualifier : Option (List ℕ)) (name : List ℕ) (c : Classifier)
      → Contains (classifiers_from wanted 0 metas names qualifier name) c → IsClassifierIn metas c
  all_listed wanted names qualifier name c among = from_listed wanted 0 metas names qualifier name c
      (λ k d is. let at : k ≡ 0 + k = omega arith in subst (λ n. slice_get metas n ≡ Some d) at is) among

  path_listed : (wanted : Wanted) (names path : List (List ℕ)) (c : Classifier) → Contains (path_classifiers wanted metas names path) c → IsClassifierIn metas c
  unfolding path_classifiers
  path_listed wanted names [] c among = absurd (nothing_in c among)
  path_listed wanted names (a ∷ []) c among = all_listed wanted names None a c among
  path_listed wanted names (m ∷ a ∷ []) c among = all_listed wanted names (Some m) a c among
  path_listed wanted names (m ∷ a ∷ b ∷ more) c among = absurd (nothing_in c among)

  literal_there : (literal : List ℕ) (o : Option Classifier) (l : ℕ × EnumId × ℕ) → ((c : Classifier) → o ≡ Some c → IsClassifierIn metas c)
      → option_and_then (literal_in metas literal) o ≡ Some l → IsLiteralIn metas l.0 l.1 l.2
  literal_there literal None l there is = absurd (none-some l is)
  literal_there literal (Some (Class m c)) l there is = absurd (none-some l is)
  literal_there literal (Some (Enum m e)) l there is = by (position (same_name literal) (enum_at (meta_at metas m) e.0).literals) refl is
    where
      has : IsEnumIn metas m e
      has = there (Enum m e) refl

      by : (o : Option ℕ) → position (same_name literal) (enum_at (meta_at metas m) e.0).literals ≡ o → option_map (λ i. (m, e, i)) o ≡ Some l → IsLiteralIn metas l.0 l.1 l.2
      by None at is = absurd (none-some l is)
      by (Some i) at is =
          let within : i < length (enum_at (meta_at metas m) e.0).literals = (position-Some (same_name literal) (enum_at (meta_at metas m) e.0).literals i [] at).0 in
          let same : meta_at metas m ≡ has.meta = get_or_from_slice_get metas m has.meta no_meta has.found in
          subst (λ (q : ℕ × EnumId × ℕ). IsLiteralIn metas q.0 q.1 q.2) (same_Some (m, e, i) l is)
          (record { has = has; within = subst (λ d. i < length (enum_at d e.0).literals) same within })

  path_literal_there : (names path : List (List ℕ)) (l : ℕ × EnumId × ℕ) → path_literal metas names path ≡ Some l → IsLiteralIn metas l.0 l.1 l.2
  unfolding path_literal
  path_literal_there names [] l is = absurd (none-some l is)
  path_literal_there names (a ∷ []) l is = absurd (none-some l is)
  path_literal_there names (e ∷ literal ∷ []) l is = literal_there literal (only (classifiers_from Enums 0 metas names None e)) l
      (λ c one. all_listed Enums names None e c (only_in (classifiers_from Enums 0 metas names None e) c one)) is
  path_literal_there names (m ∷ e ∷ literal ∷ []) l is = literal_there literal (only (classifiers_from Enums 0 metas names (Some m) e)) l
      (λ c one. all_listed Enums names (Some m) e c (only_in (classifiers_from Enums 0 metas names (Some m) e) c one)) is
  path_literal_there names (a ∷ b ∷ c ∷ d ∷ more) l is = absurd (none-some l is)

-- ---- what names name

pub type_there : (env : Environment) (path : List (List ℕ)) (ty : Ty) → named_type env path ≡ Some ty → IsSingleType env.metas ty
type_there env path ty is = by (only (path_classifiers Types env.metas env.names path)) refl is
  where
    single : (c : Classifier) → IsClassifierIn env.metas c → IsSingleType env.metas (classifier_type c)
    single (Class m c) has = has
    single (Enum m e) has = has

    by : (o : Option Classifier) → only (path_classifiers Types env.metas env.names path) ≡ o → option_map classifier_type o ≡ Some ty → IsSingleType env.metas ty
    by None at is = absurd (none-some ty is)
    by (Some c) at is = subst (IsSingleType env.metas) (same_Some (classifier_type c) ty is)
        (single c (path_listed env.metas Types env.names path c (only_in (path_classifiers Types env.metas env.names path) c at)))

pub class_there : (env : Environment) (path : List (List ℕ)) (c : ℕ × ClassId) → named_class env path ≡ Some c → IsClassIn env.metas c.0 c.1
class_there env path c is = by (only (path_classifiers Classes env.metas env.names path)) refl is
  where
    by : (o : Option Classifier) → only (path_classifiers Classes env.metas env.names path) ≡ o → option_and_then class_alone o ≡ Some c → IsClassIn env.metas c.0 c.1
    by None at is = absurd (none-some c is)
    by (Some (Enum m e)) at is = absurd (none-some c is)
    by (Some (Class m d)) at is = subst (λ (q : ℕ × ClassId). IsClassIn env.metas q.0 q.1) (same_Some (m, d) c is)
        (path_listed env.metas Classes env.names path (Class m d) (only_in (path_classifiers Classes env.metas env.names path) (Class m d) at))

pub literal_is_there : (env : Environment) (path : List (List ℕ)) (l : ℕ × EnumId × ℕ) → named_literal env path ≡ Some l → IsLiteralIn env.metas l.0 l.1 l.2
literal_is_there env path l is = path_literal_there env.metas env.names path l is
