-- Values stand at attributes alone, and the names of a metamodel are those of its classes, of what these own, and literals.
use Rattle.std.proofs.Common.{◌≡◌, ℕ, ◌<◌, List, [], ◌∷◌, ◌++◌, length, get_or, refl, sym, ◌∙◌, ap, arith, subst, inl, inr, Option, None, Some}
use Rattle.std.specs.Prelude.{All, Contains, option_map}
use Rattle.std.proofs.lemmas.Bool.{cases_lt}
use Rattle.std.proofs.lemmas.List.{get_or_past}
use Rattle.std.proofs.lemmas.List.Elements.{All-contains, All-map, All-same, All-tail, All-get_or}
use Rattle.mof_metamodel.specs.declared.desc.MetaDesc.{MetaDesc}
use Rattle.mof_metamodel.specs.declared.desc.ClassDesc.{ClassDesc}
use Rattle.mof_metamodel.specs.declared.desc.EnumDesc.{EnumDesc}
use Rattle.mof_metamodel.specs.declared.desc.PropDesc.{PropDesc}
use Rattle.mof_metamodel.specs.declared.desc.PropId.{PropId}
use Rattle.mof_metamodel.specs.Metamodels.{class_count, class_at as meta_class, no_class, enum_count, enum_at, no_enum, literal_at, inherited_props, prop_count, prop_at, props_of, own_props, owner_of, declared_props, no_prop}
use Rattle.mof_metamodel.specs.Tables.{prop_numbers}
use Rattle.mof_metamodel.proofs.PropLemmas.{own_has, owner_within}
use Rattle.object_tables.specs.declared.value.Value.{Value}
use Rattle.object_tables.specs.Objects.{Object}
use Rattle.object_tables.specs.Kept.{Kept}
use Rattle.object_tables.specs.Models.{ModelData, class_at, id_at, values_at, IsAttributeOf}
use Rattle.object_tables.proofs.ValueLaws.{values_somewhere}
use Rattle.model_assembly.specs.Held.{IsHeldText, IsHeld}
use Rattle.std.proofs.lemmas.Option.{same_Some}
use Rattle.std.proofs.lemmas.Option.{none-some}

-- ---- names of a metamodel

abbrev IsNamed : MetaDesc → ℕ → Type 0
IsNamed meta p = IsHeldText (prop_at meta p).name

behind_all : (P : ℕ → Type 0) (xs ys : List ℕ) → All P (xs ++ ys) → All P ys
behind_all P [] ys h = h
behind_all P (x ∷ xs) ys h = behind_all P xs ys (All-tail P x (xs ++ ys) h)

-- those that a class owns, from all that it has
pub owned_held : (meta : MetaDesc) (c : ℕ) (ids : List PropId) → prop_numbers ids ≡ props_of meta c → props_of meta c ≡ inherited_props meta c ++ own_props meta c
    → All (λ (p : PropId). IsHeldText (prop_at meta p.0).name) ids → All (λ (p : ℕ). IsHeldText (prop_at meta p).name) (own_props meta c)
owned_held meta c ids n o h =
    behind_all (IsNamed meta) (inherited_props meta c) (own_props meta c)
    (All-same (IsNamed meta) (inherited_props meta c ++ own_props meta c) (prop_numbers ids) (sym (n ∙ o)) (All-map (IsNamed meta) (λ (p : PropId). p.0) ids h))

-- each property is one that its owner owns
pub props_held : (meta : MetaDesc) → ((c : ℕ) → c < class_count meta → All (λ (p : ℕ). IsHeldText (prop_at meta p).name) (own_props meta c)) → (p : ℕ) → IsHeldText (prop_at meta p).name
props_held meta h p = elim (cases_lt p (prop_count meta)) [
  | inl l ↦ All-contains (IsNamed meta) (own_props meta (owner_of meta p)) p (h (owner_of meta p) (owner_within meta p l)) (own_has meta p l)
  | inr le ↦ subst (λ (d : ℕ × PropDesc). IsHeldText d.1.name) (sym (get_or_past (declared_props meta) p (0, no_prop) le)) refl
]

pub classes_held : (meta : MetaDesc) → ((c : ℕ) → c < class_count meta → IsHeldText (meta_class meta c).name) → (c : ℕ) → IsHeldText (meta_class meta c).name
classes_held meta h c = elim (cases_lt c (class_count meta)) [
  | inl l ↦ h c l
  | inr le ↦ subst (λ (d : ClassDesc). IsHeldText d.name) (sym (get_or_past meta.classes c no_class le)) refl
]

pub literals_held : (meta : MetaDesc) → ((e : ℕ) → e < enum_count meta → All IsHeldText (enum_at meta e).literals) → (e n : ℕ) → IsHeldText (literal_at meta e n)
literals_held meta h e n = elim (cases_lt e (enum_count meta)) [
  | inl l ↦ in_list (enum_at meta e).literals (h e l)
  | inr le ↦ subst (λ (d : EnumDesc). IsHeldText (get_or d.literals n [])) (sym (get_or_past meta.enums e no_enum le)) refl
]
  where
    in_list : (texts : List (List ℕ)) → All IsHeldText texts → IsHeldText (get_or texts n [])
    in_list texts a = elim (cases_lt n (length texts)) [
      | inl l ↦ All-get_or IsHeldText texts n [] l a
      | inr le ↦ subst IsHeldText (sym (get_or_past texts n [] le)) refl
    ]

-- ---- values of objects

-- values that are held where they may stand are held wherever they do
pub values_held : (m : ModelData) → Kept m → ((o p : ℕ) → IsAttributeOf m o p → All IsHeld (values_at m o p)) → (o p : ℕ) (v : Value) → Contains (values_at m o p) v → IsHeld v
values_held m kept h o p v c = elim (values_somewhere m kept o p) [
  | inl e ↦ absurd (nothing v (subst (λ vs. Contains vs v) e c))
  | inr a ↦ All-contains IsHeld (values_at m o p) v (h o p a) c
]
  where
    nothing : (v : Value) → Contains [] v → ⊥
    nothing v k = let within = k.1 in omega (arith, within)

-- what is said of the attributes of a class is said of each attribute of its object
pub attributes_held : (m : ModelData) (o c : ℕ) (ids : List PropId) → class_at m o ≡ Some c → prop_numbers ids ≡ props_of m.meta c
    → All (λ (p : PropId). IsAttributeOf m o p.0 → All IsHeld (values_at m o p.0)) ids → (p : ℕ) → IsAttributeOf m o p → All IsHeld (values_at m o p)
attributes_held m o c ids e n h p a =
    All-contains (λ (p : ℕ). IsAttributeOf m o p → All IsHeld (values_at m o p)) (props_of m.meta c) p
    (All-same (λ (p : ℕ). IsAttributeOf m o p → All IsHeld (values_at m o p)) (props_of m.meta c) (prop_numbers ids) (sym n)
    (All-map (λ (p : ℕ). IsAttributeOf m o p → All IsHeld (values_at m o p)) (λ (p : PropId). p.0) ids h))
    (subst (λ (k : ℕ). Contains (props_of m.meta k) p) (same_Some a.class c (sym a.class_is ∙ e)) a.has) a

-- an object of no number has no class
pub none_gone : (m : ModelData) (o c : ℕ) → class_at m o ≡ Some c → o < length m.objects
none_gone m o c e = elim (cases_lt o (length m.objects)) [
  | inl l ↦ l
  | inr le ↦ absurd (none-some c (ap (λ (x : Option Object). option_map (λ (ob : Object). ob.class) x) (sym (get_or_past m.objects o None le)) ∙ e))
]

pub none_named : (m : ModelData) (o : ℕ) (id : List ℕ) → id_at m o ≡ Some id → o < length m.objects
none_named m o id e = elim (cases_lt o (length m.objects)) [
  | inl l ↦ l
  | inr le ↦ absurd (none-some id (ap (λ (x : Option Object). option_map (λ (ob : Object). ob.id) x) (sym (get_or_past m.objects o None le)) ∙ e))
]
