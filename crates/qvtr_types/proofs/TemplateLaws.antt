-- Classes that templates name, and properties of items: they are of the domain's metamodel.
use Rattle.std.proofs.Common.{◌≡◌, ◌<◌, ℕ, zero, suc, List, [], ◌∷◌, Bool, true, false, if◌then◌else◌, refl, ap, subst, ◌∙◌, length, arith}
use Rattle.std.specs.Prelude.{Option, Some, None, IsTrue, nat_lt}
use Rattle.std.specs.Option.{option_map, option_and_then}
use Rattle.std.proofs.lemmas.Option.{same_Some, none-some, slice_get-get_or}
use Rattle.std.proofs.lemmas.List.Quantifiers.{position-Some}
use Rattle.mof_metamodel.specs.Characters.{same_name}
use Rattle.mof_metamodel.specs.declared.desc.MetaDesc.{MetaDesc}
use Rattle.mof_metamodel.specs.declared.desc.ClassDesc.{ClassDesc}
use Rattle.mof_metamodel.specs.declared.desc.ClassId.{ClassId}
use Rattle.mof_metamodel.specs.declared.desc.PropId.{PropId}
use Rattle.mof_metamodel.specs.declared.desc.PropType.{PropType}
use Rattle.mof_metamodel.specs.Metamodels.{class_count, class_number, no_class, prop_number, prop_at, type_of}
use Rattle.qv_syntax.specs.declared.ty.Ty.{Ty}
use Rattle.qv_syntax.specs.declared.ty.Ty.TheVariants as types
use Rattle.qv_syntax.specs.declared.typed.Values.{Values}
use Rattle.ocl_environments.specs.Environments.{no_meta, meta_at, is_over}
use Rattle.ocl_environments.specs.Navigation.{value_type, values_of}
use Rattle.ocl_environments.specs.Naming.{names_of}
use Rattle.ocl_types.specs.TypeRules.{HasPropertyNamed}
use Rattle.ocl_types.specs.TypingSteps.{described}
use Rattle.ocl_types.proofs.NumberLaws.{class_property_is}
use Rattle.ocl_types.proofs.RangeLaws.{property_over, over_class}
use Rattle.std.proofs.lemmas.Bool.{lt-ltb}
use Rattle.std.proofs.lemmas.Bool.{and_from}
use Rattle.script_scopes.specs.Occurrences.{WrittenProperty}
use Rattle.script_scopes.specs.Declarations.{template_class}
use Rattle.qvtr_types.specs.ClassPlaces.{IsClassAt}
use Rattle.script_scopes.specs.ResolvedTemplates.{DomainReach, class_named}
use Rattle.qvtr_types.specs.TemplatePieces.{IsItemProperty}

-- ---- classes

-- where a metamodel has a class, the metamodel is there
meta_within : (metas : List MetaDesc) (m c : ℕ) → c < class_count (meta_at metas m) → m < length metas
meta_within [] m c within = absurd (omega (arith, within))
meta_within (d ∷ metas) zero c within = omega arith
meta_within (d ∷ metas) (suc m) c within = let below = meta_within metas m c within in omega (arith, below)

module _ (metas : List MetaDesc) (meta : ℕ) (class : ClassId) where
  named_at : (name : List ℕ) → option_map (λ c. record { 0 = c }) (class_number (meta_at metas meta) name) ≡ Some class → IsClassAt metas (meta, class)
  named_at name is = by (class_number (meta_at metas meta) name) refl is
    where
      by : (o : Option ℕ) → class_number (meta_at metas meta) name ≡ o → option_map (λ c. record { 0 = c }) o ≡ Some class → IsClassAt metas (meta, class)
      by None at is = absurd (none-some class is)
      by (Some c) at is =
          let within : c < class_count (meta_at metas meta) = (position-Some (λ (d : ClassDesc). same_name name d.name) (meta_at metas meta).classes c no_class at).0 in
          subst (λ (k : ClassId). IsClassAt metas (meta, k)) (same_Some (record { 0 = c }) class is) (meta_within metas meta c within, within)

  pub path_class_at : (names path : List (List ℕ)) → template_class metas names meta path ≡ Some class → IsClassAt metas (meta, class)
  path_class_at names [] is = absurd (none-some class is)
  path_class_at names (name ∷ []) is = named_at name is
  path_class_at names (qualifier ∷ name ∷ []) is = by (same_name qualifier _) is
    where
      by : (b : Bool) → (if b then option_map (λ c. record { 0 = c }) (class_number (meta_at metas meta) name) else None) ≡ Some class → IsClassAt metas (meta, class)
      by true is = named_at name is
      by false is = absurd (none-some class is)
  path_class_at names (qualifier ∷ name ∷ more ∷ rest) is = absurd (none-some class is)

-- ---- properties

module _ (reach : DomainReach) (at : WrittenProperty) (class : ClassId) (named : class_named reach at.class ≡ Some class) where
  abbrev metas : List MetaDesc
  metas = reach.env.metas

  abbrev meta : MetaDesc
  meta = meta_at metas reach.meta

  pub class_at : IsClassAt metas (reach.meta, class)
  class_at = path_class_at metas reach.meta class reach.env.names (names_of at.class) named

  module _ (prop : PropId) (of : Ty) where
    pub item_property_is : prop_number meta class.0 at.name ≡ Some prop.0 → option_map (value_type reach.meta) (type_of meta prop.0) ≡ Some of → IsItemProperty reach at class prop of
    item_property_is number typed =
        let gives : Values = values_of (prop_at meta prop.0) in
        let found : HasPropertyNamed metas (types.Class reach.meta class) at.name (prop, gives, of) =
        class_property_is metas reach.meta class at.name (prop, gives, of)
        (ap (λ b. if b then option_and_then (described reach.meta meta) (prop_number meta class.0 at.name) else None)
        (and_from (nat_lt reach.meta (length metas)) (nat_lt class.0 (class_count meta)) (lt-ltb reach.meta (length metas) class_at.0) (lt-ltb class.0 (class_count meta) class_at.1))
        ∙ ap (option_and_then (described reach.meta meta)) number
        ∙ by (type_of meta prop.0) typed) in
        record { is_class = named; number = number; gives = gives; has = found.property }
      where
        shape : PropType → PropId × Values × Ty
        shape t = (prop, values_of (prop_at meta prop.0), value_type reach.meta t)

        by : (o : Option PropType) → option_map (value_type reach.meta) o ≡ Some of → option_map {T = PropType} {U = PropId × Values × Ty} shape o ≡ Some (prop, values_of (prop_at meta prop.0), of)
        by None is = absurd (none-some of is)
        by (Some t) is = ap (λ (x : Ty). Some (prop, values_of (prop_at meta prop.0), x)) (same_Some (value_type reach.meta t) of is)

    pub item_type_over : IsItemProperty reach at class prop of → IsTrue (is_over metas of)
    item_type_over h = property_over metas (types.Class reach.meta class) prop h.gives of h.has

-- the type of the objects of a class
pub class_over : (metas : List MetaDesc) (m : ℕ) (class : ClassId) → IsClassAt metas (m, class) → IsTrue (is_over metas (types.Class m class))
class_over metas m class within = over_class metas m class (record { meta = meta_at metas m; found = slice_get-get_or metas m no_meta within.0; within = within.1 })
