-- Names and texts read character by character, and attributes looked up by name.
use Rattle.std.specs.Prelude.{ℕ, suc, ◌==◌, ◌<◌, IfSome, Bool, List, [], ◌∷◌, ◌++◌, map, Option, None, Some, if◌then◌else◌}
use Rattle.xmi_profile.specs.declared.names.Own.{Own}
use Rattle.xmi_profile.specs.declared.names.Own.TheVariants as owns
use Rattle.mof_metamodel.specs.declared.desc.MetaDesc.{MetaDesc}
use Rattle.mof_metamodel.specs.Metamodels.{class_count, prop_count}
use Rattle.model_assembly.specs.declared.fault.Externs.{Externs}
use Rattle.model_assembly.specs.declared.role.Role.{Role}
use Rattle.model_assembly.specs.declared.role.Role.TheVariants.{Document, Skipped, AnObject, AValue, AReference, Neither, Alien, Stranger, Misplaced}
use Rattle.model_assembly.specs.declared.target.Target.{Target}
use Rattle.model_assembly.specs.declared.target.Target.TheVariants.{Named, Nowhere}
use Rattle.model_assembly.specs.References.{extern_target}
use Rattle.xmi_text.specs.declared.mark.Attr.{Attr}
use Rattle.xmi_text.specs.Trees.{pair_of}
use Rattle.model_assembly.specs.Attributes.{Attrs, is_id_name, is_type_name, is_idref_name, is_nil_name, is_href_name}

-- the name of an attribute that is one of these
abbrev pub is_own : Own → List ℕ → Bool
is_own owns.Id name = is_id_name name
is_own owns.Type name = is_type_name name
is_own owns.Idref name = is_idref_name name
is_own owns.Nil name = is_nil_name name
is_own owns.Href name = is_href_name name

-- what stands behind the first of these characters, with one more character
abbrev pub behind_on : ℕ → Option (List ℕ) → ℕ → Option (List ℕ)
behind_on mark None c = if c == mark then Some [] else None
behind_on mark (Some text) c = Some (text ++ c ∷ [])

-- attributes by names and values
abbrev pub pairs_of : List Attr → Attrs
pairs_of attrs = map pair_of attrs

-- the class of an object is one of the metamodel, and so are the properties of an element
abbrev pub HasProperty : MetaDesc → Option (ℕ × ℕ) → Type 0
HasProperty meta within = IfSome within (λ container. container.1 < prop_count meta)

abbrev pub IsWithin : MetaDesc → Role → Type 0
IsWithin meta (AnObject object) = IfSome object.class (λ c. c < class_count meta) × HasProperty meta object.within
IsWithin meta (AValue o p) = p < prop_count meta
IsWithin meta (AReference o p target) = p < prop_count meta
IsWithin meta (Neither o p) = p < prop_count meta
IsWithin meta (Misplaced o p) = p < prop_count meta
IsWithin meta Document = Unit {0}
IsWithin meta Skipped = Unit {0}
IsWithin meta Alien = Unit {0}
IsWithin meta (Stranger o) = Unit {0}

-- what an `href` names, given what stands behind its first `#`, and whether it begins with that
abbrev pub href_by : Externs → List ℕ → Option (List ℕ) → Bool → Target
href_by outside text None is_local = Nowhere text
href_by outside text (Some fragment) is_local = if is_local then Named fragment else extern_target outside text fragment

-- the number of the first attribute whose name passes, where the first of these has this number
abbrev pub number_from : (List ℕ → Bool) → ℕ → Attrs → Option ℕ
number_from passes n [] = None
number_from passes n (a ∷ attrs) = if passes a.0 then Some n else number_from passes (suc n) attrs

abbrev pub number_where : (List ℕ → Bool) → Attrs → Option ℕ
number_where passes attrs = number_from passes 0 attrs
