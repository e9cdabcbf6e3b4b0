-- The objects of a list of elements by number: their identifiers, the first object of each identifier, and the first fault of a
-- repeated one.
use Rattle.std.specs.Prelude.{◌≡◌, ℕ, ◌||◌, ◌&&◌, Bool, false, not, is_some, List, [], ◌∷◌, ◌++◌, length, position, codes, Option, None, Some, if◌then◌else◌}
use Rattle.std.specs.Option.{unwrap_or}
use Rattle.mof_metamodel.specs.declared.desc.MetaDesc.{MetaDesc}
use Rattle.mof_metamodel.specs.Characters.{same_name}
use Rattle.mof_metamodel.specs.NameTables.{NamesWith, value_of, with_value}
use Rattle.xmi_profile.specs.declared.element.Element.{Element}
use Rattle.model_assembly.specs.declared.fault.ModelFault.TheVariants as faults
use Rattle.xmi_profile.specs.declared.names.Own.TheVariants as owns
use Rattle.model_assembly.specs.Attributes.{value_where}
use Rattle.model_assembly.specs.Elements.{object_of}
use Rattle.xmi_profile.specs.Firsts.{FirstIn, Duplicates}
use Rattle.xmi_profile.specs.Judging.{Found, found_at, first_of, place_of}
use Rattle.xmi_profile.specs.Scanning.{is_own}
use Rattle.model_assembly.specs.Source.{Source, given_id, all_ids, uses, primitive_class}

abbrev pub is_object_element : Element → Bool
is_object_element e = is_some (object_of e.role)

-- the identifier that an element writes, or the one that it is given
abbrev pub own_id : Element → ℕ → List ℕ
own_id e number = unwrap_or (value_where (is_own owns.Id) e.attrs) (given_id number)

-- what is known of the objects so far
pub record Numbers : Type 0 where
  pub ids : List (List ℕ)
  pub names : NamesWith ℕ
  pub repeated : Option Found

abbrev pub no_numbers : Numbers
no_numbers = record { ids = []; names = []; repeated = None }

abbrev pub repeated_at : Element → List ℕ → Found
repeated_at e id = found_at (place_of (is_own owns.Id) e) (faults.DuplicateId id)

-- one more object, whose identifier is new or not
abbrev pub with_new : Numbers → List ℕ → Numbers
with_new n id = record { ids = n.ids ++ id ∷ []; names = with_value n.names id (length n.ids); repeated = n.repeated }

abbrev pub with_repeated : Numbers → Element → List ℕ → Numbers
with_repeated n e id = record { ids = n.ids ++ id ∷ []; names = n.names; repeated = first_of n.repeated (Some (repeated_at e id)) }

abbrev pub with_id : Numbers → Element → List ℕ → Numbers
with_id n e id = if is_some (value_of n.names id) then with_repeated n e id else with_new n id

abbrev pub with_object : Numbers → Element → Numbers
with_object n e = if is_object_element e then with_id n e (own_id e (length n.ids)) else n

abbrev pub numbered : Numbers → List Element → Numbers
numbered n [] = n
numbered n (e ∷ es) = numbered (with_object n e) es

-- Primitive types that are named and aren't in the file

abbrev pub is_used : List Element → List ℕ → Bool
is_used [] name = false
is_used (e ∷ es) name = uses name e.role || is_used es name

abbrev pub is_extern_new : MetaDesc → List Element → Numbers → List ℕ → Bool
is_extern_new meta es n name = is_used es name && (not (is_some (value_of n.names name)) && is_some (primitive_class meta))

abbrev pub with_extern : MetaDesc → List Element → Numbers → List ℕ → Numbers
with_extern meta es n name = if is_extern_new meta es n name then with_new n name else n

abbrev pub with_externs : MetaDesc → List Element → Numbers → Numbers
with_externs meta es n = with_extern meta es (with_extern meta es (with_extern meta es n (codes "String")) (codes "Integer")) (codes "Boolean")

abbrev pub all_numbered : MetaDesc → List Element → Numbers
all_numbered meta es = with_externs meta es (numbered no_numbers es)

-- What is known of the objects of a tree

pub record NumbersOf (s : Source) (n : Numbers) : Type 0 where
  pub ids : n.ids ≡ all_ids s
  pub names : (id : List ℕ) → value_of n.names id ≡ position (same_name id) (all_ids s)
  pub repeated : FirstIn (Duplicates s) n.repeated
