-- The object of a model that a term is: its image (QVT 1.3, section 7.10.2: a key tells the objects of a class apart).
use Rattle.std.specs.Prelude.{ℕ, Bool, true, false, ◌&&◌, ◌==◌, List, [], ◌∷◌, map, Option, None, Some, if◌then◌else◌}
use Rattle.std.specs.List.{list_any, filter}
use Rattle.std.specs.Option.{option_map}
use Rattle.mof_metamodel.specs.declared.desc.PropId.{PropId}
use Rattle.mof_metamodel.specs.Metamodels.{type_of}
use Rattle.object_tables.specs.Models.{ModelData, is_class_type, values_at, partners_at}
use Rattle.qv_syntax.specs.declared.program.Program.{Program}
use Rattle.qvtr_semantics.specs.Objects.{value_datum, extent_of}
use Rattle.repair_semantics.specs.declared.term.Term.{Term, fold-Term}
use Rattle.repair_semantics.specs.declared.term.TermValue.TheOpen as of
use Rattle.repair_semantics.specs.TargetItems.{target_meta_number, key_of}
use Rattle.repair_semantics.specs.Claims.{Held, same_held}

-- the numbers are one
abbrev pub same_number : ℕ → ℕ → Bool
same_number m n = m == n

-- what an object has at a property: its values, or its partners
abbrev pub held_in : Program → ModelData → ℕ → ℕ → List (Held ℕ)
held_in program m o p =
    if is_class_type (type_of m.meta p) then map (λ b. Held.object b) (partners_at m o p)
    else map (λ v. Held.datum (value_datum (target_meta_number program) v)) (values_at m o p)

-- the object holds the value at the property
abbrev pub holds : Program → ModelData → ℕ → ℕ → Held ℕ → Bool
holds program m o p h = list_any (same_held same_number h) (held_in program m o p)

-- the object holds the values at the properties of a key, as many as there are; a value that is no object of the model is held nowhere
abbrev pub holds_key : Program → ModelData → ℕ → List PropId → List (Option (Held ℕ)) → Bool
holds_key program m o [] [] = true
holds_key program m o (p ∷ ps) (Some h ∷ hs) = holds program m o p.0 h && holds_key program m o ps hs
holds_key program m o ps hs = false

-- the first of a list
abbrev pub first_number : List ℕ → Option ℕ
first_number [] = None
first_number (o ∷ os) = Some o

-- the object of least number that conforms to the class and holds the key values
abbrev pub object_with_key : Program → ModelData → ℕ → List (Option (Held ℕ)) → Option (List PropId) → Option ℕ
object_with_key program m class hs None = None
object_with_key program m class hs (Some ps) = first_number (filter (λ o. holds_key program m o ps hs) (extent_of m class))

-- a key value in the model: a term by its image
abbrev pub value_image : of.TermValue-F (Option (Held ℕ)) (Option ℕ) → Option (Held ℕ)
value_image (of.Val d) = Some (Held.datum d)
value_image (of.Term o) = option_map (λ n. Held.object n) o

-- the image of a term by those of its key values
abbrev pub term_image : Program → ModelData → of.Term-F (Option (Held ℕ)) (Option ℕ) → Option ℕ
term_image program m t = object_with_key program m t.class.0 t.keys (key_of program t.class.0)

-- the image of a term: the object of least number that conforms to its class and holds its key values, terms in them read by their images
abbrev pub image : Program → ModelData → Term → Option ℕ
image program m = fold-Term (Option (Held ℕ)) (Option ℕ) value_image (term_image program m)
