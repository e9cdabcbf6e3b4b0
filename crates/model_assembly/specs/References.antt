-- What the words of an attribute, `xmi:idref` and `href` name (XMI 2.5.1, 7.10: linking).
use Rattle.std.specs.Prelude.{ℕ, ◌==◌, ◌||◌, Bool, List, [], ◌∷◌, ◌++◌, length, map, codes, Option, None, Some, if◌then◌else◌}
use Rattle.std.specs.Option.{option_map}
use Rattle.mof_metamodel.specs.Characters.{is_blank, same_name}
use Rattle.model_assembly.specs.declared.fault.Externs.{Externs}
use Rattle.model_assembly.specs.declared.fault.Externs.TheVariants as externs
pub use Rattle.model_assembly.specs.declared.target.Target.{Target}
pub use Rattle.model_assembly.specs.declared.target.Target.TheVariants.{Named, Extern, Contained, Nowhere}
use Rattle.model_assembly.specs.Attributes.{Attrs, value_where, is_idref_name, is_href_name, written_id}

-- how a target is printed, given the identifiers of the objects
abbrev pub target_text : (ℕ → List ℕ) → Target → List ℕ
target_text id_of (Named id) = id
target_text id_of (Extern name) = name
target_text id_of (Contained object) = id_of object
target_text id_of (Nowhere text) = text

-- Words of an attribute

-- a word before others, where it has a character
abbrev pub with_word : List ℕ → List (List ℕ) → List (List ℕ)
with_word word rest = if length word == 0 then rest else word ∷ rest

-- the runs of characters between blanks, behind the start of a word
abbrev pub words_behind : List ℕ → List ℕ → List (List ℕ)
words_behind word [] = with_word word []
words_behind word (c ∷ cs) = if is_blank c then with_word word (words_behind [] cs) else words_behind (word ++ c ∷ []) cs

abbrev pub words : List ℕ → List (List ℕ)
words text = words_behind [] text

abbrev pub attribute_targets : List ℕ → List Target
attribute_targets text = map Named (words text)

-- href

-- the primitive types that a file may name
abbrev pub is_primitive_type : List ℕ → Bool
is_primitive_type name = same_name name (codes "String") || same_name name (codes "Integer") || same_name name (codes "Boolean")

-- what stands before the first `#` and behind it
abbrev pub with_first : ℕ → List ℕ × List ℕ → List ℕ × List ℕ
with_first c parts = (c ∷ parts.0, parts.1)

abbrev pub divided : List ℕ → Option (List ℕ × List ℕ)
divided [] = None
divided (c ∷ cs) = if c == 35 then Some ([], cs) else option_map (with_first c) (divided cs)

abbrev pub extern_target : Externs → List ℕ → List ℕ → Target
extern_target externs.None text fragment = Nowhere text
extern_target externs.Primitives text fragment = if is_primitive_type fragment then Extern fragment else Nowhere text

-- a fragment of this file, or of another
abbrev pub fragment_target : Externs → List ℕ → List ℕ → List ℕ → Target
fragment_target outside text [] fragment = Named fragment
fragment_target outside text (c ∷ before) fragment = extern_target outside text fragment

abbrev pub parts_target : Externs → List ℕ → Option (List ℕ × List ℕ) → Target
parts_target outside text None = Nowhere text
parts_target outside text (Some parts) = fragment_target outside text parts.0 parts.1

abbrev pub href_target : Externs → List ℕ → Target
href_target outside text = parts_target outside text (divided text)

-- Elements: one with `xmi:idref` is a reference, and so is one with `href` and without `xmi:id`

abbrev pub unless_identified : Option (List ℕ) → Option Target → Option Target
unless_identified None target = target
unless_identified (Some id) target = None

abbrev pub or_by_href : Externs → Attrs → Option (List ℕ) → Option Target
or_by_href outside attrs (Some id) = Some (Named id)
or_by_href outside attrs None = unless_identified (written_id attrs) (option_map (href_target outside) (value_where is_href_name attrs))

abbrev pub element_target : Externs → Attrs → Option Target
element_target outside attrs = or_by_href outside attrs (value_where is_idref_name attrs)
