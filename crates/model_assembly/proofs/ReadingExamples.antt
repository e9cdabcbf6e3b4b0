-- What texts, words and elements are read as, computed.
use Rattle.std.specs.Prelude.{◌≡◌, ℕ, true, false, pos, negsuc, List, [], ◌∷◌, map, codes, None, Some}
use Rattle.std.proofs.Common.{refl}
use Rattle.object_tables.specs.declared.value.Value.TheVariants as values
use Rattle.xmi_text.specs.Trees.{Nodes, Ends, Run, Element}
use Rattle.model_assembly.specs.declared.fault.Externs.TheVariants as externs
use Rattle.model_assembly.specs.declared.fault.ModelFault.TheVariants as faults
use Rattle.model_assembly.specs.Attributes.{local_part, is_passed_name}
use Rattle.model_assembly.specs.Content.{written_values}
use Rattle.model_assembly.specs.Elements.{items}
use Rattle.model_assembly.specs.Faults.{StandsBy}
use Rattle.model_assembly.specs.Links.{speaks}
use Rattle.model_assembly.specs.References.{Named, Extern, Nowhere, href_target, words}
use Rattle.model_assembly.specs.Source.{Source, all_ids, class_of, given_id, named_at, object_count}
use Rattle.model_assembly.specs.Values.{integer_of, trimmed, boolean_of}
use Rattle.model_assembly.proofs.Small.{cls}

-- Texts

pub blanks_around_a_number : integer_of (trimmed (codes " +5 ")) ≡ Some (pos 5)
blanks_around_a_number = refl

pub greatest_number : integer_of (codes "9223372036854775807") ≡ Some (pos 9223372036854775807)
greatest_number = refl

pub past_the_greatest_number : integer_of (codes "9223372036854775808") ≡ None
past_the_greatest_number = refl

pub least_number : integer_of (codes "-9223372036854775808") ≡ Some (negsuc 9223372036854775807)
least_number = refl

pub a_sign_alone : integer_of (codes "-") ≡ None
a_sign_alone = refl

pub one_is_true : boolean_of (codes "1") ≡ Some true
one_is_true = refl

-- Names

pub behind_a_prefix : local_part (codes "m:Class") ≡ codes "Class"
behind_a_prefix = refl

pub version_is_passed_over : is_passed_name (codes "xmi:version") ≡ true
version_is_passed_over = refl

pub identifier_is_kept : is_passed_name (codes "xmi:id") ≡ false
identifier_is_kept = refl

-- References

pub words_between_blanks : words (codes " a  bc ") ≡ codes "a" ∷ codes "bc" ∷ []
words_between_blanks = refl

pub fragment_of_this_file : href_target externs.None (codes "#c1") ≡ Named (codes "c1")
fragment_of_this_file = refl

pub primitive_type : href_target externs.Primitives (codes "types.xmi#String") ≡ Extern (codes "String")
primitive_type = refl

pub nothing_outside : href_target externs.None (codes "types.xmi#String") ≡ Nowhere (codes "types.xmi#String")
nothing_outside = refl

-- Elements: two objects, of which the first uses the second

abbrev of_classes : Nodes → Source
of_classes inner = record { meta = cls; outside = externs.None; tree = record { name = codes "xmi:XMI"; attrs = []; inner = inner } }

abbrev class_element : List (List ℕ × List ℕ) → Nodes → Nodes
class_element attrs more = Element (codes "Class") attrs Ends more

abbrev two_elements : Source
two_elements = of_classes
    (class_element ((codes "xmi:id", codes "c1") ∷ (codes "name", codes "A") ∷ (codes "uses", codes "c2") ∷ [])
    (Run (10 ∷ [])
    (Element (codes "xmi:Extension") [] (class_element [] Ends)
    (class_element ((codes "xmi:id", codes "c2") ∷ (codes "name", 66 ∷ 10 ∷ 38 ∷ []) ∷ []) Ends))))

pub two_objects : object_count two_elements ≡ 2
two_objects = refl

pub their_identifiers : all_ids two_elements ≡ codes "c1" ∷ codes "c2" ∷ []
their_identifiers = refl

pub class_of_the_second : class_of two_elements 1 ≡ Some 0
class_of_the_second = refl

pub value_of_the_second : written_values two_elements 1 0 ≡ values.Str (66 ∷ 10 ∷ 38 ∷ []) ∷ []
value_of_the_second = refl

pub first_names_the_second : named_at two_elements 0 1 ≡ 1 ∷ []
first_names_the_second = refl

pub second_does_not_speak : speaks two_elements 1 2 ≡ false
second_does_not_speak = refl

pub places_in_document_order : map (λ item. item.place) (items cls externs.None two_elements.tree) ≡ 0 ∷ 1 ∷ 7 ∷ 8 ∷ 11 ∷ []
places_in_document_order = refl

-- an object without an identifier

pub given_identifier : all_ids (of_classes (class_element [] Ends)) ≡ given_id 0 ∷ []
given_identifier = refl

-- two objects, of which the second says that it itself uses it, and not the first

abbrev disputed_elements : Source
disputed_elements = of_classes
    (class_element ((codes "xmi:id", codes "c1") ∷ (codes "name", codes "A") ∷ (codes "uses", codes "c2") ∷ [])
    (class_element ((codes "xmi:id", codes "c2") ∷ (codes "name", codes "B") ∷ (codes "usedBy", codes "c2") ∷ []) Ends))

pub disputed_link : StandsBy disputed_elements
    (faults.Mismatch (codes "c1") (codes "uses") (codes "c2") (codes "usedBy")) (record { object = 0; property = 1; target = 0 })
disputed_link = record {
  p = 1;
  target = Named (codes "c2");
  written = record { property = refl; reference = refl; target_is = refl };
  b = 1;
  named = refl;
  q = 2;
  disputed = record { opposite = refl; named = refl; speaking = refl; unnamed = refl };
  id_is = refl;
  prop_is = refl;
  other_is = refl;
  other_prop_is = refl;
}
