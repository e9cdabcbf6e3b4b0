-- A file is a model, or a fault is told of it.
use Rattle.std.proofs.Common.{◌≡◌, ℕ, ◌<◌, Bool, true, false, cond, List, ◌∷◌, length, map, refl, sym, ap, subst, arith, Option, None, Some, All, IfSome, Result, Ok, Err}
use Rattle.std.proofs.lemmas.List.Elements.{All-nil, All-cons, All-append, All-map, All-weaker}
use Rattle.mof_metamodel.specs.declared.desc.MetaDesc.{MetaDesc}
use Rattle.mof_metamodel.specs.Metamodels.{class_count, prop_count, class_number, class_at, no_class, prop_at, prop_number, type_of}
use Rattle.mof_metamodel.specs.WellMeta.{WellMeta}
use Rattle.mof_metamodel.proofs.MetaLaws.{prop_named}
use Rattle.mof_metamodel.proofs.PropLemmas.{prop_known}
use Rattle.mof_metamodel.proofs.SearchLemmas.{position_named}
use Rattle.object_tables.specs.Models.{ModelData, is_class_type}
use Rattle.xmi_text.specs.declared.error.TextFault.{TextFault}
use Rattle.xmi_text.specs.Faults as markup
use Rattle.xmi_text.specs.Reading.{end_fault_of, marks_of}
use Rattle.xmi_text.specs.Trees.{Nodes, Ends, Run, Element, Tree, told as told_marks}
use Rattle.xmi_text.proofs.faults.FirstFault.{told_first}
use Rattle.model_assembly.specs.declared.fault.Externs.{Externs}
use Rattle.model_assembly.specs.declared.fault.ModelFault.{ModelFault}
use Rattle.xmi_profile.specs.declared.fault.XmiError.{XmiError}
use Rattle.xmi_profile.specs.declared.fault.XmiError.TheVariants as errors
use Rattle.model_assembly.specs.declared.filed.Filed.{Filed}
use Rattle.xmi_profile.specs.declared.objects.Objects.{Objects}
use Rattle.model_assembly.specs.Assembled.{IsAssembled, IsWhole}
use Rattle.model_assembly.specs.Attributes.{Attrs, local_part, is_skipped_name, is_alien_name, is_document_name}
use Rattle.xmi_profile.specs.Bytes.{unless_fault, listing_of}
use Rattle.model_assembly.specs.declared.role.Role.{Role}
use Rattle.model_assembly.specs.declared.role.Role.TheVariants.{Document, Skipped, AnObject, AValue, AReference, Neither, Alien, Stranger, Misplaced}
use Rattle.model_assembly.specs.Elements.{Item, concrete, concrete_class, class_named_by, type_class_name, role_in_document, role_of_root, role_at_reference, role_at, role_in_object, role_in_property, role_in_class, role_in, items_in, items, number_in, inner_place, behind_place, number_behind}
use Rattle.xmi_profile.specs.Filing.{filed_of}
use Rattle.xmi_profile.specs.Known.{AreFiled, ReadsObjects, fault_of, unless_fault as unless_told, with_listing}
use Rattle.xmi_profile.specs.Listing.{Listing, nothing, listed, element_of}
use Rattle.xmi_profile.specs.Numbering.{Numbers}
use Rattle.xmi_profile.specs.Reads.{Spells, IsRefused, source_of}
use Rattle.model_assembly.specs.declared.target.Target.{Target}
use Rattle.model_assembly.specs.References.{element_target}
use Rattle.xmi_profile.specs.Scanning.{IsWithin}
use Rattle.xmi_profile.proofs.SeenLaws.{element_kept}
use Rattle.model_assembly.proofs.assembling.FoundLaws.{Found, model, told, found}
use Rattle.xmi_profile.proofs.filed_laws.FileableLaws.{objects_are_filed}
use Rattle.xmi_profile.proofs.filed_laws.ObjectLaws.{AreWithin, IsListed, listed_bytes, judged_objects, judged_reads}

-- ---- what is put together of a file is what it spells

pub spelled : (meta : MetaDesc) (outside : Externs) (bytes : List ℕ) (f : Filed) → AreFiled meta outside bytes f → (m : ModelData) → IsAssembled meta f m → Spells meta outside bytes m
spelled meta outside bytes f are m h = record {
  tree = are.tree;
  markup = are.markup;
  model = h (source_of meta outside are.tree) (record { meta = refl; filed = are.filed; none_at = are.none_at });
}

-- ---- classes and properties of elements are those of the metamodel

module _ (meta : MetaDesc) (outside : Externs) where
  class_within : (named : List ℕ) → IfSome (concrete_class meta named) (λ c. c < class_count meta)
  class_within named = by (class_number meta named) refl
    where
      of_class : (c : ℕ) → c < class_count meta → (b : Bool) → IfSome (cond b None (Some c)) (λ x. x < class_count meta)
      of_class c l true = tt
      of_class c l false = l

      by : (o : Option ℕ) → class_number meta named ≡ o → IfSome (concrete meta o) (λ c. c < class_count meta)
      by None e = tt
      by (Some c) e = of_class c (position_named (λ x. x.name) meta.classes named c no_class e).0 (class_at meta c).is_abstract

  document_within : (number : ℕ) (name : List ℕ) (attrs : Attrs) → IsWithin meta (role_in_document meta number name attrs)
  document_within number name attrs = by (is_skipped_name name) (is_alien_name name)
    where
      by : (a b : Bool) → IsWithin meta (cond a Skipped (cond b Alien (AnObject (record { number = number; named = class_named_by attrs (local_part name); class = concrete_class meta (class_named_by attrs (local_part name)); within = None }))))
      by true b = tt
      by false true = tt
      by false false = (class_within (class_named_by attrs (local_part name)), tt)

  root_within : (name : List ℕ) (attrs : Attrs) → IsWithin meta (role_of_root meta name attrs)
  root_within name attrs = by (is_document_name name)
    where
      by : (b : Bool) → IsWithin meta (cond b Document (role_in_document meta 0 name attrs))
      by true = tt
      by false = document_within 0 name attrs

  reference_within : (number o p : ℕ) (attrs : Attrs) → p < prop_count meta → (target : Option Target) → IsWithin meta (role_at_reference meta number o p attrs target)
  reference_within number o p attrs l (Some target) = l
  reference_within number o p attrs l None = by (prop_at meta p).composite
    where
      by : (b : Bool) → IsWithin meta (cond b (AnObject (record {
        number = number;
        named = class_named_by attrs (type_class_name meta (type_of meta p));
        class = concrete_class meta (class_named_by attrs (type_class_name meta (type_of meta p)));
        within = Some (o, p);
      })) (Neither o p))
      by true = (class_within (class_named_by attrs (type_class_name meta (type_of meta p))), l)
      by false = l

  property_within : (number o : ℕ) (attrs : Attrs) (p : Option ℕ) → IfSome p (λ q. q < prop_count meta) → IsWithin meta (role_at meta outside number o attrs p)
  property_within number o attrs None h = tt
  property_within number o attrs (Some p) h = by (is_class_type (type_of meta p))
    where
      by : (b : Bool) → IsWithin meta (cond b (role_at_reference meta number o p attrs (element_target outside attrs)) (AValue o p))
      by true = reference_within number o p attrs h (element_target outside attrs)
      by false = h

  prop_within : (c : ℕ) (name : List ℕ) → IfSome (prop_number meta c name) (λ p. p < prop_count meta)
  prop_within c name = by (prop_number meta c name) refl
    where
      by : (o : Option ℕ) → prop_number meta c name ≡ o → IfSome o (λ p. p < prop_count meta)
      by None e = tt
      by (Some p) e = prop_known meta c p (prop_named meta c name (Some (record { 0 = p })) (sym e)).has

  object_within : (number o c : ℕ) (name : List ℕ) (attrs : Attrs) → IsWithin meta (role_in_object meta outside number o c name attrs)
  object_within number o c name attrs = by (is_skipped_name name) (is_alien_name name)
    where
      by : (a b : Bool) → IsWithin meta (cond a Skipped (cond b Alien (role_at meta outside number o attrs (prop_number meta c name))))
      by true b = tt
      by false true = tt
      by false false = property_within number o attrs (prop_number meta c name) (prop_within c name)

  class_role_within : (number o : ℕ) (c : Option ℕ) (name : List ℕ) (attrs : Attrs) → IsWithin meta (role_in_class meta outside number o c name attrs)
  class_role_within number o None name attrs = tt
  class_role_within number o (Some c) name attrs = object_within number o c name attrs

  inner_within : (o p : ℕ) (name : List ℕ) → p < prop_count meta → IsWithin meta (role_in_property o p name)
  inner_within o p name l = by (is_skipped_name name) (is_alien_name name)
    where
      by : (a b : Bool) → IsWithin meta (cond a Skipped (cond b Alien (Misplaced o p)))
      by true b = tt
      by false true = tt
      by false false = l

  role_within : (parent : Role) (number : ℕ) (name : List ℕ) (attrs : Attrs) → IsWithin meta parent → IsWithin meta (role_in meta outside parent number name attrs)
  role_within Document number name attrs h = document_within number name attrs
  role_within (AnObject object) number name attrs h = class_role_within number object.number object.class name attrs
  role_within (AValue o p) number name attrs h = inner_within o p name h
  role_within (AReference o p target) number name attrs h = inner_within o p name h
  role_within Skipped number name attrs h = tt
  role_within (Neither o p) number name attrs h = tt
  role_within Alien number name attrs h = tt
  role_within (Stranger o) number name attrs h = tt
  role_within (Misplaced o p) number name attrs h = tt

  abbrev IsItemWithin : Item → Type 0
  IsItemWithin item = IsWithin meta item.role

  nodes_within : (parent : Role) (nodes : Nodes) (place number : ℕ) → IsWithin meta parent → All IsItemWithin (items_in meta outside parent nodes place number)
  nodes_within parent Ends place number h = All-nil IsItemWithin
  nodes_within parent (Run characters more) place number h = nodes_within parent more _ number h
  nodes_within parent (Element name attrs inner more) place number h =
      let role = role_in meta outside parent number name attrs in
      let here = role_within parent number name attrs h in
      let first : Item = record { place = place; role = role; name = name; attrs = attrs; inner = inner } in
      let inside : List Item = items_in meta outside role inner (inner_place place attrs) (number_in role number) in
      let own : List Item = first ∷ inside in
      All-append IsItemWithin own (items_in meta outside parent more (behind_place place attrs inner) (number_behind own number))
      (All-cons IsItemWithin first inside here (nodes_within role inner (inner_place place attrs) (number_in role number) here))
      (nodes_within parent more (behind_place place attrs inner) (number_behind own number) h)

  tree_within : (tree : Tree) → AreWithin meta (map element_of (items meta outside tree))
  tree_within tree =
      All-map (λ e. IsWithin meta e.role) element_of (items meta outside tree)
      (All-weaker IsItemWithin (λ item. IsWithin meta (element_of item).role) (λ item h. subst (λ e. IsWithin meta e.role) (sym (element_kept item)) h) (items meta outside tree)
      (All-cons IsItemWithin
      (record { place = 0; role = role_of_root meta tree.name tree.attrs; name = tree.name; attrs = tree.attrs; inner = tree.inner })
      (items_in meta outside (role_of_root meta tree.name tree.attrs) tree.inner (inner_place 0 tree.attrs) (number_in (role_of_root meta tree.name tree.attrs) 0))
      (root_within tree.name tree.attrs)
      (nodes_within (role_of_root meta tree.name tree.attrs) tree.inner (inner_place 0 tree.attrs) (number_in (role_of_root meta tree.name tree.attrs) 0) (root_within tree.name tree.attrs))))

-- ---- the answer

pub data Answered (meta : MetaDesc) (outside : Externs) (bytes : List ℕ) : Type 0 where
  spells : (m : ModelData) → Spells meta outside bytes m → Answered meta outside bytes
  misspelled : (fault : TextFault) → markup.IsFirstFault bytes fault → Answered meta outside bytes
  refused : (fault : ModelFault) → IsRefused meta outside bytes fault → Answered meta outside bytes

of_filed : (meta : MetaDesc) (outside : Externs) (bytes : List ℕ) (f : Filed) → WellMeta meta → AreFiled meta outside bytes f → Answered meta outside bytes
of_filed meta outside bytes f well are = by (found meta f well whole)
  where
    whole : IsWhole meta f
    whole = record {
      source = source_of meta outside are.tree;
      writes = record { meta = refl; filed = are.filed; none_at = are.none_at };
      sound = are.sound;
      few = (let same = ap (λ (ids : List (List ℕ)). length ids) are.filed.ids in let few = are.fewer in omega (arith, same, few));
    }

    by : Found meta f → Answered meta outside bytes
    by (model m h) = spells m (spelled meta outside bytes f are m h)
    by (told fault h) =
        refused fault (record {
          tree = are.tree;
          markup = are.markup;
          first = h (source_of meta outside are.tree) (record { meta = refl; filed = are.filed; none_at = are.none_at });
        })

no_memory : (l : Listing) (n : Numbers) (f : Option ModelFault) → with_listing l (unless_told n f) ≡ Err errors.NoMemory → ⊥
no_memory l n None e = cc
no_memory l n (Some fault) e = cc

of_objects : (meta : MetaDesc) (outside : Externs) (bytes : List ℕ) → WellMeta meta → (r : Result Objects XmiError) → (r ≡ Err errors.NoMemory → ⊥) → ReadsObjects meta outside bytes r → Answered meta outside bytes
of_objects meta outside bytes well (Ok objects) some are =
    let f : Filed = filed_of meta objects.numbers objects.listing.elements in
    of_filed meta outside bytes f well (objects_are_filed meta outside bytes objects are f refl)
of_objects meta outside bytes well (Err (errors.Text fault)) some first = misspelled fault first
of_objects meta outside bytes well (Err (errors.Content fault)) some first = refused fault first
of_objects meta outside bytes well (Err errors.NoMemory) some first = absurd (some refl)

-- a file is a model, or a fault is told of it
pub answered : (meta : MetaDesc) (outside : Externs) (bytes : List ℕ) → WellMeta meta → Answered meta outside bytes
answered meta outside bytes well = by (end_fault_of bytes) refl
  where
    l : Listing
    l = listed meta outside nothing (told_marks (marks_of bytes))

    by : (o : Option TextFault) → end_fault_of bytes ≡ o → Answered meta outside bytes
    by (Some fault) e = misspelled fault (told_first bytes fault e)
    by None e =
        let whole : listing_of meta outside bytes ≡ Ok l = ap (λ (o : Option TextFault). unless_fault o l) e in
        let d : IsListed meta outside bytes l.elements = listed_bytes meta outside bytes l whole in
        let within : AreWithin meta l.elements = subst (AreWithin meta) (sym d.elements_are) (tree_within meta outside d.tree) in
        of_objects meta outside bytes well (judged_objects meta l) (no_memory l _ (fault_of meta l.elements)) (judged_reads meta outside bytes l whole within)
