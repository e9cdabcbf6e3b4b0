-- The names that a model is written with are read as the classes and properties that they are of, and as none of XMI's own.
use Rattle.std.proofs.Common.{◌≡◌, ℕ, ◌<◌, Bool, true, false, List, [], ◌∷◌, refl, sym, ◌∙◌, ap, ap₂, Option, None, Some, codes}
use Rattle.std.specs.Prelude.{◌==◌, ◌&&◌, ◌||◌, not, Contains}
use Rattle.std.specs.List.{list_all}
use Rattle.std.proofs.lemmas.Bool.{and_parts, eqb-true, true≢false, cond-false}
use Rattle.mof_metamodel.specs.declared.desc.MetaDesc.{MetaDesc}
use Rattle.mof_metamodel.specs.declared.desc.PropId.{PropId}
use Rattle.mof_metamodel.specs.Characters.{same_name}
use Rattle.mof_metamodel.specs.Members.{HasNoPropNamed, IsPropNamed}
use Rattle.mof_metamodel.specs.Metamodels.{class_count, class_at, class_number, no_class, props_of, prop_count, prop_number}
use Rattle.mof_metamodel.specs.WellMeta.{WellMeta, is_name_character, is_prop_name, is_name as is_meta_name}
use Rattle.mof_metamodel.proofs.MetaLaws.{has_exactly, prop_named}
use Rattle.mof_metamodel.proofs.PropLemmas.{prop_known}
use Rattle.mof_metamodel.proofs.SearchLemmas.{same_true, position_alone}
use Rattle.xmi_text.specs.Markup.{begins}
use Rattle.model_assembly.specs.Attributes.{is_document_name, is_skipped_name, is_alien_name, is_id_name, is_type_name, is_idref_name, is_nil_name}
use Rattle.model_assembly.specs.Elements.{concrete, concrete_class}
use Rattle.model_assembly.specs.Profile.{prop_name, class_name}

-- ---- classes and properties

module _ (meta : MetaDesc) (well : WellMeta meta) where
  class_found : (c : ℕ) → c < class_count meta → class_number meta (class_name meta c) ≡ Some c
  class_found c l = position_alone (λ d. d.name) meta.classes c no_class l (λ k lk same. well.distinct.classes k c lk l same)

  pub class_read : (c : ℕ) → c < class_count meta → (class_at meta c).is_abstract ≡ false → concrete_class meta (class_name meta c) ≡ Some c
  class_read c l concrete_is = ap (concrete meta) (class_found c l) ∙ cond-false (class_at meta c).is_abstract None (Some c) concrete_is

  pub prop_read : (c p : ℕ) → c < class_count meta → Contains (props_of meta c) p → prop_number meta c (prop_name meta p) ≡ Some p
  prop_read c p l has = by (prop_number meta c (prop_name meta p)) refl
    where
      number : ℕ → PropId
      number q = record { 0 = q }

      by : (o : Option ℕ) → prop_number meta c (prop_name meta p) ≡ o → o ≡ Some p
      by None e =
          let none : HasNoPropNamed meta c (prop_name meta p) = prop_named meta c (prop_name meta p) None (sym e) in
          absurd (none p has refl)
      by (Some q) e =
          let found : IsPropNamed meta c (prop_name meta p) (number q) = prop_named meta c (prop_name meta p) (Some (number q)) (sym e) in
          let lp : p < prop_count meta = prop_known meta c p has in
          let lq : q < prop_count meta = prop_known meta c q found.has in
          ap Some (well.distinct.props c q p l lq lp ((has_exactly meta c l q lq).0 found.has) ((has_exactly meta c l p lp).0 has) found.named)

-- ---- names of properties are none of XMI's

-- all characters of a name may stand in one
characters_of : (name : List ℕ) → is_prop_name name ≡ true → list_all is_name_character name ≡ true
characters_of name h = (and_parts _ (list_all is_name_character name) (and_parts (is_meta_name name) _ h).0).1

begun_with : (part name : List ℕ) → begins part name ≡ true → list_all is_name_character name ≡ true → list_all is_name_character part ≡ true
begun_with [] name b h = refl
begun_with (p ∷ part) [] b h = absurd cc
begun_with (p ∷ part) (x ∷ name) b h =
    let first = and_parts (p == x) (begins part name) b in
    let all = and_parts (is_name_character x) (list_all is_name_character name) h in
    ap₂ (λ s t. s && t) (ap is_name_character (eqb-true p x first.0) ∙ all.0) (begun_with part name first.1 all.1)

not_begun : (part name : List ℕ) → list_all is_name_character part ≡ false → is_prop_name name ≡ true → begins part name ≡ false
not_begun part name bad h = by (begins part name) refl
  where
    by : (t : Bool) → begins part name ≡ t → t ≡ false
    by true e = absurd (true≢false (sym (begun_with part name e (characters_of name h)) ∙ bad))
    by false e = refl

not_named : (name other : List ℕ) → list_all is_name_character other ≡ false → is_prop_name name ≡ true → same_name name other ≡ false
not_named name other bad h = by (same_name name other) refl
  where
    by : (t : Bool) → same_name name other ≡ t → t ≡ false
    by true e = absurd (true≢false (sym (characters_of name h) ∙ ap (list_all is_name_character) (same_true name other e) ∙ bad))
    by false e = refl

pub prop_not_skipped : (name : List ℕ) → is_prop_name name ≡ true → is_skipped_name name ≡ false
prop_not_skipped name h = ap₂ (λ s t. s || t) (not_named name (codes "xmi:Extension") refl h) (not_named name (codes "xmi:Documentation") refl h)

pub prop_not_alien : (name : List ℕ) → is_prop_name name ≡ true → is_alien_name name ≡ false
prop_not_alien name h = ap (λ t. t && not (is_document_name name || is_skipped_name name)) (not_begun (codes "xmi:") name refl h)

pub prop_not_id : (name : List ℕ) → is_prop_name name ≡ true → is_id_name name ≡ false
prop_not_id name h = not_named name (codes "xmi:id") refl h

pub prop_not_type : (name : List ℕ) → is_prop_name name ≡ true → is_type_name name ≡ false
prop_not_type name h = ap₂ (λ s t. s || t) (not_named name (codes "xmi:type") refl h) (not_named name (codes "xsi:type") refl h)

pub prop_not_idref : (name : List ℕ) → is_prop_name name ≡ true → is_idref_name name ≡ false
prop_not_idref name h = not_named name (codes "xmi:idref") refl h

pub prop_not_nil : (name : List ℕ) → is_prop_name name ≡ true → is_nil_name name ≡ false
prop_not_nil name h = not_named name (codes "xsi:nil") refl h
