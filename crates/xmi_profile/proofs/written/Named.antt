-- A source in which objects name their partners, but for container ends, writes the links of a model.
use Rattle.std.proofs.Common.{◌≡◌, ℕ, ◌≤◌, Bool, true, false, cond, List, [], ◌∷◌, length, refl, sym, ◌∙◌, ap, subst, arith, Option, None, Some, inl, inr}
use Rattle.std.specs.Prelude.{nat_eq, Contains}
use Rattle.std.specs.List.{list_any}
use Rattle.std.proofs.lemmas.Bool.{cases_lt, cond-true, true≢false}
use Rattle.mof_metamodel.specs.Metamodels.{prop_at, type_of, opposite_of}
use Rattle.mof_metamodel.specs.WellMeta.{AreOpposites}
use Rattle.mof_metamodel.proofs.PropLemmas.{prop_known}
use Rattle.object_tables.specs.Models.{ModelData, partners_at, values_at, is_class_type, IsLinked, IsReferenceOf}
use Rattle.object_tables.specs.Objects.{Object}
use Rattle.object_tables.specs.Validity.{Valid, IsPropertyOf, count_at}
use Rattle.object_tables.proofs.KeptLemmas.{sound_of, linked_reference}
use Rattle.model_assembly.specs.declared.form.Form.{Form}
use Rattle.model_assembly.specs.declared.form.Form.TheVariants as forms
use Rattle.model_assembly.specs.Forms.{is_one, is_composite, form_of}
use Rattle.model_assembly.specs.Links.{speaks, Names, IsPair, HasLinks}
use Rattle.model_assembly.specs.Profile.{object_props}
use Rattle.model_assembly.specs.Source.{Source, named_at}
use Rattle.mof_metamodel.proofs.Facts.{nothing_in}
use Rattle.xmi_profile.proofs.WritingForms.{class_typed, is_reference}
use Rattle.xmi_profile.proofs.WritingModels.{property_of}
use Rattle.xmi_profile.proofs.written.Linking.{from_any, to_any, few_rise}
use Rattle.xmi_profile.proofs.written.Ordering.{parts_composite}

abbrev pub has_item : List ℕ → Bool
has_item [] = false
has_item (b ∷ bs) = true

-- the partners that an object names at a reference of this form
abbrev pub partners_by : ModelData → ℕ → ℕ → Form → List ℕ
partners_by m a p forms.Identifiers = partners_at m a p
partners_by m a p forms.Parts = partners_at m a p
partners_by m a p forms.Nesting = []
partners_by m a p forms.Attribute = []
partners_by m a p forms.Elements = []

module _ (s : Source) (objects : List (Option Object)) where
  abbrev model : ModelData
  model = record { meta = s.meta; objects = objects }

  pub record NamesPartners : Type 0 where
    pub namer : (q a b : ℕ) → Names s q a b → Contains (object_props model a) q
    pub named : (a p : ℕ) → IsReferenceOf model a p → named_at s a p ≡ partners_by model a p (form_of s.meta p)
    pub speaking : (a p : ℕ) → IsReferenceOf model a p → speaks s a p ≡ has_item (partners_by model a p (form_of s.meta p))

  module _ (v : Valid model) (w : NamesPartners) where
    no_reference : (p : ℕ) (f : Form) → form_of s.meta p ≡ f → is_class_type (type_of s.meta p) ≡ true → is_reference f ≡ false → ⊥
    no_reference p f e t h = true≢false (sym t ∙ class_typed s.meta p f e ∙ h)

    from_partners : (a p b : ℕ) (f : Form) → Contains (partners_by model a p f) b → IsLinked model p a b
    from_partners a p b forms.Identifiers c = c
    from_partners a p b forms.Parts c = c
    from_partners a p b forms.Nesting c = absurd (nothing_in b c)
    from_partners a p b forms.Attribute c = absurd (nothing_in b c)
    from_partners a p b forms.Elements c = absurd (nothing_in b c)

    reference_at : (a p : ℕ) → Contains (object_props model a) p → is_class_type (type_of s.meta p) ≡ true → IsReferenceOf model a p
    reference_at a p has t = let r : IsPropertyOf model a p = property_of model v.kept a p has in record { class = r.class; class_is = r.class_is; has = r.has; reference = t }

    -- what is named is linked
    names_linked : (p a b : ℕ) → is_class_type (type_of s.meta p) ≡ true → Names s p a b → IsLinked model p a b
    names_linked p a b t h =
        let r : IsReferenceOf model a p = reference_at a p (w.namer p a b h) t in
        from_partners a p b (form_of s.meta p) (subst (λ (xs : List ℕ). Contains xs b) (w.named a p r) (from_any b (named_at s a p) h))

    -- where links are written, what is linked is named
    linked_named : (p a b : ℕ) → IsReferenceOf model a p → partners_by model a p (form_of s.meta p) ≡ partners_at model a p → IsLinked model p a b → Names s p a b
    linked_named p a b r e h = ap (list_any (nat_eq b)) (w.named a p r ∙ e) ∙ to_any b (partners_at model a p) h

    opposites_at : (a p q : ℕ) → IsReferenceOf model a p → opposite_of s.meta p ≡ Some q → AreOpposites s.meta p q
    opposites_at a p q r e = v.kept.well.opposites p q (prop_known s.meta r.class p r.has) e

    record IsNested (p : ℕ) : Type 0 where
      opposite : ℕ
      opposite_is : opposite_of s.meta p ≡ Some opposite
      composite : (prop_at s.meta opposite).composite ≡ true

    nested : (p : ℕ) → form_of s.meta p ≡ forms.Nesting → IsNested p
    nested p e =
        by (opposite_of s.meta p) refl (of_form (is_class_type (type_of s.meta p)) (prop_at s.meta p).composite (is_composite s.meta (opposite_of s.meta p)) (is_one (prop_at s.meta p).upper) e)
      where
        of_form : (t c q u : Bool) → cond t (cond c forms.Parts (cond q forms.Nesting forms.Identifiers)) (cond u forms.Attribute forms.Elements) ≡ forms.Nesting → q ≡ true
        of_form true true q u h = absurd cc
        of_form true false true u h = refl
        of_form true false false u h = absurd cc
        of_form false c q true h = absurd cc
        of_form false c q false h = absurd cc

        by : (o : Option ℕ) → opposite_of s.meta p ≡ o → is_composite s.meta o ≡ true → IsNested p
        by None e h = absurd cc
        by (Some q) e h = record { opposite = q; opposite_is = e; composite = h }

    -- an object has at most one container at a container end
    one_container : (a p : ℕ) → IsReferenceOf model a p → form_of s.meta p ≡ forms.Nesting → length (partners_at model a p) ≤ 1
    one_container a p r e =
        let n : IsNested p = nested p e in
        let upper : (prop_at s.meta p).upper ≡ Some 1 = (opposites_at a p n.opposite r n.opposite_is).single n.composite in
        let count : count_at model a p ≡ length (partners_at model a p) = cond-true (is_class_type (type_of s.meta p)) (length (partners_at model a p)) (length (values_at model a p)) r.reference in
        elim (cases_lt 1 (length (partners_at model a p))) [
          | inl many ↦ absurd ((v.bounds a p).upper (record {
            property = record { class = r.class; class_is = r.class_is; has = r.has };
            bound = 1;
            bound_is = upper;
            above = omega (arith, many, count);
          }))
          | inr few ↦ few
        ]

    few_items : (bs : List ℕ) → has_item bs ≡ false → length bs ≤ 1
    few_items [] h = omega arith
    few_items (b ∷ bs) h = absurd (true≢false h)

    -- the links of the model are those that are written
    pub links_written : (a p : ℕ) → IsReferenceOf model a p → HasLinks s model a p
    links_written a p r = record {
      all = λ b pair. elim pair [
        | inl named ↦ names_linked p a b r.reference named
        | inr back_named ↦ (
            let (q, opposite, named) = back_named in
            (v.kept.opposites p q a b opposite).1 (names_linked q b a (ap is_class_type (opposites_at a p q r opposite).back_type) named)
            )
      ];
      only = λ b link. only b link (form_of s.meta p) refl;
      order = ((λ speaking. spoken speaking (form_of s.meta p) refl), (λ silent. few_rise (partners_at model a p) (unspoken silent (form_of s.meta p) refl)));
    }
      where
        only : (b : ℕ) → IsLinked model p a b → (f : Form) → form_of s.meta p ≡ f → IsPair s p a b
        only b link forms.Identifiers e = inl (linked_named p a b r (ap (partners_by model a p) e) link)
        only b link forms.Parts e = inl (linked_named p a b r (ap (partners_by model a p) e) link)
        only b link forms.Nesting e =
            let n : IsNested p = nested p e in
            let q : ℕ = n.opposite in
            let t : is_class_type (type_of s.meta q) ≡ true = ap is_class_type (opposites_at a p q r n.opposite_is).back_type in
            let up : IsLinked model q b a = (v.kept.opposites p q a b n.opposite_is).0 link in
            let whole : IsReferenceOf model b q = linked_reference model q b a (sound_of model v.kept) up in
            inr (q, n.opposite_is, linked_named q b a whole (ap (partners_by model b q) (parts_composite model v.kept q t n.composite)) up)
        only b link forms.Attribute e = absurd (no_reference p forms.Attribute e r.reference refl)
        only b link forms.Elements e = absurd (no_reference p forms.Elements e r.reference refl)

        told : (f : Form) → form_of s.meta p ≡ f → speaks s a p ≡ has_item (partners_by model a p f)
        told f e = w.speaking a p r ∙ ap (λ (g : Form). has_item (partners_by model a p g)) e

        spoken : speaks s a p ≡ true → (f : Form) → form_of s.meta p ≡ f → partners_at model a p ≡ named_at s a p
        spoken speaking forms.Identifiers e = sym (w.named a p r ∙ ap (partners_by model a p) e)
        spoken speaking forms.Parts e = sym (w.named a p r ∙ ap (partners_by model a p) e)
        spoken speaking forms.Nesting e = absurd (true≢false (sym speaking ∙ told forms.Nesting e))
        spoken speaking forms.Attribute e = absurd (no_reference p forms.Attribute e r.reference refl)
        spoken speaking forms.Elements e = absurd (no_reference p forms.Elements e r.reference refl)

        unspoken : speaks s a p ≡ false → (f : Form) → form_of s.meta p ≡ f → length (partners_at model a p) ≤ 1
        unspoken silent forms.Identifiers e = few_items (partners_at model a p) (sym (told forms.Identifiers e) ∙ silent)
        unspoken silent forms.Parts e = few_items (partners_at model a p) (sym (told forms.Parts e) ∙ silent)
        unspoken silent forms.Nesting e = one_container a p r e
        unspoken silent forms.Attribute e = absurd (no_reference p forms.Attribute e r.reference refl)
        unspoken silent forms.Elements e = absurd (no_reference p forms.Elements e r.reference refl)
