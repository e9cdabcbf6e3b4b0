-- The links of a model that was made of what a file names are the pairs of each source that writes it.
use Rattle.std.proofs.Common.{◌≡◌, ◌⊎◌, ℕ, ◌<◌, Bool, true, List, length, refl, sym, ◌∙◌, ap, arith, subst, Option, None, Some, inl, inr, true≢false}
use Rattle.std.specs.Prelude.{◌==◌, Contains}
use Rattle.std.specs.List.{list_any}
use Rattle.std.specs.Cmp.{both_ways}
use Rattle.std.proofs.lemmas.Bool.{eqb-true, and_parts, or_cases, or_left, or_right}
use Rattle.mof_metamodel.specs.declared.desc.MetaDesc.{MetaDesc}
use Rattle.mof_metamodel.specs.Metamodels.{opposite_of, type_of}
use Rattle.object_tables.specs.Models.{ModelData, IsLinked, is_class_type}
use Rattle.object_tables.proofs.InheritLemmas.{pair_of_opposites}
use Rattle.model_assembly.specs.declared.filed.Filed.{Filed}
use Rattle.model_assembly.specs.declared.filed.Mention.{Mention}
use Rattle.model_assembly.specs.declared.filed.WrittenReference.{WrittenReference}
use Rattle.model_assembly.specs.declared.assembly.entry.Entry.{Entry}
use Rattle.model_assembly.specs.declared.assembly.naming.Naming.{Naming}
use Rattle.model_assembly.specs.AssemblyEntries.{entry_at}
use Rattle.model_assembly.specs.AssemblyFirsts.{same_naming, same_saying}
use Rattle.model_assembly.specs.AssemblyLinks.{IsLinkedTo, is_back, is_pair_of}
use Rattle.model_assembly.specs.AssemblyNamings.{naming, saying, naming_of, sayings_of, at}
use Rattle.model_assembly.specs.Filed.{IsReferenceIn}
use Rattle.model_assembly.specs.Links.{speaks, NamesBack, IsPair}
use Rattle.model_assembly.specs.Source.{Source, is_at, names}
use Rattle.model_assembly.proofs.assembling.LinkLaws.{partner_is, is_partner, same_parts}
use Rattle.model_assembly.proofs.assembling.ListLaws.{any_contains, get_some}
use Rattle.mof_metamodel.proofs.Facts.{contains_at}
use Rattle.model_assembly.proofs.assembling.MismatchLaws.{sayings_told, speaks_listed}
use Rattle.model_assembly.proofs.assembling.NameLaws.{names_listed, naming_found, naming_there, same_itself}
use Rattle.model_assembly.proofs.assembling.NamedPlaces.{names_reference, speaks_reference}
use Rattle.model_assembly.proofs.assembling.PartLaws.{AreNamings, naming_at, naming_count}
use Rattle.model_assembly.proofs.assembling.SpotLaws.{reference_sourced, entry_good}

-- ---- members of the list

at_member : (xs : List Naming) (n : Naming) (c : Contains xs n) → at xs c.0 ≡ n
at_member xs n c = Rattle.std.proofs.lemmas.List.get_or_default xs c.0 (naming 0 0 0) n c.1 ∙ c.2

member_at : (xs : List Naming) (j : ℕ) → j < length xs → Contains xs (at xs j)
member_at xs j l = contains_at xs j (at xs j) (get_some xs j (naming 0 0 0) l)

module _ (s : Source) (f : Filed) (es : List Entry) (xs : List Naming) (named : AreNamings s f es xs) where
  -- a naming stands at a reference of its object's class
  pub naming_reference : (n : Naming) → Contains xs n → IsReferenceIn s n.object n.property
  naming_reference n c =
      let e : Entry = entry_at es c.0 in
      let same : naming_of e ≡ n = sym (naming_at s f es xs named c.0) ∙ at_member xs n c in
      let within = c.1 in
      let count = naming_count s f es xs named in
      let good = entry_good s f es named.entries c.0 (omega (arith, within, count)) in
      subst (λ (m : Naming). IsReferenceIn s m.object m.property) same
      (reference_sourced s f named.entries.filed named.entries.counted e.object e.property.0 good.reference)

  -- ---- what the lists say at every property of a class type

  pub names_everywhere : (o p b : ℕ) → is_class_type (type_of s.meta p) ≡ true → names s o p b ≡ list_any (same_naming (naming o p b)) xs
  names_everywhere o p b t = both_ways (names s o p b) (list_any (same_naming (naming o p b)) xs) there back
    where
      there : names s o p b ≡ true → list_any (same_naming (naming o p b)) xs ≡ true
      there h = sym (names_listed s f es xs named o p b (names_reference s o p b t h)) ∙ h

      back : list_any (same_naming (naming o p b)) xs ≡ true → names s o p b ≡ true
      back h = names_listed s f es xs named o p b (naming_reference (naming o p b) (naming_found (naming o p b) xs h)) ∙ h

  pub speaks_everywhere : (o p : ℕ) → is_class_type (type_of s.meta p) ≡ true → speaks s o p ≡ list_any (same_saying (saying o p)) (sayings_of xs f.mentions)
  speaks_everywhere o p t = both_ways (speaks s o p) (list_any (same_saying (saying o p)) (sayings_of xs f.mentions)) there back
    where
      there : speaks s o p ≡ true → list_any (same_saying (saying o p)) (sayings_of xs f.mentions) ≡ true
      there h = sym (speaks_listed s f es xs named o p (speaks_reference s o p t h)) ∙ h

      by_reference : WrittenReference → Bool
      by_reference r = is_at o p r.object r.property.0

      of_mention : Mention → Bool
      of_mention m = is_at o p m.object m.property.0

      here : (object property : ℕ) → is_at o p object property ≡ true → IsReferenceIn s object property → IsReferenceIn s o p
      here object property e r =
          let parts = and_parts (object == o) (property == p) e in
          subst (λ (q : ℕ). IsReferenceIn s o q) (eqb-true property p parts.1)
          (subst (λ (a : ℕ). IsReferenceIn s a property) (eqb-true object o parts.0) r)

      said : (list_any by_reference f.references ≡ true) ⊎ (list_any of_mention f.mentions ≡ true) → IsReferenceIn s o p
      said (inl h) = let w = any_contains by_reference f.references h in here w.0.object w.0.property.0 w.2 (named.entries.filed.reference_place w.0 w.1)
      said (inr h) = let w = any_contains of_mention f.mentions h in here w.0.object w.0.property.0 w.2 (named.entries.filed.mention_place w.0 w.1)

      back : list_any (same_saying (saying o p)) (sayings_of xs f.mentions) ≡ true → speaks s o p ≡ true
      back h = speaks_listed s f es xs named o p (said (or_cases _ _ (sym (sayings_told s f es xs named o p) ∙ h))) ∙ h

  -- ---- links

  naming_named : (n : Naming) → Contains xs n → names s n.object n.property n.target ≡ true
  naming_named n c = names_listed s f es xs named n.object n.property n.target (naming_reference n c) ∙ naming_there n xs c

  module _ (start m : ModelData) (same_meta : start.meta ≡ s.meta) (h : IsLinkedTo start xs (length xs) m) (a p : ℕ) (t : is_class_type (type_of s.meta p) ≡ true) where
    pair_there : (n o : Naming) → Contains xs n → is_pair_of start.meta n o ≡ true → IsLinked m o.property o.object o.target
    pair_there n o c e = partner_is m o (h.all c.0 o c.1 (ap (λ (z : Naming). is_pair_of start.meta z o) (at_member xs n c) ∙ e))

    -- the pairs of the source are linked
    pub pairs_linked : (b : ℕ) → IsPair s p a b → IsLinked m p a b
    pairs_linked b (inl e) =
        let n : Naming = naming a p b in
        pair_there n n (naming_found n xs (sym (names_everywhere a p b t) ∙ e)) (or_left _ _ (same_itself n))
    pairs_linked b (inr (q, o, e)) =
        let pair = pair_of_opposites s.meta p q named.well o in
        let n : Naming = naming b q a in
        let back : opposite_of start.meta q ≡ Some p = ap (λ (d : MetaDesc). opposite_of d q) same_meta ∙ pair.back in
        pair_there n (naming a p b) (naming_found n xs (sym (names_everywhere b q a pair.far_class) ∙ e))
        (or_right _ _ (ap (is_back n (naming a p b)) back ∙ same_itself (naming a p b)))

    -- and nothing else is
    pub linked_pairs : (b : ℕ) → IsLinked m p a b → IsPair s p a b
    linked_pairs b l = by (or_cases (same_naming n (naming a p b)) (is_back n (naming a p b) (opposite_of start.meta n.property)) found.2)
      where
        found : (j : ℕ) × (j < length xs) × (is_pair_of start.meta (at xs j) (naming a p b) ≡ true)
        found = h.known (naming a p b) (is_partner m (naming a p b) l)

        n : Naming
        n = at xs found.0

        there : names s n.object n.property n.target ≡ true
        there = naming_named n (member_at xs found.0 found.1)

        over : (x : Option ℕ) → opposite_of start.meta n.property ≡ x → is_back n (naming a p b) x ≡ true → NamesBack s p a b
        over None o e = absurd (true≢false (sym e))
        over (Some r) o e =
            let same = same_parts r n.target n.object (naming a p b) e in
            let near : opposite_of s.meta n.property ≡ Some r = ap (λ (d : MetaDesc). opposite_of d n.property) (sym same_meta) ∙ o in
            let pair = pair_of_opposites s.meta n.property r named.well near in
            (n.property, ap (opposite_of s.meta) same.0 ∙ pair.back, (λ i. names s (same.2 i) n.property (same.1 i)) ∙ there)

        by : (same_naming n (naming a p b) ≡ true) ⊎ (is_back n (naming a p b) (opposite_of start.meta n.property) ≡ true) → IsPair s p a b
        by (inl e) =
            let same = same_parts n.property n.object n.target (naming a p b) e in
            inl ((λ i. names s (same.1 i) (same.0 i) (same.2 i)) ∙ there)
        by (inr e) = inr (over (opposite_of start.meta n.property) refl e)
