-- A model that is the same as another one holds what that holds, objects under their other numbers.
use Rattle.std.specs.Prelude.{◌≡◌, ℕ, Bool, true, false, List, [], ◌∷◌, map, length, Option, None, Some, Contains, if◌then◌else◌}
use Rattle.std.specs.List.{list_any}
use Rattle.std.proofs.Common.{refl, ap, sym, ◌∙◌, subst, arith, inl, inr, true≢false}
use Rattle.mof_metamodel.specs.declared.desc.MetaDesc.{MetaDesc}
use Rattle.mof_metamodel.specs.Metamodels.{type_of}
use Rattle.object_tables.specs.Models.{ModelData, class_at, is_class_type, values_at, partners_at, IsLive}
use Rattle.object_tables.specs.Validity.{Valid, IsPropertyOf}
use Rattle.object_tables.specs.Sameness.{IsSame}
use Rattle.mof_metamodel.proofs.Facts.{contains_map}
use Rattle.object_tables.proofs.ModelLemmas.{live_from_class}
use Rattle.template_match.proofs.ListLaws.{any_from}
use Rattle.qv_syntax.specs.declared.program.Program.{Program}
use Rattle.qvtr_semantics.specs.declared.datum.Datum.{Datum}
use Rattle.qvtr_semantics.specs.Objects.{value_datum, conforms_if, conforms_at}
use Rattle.repair_semantics.specs.TargetItems.{target_meta_number}
use Rattle.repair_semantics.specs.Claims.{Held, same_held}
use Rattle.repair_semantics.specs.Images.{same_number, held_in, holds}
use Rattle.reading_laws.proofs.HeldLaws.{held_same, held_count, counted_at}
use Rattle.repair_laws.proofs.ClaimLaws.{held_there}

-- what a slot holds, an object under another number
abbrev pub moved : (ℕ → ℕ) → Held ℕ → Held ℕ
moved f (Held.datum d) = Held.datum d
moved f (Held.object o) = Held.object (f o)

moved_numbers : (f : ℕ → ℕ) (ns : List ℕ) → map (λ k. Held.object k) (map f ns) ≡ map (moved f) (map (λ k. Held.object k) ns)
moved_numbers f [] = refl
moved_numbers f (n ∷ ns) = ap (λ xs. Held.object (f n) ∷ xs) (moved_numbers f ns)

unmoved_data : {X : Type 0} (f : ℕ → ℕ) (g : X → Datum) (vs : List X) → map (λ v. Held.datum (g v)) vs ≡ map (moved f) (map (λ v. Held.datum (g v)) vs)
unmoved_data f g [] = refl
unmoved_data f g (v ∷ vs) = ap (λ xs. Held.datum (g v) ∷ xs) (unmoved_data f g vs)

pub held_found : (h : Held ℕ) (hs : List (Held ℕ)) → list_any (same_held same_number h) hs ≡ true → Contains hs h
held_found h hs is = let found = any_from (same_held same_number h) hs is in subst (λ x. Contains hs x) (sym (held_same h found.0 found.2)) found.1

none_in : {X : Type 0} (xs : List X) (x : X) → length xs ≡ 0 → Contains xs x → ⊥
none_in xs x none (k, within, is) = omega (arith, none, within)

module _ (program : Program) (m n : ModelData) (same : IsSame m n) (valid : Valid m) (valid_there : Valid n) where
  abbrev to : ℕ → ℕ
  to = same.image

  abbrev from : ℕ → ℕ
  from = same.origin

  live_at : (k : ModelData) (o class : ℕ) → class_at k o ≡ Some class → IsLive k o
  live_at k o class is = live_from_class k o class is

  -- ---- classes

  pub class_moved : (o class : ℕ) → class_at m o ≡ Some class → class_at n (to o) ≡ Some class
  class_moved o class is = same.classes o (live_at m o class is) ∙ is

  conforming_class : (k : ModelData) (class o : ℕ) → conforms_at k class o ≡ true → (own : ℕ) × (class_at k o ≡ Some own)
  conforming_class k class o h = by (class_at k o) h
    where
      by : (x : Option ℕ) → conforms_if k.meta class x ≡ true → (own : ℕ) × (x ≡ Some own)
      by None e = absurd (true≢false (sym e))
      by (Some c) e = (c, refl)

  pub conforming_is_live : (k : ModelData) (class o : ℕ) → conforms_at k class o ≡ true → IsLive k o
  conforming_is_live k class o h = let own = conforming_class k class o h in live_at k o own.0 own.1

  pub conforms_moved : (class o : ℕ) → conforms_at m class o ≡ true → conforms_at n class (to o) ≡ true
  conforms_moved class o h =
      ap (λ (d : MetaDesc). conforms_if d class (class_at n (to o))) same.meta ∙ ap (conforms_if m.meta class) (same.classes o (conforming_is_live m class o h)) ∙ h

  pub conforms_back : (class k : ℕ) → conforms_at n class k ≡ true → conforms_at m class (from k) ≡ true
  conforms_back class k h =
      let live : IsLive n k = conforming_is_live n class k h in
      let class_is : class_at n k ≡ class_at m (from k) = ap (class_at n) (sym (same.bijection.there k live)) ∙ same.classes (from k) (same.bijection.covered k live) in
      ap (λ (d : MetaDesc). conforms_if d class (class_at m (from k))) (sym same.meta) ∙ ap (conforms_if n.meta class) (sym class_is) ∙ h

  pub to_from : (class k : ℕ) → conforms_at n class k ≡ true → to (from k) ≡ k
  to_from class k h = same.bijection.there k (conforming_is_live n class k h)

  pub from_to : (class o : ℕ) → conforms_at m class o ≡ true → from (to o) ≡ o
  from_to class o h = same.bijection.back o (conforming_is_live m class o h)

  -- ---- what is held

  pub held_in_moved : (o p : ℕ) → IsPropertyOf m o p → held_in program n (to o) p ≡ map (moved to) (held_in program m o p)
  held_in_moved o p property =
      ap (λ (d : MetaDesc). if is_class_type (type_of d p) then map (λ b. Held.object b) (partners_at n (to o) p) else map (λ v. Held.datum (value_datum (target_meta_number program) v)) (values_at n (to o) p))
      same.meta ∙ by (is_class_type (type_of m.meta p)) refl
    where
      by : (c : Bool) → is_class_type (type_of m.meta p) ≡ c
          → (if c then map (λ b. Held.object b) (partners_at n (to o) p) else map (λ v. Held.datum (value_datum (target_meta_number program) v)) (values_at n (to o) p))
          ≡ map (moved to) (if c then map (λ b. Held.object b) (partners_at m o p) else map (λ v. Held.datum (value_datum (target_meta_number program) v)) (values_at m o p))
      by true reference =
          ap (map (λ b. Held.object b)) (same.partners o p (record { class = property.class; class_is = property.class_is; has = property.has; reference = reference }))
          ∙ moved_numbers to (partners_at m o p)
      by false attribute =
          ap (map (λ v. Held.datum (value_datum (target_meta_number program) v)))
          (same.values o p (record { class = property.class; class_is = property.class_is; has = property.has; attribute = attribute }))
          ∙ unmoved_data to (value_datum (target_meta_number program)) (values_at m o p)

  holding_property : (k : ModelData) → Valid k → (o p : ℕ) (h : Held ℕ) → Contains (held_in program k o p) h → IsPropertyOf k o p
  holding_property k kept o p h has = elim (counted_at k o p (λ ob is. (kept.kept.objects o ob is).slots)) [
    | inl property ↦ property
    | inr none ↦ absurd (none_in (held_in program k o p) h (held_count program k o p ∙ none) has)
  ]

  pub holds_moved : (o p : ℕ) (h : Held ℕ) → holds program m o p h ≡ true → holds program n (to o) p (moved to h) ≡ true
  holds_moved o p h held =
      let has : Contains (held_in program m o p) h = held_found h (held_in program m o p) held in
      held_there (moved to h) (held_in program n (to o) p)
      (subst (λ xs. Contains xs (moved to h)) (sym (held_in_moved o p (holding_property m valid o p h has))) (contains_map (moved to) (held_in program m o p) h has))
