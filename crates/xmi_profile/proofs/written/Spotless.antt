-- No fault of references stands in a source that writes the links of a model.
use Rattle.std.proofs.Common.{◌≡◌, ℕ, zero, suc, true, false, List, [], ◌∷◌, refl, sym, ◌∙◌, ap, subst, Option, None, Some, inl, inr}
use Rattle.std.specs.Prelude.{nat_eq, Contains, slice_get}
use Rattle.std.specs.List.{list_any}
use Rattle.std.specs.Option.{unwrap_or}
use Rattle.std.proofs.lemmas.Bool.{true≢false}
use Rattle.mof_metamodel.specs.Metamodels.{props_of}
use Rattle.object_tables.specs.Kept.{Kept}
use Rattle.object_tables.specs.Models.{ModelData, class_at, partners_at, IsLinked, IsReferenceOf, IsPartnerFor, IsContainedIn}
use Rattle.object_tables.specs.Objects.{Object}
use Rattle.object_tables.proofs.KeptLemmas.{sound_of, linked_reference}
use Rattle.model_assembly.specs.declared.fault.ModelFault.{ModelFault}
use Rattle.model_assembly.specs.declared.fault.ModelFault.TheVariants as faults
use Rattle.model_assembly.specs.Faults.{Spot, IsWritten, IsDangling, IsPartWritten, IsContainedTwice, IsMismatch, StandsBy}
use Rattle.model_assembly.specs.Links.{HasLinks}
use Rattle.model_assembly.specs.Profile.{props_or_none}
use Rattle.model_assembly.specs.declared.target.Target.{Target}
use Rattle.model_assembly.specs.Source.{Source, class_of, targets_at, target_number, named_at}
use Rattle.model_assembly.proofs.assembling.ListLaws.{contains_tail}
use Rattle.mof_metamodel.proofs.Facts.{contains_first}
use Rattle.xmi_profile.proofs.written.Linking.{to_any}
use Rattle.mof_metamodel.proofs.Facts.{contains_at}

module _ (s : Source) (objects : List (Option Object)) where
  abbrev pub model : ModelData
  model = record { meta = s.meta; objects = objects }

  -- what stands at a reference names a partner
  pub record IsTold (a p : ℕ) (target : Target) : Type 0 where
    pub object : ℕ
    pub number_is : target_number s target ≡ Some object
    pub linked : IsLinked model p a object

  pub record WritesLinks : Type 0 where
    pub classes : (o : ℕ) → class_of s o ≡ class_at model o
    pub told : (a p : ℕ) (target : Target) → IsReferenceOf model a p → Contains (targets_at s a p) target → IsTold a p target
    pub links : (a p : ℕ) → IsReferenceOf model a p → HasLinks s model a p

  module _ (k : Kept model) (w : WritesLinks) where
    writer : (spot : Spot) (p : ℕ) (target : Target) → IsWritten s spot p target → IsReferenceOf model spot.object p
    writer spot p target x = by (class_of s spot.object) refl x.property
      where
        by : (c : Option ℕ) → class_of s spot.object ≡ c → slice_get (props_or_none s.meta c) spot.property ≡ Some p → IsReferenceOf model spot.object p
        by None e at = absurd cc
        by (Some c) e at = record { class = c; class_is = sym (w.classes spot.object) ∙ e; has = contains_at (props_of s.meta c) spot.property p at; reference = x.reference }

    told_at : (spot : Spot) (p : ℕ) (target : Target) → IsWritten s spot p target → IsTold spot.object p target
    told_at spot p target x = w.told spot.object p target (writer spot p target x) (contains_at (targets_at s spot.object p) spot.target target x.target_is)

    no_dangling : (spot : Spot) (id prop reference : List ℕ) → IsDangling s spot id prop reference → ⊥
    no_dangling spot id prop reference d =
        let t : IsTold spot.object d.p d.target = told_at spot d.p d.target d.written in
        let partner : IsPartnerFor model d.p t.object = (k.references spot.object d.p (writer spot d.p d.target d.written)).partners t.object t.linked in
        d.nothing t.object (record { number = t.number_is; class = partner.class; class_is = w.classes t.object ∙ partner.class_is; conforms = partner.conforms })

    -- what is written is linked
    written_linked : (spot : Spot) (p : ℕ) (target : Target) (c : ℕ) → IsWritten s spot p target → target_number s target ≡ Some c → IsLinked model p spot.object c
    written_linked spot p target c x e =
        let t : IsTold spot.object p target = told_at spot p target x in
        let same : t.object ≡ c = ap (λ o. unwrap_or o c) (sym t.number_is ∙ e) in
        subst (λ (b : ℕ). IsLinked model p spot.object b) same t.linked

    part_contained : (spot : Spot) (a b p : ℕ) → IsPartWritten s spot a b p → IsContainedIn model b a p
    part_contained spot a b p x = record {
      composite = x.composite;
      linked = elim x.part [
        | inl here ↦ (
            let link : IsLinked model x.r spot.object x.c = written_linked spot x.r x.target x.c x.written x.named in
            subst (λ (y : ℕ). IsLinked model y a b) here.0 (subst (λ (y : ℕ). IsLinked model x.r y b) here.1 (subst (λ (y : ℕ). IsLinked model x.r spot.object y) here.2 link))
            )
        | inr back ↦ (
            let link : IsLinked model x.r spot.object x.c = written_linked spot x.r x.target x.c x.written x.named in
            (k.opposites p x.r a b back.0).1 (subst (λ (y : ℕ). IsLinked model x.r y a) back.1 (subst (λ (y : ℕ). IsLinked model x.r spot.object y) back.2 link))
            )
      ];
    }

    no_second_container : (spot : Spot) (id : List ℕ) → IsContainedTwice s spot id → ⊥
    no_second_container spot id d =
        let same = k.containers d.object d.a d.b d.p d.q (part_contained spot d.a d.object d.p d.part) (part_contained d.earlier d.b d.object d.q d.other_part) in
        elim d.differs [ inl other ↦ other same.0 | inr other ↦ other same.1 ]

    no_mismatch : (spot : Spot) (id prop other other_prop : List ℕ) → IsMismatch s spot id prop other other_prop → ⊥
    no_mismatch spot id prop other other_prop d =
        let a : ℕ = spot.object in
        let b : ℕ = d.b in
        let q : ℕ = d.q in
        let link : IsLinked model d.p a b = written_linked spot d.p d.target b d.written d.named in
        let back_link : IsLinked model q b a = (k.opposites d.p q a b d.disputed.opposite).0 link in
        let r : IsReferenceOf model b q = linked_reference model q b a (sound_of model k) back_link in
        let same : partners_at model b q ≡ named_at s b q = (w.links b q r).order.0 d.disputed.speaking in
        true≢false (sym (ap (list_any (nat_eq a)) (sym same) ∙ to_any a (partners_at model b q) back_link) ∙ d.disputed.unnamed)

    pub none_by : (fault : ModelFault) (spot : Spot) → StandsBy s fault spot → ⊥
    none_by (faults.Dangling id prop reference) spot x = no_dangling spot id prop reference x
    none_by (faults.TwoContainers id) spot x = no_second_container spot id x
    none_by (faults.Mismatch id prop other other_prop) spot x = no_mismatch spot id prop other other_prop x
    none_by (faults.UnknownClass name) spot x = x
    none_by (faults.UnknownProperty id prop) spot x = x
    none_by (faults.WrongValue id prop) spot x = x
    none_by (faults.DuplicateId id) spot x = x
    none_by (faults.Invalid breach id) spot x = x
    none_by (faults.Limit kind) spot x = x
