-- How a filled model comes to hold the partners of the wanted one in their order.
use Rattle.std.proofs.Common.{◌≡◌, ℕ, List, refl, sym, ◌∙◌, ap, subst, inl, inr}
use Rattle.std.specs.Prelude.{Contains, IsPermutation}
use Rattle.object_tables.specs.Objects.{Slot}
use Rattle.object_tables.specs.Models.{ModelData, partners_at, IsReferenceOf, with_order}
use Rattle.object_tables.proofs.EqualLaws.{models_equal}
use Rattle.object_tables.proofs.ReorderLemmas.{kept_reordered}
use Rattle.object_tables.proofs.SlotLemmas.{IsSlotted, slot_cases, slot_here}
use Rattle.model_filling.specs.Filling.{IsFilled, IsOrderedAt, Orders}
use Rattle.model_filling.proofs.CounterpartLaws.{objects_through, reference_there, objects-with_slot}
use Rattle.model_filling.proofs.FillLaws.{slotted_part}
use Rattle.model_filling.proofs.LinkLaws.{linked_by, values-with_slot}
use Rattle.model_filling.proofs.MemberLaws.{same_members}
use Rattle.model_filling.proofs.PropertyLaws.{property_of_reference, property_of_attribute}

pub orders_nothing : (n m : ModelData) → IsFilled n m → Orders n m m
orders_nothing n m h = record { filled = h; still = λ o p f. f }

pub orders_through : (n a b c : ModelData) → Orders n a b → Orders n b c → Orders n a c
orders_through n a b c g h = record { filled = h.filled; still = λ o p f. h.still o p (g.still o p f) }

-- the wanted partners are the partners, in another order
pub wanted_order : (n m : ModelData) (o p : ℕ) (order : List ℕ) → IsFilled n m → IsReferenceOf m o p → order ≡ partners_at n o p
    → IsPermutation order (partners_at m o p)
wanted_order n m o p order h r e =
    let there = reference_there m n o p h.part.objects r in
    subst (λ (xs : List ℕ). IsPermutation xs (partners_at m o p)) (sym e)
    (same_members (partners_at n o p) (partners_at m o p) (h.part.whole.references o p there).distinct (h.part.kept.references o p r).distinct
    ((h.filled o p (property_of_reference n o p there)).links) (h.part.links p o))

pub order_orders : (n m : ModelData) (o p : ℕ) (order : List ℕ) → IsFilled n m → IsReferenceOf m o p → order ≡ partners_at n o p
    → Orders n m (with_order m o p order)
order_orders n m o p order h r e = record {
  filled = record {
    part = record {
      whole = h.part.whole;
      kept = kept_reordered m o p order h.part.kept r (wanted_order n m o p order h r e);
      objects = objects_through new m n (objects-with_slot m o p f) h.part.objects;
      links = λ q x y l. elim (slot_cases m o p f x q slotted) [
        | inl same ↦ h.part.links q x y (subst (λ (s : Slot). Contains s.partners y) same l)
        | inr (ex, eq, same) ↦ linked_by n p q o y x y eq ex refl (subst (λ (ys : List ℕ). Contains ys y) e
            (subst (λ (s : Slot). Contains s.partners y) same l))
      ];
    };
    filled = λ x q property. (let was = h.filled x q property in record {
      values = values-with_slot m o p f x q slotted (λ s. refl) ∙ was.values;
      links = λ y l. elim (slot_cases m o p f x q slotted) [
        | inl same ↦ subst (λ (s : Slot). Contains s.partners y) (sym same) (was.links y l)
        | inr (ex, eq, same) ↦ subst (λ (s : Slot). Contains s.partners y) (sym same)
            (subst (λ (ys : List ℕ). Contains ys y) (sym e) (linked_by n q p x y o y (sym eq) (sym ex) refl l))
      ];
    });
  };
  still = λ x q was. elim (slot_cases m o p f x q slotted) [
    | inl same ↦ ap (λ s. s.partners) same ∙ was
    | inr (ex, eq, same) ↦ ap (λ s. s.partners) same ∙ e ∙ ap (λ z. partners_at n z p) (sym ex) ∙ ap (partners_at n x) (sym eq)
  ];
}
  where
    f : Slot → Slot
    f s = record s { partners = order }

    new : ModelData
    new = with_order m o p order

    slotted : IsSlotted m
    slotted = slotted_part n m h.part

pub order_ordered : (n m : ModelData) (o p : ℕ) (order : List ℕ) → IsFilled n m → IsReferenceOf m o p → order ≡ partners_at n o p
    → IsOrderedAt n (with_order m o p order) o p
order_ordered n m o p order h r e =
    ap (λ s. s.partners) (slot_here m o p r.class (λ s. record s { partners = order }) (slotted_part n m h.part) r.class_is r.has) ∙ e

-- a filled model in order is the wanted one
pub all_ordered : (n m : ModelData) → IsFilled n m → ((o p : ℕ) → IsReferenceOf n o p → IsOrderedAt n m o p) → m ≡ n
all_ordered n m h ordered = models_equal n m (record {
  meta = h.part.objects.meta;
  count = h.part.objects.count;
  classes = h.part.objects.classes;
  identifiers = h.part.objects.identifiers;
  values = λ o p a. (h.filled o p (property_of_attribute n o p a)).values;
  partners = ordered;
}) h.part.whole h.part.kept
