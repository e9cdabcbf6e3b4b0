-- Links and orders of partners change nothing else of a model.
use Rattle.std.proofs.Common.{◌≡◌, ℕ, zero, suc, Bool, true, false, cond, List, [], ◌∷◌, ◌++◌, get_or, refl, ◌∙◌, ap, Option, Some, None, inl, inr}
use Rattle.mof_metamodel.specs.declared.desc.MetaDesc.{MetaDesc}
use Rattle.mof_metamodel.specs.Metamodels.{opposite_of}
use Rattle.object_tables.specs.Lists.{update_at}
use Rattle.object_tables.specs.Models.{ModelData, object_at, no_slot, slot_in, slot_number, values_at, with_slot, with_object_slot, with_partner, with_order, at_opposite, linked}
use Rattle.object_tables.specs.Objects.{Object, Slot}
use Rattle.object_tables.proofs.ListLemmas.{length-update_at}
use Rattle.object_tables.proofs.SlotLemmas.{object_cases, class-with_slot, id-with_slot}
use Rattle.model_assembly.specs.declared.assembly.naming.Naming.{Naming}
use Rattle.model_assembly.specs.AssemblyLinks.{has_partner, linked_once, linked_all}
use Rattle.model_assembly.specs.AssemblyModels.{IsSameButLinks}
use Rattle.model_assembly.specs.AssemblyNamings.{at}
use Rattle.model_assembly.specs.AssemblyOrders.{named_from, is_first, ordered_at, ordered}

-- an edit of slots that leaves their values
abbrev LeavesValues : (Slot → Slot) → Type 0
LeavesValues f = (s : Slot) → (f s).values ≡ s.values

slot_values : (f : Slot → Slot) → LeavesValues f → (xs : List Slot) (n k : ℕ) → (get_or (update_at xs n f) k no_slot).values ≡ (get_or xs k no_slot).values
slot_values f h [] n k = refl
slot_values f h (x ∷ xs) zero zero = h x
slot_values f h (x ∷ xs) zero (suc k) = refl
slot_values f h (x ∷ xs) (suc n) zero = refl
slot_values f h (x ∷ xs) (suc n) (suc k) = slot_values f h xs n k

object_values : (meta : MetaDesc) (p q : ℕ) (f : Slot → Slot) → LeavesValues f → (x : Option Object) → (slot_in meta q (with_object_slot meta p f x)).values ≡ (slot_in meta q x).values
object_values meta p q f h None = refl
object_values meta p q f h (Some ob) = slot_values f h ob.slots (slot_number meta ob.class p) (slot_number meta ob.class q)

same_slot : (m : ModelData) (o p : ℕ) (f : Slot → Slot) → LeavesValues f → IsSameButLinks m (with_slot m o p f)
same_slot m o p f h = record {
  meta = refl;
  count = length-update_at m.objects o (with_object_slot m.meta p f);
  classes = class-with_slot m o p f;
  ids = id-with_slot m o p f;
  values = values;
}
  where
    values : (i q : ℕ) → values_at (with_slot m o p f) i q ≡ values_at m i q
    values i q = elim (object_cases m o p f i) [
      | inl e ↦ ap (λ (x : Option Object). (slot_in m.meta q x).values) e
      | inr (_, e) ↦ ap (λ (x : Option Object). (slot_in m.meta q x).values) e ∙ object_values m.meta p q f h (object_at m i)
    ]

same_itself : (m : ModelData) → IsSameButLinks m m
same_itself m = record { meta = refl; count = refl; classes = λ o. refl; ids = λ o. refl; values = λ o p. refl }

pub same_then : (a b c : ModelData) → IsSameButLinks a b → IsSameButLinks b c → IsSameButLinks a c
same_then a b c h k = record {
  meta = k.meta ∙ h.meta;
  count = k.count ∙ h.count;
  classes = λ o. k.classes o ∙ h.classes o;
  ids = λ o. k.ids o ∙ h.ids o;
  values = λ o p. k.values o p ∙ h.values o p;
}

same_partner : (m : ModelData) (o p b : ℕ) → IsSameButLinks m (with_partner m o p b)
same_partner m o p b = same_slot m o p (λ s. record s { partners = s.partners ++ b ∷ [] }) (λ s. refl)

same_linked : (m : ModelData) (p a b : ℕ) → IsSameButLinks m (linked m p a b)
same_linked m p a b = by (opposite_of m.meta p)
  where
    one : ModelData
    one = with_partner m a p b

    by : (x : Option ℕ) → IsSameButLinks m (at_opposite with_partner one x b a)
    by None = same_partner m a p b
    by (Some q) = same_then m one (with_partner one b q a) (same_partner m a p b) (same_partner one b q a)

same_linked_once : (m : ModelData) (n : Naming) → IsSameButLinks m (linked_once m n)
same_linked_once m n = by (has_partner m n)
  where
    by : (b : Bool) → IsSameButLinks m (cond b m (linked m n.property n.object n.target))
    by true = same_itself m
    by false = same_linked m n.property n.object n.target

pub same_linked_all : (m : ModelData) (ns : List Naming) → IsSameButLinks m (linked_all m ns)
same_linked_all m [] = same_itself m
same_linked_all m (n ∷ ns) = same_then m (linked_once m n) (linked_all (linked_once m n) ns) (same_linked_once m n) (same_linked_all (linked_once m n) ns)

same_ordered_at : (m : ModelData) (xs : List Naming) (i : ℕ) → IsSameButLinks m (ordered_at m xs i)
same_ordered_at m xs i = by (is_first xs i)
  where
    order : List ℕ
    order = named_from xs i

    by : (b : Bool) → IsSameButLinks m (cond b (with_order m (at xs i).object (at xs i).property order) m)
    by true = same_slot m (at xs i).object (at xs i).property (λ s. record s { partners = order }) (λ s. refl)
    by false = same_itself m

pub same_ordered : (m : ModelData) (xs : List Naming) (i : ℕ) → IsSameButLinks m (ordered m xs i)
same_ordered m xs zero = same_itself m
same_ordered m xs (suc i) = same_then m (ordered m xs i) (ordered_at (ordered m xs i) xs i) (same_ordered m xs i) (same_ordered_at (ordered m xs i) xs i)
