-- The model without values and links, and what it has to do with the namings of a file.
use Rattle.std.proofs.Common.{◌≡◌, ℕ, zero, suc, ◌<◌, false, List, [], ◌∷◌, length, get_or, replicate, refl, sym, ◌∙◌, ap, arith, subst, Option, Some, None, true≢false}
use Rattle.std.specs.Prelude.{All, slice_get, nat_eq}
use Rattle.std.specs.List.{list_any}
use Rattle.std.specs.Option.{unwrap_or}
use Rattle.std.proofs.lemmas.Bool.{not-false}
use Rattle.mof_metamodel.specs.declared.desc.MetaDesc.{MetaDesc}
use Rattle.mof_metamodel.specs.declared.desc.ClassId.{ClassId}
use Rattle.mof_metamodel.specs.Metamodels.{prop_count, props_of, type_of}
use Rattle.object_tables.specs.Kept.{Kept}
use Rattle.object_tables.specs.Objects.{Slot}
use Rattle.object_tables.specs.Models.{ModelData, class_at, values_at, partners_at, no_slot, slot_in, new_object, slot_number, ConformsTo}
use Rattle.model_assembly.specs.declared.filed.Filed.{Filed}
use Rattle.model_assembly.specs.declared.assembly.entry.Entry.{Entry}
use Rattle.model_assembly.specs.declared.assembly.naming.Naming.{Naming}
use Rattle.model_assembly.specs.AssemblyEntries.{class_in, entry_at, no_entry}
use Rattle.model_assembly.specs.AssemblyFirsts.{is_unfit, is_astray}
use Rattle.model_assembly.specs.AssemblyLinks.{has_partner, linked_all, MayBeLinked, IsLinkedTo}
use Rattle.model_assembly.specs.AssemblyNamings.{at, IsSecondWhole}
use Rattle.model_assembly.specs.AssemblyObjects.{new_objects, bare_model}
use Rattle.model_assembly.specs.AssemblyOrders.{StandByNumber}
use Rattle.model_assembly.specs.AssemblyReferences.{MayBeAssembled, AreNamed, AreAnswered}
use Rattle.model_assembly.specs.AssemblyValues.{HasValues}
use Rattle.model_assembly.proofs.assembling.ListLaws.{get_within, get_is}
use Rattle.model_assembly.proofs.assembling.FaultLaws.{conforms_sound}
use Rattle.model_assembly.proofs.assembling.LinkedLaws.{IsFitNaming, may_be_linked, all_linked}
use Rattle.model_assembly.proofs.assembling.PartLaws.{at_entry, length-map_of}
use Rattle.model_assembly.proofs.assembling.AscendLaws.{by_object, all_ascend}
use Rattle.model_assembly.proofs.assembling.SpotLaws.{IsGood}
use Rattle.model_assembly.proofs.assembling.ToldLaws.{all_good, known_properties}

-- ---- the objects

pub class_of_bare : (meta : MetaDesc) (cs : List ClassId) (ids : List (List ℕ)) (o : ℕ) → length cs ≡ length ids → o < length cs → class_at (bare_model meta cs ids) o ≡ Some (class_in cs o).0
class_of_bare meta [] ids o n l = absurd (omega (arith, l))
class_of_bare meta (c ∷ cs) [] o n l = absurd (omega (arith, n))
class_of_bare meta (c ∷ cs) (id ∷ ids) zero n l = refl
class_of_bare meta (c ∷ cs) (id ∷ ids) (suc o) n l = class_of_bare meta cs ids o (omega (arith, n)) (omega (arith, l))

empty_slots : (n k : ℕ) → get_or (replicate n no_slot) k no_slot ≡ no_slot
empty_slots zero k = refl
empty_slots (suc n) zero = refl
empty_slots (suc n) (suc k) = empty_slots n k

slot_of_bare : (meta : MetaDesc) (cs : List ClassId) (ids : List (List ℕ)) (o p : ℕ) → slot_in meta p (get_or (new_objects meta cs ids) o None) ≡ no_slot
slot_of_bare meta [] ids o p = refl
slot_of_bare meta (c ∷ cs) [] o p = refl
slot_of_bare meta (c ∷ cs) (id ∷ ids) zero p = empty_slots (length (props_of meta c.0)) (slot_number meta c.0 p)
slot_of_bare meta (c ∷ cs) (id ∷ ids) (suc o) p = slot_of_bare meta cs ids o p

pub values_of_bare : (meta : MetaDesc) (cs : List ClassId) (ids : List (List ℕ)) (o p : ℕ) → values_at (bare_model meta cs ids) o p ≡ []
values_of_bare meta cs ids o p = ap (λ (s : Slot). s.values) (slot_of_bare meta cs ids o p)

pub partners_of_bare : (meta : MetaDesc) (cs : List ClassId) (ids : List (List ℕ)) (o p : ℕ) → partners_at (bare_model meta cs ids) o p ≡ []
partners_of_bare meta cs ids o p = ap (λ (s : Slot). s.partners) (slot_of_bare meta cs ids o p)

-- a model without partners has no pair
pub no_partner : (m : ModelData) → ((o p : ℕ) → partners_at m o p ≡ []) → (n : Naming) → has_partner m n ≡ false
no_partner m none n = ap (list_any (nat_eq n.target)) (none n.object n.property)

-- ---- the namings

partner_fit : (m : ModelData) (classes : List ClassId) (p : ℕ) (t : Option ℕ) → ((o : ℕ) → o < length classes → class_at m o ≡ Some (class_in classes o).0) → is_astray m.meta classes p t ≡ false
    → Rattle.object_tables.specs.Models.IsPartnerFor m p (unwrap_or t 0)
partner_fit m classes p None known h = absurd (true≢false h)
partner_fit m classes p (Some b) known h = by (slice_get classes b) refl h
  where
    by : (o : Option ClassId) → slice_get classes b ≡ o → is_unfit m.meta p o ≡ false → Rattle.object_tables.specs.Models.IsPartnerFor m p b
    by None g u = absurd (true≢false u)
    by (Some c) g u = record {
      class = c.0;
      class_is = known b (get_within classes b c g) ∙ ap (λ (c : ClassId). Some c.0) (get_is classes b c (record { 0 = 0 }) g);
      conforms = conforms_sound m.meta c.0 (type_of m.meta p) (not-false _ u);
    }

pub fit_namings : (m : ModelData) (f : Filed) (xs : List Naming) → MayBeAssembled m.meta f → AreNamed m.meta f xs → ((o : ℕ) → o < length f.classes → class_at m o ≡ Some (class_in f.classes o).0)
    → (j : ℕ) → j < length xs → IsFitNaming m (at xs j)
fit_namings m f xs sound named known j l = subst (IsFitNaming m) (sym (ap (λ ys. at ys j) named.namings ∙ at_entry named.entries j)) (record {
  reference = record { class = (class_in f.classes e.object).0; class_is = known e.object good.reference.object; has = good.reference.has; reference = good.reference.class_type };
  partner = partner_fit m f.classes e.property.0 e.target known (named.fit j within);
})
  where
    e : Entry
    e = entry_at named.entries j

    within : j < length named.entries
    within = let n = ap length named.namings ∙ length-map_of named.entries in omega (arith, l, n)

    good : IsGood m.meta f.classes e
    good = all_good m.meta f named.entries sound named.order j no_entry within

-- ---- the model with its values is ready to be linked

pub record IsReady (start : ModelData) (xs : List Naming) : Type 0 where
  pub within : All (λ (n : Naming). n.property < prop_count start.meta) xs
  pub empty : (n : Naming) → has_partner start n ≡ false
  pub may : MayBeLinked start xs
  pub linked : IsLinkedTo start xs (length xs) (linked_all start xs)
  pub by_number : StandByNumber xs (linked_all start xs)

pub ready : (meta : MetaDesc) (f : Filed) (xs : List Naming) (start : ModelData) → MayBeAssembled meta f → AreAnswered meta f xs → HasValues (bare_model meta f.classes f.ids) f.values start → Kept start → IsReady start xs
ready meta f xs start sound answered v kept = record {
  within = known_properties start.meta f xs sound' named;
  empty = empty;
  may = may_be_linked start xs kept empty single fit;
  linked = all_linked start xs kept empty single fit;
  by_number = all_ascend start xs kept empty (λ o p. v.partners o p ∙ partners_of_bare meta f.classes f.ids o p) single fit (by_object start.meta f xs named);
}
  where
    sound' : MayBeAssembled start.meta f
    sound' = subst (λ d. MayBeAssembled d f) (sym v.meta) sound

    named : AreNamed start.meta f xs
    named = subst (λ d. AreNamed d f xs) (sym v.meta) answered.named

    single : (j : ℕ) → j < length xs → IsSecondWhole start.meta xs j → ⊥
    single = subst (λ d. (j : ℕ) → j < length xs → IsSecondWhole d xs j → ⊥) (sym v.meta) answered.single

    empty : (n : Naming) → has_partner start n ≡ false
    empty n = no_partner start (λ o p. v.partners o p ∙ partners_of_bare meta f.classes f.ids o p) n

    fit : (j : ℕ) → j < length xs → IsFitNaming start (at xs j)
    fit = fit_namings start f xs sound' named (λ o l. v.classes o ∙ class_of_bare meta f.classes f.ids o sound.objects.same l)
