-- The holders of a value at an attribute, among those of an index in their order, are the objects that hold it.
use Rattle.std.proofs.Common.{◌≡◌, ℕ, true, List, [], ◌∷◌, map, sym, subst, ap, ◌∙◌}
use Rattle.std.specs.Prelude.{All, Contains, filter}
use Rattle.std.specs.Cmp.{Equal-is}
use Rattle.std.specs.List.{AllByRecursion}
use Rattle.std.specs.List.Sorted.{IsStrictlySortedBy}
use Rattle.std.specs.Ordering.{nat_cmp, ordering_then, is_eq}
use Rattle.std.specs.declared.cmp.Ordering.TheVariants.{Less, Equal}
use Rattle.std.proofs.lemmas.Cmp.{tied_itself, tied_back}
use Rattle.std.proofs.lemmas.List.Elements.{All-contains, All-contains_itself, All-map, All-weaker, filter_passes, recursion_from_All}
use Rattle.std.proofs.lemmas.List.Kept.{IsStrictlySortedBy-filter}
use Rattle.mof_metamodel.proofs.Facts.{contains_map}
use Rattle.object_tables.specs.declared.value.Value.{Value}
use Rattle.object_tables.specs.Models.{ModelData}
use Rattle.object_tables.proofs.ListLemmas.{Contains-filter}
use Rattle.object_tables.proofs.SlotLemmas.{Contains-to_filter}
use Rattle.key_index.specs.declared.holder.Holder.{Holder}
use Rattle.key_index.specs.Entries.{entry}
use Rattle.key_index.specs.HolderOrder.{key_of, key_order, holder_order, is_at}
use Rattle.key_index.specs.Holders.{Holds, AreAllHolders, AreHolders}
use Rattle.key_index.proofs.OrderLaws.{keys_total, key_exact}

module _ (p : ℕ) (v : Value) where
  IsAt : Holder → Type 0
  IsAt h = key_order (key_of h) (p, v) ≡ Equal

  -- holders of one key are in the order of their objects
  object_later : (h k : Holder) → IsAt h → IsAt k → holder_order h k ≡ Less → nat_cmp h.object.0 k.object.0 ≡ Less
  unfolding IsAt
  object_later h k a b less =
      let same : key_order (key_of h) (key_of k) ≡ Equal = keys_total.congr (key_of h) (p, v) (key_of k) a ∙ tied_back keys_total (key_of k) (p, v) b in
      sym (ap (λ o. ordering_then o (nat_cmp h.object.0 k.object.0)) same) ∙ less

  ascending : (hs : List Holder) → AllByRecursion IsAt hs → IsStrictlySortedBy holder_order hs → IsStrictlySortedBy nat_cmp (map (λ h. h.object.0) hs)
  unfolding IsStrictlySortedBy
  ascending [] at up = tt
  ascending (h ∷ hs) at up = (first hs at.1 up.0, ascending hs at.1 up.1)
    where
      first : (ks : List Holder) → AllByRecursion IsAt ks → AllByRecursion (λ k. holder_order h k ≡ Less) ks
          → AllByRecursion (λ o. nat_cmp h.object.0 o ≡ Less) (map (λ k. k.object.0) ks)
      first [] a b = tt
      first (k ∷ ks) a b = (object_later h k at.0 a.0 b.0, first ks a.1 b.1)

  at_key : (h : Holder) → is_at p v h ≡ true → IsAt h
  unfolding IsAt
  at_key h e = (Equal-is (key_order (key_of h) (p, v))).0 e

  all_at : (hs : List Holder) → All IsAt (filter (is_at p v) hs)
  all_at hs = All-weaker (λ h. is_at p v h ≡ true) IsAt at_key (filter (is_at p v) hs) (filter_passes (is_at p v) hs)

  module _ (m : ModelData) (hs : List Holder) (index : AreAllHolders m hs) where
    held : (h : Holder) → Contains (filter (is_at p v) hs) h → Holds m p v h.object.0
    unfolding IsAt
    held h c =
        let at : key_order (key_of h) (p, v) ≡ Equal = All-contains IsAt (filter (is_at p v) hs) h (all_at hs) c in
        let holds : ℕ × Value → Type 0 = λ k. Holds m k.0 k.1 h.object.0 in
        subst holds (key_exact (key_of h) (p, v) at) (index.only h (Contains-filter (is_at p v) hs h c))

    found : (o : ℕ) → Holds m p v o → Contains (map (λ h. h.object.0) (filter (is_at p v) hs)) o
    found o h =
        contains_map (λ k. k.object.0) (filter (is_at p v) hs) (entry o p v)
        (Contains-to_filter (is_at p v) hs (entry o p v) (ap is_eq (tied_itself keys_total (p, v))) (index.all o p v h))

    pub are_holders : IsStrictlySortedBy holder_order hs → AreHolders m p v (map (λ h. h.object.0) (filter (is_at p v) hs))
    are_holders up = record {
      ascending = ascending (filter (is_at p v) hs) (recursion_from_All IsAt (filter (is_at p v) hs) (all_at hs))
          (IsStrictlySortedBy-filter holder_order (is_at p v) hs up);
      only =
          All-map (Holds m p v) (λ h. h.object.0) (filter (is_at p v) hs)
          (All-weaker (Contains (filter (is_at p v) hs)) (λ h. Holds m p v h.object.0) held (filter (is_at p v) hs) (All-contains_itself (filter (is_at p v) hs)));
      all = found;
    }
