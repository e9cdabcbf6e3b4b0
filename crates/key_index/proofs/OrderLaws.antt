-- The order of holders is total and ties exactly where two are equal, so holders in order, each once, are the same holders.
use Rattle.std.proofs.Common.{◌≡◌, ℕ, List, refl, sym, subst, ap, ◌∙◌}
use Rattle.std.specs.Prelude.{Contains}
use Rattle.std.specs.Cmp.{IsTotalOrder, Equal-is}
use Rattle.std.specs.FinMap.{IsAntisymmetric, nat_cmp-IsAntisymmetric}
use Rattle.std.specs.List.{dedup}
use Rattle.std.specs.List.Sorted.{IsPermutation, IsSorted, IsStrictlySortedBy}
use Rattle.std.specs.Ordering.{nat_cmp, eq_by_cmp}
use Rattle.std.specs.declared.cmp.Ordering.{Ordering}
use Rattle.std.proofs.lemmas.Cmp.{on_total, then_total, nat_cmp_total, eq_by_cmp_equiv}
use Rattle.std.proofs.lemmas.List.Kept.{IsStrictlySortedBy-dedup, Contains-dedup, Contains-from_dedup}
use Rattle.std.proofs.lemmas.List.Sorted.{Contains-permutation, IsPermutation-sym}
use Rattle.object_tables.specs.declared.value.Value.{Value}
use Rattle.object_tables.specs.Models.{ModelData}
use Rattle.key_index.specs.declared.holder.Holder.{Holder}
use Rattle.key_index.specs.Entries.{entry}
use Rattle.key_index.specs.Holders.{AreAllHolders}
use Rattle.key_index.specs.HolderOrder.{key_of, key_order, holder_order}
use Rattle.key_index.specs.ValueOrder.{value_order}
use Rattle.key_index.specs.ValueOrderLaws.{values_total, value_exact, both_equal}

abbrev prop_of : ℕ × Value → ℕ
prop_of k = k.0

abbrev value_in : ℕ × Value → Value
value_in k = k.1

abbrev object_of : Holder → ℕ
object_of h = h.object.0

pub keys_total : IsTotalOrder key_order
keys_total = then_total (on_total prop_of nat_cmp_total) (on_total value_in values_total)

-- how the objects of two holders stand
abbrev pub objects_order : Holder → Holder → Ordering
objects_order h k = nat_cmp h.object.0 k.object.0

pub holders_total : IsTotalOrder holder_order
holders_total = then_total (on_total key_of keys_total) (on_total object_of nat_cmp_total)

pub key_exact : IsAntisymmetric key_order
key_exact k l h =
    let both = both_equal (nat_cmp k.0 l.0) (value_order k.1 l.1) h in
    let first : ℕ → ℕ × Value = λ p. (p, k.1) in
    let second : Value → ℕ × Value = λ v. (l.0, v) in
    ap first (nat_cmp-IsAntisymmetric k.0 l.0 both.0) ∙ ap second (value_exact k.1 l.1 both.1)

pub holder_exact : IsAntisymmetric holder_order
holder_exact h k e =
    let both = both_equal (key_order (key_of h) (key_of k)) (nat_cmp h.object.0 k.object.0) e in
    let of_key : ℕ × Value → Holder = λ x. entry h.object.0 x.0 x.1 in
    let of_object : ℕ → Holder = λ o. entry o k.prop.0 k.value in
    ap of_key (key_exact (key_of h) (key_of k) both.0) ∙ ap of_object (nat_cmp-IsAntisymmetric h.object.0 k.object.0 both.1)

-- entries of an index in order, each once, are entries of it
module _ (xs sorted ys : List Holder) (is : ys ≡ dedup (λ h k. eq_by_cmp holder_order h k) sorted) where
  pub once_indexed : (m : ModelData) → IsPermutation xs sorted → AreAllHolders m xs → AreAllHolders m ys
  once_indexed m moved index = record {
    only = λ h c.
        index.only h
        (Contains-permutation sorted xs h (IsPermutation-sym xs sorted moved)
        (Contains-from_dedup (λ h k. eq_by_cmp holder_order h k) sorted h (subst (λ zs. Contains zs h) is c)));
    all = λ o p v held.
        subst (λ zs. Contains zs (entry o p v)) (sym is)
        (Contains-dedup (eq_by_cmp_equiv holders_total) (λ h k e. holder_exact h k ((Equal-is (holder_order h k)).0 e)) sorted (entry o p v)
        (Contains-permutation xs sorted (entry o p v) moved (index.all o p v held)));
  }

  pub once_sorted : IsSorted holder_order sorted → IsStrictlySortedBy holder_order ys
  once_sorted up = subst (IsStrictlySortedBy holder_order) (sym is) (IsStrictlySortedBy-dedup holders_total (λ h k. refl) sorted up)
