-- A model whose object has its partners in another order.
use Rattle.std.proofs.Common.{◌≡◌, ℕ, List, map, ap, sym, ◌∙◌, subst, Some, inl, inr}
use Rattle.std.specs.Prelude.{Contains, IsPermutation}
use Rattle.std.proofs.lemmas.List.Sorted.{Contains-permutation, IsPermutation-sym}
use Rattle.link_arena.proofs.Orders.{AllPairs-permutation}
use Rattle.mof_metamodel.specs.declared.desc.MetaDesc.{MetaDesc}
use Rattle.mof_metamodel.specs.Metamodels.{props_of}
use Rattle.object_tables.specs.Rows.{Row, place_at, joined_at, with_joined}
use Rattle.object_tables.specs.Orders.{AreOfObjects, IsReordered}
use Rattle.object_tables.specs.Models.{ModelData, class_at, partners_at, with_order, IsReferenceOf}
use Rattle.object_tables.specs.Kept.{Kept}
use Rattle.object_tables.specs.Tied.{near, far, class_in, IsTied}
use Rattle.object_tables.proofs.KeptEdits.{kept_with_order}
use Rattle.object_tables.proofs.ModelLemmas.{seen, partners_seen}
use Rattle.object_tables.proofs.EditLemmas.{IsAlike, tied-alike, alike-with_place, joined-with_joined, seen-with_place}

-- at a property no two places are of one object
pub apart_at : (meta : MetaDesc) (rows : List Row) (finds : List ℕ → ℕ → Type 0) (live o c p k : ℕ) → IsTied meta rows finds live → class_in rows o ≡ Some c → Contains (props_of meta c) p
    → k ≡ near meta c p → AreOfObjects (joined_at rows o k)
apart_at meta rows finds live o c p k t hc hp ek x y cx cy same =
    let f = t.far_ends o c p x hc hp (subst (λ z. Contains (joined_at rows o z) x) ek cx) in
    let g = t.far_ends o c p y hc hp (subst (λ z. Contains (joined_at rows o z) y) ek cy) in
    let class : f.class ≡ g.class = (let z : Some f.class ≡ Some g.class = sym f.class_is ∙ ap (class_in rows) same ∙ g.class_is in cc) in
    let place : x.1 ≡ y.1 = f.place ∙ ap (λ d. far meta d p) class ∙ sym g.place in
    ap (λ z. (z, x.1)) same ∙ ap (λ z. (y.0, z)) place

-- what was joined to a place is, in another order
still_joined : (rows new : List Row) (o k i j : ℕ) (order : List ℕ) (e : ℕ × ℕ) → IsReordered rows o k order new → Contains (joined_at new i j) e → Contains (joined_at rows i j) e
still_joined rows new o k i j order e r c =
    let d : Contains (joined_at (with_joined rows o k (λ xs. r.joined)) i j) e = subst (λ rs. Contains (joined_at rs i j) e) r.is c in
    elim (joined-with_joined rows o k i j (λ xs. r.joined)) [
      | inl same ↦ subst (λ xs. Contains xs e) same d
      | inr w ↦
          (let here : Contains (joined_at rows o k) e = Contains-permutation r.joined (joined_at rows o k) e r.same (subst (λ xs. Contains xs e) w.2 d) in
          subst (λ z. Contains (joined_at rows z j) e) (sym w.0) (subst (λ z. Contains (joined_at rows o z) e) (sym w.1) here))
    ]

pub tied-order : (meta : MetaDesc) (rows new : List Row) (finds : List ℕ → ℕ → Type 0) (live o k : ℕ) (order : List ℕ) → IsTied meta rows finds live → IsReordered rows o k order new → IsTied meta new finds live
tied-order meta rows new finds live o k order t r =
    tied-alike meta rows new finds live t
    (subst (λ rs. IsAlike rows rs) (sym r.is) (alike-with_place rows o k (λ p. record p { joined = r.joined })))
    (λ i c p e hc hp he. t.far_ends i c p e hc hp (still_joined rows new o k i (near meta c p) order e r he))
    (λ i c m e hc lm he. t.near_ends i c m e hc lm (still_joined rows new o k i m order e r he))

-- the model shows the order
pub seen-order : (meta : MetaDesc) (rows new : List Row) (v : ModelData) (o c p k : ℕ) (order : List ℕ) → seen meta rows ≡ v → class_in rows o ≡ Some c → k ≡ near meta c p
    → IsReordered rows o k order new → seen meta new ≡ with_order v o p order
seen-order meta rows new v o c p k order e hc ek r =
    ap (seen meta) (r.is ∙ ap (λ z. with_joined rows o z (λ xs. r.joined)) ek)
    ∙ seen-with_place meta rows o c p (λ place. record place { joined = r.joined }) (λ s. record s { partners = order }) hc
    (ap (λ ps. record { values = (place_at rows o (near meta c p)).values; partners = ps }) r.objects)
    ∙ ap (λ m. with_order m o p order) e

-- the partners are those of the place
pub order_seen : (meta : MetaDesc) (rows : List Row) (v : ModelData) (o c p k : ℕ) (order : List ℕ) → seen meta rows ≡ v → class_at v o ≡ Some c → k ≡ near meta c p
    → IsPermutation order (partners_at v o p) → IsPermutation order (map (λ e. e.0) (joined_at rows o k))
order_seen meta rows v o c p k order e hc ek h =
    subst (λ xs. IsPermutation order xs) (partners_seen meta rows v o p c e hc ∙ ap (λ z. map (λ e. e.0) (joined_at rows o z)) (sym ek)) h

-- and is kept
pub kept_reordered : (m : ModelData) (o p : ℕ) (order : List ℕ) → Kept m → IsReferenceOf m o p → IsPermutation order (partners_at m o p) → Kept (with_order m o p order)
kept_reordered m o p order k r same =
    let back : IsPermutation (partners_at m o p) order = IsPermutation-sym order (partners_at m o p) same in
    kept_with_order m o p order k r
    (λ b. Contains-permutation order (partners_at m o p) b same)
    (λ b. Contains-permutation (partners_at m o p) order b back)
    (AllPairs-permutation (partners_at m o p) order back (k.references o p r).distinct)
