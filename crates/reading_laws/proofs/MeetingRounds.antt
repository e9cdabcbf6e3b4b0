-- As many rounds as there are nodes are enough where no node depends on itself, directly or through others.
use Rattle.std.specs.Prelude.{◌≡◌, ◌⊎◌, ◌<◌, ◌≤◌, ◌+◌, ◌||◌, ℕ, zero, suc, Bool, true, false, List, [], ◌∷◌, length}
use Rattle.std.specs.List.{IsDistinct, AllByRecursion, list_any}
use Rattle.std.proofs.Common.{refl, sym, subst, arith, inl, inr, eqb, eq-eqb}
use Rattle.std.proofs.lemmas.Bool.{true≢false, eqb-true}
use Rattle.std.proofs.lemmas.Map.Steps.{length-le_from_distinct_below}

-- ---- paths, and rounds

-- from a node to another one by one edge or more
pub data IsPath (Edge : ℕ → ℕ → Type 0) : ℕ → ℕ → Type 0 where
  one : (u v : ℕ) → Edge u v → IsPath Edge u v
  more : (u v w : ℕ) → IsPath Edge u v → Edge v w → IsPath Edge u w

-- the first edge of a path
pub first_edge : (Edge : ℕ → ℕ → Type 0) (u w : ℕ) → IsPath Edge u w → (v : ℕ) × Edge u v × ((v ≡ w) ⊎ IsPath Edge v w)
first_edge Edge u w (IsPath.one _ _ edge) = (w, edge, inl refl)
first_edge Edge u w (IsPath.more _ v _ path edge) = by (first_edge Edge u v path)
  where
    by : (x : ℕ) × Edge u x × ((x ≡ v) ⊎ IsPath Edge x v) → (x : ℕ) × Edge u x × ((x ≡ w) ⊎ IsPath Edge x w)
    by (x, first, inl same) = (x, first, inr (IsPath.one x w (subst (λ z. Edge z w) (sym same) edge)))
    by (x, first, inr rest) = (x, first, inr (IsPath.more x v w rest edge))

-- a cycle goes on from the next node
pub next_cycle : (Edge : ℕ → ℕ → Type 0) (u : ℕ) → IsPath Edge u u → (v : ℕ) × Edge u v × IsPath Edge v v
next_cycle Edge u path = by (first_edge Edge u u path)
  where
    by : (v : ℕ) × Edge u v × ((v ≡ u) ⊎ IsPath Edge v u) → (v : ℕ) × Edge u v × IsPath Edge v v
    by (v, edge, inl same) = (v, edge, IsPath.one v v (subst (λ z. Edge z v) (sym same) edge))
    by (v, edge, inr rest) = (v, edge, IsPath.more v u v rest edge)

module _ (count : ℕ) (Edge : ℕ → ℕ → Type 0) (Good : ℕ → ℕ → Type 0) (acyclic : (v : ℕ) → v < count → IsPath Edge v v → ⊥)
    (step : (k v : ℕ) → v < count → ((w : ℕ) → w < count → Edge v w → Good k w) → Good (suc k) v) where
  abbrev Above : List ℕ → ℕ → Type 0
  Above seen v = (s : ℕ) → list_any (eqb s) seen ≡ true → IsPath Edge s v

  abbrev Below : List ℕ → Type 0
  Below seen = (s : ℕ) → list_any (eqb s) seen ≡ true → s < count

  either : (a b : Bool) → (a || b) ≡ true → (a ≡ true) ⊎ (b ≡ true)
  either true b h = inl refl
  either false b h = inr h

  or_right : (a b : Bool) → b ≡ true → (a || b) ≡ true
  or_right true b h = refl
  or_right false b h = h

  or_left : (a b : Bool) → a ≡ true → (a || b) ≡ true
  or_left true b h = refl
  or_left false b h = absurd (true≢false (sym h))

  -- a node below which all of a list stand is none of the list
  new_in : (v : ℕ) (seen : List ℕ) → ((s : ℕ) → list_any (eqb s) seen ≡ true → s ≡ v → ⊥) → AllByRecursion (λ y. eqb v y ≡ false) seen
  new_in v [] h = tt
  new_in v (s ∷ seen) h = (differs (eqb v s) refl, new_in v seen (λ x among. h x (or_right (eqb x s) (list_any (eqb x) seen) among)))
    where
      differs : (b : Bool) → eqb v s ≡ b → b ≡ false
      differs true same = absurd (h s (or_left (eqb s s) (list_any (eqb s) seen) (eq-eqb s s refl)) (sym (eqb-true v s same)))
      differs false same = refl

  grown : (v : ℕ) (seen : List ℕ) → v < count → IsDistinct eqb seen → Above seen v → IsDistinct eqb (v ∷ seen)
  unfolding IsDistinct
  grown v seen within distinct above = (new_in v seen (λ s among same. acyclic v within (subst (λ z. IsPath Edge z v) same (above s among))), distinct)

  below_more : (v : ℕ) (seen : List ℕ) → v < count → Below seen → Below (v ∷ seen)
  below_more v seen within below s among = by (either (eqb s v) (list_any (eqb s) seen) among)
    where
      by : (eqb s v ≡ true) ⊎ (list_any (eqb s) seen ≡ true) → s < count
      by (inl same) = subst (λ z. z < count) (sym (eqb-true s v same)) within
      by (inr rest) = below s rest

  above_more : (v w : ℕ) (seen : List ℕ) → Edge v w → Above seen v → Above (v ∷ seen) w
  above_more v w seen edge above s among = by (either (eqb s v) (list_any (eqb s) seen) among)
    where
      by : (eqb s v ≡ true) ⊎ (list_any (eqb s) seen ≡ true) → IsPath Edge s w
      by (inl same) = subst (λ z. IsPath Edge z w) (sym (eqb-true s v same)) (IsPath.one v w edge)
      by (inr rest) = IsPath.more s v w (above s rest) edge

  rounds : (k : ℕ) (seen : List ℕ) (v : ℕ) → length seen + k ≡ count → v < count → IsDistinct eqb seen → Below seen → Above seen v → Good k v
  rounds zero seen v long within distinct below above =
      let few : length (v ∷ seen) ≤ count = length-le_from_distinct_below (v ∷ seen) count (grown v seen within distinct above) (below_more v seen within below) in
      absurd (omega (arith, few, long))
  rounds (suc k) seen v long within distinct below above =
      step k v within (λ w w_within edge.
      rounds k (v ∷ seen) w (omega (arith, long)) w_within (grown v seen within distinct above) (below_more v seen within below) (above_more v w seen edge above))

  nothing_seen : IsDistinct eqb []
  unfolding IsDistinct
  nothing_seen = tt

  -- after as many rounds as there are nodes all of them are good
  pub enough : (v : ℕ) → v < count → Good count v
  enough v within = rounds count [] v (omega arith) within nothing_seen (λ s among. absurd (true≢false (sym among))) (λ s among. absurd (true≢false (sym among)))
