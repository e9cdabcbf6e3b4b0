-- Paths of containers: they are short where no object comes twice, and a cycle of containers leads back within as many steps as there are objects.
use Rattle.std.proofs.Common.{◌≡◌, ◌≢◌, ℕ, ◌+◌, ◌<◌, ◌≤◌, suc, List, [], ◌∷◌, ◌++◌, length, refl, sym, ◌∙◌, subst, arith, inl, inr, Option, Some, None, rules}
use Rattle.std.specs.Prelude.{Contains, IsSome, ◌⊎◌}
use Rattle.std.proofs.lemmas.Bool.{cases_eq, cases_lt}
use Rattle.std.proofs.lemmas.List.{get_or_past, length-append}
use Rattle.link_arena.proofs.Members.{IsIn, IsDistinct}
use Rattle.link_arena.proofs.Threaded.{pigeon}
use Rattle.object_tables.specs.Objects.{Object}
use Rattle.object_tables.specs.Kept.{Kept}
use Rattle.object_tables.specs.Models.{ModelData, object_at, slot_in, IsLive, IsTop}
use Rattle.object_tables.specs.Containment.{IsContainer, IsContainerPath, IsOnCycle, IsAcyclic}

pub container-live : (m : ModelData) (o a : ℕ) → IsContainer m o a → IsLive m a
container-live m o a (p, c) = of_option (object_at m a) c.linked where
  of_option : (x : Option Object) → Contains (slot_in m.meta p x).partners o → IsSome x
  of_option None (k, l, e) = absurd (omega arith)
  of_option (Some object) h = search rules

not_none : {x : Option Object} → x ≡ None → IsSome x → ⊥
not_none e h = let g = subst (λ y. IsSome y) e h in search rules

pub live-below : (m : ModelData) (o : ℕ) → IsLive m o → o < length m.objects
live-below m o h = elim (cases_lt o (length m.objects)) [
  | inl l ↦ l
  | inr le ↦ absurd (not_none (get_or_past m.objects o None le) h)
]

pub path-live : (m : ModelData) (o : ℕ) (path : List ℕ) (a : ℕ) → IsLive m o → IsContainerPath m o path a → IsLive m a
path-live m o [] a live same = subst (λ x. IsLive m x) same live
path-live m o (b ∷ path) a live (first, rest) = path-live m b path a (container-live m o b first) rest

path-all_live : (m : ModelData) (o : ℕ) (path : List ℕ) (a x : ℕ) → IsLive m o → IsContainerPath m o path a → IsIn x (o ∷ path) → IsLive m x
path-all_live m o [] a x live h (inl e) = subst (λ y. IsLive m y) (sym e) live
path-all_live m o [] a x live h (inr n) = absurd n
path-all_live m o (b ∷ path) a x live h (inl e) = subst (λ y. IsLive m y) (sym e) live
path-all_live m o (b ∷ path) a x live (first, rest) (inr n) = path-all_live m b path a x (container-live m o b first) rest n

-- one container more
pub path-push : (m : ModelData) (o : ℕ) (path : List ℕ) (a b : ℕ) → IsContainerPath m o path a → IsContainer m a b → IsContainerPath m o (path ++ b ∷ []) b
path-push m o [] a b same up = (subst (λ x. IsContainer m x b) (sym same) up, refl)
path-push m o (c ∷ path) a b (first, rest) up = (first, path-push m c path a b rest up)

pub path-append : (m : ModelData) (o : ℕ) (path : List ℕ) (a : ℕ) (more : List ℕ) (b : ℕ) → IsContainerPath m o path a → IsContainerPath m a more b → IsContainerPath m o (path ++ more) b
path-append m o [] a more b same next = subst (λ x. IsContainerPath m x more b) (sym same) next
path-append m o (c ∷ path) a more b (first, rest) next = (first, path-append m c path a more b rest next)

-- a path back is a cycle
pub path-cycle : (m : ModelData) (o : ℕ) (path : List ℕ) (a : ℕ) → IsContainerPath m o path a → IsContainer m a o → IsOnCycle m o
path-cycle m o [] a same up = (o, [], subst (λ x. IsContainer m x o) (sym same) up, refl)
path-cycle m o (b ∷ path) a (first, rest) up = (b, path ++ o ∷ [], first, path-push m b path a o rest up)

-- the part of a path up to one of its objects
path-upto : (m : ModelData) (o : ℕ) (path : List ℕ) (a x : ℕ) → IsContainerPath m o path a → IsIn x (o ∷ path) → (part : List ℕ) × IsContainerPath m o part x
path-upto m o [] a x h (inl e) = ([], sym e)
path-upto m o [] a x h (inr n) = absurd n
path-upto m o (b ∷ path) a x h (inl e) = ([], sym e)
path-upto m o (b ∷ path) a x (first, rest) (inr n) = let (part, g) = path-upto m b path a x rest n in (b ∷ part, (first, g))

-- without a cycle no object comes twice
path-distinct : (m : ModelData) (o : ℕ) (path : List ℕ) (a : ℕ) → IsAcyclic m → IsContainerPath m o path a → IsDistinct (o ∷ path)
path-distinct m o [] a none h = ((λ n. n), tt)
path-distinct m o (b ∷ path) a none (first, rest) = (
  (λ n. let (part, g) = path-upto m b path a o rest n in none o (b, part, first, g)),
  path-distinct m b path a none rest,
)

-- a path on which no object comes twice has at most as many objects as there are numbers
distinct-few : (m : ModelData) (o : ℕ) (path : List ℕ) (a : ℕ) → IsLive m o → IsContainerPath m o path a → IsDistinct (o ∷ path) → suc (length path) ≤ length m.objects
distinct-few m o path a live h apart = pigeon (length m.objects) (o ∷ path) apart (λ x n. live-below m x (path-all_live m o path a x live h n))

pub path-few : (m : ModelData) (o : ℕ) (path : List ℕ) (a : ℕ) → IsAcyclic m → IsLive m o → IsContainerPath m o path a → suc (length path) ≤ length m.objects
path-few m o path a none live h = distinct-few m o path a live h (path-distinct m o path a none h)

-- there is room for one container more
pub path-room : (m : ModelData) (o : ℕ) (path : List ℕ) (a b : ℕ) → IsAcyclic m → IsLive m o → IsContainerPath m o path a → IsContainer m a b → suc (length path) < length m.objects
path-room m o path a b none live h up =
    let few = path-few m o (path ++ b ∷ []) b none live (path-push m o path a b h up) in
    let n = length-append path (b ∷ []) in
    omega arith

-- ---- cycles

in_or_out : (x : ℕ) (xs : List ℕ) → IsIn x xs ⊎ (¬ IsIn x xs)
in_or_out x [] = inr (λ n. n)
in_or_out x (y ∷ ys) = elim (cases_eq x y) [
  | inl e ↦ inl (inl e)
  | inr ne ↦
      elim (in_or_out x ys) [
        | inl n ↦ inl (inr n)
        | inr out ↦ inr (λ h. elim h [ inl e ↦ ne e | inr n ↦ out n ])
      ]
]

-- the part of a path from one of its objects on
path-from : (m : ModelData) (o : ℕ) (path : List ℕ) (a x : ℕ) → IsContainerPath m o path a → IsDistinct (o ∷ path) → IsIn x (o ∷ path)
    → (part : List ℕ) × IsContainerPath m x part a × IsDistinct (x ∷ part)
path-from m o [] a x h apart (inl e) = ([], e ∙ h, ((λ n. n), tt))
path-from m o [] a x h apart (inr n) = absurd n
path-from m o (b ∷ path) a x h apart (inl e) = (b ∷ path, subst (λ y. IsContainerPath m y (b ∷ path) a) (sym e) h, subst (λ y. IsDistinct (y ∷ b ∷ path)) (sym e) apart)
path-from m o (b ∷ path) a x (first, rest) apart (inr n) = path-from m b path a x rest apart.1 n

-- a path on which no object comes twice, in the place of one
path-simple : (m : ModelData) (o : ℕ) (path : List ℕ) (a : ℕ) → IsContainerPath m o path a → (simple : List ℕ) × IsContainerPath m o simple a × IsDistinct (o ∷ simple)
path-simple m o [] a same = ([], same, ((λ n. n), tt))
path-simple m o (b ∷ path) a (first, rest) =
    let (q, h, apart) = path-simple m b path a rest in
    elim (in_or_out o (b ∷ q)) [
      | inl n ↦ path-from m b q a o h apart n
      | inr out ↦ (b ∷ q, (first, h), (out, apart))
    ]

-- after k steps a path of one container or more leads back, of n steps in all
pub record LeadsBack (m : ModelData) (at o k n : ℕ) : Type 0 where
  pub path : List ℕ
  pub up : IsContainerPath m at path o
  pub more : 0 < length path
  pub few : length path + k ≤ n

pub cycle-live : (m : ModelData) (o : ℕ) → IsOnCycle m o → IsLive m o
cycle-live m o (a, path, up, h) = path-live m a path o (container-live m o a up) h

pub cycle-begin : (m : ModelData) (o : ℕ) → IsOnCycle m o → LeadsBack m o o 0 (length m.objects)
cycle-begin m o (a, path, up, h) =
    let (q, g, apart) = path-simple m a path o h in
    let few = distinct-few m a q o (container-live m o a up) g apart in
    record { path = a ∷ q; up = (up, g); more = omega arith; few = omega arith }

pub container-same : (m : ModelData) (o a b : ℕ) → Kept m → IsContainer m o a → IsContainer m o b → a ≡ b
container-same m o a b kept (p, h) (q, g) = (kept.containers o a b p q h g).0

pub cycle-step : (m : ModelData) (at o k n c : ℕ) → Kept m → LeadsBack m at o k n → IsContainer m at c → c ≢ o → LeadsBack m c o (k + 1) n
cycle-step m at o k n c kept back up other = of_path back.path back.up back.more back.few where
  of_path : (path : List ℕ) → IsContainerPath m at path o → 0 < length path → length path + k ≤ n → LeadsBack m c o (k + 1) n
  of_path [] h more few = absurd (omega arith)
  of_path (b ∷ []) (first, same) more few = absurd (other (container-same m at c b kept up first ∙ same))
  of_path (b ∷ d ∷ path) (first, rest) more few = record {
    path = d ∷ path;
    up = subst (λ x. IsContainerPath m x (d ∷ path) o) (container-same m at b c kept first up) rest;
    more = omega arith;
    few = omega arith;
  }

-- a container of what stands on a way around is on a cycle
pub cycle-up : (m : ModelData) (o : ℕ) (path : List ℕ) (at k n c : ℕ) → Kept m → IsContainerPath m o path at → LeadsBack m at o k n → IsContainer m at c → IsOnCycle m c
cycle-up m o path at k n c kept h back up = of_path back.path back.up back.more where
  of_path : (rest : List ℕ) → IsContainerPath m at rest o → 0 < length rest → IsOnCycle m c
  of_path [] g more = absurd (omega arith)
  of_path (b ∷ rest) (first, g) more =
      let g' = subst (λ x. IsContainerPath m x rest o) (container-same m at b c kept first up) g in
      path-cycle m c (rest ++ path) at (path-append m c rest o path at g' h) up

-- no way leads back from a top object
pub cycle-top : (m : ModelData) (at o k n : ℕ) → LeadsBack m at o k n → IsTop m at → ⊥
cycle-top m at o k n back top = of_path back.path back.up back.more where
  of_path : (path : List ℕ) → IsContainerPath m at path o → 0 < length path → ⊥
  of_path [] h more = absurd (omega arith)
  of_path (b ∷ path) (first, rest) more = top b first.0 first.1
