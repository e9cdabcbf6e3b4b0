-- Walks up the containers that mark what they pass: what they keep, and that they find the least object on a cycle.
use Rattle.std.proofs.Common.{◌≡◌, ◌≢◌, ℕ, ◌+◌, ◌-◌, ◌<◌, ◌≤◌, List, [], ◌∷◌, ◌++◌, length, get_or, replicate, refl, sym, ◌∙◌, subst, ap, arith, inl, inr, Option, Some, None}
use Rattle.std.specs.Prelude.{◌⊎◌, IfSome, IfNone, set, sum_by}
use Rattle.std.proofs.lemmas.Bool.{cases_eq, cases_lt}
use Rattle.std.proofs.lemmas.List.{get_or-set_same, get_or-set_other, length-set, length-replicate}
use Rattle.std.proofs.lemmas.List.Sums.{sum_by-set}
use Rattle.object_tables.specs.declared.value.ObjId.{ObjId}
use Rattle.object_tables.specs.Kept.{Kept}
use Rattle.object_tables.specs.Models.{ModelData, IsLive, IsTop}
use Rattle.object_tables.specs.Containment.{IsContainer, IsContainerPath, IsOnCycle, IsAcyclic}
use Rattle.object_tables.specs.Climbs.{LeadsTo, IsMarked, IsPassedNow, IsAtMost, IsSearched}
use Rattle.object_tables.specs.Validity.{IsLeastOnCycle}
use Rattle.object_tables.proofs.ContainmentLemmas.{path-push, path-append, path-cycle, container-same, live-below, cycle-live}
use Rattle.object_tables.proofs.DepthLemmas.{get_or-zeros}

-- ---- paths

pub leads-up : (m : ModelData) (x at c : ℕ) → LeadsTo m x at → IsContainer m at c → LeadsTo m x c
leads-up m x at c (path, h) up = (path ++ c ∷ [], path-push m x path at c h up)

-- what an object on a cycle leads to is on a cycle, and leads back to it
pub cycle-back : (m : ModelData) (x : ℕ) (path : List ℕ) (y : ℕ) → Kept m → IsOnCycle m x → IsContainerPath m x path y → IsOnCycle m y × LeadsTo m y x
cycle-back m x [] y kept cycle same = (subst (λ z. IsOnCycle m z) same cycle, ([], sym same))
cycle-back m x (b ∷ path) y kept (a, way, up, back) (first, rest) =
    let e : a ≡ b = container-same m x a b kept up first in
    let back' : IsContainerPath m b way x = subst (λ z. IsContainerPath m z way x) e back in
    let (on, (q, h)) = cycle-back m b path y kept (path-cycle m b way x back' first) rest in
    (on, (q ++ way, path-append m y q b way x h back'))

pub leads_back : (m : ModelData) (x y : ℕ) → Kept m → IsOnCycle m x → LeadsTo m x y → IsOnCycle m y × LeadsTo m y x
leads_back m x y kept cycle (path, h) = cycle-back m x path y kept cycle h

-- no object on a cycle leads to a top object
pub cycle-no_top : (m : ModelData) (x y : ℕ) → Kept m → IsOnCycle m x → LeadsTo m x y → IsTop m y → ⊥
cycle-no_top m x y kept cycle to top = let ((a, path, (p, up), back), there) = leads_back m x y kept cycle to in top a p up

-- where containers of what was passed were passed, all is passed to which such an object leads
pub passed-path : (m : ModelData) (marks : List ℕ) (most : ℕ) → IsMarked m marks most → (x : ℕ) (path : List ℕ) (y : ℕ) → IsContainerPath m x path y → 0 < get_or marks x 0 → 0 < get_or marks y 0
passed-path m marks most k x [] y same h = subst (λ z. 0 < get_or marks z 0) same h
passed-path m marks most k x (b ∷ path) y (first, rest) h = passed-path m marks most k b path y rest (k.closed x b h first)

-- ---- a walk

-- the walk from o has come to `at`: it has marked, with o and one, objects that lead there
pub record IsWay (m : ModelData) (old marks : List ℕ) (o at : ℕ) : Type 0 where
  pub live : IsLive m at
  pub count : length marks ≡ length m.objects
  pub kept : (x : ℕ) → 0 < get_or old x 0 → get_or marks x 0 ≡ get_or old x 0
  pub new : (x : ℕ) → get_or old x 0 ≡ 0 → 0 < get_or marks x 0 → (get_or marks x 0 ≡ o + 1) × LeadsTo m x at
  pub start : 0 < get_or marks o 0
  pub closed : (x a : ℕ) → get_or old x 0 ≡ 0 → 0 < get_or marks x 0 → IsContainer m x a → (0 < get_or marks a 0) ⊎ (x ≡ at)

set_here : (marks : List ℕ) (i v : ℕ) → i < length marks → get_or (set marks i v) i 0 ≡ v
set_here marks i v l = get_or-set_same marks i v 0 l

set_there : (marks : List ℕ) (i j v : ℕ) → j ≢ i → get_or (set marks i v) j 0 ≡ get_or marks j 0
set_there marks i j v ne = get_or-set_other marks i j v 0 ne

-- what is marked stays so
set_more : (marks : List ℕ) (i j v : ℕ) → i < length marks → 0 < v → 0 < get_or marks j 0 → 0 < get_or (set marks i v) j 0
set_more marks i j v l p h = elim (cases_eq j i) [
  | inl e ↦ (let s : get_or (set marks i v) j 0 ≡ v = ap (λ k. get_or (set marks i v) k 0) e ∙ set_here marks i v l in omega arith)
  | inr ne ↦ (let s = set_there marks i j v ne in omega arith)
]

-- a live object has a mark, or room for one
pub marked-within : (m : ModelData) (marks : List ℕ) (highest o : ℕ) → IsMarked m marks highest → IsLive m o → o < length marks
marked-within m marks highest o k live = let below = live-below m o live in let e = k.count in omega arith

pub way-within : (m : ModelData) (old marks : List ℕ) (o at c : ℕ) → IsWay m old marks o at → IsLive m c → c < length marks
way-within m old marks o at c w live = let below = live-below m c live in let e = w.count in omega arith

-- the walk begins at an object that has no mark
pub way-begin : (m : ModelData) (old : List ℕ) (o : ℕ) → IsMarked m old o → IsLive m o → get_or old o 0 ≡ 0 → IsWay m old (set old o (o + 1)) o o
way-begin m old o k live fresh =
    let inside : o < length old = marked-within m old o o k live in
    let here : get_or (set old o (o + 1)) o 0 ≡ o + 1 = set_here old o (o + 1) inside in
    record {
      live = live;
      count = length-set old o (o + 1) ∙ k.count;
      kept = λ x h. set_there old o x (o + 1) (λ e. let z : get_or old x 0 ≡ 0 = ap (λ y. get_or old y 0) e ∙ fresh in omega arith);
      new = λ x z p. elim (cases_eq x o) [
        | inl e ↦ (ap (λ y. get_or (set old o (o + 1)) y 0) e ∙ here, ([], e))
        | inr ne ↦ absurd (let s = set_there old o x (o + 1) ne in omega arith)
      ];
      start = omega arith;
      closed = λ x a z p up. elim (cases_eq x o) [
        | inl e ↦ inr e
        | inr ne ↦ absurd (let s = set_there old o x (o + 1) ne in omega arith)
      ];
    }

-- an object with a mark has it still
pub way-more : (m : ModelData) (old marks : List ℕ) (o at : ℕ) → IsWay m old marks o at → (x : ℕ) → 0 < get_or old x 0 → 0 < get_or marks x 0
way-more m old marks o at w x h = let e = w.kept x h in omega arith

-- the marks that are not used yet are fewer
pub way-smaller : (marks : List ℕ) (o c : ℕ) → c < length marks → get_or marks c 0 ≡ 0 → sum_by (λ x. (o + 1) - x) (set marks c (o + 1)) < sum_by (λ x. (o + 1) - x) marks
way-smaller marks o c l fresh = let s = sum_by-set (λ x. (o + 1) - x) marks c (o + 1) 0 l in omega arith

pub way-step : (m : ModelData) (old marks : List ℕ) (o at c : ℕ) → Kept m → IsWay m old marks o at → IsContainer m at c → IsLive m c → get_or marks c 0 ≡ 0 → IsWay m old (set marks c (o + 1)) o c
way-step m old marks o at c kept w up live fresh =
    let below : c < length m.objects = live-below m c live in
    let inside : c < length marks = (let e = w.count in omega arith) in
    let here : get_or (set marks c (o + 1)) c 0 ≡ o + 1 = set_here marks c (o + 1) inside in
    record {
      live = live;
      count = length-set marks c (o + 1) ∙ w.count;
      kept = λ x h. set_there marks c x (o + 1) (λ e. let z : get_or marks x 0 ≡ 0 = ap (λ y. get_or marks y 0) e ∙ fresh in let s = w.kept x h in omega arith) ∙ w.kept x h;
      new = λ x h p. elim (cases_eq x c) [
        | inl e ↦ (ap (λ y. get_or (set marks c (o + 1)) y 0) e ∙ here, ([], e))
        | inr ne ↦ (
            let s = set_there marks c x (o + 1) ne in
            let p' : 0 < get_or marks x 0 = omega arith in
            let (mark, to) = w.new x h p' in
            (s ∙ mark, leads-up m x at c to up))
      ];
      start = set_more marks c o (o + 1) inside (omega arith) w.start;
      closed = λ x a h p over. elim (cases_eq x c) [
        | inl e ↦ inr e
        | inr ne ↦ (
            let s = set_there marks c x (o + 1) ne in
            let p' : 0 < get_or marks x 0 = omega arith in
            elim (w.closed x a h p' over) [
              | inl q ↦ inl (set_more marks c a (o + 1) inside (omega arith) q)
              | inr e ↦ inl (
                  let same : a ≡ c = container-same m at a c kept (subst (λ y. IsContainer m y a) e over) up in
                  let t : get_or (set marks c (o + 1)) a 0 ≡ o + 1 = ap (λ y. get_or (set marks c (o + 1)) y 0) same ∙ here in omega arith)
            ])
      ];
    }

-- ---- the end of a walk

pub way-marked : (m : ModelData) (old marks : List ℕ) (o at : ℕ) → IsMarked m old o → IsWay m old marks o at → ((a : ℕ) → IsContainer m at a → 0 < get_or marks a 0) → IsMarked m marks (o + 1)
way-marked m old marks o at k w last = record {
  count = w.count;
  most = λ x. elim (cases_lt 0 (get_or old x 0)) [
    | inl l ↦ (let s = w.kept x l in let t = k.most x in omega arith)
    | inr le ↦ elim (cases_lt 0 (get_or marks x 0)) [
      | inl p ↦ (let z : get_or old x 0 ≡ 0 = omega arith in let (mark, to) = w.new x z p in omega arith)
      | inr q ↦ omega arith
    ]
  ];
  closed = λ x a p up. elim (cases_lt 0 (get_or old x 0)) [
    | inl l ↦ (let h = k.closed x a l up in let s = w.kept a h in omega arith)
    | inr le ↦ (
        let z : get_or old x 0 ≡ 0 = omega arith in
        elim (w.closed x a z p up) [
          | inl q ↦ q
          | inr e ↦ last a (subst (λ y. IsContainer m y a) e up)
        ])
  ];
}

-- the only container of an object has a mark
pub last-marked : (m : ModelData) (marks : List ℕ) (at c : ℕ) → Kept m → IsContainer m at c → 0 < get_or marks c 0 → (a : ℕ) → IsContainer m at a → 0 < get_or marks a 0
last-marked m marks at c kept up h a over = subst (λ y. 0 < get_or marks y 0) (container-same m at c a kept up over) h

-- the mark of the walk itself: the way ends in a cycle
pub way-cycle : (m : ModelData) (old marks : List ℕ) (o at c : ℕ) → IsMarked m old o → IsWay m old marks o at → IsContainer m at c → get_or marks c 0 ≡ o + 1 → IsOnCycle m c
way-cycle m old marks o at c k w up mark = elim (cases_lt 0 (get_or old c 0)) [
  | inl l ↦ absurd (let s = w.kept c l in let t = k.most c in omega arith)
  | inr le ↦ (
      let z : get_or old c 0 ≡ 0 = omega arith in
      let p : 0 < get_or marks c 0 = omega arith in
      let (mark', (path, h)) = w.new c z p in
      path-cycle m c path at h up)
]

pub way-around : (m : ModelData) (old marks : List ℕ) (o at c : ℕ) → Kept m → IsWay m old marks o at → IsContainer m at c → (x : ℕ) → IsPassedNow old marks x → IsOnCycle m x → LeadsTo m c x
way-around m old marks o at c kept w up x now cycle = (leads_back m x c kept cycle (leads-up m x at c (w.new x now.before now.now).1 up)).1

-- a top object at the end
pub way-top : (m : ModelData) (old marks : List ℕ) (o at : ℕ) → Kept m → IsWay m old marks o at → IsTop m at → (x : ℕ) → IsPassedNow old marks x → IsOnCycle m x → ⊥
way-top m old marks o at kept w top x now cycle = cycle-no_top m x at kept cycle (w.new x now.before now.now).1 top

-- the mark of a walk before
pub way-met : (m : ModelData) (old marks : List ℕ) (o at c : ℕ) → Kept m → IsMarked m old o → IsWay m old marks o at → IsContainer m at c → get_or marks c 0 ≢ o + 1 → 0 < get_or marks c 0
    → (x : ℕ) → IsPassedNow old marks x → IsOnCycle m x → ⊥
way-met m old marks o at c kept k w up other p x now cycle = elim (cases_lt 0 (get_or old c 0)) [
  | inl l ↦ (
      let (path, h) = way-around m old marks o at c kept w up x now cycle in
      let q : 0 < get_or old x 0 = passed-path m old o k c path x h l in
      let z = now.before in omega arith)
  | inr le ↦ (let z : get_or old c 0 ≡ 0 = omega arith in other (w.new c z p).0)
]

-- ---- around a cycle

-- a fact of each element
abbrev pub Each : (ℕ → Type 0) → List ℕ → Type 0
Each P [] = Unit {0}
Each P (x ∷ xs) = P x × Each P xs

each-push : (P : ℕ → Type 0) (xs : List ℕ) (y : ℕ) → Each P xs → P y → Each P (xs ++ y ∷ [])
each-push P [] y h p = (p, tt)
each-push P (x ∷ xs) y (q, h) p = (q, each-push P xs y h p)

each-more : (P Q : ℕ → Type 0) → ((x : ℕ) → P x → Q x) → (xs : List ℕ) → Each P xs → Each Q xs
each-more P Q f [] h = tt
each-more P Q f (x ∷ xs) (p, h) = (f x p, each-more P Q f xs h)

-- the walk around has come from o to `at`, and this is the least on its way
pub record IsRound (m : ModelData) (o at least step : ℕ) : Type 0 where
  pub way : List ℕ
  pub up : IsContainerPath m o way at
  pub each : Each (λ x. least ≤ x) (o ∷ way)
  pub cycle : IsOnCycle m least
  pub on : IsOnCycle m at

pub round-begin : (m : ModelData) (o : ℕ) → IsOnCycle m o → IsRound m o o o 0
round-begin m o cycle = record { way = []; up = refl; each = (omega arith, tt); cycle = cycle; on = cycle }

pub round-step : (m : ModelData) (o at least step c next : ℕ) → Kept m → IsRound m o at least step → IsContainer m at c → next ≤ least → next ≤ c → (next ≡ least) ⊎ (next ≡ c) → IsRound m o c next (step + 1)
round-step m o at least step c next kept r up le below one =
    let on : IsOnCycle m c = (leads_back m at c kept r.on (c ∷ [], (up, refl))).0 in
    record {
      way = r.way ++ c ∷ [];
      up = path-push m o r.way at c r.up up;
      each = each-push (λ x. next ≤ x) (o ∷ r.way) c (each-more (λ x. least ≤ x) (λ x. next ≤ x) (λ x h. omega arith) (o ∷ r.way) r.each) below;
      cycle = elim one [ inl e ↦ subst (λ y. IsOnCycle m y) (sym e) r.cycle | inr e ↦ subst (λ y. IsOnCycle m y) (sym e) on ];
      on = on;
    }

-- an object to which one on the way leads is on the way, where the way has come back to its start
around : (m : ModelData) (o at : ℕ) (way : List ℕ) (P : ℕ → Type 0) → Kept m → IsContainerPath m o way at → Each P (o ∷ way) → IsContainer m at o
    → (path rest : List ℕ) (y x : ℕ) → IsContainerPath m y path x → IsContainerPath m y rest at → Each P (y ∷ rest) → P x
around m o at way P kept whole each back [] rest y x same h on = subst (λ z. P z) same on.0
around m o at way P kept whole each back (b ∷ path) [] y x (first, more) h on =
    let same : o ≡ b = container-same m at o b kept back (subst (λ z. IsContainer m z b) h first) in
    around m o at way P kept whole each back path way b x more (subst (λ z. IsContainerPath m z way at) same whole) (subst (λ z. Each P (z ∷ way)) same each)
around m o at way P kept whole each back (b ∷ path) (c ∷ rest) y x (first, more) (up, h) (p, on) =
    let same : c ≡ b = container-same m y c b kept up first in
    around m o at way P kept whole each back path rest b x more (subst (λ z. IsContainerPath m z rest at) same h) (subst (λ z. Each P (z ∷ rest)) same on)

pub round-least : (m : ModelData) (o at least step : ℕ) → Kept m → IsRound m o at least step → IsContainer m at o → (x : ℕ) → LeadsTo m o x → least ≤ x
round-least m o at least step kept r back x (path, h) = around m o at r.way (λ z. least ≤ z) kept r.up r.each back path r.way o x h r.up r.each

pub lesser_one : (a b n : ObjId) → (n ≡ b) ⊎ (Some n ≡ Some a) → (n.0 ≡ a.0) ⊎ (n.0 ≡ b.0)
lesser_one a b n (inl e) = inr (ap (λ x. x.0) e)
lesser_one a b n (inr e) = inl (let w : n ≡ a = cc in ap (λ x. x.0) w)

-- ---- the search

-- no walk has passed an object yet
pub search-begin : (m : ModelData) (marks : List ℕ) (n : ℕ) → marks ≡ replicate n 0 → n ≡ length m.objects → IsSearched m marks None 0
search-begin m marks n e count =
    let none : (o : ℕ) → get_or marks o 0 ≡ 0 = λ o. ap (λ xs. get_or xs o 0) e ∙ get_or-zeros n o in
    record {
      marked = record {
        count = ap length e ∙ length-replicate n 0 ∙ count;
        most = λ o. (let z = none o in omega arith);
        closed = λ o a p up. absurd (let z = none o in omega arith);
      };
      passed = λ a l live. absurd (omega arith);
      cycle = tt;
      least = λ a p on. absurd (let z = none a in omega arith);
    }

passed-next : (m : ModelData) (marks : List ℕ) (o : ℕ) → ((a : ℕ) → a < o → IsLive m a → 0 < get_or marks a 0) → (IsLive m o → 0 < get_or marks o 0) → (a : ℕ) → a < o + 1 → IsLive m a → 0 < get_or marks a 0
passed-next m marks o before here a l live = elim (cases_lt a o) [
  | inl l' ↦ before a l' live
  | inr le ↦ (
      let e : a ≡ o = omega arith in
      subst (λ y. 0 < get_or marks y 0) (sym e) (here (subst (λ y. IsLive m y) e live)))
]

-- what a walk does to the marks
pub record IsWalked (m : ModelData) (old marks : List ℕ) (o : ℕ) : Type 0 where
  pub marked : IsMarked m marks (o + 1)
  pub more : (x : ℕ) → 0 < get_or old x 0 → 0 < get_or marks x 0
  pub here : 0 < get_or marks o 0

walked-passed : (m : ModelData) (old marks : List ℕ) (least : Option ObjId) (o : ℕ) → IsSearched m old least o → IsWalked m old marks o → (a : ℕ) → a < o + 1 → IsLive m a → 0 < get_or marks a 0
walked-passed m old marks least o s w = passed-next m marks o (λ a l live. w.more a (s.passed a l live)) (λ live. w.here)

at_most-le : (least : Option ObjId) (n a : ℕ) → IfSome least (λ b. n ≤ b.0) → IsAtMost least a → n ≤ a
at_most-le None n a h below = absurd below
at_most-le (Some b) n a h below = let h' : n ≤ b.0 = h in let g : b.0 ≤ a = below in omega arith

-- a walk that met a cycle, of which `found` is the least object; `next` is the lesser one
pub search-some : (m : ModelData) (old marks : List ℕ) (least : Option ObjId) (o on : ℕ) (found next : ObjId) → IsSearched m old least o → IsWalked m old marks o
    → ((x : ℕ) → IsPassedNow old marks x → IsOnCycle m x → LeadsTo m on x) → ((x : ℕ) → LeadsTo m on x → found.0 ≤ x) → IsOnCycle m found.0
    → next.0 ≤ found.0 → IfSome least (λ b. next.0 ≤ b.0) → (next ≡ found) ⊎ (Some next ≡ least) → IsSearched m marks (Some next) (o + 1)
search-some m old marks least o on found next s w around least_is cycle le before one = record {
  marked = w.marked;
  passed = walked-passed m old marks least o s w;
  cycle = elim one [
    | inl e ↦ subst (λ y. IsOnCycle m y.0) (sym e) cycle
    | inr e ↦ subst (λ r. IfSome r (λ b. IsOnCycle m b.0)) (sym e) s.cycle
  ];
  least = λ a p on_cycle. elim (cases_lt 0 (get_or old a 0)) [
    | inl l ↦ at_most-le least next.0 a before (s.least a l on_cycle)
    | inr le' ↦ (
        let near : found.0 ≤ a = least_is a (around a (record { before = omega arith; now = p }) on_cycle) in
        let g : next.0 ≤ a = omega arith in g)
  ];
}

-- at the end the least object on a cycle is found, or there is no cycle
pub search-least : (m : ModelData) (marks : List ℕ) (found : Option ObjId) (n : ℕ) → IsSearched m marks found n → n ≡ length m.objects → IfSome found (λ o. IsLeastOnCycle m o.0)
search-least m marks None n s e = tt
search-least m marks (Some b) n s e = record {
  cycle = s.cycle;
  least = λ a l cycle.
      let live = cycle-live m a cycle in
      let below : a < length m.objects = live-below m a live in
      let le : b.0 ≤ a = s.least a (s.passed a (omega arith) live) cycle in
      absurd (omega arith);
}

pub search-acyclic : (m : ModelData) (marks : List ℕ) (found : Option ObjId) (n : ℕ) → IsSearched m marks found n → n ≡ length m.objects → IfNone found (IsAcyclic m)
search-acyclic m marks (Some b) n s e = tt
search-acyclic m marks None n s e = λ o cycle.
    let live = cycle-live m o cycle in
    let below : o < length m.objects = live-below m o live in
    s.least o (s.passed o (omega arith) live) cycle
