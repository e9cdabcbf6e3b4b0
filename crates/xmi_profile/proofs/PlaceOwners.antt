-- A place of a tree is of one element, but for that directly behind the start tag of a value's element, which may be that of an element
-- in it.
use Rattle.std.proofs.Common.{◌≡◌, ◌⊎◌, ℕ, suc, ◌+◌, ◌<◌, ◌≤◌, Bool, true, false, List, ◌∷◌, ◌++◌, refl, sym, ◌∙◌, ap, arith, subst, inl, inr}
use Rattle.std.specs.Prelude.{Contains, if◌then◌else◌}
use Rattle.std.proofs.lemmas.List.Elements.{Contains-append_cases}
use Rattle.mof_metamodel.specs.declared.desc.MetaDesc.{MetaDesc}
use Rattle.xmi_text.specs.Trees.{Nodes, Ends, Run, Element as Inner, Tree}
use Rattle.model_assembly.specs.declared.fault.Externs.{Externs}
use Rattle.model_assembly.specs.Attributes.{is_skipped_name, is_alien_name, Attrs}
use Rattle.model_assembly.specs.declared.role.Role.{Role}
use Rattle.model_assembly.specs.declared.role.Role.TheVariants.{Document, Skipped, AnObject, AValue, AReference, Neither, Alien, Stranger, Misplaced}
use Rattle.model_assembly.specs.Elements.{Item, role_of_root, role_in, role_in_property, number_in, number_behind, room_of, inner_place, behind_place, items_in, items}
use Rattle.model_assembly.specs.Judged.{runs_in, runs}
use Rattle.model_assembly.proofs.assembling.ListLaws.{in_cons}
use Rattle.mof_metamodel.proofs.Facts.{nothing_in}

-- a place in the start tag of an element, of a run of characters directly in it, or directly behind the start tag of a value's
abbrev pub IsInHead : Item → ℕ → Type 0
IsInHead x q = (x.place ≤ q) × (q < inner_place x.place x.attrs)

pub data IsOf (x : Item) (q : ℕ) : Type 0 where
  of_head : IsInHead x q → IsOf x q
  of_run : (characters : List ℕ) → Contains (runs x) (q, characters) → IsOf x q
  of_value : (o p : ℕ) → x.role ≡ AValue o p → q ≡ inner_place x.place x.attrs → IsOf x q

-- what stands in the element of a value or of a reference
abbrev pub IsBelow : ℕ → ℕ → Role → Type 0
IsBelow o p Skipped = Unit {0}
IsBelow o p Alien = Unit {0}
IsBelow o p (Misplaced a r) = (a ≡ o) × (r ≡ p)
IsBelow o p Document = ⊥
IsBelow o p (AnObject object) = ⊥
IsBelow o p (AValue a r) = ⊥
IsBelow o p (AReference a r target) = ⊥
IsBelow o p (Neither a r) = ⊥
IsBelow o p (Stranger a) = ⊥

-- two elements are one, or the one stands in that of a value
pub data AreOneOrBelow (x y : Item) : Type 0 where
  one : x ≡ y → AreOneOrBelow x y
  below : (o p : ℕ) → x.role ≡ AValue o p → IsBelow o p y.role → AreOneOrBelow x y
  above : (o p : ℕ) → y.role ≡ AValue o p → IsBelow o p x.role → AreOneOrBelow x y

-- ---- runs

run_at : ℕ → List ℕ → ℕ × List ℕ
run_at place characters = (place, characters)

pub runs_within : (nodes : Nodes) (place : ℕ) (run : ℕ × List ℕ) → Contains (runs_in nodes place) run → (place ≤ run.0) × (run.0 < place + room_of nodes)
runs_within Ends place run c = absurd (nothing_in run c)
runs_within (Run characters more) place run c = by (in_cons (place, characters) (runs_in more (suc place)) run c) (runs_within more (suc place) run)
  where
    by : ((place, characters) ≡ run) ⊎ Contains (runs_in more (suc place)) run → (Contains (runs_in more (suc place)) run → (suc place ≤ run.0) × (run.0 < suc place + room_of more)) → (place ≤ run.0) × (run.0 < place + suc (room_of more))
    by (inl e) later = let p : place ≡ run.0 = ap (λ (r : ℕ × List ℕ). r.0) e in (omega (arith, p), omega (arith, p))
    by (inr h) later = let l = later h in (omega (arith, l.0), omega (arith, l.1))
runs_within (Inner name attrs inner more) place run c =
    let l = runs_within more (behind_place place attrs inner) run c in (omega (arith, l.0), omega (arith, l.1))

-- the places of an element lie in it
of_within : (x : Item) (q : ℕ) → IsOf x q → (x.place ≤ q) × (q < behind_place x.place x.attrs x.inner)
of_within x q (of_head h) = (h.0, (let l = h.1 in omega (arith, l)))
of_within x q (of_run characters c) =
    let l = runs_within x.inner (inner_place x.place x.attrs) (q, characters) c in (omega (arith, l.0), omega (arith, l.1))
of_within x q (of_value o p r e) = (omega (arith, e), omega (arith, e))

-- ---- what stands in an element of a value

module _ (meta : MetaDesc) (outside : Externs) (o p : ℕ) where
  -- an element of a value, or what stands in one
  abbrev IsValued : Role → Type 0
  IsValued role = (role ≡ AValue o p) ⊎ IsBelow o p role

  in_property : (a r : ℕ) (name : List ℕ) → a ≡ o → r ≡ p → IsBelow o p (role_in_property a r name)
  in_property a r name e f = by (is_skipped_name name) (is_alien_name name)
    where
      by : (b c : Bool) → IsBelow o p (if b then Skipped else if c then Alien else Misplaced a r)
      by true c = tt
      by false true = tt
      by false false = (e, f)

  below_role : (parent : Role) → IsValued parent → (number : ℕ) (name : List ℕ) (attrs : Attrs) → IsBelow o p (role_in meta outside parent number name attrs)
  below_role parent (inl e) number name attrs =
      subst (λ (role : Role). IsBelow o p (role_in meta outside role number name attrs)) (sym e) (in_property o p name refl refl)
  below_role Skipped (inr h) number name attrs = tt
  below_role Alien (inr h) number name attrs = tt
  below_role (Misplaced a r) (inr h) number name attrs = tt
  below_role Document (inr h) number name attrs = absurd h
  below_role (AnObject object) (inr h) number name attrs = absurd h
  below_role (AValue a r) (inr h) number name attrs = absurd h
  below_role (AReference a r target) (inr h) number name attrs = absurd h
  below_role (Neither a r) (inr h) number name attrs = absurd h
  below_role (Stranger a) (inr h) number name attrs = absurd h

  all_below : (parent : Role) → IsValued parent → (nodes : Nodes) (place number : ℕ) (y : Item) → Contains (items_in meta outside parent nodes place number) y → IsBelow o p y.role
  all_below parent v Ends place number y c = absurd (nothing_in y c)
  all_below parent v (Run characters more) place number y c = all_below parent v more (suc place) number y c
  all_below parent v (Inner name attrs inner more) place number y c =
      by (Contains-append_cases (item ∷ inners) mores y c) (all_below role (inr here) inner (inner_place place attrs) (number_in role number) y)
      (all_below parent v more (behind_place place attrs inner) (number_behind (item ∷ inners) number) y)
    where
      role : Role
      role = role_in meta outside parent number name attrs

      item : Item
      item = record { place = place; role = role; name = name; attrs = attrs; inner = inner }

      inners : List Item
      inners = items_in meta outside role inner (inner_place place attrs) (number_in role number)

      mores : List Item
      mores = items_in meta outside parent more (behind_place place attrs inner) (number_behind (item ∷ inners) number)

      here : IsBelow o p role
      here = below_role parent v number name attrs

      first : (item ≡ y) ⊎ Contains inners y → (Contains inners y → IsBelow o p y.role) → IsBelow o p y.role
      first (inl e) i = subst (λ (x : Item). IsBelow o p x.role) e here
      first (inr h) i = i h

      by : Contains (item ∷ inners) y ⊎ Contains mores y → (Contains inners y → IsBelow o p y.role) → (Contains mores y → IsBelow o p y.role) → IsBelow o p y.role
      by (inl h) i m = first (in_cons item inners y h) i
      by (inr h) i m = m h

-- ---- elements of nodes

module _ (meta : MetaDesc) (outside : Externs) where
  -- the elements lie between these places
  abbrev LieIn : List Item → ℕ → ℕ → Type 0
  LieIn xs from to = (x : Item) → Contains xs x → (from ≤ x.place) × (behind_place x.place x.attrs x.inner ≤ to)

  abbrev AreApart : List Item → Type 0
  AreApart xs = (x y : Item) (q : ℕ) → Contains xs x → Contains xs y → IsOf x q → IsOf y q → AreOneOrBelow x y

  abbrev NoneOf : List Item → ℕ → Type 0
  NoneOf xs q = (x : Item) → Contains xs x → IsOf x q → ⊥

  pub record AreSpread (xs : List Item) (nodes : Nodes) (place : ℕ) : Type 0 where
    pub within : LieIn xs place (place + room_of nodes)
    pub apart : AreApart xs
    pub runs : (run : ℕ × List ℕ) → Contains (runs_in nodes place) run → NoneOf xs run.0

  swapped : (x y : Item) → AreOneOrBelow x y → AreOneOrBelow y x
  swapped x y (one e) = one (sym e)
  swapped x y (below o p r b) = above o p r b
  swapped x y (above o p r b) = below o p r b

  -- an element and what stands in it
  module _ (item : Item) (number : ℕ) (inners : List Item) (is : inners ≡ items_in meta outside item.role item.inner (inner_place item.place item.attrs) number)
      (s : AreSpread inners item.inner (inner_place item.place item.attrs)) where
    inner_of : (y : Item) → Contains inners y → (q : ℕ) → IsOf y q → inner_place item.place item.attrs ≤ q
    inner_of y c q m = let l = (s.within y c).0 in let k = (of_within y q m).0 in omega (arith, l, k)

    item_inner : (y : Item) (q : ℕ) → Contains inners y → IsOf item q → IsOf y q → AreOneOrBelow item y
    item_inner y q c (of_head h) m = let l = inner_of y c q m in let k = h.1 in absurd (omega (arith, l, k))
    item_inner y q c (of_run characters r) m = absurd (s.runs (q, characters) r y c m)
    item_inner y q c (of_value o p r e) m =
        below o p r (all_below meta outside o p item.role (inl r) item.inner (inner_place item.place item.attrs) number y (subst (λ (xs : List Item). Contains xs y) is c))

    first_of : (y : Item) → Contains (item ∷ inners) y → (item ≡ y) ⊎ Contains inners y
    first_of y c = in_cons item inners y c

    own_apart : AreApart (item ∷ inners)
    own_apart x y q c d m n = by (first_of x c) (first_of y d)
      where
        by : (item ≡ x) ⊎ Contains inners x → (item ≡ y) ⊎ Contains inners y → AreOneOrBelow x y
        by (inl e) (inl f) = one (sym e ∙ f)
        by (inl e) (inr g) = subst (λ (z : Item). AreOneOrBelow z y) e (item_inner y q g (subst (λ (z : Item). IsOf z q) (sym e) m) n)
        by (inr f) (inl e) = swapped y x (subst (λ (z : Item). AreOneOrBelow z x) e (item_inner x q f (subst (λ (z : Item). IsOf z q) (sym e) n) m))
        by (inr f) (inr g) = s.apart x y q f g m n

    own_within : LieIn (item ∷ inners) item.place (behind_place item.place item.attrs item.inner)
    own_within y c = by (first_of y c)
      where
        by : (item ≡ y) ⊎ Contains inners y → (item.place ≤ y.place) × (behind_place y.place y.attrs y.inner ≤ behind_place item.place item.attrs item.inner)
        by (inl e) = subst (λ (z : Item). (item.place ≤ z.place) × (behind_place z.place z.attrs z.inner ≤ behind_place item.place item.attrs item.inner)) e (omega arith, omega arith)
        by (inr g) = let l = s.within y g in (omega (arith, l.0), omega (arith, l.1))

  spread : (parent : Role) (nodes : Nodes) (place number : ℕ) → AreSpread (items_in meta outside parent nodes place number) nodes place
  spread parent Ends place number = record {
    within = λ x c. absurd (nothing_in x c);
    apart = λ x y q c d m n. absurd (nothing_in x c);
    runs = λ run r x c m. nothing_in x c;
  }
  spread parent (Run characters more) place number = with_run (spread parent more (suc place) number)
    where
      xs : List Item
      xs = items_in meta outside parent more (suc place) number

      with_run : AreSpread xs more (suc place) → AreSpread xs (Run characters more) place
      with_run s = record {
        within = λ x c. let l = s.within x c in (omega (arith, l.0), omega (arith, l.1));
        apart = s.apart;
        runs = λ run r x c m. by run x c m (in_cons (place, characters) (runs_in more (suc place)) run r);
      }
        where
          by : (run : ℕ × List ℕ) (x : Item) → Contains xs x → IsOf x run.0 → ((place, characters) ≡ run) ⊎ Contains (runs_in more (suc place)) run → ⊥
          by run x c m (inl e) =
              let p : place ≡ run.0 = ap (λ (r : ℕ × List ℕ). r.0) e in let l = (s.within x c).0 in let k = (of_within x run.0 m).0 in omega (arith, p, l, k)
          by run x c m (inr h) = s.runs run h x c m
  spread parent (Inner name attrs inner more) place number =
      with_element (spread role inner (inner_place place attrs) (number_in role number)) (spread parent more (behind_place place attrs inner) (number_behind (item ∷ inners) number))
    where
      role : Role
      role = role_in meta outside parent number name attrs

      item : Item
      item = record { place = place; role = role; name = name; attrs = attrs; inner = inner }

      inners : List Item
      inners = items_in meta outside role inner (inner_place place attrs) (number_in role number)

      mores : List Item
      mores = items_in meta outside parent more (behind_place place attrs inner) (number_behind (item ∷ inners) number)

      with_element : AreSpread inners inner (inner_place place attrs) → AreSpread mores more (behind_place place attrs inner)
          → AreSpread ((item ∷ inners) ++ mores) (Inner name attrs inner more) place
      with_element s t = record { within = within; apart = apart; runs = none }
        where
          own_lie : LieIn (item ∷ inners) place (behind_place place attrs inner)
          own_lie = own_within item (number_in role number) inners refl s

          cases : (x : Item) → Contains ((item ∷ inners) ++ mores) x → Contains (item ∷ inners) x ⊎ Contains mores x
          cases x c = Contains-append_cases (item ∷ inners) mores x c

          within : LieIn ((item ∷ inners) ++ mores) place (place + room_of (Inner name attrs inner more))
          within x c = by (cases x c)
            where
              by : Contains (item ∷ inners) x ⊎ Contains mores x → (place ≤ x.place) × (behind_place x.place x.attrs x.inner ≤ place + room_of (Inner name attrs inner more))
              by (inl h) = let l = own_lie x h in (l.0, (let k = l.1 in omega (arith, k)))
              by (inr h) = let l = t.within x h in (omega (arith, l.0), (let k = l.1 in omega (arith, k)))

          -- the places of the first lie before those of the others
          before : (x y : Item) (q : ℕ) → Contains (item ∷ inners) x → Contains mores y → IsOf x q → IsOf y q → ⊥
          before x y q c d m n =
              let a = (own_lie x c).1 in let b = (of_within x q m).1 in let e = (t.within y d).0 in let f = (of_within y q n).0 in omega (arith, a, b, e, f)

          apart : AreApart ((item ∷ inners) ++ mores)
          apart x y q c d m n = by (cases x c) (cases y d)
            where
              by : Contains (item ∷ inners) x ⊎ Contains mores x → Contains (item ∷ inners) y ⊎ Contains mores y → AreOneOrBelow x y
              by (inl f) (inl g) = own_apart item (number_in role number) inners refl s x y q f g m n
              by (inl f) (inr g) = absurd (before x y q f g m n)
              by (inr f) (inl g) = absurd (before y x q g f n m)
              by (inr f) (inr g) = t.apart x y q f g m n

          none : (run : ℕ × List ℕ) → Contains (runs_in more (behind_place place attrs inner)) run → NoneOf ((item ∷ inners) ++ mores) run.0
          none run r x c m = by (cases x c)
            where
              by : Contains (item ∷ inners) x ⊎ Contains mores x → ⊥
              by (inl h) =
                  let l = (runs_within more (behind_place place attrs inner) run r).0 in let a = (own_lie x h).1 in let b = (of_within x run.0 m).1 in omega (arith, l, a, b)
              by (inr h) = t.runs run r x h m

  -- the elements of a tree
  pub tree_apart : (tree : Tree) → AreApart (items meta outside tree)
  tree_apart tree = own_apart item (number_in role 0) (items_in meta outside role tree.inner (inner_place 0 tree.attrs) (number_in role 0)) refl
      (spread role tree.inner (inner_place 0 tree.attrs) (number_in role 0))
    where
      role : Role
      role = role_of_root meta tree.name tree.attrs

      item : Item
      item = record { place = 0; role = role; name = tree.name; attrs = tree.attrs; inner = tree.inner }
