-- What an arena shows, after twins are joined or parted.
use Rattle.std.proofs.Common.{◌≡◌, ◌≢◌, ℕ, ◌<◌, ◌-◌, List, [], ◌∷◌, ◌++◌, length, get_or, map, refl, sym, ◌∙◌, ap, subst, arith, inl, inr, zero, suc, true, false, eqb, eq-eqb, ne_eqb}
use Rattle.std.proofs.lemmas.Bool.{cases_eq}
use Rattle.std.proofs.lemmas.List.{get_or-set_same, get_or-set_other, length-set, length-map, length-drop, ext_get_or, map-append}
use Rattle.link_arena.specs.Links.{without, with_last, without_other, others_of, joined_ends, parted}
use Rattle.link_arena.specs.Lists.{moved_to}
use Rattle.link_arena.specs.Twins.{twin, other, shown, IsTwinned, IsRewritten}
use Rattle.link_arena.proofs.Twins.{twin-twin, twin_kept, twin_of_second}
use Rattle.link_arena.proofs.Members.{IsIn}

pub get_or-map_nil : (f : ℕ → ℕ) (L : List (List ℕ)) (j : ℕ) → get_or (map (map f) L) j [] ≡ map f (get_or L j [])
get_or-map_nil f [] j = refl
get_or-map_nil f (x ∷ L) zero = refl
get_or-map_nil f (x ∷ L) (suc j) = get_or-map_nil f L j

pub at_shown : (O : List ℕ) (L : List (List ℕ)) (e : ℕ) → get_or (shown O L) e [] ≡ map (other O) (get_or L (suc e) [])
at_shown O [] e = refl
at_shown O (x ∷ L) e = get_or-map_nil (other O) L e

pub length-shown : (O : List ℕ) (L : List (List ℕ)) → length (shown O L) ≡ length L - 1
length-shown O L = length-drop 1 (map (map (other O)) L) ∙ ap (λ (n : ℕ). n - 1) (length-map L (map (other O)))

pub map-same : (f g : ℕ → ℕ) (xs : List ℕ) → ((x : ℕ) → IsIn x xs → f x ≡ g x) → map f xs ≡ map g xs
map-same f g [] same = refl
map-same f g (x ∷ xs) same =
    ap (λ (l : List ℕ). f x ∷ l) (map-same f g xs (λ y h. same y (inr h))) ∙ ap (λ (k : ℕ). k ∷ map g xs) (same x (inl refl))

pub map-without : (f g : ℕ → ℕ) (s b : ℕ) (xs : List ℕ) → ((x : ℕ) → IsIn x xs → x ≢ s → (f x ≡ g x) × (g x ≢ b)) → g s ≡ b
    → map f (without s xs) ≡ without b (map g xs)
map-without f g s b [] same is = refl
map-without f g s b (x ∷ xs) same is =
    let rest : map f (without s xs) ≡ without b (map g xs) = map-without f g s b xs (λ y h n. same y (inr h) n) is in
    elim (cases_eq x s) [
      | inl e ↦
          let test : eqb x s ≡ true = eq-eqb x s e in
          let test2 : eqb (g x) b ≡ true = eq-eqb (g x) b (ap g e ∙ is) in
          rw (test, test2) rest
      | inr n ↦
          let both : (f x ≡ g x) × (g x ≢ b) = same x (inl refl) n in
          let test : eqb x s ≡ false = ne_eqb x s n in
          let test2 : eqb (g x) b ≡ false = ne_eqb (g x) b both.1 in
          rw (test, test2) (ap (λ (l : List ℕ). f x ∷ l) rest ∙ ap (λ (k : ℕ). k ∷ without b (map g xs)) both.0)
    ]

-- a half that moves

pub length-moved : (L : List (List ℕ)) (from to x : ℕ) → length (moved_to L from to x) ≡ length L
length-moved L from to x =
    length-set (without_other L from x) to (others_of (without_other L from x) to ++ x ∷ []) ∙ length-set L from (without x (others_of L from))

pub moved_at_to : (L : List (List ℕ)) (from to x : ℕ) → to < length L → to ≢ from → get_or (moved_to L from to x) to [] ≡ get_or L to [] ++ x ∷ []
moved_at_to L from to x within n =
    let M : List (List ℕ) = without_other L from x in
    let w : to < length M = subst (λ (k : ℕ). to < k) (sym (length-set L from (without x (others_of L from)))) within in
    get_or-set_same M to (others_of M to ++ x ∷ []) [] w
    ∙ ap (λ (l : List ℕ). l ++ x ∷ []) (get_or-set_other L from to (without x (others_of L from)) [] n)

pub moved_at_from : (L : List (List ℕ)) (from to x : ℕ) → from < length L → from ≢ to → get_or (moved_to L from to x) from [] ≡ without x (get_or L from [])
moved_at_from L from to x within n =
    let M : List (List ℕ) = without_other L from x in
    get_or-set_other M to from (others_of M to ++ x ∷ []) [] n
    ∙ get_or-set_same L from (without x (others_of L from)) [] within

pub moved_at_other : (L : List (List ℕ)) (from to x j : ℕ) → j ≢ from → j ≢ to → get_or (moved_to L from to x) j [] ≡ get_or L j []
moved_at_other L from to x j n m =
    let M : List (List ℕ) = without_other L from x in
    get_or-set_other M to j (others_of M to ++ x ∷ []) [] m
    ∙ get_or-set_other L from j (without x (others_of L from)) [] n

-- two free twins are joined

pub view-joined : (O N : List ℕ) (L : List (List ℕ)) (s a b : ℕ)
    → ((j u : ℕ) → IsIn u (get_or L j []) → get_or O u 0 ≡ j)
    → IsRewritten O N s (suc a) (suc b) → get_or O s 0 ≡ 0 → get_or O (twin s) 0 ≡ 0
    → suc a < length L → suc b < length L → a ≢ b
    → shown N (moved_to (moved_to L 0 (suc a) s) 0 (suc b) (twin s)) ≡ joined_ends (shown O L) a b
view-joined O N L s a b owned w free twin_free a_in b_in differ =
    let t : ℕ = twin s in
    let A : ℕ = suc a in
    let B : ℕ = suc b in
    let V : List (List ℕ) = shown O L in
    let L1 : List (List ℕ) = moved_to L 0 A s in
    let L2 : List (List ℕ) = moved_to L1 0 B t in
    let one : length L1 ≡ length L = length-moved L 0 A s in
    let two : length L2 ≡ length L = length-moved L1 0 B t ∙ one in
    let A0 : A ≢ 0 = omega arith in
    let B0 : B ≢ 0 = omega arith in
    let AB : A ≢ B = omega arith in
    let BA : B ≢ A = omega arith in
    let ba : b ≢ a = omega arith in
    let b_in1 : B < length L1 = subst (λ (n : ℕ). B < n) (sym one) b_in in
    let lenV : length V ≡ length L - 1 = length-shown O L in
    let a_V : a < length V = omega arith in
    let W : List (List ℕ) = with_last V a b in
    let lenW : length W ≡ length V = length-set V a (others_of V a ++ b ∷ []) in
    let b_W : b < length W = omega arith in
    let lens : length (shown N L2) ≡ length (joined_ends V a b) =
    length-shown N L2 ∙ (ap (λ (n : ℕ). n - 1) two ∙ (sym lenV ∙ (sym lenW ∙ sym (length-set W b (others_of W b ++ a ∷ []))))) in
    let kept : (e : ℕ) → map (other N) (get_or L (suc e) []) ≡ map (other O) (get_or L (suc e) []) = λ e.
    map-same (other N) (other O) (get_or L (suc e) []) (λ u h.
    let own : get_or O u 0 ≡ suc e = owned (suc e) u h in
    let n : u ≢ s = λ same. (let k : suc e ≡ 0 = sym own ∙ (ap (λ (i : ℕ). get_or O i 0) same ∙ free) in omega arith) in
    let m : u ≢ t = λ same. (let k : suc e ≡ 0 = sym own ∙ (ap (λ (i : ℕ). get_or O i 0) same ∙ twin_free) in omega arith) in
    ap (λ (k : ℕ). k - 1) (twin_kept O N s A B w u n m)) in
    let leads_s : other N s ≡ b = ap (λ (k : ℕ). k - 1) w.at_second ∙ (let k : suc b - 1 ≡ b = omega arith in k) in
    let leads_t : other N t ≡ a = ap (λ (k : ℕ). k - 1) (twin_of_second O N s A B w) ∙ (let k : suc a - 1 ≡ a = omega arith in k) in
    ext_get_or [] (shown N L2) (joined_ends V a b) lens (λ e h.
    at_shown N L2 e ∙ elim (cases_eq e a) [
      | inl ea ↦
          let here : get_or L2 A [] ≡ get_or L A [] ++ s ∷ [] = moved_at_other L1 0 B t A A0 AB ∙ moved_at_to L 0 A s a_in A0 in
          let left : map (other N) (get_or L2 A []) ≡ map (other O) (get_or L A []) ++ b ∷ [] =
          ap (map (other N)) here ∙ (map-append (other N) (get_or L A []) (s ∷ [])
          ∙ (ap (λ (l : List ℕ). l ++ other N s ∷ []) (kept a) ∙ ap (λ (k : ℕ). map (other O) (get_or L A []) ++ k ∷ []) leads_s)) in
          let right : get_or (joined_ends V a b) a [] ≡ map (other O) (get_or L A []) ++ b ∷ [] =
          get_or-set_other W b a (others_of W b ++ a ∷ []) [] differ
          ∙ (get_or-set_same V a (others_of V a ++ b ∷ []) [] a_V ∙ ap (λ (l : List ℕ). l ++ b ∷ []) (at_shown O L a)) in
          subst (λ (i : ℕ). map (other N) (get_or L2 (suc i) []) ≡ get_or (joined_ends V a b) i []) (sym ea) (left ∙ sym right)
      | inr na ↦ elim (cases_eq e b) [
        | inl eb ↦
            let here : get_or L2 B [] ≡ get_or L B [] ++ t ∷ [] =
            moved_at_to L1 0 B t b_in1 B0 ∙ ap (λ (l : List ℕ). l ++ t ∷ []) (moved_at_other L 0 A s B B0 BA) in
            let left : map (other N) (get_or L2 B []) ≡ map (other O) (get_or L B []) ++ a ∷ [] =
            ap (map (other N)) here ∙ (map-append (other N) (get_or L B []) (t ∷ [])
            ∙ (ap (λ (l : List ℕ). l ++ other N t ∷ []) (kept b) ∙ ap (λ (k : ℕ). map (other O) (get_or L B []) ++ k ∷ []) leads_t)) in
            let right : get_or (joined_ends V a b) b [] ≡ map (other O) (get_or L B []) ++ a ∷ [] =
            get_or-set_same W b (others_of W b ++ a ∷ []) [] b_W
            ∙ ap (λ (l : List ℕ). l ++ a ∷ []) (get_or-set_other V a b (others_of V a ++ b ∷ []) [] ba ∙ at_shown O L b) in
            subst (λ (i : ℕ). map (other N) (get_or L2 (suc i) []) ≡ get_or (joined_ends V a b) i []) (sym eb) (left ∙ sym right)
        | inr nb ↦
            let e0 : suc e ≢ 0 = omega arith in
            let eA : suc e ≢ A = omega arith in
            let eB : suc e ≢ B = omega arith in
            ap (map (other N)) (moved_at_other L1 0 B t (suc e) e0 eB ∙ moved_at_other L 0 A s (suc e) e0 eA)
            ∙ (kept e ∙ (sym (at_shown O L e) ∙ (sym (get_or-set_other V a e (others_of V a ++ b ∷ []) [] na) ∙ sym (get_or-set_other W b e (others_of W b ++ a ∷ []) [] nb))))
      ]
    ])

-- twins are parted

pub rewritten-twin : (O N : List ℕ) (s a b : ℕ) → IsRewritten O N s a b → IsRewritten O N (twin s) b a
rewritten-twin O N s a b w = record {
  at_first = w.at_second;
  at_second = twin_of_second O N s a b w;
  rest = λ u n m. w.rest u (λ e. m (e ∙ sym (twin-twin s))) n;
  len = w.len;
}

cut_view : (O N : List ℕ) (L : List (List ℕ)) (s a b : ℕ) → ((j u : ℕ) → IsIn u (get_or L j []) → get_or O u 0 ≡ j) → IsTwinned O
    → IsRewritten O N s 0 0 → get_or O s 0 ≡ suc a → get_or O (twin s) 0 ≡ suc b
    → map (other N) (without s (get_or L (suc a) [])) ≡ without b (map (other O) (get_or L (suc a) []))
cut_view O N L s a b owned ok w at_s at_t =
    let differ : suc b ≢ suc a = λ e. ok.apart s (λ z. (let k : suc a ≡ 0 = sym at_s ∙ z in omega arith)) (at_t ∙ (e ∙ sym at_s)) in
    map-without (other N) (other O) s b (get_or L (suc a) []) (λ u h n.
    let own : get_or O u 0 ≡ suc a = owned (suc a) u h in
    let m : u ≢ twin s = λ e. differ (sym at_t ∙ (ap (λ (i : ℕ). get_or O i 0) (sym e) ∙ own)) in
    let some : get_or O u 0 ≢ 0 = λ z. (let k : suc a ≡ 0 = sym own ∙ z in omega arith) in
    let twin_some : get_or O (twin u) 0 ≢ 0 = λ z. some (ap (λ (i : ℕ). get_or O i 0) (sym (twin-twin u)) ∙ ok.free (twin u) z) in (
      ap (λ (k : ℕ). k - 1) (twin_kept O N s 0 0 w u n m),
      λ e. n (ok.single u s some (own ∙ sym at_s) (let k : get_or O (twin u) 0 ≡ get_or O (twin s) 0 = (let e' : get_or O (twin u) 0 - 1 ≡ b = e in omega arith) in k)),
    ))
    (ap (λ (k : ℕ). k - 1) at_t ∙ (let k : suc b - 1 ≡ b = omega arith in k))

pub view-parted : (O N : List ℕ) (L : List (List ℕ)) (s a b : ℕ)
    → ((j u : ℕ) → IsIn u (get_or L j []) → get_or O u 0 ≡ j) → IsTwinned O
    → IsRewritten O N s 0 0 → get_or O s 0 ≡ suc a → get_or O (twin s) 0 ≡ suc b
    → suc a < length L → suc b < length L
    → shown N (moved_to (moved_to L (suc a) 0 s) (suc b) 0 (twin s)) ≡ parted (shown O L) a b
view-parted O N L s a b owned ok w at_s at_t a_in b_in =
    let t : ℕ = twin s in
    let A : ℕ = suc a in
    let B : ℕ = suc b in
    let V : List (List ℕ) = shown O L in
    let L1 : List (List ℕ) = moved_to L A 0 s in
    let L2 : List (List ℕ) = moved_to L1 B 0 t in
    let one : length L1 ≡ length L = length-moved L A 0 s in
    let two : length L2 ≡ length L = length-moved L1 B 0 t ∙ one in
    let A0 : A ≢ 0 = omega arith in
    let B0 : B ≢ 0 = omega arith in
    let BA : B ≢ A = λ e. ok.apart s (λ z. (let k : suc a ≡ 0 = sym at_s ∙ z in omega arith)) (at_t ∙ (e ∙ sym at_s)) in
    let AB : A ≢ B = λ e. BA (sym e) in
    let ab : a ≢ b = λ e. AB (ap suc e) in
    let ba : b ≢ a = λ e. BA (ap suc e) in
    let b_in1 : B < length L1 = subst (λ (n : ℕ). B < n) (sym one) b_in in
    let lenV : length V ≡ length L - 1 = length-shown O L in
    let a_V : a < length V = omega arith in
    let W : List (List ℕ) = without_other V a b in
    let lenW : length W ≡ length V = length-set V a (without b (others_of V a)) in
    let b_W : b < length W = omega arith in
    let lens : length (shown N L2) ≡ length (parted V a b) =
    length-shown N L2 ∙ (ap (λ (n : ℕ). n - 1) two ∙ (sym lenV ∙ (sym lenW ∙ sym (length-set W b (without a (others_of W b)))))) in
    let kept : (e : ℕ) → suc e ≢ A → suc e ≢ B → map (other N) (get_or L (suc e) []) ≡ map (other O) (get_or L (suc e) []) = λ e nA nB.
    map-same (other N) (other O) (get_or L (suc e) []) (λ u h.
    let own : get_or O u 0 ≡ suc e = owned (suc e) u h in
    let n : u ≢ s = λ same. nA (sym own ∙ (ap (λ (i : ℕ). get_or O i 0) same ∙ at_s)) in
    let m : u ≢ t = λ same. nB (sym own ∙ (ap (λ (i : ℕ). get_or O i 0) same ∙ at_t)) in
    ap (λ (k : ℕ). k - 1) (twin_kept O N s 0 0 w u n m)) in
    ext_get_or [] (shown N L2) (parted V a b) lens (λ e h.
    at_shown N L2 e ∙ elim (cases_eq e a) [
      | inl ea ↦
          let here : get_or L2 A [] ≡ without s (get_or L A []) = moved_at_other L1 B 0 t A AB A0 ∙ moved_at_from L A 0 s a_in A0 in
          let left : map (other N) (get_or L2 A []) ≡ without b (map (other O) (get_or L A [])) =
          ap (map (other N)) here ∙ cut_view O N L s a b owned ok w at_s at_t in
          let right : get_or (parted V a b) a [] ≡ without b (map (other O) (get_or L A [])) =
          get_or-set_other W b a (without a (others_of W b)) [] ab
          ∙ (get_or-set_same V a (without b (others_of V a)) [] a_V ∙ ap (without b) (at_shown O L a)) in
          subst (λ (i : ℕ). map (other N) (get_or L2 (suc i) []) ≡ get_or (parted V a b) i []) (sym ea) (left ∙ sym right)
      | inr na ↦ elim (cases_eq e b) [
        | inl eb ↦
            let here : get_or L2 B [] ≡ without t (get_or L B []) =
            moved_at_from L1 B 0 t b_in1 B0 ∙ ap (without t) (moved_at_other L A 0 s B BA B0) in
            let left : map (other N) (get_or L2 B []) ≡ without a (map (other O) (get_or L B [])) =
            ap (map (other N)) here ∙ cut_view O N L t b a owned ok (rewritten-twin O N s 0 0 w) at_t (ap (λ (i : ℕ). get_or O i 0) (twin-twin s) ∙ at_s) in
            let right : get_or (parted V a b) b [] ≡ without a (map (other O) (get_or L B [])) =
            get_or-set_same W b (without a (others_of W b)) [] b_W
            ∙ ap (without a) (get_or-set_other V a b (without b (others_of V a)) [] ba ∙ at_shown O L b) in
            subst (λ (i : ℕ). map (other N) (get_or L2 (suc i) []) ≡ get_or (parted V a b) i []) (sym eb) (left ∙ sym right)
        | inr nb ↦
            let e0 : suc e ≢ 0 = omega arith in
            let eA : suc e ≢ A = omega arith in
            let eB : suc e ≢ B = omega arith in
            ap (map (other N)) (moved_at_other L1 B 0 t (suc e) eB e0 ∙ moved_at_other L A 0 s (suc e) eA e0)
            ∙ (kept e eA eB ∙ (sym (at_shown O L e) ∙ (sym (get_or-set_other V a e (without b (others_of V a)) [] na) ∙ sym (get_or-set_other W b e (without a (others_of W b)) [] nb))))
      ]
    ])
