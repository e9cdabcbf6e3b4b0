-- The lists of an arena, after one of them has changed.
use Rattle.std.proofs.Common.{◌≡◌, ◌≢◌, ℕ, ◌<◌, ◌≤◌, ◌+◌, ◌-◌, List, [], ◌∷◌, ◌++◌, length, get_or, set, map, refl, sym, ◌∙◌, ap, subst, arith, inl, inr, zero, suc, reverse, true, false, eqb, eq-eqb, ne_eqb}
use Rattle.std.proofs.lemmas.Bool.{cases_eq}
use Rattle.std.proofs.lemmas.List.{get_or-set_same, get_or-set_other, length-set, length-map, ext_get_or, length-append, length_push}
use Rattle.link_arena.specs.declared.half.Half.{Half}
use Rattle.link_arena.specs.declared.half.Head.{Head}
use Rattle.link_arena.specs.Links.{without}
use Rattle.link_arena.specs.Threads.{walk, IsThread, LeadsThrough, start_past, step_past, start_onto, step_onto, last_or, first_or}
use Rattle.link_arena.specs.Lists.{nexts, previouses, owners, list_of, lists, head_at, list_at, IsThreaded, IsAfter}
use Rattle.link_arena.proofs.Leads.{walk_is, thread-past, thread-beside, thread-onto, thread_onto-beside, around, IsAround, without-around, IsIn-either, IsIn-out_of, IsIn-left, IsIn-right, without_out, distinct-push, back_gives, leads-after, leads-first, reverse-around, last_or-in, last_gives}
use Rattle.link_arena.proofs.Members.{IsIn, IsDistinct, in_from, thread_within, thread_apart, owned_in}

pub get_or-mapped : {X Y : Type 0} (f : X → Y) (xs : List X) (i : ℕ) (d : X) (e : Y) → i < length xs → get_or (map f xs) i e ≡ f (get_or xs i d)
get_or-mapped f [] i d e within = absurd (omega arith)
get_or-mapped f (x ∷ xs) zero d e within = refl
get_or-mapped f (x ∷ xs) (suc i) d e within = let h : i < length xs = omega arith in get_or-mapped f xs i d e h

pub length-walk : (step : List ℕ) (n start : ℕ) → length (walk step n start) ≡ n
length-walk step zero start = refl
length-walk step (suc n) start = ap suc (length-walk step n (get_or step start 0))

no_head : Head
no_head = record { first = 0; last = 0; len = 0 }

pub list_at-is : (heads : List Head) (halves : List Half) (id : ℕ) → id < length heads → list_at heads halves id ≡ list_of halves (head_at heads id)
list_at-is heads halves id within = get_or-mapped (list_of halves) heads id (record { first = 0; last = 0; len = 0 }) [] within

pub length-list_at : (heads : List Head) (halves : List Half) (id : ℕ) → id < length heads → length (list_at heads halves id) ≡ (head_at heads id).len
length-list_at heads halves id within =
    ap length (list_at-is heads halves id within) ∙ length-walk (nexts halves) (head_at heads id).len (head_at heads id).first

pub thread-walk : (halves : List Half) (head : Head) (xs : List ℕ) → IsThread (nexts halves) (previouses halves) head.first head.last xs
    → head.len ≡ length xs → list_of halves head ≡ xs
thread-walk halves head xs t len =
    ap (λ (n : ℕ). walk (nexts halves) n head.first) len ∙ walk_is (nexts halves) head.first xs t.ahead

pub rebuilt : (heads : List Head) (halves : List Half) (id : ℕ) (h' : Head) (halves' : List Half) (xs : List ℕ) → id < length heads
    → IsThread (nexts halves') (previouses halves') h'.first h'.last xs → h'.len ≡ length xs
    → ((j : ℕ) → j < length heads → j ≢ id
    → IsThread (nexts halves') (previouses halves') (head_at heads j).first (head_at heads j).last (list_at heads halves j))
    → ((j s : ℕ) → IsIn s (get_or (set (lists heads halves) id xs) j []) → get_or (owners halves') s 0 ≡ j)
    → IsAfter heads halves (set heads id h') halves' id xs
rebuilt heads halves id h' halves' xs within mine len beside owned =
    let heads' : List Head = set heads id h' in
    let count : length heads' ≡ length heads = length-set heads id h' in
    let here : head_at heads' id ≡ h' = get_or-set_same heads id h' (record { first = 0; last = 0; len = 0 }) within in
    let same_len : length (lists heads' halves') ≡ length (set (lists heads halves) id xs) =
    length-map heads' (list_of halves') ∙ (count ∙ (sym (length-map heads (list_of halves)) ∙ sym (length-set (lists heads halves) id xs))) in
    let in_lists : id < length (lists heads halves) = subst (λ (n : ℕ). id < n) (sym (length-map heads (list_of halves))) within in
    let each : (j : ℕ) → j < length (lists heads' halves') → get_or (lists heads' halves') j [] ≡ get_or (set (lists heads halves) id xs) j [] = λ j h.
    let jn : j < length heads' = subst (λ (n : ℕ). j < n) (length-map heads' (list_of halves')) h in
    let jo : j < length heads = subst (λ (n : ℕ). j < n) count jn in
    elim (cases_eq j id) [
      | inl e ↦
          let at_id : get_or (lists heads' halves') id [] ≡ get_or (set (lists heads halves) id xs) id [] =
          list_at-is heads' halves' id (subst (λ (n : ℕ). id < n) (sym count) within)
          ∙ (ap (list_of halves') here ∙ (thread-walk halves' h' xs mine len ∙ sym (get_or-set_same (lists heads halves) id xs [] in_lists))) in
          subst (λ (k : ℕ). get_or (lists heads' halves') k [] ≡ get_or (set (lists heads halves) id xs) k []) (sym e) at_id
      | inr n ↦
          list_at-is heads' halves' j jn
          ∙ (ap (list_of halves') (get_or-set_other heads id j h' (record { first = 0; last = 0; len = 0 }) n)
          ∙ (thread-walk halves' (head_at heads j) (list_at heads halves j) (beside j jo n) (sym (length-list_at heads halves j jo))
          ∙ sym (get_or-set_other (lists heads halves) id j xs [] n)))
    ] in
    let eq : lists heads' halves' ≡ set (lists heads halves) id xs = ext_get_or [] (lists heads' halves') (set (lists heads halves) id xs) same_len each in
    record {
      threaded = record {
        thread = λ j h.
            let jo : j < length heads = subst (λ (n : ℕ). j < n) count h in
            elim (cases_eq j id) [
              | inl e ↦
                  let list_is : list_at heads' halves' id ≡ xs = ap (λ (l : List (List ℕ)). get_or l id []) eq ∙ get_or-set_same (lists heads halves) id xs [] in_lists in
                  let P : ℕ → Type 0 = λ (k : ℕ). IsThread (nexts halves') (previouses halves') (head_at heads' k).first (head_at heads' k).last (list_at heads' halves' k) in
                  let Q : Head → Type 0 = λ (k : Head). IsThread (nexts halves') (previouses halves') k.first k.last (list_at heads' halves' id) in
                  let R : List ℕ → Type 0 = λ (l : List ℕ). IsThread (nexts halves') (previouses halves') h'.first h'.last l in
                  subst P (sym e) (subst Q (sym here) (subst R (sym list_is) mine))
              | inr n ↦
                  let list_is : list_at heads' halves' j ≡ list_at heads halves j = ap (λ (l : List (List ℕ)). get_or l j []) eq ∙ get_or-set_other (lists heads halves) id j xs [] n in
                  let there : head_at heads' j ≡ head_at heads j = get_or-set_other heads id j h' (record { first = 0; last = 0; len = 0 }) n in
                  let Q : Head → Type 0 = λ (k : Head). IsThread (nexts halves') (previouses halves') k.first k.last (list_at heads' halves' j) in
                  let R : List ℕ → Type 0 = λ (l : List ℕ). IsThread (nexts halves') (previouses halves') (head_at heads j).first (head_at heads j).last l in
                  subst Q (sym there) (subst R (sym list_is) (beside j jo n))
            ];
        owned = λ j s h. owned j s (subst (λ (l : List (List ℕ)). IsIn s (get_or l j [])) eq (in_from (list_at heads' halves' j) s h));
      };
      lists_are = eq;
    }

pub apart_lists : (heads : List Head) (halves : List Half) → IsThreaded heads halves → (id j : ℕ) → j ≢ id
    → (x : ℕ) → IsIn x (list_at heads halves id) → ¬ IsIn x (list_at heads halves j)
apart_lists heads halves ok id j n x here there = n (sym (owned_in ok j x there) ∙ owned_in ok id x here)

thread-by : (N N' P P' : List ℕ) (f f' l l' : ℕ) (xs : List ℕ) → N' ≡ N → P' ≡ P → f' ≡ f → l' ≡ l → IsThread N P f l xs → IsThread N' P' f' l' xs
thread-by N N' P P' f f' l l' xs a b c d t =
    subst (λ (n : List ℕ). IsThread n P' f' l' xs) (sym a)
    (subst (λ (p : List ℕ). IsThread N p f' l' xs) (sym b)
    (subst (λ (k : ℕ). IsThread N P k l' xs) (sym c)
    (subst (λ (k : ℕ). IsThread N P f k xs) (sym d) t)))

-- a half is taken out of its list
pub unlinked : (heads : List Head) (halves : List Half) (id at : ℕ) (h' : Head) (halves' : List Half) → IsThreaded heads halves → id < length heads
    → IsIn at (list_at heads halves id)
    → h'.first ≡ start_past (nexts halves) (head_at heads id).first at
    → h'.last ≡ start_past (previouses halves) (head_at heads id).last at
    → h'.len ≡ (head_at heads id).len - 1
    → nexts halves' ≡ step_past (nexts halves) (head_at heads id).first (get_or (previouses halves) at 0) at
    → previouses halves' ≡ step_past (previouses halves) (head_at heads id).last (get_or (nexts halves) at 0) at
    → owners halves' ≡ owners halves
    → IsAfter heads halves (set heads id h') halves' id (without at (list_at heads halves id))
unlinked heads halves id at h' halves' ok within there first last len nexts_are previouses_are owners_are =
    let h : Head = head_at heads id in
    let N : List ℕ = nexts halves in
    let P : List ℕ = previouses halves in
    let N' : List ℕ = step_past N h.first (get_or P at 0) at in
    let P' : List ℕ = step_past P h.last (get_or N at 0) at in
    let xs : List ℕ = list_at heads halves id in
    let parts : IsAround xs at = around xs at there in
    let ys : List ℕ = parts.before in
    let zs : List ℕ = parts.after in
    let t : IsThread N P h.first h.last (ys ++ at ∷ zs) = subst (IsThread N P h.first h.last) parts.is (ok.thread id within) in
    let cut : without at xs ≡ ys ++ zs = ap (without at) parts.is ∙ without-around ys at zs (thread_apart t) in
    let mine : IsThread (nexts halves') (previouses halves') h'.first h'.last (ys ++ zs) =
    thread-by N' (nexts halves') P' (previouses halves') (start_past N h.first at) h'.first (start_past P h.last at) h'.last (ys ++ zs)
    nexts_are previouses_are first last (thread-past N P h.first h.last ys at zs t) in
    let mine' : IsThread (nexts halves') (previouses halves') h'.first h'.last (without at xs) =
    subst (IsThread (nexts halves') (previouses halves') h'.first h'.last) (sym cut) mine in
    let len1 : length ys + length (at ∷ zs) ≡ h.len = sym (length-append ys (at ∷ zs)) ∙ (ap length (sym parts.is) ∙ length-list_at heads halves id within) in
    let len2 : length (without at xs) ≡ length ys + length zs = ap length cut ∙ length-append ys zs in
    let len' : h'.len ≡ length (without at xs) = omega (arith, len, len1, len2) in
    let in_lists : id < length (lists heads halves) = subst (λ (n : ℕ). id < n) (sym (length-map heads (list_of halves))) within in
    rebuilt heads halves id h' halves' (without at xs) within mine' len'
    (λ j jo n. thread-by N' (nexts halves') P' (previouses halves') (head_at heads j).first (head_at heads j).first (head_at heads j).last (head_at heads j).last (list_at heads halves j)
    nexts_are previouses_are refl refl
    (thread-beside N P h.first h.last ys at zs t (head_at heads j).first (head_at heads j).last (list_at heads halves j)
    (λ x k. apart_lists heads halves ok id j n x (subst (IsIn x) (sym parts.is) k)) (ok.thread j jo)))
    (λ j s k. ap (λ (l : List ℕ). get_or l s 0) owners_are ∙ elim (cases_eq j id) [
      | inl e ↦
          let k1 : IsIn s (get_or (set (lists heads halves) id (without at xs)) id []) = subst (λ (i : ℕ). IsIn s (get_or (set (lists heads halves) id (without at xs)) i [])) e k in
          let k2 : IsIn s (without at xs) = subst (IsIn s) (get_or-set_same (lists heads halves) id (without at xs) [] in_lists) k1 in
          let k3 : IsIn s (ys ++ at ∷ zs) = IsIn-out_of s ys at zs (subst (IsIn s) cut k2) in
          owned_in ok id s (subst (IsIn s) (sym parts.is) k3) ∙ sym e
      | inr n ↦ owned_in ok j s (subst (IsIn s) (get_or-set_other (lists heads halves) id j (without at xs) [] n) k)
    ])

-- a list of different numbers below n has n at most

pub IsIn-without : (x : ℕ) (y : ℕ) (xs : List ℕ) → IsIn x (without y xs) → IsIn x xs × (x ≢ y)
IsIn-without x y [] has = absurd has
IsIn-without x y (z ∷ zs) has =
    elim (cases_eq z y) [
      | inl e ↦
          let test : eqb z y ≡ true = eq-eqb z y e in
          let has' : IsIn x (without y zs) = rw test at has in
          let rest : IsIn x zs × (x ≢ y) = IsIn-without x y zs has' in
          (inr rest.0, rest.1)
      | inr n ↦
          let test : eqb z y ≡ false = ne_eqb z y n in
          let has' : IsIn x (z ∷ without y zs) = rw test at has in
          elim has' [
            | inl same ↦ (inl same, λ e. n (sym same ∙ e))
            | inr later ↦ let rest : IsIn x zs × (x ≢ y) = IsIn-without x y zs later in (inr rest.0, rest.1)
          ]
    ]

pub distinct-without : (y : ℕ) (xs : List ℕ) → IsDistinct xs → IsDistinct (without y xs)
distinct-without y [] apart = tt
distinct-without y (z ∷ zs) apart =
    elim (cases_eq z y) [
      | inl e ↦ let test : eqb z y ≡ true = eq-eqb z y e in rw test (distinct-without y zs apart.1)
      | inr n ↦
          let test : eqb z y ≡ false = ne_eqb z y n in
          rw test (λ h. apart.0 (IsIn-without z y zs h).0, distinct-without y zs apart.1)
    ]

pub length-without_one : (y : ℕ) (xs : List ℕ) → IsDistinct xs → length xs ≤ suc (length (without y xs))
length-without_one y [] apart = omega arith
length-without_one y (z ∷ zs) apart =
    elim (cases_eq z y) [
      | inl e ↦
          let test : eqb z y ≡ true = eq-eqb z y e in
          let same : without y zs ≡ zs = without_out y zs (λ h. apart.0 (subst (λ (k : ℕ). IsIn k zs) (sym e) h)) in
          let len : length (without y zs) ≡ length zs = ap length same in
          rw test (omega (arith, len))
      | inr n ↦ let test : eqb z y ≡ false = ne_eqb z y n in rw test (omega (arith, length-without_one y zs apart.1))
    ]

pub pigeon : (n : ℕ) (xs : List ℕ) → IsDistinct xs → ((x : ℕ) → IsIn x xs → x < n) → length xs ≤ n
pigeon zero [] apart below = omega arith
pigeon zero (x ∷ xs) apart below = let h : x < 0 = below x (inl refl) in absurd (omega arith)
pigeon (suc n) xs apart below =
    let rest : length (without n xs) ≤ n = pigeon n (without n xs) (distinct-without n xs apart)
    (λ x h. let w : IsIn x xs × (x ≢ n) = IsIn-without x n xs h in let lt : x < suc n = below x w.0 in let ne : x ≢ n = w.1 in omega arith) in
    omega (arith, rest, length-without_one n xs apart)

-- a half that stands in no list is put last in one

pub room_for : (heads : List Head) (halves : List Half) (id at : ℕ) → IsThreaded heads halves → id < length heads → at < length halves
    → ¬ IsIn at (list_at heads halves id) → (head_at heads id).len < length halves
room_for heads halves id at ok within at_within out =
    let xs : List ℕ = list_at heads halves id in
    let t : IsThread (nexts halves) (previouses halves) (head_at heads id).first (head_at heads id).last xs = ok.thread id within in
    let count : length (nexts halves) ≡ length halves = length-map halves (λ (s : Half). s.next) in
    let le : length (xs ++ at ∷ []) ≤ length halves = pigeon (length halves) (xs ++ at ∷ []) (distinct-push xs at (thread_apart t) out)
    (λ x h. elim (IsIn-either x xs (at ∷ []) h) [
      | inl e ↦ subst (λ (n : ℕ). x < n) count (thread_within t x e).0
      | inr e ↦ elim e [ inl same ↦ subst (λ (k : ℕ). k < length halves) (sym same) at_within | inr none ↦ absurd none ]
    ]) in
    omega (arith, le, length_push xs at, length-list_at heads halves id within)

pub linked : (heads : List Head) (halves : List Half) (id at : ℕ) (h' : Head) (halves' : List Half) → IsThreaded heads halves → id < length heads
    → at < length halves → ((j : ℕ) → ¬ IsIn at (list_at heads halves j))
    → h'.first ≡ start_onto (head_at heads id).len (head_at heads id).first at
    → h'.last ≡ at
    → h'.len ≡ (head_at heads id).len + 1
    → nexts halves' ≡ step_onto (nexts halves) (head_at heads id).len (head_at heads id).last at
    → previouses halves' ≡ set (previouses halves) at (head_at heads id).last
    → owners halves' ≡ set (owners halves) at id
    → IsAfter heads halves (set heads id h') halves' id (list_at heads halves id ++ at ∷ [])
linked heads halves id at h' halves' ok within at_within out first last len nexts_are previouses_are owners_are =
    let h : Head = head_at heads id in
    let N : List ℕ = nexts halves in
    let P : List ℕ = previouses halves in
    let xs : List ℕ = list_at heads halves id in
    let N' : List ℕ = step_onto N (length xs) h.last at in
    let P' : List ℕ = set P at h.last in
    let t : IsThread N P h.first h.last xs = ok.thread id within in
    let count : length xs ≡ h.len = length-list_at heads halves id within in
    let in_nexts : at < length N = subst (λ (n : ℕ). at < n) (sym (length-map halves (λ (s : Half). s.next))) at_within in
    let in_previouses : at < length P = subst (λ (n : ℕ). at < n) (sym (length-map halves (λ (s : Half). s.previous))) at_within in
    let in_owners : at < length (owners halves) = subst (λ (n : ℕ). at < n) (sym (length-map halves (λ (s : Half). s.owner))) at_within in
    let nexts_are' : nexts halves' ≡ N' = nexts_are ∙ ap (λ (n : ℕ). step_onto N n h.last at) (sym count) in
    let first' : h'.first ≡ start_onto (length xs) h.first at = first ∙ ap (λ (n : ℕ). start_onto n h.first at) (sym count) in
    let mine : IsThread (nexts halves') (previouses halves') h'.first h'.last (xs ++ at ∷ []) =
    thread-by N' (nexts halves') P' (previouses halves') (start_onto (length xs) h.first at) h'.first at h'.last (xs ++ at ∷ [])
    nexts_are' previouses_are first' last (thread-onto N P h.first h.last xs at t (out id) in_nexts in_previouses) in
    let len' : h'.len ≡ length (xs ++ at ∷ []) = omega (arith, len, length_push xs at, count) in
    let in_lists : id < length (lists heads halves) = subst (λ (n : ℕ). id < n) (sym (length-map heads (list_of halves))) within in
    rebuilt heads halves id h' halves' (xs ++ at ∷ []) within mine len'
    (λ j jo n. thread-by N' (nexts halves') P' (previouses halves') (head_at heads j).first (head_at heads j).first (head_at heads j).last (head_at heads j).last (list_at heads halves j)
    nexts_are' previouses_are refl refl
    (thread_onto-beside N P h.first h.last xs at t (head_at heads j).first (head_at heads j).last (list_at heads halves j)
    (λ x k. apart_lists heads halves ok id j n x k) (out j) (ok.thread j jo)))
    (λ j s k. ap (λ (l : List ℕ). get_or l s 0) owners_are ∙ elim (cases_eq j id) [
      | inl e ↦
          let k1 : IsIn s (get_or (set (lists heads halves) id (xs ++ at ∷ [])) id []) = subst (λ (i : ℕ). IsIn s (get_or (set (lists heads halves) id (xs ++ at ∷ [])) i [])) e k in
          let k2 : IsIn s (xs ++ at ∷ []) = subst (IsIn s) (get_or-set_same (lists heads halves) id (xs ++ at ∷ []) [] in_lists) k1 in
          elim (IsIn-either s xs (at ∷ []) k2) [
            | inl old ↦
                let n : s ≢ at = λ same. out id (subst (λ (i : ℕ). IsIn i xs) same old) in
                get_or-set_other (owners halves) at s id 0 n ∙ (owned_in ok id s old ∙ sym e)
            | inr new ↦ elim new [
              | inl same ↦ ap (λ (i : ℕ). get_or (set (owners halves) at id) i 0) same ∙ (get_or-set_same (owners halves) at id 0 in_owners ∙ sym e)
              | inr none ↦ absurd none
            ]
          ]
      | inr n ↦
          let old : IsIn s (list_at heads halves j) = subst (IsIn s) (get_or-set_other (lists heads halves) id j (xs ++ at ∷ []) [] n) k in
          let ne : s ≢ at = λ same. out j (subst (λ (i : ℕ). IsIn i (list_at heads halves j)) same old) in
          get_or-set_other (owners halves) at s id 0 ne ∙ owned_in ok j s old
    ])

-- where the ways of a half that is taken out lead

pub bounds_around : (heads : List Head) (halves : List Half) (id at : ℕ) → IsThreaded heads halves → id < length heads → IsIn at (list_at heads halves id)
    → (at < length halves) × (0 < (head_at heads id).len)
bounds_around heads halves id at ok within there =
    let t : IsThread (nexts halves) (previouses halves) (head_at heads id).first (head_at heads id).last (list_at heads halves id) = ok.thread id within in
    let parts : IsAround (list_at heads halves id) at = around (list_at heads halves id) at there in (
      subst (λ (n : ℕ). at < n) (length-map halves (λ (s : Half). s.next)) (thread_within t at there).0,
      omega (arith, length-list_at heads halves id within, ap length parts.is, length-append parts.before (at ∷ parts.after)),
    )

pub before_within : (heads : List Head) (halves : List Half) (id at : ℕ) → IsThreaded heads halves → id < length heads → IsIn at (list_at heads halves id)
    → (head_at heads id).first ≢ at → get_or (previouses halves) at 0 < length halves
before_within heads halves id at ok within there away =
    let h : Head = head_at heads id in
    let parts : IsAround (list_at heads halves id) at = around (list_at heads halves id) at there in
    let t : IsThread (nexts halves) (previouses halves) h.first h.last (parts.before ++ at ∷ parts.after) = subst (IsThread (nexts halves) (previouses halves) h.first h.last) parts.is (ok.thread id within) in
    let b : ℕ = get_or (previouses halves) at 0 in
    let is : last_or b parts.before ≡ b = back_gives (nexts halves) (previouses halves) h.first h.last parts.before at parts.after t in
    subst (λ (n : ℕ). b < n) (length-map halves (λ (s : Half). s.next)) (first_part (nexts halves) h.first parts.before at parts.after b t.ahead away is (λ x h. (thread_within t x (IsIn-left x parts.before (at ∷ parts.after) h)).0))
  where
    first_part : (step : List ℕ) (start : ℕ) (ys : List ℕ) (at : ℕ) (zs : List ℕ) (b : ℕ) → LeadsThrough step start (ys ++ at ∷ zs) → start ≢ at → last_or b ys ≡ b
        → ((x : ℕ) → IsIn x ys → x < length step) → b < length step
    first_part step start [] at zs b leads away is below = absurd (away leads.0)
    first_part step start (y ∷ ys) at zs b leads away is below = below b (subst (λ (k : ℕ). IsIn k (y ∷ ys)) is (last_or-in y ys))

pub after_within : (heads : List Head) (halves : List Half) (id at : ℕ) → IsThreaded heads halves → id < length heads → IsIn at (list_at heads halves id)
    → (head_at heads id).last ≢ at → get_or (nexts halves) at 0 < length halves
after_within heads halves id at ok within there away =
    let h : Head = head_at heads id in
    let parts : IsAround (list_at heads halves id) at = around (list_at heads halves id) at there in
    let t : IsThread (nexts halves) (previouses halves) h.first h.last (parts.before ++ at ∷ parts.after) = subst (IsThread (nexts halves) (previouses halves) h.first h.last) parts.is (ok.thread id within) in
    let b : ℕ = get_or (nexts halves) at 0 in
    let step : LeadsThrough (nexts halves) b parts.after = leads-after (nexts halves) h.first parts.before at parts.after t.ahead in
    let back : LeadsThrough (previouses halves) h.last (reverse parts.after ++ at ∷ reverse parts.before) = subst (LeadsThrough (previouses halves) h.last) (reverse-around parts.before at parts.after) t.back in
    subst (λ (n : ℕ). b < n) (length-map halves (λ (s : Half). s.next))
    (first_of_rest parts.after b (λ none. away (at_end (previouses halves) h.last parts.after at (reverse parts.before) none back)) (leads-first (nexts halves) b parts.after step)
    (λ x h. (thread_within t x (IsIn-right x parts.before (at ∷ parts.after) (inr h))).0))
  where
    first_of_rest : {n : ℕ} (zs : List ℕ) (b : ℕ) → zs ≢ [] → first_or b zs ≡ b → ((x : ℕ) → IsIn x zs → x < n) → b < n
    first_of_rest [] b some is below = absurd (some refl)
    first_of_rest (z ∷ zs) b some is below = below b (inl (sym is))

    at_end : (step : List ℕ) (start : ℕ) (zs : List ℕ) (at : ℕ) (rest : List ℕ) → zs ≡ [] → LeadsThrough step start (reverse zs ++ at ∷ rest) → start ≡ at
    at_end step start zs at rest none leads =
        let leads' : LeadsThrough step start (reverse [] ++ at ∷ rest) = subst (λ (l : List ℕ). LeadsThrough step start (reverse l ++ at ∷ rest)) none leads in
        leads'.0

pub last_within : (heads : List Head) (halves : List Half) (id : ℕ) → IsThreaded heads halves → id < length heads → 0 < (head_at heads id).len
    → (head_at heads id).last < length halves
last_within heads halves id ok within some =
    let h : Head = head_at heads id in
    let xs : List ℕ = list_at heads halves id in
    let t : IsThread (nexts halves) (previouses halves) h.first h.last xs = ok.thread id within in
    let len : 0 < length xs = omega (arith, length-list_at heads halves id within) in
    subst (λ (n : ℕ). h.last < n) (length-map halves (λ (s : Half). s.next)) (of_some xs h.last len (last_gives (nexts halves) (previouses halves) h.first h.last xs t) (λ x k. (thread_within t x k).0))
  where
    of_some : {n : ℕ} (xs : List ℕ) (b : ℕ) → 0 < length xs → last_or b xs ≡ b → ((x : ℕ) → IsIn x xs → x < n) → b < n
    of_some [] b some is below = absurd (omega arith)
    of_some (x ∷ xs) b some is below = below b (subst (λ (k : ℕ). IsIn k (x ∷ xs)) is (last_or-in x xs))
