-- Twins that are joined, or parted.
use Rattle.std.proofs.Common.{◌≡◌, ◌≢◌, ℕ, ◌<◌, ◌+◌, ◌-◌, ◌%◌, List, length, get_or, set, refl, sym, ◌∙◌, ap, subst, arith, inl, inr, true, false, eqb, eq-eqb, ne_eqb}
use Rattle.std.proofs.lemmas.Bool.{cases_eq}
use Rattle.std.proofs.lemmas.List.{get_or-set_same, get_or-set_other, length-set}
use Rattle.link_arena.specs.Twins.{twin, IsTwinned, IsRewritten}

pub twin-even : (s : ℕ) → s % 2 ≡ 0 → twin s ≡ s + 1
twin-even s e = let test : eqb (s % 2) 0 ≡ true = eq-eqb (s % 2) 0 e in rw test refl

pub twin-odd : (s : ℕ) → s % 2 ≢ 0 → twin s ≡ s - 1
twin-odd s n = let test : eqb (s % 2) 0 ≡ false = ne_eqb (s % 2) 0 n in rw test refl

pub twin-twin : (s : ℕ) → twin (twin s) ≡ s
twin-twin s =
    elim (cases_eq (s % 2) 0) [
      | inl e ↦
          let one : twin s ≡ s + 1 = twin-even s e in
          let odd : (s + 1) % 2 ≢ 0 = omega arith in
          let two : twin (s + 1) ≡ s + 1 - 1 = twin-odd (s + 1) odd in
          ap twin one ∙ (two ∙ (let k : s + 1 - 1 ≡ s = omega arith in k))
      | inr n ↦
          let one : twin s ≡ s - 1 = twin-odd s n in
          let even : (s - 1) % 2 ≡ 0 = omega arith in
          let two : twin (s - 1) ≡ s - 1 + 1 = twin-even (s - 1) even in
          ap twin one ∙ (two ∙ (let k : s - 1 + 1 ≡ s = omega arith in k))
    ]

pub twin-other : (s : ℕ) → twin s ≢ s
twin-other s same =
    elim (cases_eq (s % 2) 0) [
      | inl e ↦ let one : twin s ≡ s + 1 = twin-even s e in let k : s + 1 ≡ s = sym one ∙ same in omega arith
      | inr n ↦ let one : twin s ≡ s - 1 = twin-odd s n in let k : s - 1 ≡ s = sym one ∙ same in omega arith
    ]

pub twin-within : (s n : ℕ) → n % 2 ≡ 0 → s < n → twin s < n
twin-within s n even within =
    elim (cases_eq (s % 2) 0) [
      | inl e ↦ let k : s + 1 < n = omega arith in subst (λ (i : ℕ). i < n) (sym (twin-even s e)) k
      | inr o ↦ let k : s - 1 < n = omega arith in subst (λ (i : ℕ). i < n) (sym (twin-odd s o)) k
    ]

pub twin-from : (s u : ℕ) → twin u ≡ s → u ≡ twin s
twin-from s u e = sym (twin-twin u) ∙ ap twin e

-- which numbers the twins name, after a write

pub rewritten : (O : List ℕ) (s a b : ℕ) → s < length O → twin s < length O → IsRewritten O (set (set O s a) (twin s) b) s a b
rewritten O s a b within twin_within = record {
  at_first = get_or-set_other (set O s a) (twin s) s b 0 (λ e. twin-other s (sym e)) ∙ get_or-set_same O s a 0 within;
  at_second = get_or-set_same (set O s a) (twin s) b 0 (subst (λ (n : ℕ). twin s < n) (sym (length-set O s a)) twin_within);
  rest = λ u n m. get_or-set_other (set O s a) (twin s) u b 0 m ∙ get_or-set_other O s u a 0 n;
  len = length-set (set O s a) (twin s) b ∙ length-set O s a;
}

away : (s u : ℕ) → u ≢ s → u ≢ twin s → (twin u ≢ s) × (twin u ≢ twin s)
away s u n m = (λ e. m (twin-from s u e), λ e. n (sym (twin-twin u) ∙ (ap twin e ∙ twin-twin s)))

pub twin_kept : (O N : List ℕ) (s a b : ℕ) → IsRewritten O N s a b → (u : ℕ) → u ≢ s → u ≢ twin s → get_or N (twin u) 0 ≡ get_or O (twin u) 0
twin_kept O N s a b w u n m = let f : (twin u ≢ s) × (twin u ≢ twin s) = away s u n m in w.rest (twin u) f.0 f.1

pub twin_of_second : (O N : List ℕ) (s a b : ℕ) → IsRewritten O N s a b → get_or N (twin (twin s)) 0 ≡ a
twin_of_second O N s a b w = ap (λ (i : ℕ). get_or N i 0) (twin-twin s) ∙ w.at_first

pub twinned-joined : (O N : List ℕ) (s a b : ℕ) → IsTwinned O → IsRewritten O N s a b → a ≢ 0 → b ≢ 0 → a ≢ b
    → ((u : ℕ) → get_or O u 0 ≡ a → get_or O (twin u) 0 ≢ b) → IsTwinned N
twinned-joined O N s a b ok w a_is b_is differ unjoined = record {
  even = ap (λ (n : ℕ). n % 2) w.len ∙ ok.even;
  free = λ u none.
      let n : u ≢ s = λ e. a_is (sym w.at_first ∙ (ap (λ (i : ℕ). get_or N i 0) (sym e) ∙ none)) in
      let m : u ≢ twin s = λ e. b_is (sym w.at_second ∙ (ap (λ (i : ℕ). get_or N i 0) (sym e) ∙ none)) in
      twin_kept O N s a b w u n m ∙ ok.free u (sym (w.rest u n m) ∙ none);
  apart = λ u some same. elim (cases_eq u s) [
    | inl e ↦
        let P : ℕ → Type 0 = λ (i : ℕ). get_or N (twin i) 0 ≡ get_or N i 0 in
        let same' : get_or N (twin s) 0 ≡ get_or N s 0 = subst P e same in
        differ (sym w.at_first ∙ (sym same' ∙ w.at_second))
    | inr n ↦ elim (cases_eq u (twin s)) [
      | inl e ↦
          let P : ℕ → Type 0 = λ (i : ℕ). get_or N (twin i) 0 ≡ get_or N i 0 in
          let same' : get_or N (twin (twin s)) 0 ≡ get_or N (twin s) 0 = subst P e same in
          differ (sym (twin_of_second O N s a b w) ∙ (same' ∙ w.at_second))
      | inr m ↦
          ok.apart u (λ z. some (w.rest u n m ∙ z)) (sym (twin_kept O N s a b w u n m) ∙ (same ∙ w.rest u n m))
    ]
  ];
  single = λ x y some same twins.
      let at_s : (k : ℕ) → k ≡ s → (get_or N k 0 ≡ a) × (get_or N (twin k) 0 ≡ b) = λ k e. (ap (λ (i : ℕ). get_or N i 0) e ∙ w.at_first, ap (λ (i : ℕ). get_or N (twin i) 0) e ∙ w.at_second) in
      let at_t : (k : ℕ) → k ≡ twin s → (get_or N k 0 ≡ b) × (get_or N (twin k) 0 ≡ a) = λ k e. (ap (λ (i : ℕ). get_or N i 0) e ∙ w.at_second, ap (λ (i : ℕ). get_or N (twin i) 0) e ∙ twin_of_second O N s a b w) in
      let not_ab : (k : ℕ) → k ≢ s → k ≢ twin s → get_or N k 0 ≡ a → get_or N (twin k) 0 ≢ b =
      λ k n m e f. unjoined k (sym (w.rest k n m) ∙ e) (sym (twin_kept O N s a b w k n m) ∙ f) in
      let not_ba : (k : ℕ) → k ≢ s → k ≢ twin s → get_or N k 0 ≡ b → get_or N (twin k) 0 ≢ a =
      λ k n m e f. unjoined (twin k) (sym (twin_kept O N s a b w k n m) ∙ f) (ap (λ (i : ℕ). get_or O i 0) (twin-twin k) ∙ (sym (w.rest k n m) ∙ e)) in
      elim (cases_eq x s) [
        | inl xs ↦ elim (cases_eq y s) [
          | inl ys ↦ xs ∙ sym ys
          | inr yn ↦ elim (cases_eq y (twin s)) [
            | inl yt ↦ absurd (differ (sym (at_s x xs).0 ∙ (same ∙ (at_t y yt).0)))
            | inr ym ↦ absurd (not_ab y yn ym (sym same ∙ (at_s x xs).0) (sym twins ∙ (at_s x xs).1))
          ]
        ]
        | inr xn ↦ elim (cases_eq x (twin s)) [
          | inl xt ↦ elim (cases_eq y s) [
            | inl ys ↦ absurd (differ (sym (at_s y ys).0 ∙ (sym same ∙ (at_t x xt).0)))
            | inr yn ↦ elim (cases_eq y (twin s)) [
              | inl yt ↦ xt ∙ sym yt
              | inr ym ↦ absurd (not_ba y yn ym (sym same ∙ (at_t x xt).0) (sym twins ∙ (at_t x xt).1))
            ]
          ]
          | inr xm ↦ elim (cases_eq y s) [
            | inl ys ↦ absurd (not_ab x xn xm (same ∙ (at_s y ys).0) (twins ∙ (at_s y ys).1))
            | inr yn ↦ elim (cases_eq y (twin s)) [
              | inl yt ↦ absurd (not_ba x xn xm (same ∙ (at_t y yt).0) (twins ∙ (at_t y yt).1))
              | inr ym ↦ ok.single x y (λ z. some (w.rest x xn xm ∙ z)) (sym (w.rest x xn xm) ∙ (same ∙ w.rest y yn ym))
                  (sym (twin_kept O N s a b w x xn xm) ∙ (twins ∙ twin_kept O N s a b w y yn ym))
            ]
          ]
        ]
      ];
}

pub twinned-parted : (O N : List ℕ) (s : ℕ) → IsTwinned O → IsRewritten O N s 0 0 → IsTwinned N
twinned-parted O N s ok w =
    let not_s : (k : ℕ) → get_or N k 0 ≢ 0 → k ≢ s = λ k some e. some (ap (λ (i : ℕ). get_or N i 0) e ∙ w.at_first) in
    let not_t : (k : ℕ) → get_or N k 0 ≢ 0 → k ≢ twin s = λ k some e. some (ap (λ (i : ℕ). get_or N i 0) e ∙ w.at_second) in
    record {
      even = ap (λ (n : ℕ). n % 2) w.len ∙ ok.even;
      free = λ u none. elim (cases_eq u s) [
        | inl e ↦ ap (λ (i : ℕ). get_or N (twin i) 0) e ∙ w.at_second
        | inr n ↦ elim (cases_eq u (twin s)) [
          | inl e ↦ ap (λ (i : ℕ). get_or N (twin i) 0) e ∙ twin_of_second O N s 0 0 w
          | inr m ↦ twin_kept O N s 0 0 w u n m ∙ ok.free u (sym (w.rest u n m) ∙ none)
        ]
      ];
      apart = λ u some same.
          let n : u ≢ s = not_s u some in
          let m : u ≢ twin s = not_t u some in
          ok.apart u (λ z. some (w.rest u n m ∙ z)) (sym (twin_kept O N s 0 0 w u n m) ∙ (same ∙ w.rest u n m));
      single = λ x y some same twins.
          let some_y : get_or N y 0 ≢ 0 = λ z. some (same ∙ z) in
          ok.single x y (λ z. some (w.rest x (not_s x some) (not_t x some) ∙ z))
          (sym (w.rest x (not_s x some) (not_t x some)) ∙ (same ∙ w.rest y (not_s y some_y) (not_t y some_y)))
          (sym (twin_kept O N s 0 0 w x (not_s x some) (not_t x some)) ∙ (twins ∙ twin_kept O N s 0 0 w y (not_s y some_y) (not_t y some_y)));
    }
