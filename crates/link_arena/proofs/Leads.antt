-- Lists that are threaded through a table, after a write to the table.
use Rattle.std.proofs.Common.{◌≡◌, ◌≢◌, ℕ, ◌<◌, List, [], ◌∷◌, ◌++◌, length, get_or, set, reverse, refl, sym, ◌∙◌, ap, subst, inl, inr, ◌⊎◌, zero, suc, true, false, eqb, eq-eqb, ne_eqb}
use Rattle.std.proofs.lemmas.Bool.{cases_eq}
use Rattle.std.proofs.lemmas.List.{get_or-set_same, get_or-set_other, reverse-append, reverse-reverse, append_assoc, length-set}
use Rattle.link_arena.specs.Links.{without}
use Rattle.link_arena.specs.Threads.{walk, LeadsThrough, IsThread, start_past, step_past, start_onto, step_onto, last_or, first_or}
use Rattle.link_arena.proofs.Members.{IsIn, IsDistinct, in_from, pairs_from, thread_within, thread_apart}

-- membership

pub IsIn-left : (x : ℕ) (xs ys : List ℕ) → IsIn x xs → IsIn x (xs ++ ys)
IsIn-left x [] ys has = absurd has
IsIn-left x (z ∷ xs) ys (inl e) = inl e
IsIn-left x (z ∷ xs) ys (inr has) = inr (IsIn-left x xs ys has)

pub IsIn-right : (x : ℕ) (xs ys : List ℕ) → IsIn x ys → IsIn x (xs ++ ys)
IsIn-right x [] ys has = has
IsIn-right x (z ∷ xs) ys has = inr (IsIn-right x xs ys has)

pub IsIn-either : (x : ℕ) (xs ys : List ℕ) → IsIn x (xs ++ ys) → IsIn x xs ⊎ IsIn x ys
IsIn-either x [] ys has = inr has
IsIn-either x (z ∷ xs) ys (inl e) = inl (inl e)
IsIn-either x (z ∷ xs) ys (inr has) = elim (IsIn-either x xs ys has) [ inl h ↦ inl (inr h) | inr h ↦ inr h ]

pub last_or-in : (d : ℕ) (xs : List ℕ) → IsIn (last_or d xs) (d ∷ xs)
last_or-in d [] = inl refl
last_or-in d (x ∷ xs) = inr (last_or-in x xs)

pub last_or-last : (d : ℕ) (xs : List ℕ) (x : ℕ) → last_or d (xs ++ x ∷ []) ≡ x
last_or-last d [] x = refl
last_or-last d (y ∷ xs) x = last_or-last y xs x

pub last_or-reverse : (d : ℕ) (xs : List ℕ) → last_or d (reverse xs) ≡ first_or d xs
last_or-reverse d [] = refl
last_or-reverse d (x ∷ xs) = ap (last_or d) (reverse-append (x ∷ []) xs) ∙ last_or-last d (reverse xs) x

-- steps

pub leads-set : (step : List ℕ) (at : ℕ) (xs : List ℕ) (i v : ℕ) → ¬ IsIn i xs → LeadsThrough step at xs
    → LeadsThrough (set step i v) at xs
leads-set step at [] i v out leads = tt
leads-set step at (x ∷ xs) i v out leads =
    let apart : x ≢ i = λ e. out (inl (sym e)) in
    let same : get_or (set step i v) x 0 ≡ get_or step x 0 = get_or-set_other step i x v 0 apart in
    (leads.0, rw same (leads-set step (get_or step x 0) xs i v (λ h. out (inr h)) leads.1))

pub leads-after : (step : List ℕ) (start : ℕ) (xs : List ℕ) (at : ℕ) (ys : List ℕ)
    → LeadsThrough step start (xs ++ at ∷ ys) → LeadsThrough step (get_or step at 0) ys
leads-after step start [] at ys leads = leads.1
leads-after step start (x ∷ xs) at ys leads = leads-after step (get_or step x 0) xs at ys leads.1

pub leads-first : (step : List ℕ) (start : ℕ) (xs : List ℕ) → LeadsThrough step start xs → first_or start xs ≡ start
leads-first step start [] leads = refl
leads-first step start (x ∷ xs) leads = sym leads.0

pub walk_is : (step : List ℕ) (start : ℕ) (xs : List ℕ) → LeadsThrough step start xs → walk step (length xs) start ≡ xs
walk_is step start [] leads = refl
walk_is step start (x ∷ xs) leads = rw leads.0 (ap (λ (l : List ℕ). x ∷ l) (walk_is step (get_or step x 0) xs leads.1))

pub walk-leads : (step : List ℕ) (n start : ℕ) → LeadsThrough step start (walk step n start)
walk-leads step zero start = tt
walk-leads step (suc n) start = (refl, walk-leads step n (get_or step start 0))

-- a number is taken out

bypass : (step : List ℕ) (start y : ℕ) (ys : List ℕ) (at : ℕ) (zs : List ℕ)
    → LeadsThrough step start (y ∷ ys ++ at ∷ zs) → IsDistinct (y ∷ ys ++ at ∷ zs) → last_or y ys < length step
    → LeadsThrough (set step (last_or y ys) (get_or step at 0)) start (y ∷ ys ++ zs)
bypass step start y [] at zs leads apart within =
    let is : get_or (set step y (get_or step at 0)) y 0 ≡ get_or step at 0 = get_or-set_same step y (get_or step at 0) 0 within in
    (leads.0, rw is (leads-set step (get_or step at 0) zs y (get_or step at 0) (λ h. apart.0 (inr h)) leads.1.1))
bypass step start y (z ∷ ys) at zs leads apart within =
    let b : ℕ = last_or z ys in
    let out : y ≢ b = λ e. apart.0 (IsIn-left y (z ∷ ys) (at ∷ zs) (subst (λ (k : ℕ). IsIn k (z ∷ ys)) (sym e) (last_or-in z ys))) in
    let is : get_or (set step b (get_or step at 0)) y 0 ≡ get_or step y 0 = get_or-set_other step b y (get_or step at 0) 0 out in
    (leads.0, rw is (bypass step (get_or step y 0) z ys at zs leads.1 apart.1 within))

pub step_past-here : (step : List ℕ) (start before at : ℕ) → start ≡ at → step_past step start before at ≡ step
step_past-here step start before at e = let test : eqb start at ≡ true = eq-eqb start at e in rw test refl

pub step_past-away : (step : List ℕ) (start before at : ℕ) → start ≢ at → step_past step start before at ≡ set step before (get_or step at 0)
step_past-away step start before at n = let test : eqb start at ≡ false = ne_eqb start at n in rw test refl

pub start_past-here : (step : List ℕ) (start at : ℕ) → start ≡ at → start_past step start at ≡ get_or step at 0
start_past-here step start at e = let test : eqb start at ≡ true = eq-eqb start at e in rw test refl

pub start_past-away : (step : List ℕ) (start at : ℕ) → start ≢ at → start_past step start at ≡ start
start_past-away step start at n = let test : eqb start at ≡ false = ne_eqb start at n in rw test refl

pub length-step_past : (step : List ℕ) (start before at : ℕ) → length (step_past step start before at) ≡ length step
length-step_past step start before at =
    elim (cases_eq start at) [
      | inl e ↦ ap length (step_past-here step start before at e)
      | inr n ↦ ap length (step_past-away step start before at n) ∙ length-set step before (get_or step at 0)
    ]

pub leads-by : (step step' : List ℕ) (start start' : ℕ) (xs : List ℕ) → step ≡ step' → start ≡ start' → LeadsThrough step' start' xs
    → LeadsThrough step start xs
leads-by step step' start start' xs e f leads =
    subst (λ (t : List ℕ). LeadsThrough t start xs) (sym e) (subst (λ (k : ℕ). LeadsThrough step' k xs) (sym f) leads)

pub leads-past : (step : List ℕ) (start : ℕ) (ys : List ℕ) (at : ℕ) (zs : List ℕ) (before : ℕ)
    → LeadsThrough step start (ys ++ at ∷ zs) → IsDistinct (ys ++ at ∷ zs) → last_or before ys ≡ before
    → ((x : ℕ) → IsIn x ys → x < length step)
    → LeadsThrough (step_past step start before at) (start_past step start at) (ys ++ zs)
leads-past step start [] at zs before leads apart is within =
    leads-by (step_past step start before at) step (start_past step start at) (get_or step at 0) zs (step_past-here step start before at leads.0) (start_past-here step start at leads.0) leads.1
leads-past step start (y ∷ ys) at zs before leads apart is within =
    let away : start ≢ at = λ e. apart.0 (IsIn-right y ys (at ∷ zs) (inl (sym leads.0 ∙ e))) in
    let within' : last_or y ys < length step = within (last_or y ys) (last_or-in y ys) in
    let P : ℕ → Type 0 = λ (b : ℕ). LeadsThrough (set step b (get_or step at 0)) start (y ∷ ys ++ zs) in
    let rest : LeadsThrough (set step before (get_or step at 0)) start (y ∷ ys ++ zs) = subst P is (bypass step start y ys at zs leads apart within') in
    leads-by (step_past step start before at) (set step before (get_or step at 0)) (start_past step start at) start (y ∷ ys ++ zs) (step_past-away step start before at away) (start_past-away step start at away) rest

-- another list is as it was
pub leads-beside : (step : List ℕ) (start : ℕ) (ys : List ℕ) (at : ℕ) (zs : List ℕ) (before : ℕ)
    → LeadsThrough step start (ys ++ at ∷ zs) → IsDistinct (ys ++ at ∷ zs) → last_or before ys ≡ before
    → (other : ℕ) (xs : List ℕ) → ((x : ℕ) → IsIn x ys → ¬ IsIn x xs) → LeadsThrough step other xs
    → LeadsThrough (step_past step start before at) other xs
leads-beside step start [] at zs before leads apart is other xs out there =
    leads-by (step_past step start before at) step other other xs (step_past-here step start before at leads.0) refl there
leads-beside step start (y ∷ ys) at zs before leads apart is other xs out there =
    let away : start ≢ at = λ e. apart.0 (IsIn-right y ys (at ∷ zs) (inl (sym leads.0 ∙ e))) in
    let none : ¬ IsIn before xs = out before (subst (λ (b : ℕ). IsIn b (y ∷ ys)) is (last_or-in y ys)) in
    leads-by (step_past step start before at) (set step before (get_or step at 0)) other other xs (step_past-away step start before at away) refl (leads-set step other xs before (get_or step at 0) none there)

-- a list, and the same backwards

pub IsIn-reverse : (x : ℕ) (xs : List ℕ) → IsIn x (reverse xs) → IsIn x xs
IsIn-reverse x [] has = has
IsIn-reverse x (y ∷ ys) has =
    let has' : IsIn x (reverse ys ++ y ∷ []) = subst (IsIn x) (reverse-append (y ∷ []) ys) has in
    elim (IsIn-either x (reverse ys) (y ∷ []) has') [
      | inl h ↦ inr (IsIn-reverse x ys h)
      | inr h ↦ elim h [ inl e ↦ inl e | inr none ↦ absurd none ]
    ]

pub distinct-push : (xs : List ℕ) (x : ℕ) → IsDistinct xs → ¬ IsIn x xs → IsDistinct (xs ++ x ∷ [])
distinct-push [] x apart out = (λ h. h, tt)
distinct-push (y ∷ ys) x apart out = (
  λ h. elim (IsIn-either y ys (x ∷ []) h) [ inl e ↦ apart.0 e | inr e ↦ elim e [ inl same ↦ out (inl (sym same)) | inr none ↦ none ] ],
  distinct-push ys x apart.1 (λ h. out (inr h)),
)

pub distinct-reverse : (xs : List ℕ) → IsDistinct xs → IsDistinct (reverse xs)
distinct-reverse [] apart = tt
distinct-reverse (x ∷ xs) apart =
    let step : IsDistinct (reverse xs ++ x ∷ []) = distinct-push (reverse xs) x (distinct-reverse xs apart.1) (λ h. apart.0 (IsIn-reverse x xs h)) in
    subst IsDistinct (sym (reverse-append (x ∷ []) xs)) step

pub distinct-out_of : (ys : List ℕ) (at : ℕ) (zs : List ℕ) → IsDistinct (ys ++ at ∷ zs) → IsDistinct (ys ++ zs)
distinct-out_of [] at zs apart = apart.1
distinct-out_of (y ∷ ys) at zs apart = (
  λ h. apart.0 (elim (IsIn-either y ys zs h) [ inl e ↦ IsIn-left y ys (at ∷ zs) e | inr e ↦ IsIn-right y ys (at ∷ zs) (inr e) ]),
  distinct-out_of ys at zs apart.1,
)

pub IsIn-out_of : (x : ℕ) (ys : List ℕ) (at : ℕ) (zs : List ℕ) → IsIn x (ys ++ zs) → IsIn x (ys ++ at ∷ zs)
IsIn-out_of x ys at zs h = elim (IsIn-either x ys zs h) [ inl e ↦ IsIn-left x ys (at ∷ zs) e | inr e ↦ IsIn-right x ys (at ∷ zs) (inr e) ]

pub reverse-around : (ys : List ℕ) (at : ℕ) (zs : List ℕ) → reverse (ys ++ at ∷ zs) ≡ reverse zs ++ at ∷ reverse ys
reverse-around ys at zs =
    reverse-append ys (at ∷ zs)
    ∙ (ap (λ (l : List ℕ). l ++ reverse ys) (reverse-append (at ∷ []) zs)
    ∙ append_assoc (reverse zs) (at ∷ []) (reverse ys))

-- the number before another, as the way back gives it
pub back_gives : (nexts previouses : List ℕ) (first last : ℕ) (ys : List ℕ) (at : ℕ) (zs : List ℕ)
    → IsThread nexts previouses first last (ys ++ at ∷ zs) → last_or (get_or previouses at 0) ys ≡ get_or previouses at 0
back_gives nexts previouses first last ys at zs t =
    let b : ℕ = get_or previouses at 0 in
    let back : LeadsThrough previouses last (reverse zs ++ at ∷ reverse ys) = subst (LeadsThrough previouses last) (reverse-around ys at zs) t.back in
    let after : LeadsThrough previouses b (reverse ys) = leads-after previouses last (reverse zs) at (reverse ys) back in
    ap (last_or b) (sym (reverse-reverse ys)) ∙ (last_or-reverse b (reverse ys) ∙ leads-first previouses b (reverse ys) after)

pub ahead_gives : (nexts previouses : List ℕ) (first last : ℕ) (ys : List ℕ) (at : ℕ) (zs : List ℕ)
    → IsThread nexts previouses first last (ys ++ at ∷ zs) → last_or (get_or nexts at 0) (reverse zs) ≡ get_or nexts at 0
ahead_gives nexts previouses first last ys at zs t =
    let b : ℕ = get_or nexts at 0 in
    last_or-reverse b zs ∙ leads-first nexts b zs (leads-after nexts first ys at zs t.ahead)

-- a number is taken out of its list
pub thread-past : (nexts previouses : List ℕ) (first last : ℕ) (ys : List ℕ) (at : ℕ) (zs : List ℕ)
    → IsThread nexts previouses first last (ys ++ at ∷ zs)
    → IsThread (step_past nexts first (get_or previouses at 0) at) (step_past previouses last (get_or nexts at 0) at)
    (start_past nexts first at) (start_past previouses last at) (ys ++ zs)
thread-past nexts previouses first last ys at zs t =
    let back : LeadsThrough previouses last (reverse zs ++ at ∷ reverse ys) = subst (LeadsThrough previouses last) (reverse-around ys at zs) t.back in
    let apart : IsDistinct (reverse zs ++ at ∷ reverse ys) = subst IsDistinct (reverse-around ys at zs) (distinct-reverse (ys ++ at ∷ zs) (thread_apart t)) in
    record {
      ahead = leads-past nexts first ys at zs (get_or previouses at 0) t.ahead (thread_apart t) (back_gives nexts previouses first last ys at zs t)
          (λ x h. (thread_within t x (IsIn-left x ys (at ∷ zs) h)).0);
      back = subst (LeadsThrough (step_past previouses last (get_or nexts at 0) at) (start_past previouses last at)) (sym (reverse-append ys zs))
          (leads-past previouses last (reverse zs) at (reverse ys) (get_or nexts at 0) back apart (ahead_gives nexts previouses first last ys at zs t)
          (λ x h. (thread_within t x (IsIn-right x ys (at ∷ zs) (inr (IsIn-reverse x zs h)))).1));
      apart = pairs_from (ys ++ zs) (distinct-out_of ys at zs (thread_apart t));
      within = λ x h.
          let w : (x < length nexts) × (x < length previouses) = thread_within t x (IsIn-out_of x ys at zs (in_from (ys ++ zs) x h)) in (
            subst (λ (n : ℕ). x < n) (sym (length-step_past nexts first (get_or previouses at 0) at)) w.0,
            subst (λ (n : ℕ). x < n) (sym (length-step_past previouses last (get_or nexts at 0) at)) w.1,
          );
    }

-- other lists stay, where a number is taken out
pub thread-beside : (nexts previouses : List ℕ) (first last : ℕ) (ys : List ℕ) (at : ℕ) (zs : List ℕ)
    → IsThread nexts previouses first last (ys ++ at ∷ zs) → (f l : ℕ) (xs : List ℕ) → ((x : ℕ) → IsIn x (ys ++ at ∷ zs) → ¬ IsIn x xs)
    → IsThread nexts previouses f l xs
    → IsThread (step_past nexts first (get_or previouses at 0) at) (step_past previouses last (get_or nexts at 0) at) f l xs
thread-beside nexts previouses first last ys at zs t f l xs out other =
    let back : LeadsThrough previouses last (reverse zs ++ at ∷ reverse ys) = subst (LeadsThrough previouses last) (reverse-around ys at zs) t.back in
    let apart : IsDistinct (reverse zs ++ at ∷ reverse ys) = subst IsDistinct (reverse-around ys at zs) (distinct-reverse (ys ++ at ∷ zs) (thread_apart t)) in
    record {
      ahead = leads-beside nexts first ys at zs (get_or previouses at 0) t.ahead (thread_apart t) (back_gives nexts previouses first last ys at zs t) f xs
          (λ x h. out x (IsIn-left x ys (at ∷ zs) h)) other.ahead;
      back = leads-beside previouses last (reverse zs) at (reverse ys) (get_or nexts at 0) back apart (ahead_gives nexts previouses first last ys at zs t) l (reverse xs)
          (λ x h k. out x (IsIn-right x ys (at ∷ zs) (inr (IsIn-reverse x zs h))) (IsIn-reverse x xs k)) other.back;
      apart = other.apart;
      within = λ x h.
          let w : (x < length nexts) × (x < length previouses) = other.within x h in (
            subst (λ (n : ℕ). x < n) (sym (length-step_past nexts first (get_or previouses at 0) at)) w.0,
            subst (λ (n : ℕ). x < n) (sym (length-step_past previouses last (get_or nexts at 0) at)) w.1,
          );
    }

-- a number is put last

onto : (step : List ℕ) (start y : ℕ) (ys : List ℕ) (at : ℕ)
    → LeadsThrough step start (y ∷ ys) → IsDistinct (y ∷ ys) → last_or y ys < length step
    → LeadsThrough (set step (last_or y ys) at) start (y ∷ ys ++ at ∷ [])
onto step start y [] at leads apart within =
    (leads.0, (get_or-set_same step y at 0 within, tt))
onto step start y (z ∷ ys) at leads apart within =
    let b : ℕ = last_or z ys in
    let out : y ≢ b = λ e. apart.0 (subst (λ (k : ℕ). IsIn k (z ∷ ys)) (sym e) (last_or-in z ys)) in
    let is : get_or (set step b at) y 0 ≡ get_or step y 0 = get_or-set_other step b y at 0 out in
    (leads.0, rw is (onto step (get_or step y 0) z ys at leads.1 apart.1 within))

pub leads-onto : (step : List ℕ) (start : ℕ) (xs : List ℕ) (last at : ℕ)
    → LeadsThrough step start xs → IsDistinct xs → last_or last xs ≡ last → ((x : ℕ) → IsIn x xs → x < length step)
    → LeadsThrough (step_onto step (length xs) last at) (start_onto (length xs) start at) (xs ++ at ∷ [])
leads-onto step start [] last at leads apart is within = (refl, tt)
leads-onto step start (y ∷ ys) last at leads apart is within =
    let P : ℕ → Type 0 = λ (b : ℕ). LeadsThrough (set step b at) start (y ∷ ys ++ at ∷ []) in
    subst P is (onto step start y ys at leads apart (within (last_or y ys) (last_or-in y ys)))

pub leads_onto-beside : (step : List ℕ) (xs : List ℕ) (last at : ℕ) → last_or last xs ≡ last
    → (other : ℕ) (ws : List ℕ) → ((x : ℕ) → IsIn x xs → ¬ IsIn x ws) → LeadsThrough step other ws
    → LeadsThrough (step_onto step (length xs) last at) other ws
leads_onto-beside step [] last at is other ws out there = there
leads_onto-beside step (y ∷ ys) last at is other ws out there =
    let none : ¬ IsIn last ws = out last (subst (λ (b : ℕ). IsIn b (y ∷ ys)) is (last_or-in y ys)) in
    leads-set step other ws last at none there

pub length-step_onto : (step : List ℕ) (len last at : ℕ) → length (step_onto step len last at) ≡ length step
length-step_onto step zero last at = refl
length-step_onto step (suc n) last at = length-set step last at

pub last_gives : (nexts previouses : List ℕ) (first last : ℕ) (xs : List ℕ) → IsThread nexts previouses first last xs → last_or last xs ≡ last
last_gives nexts previouses first last xs t =
    ap (last_or last) (sym (reverse-reverse xs)) ∙ (last_or-reverse last (reverse xs) ∙ leads-first previouses last (reverse xs) t.back)

pub thread-onto : (nexts previouses : List ℕ) (first last : ℕ) (xs : List ℕ) (at : ℕ)
    → IsThread nexts previouses first last xs → ¬ IsIn at xs → at < length nexts → at < length previouses
    → IsThread (step_onto nexts (length xs) last at) (set previouses at last) (start_onto (length xs) first at) at (xs ++ at ∷ [])
thread-onto nexts previouses first last xs at t out in_nexts in_previouses =
    record {
      ahead = leads-onto nexts first xs last at t.ahead (thread_apart t) (last_gives nexts previouses first last xs t) (λ x h. (thread_within t x h).0);
      back =
          let is : get_or (set previouses at last) at 0 ≡ last = get_or-set_same previouses at last 0 in_previouses in
          let rest : LeadsThrough (set previouses at last) last (reverse xs) = leads-set previouses last (reverse xs) at last (λ h. out (IsIn-reverse at xs h)) t.back in
          let rest' : LeadsThrough (set previouses at last) (get_or (set previouses at last) at 0) (reverse xs) = rw is rest in
          subst (LeadsThrough (set previouses at last) at) (sym (reverse-append xs (at ∷ []))) (refl, rest');
      apart = pairs_from (xs ++ at ∷ []) (distinct-push xs at (thread_apart t) out);
      within = λ x h.
          let w : (x < length nexts) × (x < length previouses) = elim (IsIn-either x xs (at ∷ []) (in_from (xs ++ at ∷ []) x h)) [
            | inl e ↦ thread_within t x e
            | inr e ↦ elim e [ inl same ↦ subst (λ (k : ℕ). (k < length nexts) × (k < length previouses)) (sym same) (in_nexts, in_previouses) | inr none ↦ absurd none ]
          ] in (
            subst (λ (n : ℕ). x < n) (sym (length-step_onto nexts (length xs) last at)) w.0,
            subst (λ (n : ℕ). x < n) (sym (length-set previouses at last)) w.1,
          );
    }

pub thread_onto-beside : (nexts previouses : List ℕ) (first last : ℕ) (xs : List ℕ) (at : ℕ)
    → IsThread nexts previouses first last xs → (f l : ℕ) (ws : List ℕ) → ((x : ℕ) → IsIn x xs → ¬ IsIn x ws) → ¬ IsIn at ws
    → IsThread nexts previouses f l ws
    → IsThread (step_onto nexts (length xs) last at) (set previouses at last) f l ws
thread_onto-beside nexts previouses first last xs at t f l ws out none other =
    record {
      ahead = leads_onto-beside nexts xs last at (last_gives nexts previouses first last xs t) f ws out other.ahead;
      back = leads-set previouses l (reverse ws) at last (λ h. none (IsIn-reverse at ws h)) other.back;
      apart = other.apart;
      within = λ x h.
          let w : (x < length nexts) × (x < length previouses) = other.within x h in (
            subst (λ (n : ℕ). x < n) (sym (length-step_onto nexts (length xs) last at)) w.0,
            subst (λ (n : ℕ). x < n) (sym (length-set previouses at last)) w.1,
          );
    }

-- a list parts around a number of it

pub record IsAround (xs : List ℕ) (at : ℕ) : Type 0 where
  pub before : List ℕ
  pub after : List ℕ
  pub is : xs ≡ before ++ at ∷ after

pub around : (xs : List ℕ) (at : ℕ) → IsIn at xs → IsAround xs at
around [] at has = absurd has
around (x ∷ xs) at (inl e) = record { before = []; after = xs; is = ap (λ (y : ℕ). y ∷ xs) (sym e) }
around (x ∷ xs) at (inr has) =
    let rest : IsAround xs at = around xs at has in
    record { before = x ∷ rest.before; after = rest.after; is = ap (λ (l : List ℕ). x ∷ l) rest.is }

pub without_out : (x : ℕ) (xs : List ℕ) → ¬ IsIn x xs → without x xs ≡ xs
without_out x [] none = refl
without_out x (y ∷ ys) none =
    let apart : y ≢ x = λ e. none (inl (sym e)) in
    let test : eqb y x ≡ false = ne_eqb y x apart in
    rw test (ap (λ r. y ∷ r) (without_out x ys (λ has. none (inr has))))

pub without-around : (ys : List ℕ) (at : ℕ) (zs : List ℕ) → IsDistinct (ys ++ at ∷ zs) → without at (ys ++ at ∷ zs) ≡ ys ++ zs
without-around [] at zs apart =
    let test : eqb at at ≡ true = eq-eqb at at refl in
    rw test (without_out at zs apart.0)
without-around (y ∷ ys) at zs apart =
    let other : y ≢ at = λ e. apart.0 (IsIn-right y ys (at ∷ zs) (inl e)) in
    let test : eqb y at ≡ false = ne_eqb y at other in
    rw test (ap (λ r. y ∷ r) (without-around ys at zs apart.1))
