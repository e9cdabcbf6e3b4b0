-- Texts of values, read character by character.
use Rattle.std.proofs.Common.{◌≡◌, ℕ, ◌+◌, ◌-◌, ◌*◌, ◌^◌, ◌<◌, ◌≤◌, Bool, true, false, List, [], ◌∷◌, ◌++◌, length, refl, sym, ◌∙◌, ap, arith, append_assoc, None, Some}
use Rattle.std.specs.Prelude.{◌==◌, ◌&&◌, nat_lt, nat_le, ℤ, pos, neg_ℤ, Option, if◌then◌else◌}
use Rattle.std.specs.List.{fold, list_all}
use Rattle.std.specs.Fmt.{decimal}
use Rattle.std.specs.Option.{option_map}
use Rattle.std.specs.Str.{chars}
use Rattle.std.proofs.lemmas.Str.{chars-IsAscii}
use Rattle.std.proofs.lemmas.Fmt.{IsAscii-decimal}
use Rattle.std.proofs.lemmas.Bool.{cond-true, cond-false, lt-ltb, leb-true, leb-false, le-leb, lt-leb, ne_eqb}
use Rattle.mof_metamodel.specs.Characters.{is_blank}
use Rattle.mof_metamodel.specs.WellMeta.{is_digit}
use Rattle.xmi_profile.specs.Lexical.{trim_blank, trim_on, limit_of, digit_on, scan_on, signed_value, scanned, Start, Signed, Digits, Wrong}
use Rattle.model_assembly.specs.Values.{is_all_blank, without_front_blanks, without_end_blanks, trimmed, number_from, at_most, not_negative, negative, integer_of}

-- ---- blanks around a text

all_blank : (xs : List ℕ) → is_all_blank xs ≡ true → without_end_blanks xs ≡ []
all_blank [] k = refl
all_blank (x ∷ xs) k = cond-true (is_all_blank (x ∷ xs)) [] (x ∷ without_end_blanks xs) k

has_character : (c : ℕ) (t : List ℕ) → (length (c ∷ t) == 0) ≡ false
has_character c t = ne_eqb (length (c ∷ t)) 0 (λ e. omega (arith, e))

-- behind a text that has a character
behind_text : (c : ℕ) (t b cs : List ℕ) → (fold trim_on (c ∷ t, b) cs).0 ≡ (if is_all_blank cs then c ∷ t else (c ∷ t) ++ (b ++ without_end_blanks cs))
behind_text c t b [] = refl
behind_text c t b (d ∷ cs) = by (is_blank d) refl (behind_text c t (b ++ d ∷ []) cs) (behind_text c (((t ++ b) ++ d ∷ [])) [] cs)
  where
    by : (k : Bool) → is_blank d ≡ k
        → (fold trim_on (c ∷ t, b ++ d ∷ []) cs).0 ≡ (if is_all_blank cs then c ∷ t else (c ∷ t) ++ ((b ++ d ∷ []) ++ without_end_blanks cs))
        → (fold trim_on (c ∷ ((t ++ b) ++ d ∷ []), []) cs).0 ≡ (if is_all_blank cs then c ∷ ((t ++ b) ++ d ∷ []) else (c ∷ ((t ++ b) ++ d ∷ [])) ++ ([] ++ without_end_blanks cs))
        → (fold trim_on (if k then trim_blank (length (c ∷ t) == 0) (c ∷ t, b) d else (c ∷ ((t ++ b) ++ d ∷ []), [])) cs).0
        ≡ (if k && is_all_blank cs then c ∷ t else (c ∷ t) ++ (b ++ (if k && is_all_blank cs then [] else d ∷ without_end_blanks cs)))
    by true e h i = ap (λ (k : Bool). (fold trim_on (trim_blank k (c ∷ t, b) d) cs).0) (has_character c t) ∙ h ∙ inside (is_all_blank cs)
      where
        inside : (a : Bool) → (if a then c ∷ t else (c ∷ t) ++ ((b ++ d ∷ []) ++ without_end_blanks cs)) ≡ (if a then c ∷ t else (c ∷ t) ++ (b ++ (if a then [] else d ∷ without_end_blanks cs)))
        inside true = refl
        inside false = ap (λ (xs : List ℕ). (c ∷ t) ++ xs) (append_assoc b (d ∷ []) (without_end_blanks cs))
    by false e h i = i ∙ inside (is_all_blank cs) refl
      where
        inside : (a : Bool) → is_all_blank cs ≡ a
            → (if a then c ∷ ((t ++ b) ++ d ∷ []) else (c ∷ ((t ++ b) ++ d ∷ [])) ++ without_end_blanks cs) ≡ (c ∷ t) ++ (b ++ d ∷ without_end_blanks cs)
        inside true j = append_assoc (c ∷ t) b (d ∷ []) ∙ ap (λ (xs : List ℕ). (c ∷ t) ++ (b ++ d ∷ xs)) (sym (all_blank cs j))
        inside false j = append_assoc (c ∷ (t ++ b)) (d ∷ []) (without_end_blanks cs) ∙ append_assoc (c ∷ t) b (d ∷ without_end_blanks cs)

pub trimmed_folded : (cs : List ℕ) → (fold trim_on ([], []) cs).0 ≡ trimmed cs
trimmed_folded [] = refl
trimmed_folded (c ∷ cs) = by (is_blank c) refl (trimmed_folded cs)
  where
    by : (k : Bool) → is_blank c ≡ k → (fold trim_on ([], []) cs).0 ≡ without_end_blanks (without_front_blanks cs)
        → (fold trim_on (if k then ([], []) else (c ∷ [], [])) cs).0 ≡ without_end_blanks (if k then without_front_blanks cs else c ∷ cs)
    by true e h = h
    by false e h = behind_text c [] [] cs ∙ inside (is_all_blank cs) refl ∙ sym (ap (λ (b : Bool). if b && is_all_blank cs then [] else c ∷ without_end_blanks cs) e)
      where
        inside : (a : Bool) → is_all_blank cs ≡ a → (if a then c ∷ [] else c ∷ without_end_blanks cs) ≡ c ∷ without_end_blanks cs
        inside true j = ap (λ (xs : List ℕ). c ∷ xs) (sym (all_blank cs j))
        inside false j = refl

-- ---- integers

abbrev within : Bool → ℕ → Option ℤ
within negative n = if nat_le n (limit_of negative) then Some (signed_value negative n) else None

wrong_stays : (cs : List ℕ) → scanned (fold scan_on Wrong cs) ≡ None
wrong_stays [] = refl
wrong_stays (c ∷ cs) = wrong_stays cs

grows : (n : ℕ) (cs : List ℕ) → n ≤ number_from n cs
grows n [] = omega arith
grows n (c ∷ cs) = let g = grows (10 * n + (c - 48)) cs in omega (arith, g)

too_great : (negative : Bool) (n : ℕ) (cs : List ℕ) (all : Bool) → limit_of negative < n → None ≡ (if all then within negative (number_from n cs) else None)
too_great negative n cs false l = refl
too_great negative n cs true l =
    let g = grows n cs in
    sym (cond-false (nat_le (number_from n cs) (limit_of negative)) (Some (signed_value negative (number_from n cs))) None
    (lt-leb (number_from n cs) (limit_of negative) (omega (arith, l, g))))

digits_scanned : (negative : Bool) (n : ℕ) (cs : List ℕ) → n ≤ limit_of negative
    → scanned (fold scan_on (Digits negative n) cs) ≡ (if list_all is_digit cs then within negative (number_from n cs) else None)
digits_scanned negative n [] l = sym (cond-true (nat_le n (limit_of negative)) (Some (signed_value negative n)) None (le-leb n (limit_of negative) l))
digits_scanned negative n (c ∷ cs) l = by (is_digit c) (nat_le (10 * n + (c - 48)) (limit_of negative)) refl (digits_scanned negative (10 * n + (c - 48)) cs)
  where
    by : (d : Bool) (w : Bool) → nat_le (10 * n + (c - 48)) (limit_of negative) ≡ w
        → (10 * n + (c - 48) ≤ limit_of negative → scanned (fold scan_on (Digits negative (10 * n + (c - 48))) cs) ≡ (if list_all is_digit cs then within negative (number_from (10 * n + (c - 48)) cs) else None))
        → scanned (fold scan_on (if d then (if w then Digits negative (10 * n + (c - 48)) else Wrong) else Wrong) cs)
        ≡ (if d && list_all is_digit cs then within negative (number_from (10 * n + (c - 48)) cs) else None)
    by false w e h = wrong_stays cs
    by true true e h = h (leb-true (10 * n + (c - 48)) (limit_of negative) e)
    by true false e h = wrong_stays cs ∙ too_great negative (10 * n + (c - 48)) cs (list_all is_digit cs) (leb-false (10 * n + (c - 48)) (limit_of negative) e)

abbrev spelled : Bool → List ℕ → Option ℤ
spelled negative cs = if nat_lt 0 (length cs) && list_all is_digit cs then within negative (number_from 0 cs) else None

spelled_some : (negative : Bool) (c : ℕ) (cs : List ℕ) → (if list_all is_digit (c ∷ cs) then within negative (number_from 0 (c ∷ cs)) else None) ≡ spelled negative (c ∷ cs)
spelled_some negative c cs =
    ap (λ (b : Bool). if b && list_all is_digit (c ∷ cs) then within negative (number_from 0 (c ∷ cs)) else None) (sym (lt-ltb 0 (length (c ∷ cs)) (omega arith)))

limits : (negative : Bool) → 0 ≤ limit_of negative
limits true = omega arith
limits false = omega arith

signed_scanned : (negative : Bool) (cs : List ℕ) → scanned (fold scan_on (Signed negative) cs) ≡ spelled negative cs
signed_scanned negative [] = refl
signed_scanned negative (c ∷ cs) = digits_scanned negative 0 (c ∷ cs) (limits negative) ∙ spelled_some negative c cs

positive_by : (n : ℕ) (a b : Bool) → nat_le n (2 ^ 63 - 1) ≡ b → (if a then within false n else None) ≡ option_map pos (at_most (2 ^ 63 - 1) (if a then Some n else None))
positive_by n false b e = refl
positive_by n true b e =
    ap (λ (k : Bool). if k then Some (pos n) else None) e ∙ by b ∙ sym (ap (λ (k : Bool). option_map pos (if k then Some n else None)) e)
  where
    by : (k : Bool) → (if k then Some (pos n) else None) ≡ option_map pos (if k then Some n else None)
    by true = refl
    by false = refl

positive_is : (cs : List ℕ) → spelled false cs ≡ not_negative cs
positive_is cs = positive_by (number_from 0 cs) (nat_lt 0 (length cs) && list_all is_digit cs) (nat_le (number_from 0 cs) (2 ^ 63 - 1)) refl

negative_by : (n : ℕ) (a b : Bool) → nat_le n (2 ^ 63) ≡ b → (if a then within true n else None) ≡ option_map (λ k. neg_ℤ (pos k)) (at_most (2 ^ 63) (if a then Some n else None))
negative_by n false b e = refl
negative_by n true b e =
    ap (λ (k : Bool). if k then Some (neg_ℤ (pos n)) else None) e ∙ by b ∙ sym (ap (λ (k : Bool). option_map (λ j. neg_ℤ (pos j)) (if k then Some n else None)) e)
  where
    by : (k : Bool) → (if k then Some (neg_ℤ (pos n)) else None) ≡ option_map (λ j. neg_ℤ (pos j)) (if k then Some n else None)
    by true = refl
    by false = refl

negative_is : (cs : List ℕ) → spelled true cs ≡ negative cs
negative_is cs = negative_by (number_from 0 cs) (nat_lt 0 (length cs) && list_all is_digit cs) (nat_le (number_from 0 cs) (2 ^ 63)) refl

pub integer_scanned : (cs : List ℕ) → scanned (fold scan_on Start cs) ≡ integer_of cs
integer_scanned [] = refl
integer_scanned (c ∷ cs) = by (c == 43) (c == 45)
  where
    by : (p m : Bool) → scanned (fold scan_on (if p then Signed false else if m then Signed true else digit_on false 0 c) cs)
        ≡ (if p then not_negative cs else if m then negative cs else not_negative (c ∷ cs))
    by true m = signed_scanned false cs ∙ positive_is cs
    by false true = signed_scanned true cs ∙ negative_is cs
    by false false = digits_scanned false 0 (c ∷ cs) (limits false) ∙ spelled_some false c cs ∙ positive_is (c ∷ cs)

pub decimal_characters : (n : ℕ) → n < 2 ^ 64 → chars (decimal n) ≡ decimal n
decimal_characters n l = chars-IsAscii (decimal n) (IsAscii-decimal n l)
