-- Faults of references: no reference begins with the bytes from its `&` on.
use Rattle.std.proofs.Common.{◌≡◌, ℕ, ◌<◌, ◌⊎◌, Bool, true, List, [], ◌∷◌, ◌++◌, length, take, drop, refl, sym, ◌∙◌, ap, subst, arith, Option, Some, None, inl, inr, append_assoc, codes, true≢false}
use Rattle.std.proofs.lemmas.Bool.{eqb-true, and_parts, ltb-true, lt-ltb, or_cases}
use Rattle.std.proofs.lemmas.Str.{encode_ascii}
use Rattle.std.specs.Prelude.{◌==◌, ◌||◌, not, nat_lt}
use Rattle.std.specs.List.{list_all}
use lib.Utf8.{encodes}
use Rattle.xmi_text.specs.Automaton.{end_fault, fault_at}
use Rattle.xmi_text.specs.Automaton as automaton
use Rattle.xmi_text.specs.Reading.{state_from, state_of, fault_of, end_fault_of}
use Rattle.xmi_text.specs.Markup.{begins, Reference, Amp, Lt, Gt, Quot, Apos, Decimal, Hexadecimal, reference_text, is_reference, is_digit, is_hexadecimal_digit, number, is_number}
use Rattle.xmi_text.specs.ByteClass.{within}
use Rattle.xmi_text.specs.Faults.{Agree, IsBadEntity}
use Rattle.xmi_text.specs.declared.error.TextFault.{TextFault}
use Rattle.xmi_text.specs.declared.error.TextKind.TheVariants as kinds
use Rattle.xmi_text.specs.declared.utf_eight.Partial.{Partial}
use Rattle.xmi_text.specs.declared.state.State.{State}
use Rattle.xmi_text.specs.declared.state.Mode.{Mode}
use Rattle.xmi_text.specs.declared.state.Mode.TheVariants as modes
use Rattle.xmi_text.specs.declared.state.Quote.TheVariants as quotes
use Rattle.xmi_text.specs.declared.state.Within.{Within}
use Rattle.xmi_text.specs.declared.state.Within.TheVariants as places
use Rattle.xmi_text.proofs.completion.Sound.{Cut, within_range, sound_of}
use Rattle.xmi_text.proofs.reading.Reached.{state_of-append}
use Rattle.xmi_text.proofs.reading.Staying.{fault_stays}
use Rattle.xmi_text.proofs.forward.ValueSteps.{mode_of, reference_walk}
use Rattle.xmi_text.proofs.faults.Reasons.{InPlace, NoReference, Reason}
use Rattle.xmi_text.proofs.faults.History.{Referred, Held, fails, Early, is_no_end}
use Rattle.xmi_text.proofs.backward.Backward.{in_mode}
use Rattle.xmi_text.proofs.faults.Probing.{shape, may, may_not, take_front, drop_front, stands, past_by}

-- ---- what agrees with bytes up to a fault

-- it goes on behind the fault, or ends before it
pub agree_parts : (xs part : List ℕ) (b : ℕ) (rest : List ℕ) → Agree xs (part ++ b ∷ rest) → ((d : List ℕ) × (xs ≡ part ++ b ∷ d)) ⊎ ((d : List ℕ) × (part ≡ xs ++ d))
agree_parts [] part b rest h = inr (part, refl)
agree_parts (x ∷ xs) [] b rest (inl h) =
    let p = and_parts (x == b) (begins xs rest) h in
    inl (xs, ap (λ y. y ∷ xs) (eqb-true x b p.0))
agree_parts (x ∷ xs) [] b rest (inr h) =
    let p = and_parts (b == x) (begins rest xs) h in
    inl (xs, ap (λ y. y ∷ xs) (sym (eqb-true b x p.0)))
agree_parts (x ∷ xs) (y ∷ part) b rest (inl h) =
    let p = and_parts (x == y) (begins xs (part ++ b ∷ rest)) h in
    let same : x ≡ y = eqb-true x y p.0 in
    elim (agree_parts xs part b rest (inl p.1)) [
      | inl d ↦ inl (d.0, ap (λ zs. x ∷ zs) d.1 ∙ ap (λ z. z ∷ (part ++ b ∷ d.0)) same)
      | inr d ↦ inr (d.0, ap (λ zs. y ∷ zs) d.1 ∙ ap (λ z. z ∷ (xs ++ d.0)) (sym same))
    ]
agree_parts (x ∷ xs) (y ∷ part) b rest (inr h) =
    let p = and_parts (y == x) (begins (part ++ b ∷ rest) xs) h in
    let same : x ≡ y = sym (eqb-true y x p.0) in
    elim (agree_parts xs part b rest (inr p.1)) [
      | inl d ↦ inl (d.0, ap (λ zs. x ∷ zs) d.1 ∙ ap (λ z. z ∷ (part ++ b ∷ d.0)) same)
      | inr d ↦ inr (d.0, ap (λ zs. y ∷ zs) d.1 ∙ ap (λ z. z ∷ (xs ++ d.0)) (sym same))
    ]

-- what goes on behind a fault has it
pub still_faulty : (before part : List ℕ) (b : ℕ) (d xs ys : List ℕ) (f : TextFault) → xs ≡ before ++ part → fault_of (xs ++ b ∷ []) ≡ Some f → ys ≡ part ++ b ∷ d → fault_of (before ++ ys) ≡ Some f
still_faulty before part b d xs ys f e h k =
    let all : before ++ ys ≡ (xs ++ b ∷ []) ++ d = ap (λ z. before ++ z) k ∙ sym (append_assoc before part (b ∷ d)) ∙ ap (λ z. z ++ b ∷ d) (sym e) ∙ sym (append_assoc xs (b ∷ []) d) in
    ap fault_of all ∙ fault_stays (xs ++ b ∷ []) d f h

-- ---- the text of a reference

-- it ends with the first `;`
ended : (r : Reference) → (text : List ℕ) × (reference_text r ≡ text ++ 59 ∷ [])
ended Amp = (codes "&amp", refl)
ended Lt = (codes "&lt", refl)
ended Gt = (codes "&gt", refl)
ended Quot = (codes "&quot", refl)
ended Apos = (codes "&apos", refl)
ended (Decimal digits) = (38 ∷ 35 ∷ digits, refl)
ended (Hexadecimal digits) = (38 ∷ 35 ∷ 120 ∷ digits, refl)

not_unended : (text d : List ℕ) → list_all is_no_end ((text ++ 59 ∷ []) ++ d) ≡ true → ⊥
not_unended [] d e = true≢false (sym e)
not_unended (x ∷ text) d e = not_unended text d (and_parts (is_no_end x) (list_all is_no_end ((text ++ 59 ∷ []) ++ d)) e).1

-- it is ASCII
abbrev pub is_low : ℕ → Bool
is_low c = nat_lt c 128

pub low_bytes : (cs : List ℕ) → list_all is_low cs ≡ true → encodes cs ≡ cs
low_bytes [] e = refl
low_bytes (c ∷ cs) e =
    let p = and_parts (is_low c) (list_all is_low cs) e in
    ap (λ xs. xs ++ encodes cs) (encode_ascii c (ltb-true c 128 p.0)) ∙ ap (λ xs. c ∷ xs) (low_bytes cs p.1)

low_append : (cs ds : List ℕ) → list_all is_low cs ≡ true → list_all is_low ds ≡ true → list_all is_low (cs ++ ds) ≡ true
low_append [] ds e f = f
low_append (c ∷ cs) ds e f = let p = and_parts (is_low c) (list_all is_low cs) e in rw p.0 (low_append cs ds p.1 f)

within_low : (low high c : ℕ) → within low high c ≡ true → high < 128 → c < 128
within_low low high c e h = let r = within_range low high c e in omega (arith, r.1)

digit_low : (c : ℕ) → is_digit c ≡ true → is_low c ≡ true
digit_low c e = lt-ltb c 128 (within_low 48 57 c e (omega arith))

hexadecimal_low : (c : ℕ) → is_hexadecimal_digit c ≡ true → is_low c ≡ true
hexadecimal_low c e = elim (or_cases (is_digit c || within 65 70 c) (within 97 102 c) e) [
  | inl l ↦ elim (or_cases (is_digit c) (within 65 70 c) l) [ inl x ↦ digit_low c x | inr x ↦ lt-ltb c 128 (within_low 65 70 c x (omega arith)) ]
  | inr r ↦ lt-ltb c 128 (within_low 97 102 c r (omega arith))
]

digits_low : (is_one : ℕ → Bool) → ((c : ℕ) → is_one c ≡ true → is_low c ≡ true) → (ds : List ℕ) → list_all is_one ds ≡ true → list_all is_low ds ≡ true
digits_low is_one f [] e = refl
digits_low is_one f (d ∷ ds) e = let p = and_parts (is_one d) (list_all is_one ds) e in rw (f d p.0) (digits_low is_one f ds p.1)

number_digits : (is_one : ℕ → Bool) (ds : List ℕ) (c : ℕ) → is_number is_one ds c ≡ true → list_all is_one ds ≡ true
number_digits is_one ds c e = (and_parts (list_all is_one ds) _ (and_parts (not (length ds == 0)) _ e).1).0

reference_low : (r : Reference) → is_reference r ≡ true → list_all is_low (reference_text r) ≡ true
reference_low Amp e = refl
reference_low Lt e = refl
reference_low Gt e = refl
reference_low Quot e = refl
reference_low Apos e = refl
reference_low (Decimal digits) e = low_append digits (59 ∷ []) (digits_low is_digit digit_low digits (number_digits is_digit digits (number 10 0 digits) e)) refl
reference_low (Hexadecimal digits) e = low_append digits (59 ∷ []) (digits_low is_hexadecimal_digit hexadecimal_low digits (number_digits is_hexadecimal_digit digits (number 16 0 digits) e)) refl

-- it has no fault where a reference may stand
place_mode : (w : Within) (m : Mode) → InPlace w m → m ≡ mode_of w
place_mode places.Content m e = e
place_mode (places.Value q) m e = e

reference_faultless : (before : List ℕ) (w : Within) (r : Reference) → (state_of before).mode ≡ mode_of w → (state_of before).partial ≡ None → is_reference r ≡ true → fault_of (before ++ reference_text r) ≡ None
unfolding fault_of
reference_faultless before w r m c k =
    let s : State = state_of before in
    let at : ℕ = length before in
    let bytes : reference_text r ≡ encodes (reference_text r) = sym (low_bytes (reference_text r) (reference_low r k)) in
    let walk = reference_walk at s w s.returned r k in
    ap automaton.fault
    (state_of-append before (reference_text r)
    ∙ ap (state_from at s) bytes
    ∙ ap (λ (q : State). state_from at q (encodes (reference_text r))) (shape before (mode_of w) m c)
    ∙ walk.state)
    ∙ none_of w
  where
    none_of : (w : Within) → automaton.fault_by (mode_of w) ≡ None
    none_of places.Content = refl
    none_of (places.Value q) = refl

-- ---- the fault

reference_may : (s : State) (w : Within) (at k : ℕ) → end_fault (state_from at (in_mode s (mode_of w)) (codes "&lt;")) k ≡ Some (fault_at kinds.OpenTag k)
reference_may s places.Content at k = refl
reference_may s (places.Value quotes.Double) at k = refl
reference_may s (places.Value quotes.Single) at k = refl

blank_may_not : (s : State) (w : Within) (at k : ℕ) → end_fault (state_from at (in_mode s (mode_of w)) (codes "& ")) k ≡ Some (fault_at kinds.BadEntity at)
blank_may_not s places.Content at k = refl
blank_may_not s (places.Value quotes.Double) at k = refl
blank_may_not s (places.Value quotes.Single) at k = refl

some_none : (f : TextFault) → Some f ≡ None → ⊥
some_none f e = cc

no_reference : (bytes xs : List ℕ) (b : ℕ) (rest : List ℕ) (n : ℕ) (w : Within) (f : TextFault) → bytes ≡ xs ++ b ∷ rest → fault_of (xs ++ b ∷ []) ≡ Some f → (h : Referred xs n w) → (r : Reference) → is_reference r ≡ true → ¬ Agree (reference_text r) (drop n bytes)
no_reference bytes xs b rest n w f e k h r i a =
    let part : List ℕ = 38 ∷ h.text in
    let all : bytes ≡ h.before ++ (part ++ b ∷ rest) = e ∙ ap (λ y. y ++ b ∷ rest) h.is ∙ append_assoc h.before part (b ∷ rest) in
    let agree : Agree (reference_text r) (part ++ b ∷ rest) = subst (Agree (reference_text r)) (drop_front bytes h.before (part ++ b ∷ rest) n all h.place) a in
    elim (agree_parts (reference_text r) part b rest agree) [
      | inl d ↦ some_none f (sym (still_faulty h.before part b d.0 xs (reference_text r) f h.is k d.1) ∙ reference_faultless h.before w r (place_mode w (state_of h.before).mode h.within) h.none i)
      | inr d ↦
          let last = ended r in
          let same : part ≡ (last.0 ++ 59 ∷ []) ++ d.0 = d.1 ∙ ap (λ z. z ++ d.0) last.1 in
          not_unended last.0 d.0 (ap (list_all is_no_end) (sym same) ∙ h.unended)
    ]

bad_entity_at : (bytes xs : List ℕ) (b : ℕ) (rest : List ℕ) (n : ℕ) (w : Within) (f : TextFault) → bytes ≡ xs ++ b ∷ rest → fault_of (xs ++ b ∷ []) ≡ Some f → Referred xs n w → IsBadEntity bytes n
bad_entity_at bytes xs b rest n w f e k h =
    let part : List ℕ = 38 ∷ h.text in
    let all : bytes ≡ h.before ++ (part ++ b ∷ rest) = e ∙ ap (λ y. y ++ b ∷ rest) h.is ∙ append_assoc h.before part (b ∷ rest) in
    let front : take n bytes ≡ h.before = take_front bytes h.before (part ++ b ∷ rest) n all h.place in
    let s : State = state_of h.before in
    let m : s.mode ≡ mode_of w = place_mode w s.mode h.within in
    record {
      ampersand = stands bytes h.before (38 ∷ []) (h.text ++ b ∷ rest) n all h.place;
      reference = may bytes h.before (codes "&lt;") n (mode_of w) front m h.none (λ at j. reference_may s w at j);
      blank = may_not bytes h.before (codes "& ") n (mode_of w) front m h.none (λ at j. (fault_at kinds.BadEntity at, blank_may_not s w at j, tt));
      none = no_reference bytes xs b rest n w f e k h;
    }

bad_entity_by : (bytes xs : List ℕ) (b : ℕ) (rest : List ℕ) (n : ℕ) (m : Mode) (c : Option Partial) (f : TextFault) → bytes ≡ xs ++ b ∷ rest → fault_of (xs ++ b ∷ []) ≡ Some f → Held xs (state_of xs) m c → Cut c m → NoReference (state_of xs) (length xs) b m n → IsBadEntity bytes n
bad_entity_by bytes xs b rest n (modes.Reference a w part) c f e k h z i =
    let past = past_by xs (state_of xs) (modes.Reference a w part) c h z (λ x. x) tt in
    subst (IsBadEntity bytes) (sym i) (bad_entity_at bytes xs b rest a w f e k past)
bad_entity_by bytes xs b rest n _ c f e k h z i = absurd i

pub bad_entity : (bytes : List ℕ) (f : TextFault) → end_fault_of bytes ≡ Some f → f.kind ≡ kinds.BadEntity → IsBadEntity bytes f.at
bad_entity bytes f e k =
    let h = fails bytes f (subst Early (sym k) tt) e in
    let s : State = state_of h.xs in
    let w = subst (λ kind. Reason s (length h.xs) h.b s.mode kind f.at) k h.reason in
    bad_entity_by bytes h.xs h.b h.rest f.at s.mode s.partial f h.is h.fault h.held (sound_of h.xs).cut w
