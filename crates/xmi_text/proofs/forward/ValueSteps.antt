-- References and the values of attributes are stepped over.
use Rattle.std.proofs.Common.{◌≡◌, ℕ, ◌+◌, ◌*◌, ◌-◌, ◌≤◌, ◌<◌, ◌⊎◌, Bool, true, false, List, [], ◌∷◌, ◌++◌, length, map, refl, sym, ◌∙◌, ap, subst, arith, None, Some, inl, inr, append_assoc, append-nil}
use Rattle.std.specs.Prelude.{◌==◌, ◌||◌, ◌&&◌, not, nat_lt, nat_le, codes, if◌then◌else◌}
use Rattle.std.specs.List.{list_all}
use Rattle.std.specs.Char.{digit_value}
use Rattle.std.specs.Str.{all_scalars}
use Rattle.std.proofs.lemmas.Bool.{cases_Bool, or_cases, or_from, and_parts, not-true, leb-true, true≢false, lt-ltb, le-ltb}
use Rattle.std.proofs.lemmas.Str.{encode_ascii, encodes-append}
use lib.Utf8.{encode, encodes, scalars, scalar_cases}
use lib.Utf8 as utf8
use Rattle.mof_metamodel.specs.Characters.{is_storable_character}
use Rattle.xmi_text.specs.ByteClass.{within, is_storable_byte}
use Rattle.xmi_text.specs.References.{extended, grown, digit, hexadecimal_digit, storable, kept, character}
use Rattle.xmi_text.specs.States as states
use Rattle.xmi_text.specs.Steps.{quote_byte}
use Rattle.xmi_text.specs.Automaton.{ascii, reference_on, reference_to}
use Rattle.xmi_text.specs.Markup.{Reference, Amp, Lt, Gt, Quot, Apos, Decimal, Hexadecimal, reference_text, referred, is_reference, is_number, is_digit, is_hexadecimal_digit, number, line_ends, spaced, is_value_character, ValuePart, Literal, Named, is_part, is_literal, value_text, value_of, are_apart, starts}
use Rattle.xmi_text.specs.declared.error.TextKind.TheVariants as kinds
use Rattle.xmi_text.specs.declared.reference.Reference as reading
use Rattle.xmi_text.specs.declared.reference.Reference.TheVariants as ref
use Rattle.xmi_text.specs.declared.utf_eight.Partial.{Partial}
use Rattle.xmi_text.specs.declared.state.State.{State}
use Rattle.xmi_text.specs.declared.state.Mode.{Mode}
use Rattle.xmi_text.specs.declared.state.Mode.TheVariants as modes
use Rattle.xmi_text.specs.declared.state.Quote.{Quote}
use Rattle.xmi_text.specs.declared.state.Quote.TheVariants.{Double, Single}
use Rattle.xmi_text.specs.declared.state.Within.{Within}
use Rattle.xmi_text.specs.declared.state.Within.TheVariants.{Content, Value}
use Rattle.xmi_text.proofs.forward.Walks.{Walk, Walk-none, Walk-append, Walk-last, Walk-to}
use Rattle.xmi_text.proofs.forward.Encoded.{at_mode, behind_whole, if_true, if_false, is_scalar, Walk-over}
use Rattle.xmi_text.proofs.forward.Stepping.{quiet, other, storable_byte, storable_far, Walk-characters, scalars-parts, ends_cases, line_ends-other}
use Rattle.xmi_text.proofs.forward.NameSteps.{high_admitted}

-- ## references

abbrev pub mode_of : Within → Mode
mode_of Content = modes.Inside
mode_of (Value quote) = modes.Value quote

abbrev pub with_value : State → List ℕ → State
with_value s cs = record s { attr = record s.attr { value = s.attr.value ++ cs } }

abbrev pub with_run : State → List ℕ → State
with_run s cs = record s { run = s.run ++ cs }

-- the character of a reference joins what it stands in
abbrev pub spoken : Within → State → List ℕ → State
spoken Content s cs = with_run s cs
spoken (Value quote) s cs = with_value s cs

ampersand : (at : ℕ) (s : State) (w : Within) (r : Bool) → Walk at (at_mode s (mode_of w) r) (encode 38) [] (at_mode s (modes.Reference at w ref.Begun) false)
unfolding encode
ampersand at s Content r = record { state = refl; marks = refl }
ampersand at s (Value Double) r = record { state = refl; marks = refl }
ampersand at s (Value Single) r = record { state = refl; marks = refl }

semicolon_to : (at amp : ℕ) (s : State) (w : Within) (so : reading.Reference) (c : ℕ) → character so ≡ Some c → Walk at (at_mode s (modes.Reference amp w so) false) (encode 59) [] (at_mode (spoken w s (c ∷ [])) (mode_of w) false)
unfolding encode
semicolon_to at amp s Content so c e = Walk-last at _ (at_mode (with_run s (c ∷ [])) modes.Inside false) 59 (ap (reference_to (at_mode s (modes.Reference amp Content so) false) amp Content) e)
semicolon_to at amp s (Value quote) so c e = Walk-last at _ (at_mode (with_value s (c ∷ [])) (modes.Value quote) false) 59 (ap (reference_to (at_mode s (modes.Reference amp (Value quote) so) false) amp (Value quote)) e)

pub semicolon : (at amp : ℕ) (s : State) (w : Within) (so : reading.Reference) (c : ℕ) → character so ≡ Some c → Walk at (at_mode s (modes.Reference amp w so) false) (encodes (59 ∷ [])) [] (at_mode (spoken w s (c ∷ [])) (mode_of w) false)
semicolon at amp s w so c e = Walk-append at _ _ _ (encode 59) [] [] [] (semicolon_to at amp s w so c e) (Walk-none (at + length (encode 59)) (at_mode (spoken w s (c ∷ [])) (mode_of w) false))

-- the letters of a reference by a name
spelled : (at amp : ℕ) (s : State) (w : Within) (letters : List ℕ) (so : reading.Reference) (c : ℕ) → Walk at (at_mode s (modes.Reference amp w ref.Begun) false) (encodes letters) [] (at_mode s (modes.Reference amp w so) false) → character so ≡ Some c → Walk at (at_mode s (modes.Reference amp w ref.Begun) false) (encodes (letters ++ 59 ∷ [])) [] (at_mode (spoken w s (c ∷ [])) (mode_of w) false)
spelled at amp s w letters so c v e = Walk-characters at _ _ _ letters (59 ∷ []) [] [] v (λ place. semicolon place amp s w so c e)

amp_walk : (at amp : ℕ) (s : State) (w : Within) → Walk at (at_mode s (modes.Reference amp w ref.Begun) false) (encodes (codes "amp")) [] (at_mode s (modes.Reference amp w ref.Amp) false)
unfolding encode
amp_walk at amp s w = record { state = refl; marks = refl }

lt_walk : (at amp : ℕ) (s : State) (w : Within) → Walk at (at_mode s (modes.Reference amp w ref.Begun) false) (encodes (codes "lt")) [] (at_mode s (modes.Reference amp w ref.Lt) false)
unfolding encode
lt_walk at amp s w = record { state = refl; marks = refl }

gt_walk : (at amp : ℕ) (s : State) (w : Within) → Walk at (at_mode s (modes.Reference amp w ref.Begun) false) (encodes (codes "gt")) [] (at_mode s (modes.Reference amp w ref.Gt) false)
unfolding encode
gt_walk at amp s w = record { state = refl; marks = refl }

quot_walk : (at amp : ℕ) (s : State) (w : Within) → Walk at (at_mode s (modes.Reference amp w ref.Begun) false) (encodes (codes "quot")) [] (at_mode s (modes.Reference amp w ref.Quot) false)
unfolding encode
quot_walk at amp s w = record { state = refl; marks = refl }

apos_walk : (at amp : ℕ) (s : State) (w : Within) → Walk at (at_mode s (modes.Reference amp w ref.Begun) false) (encodes (codes "apos")) [] (at_mode s (modes.Reference amp w ref.Apos) false)
unfolding encode
apos_walk at amp s w = record { state = refl; marks = refl }

-- a number that digits go on never gets smaller
number_grows : (base : ℕ) → ((n d : ℕ) → n ≤ n * base + d) → (n : ℕ) (ds : List ℕ) → n ≤ number base n ds
number_grows base grows n [] = omega arith
number_grows base grows n (d ∷ ds) = omega (arith, grows n (digit_value d), number_grows base grows (n * base + digit_value d) ds)

grown_to : (made : ℕ → reading.Reference) (base n d : ℕ) → n ≤ 1114111 → n * base + d ≤ 1114111 → grown made base n (Some d) ≡ Some (made (n * base + d))
grown_to made base n d l h =
    if_false (nat_lt 0x10ffff n) _ _ (le-ltb 0x10ffff n l)
    ∙ if_false (nat_lt 0x10ffff (n * base + d)) _ _ (le-ltb 0x10ffff (n * base + d) h)

-- a digit behind what is read as a number
digit_step : (at amp : ℕ) (s : State) (w : Within) (so : reading.Reference) (made : ℕ → reading.Reference) (base n d : ℕ) → (d == 59) ≡ false → d < 128 → extended so d ≡ grown made base n (Some (digit_value d)) → n ≤ 1114111 → n * base + digit_value d ≤ 1114111 → Walk at (at_mode s (modes.Reference amp w so) false) (encode d) [] (at_mode s (modes.Reference amp w (made (n * base + digit_value d))) false)
digit_step at amp s w so made base n d f small e l h =
    Walk-over at _ _ _ _ [] (encode_ascii d small)
    (Walk-last at _ (at_mode s (modes.Reference amp w (made (n * base + digit_value d))) false) d
    (if_false (d == 59) _ _ f
    ∙ ap (reference_on (at_mode s (modes.Reference amp w so) false) amp w) (e ∙ grown_to made base n (digit_value d) l h)))

-- how the digits of a base are read
record Base (is_one : ℕ → Bool) (made : ℕ → reading.Reference) (base : ℕ) (first : reading.Reference) : Type 0 where
  grows : (n d : ℕ) → n ≤ n * base + d
  mark : (d : ℕ) → is_one d ≡ true → (d == 59) ≡ false
  small : (d : ℕ) → is_one d ≡ true → d < 128
  begins : (d : ℕ) → is_one d ≡ true → extended first d ≡ grown made base 0 (Some (digit_value d))
  goes : (n d : ℕ) → is_one d ≡ true → extended (made n) d ≡ grown made base n (Some (digit_value d))

digits_run : (is_one : ℕ → Bool) (made : ℕ → reading.Reference) (base : ℕ) (first : reading.Reference) → Base is_one made base first → (at amp : ℕ) (s : State) (w : Within) (n : ℕ) (ds : List ℕ) → list_all is_one ds ≡ true → number base n ds ≤ 1114111 → Walk at (at_mode s (modes.Reference amp w (made n)) false) (encodes ds) [] (at_mode s (modes.Reference amp w (made (number base n ds))) false)
digits_run is_one made base first b at amp s w n [] e h = Walk-none at (at_mode s (modes.Reference amp w (made n)) false)
digits_run is_one made base first b at amp s w n (d ∷ ds) e h =
    let p = and_parts (is_one d) (list_all is_one ds) e in
    let m : ℕ = n * base + digit_value d in
    let least : m ≤ number base m ds = number_grows base b.grows m ds in
    let less : n ≤ m = b.grows n (digit_value d) in
    Walk-append at _ _ _ (encode d) (encodes ds) [] []
    (digit_step at amp s w (made n) made base n d (b.mark d p.0) (b.small d p.0) (b.goes n d p.0) (omega arith) (omega arith))
    (digits_run is_one made base first b (at + length (encode d)) amp s w m ds p.1 h)

digits_walk : (is_one : ℕ → Bool) (made : ℕ → reading.Reference) (base : ℕ) (first : reading.Reference) → Base is_one made base first → (at amp : ℕ) (s : State) (w : Within) (ds : List ℕ) → (length ds == 0) ≡ false → list_all is_one ds ≡ true → number base 0 ds ≤ 1114111 → Walk at (at_mode s (modes.Reference amp w first) false) (encodes ds) [] (at_mode s (modes.Reference amp w (made (number base 0 ds))) false)
digits_walk is_one made base first b at amp s w [] f e h = absurd (true≢false f)
digits_walk is_one made base first b at amp s w (d ∷ ds) f e h =
    let p = and_parts (is_one d) (list_all is_one ds) e in
    let m : ℕ = 0 * base + digit_value d in
    let least : m ≤ number base m ds = number_grows base b.grows m ds in
    Walk-append at _ _ _ (encode d) (encodes ds) [] []
    (digit_step at amp s w first made base 0 d (b.mark d p.0) (b.small d p.0) (b.begins d p.0) (omega arith) (omega arith))
    (digits_run is_one made base first b (at + length (encode d)) amp s w m ds p.1 h)

-- ## digits

is_within : (low high d : ℕ) → within low high d ≡ true → (low ≤ d) × (d ≤ high)
is_within low high d e = let p = and_parts (nat_le low d) (nat_le d high) e in (leb-true low d p.0, leb-true d high p.1)

value_decimal : (d : ℕ) → 48 ≤ d → d ≤ 57 → digit_value d ≡ d - 48
value_decimal d l h = rw (le-ltb d 48 l, lt-ltb d 58 (omega arith)) refl

value_upper : (d : ℕ) → 65 ≤ d → d ≤ 70 → digit_value d ≡ d - 55
value_upper d l h = rw (le-ltb d 48 (omega arith), le-ltb d 58 (omega arith), le-ltb d 65 l, lt-ltb d 91 (omega arith)) refl

value_lower : (d : ℕ) → 97 ≤ d → d ≤ 102 → digit_value d ≡ d - 87
value_lower d l h = rw (le-ltb d 48 (omega arith), le-ltb d 58 (omega arith), le-ltb d 65 (omega arith), le-ltb d 91 (omega arith), le-ltb d 97 l, lt-ltb d 123 (omega arith)) refl

digit_read : (d : ℕ) → is_digit d ≡ true → digit d ≡ Some (digit_value d)
digit_read d e =
    let w = is_within 48 57 d e in
    if_true (within 48 57 d) _ _ e ∙ ap (λ n. Some n) (sym (value_decimal d w.0 w.1))

hexadecimal_read : (d : ℕ) → is_hexadecimal_digit d ≡ true → hexadecimal_digit d ≡ Some (digit_value d)
hexadecimal_read d e = elim (cases_Bool (within 48 57 d)) [
  | inl a ↦ let w = is_within 48 57 d a in if_true (within 48 57 d) _ _ a ∙ ap (λ n. Some n) (sym (value_decimal d w.0 w.1))
  | inr f ↦ elim (cases_Bool (within 65 70 d)) [
    | inl a ↦ let w = is_within 65 70 d a in if_false (within 48 57 d) _ _ f ∙ if_true (within 65 70 d) _ _ a ∙ ap (λ n. Some n) (sym (value_upper d w.0 w.1))
    | inr g ↦
        let a : within 97 102 d ≡ true = last_of (within 48 57 d) (within 65 70 d) (within 97 102 d) f g e in
        let w = is_within 97 102 d a in
        if_false (within 48 57 d) _ _ f ∙ if_false (within 65 70 d) _ _ g ∙ if_true (within 97 102 d) _ _ a ∙ ap (λ n. Some n) (sym (value_lower d w.0 w.1))
  ]
]
  where
    last_of : (x y z : Bool) → x ≡ false → y ≡ false → (x || y || z) ≡ true → z ≡ true
    last_of true y z f g e = absurd (true≢false f)
    last_of false true z f g e = absurd (true≢false g)
    last_of false false z f g e = e

hexadecimal_bounds : (d : ℕ) → is_hexadecimal_digit d ≡ true → (d ≤ 57) ⊎ ((65 ≤ d) × (d ≤ 102))
hexadecimal_bounds d e = elim (or_cases (is_digit d || within 65 70 d) (within 97 102 d) e) [
  | inl x ↦ elim (or_cases (is_digit d) (within 65 70 d) x) [
    | inl y ↦ inl (is_within 48 57 d y).1
    | inr y ↦ let w = is_within 65 70 d y in inr (w.0, omega arith)
  ]
  | inr x ↦ let w = is_within 97 102 d x in inr (omega arith, w.1)
]

decimal_base : Base is_digit (λ n. ref.Decimal n) 10 ref.Hash
decimal_base = record {
  grows = λ n d. omega arith;
  mark = λ d e. other d 59 (λ x. omega (arith, (is_within 48 57 d e).1));
  small = λ d e. omega (arith, (is_within 48 57 d e).1);
  begins = λ d e. if_false (d == 120) _ _ (other d 120 (λ x. omega (arith, (is_within 48 57 d e).1))) ∙ ap (grown (λ n. ref.Decimal n) 10 0) (digit_read d e);
  goes = λ n d e. ap (grown (λ m. ref.Decimal m) 10 n) (digit_read d e);
}

hexadecimal_base : Base is_hexadecimal_digit (λ n. ref.Digits n) 16 ref.Hexadecimal
hexadecimal_base = record {
  grows = λ n d. omega arith;
  mark = λ d e. other d 59 (λ x. elim (hexadecimal_bounds d e) [ inl a ↦ omega arith | inr a ↦ omega arith ]);
  small = λ d e. elim (hexadecimal_bounds d e) [ inl a ↦ omega arith | inr a ↦ omega arith ];
  begins = λ d e. ap (grown (λ n. ref.Digits n) 16 0) (hexadecimal_read d e);
  goes = λ n d e. ap (grown (λ m. ref.Digits m) 16 n) (hexadecimal_read d e);
}

-- what `is_number` says
record Numbered (is_one : ℕ → Bool) (ds : List ℕ) (c : ℕ) : Type 0 where
  some : (length ds == 0) ≡ false
  all : list_all is_one ds ≡ true
  bound : c ≤ 1114111
  kept : storable c ≡ Some c

numbered : (is_one : ℕ → Bool) (ds : List ℕ) (c : ℕ) → is_number is_one ds c ≡ true → Numbered is_one ds c
numbered is_one ds c e =
    let p = and_parts (not (length ds == 0)) (list_all is_one ds && (all_scalars (c ∷ []) && is_storable_character c)) e in
    let q = and_parts (list_all is_one ds) (all_scalars (c ∷ []) && is_storable_character c) p.1 in
    let k = and_parts (all_scalars (c ∷ [])) (is_storable_character c) q.1 in
    let ok = and_parts (utf8.scalar c) true k.0 in
    record {
      some = not-true (length ds == 0) p.0;
      all = q.0;
      bound = elim (scalar_cases c ok.0) [ inl x ↦ omega arith | inr x ↦ omega arith ];
      kept = ap kept (is_scalar c ok.0) ∙ if_true (is_storable_character c) (Some c) None k.1;
    }

hash : (at amp : ℕ) (s : State) (w : Within) → Walk at (at_mode s (modes.Reference amp w ref.Begun) false) (encode 35) [] (at_mode s (modes.Reference amp w ref.Hash) false)
unfolding encode
hash at amp s w = record { state = refl; marks = refl }

ex : (at amp : ℕ) (s : State) (w : Within) → Walk at (at_mode s (modes.Reference amp w ref.Hash) false) (encode 120) [] (at_mode s (modes.Reference amp w ref.Hexadecimal) false)
unfolding encode
ex at amp s w = record { state = refl; marks = refl }

tail_of : (x : ℕ) (xs ys : List ℕ) → x ∷ xs ≡ x ∷ ys → xs ≡ ys
tail_of x xs ys e = cc

-- behind the `&`
behind_ampersand : (at amp : ℕ) (s : State) (w : Within) (reference : Reference) (text : List ℕ) → reference_text reference ≡ 38 ∷ text → is_reference reference ≡ true → Walk at (at_mode s (modes.Reference amp w ref.Begun) false) (encodes text) [] (at_mode (spoken w s (referred reference ∷ [])) (mode_of w) false)
behind_ampersand at amp s w Amp text e k = Walk-over at _ _ _ _ [] (ap encodes (tail_of 38 text _ (sym e))) (spelled at amp s w (codes "amp") ref.Amp 38 (amp_walk at amp s w) refl)
behind_ampersand at amp s w Lt text e k = Walk-over at _ _ _ _ [] (ap encodes (tail_of 38 text _ (sym e))) (spelled at amp s w (codes "lt") ref.Lt 60 (lt_walk at amp s w) refl)
behind_ampersand at amp s w Gt text e k = Walk-over at _ _ _ _ [] (ap encodes (tail_of 38 text _ (sym e))) (spelled at amp s w (codes "gt") ref.Gt 62 (gt_walk at amp s w) refl)
behind_ampersand at amp s w Quot text e k = Walk-over at _ _ _ _ [] (ap encodes (tail_of 38 text _ (sym e))) (spelled at amp s w (codes "quot") ref.Quot 34 (quot_walk at amp s w) refl)
behind_ampersand at amp s w Apos text e k = Walk-over at _ _ _ _ [] (ap encodes (tail_of 38 text _ (sym e))) (spelled at amp s w (codes "apos") ref.Apos 39 (apos_walk at amp s w) refl)
behind_ampersand at amp s w (Decimal digits) text e k =
    let n = numbered is_digit digits (number 10 0 digits) k in
    Walk-over at _ _ _ _ [] (ap encodes (tail_of 38 text _ (sym e)))
    (Walk-append at _ _ _ (encode 35) (encodes (digits ++ 59 ∷ [])) [] [] (hash at amp s w)
    (Walk-characters (at + length (encode 35)) _ _ _ digits (59 ∷ []) [] []
    (digits_walk is_digit (λ m. ref.Decimal m) 10 ref.Hash decimal_base (at + length (encode 35)) amp s w digits n.some n.all n.bound)
    (λ place. semicolon place amp s w (ref.Decimal (number 10 0 digits)) (number 10 0 digits) n.kept)))
behind_ampersand at amp s w (Hexadecimal digits) text e k =
    let n = numbered is_hexadecimal_digit digits (number 16 0 digits) k in
    Walk-over at _ _ _ _ [] (ap encodes (tail_of 38 text _ (sym e)))
    (Walk-append at _ _ _ (encode 35) (encodes (120 ∷ (digits ++ 59 ∷ []))) [] [] (hash at amp s w)
    (Walk-append (at + length (encode 35)) _ _ _ (encode 120) (encodes (digits ++ 59 ∷ [])) [] [] (ex (at + length (encode 35)) amp s w)
    (Walk-characters (at + length (encode 35) + length (encode 120)) _ _ _ digits (59 ∷ []) [] []
    (digits_walk is_hexadecimal_digit (λ m. ref.Digits m) 16 ref.Hexadecimal hexadecimal_base (at + length (encode 35) + length (encode 120)) amp s w digits n.some n.all n.bound)
    (λ place. semicolon place amp s w (ref.Digits (number 16 0 digits)) (number 16 0 digits) n.kept))))

ampersand_first : (reference : Reference) → (text : List ℕ) × (reference_text reference ≡ 38 ∷ text)
ampersand_first Amp = (codes "amp;", refl)
ampersand_first Lt = (codes "lt;", refl)
ampersand_first Gt = (codes "gt;", refl)
ampersand_first Quot = (codes "quot;", refl)
ampersand_first Apos = (codes "apos;", refl)
ampersand_first (Decimal digits) = (35 ∷ (digits ++ 59 ∷ []), refl)
ampersand_first (Hexadecimal digits) = (35 ∷ 120 ∷ (digits ++ 59 ∷ []), refl)

pub reference_walk : (at : ℕ) (s : State) (w : Within) (r : Bool) (reference : Reference) → is_reference reference ≡ true → Walk at (at_mode s (mode_of w) r) (encodes (reference_text reference)) [] (at_mode (spoken w s (referred reference ∷ [])) (mode_of w) false)
reference_walk at s w r reference k =
    let f = ampersand_first reference in
    Walk-over at _ _ _ _ [] (ap encodes f.1)
    (Walk-append at _ _ _ (encode 38) (encodes f.0) [] [] (ampersand at s w r) (behind_ampersand (at + length (encode 38)) at s w reference f.0 f.1 k))

-- ## values

value_parts : (quote c : ℕ) → is_value_character quote c ≡ true → (is_storable_character c ≡ true) × ((c == 60) ≡ false) × ((c == 38) ≡ false) × ((c == quote) ≡ false)
value_parts quote c e =
    let p = and_parts (is_storable_character c) (not (c == 60) && (not (c == 38) && not (c == quote))) e in
    let q = and_parts (not (c == 60)) (not (c == 38) && not (c == quote)) p.1 in
    let k = and_parts (not (c == 38)) (not (c == quote)) q.1 in
    (p.0, not-true (c == 60) q.0, not-true (c == 38) k.0, not-true (c == quote) k.1)

spaced_low : (s : State) (q : Quote) (r : Bool) (at c : ℕ) (b : Bool) → ((c == 10) || (c == 9)) ≡ b → is_storable_byte c ≡ true → (if (c == 10) || (c == 9) then states.add_to_value (at_mode s (modes.Value q) r) q 32 false else if is_storable_byte c then states.add_to_value (at_mode s (modes.Value q) r) q c false else states.fail (at_mode s (modes.Value q) r) kinds.BadMark at) ≡ at_mode (with_value s (spaced c ∷ [])) (modes.Value q) false
spaced_low s q r at c true e k =
    if_true ((c == 10) || (c == 9)) _ _ e
    ∙ ap (λ x. at_mode (with_value s (x ∷ [])) (modes.Value q) false) (sym (if_true ((c == 10) || (c == 9)) 32 c e))
spaced_low s q r at c false e k =
    if_false ((c == 10) || (c == 9)) _ _ e ∙ if_true (is_storable_byte c) _ _ k
    ∙ ap (λ x. at_mode (with_value s (x ∷ [])) (modes.Value q) false) (sym (if_false ((c == 10) || (c == 9)) 32 c e))

value_low : (s : State) (q : Quote) (r : Bool) (at c : ℕ) → is_value_character (quote_byte q) c ≡ true → (c ≡ 13 → ⊥) → ((c == 10) && r) ≡ false → c < 128 → ascii (at_mode s (modes.Value q) r) (modes.Value q) at c ≡ at_mode (with_value s (spaced c ∷ [])) (modes.Value q) false
value_low s q r at c e n f h =
    let p = value_parts (quote_byte q) c e in
    if_false (c == quote_byte q) _ _ p.3
    ∙ if_false (c == 60) _ _ p.1
    ∙ if_false (c == 38) _ _ p.2
    ∙ if_false (c == 13) _ _ (other c 13 n)
    ∙ if_false ((c == 10) && r) _ _ f
    ∙ spaced_low s q r at c ((c == 10) || (c == 9)) refl (storable_byte c h p.0)

value_high : (s : State) (q : Quote) (r : Bool) (p : Partial) (last c : ℕ) → is_value_character (quote_byte q) c ≡ true → 128 ≤ c → behind_whole s (modes.Value q) r p last c ≡ at_mode (with_value s (spaced c ∷ [])) (modes.Value q) false
value_high s q r p last c e h =
    high_admitted s (modes.Value q) r p last c _ refl (storable_far c h (value_parts (quote_byte q) c e).0) refl
    ∙ ap (λ x. at_mode (with_value s (x ∷ [])) (modes.Value q) false)
    (sym (if_false ((c == 10) || (c == 9)) 32 c (or_from (c == 10) (c == 9) (other c 10 (λ x. omega arith)) (other c 9 (λ x. omega arith)))))

-- a character of a value, read as these
record Valued (at : ℕ) (s : State) (q : Quote) (r : Bool) (c : ℕ) : Type 0 where
  read : List ℕ
  returned : Bool
  ends : (cs : List ℕ) → map spaced (line_ends r (c ∷ cs)) ≡ read ++ map spaced (line_ends returned cs)
  walk : Walk at (at_mode s (modes.Value q) r) (encode c) [] (at_mode (with_value s read) (modes.Value q) returned)

value_return : (at : ℕ) (s : State) (q : Quote) (r : Bool) → is_value_character (quote_byte q) 13 ≡ true → Valued at s q r 13
value_return at s q r e = record {
  read = 32 ∷ [];
  returned = true;
  ends = λ cs. refl;
  walk = quiet at s (modes.Value q) r 13 (with_value s (32 ∷ [])) (modes.Value q) true tt refl (λ h. if_false (13 == quote_byte q) _ _ (value_parts (quote_byte q) 13 e).3) (λ h p last b. absurd (omega arith));
}

no_value : (s : State) → with_value s [] ≡ s
no_value s = ap (λ x. record s { attr = record s.attr { value = x } }) (append-nil s.attr.value)

value_feed : (at : ℕ) (s : State) (q : Quote) → is_value_character (quote_byte q) 10 ≡ true → Valued at s q true 10
value_feed at s q e = record {
  read = [];
  returned = false;
  ends = λ cs. refl;
  walk = Walk-to at _ _ _ _ _ _ (ap (λ x. at_mode x (modes.Value q) false) (sym (no_value s))) refl
      (quiet at s (modes.Value q) true 10 s (modes.Value q) false tt refl (λ h. if_false (10 == quote_byte q) _ _ (value_parts (quote_byte q) 10 e).3) (λ h p last b. absurd (omega arith)));
}

value_other : (at : ℕ) (s : State) (q : Quote) (r : Bool) (c : ℕ) → utf8.scalar c ≡ true → is_value_character (quote_byte q) c ≡ true → (c ≡ 13 → ⊥) → ((c == 10) && r) ≡ false → Valued at s q r c
value_other at s q r c ok e n f = record {
  read = spaced c ∷ [];
  returned = false;
  ends = λ cs. ap (map spaced) (line_ends-other r c cs n f);
  walk = quiet at s (modes.Value q) r c (with_value s (spaced c ∷ [])) (modes.Value q) false tt ok (value_low s q r at c e n f) (λ h p last b. value_high s q r p last c e h);
}

value_one : (at : ℕ) (s : State) (q : Quote) (r : Bool) (c : ℕ) → utf8.scalar c ≡ true → is_value_character (quote_byte q) c ≡ true → Valued at s q r c
value_one at s q r c ok e = elim (ends_cases r c) [
  | inl x ↦ subst (Valued at s q r) (sym x) (value_return at s q r (subst (λ d. is_value_character (quote_byte q) d ≡ true) x e))
  | inr k ↦ elim k [
    | inl y ↦ subst (λ b. Valued at s q b c) (sym y.0) (subst (Valued at s q true) (sym y.1) (value_feed at s q (subst (λ d. is_value_character (quote_byte q) d ≡ true) y.1 e)))
    | inr z ↦ value_other at s q r c ok e z.0 z.1
  ]
]

value_more : (s : State) (xs ys : List ℕ) → with_value (with_value s xs) ys ≡ with_value s (xs ++ ys)
value_more s xs ys = ap (λ x. record s { attr = record s.attr { value = x } }) (append_assoc s.attr.value xs ys)

literal_run : (at : ℕ) (s : State) (q : Quote) (r : Bool) (cs : List ℕ) → scalars cs ≡ true → list_all (is_value_character (quote_byte q)) cs ≡ true → (k : Bool) × Walk at (at_mode s (modes.Value q) r) (encodes cs) [] (at_mode (with_value s (map spaced (line_ends r cs))) (modes.Value q) k)
literal_run at s q r [] ok e = (r, Walk-to at _ _ _ _ _ _ (ap (λ x. at_mode x (modes.Value q) r) (sym (no_value s))) refl (Walk-none at (at_mode s (modes.Value q) r)))
literal_run at s q r (c ∷ cs) ok e =
    let o = and_parts (utf8.scalar c) (scalars cs) ok in
    let p = and_parts (is_value_character (quote_byte q) c) (list_all (is_value_character (quote_byte q)) cs) e in
    let one = value_one at s q r c o.0 p.0 in
    let more = literal_run (at + length (encode c)) (with_value s one.read) q one.returned cs o.1 p.1 in (
      more.0,
      Walk-to at _ _ _ _ _ _ (ap (λ x. at_mode x (modes.Value q) more.0) (value_more s one.read (map spaced (line_ends one.returned cs)) ∙ ap (with_value s) (sym (one.ends cs)))) refl
          (Walk-append at _ _ _ (encode c) (encodes cs) [] [] one.walk more.1),
    )

-- the parts of a value
pub value_run : (at : ℕ) (s : State) (q : Quote) (r : Bool) (parts : List ValuePart) → (starts is_literal parts ≡ true → r ≡ false) → scalars (value_text parts) ≡ true → list_all (is_part (quote_byte q)) parts ≡ true → are_apart is_literal parts ≡ true → (k : Bool) × Walk at (at_mode s (modes.Value q) r) (encodes (value_text parts)) [] (at_mode (with_value s (value_of parts)) (modes.Value q) k)
value_run at s q r [] f ok e a = (r, Walk-to at _ _ _ _ _ _ (ap (λ x. at_mode x (modes.Value q) r) (sym (no_value s))) refl (Walk-none at (at_mode s (modes.Value q) r)))
value_run at s q r (Literal text ∷ parts) f ok e a =
    let o = scalars-parts text (value_text parts) ok in
    let p = and_parts (list_all (is_value_character (quote_byte q)) text) (list_all (is_part (quote_byte q)) parts) e in
    let b = and_parts (not (starts is_literal parts)) (are_apart is_literal parts) a in
    let one = literal_run at s q false text o.0 p.0 in
    let w : Walk at (at_mode s (modes.Value q) r) (encodes text) [] (at_mode (with_value s (map spaced (line_ends false text))) (modes.Value q) one.0) =
    subst (λ x. Walk at (at_mode s (modes.Value q) x) (encodes text) [] (at_mode (with_value s (map spaced (line_ends false text))) (modes.Value q) one.0)) (sym (f refl)) one.1 in
    let more = value_run (at + length (encodes text)) (with_value s (map spaced (line_ends false text))) q one.0 parts (λ x. absurd (true≢false (sym x ∙ not-true (starts is_literal parts) b.0))) o.1 p.1 b.1 in (
      more.0,
      Walk-over at _ _ _ _ [] (encodes-append text (value_text parts))
          (Walk-to at _ _ _ _ _ _ (ap (λ x. at_mode x (modes.Value q) more.0) (value_more s (map spaced (line_ends false text)) (value_of parts))) refl
          (Walk-append at _ _ _ (encodes text) (encodes (value_text parts)) [] [] w more.1)),
    )
value_run at s q r (Named reference ∷ parts) f ok e a =
    let o = scalars-parts (reference_text reference) (value_text parts) ok in
    let p = and_parts (is_reference reference) (list_all (is_part (quote_byte q)) parts) e in
    let more = value_run (at + length (encodes (reference_text reference))) (with_value s (referred reference ∷ [])) q false parts (λ x. refl) o.1 p.1 a in (
      more.0,
      Walk-over at _ _ _ _ [] (encodes-append (reference_text reference) (value_text parts))
          (Walk-to at _ _ _ _ _ _ (ap (λ x. at_mode x (modes.Value q) more.0) (value_more s (referred reference ∷ []) (value_of parts))) refl
          (Walk-append at _ _ _ (encodes (reference_text reference)) (encodes (value_text parts)) [] [] (reference_walk at s (Value q) r reference p.0) more.1)),
    )
