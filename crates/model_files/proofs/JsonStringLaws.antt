-- The strings of a text of JSON in UTF-8 are in UTF-8 too: its tokens have none but such.
use Rattle.std.proofs.Common.{◌≡◌, ◌⊎◌, ℕ, zero, suc, ◌+◌, ◌-◌, ◌*◌, ◌<◌, ◌≤◌, Bool, true, false, cond, ◌&&◌, ◌||◌, ◌==◌, nat_lt, List, [], ◌∷◌, ◌++◌, length, get_or, take, drop, IsUtf8, refl, sym, ap, ◌∙◌, subst, arith, append_assoc, append-nil, length-append, Option, None, Some, inl, inr}
use Rattle.std.specs.List.{AllByRecursion}
use Rattle.std.specs.Option.{option_map, option_and_then}
use Rattle.std.specs.Str.{IsCharBoundary}
use Rattle.std.specs.Char.{IsScalar, is_digit, digit_value, encode_utf8}
use Rattle.std.proofs.lemmas.Bool.{and_parts, cases_lt, eqb-true, ltb-true, ltb-false, lt-ltb, le-ltb, le-leb, leb-true}
use Rattle.std.proofs.lemmas.Str.{IsUtf8-append, IsUtf8-nil, IsUtf8-encode, IsUtf8-take, IsUtf8-drop, encode_ascii, IsCharBoundary-before_ascii, IsCharBoundary-after_ascii}
use Rattle.json.specs.Text.{code_unit, short_escape, is_high_surrogate, is_low_surrogate, surrogate_pair, Within, plain, after_backslash, after_u, after_high, prepend, content}
use Rattle.json.specs.Token.{Token, begin_object, end_object, begin_array, end_array, key, string, number, boolean, null, bad}
use Rattle.json.specs.Word.{is_operator, is_space, word, literal, number_before, after_number, ends_word, head}
use Rattle.json.specs.Lex.{Lexeme, token, comma, colon, Class, quote, backslash, operator, space, other, class, operator_lexeme, string_token, Mode, between, in_word, in_string, in_escape, lex_byte, lex, Place, fresh, after_value, after_comma, after_key, begins_colon, may_begin, may_close, if_allowed, place_token, punctuate, tokens}
use Rattle.json.specs.Ascii as ascii
use Rattle.std.proofs.lemmas.Option.{same_Some}

-- ---- around a byte of ASCII

at_seam : (pre : List ℕ) (x : ℕ) (xs : List ℕ) → get_or (pre ++ x ∷ xs) (length pre) 0 ≡ x
at_seam [] x xs = refl
at_seam (p ∷ pre) x xs = at_seam pre x xs

taken : (pre xs : List ℕ) → take (length pre) (pre ++ xs) ≡ pre
taken [] xs = refl
taken (p ∷ pre) xs = ap (λ (ys : List ℕ). p ∷ ys) (taken pre xs)

dropped : (pre : List ℕ) (x : ℕ) (xs : List ℕ) → drop (suc (length pre)) (pre ++ x ∷ xs) ≡ xs
dropped [] x xs = refl
dropped (p ∷ pre) x xs = dropped pre x xs

-- what stands on its two sides
pub beside : (pre : List ℕ) (x : ℕ) (xs : List ℕ) → x < 128 → IsUtf8 (pre ++ x ∷ xs) → IsUtf8 pre × IsUtf8 xs
beside pre x xs small u =
    let bytes : List ℕ = pre ++ x ∷ xs in
    let long : length bytes ≡ length pre + length (x ∷ xs) = length-append pre (x ∷ xs) in
    let more : length (x ∷ xs) ≡ suc (length xs) = refl in
    let within : length pre < length bytes = omega (arith, long, more) in
    let here : get_or bytes (length pre) 0 < 128 = (let same = at_seam pre x xs in omega (arith, same, small)) in
    let after : length pre + 1 ≡ suc (length pre) = omega arith in
    let behind : IsUtf8 (drop (length pre + 1) bytes) = IsUtf8-drop bytes (length pre + 1) u (IsCharBoundary-after_ascii bytes (length pre) u within here) in (
      subst IsUtf8 (taken pre (x ∷ xs)) (IsUtf8-take bytes (length pre) u (IsCharBoundary-before_ascii bytes (length pre) within here)),
      subst IsUtf8 (ap (λ (n : ℕ). drop n bytes) after ∙ dropped pre x xs) behind,
    )

-- a byte further
further : (pre : List ℕ) (x : ℕ) (xs : List ℕ) → IsUtf8 (pre ++ x ∷ xs) → IsUtf8 ((pre ++ x ∷ []) ++ xs)
further pre x xs u = subst IsUtf8 (sym (append_assoc pre (x ∷ []) xs)) u

chained : {X Y : Type 0} (f : X → Option Y) (o : Option X) (y : Y) → option_and_then f o ≡ Some y → (x : X) × (o ≡ Some x) × (f x ≡ Some y)
chained f None y e = absurd cc
chained f (Some x) y e = (x, refl, e)

mapped : {X Y : Type 0} (f : X → Y) (o : Option X) (y : Y) → option_map f o ≡ Some y → (x : X) × (o ≡ Some x) × (f x ≡ y)
mapped f None y e = absurd cc
mapped f (Some x) y e = (x, refl, same_Some _ _ e)

-- a digit is below 123, and its value below 16
high_digit : (c : ℕ) → 123 ≤ c → digit_value c ≡ 36
high_digit c l =
    let a : nat_lt c 48 ≡ false = le-ltb c 48 (omega (arith, l)) in
    let b : nat_lt c 58 ≡ false = le-ltb c 58 (omega (arith, l)) in
    let d : nat_lt c 65 ≡ false = le-ltb c 65 (omega (arith, l)) in
    let e : nat_lt c 91 ≡ false = le-ltb c 91 (omega (arith, l)) in
    let f : nat_lt c 97 ≡ false = le-ltb c 97 (omega (arith, l)) in
    let g : nat_lt c 123 ≡ false = le-ltb c 123 (omega (arith, l)) in
    rw (a, b, d, e, f, g) refl

digit_small : (c : ℕ) → is_digit c 16 ≡ true → c < 128
digit_small c h = elim (cases_lt c 123) [
  | inl l ↦ omega (arith, l)
  | inr l ↦ (
      let value : digit_value c < 16 = ltb-true (digit_value c) 16 h in
      let high : digit_value c ≡ 36 = high_digit c l in
      omega (arith, value, high))
]

record IsUnit (a b c d u : ℕ) : Type 0 where
  first : a < 128
  second : b < 128
  third : c < 128
  fourth : d < 128
  few : u < 65536

-- the code unit of four hex digits
unit_is : (a b c d u : ℕ) → code_unit a b c d ≡ Some u → IsUnit a b c d u
unfolding code_unit
unit_is a b c d u e = by (is_digit a 16 && is_digit b 16 && is_digit c 16 && is_digit d 16) refl e
  where
    value : ℕ
    value = digit_value a * 4096 + digit_value b * 256 + digit_value c * 16 + digit_value d

    by : (t : Bool) → (is_digit a 16 && is_digit b 16 && is_digit c 16 && is_digit d 16) ≡ t → cond t (Some value) None ≡ Some u → IsUnit a b c d u
    by false f g = absurd cc
    by true f g =
        let last = and_parts (is_digit a 16 && is_digit b 16 && is_digit c 16) (is_digit d 16) f in
        let third = and_parts (is_digit a 16 && is_digit b 16) (is_digit c 16) last.0 in
        let front = and_parts (is_digit a 16) (is_digit b 16) third.0 in
        let va : digit_value a < 16 = ltb-true (digit_value a) 16 front.0 in
        let vb : digit_value b < 16 = ltb-true (digit_value b) 16 front.1 in
        let vc : digit_value c < 16 = ltb-true (digit_value c) 16 third.1 in
        let vd : digit_value d < 16 = ltb-true (digit_value d) 16 last.1 in
        let same : value ≡ u = same_Some value u g in
        record {
          first = digit_small a front.0;
          second = digit_small b front.1;
          third = digit_small c third.1;
          fourth = digit_small d last.1;
          few = omega (arith, va, vb, vc, vd, same);
        }

low_scalar : (u : ℕ) → u < 55296 → IsScalar u
low_scalar u l = (let t : nat_lt u 55296 ≡ true = lt-ltb u 55296 l in rw (t) refl)

high_scalar : (u : ℕ) → 57344 ≤ u → u < 1114112 → IsScalar u
high_scalar u l h =
    let a : nat_lt u 55296 ≡ false = le-ltb u 55296 (omega (arith, l)) in
    let b = le-leb 57344 u l in
    let c : nat_lt u 1114112 ≡ true = lt-ltb u 1114112 h in
    rw (a, b, c) refl

prepended : (bytes : List ℕ) (o : Option (List ℕ)) (s : List ℕ) → prepend bytes o ≡ Some s → (t : List ℕ) × (o ≡ Some t) × (s ≡ bytes ++ t)
prepended bytes o s e = (let (t, is, same) = mapped (λ t. bytes ++ t) o s e in (t, is, sym same))

one_ascii : (c : ℕ) → c < 128 → IsUtf8 (c ∷ [])
one_ascii c small = subst IsUtf8 (encode_ascii c small) (IsUtf8-encode c (low_scalar c (omega (arith, small))))

-- ---- the content of a string

short_small : (x c : ℕ) → short_escape x ≡ Some c → (x < 128) × (c < 128)
unfolding short_escape
short_small x c e = by ((x == ascii.quote) || (x == ascii.backslash) || (x == ascii.slash)) refl e
  where
    either : (a b d : Bool) → (x == ascii.quote) ≡ a → (x == ascii.backslash) ≡ b → (x == ascii.slash) ≡ d → (a || b || d) ≡ true → x < 128
    either true b d f g h i = (let same = eqb-true x 34 f in omega (arith, same))
    either false true d f g h i = (let same = eqb-true x 92 g in omega (arith, same))
    either false false true f g h i = (let same = eqb-true x 47 h in omega (arith, same))
    either false false false f g h i = absurd cc

    letter : (n k : ℕ) (b : Bool) (o : Option ℕ) → n < 128 → k < 128 → (x == n) ≡ b → (o ≡ Some c → (x < 128) × (c < 128)) → cond b (Some k) o ≡ Some c → (x < 128) × (c < 128)
    letter n k true o small low f more g = (let same = eqb-true x n f in let value = same_Some k c g in (omega (arith, same, small), omega (arith, value, low)))
    letter n k false o small low f more g = more g

    letters : cond (x == ascii.lower_b) (Some ascii.backspace) (cond (x == ascii.lower_f) (Some ascii.form_feed) (cond (x == ascii.lower_n) (Some ascii.line_feed) (cond (x == ascii.lower_r) (Some ascii.carriage_return) (cond (x == ascii.lower_t) (Some ascii.tab) None)))) ≡ Some c
        → (x < 128) × (c < 128)
    letters =
        letter ascii.lower_b ascii.backspace (x == ascii.lower_b) _ (omega arith) (omega arith) refl
        (letter ascii.lower_f ascii.form_feed (x == ascii.lower_f) _ (omega arith) (omega arith) refl
        (letter ascii.lower_n ascii.line_feed (x == ascii.lower_n) _ (omega arith) (omega arith) refl
        (letter ascii.lower_r ascii.carriage_return (x == ascii.lower_r) _ (omega arith) (omega arith) refl
        (letter ascii.lower_t ascii.tab (x == ascii.lower_t) _ (omega arith) (omega arith) refl (λ g. absurd cc)))))

    by : (b : Bool) → ((x == ascii.quote) || (x == ascii.backslash) || (x == ascii.slash)) ≡ b
        → cond b (Some x) (cond (x == ascii.lower_b) (Some ascii.backspace) (cond (x == ascii.lower_f) (Some ascii.form_feed) (cond (x == ascii.lower_n) (Some ascii.line_feed) (cond (x == ascii.lower_r) (Some ascii.carriage_return) (cond (x == ascii.lower_t) (Some ascii.tab) None))))) ≡ Some c
        → (x < 128) × (c < 128)
    by true f g =
        let small = either (x == ascii.quote) (x == ascii.backslash) (x == ascii.slash) refl refl refl f in
        let same = same_Some x c g in
        (small, omega (arith, small, same))
    by false f g = letters g

-- what plain content goes on to, of lists of no more than this many bytes
abbrev Goes : ℕ → Type 0
Goes n = (pre xs s : List ℕ) → length xs ≤ n → IsUtf8 (pre ++ xs) → content plain xs ≡ Some s → IsUtf8 (pre ++ s)

with_char : (n u : ℕ) (xs s : List ℕ) → Goes n → length xs ≤ n → IsUtf8 xs → IsScalar u → prepend (encode_utf8 u) (content plain xs) ≡ Some s → IsUtf8 s
with_char n u xs s goes few v scalar e =
    let (t, is, same) = prepended (encode_utf8 u) (content plain xs) s e in
    subst IsUtf8 (sym same) (IsUtf8-append (encode_utf8 u) t (IsUtf8-encode u scalar) (goes [] xs t few v is))

of_unit : (n u : ℕ) (xs s : List ℕ) → Goes n → length xs ≤ n → IsUtf8 xs → u < 65536
    → (is_high_surrogate u ≡ true → content (after_high u) xs ≡ Some s → IsUtf8 s)
    → cond (is_high_surrogate u) (content (after_high u) xs) (cond (is_low_surrogate u) None (prepend (encode_utf8 u) (content plain xs))) ≡ Some s → IsUtf8 s
of_unit n u xs s goes few v small high e = by (cases_lt u 55296)
  where
    lone : (a b : Bool) → is_high_surrogate u ≡ a → is_low_surrogate u ≡ b → (a ≡ false → b ≡ false → IsScalar u)
        → cond a (content (after_high u) xs) (cond b None (prepend (encode_utf8 u) (content plain xs))) ≡ Some s → IsUtf8 s
    lone true b f g scalar h = high f h
    lone false true f g scalar h = absurd cc
    lone false false f g scalar h = with_char n u xs s goes few v (scalar refl refl) h

    past : 55296 ≤ u → is_high_surrogate u ≡ false → is_low_surrogate u ≡ false → IsScalar u
    past l f g = elim (cases_lt u 56320) [
      | inl below ↦ (
          let both : is_high_surrogate u ≡ true = rw (le-leb 55296 u l, lt-ltb u 56320 below) refl in
          let no : true ≡ false = sym both ∙ f in
          absurd cc)
      | inr above ↦ elim (cases_lt u 57344) [
        | inl below ↦ (
            let both : is_low_surrogate u ≡ true = rw (le-leb 56320 u above, lt-ltb u 57344 below) refl in
            let no : true ≡ false = sym both ∙ g in
            absurd cc)
        | inr higher ↦ high_scalar u higher (omega (arith, small))
      ]
    ]

    by : (u < 55296) ⊎ (55296 ≤ u) → IsUtf8 s
    by (inl l) = lone (is_high_surrogate u) (is_low_surrogate u) refl refl (λ f g. low_scalar u l) e
    by (inr l) = lone (is_high_surrogate u) (is_low_surrogate u) refl refl (past l) e

low_half : (n h l : ℕ) (xs s : List ℕ) → Goes n → length xs ≤ n → IsUtf8 xs → h < 56320 → 55296 ≤ h
    → cond (is_low_surrogate l) (prepend (encode_utf8 (surrogate_pair h l)) (content plain xs)) None ≡ Some s → IsUtf8 s
low_half n h l xs s goes few v under over e = by (is_low_surrogate l) refl e
  where
    by : (b : Bool) → is_low_surrogate l ≡ b → cond b (prepend (encode_utf8 (surrogate_pair h l)) (content plain xs)) None ≡ Some s → IsUtf8 s
    by false f g = absurd cc
    by true f g =
        let both = and_parts _ _ f in
        let from : 56320 ≤ l = leb-true 56320 l both.0 in
        let to : l < 57344 = ltb-true l 57344 both.1 in
        let low : l - 56320 < 1024 = omega (arith, from, to) in
        let high : h - 55296 < 1024 = omega (arith, under, over) in
        let pair : surrogate_pair h l ≡ 65536 + (h - 55296) * 1024 + (l - 56320) = refl in
        with_char n (surrogate_pair h l) xs s goes few v (high_scalar (surrogate_pair h l) (omega (arith, pair, low, high)) (omega (arith, pair, low, high))) g

second_unit : (n h : ℕ) (xs s : List ℕ) → Goes n → length xs ≤ n → IsUtf8 xs → h < 56320 → 55296 ≤ h → content (after_high h) xs ≡ Some s → IsUtf8 s
unfolding content
second_unit n h [] s goes few v under over e = absurd cc
second_unit n h (x ∷ []) s goes few v under over e = absurd cc
second_unit n h (x ∷ y ∷ []) s goes few v under over e = absurd cc
second_unit n h (x ∷ y ∷ a ∷ []) s goes few v under over e = absurd cc
second_unit n h (x ∷ y ∷ a ∷ b ∷ []) s goes few v under over e = absurd cc
second_unit n h (x ∷ y ∷ a ∷ b ∷ c ∷ []) s goes few v under over e = absurd cc
second_unit n h (x ∷ y ∷ a ∷ b ∷ c ∷ d ∷ xs) s goes few v under over e = by ((x == ascii.backslash) && (y == ascii.lower_u)) refl e
  where
    by : (t : Bool) → ((x == ascii.backslash) && (y == ascii.lower_u)) ≡ t
        → cond t (option_and_then (λ l. cond (is_low_surrogate l) (prepend (encode_utf8 (surrogate_pair h l)) (content plain xs)) None) (code_unit a b c d)) None ≡ Some s → IsUtf8 s
    by false f g = absurd cc
    by true f g =
        let both = and_parts (x == ascii.backslash) (y == ascii.lower_u) f in
        let first = eqb-true x 92 both.0 in
        let second = eqb-true y 117 both.1 in
        let (l, unit, rest) = chained (λ l. cond (is_low_surrogate l) (prepend (encode_utf8 (surrogate_pair h l)) (content plain xs)) None) (code_unit a b c d) s g in
        let digits = unit_is a b c d l unit in
        let v1 : IsUtf8 (y ∷ a ∷ b ∷ c ∷ d ∷ xs) = (beside [] x (y ∷ a ∷ b ∷ c ∷ d ∷ xs) (omega (arith, first)) v).1 in
        let v2 : IsUtf8 (a ∷ b ∷ c ∷ d ∷ xs) = (beside [] y (a ∷ b ∷ c ∷ d ∷ xs) (omega (arith, second)) v1).1 in
        let v3 : IsUtf8 (b ∷ c ∷ d ∷ xs) = (beside [] a (b ∷ c ∷ d ∷ xs) digits.first v2).1 in
        let v4 : IsUtf8 (c ∷ d ∷ xs) = (beside [] b (c ∷ d ∷ xs) digits.second v3).1 in
        let v5 : IsUtf8 (d ∷ xs) = (beside [] c (d ∷ xs) digits.third v4).1 in
        let v6 : IsUtf8 xs = (beside [] d xs digits.fourth v5).1 in
        low_half n h l xs s goes (omega (arith, few)) v6 under over rest

first_unit : (n : ℕ) (xs s : List ℕ) → Goes n → length xs ≤ n → IsUtf8 xs → content after_u xs ≡ Some s → IsUtf8 s
unfolding content
first_unit n [] s goes few v e = absurd cc
first_unit n (a ∷ []) s goes few v e = absurd cc
first_unit n (a ∷ b ∷ []) s goes few v e = absurd cc
first_unit n (a ∷ b ∷ c ∷ []) s goes few v e = absurd cc
first_unit n (a ∷ b ∷ c ∷ d ∷ xs) s goes few v e =
    let (u, unit, rest) = chained (λ u. cond (is_high_surrogate u) (content (after_high u) xs) (cond (is_low_surrogate u) None (prepend (encode_utf8 u) (content plain xs)))) (code_unit a b c d) s e in
    let digits = unit_is a b c d u unit in
    let v3 : IsUtf8 (b ∷ c ∷ d ∷ xs) = (beside [] a (b ∷ c ∷ d ∷ xs) digits.first v).1 in
    let v4 : IsUtf8 (c ∷ d ∷ xs) = (beside [] b (c ∷ d ∷ xs) digits.second v3).1 in
    let v5 : IsUtf8 (d ∷ xs) = (beside [] c (d ∷ xs) digits.third v4).1 in
    let v6 : IsUtf8 xs = (beside [] d xs digits.fourth v5).1 in
    of_unit n u xs s goes (omega (arith, few)) v6 digits.few
    (λ f g. (let both = and_parts _ _ f in second_unit n u xs s goes (omega (arith, few)) v6 (ltb-true u 56320 both.1) (leb-true 55296 u both.0) g)) rest

escaped : (n : ℕ) (xs s : List ℕ) → Goes n → length xs ≤ n → IsUtf8 xs → content after_backslash xs ≡ Some s → IsUtf8 s
unfolding content
escaped n [] s goes few v e = absurd cc
escaped n (x ∷ xs) s goes few v e = by (x == ascii.lower_u) refl e
  where
    by : (b : Bool) → (x == ascii.lower_u) ≡ b → cond b (content after_u xs) (option_and_then (λ c. prepend (c ∷ []) (content plain xs)) (short_escape x)) ≡ Some s → IsUtf8 s
    by true f g =
        let same = eqb-true x 117 f in
        first_unit n xs s goes (omega (arith, few)) (beside [] x xs (omega (arith, same)) v).1 g
    by false f g =
        let (c, short, rest) = chained (λ c. prepend (c ∷ []) (content plain xs)) (short_escape x) s g in
        let small = short_small x c short in
        let (t, is, same) = prepended (c ∷ []) (content plain xs) s rest in
        subst IsUtf8 (sym same) (IsUtf8-append (c ∷ []) t (one_ascii c small.1) (goes [] xs t (omega (arith, few)) (beside [] x xs small.0 v).1 is))

goes_all : (n : ℕ) → Goes n
unfolding content
goes_all n pre [] s few u e = absurd cc
goes_all zero pre (x ∷ xs) s few u e = absurd (omega (arith, few))
goes_all (suc n) pre (x ∷ xs) s few u e = quoted (goes_all n) (x == ascii.quote) refl e
  where
    kept : Goes n → (b : Bool) → cond b None (prepend (x ∷ []) (content plain xs)) ≡ Some s → IsUtf8 (pre ++ s)
    kept goes true f = absurd cc
    kept goes false f =
        let (t, is, same) = prepended (x ∷ []) (content plain xs) s f in
        subst (λ (ys : List ℕ). IsUtf8 (pre ++ ys)) (sym same)
        (subst IsUtf8 (append_assoc pre (x ∷ []) t) (goes (pre ++ x ∷ []) xs t (omega (arith, few)) (further pre x xs u) is))

    slashed : Goes n → (b : Bool) → (x == ascii.backslash) ≡ b → cond b (content after_backslash xs) (cond (nat_lt x ascii.space) None (prepend (x ∷ []) (content plain xs))) ≡ Some s → IsUtf8 (pre ++ s)
    slashed goes true f g =
        let same = eqb-true x 92 f in
        let sides = beside pre x xs (omega (arith, same)) u in
        IsUtf8-append pre s sides.0 (escaped n xs s goes (omega (arith, few)) sides.1 g)
    slashed goes false f g = kept goes (nat_lt x ascii.space) g

    quoted : Goes n → (b : Bool) → (x == ascii.quote) ≡ b
        → cond b (Some []) (cond (x == ascii.backslash) (content after_backslash xs) (cond (nat_lt x ascii.space) None (prepend (x ∷ []) (content plain xs)))) ≡ Some s → IsUtf8 (pre ++ s)
    quoted goes true f g =
        let same = eqb-true x 34 f in
        subst (λ (ys : List ℕ). IsUtf8 (pre ++ ys)) (same_Some [] s g) (subst IsUtf8 (sym (append-nil pre)) (beside pre x xs (omega (arith, same)) u).0)
    quoted goes false f g = slashed goes (x == ascii.backslash) refl g

pub content_utf8 : (xs s : List ℕ) → IsUtf8 xs → content plain xs ≡ Some s → IsUtf8 s
content_utf8 xs s u e = goes_all (length xs) [] xs s (omega arith) u e

-- ---- tokens

abbrev pub IsWellToken : Token → Type 0
IsWellToken begin_object = Unit {0}
IsWellToken end_object = Unit {0}
IsWellToken begin_array = Unit {0}
IsWellToken end_array = Unit {0}
IsWellToken (key s) = IsUtf8 s
IsWellToken (string s) = IsUtf8 s
IsWellToken (number s) = Unit {0}
IsWellToken (boolean b) = Unit {0}
IsWellToken null = Unit {0}
IsWellToken bad = Unit {0}

abbrev pub AreWellTokens : List Token → Type 0
AreWellTokens ts = AllByRecursion IsWellToken ts

abbrev IsWellLexeme : Lexeme → Type 0
IsWellLexeme (token t) = IsWellToken t
IsWellLexeme comma = Unit {0}
IsWellLexeme colon = Unit {0}

abbrev AreWellLexemes : List Lexeme → Type 0
AreWellLexemes ls = AllByRecursion IsWellLexeme ls

well_cond : (b : Bool) (t u : Token) → IsWellToken t → IsWellToken u → IsWellToken (cond b t u)
well_cond true t u f g = f
well_cond false t u f g = g

lexeme_cond : (b : Bool) (t u : Lexeme) → IsWellLexeme t → IsWellLexeme u → IsWellLexeme (cond b t u)
lexeme_cond true t u f g = f
lexeme_cond false t u f g = g

number_well : (t : List ℕ) (o : Option (List ℕ)) → IsWellToken (number_before t o)
number_well t None = tt
number_well t (Some rest) = well_cond (ends_word rest) _ bad tt tt

word_well : (t : List ℕ) → IsWellToken (word t)
unfolding word
word_well t =
    well_cond (head t == ascii.lower_t) _ _ (well_cond _ (boolean true) bad tt tt)
    (well_cond (head t == ascii.lower_f) _ _ (well_cond _ (boolean false) bad tt tt)
    (well_cond (head t == ascii.lower_n) _ _ (well_cond _ null bad tt tt) (number_well t (after_number t))))

operator_well : (x : ℕ) → IsWellLexeme (operator_lexeme x)
operator_well x =
    lexeme_cond (x == ascii.open_brace) (token begin_object) _ tt
    (lexeme_cond (x == ascii.close_brace) (token end_object) _ tt
    (lexeme_cond (x == ascii.open_bracket) (token begin_array) _ tt (lexeme_cond (x == ascii.close_bracket) (token end_array) _ tt (lexeme_cond (x == ascii.comma) comma colon tt tt))))

string_well : (xs : List ℕ) (o : Option (List ℕ)) → content plain xs ≡ o → IsUtf8 xs → IsWellToken (string_token o)
string_well xs None e u = tt
string_well xs (Some s) e u = content_utf8 xs s u e

is_quote : (x : ℕ) → class x ≡ quote → x ≡ 34
is_quote x e = by (x == ascii.quote) refl e
  where
    spaced : (b : Bool) → cond b space other ≡ quote → ⊥
    spaced true f = cc
    spaced false f = cc

    operated : (b : Bool) (o : Class) → (o ≡ quote → ⊥) → cond b operator o ≡ quote → ⊥
    operated true o h f = cc
    operated false o h f = h f

    slashed : (b : Bool) (o : Class) → (o ≡ quote → ⊥) → cond b backslash o ≡ quote → ⊥
    slashed true o h f = cc
    slashed false o h f = h f

    by : (b : Bool) → (x == ascii.quote) ≡ b → cond b quote (cond (x == ascii.backslash) backslash (cond (is_operator x) operator (cond (is_space x) space other))) ≡ quote → x ≡ 34
    by true f g = eqb-true x 34 f
    by false f g = absurd (slashed (x == ascii.backslash) _ (operated (is_operator x) _ (spaced (is_space x))) g)

byte_well : (m : Mode) (c : Class) (pre : List ℕ) (x : ℕ) (xs : List ℕ) (k : Mode → List Lexeme) → class x ≡ c → IsUtf8 (pre ++ x ∷ xs) → ((next : Mode) → AreWellLexemes (k next)) → AreWellLexemes (lex_byte m c x xs k)
byte_well between quote pre x xs k e u h =
    let same = is_quote x e in
    (string_well xs (content plain xs) refl (beside pre x xs (omega (arith, same)) u).1, h in_string)
byte_well between backslash pre x xs k e u h = (tt, h in_word)
byte_well between operator pre x xs k e u h = (operator_well x, h between)
byte_well between space pre x xs k e u h = h between
byte_well between other pre x xs k e u h = (word_well (x ∷ xs), h in_word)
byte_well in_word quote pre x xs k e u h = h in_word
byte_well in_word backslash pre x xs k e u h = h in_word
byte_well in_word operator pre x xs k e u h = (operator_well x, h between)
byte_well in_word space pre x xs k e u h = h between
byte_well in_word other pre x xs k e u h = h in_word
byte_well in_string quote pre x xs k e u h = h between
byte_well in_string backslash pre x xs k e u h = h in_escape
byte_well in_string operator pre x xs k e u h = h in_string
byte_well in_string space pre x xs k e u h = h in_string
byte_well in_string other pre x xs k e u h = h in_string
byte_well in_escape c pre x xs k e u h = h in_string

lex_well : (m : Mode) (pre xs : List ℕ) → IsUtf8 (pre ++ xs) → AreWellLexemes (lex m xs)
unfolding lex
lex_well m pre [] u = tt
lex_well m pre (x ∷ xs) u = byte_well m (class x) pre x xs (λ next. lex next xs) refl u (λ next. lex_well next (pre ++ x ∷ []) xs (further pre x xs u))

allowed_well : (b : Bool) (t : Token) (k : Place → List Token) (next : Place) → IsWellToken t → ((p : Place) → AreWellTokens (k p)) → AreWellTokens (if_allowed b t k next)
allowed_well true t k next f h = (f, h next)
allowed_well false t k next f h = (tt, tt)

place_well : (p : Place) (t : Token) (b : Bool) (k : Place → List Token) → IsWellToken t → ((q : Place) → AreWellTokens (k q)) → AreWellTokens (place_token p t b k)
place_well p begin_object b k f h = allowed_well (may_begin p) begin_object k fresh tt h
place_well p end_object b k f h = allowed_well (may_close p) end_object k after_value tt h
place_well p begin_array b k f h = allowed_well (may_begin p) begin_array k fresh tt h
place_well p end_array b k f h = allowed_well (may_close p) end_array k after_value tt h
place_well p (key s) b k f h = (tt, tt)
place_well p (string s) true k f h = allowed_well (may_begin p) (key s) k after_key f h
place_well p (string s) false k f h = allowed_well (may_begin p) (string s) k after_value f h
place_well p (number s) b k f h = allowed_well (may_begin p) (number s) k after_value tt h
place_well p (boolean c) b k f h = allowed_well (may_begin p) (boolean c) k after_value tt h
place_well p null b k f h = allowed_well (may_begin p) null k after_value tt h
place_well p bad b k f h = (tt, tt)

punctuate_well : (ls : List Lexeme) (p : Place) → AreWellLexemes ls → AreWellTokens (punctuate p ls)
unfolding punctuate
punctuate_well [] fresh h = tt
punctuate_well [] after_value h = tt
punctuate_well [] after_comma h = (tt, tt)
punctuate_well [] after_key h = (tt, tt)
punctuate_well (token t ∷ ls) fresh h = place_well fresh t (begins_colon ls) (λ next. punctuate next ls) h.0 (λ q. punctuate_well ls q h.1)
punctuate_well (token t ∷ ls) after_value h = place_well after_value t (begins_colon ls) (λ next. punctuate next ls) h.0 (λ q. punctuate_well ls q h.1)
punctuate_well (token t ∷ ls) after_comma h = place_well after_comma t (begins_colon ls) (λ next. punctuate next ls) h.0 (λ q. punctuate_well ls q h.1)
punctuate_well (token t ∷ ls) after_key h = place_well after_key t (begins_colon ls) (λ next. punctuate next ls) h.0 (λ q. punctuate_well ls q h.1)
punctuate_well (comma ∷ ls) fresh h = (tt, tt)
punctuate_well (comma ∷ ls) after_value h = punctuate_well ls after_comma h.1
punctuate_well (comma ∷ ls) after_comma h = (tt, tt)
punctuate_well (comma ∷ ls) after_key h = (tt, tt)
punctuate_well (colon ∷ ls) fresh h = (tt, tt)
punctuate_well (colon ∷ ls) after_value h = (tt, tt)
punctuate_well (colon ∷ ls) after_comma h = (tt, tt)
punctuate_well (colon ∷ ls) after_key h = punctuate_well ls fresh h.1

-- the strings among the tokens of a text in UTF-8 are in UTF-8
pub tokens_well : (text : List ℕ) → IsUtf8 text → AreWellTokens (tokens text)
tokens_well text u = punctuate_well (lex between text) fresh (lex_well between [] text u)
