-- What one byte means for the characters behind a place: references and characters of several bytes.
use Rattle.std.proofs.Common.{◌≡◌, ℕ, ◌+◌, ◌-◌, ◌*◌, ◌≤◌, ◌<◌, Bool, true, false, cond, List, [], ◌∷◌, length, refl, sym, ◌∙◌, ap, subst, arith, Option, Some, None}
use Rattle.std.proofs.lemmas.Bool.{and_parts, and_from, or_left, or_right, eqb-true, cond-true, cond-false, lt-ltb, not_from_false, ne_eqb}
use Rattle.std.specs.Prelude.{◌==◌, ◌||◌, ◌&&◌, not, nat_lt, nat_le}
use Rattle.std.specs.List.{list_all}
use lib.Utf8.{scalar, scalars}
use Rattle.mof_metamodel.specs.Characters.{is_storable_character}
use Rattle.xmi_text.specs.ByteClass.{within}
use Rattle.xmi_text.specs.References as refs
use Rattle.xmi_text.specs.Automaton as automaton
use Rattle.xmi_text.specs.Automaton.{step, step_by}
use Rattle.xmi_text.specs.Markup as markup
use Rattle.xmi_text.specs.Markup.{piece_text}
use Rattle.xmi_text.specs.declared.error.TextKind.TheVariants as kinds
use Rattle.xmi_text.specs.declared.reference.Reference.{Reference}
use Rattle.xmi_text.specs.declared.reference.Reference.TheVariants as ref
use Rattle.xmi_text.specs.declared.state.State.{State}
use Rattle.xmi_text.specs.declared.state.Mode.TheVariants as modes
use Rattle.xmi_text.specs.declared.state.Within.{Within}
use Rattle.xmi_text.specs.declared.state.Within.TheVariants as places
use Rattle.xmi_text.proofs.completion.Sound.{within_range}
use Rattle.xmi_text.proofs.backward.Parsing.{Content}
use Rattle.xmi_text.proofs.backward.Backward.{in_mode, Numbered, Finishes, Behind, Referring, Read, Back, either, failed, low, gone, put, Has}
use Rattle.std.specs.Char.{digit_value}
use Rattle.std.proofs.lemmas.Bool.{le-ltb}

pick : (goal : Type 0) (x : Bool) (made part : Reference) (rest : Option Reference) → cond x (Some made) rest ≡ Some part → (x ≡ true → made ≡ part → goal) → (rest ≡ Some part → goal) → goal
pick goal true made part rest e f g = f refl cc
pick goal false made part rest e f g = g e

none_some : (part : Reference) → None ≡ Some part → ⊥
none_some part e = cc

shift : (part made : Reference) (b w : ℕ) (more : List ℕ) (next : Reference) → (Finishes made more → Finishes part (w ∷ more)) → Finishes next more → (b == w) ≡ true → made ≡ next → Finishes part (b ∷ more)
shift part made b w more next f k q m = put (Finishes part) b w more q (f (subst (λ (p : Reference). Finishes p more) (sym m) k))

twice : (x y : Bool) (r next : Reference) → cond x None (cond y None (Some r)) ≡ Some next → r ≡ next
twice true y r next e = cc
twice false true r next e = cc
twice false false r next e = cc

record Grew (made : ℕ → Reference) (base n : ℕ) (d : Option ℕ) (next : Reference) : Type 0 where
  k : ℕ
  digit : d ≡ Some k
  is : made (n * base + k) ≡ next

grown_is : (made : ℕ → Reference) (base n : ℕ) (d : Option ℕ) (next : Reference) → refs.grown made base n d ≡ Some next → Grew made base n d next
grown_is made base n None next e = absurd (none_some next e)
grown_is made base n (Some k) next e = record { k = k; digit = refl; is = twice (nat_lt 0x10ffff n) (nat_lt 0x10ffff (n * base + k)) (made (n * base + k)) next e }

none_nat : (k : ℕ) → None ≡ Some k → ⊥
none_nat k e = cc

same_nat : (a k : ℕ) → Some a ≡ Some k → a ≡ k
same_nat a k e = cc

value_digit : (b : ℕ) → 48 ≤ b → b ≤ 57 → digit_value b ≡ b - 48
value_digit b l u = cond-false (nat_lt b 48) _ _ (le-ltb b 48 l) ∙ cond-true (nat_lt b 58) _ _ (lt-ltb b 58 (omega arith))

value_high : (b : ℕ) → 65 ≤ b → b ≤ 70 → digit_value b ≡ b - 55
value_high b l u = cond-false (nat_lt b 48) _ _ (le-ltb b 48 (omega arith)) ∙ cond-false (nat_lt b 58) _ _ (le-ltb b 58 (omega arith)) ∙ cond-false (nat_lt b 65) _ _ (le-ltb b 65 l) ∙ cond-true (nat_lt b 91) _ _ (lt-ltb b 91 (omega arith))

value_small : (b : ℕ) → 97 ≤ b → b ≤ 102 → digit_value b ≡ b - 87
value_small b l u =
    cond-false (nat_lt b 48) _ _ (le-ltb b 48 (omega arith)) ∙ cond-false (nat_lt b 58) _ _ (le-ltb b 58 (omega arith)) ∙ cond-false (nat_lt b 65) _ _ (le-ltb b 65 (omega arith))
    ∙ cond-false (nat_lt b 91) _ _ (le-ltb b 91 (omega arith)) ∙ cond-false (nat_lt b 97) _ _ (le-ltb b 97 l) ∙ cond-true (nat_lt b 123) _ _ (lt-ltb b 123 (omega arith))

pick_nat : (goal : Type 0) (x : Bool) (a k : ℕ) (rest : Option ℕ) → cond x (Some a) rest ≡ Some k → (x ≡ true → a ≡ k → goal) → (x ≡ false → rest ≡ Some k → goal) → goal
pick_nat goal true a k rest e f g = f refl (same_nat a k e)
pick_nat goal false a k rest e f g = g refl e

digit_is : (b k : ℕ) → refs.digit b ≡ Some k → (markup.is_digit b ≡ true) × (digit_value b ≡ k)
digit_is b k e = pick_nat _ (within 48 57 b) (b - 48) k None e (λ w m. let r = within_range 48 57 b w in (w, value_digit b r.0 r.1 ∙ m)) (λ _ n. absurd (none_nat k n))

hexadecimal_is : (b k : ℕ) → refs.hexadecimal_digit b ≡ Some k → (markup.is_hexadecimal_digit b ≡ true) × (digit_value b ≡ k)
hexadecimal_is b k e =
    pick_nat _ (within 48 57 b) (b - 48) k _ e
    (λ w m. let r = within_range 48 57 b w in (or_left (within 48 57 b || within 65 70 b) _ (or_left (within 48 57 b) _ w), value_digit b r.0 r.1 ∙ m))
    (λ _ f. pick_nat _ (within 65 70 b) (b - 55) k _ f
    (λ w m. let r = within_range 65 70 b w in (or_left (within 48 57 b || within 65 70 b) _ (or_right (within 48 57 b) _ w), value_high b r.0 r.1 ∙ m))
    (λ _ g. pick_nat _ (within 97 102 b) (b - 87) k None g
    (λ w m. let r = within_range 97 102 b w in (or_right (within 48 57 b || within 65 70 b) _ w, value_small b r.0 r.1 ∙ m)) (λ _ n. absurd (none_nat k n))))

numbered_more : (is_one : ℕ → Bool) (base n b k : ℕ) (more : List ℕ) → is_one b ≡ true → digit_value b ≡ k → Numbered is_one base (n * base + k) more → Numbered is_one base n (b ∷ more)
numbered_more is_one base n b k more o v f = record {
  digits = b ∷ f.digits;
  is = ap (λ xs. b ∷ xs) f.is;
  all = and_from (is_one b) (list_all is_one f.digits) o f.all;
  good = subst (λ (x : ℕ). (scalars (markup.number base (n * base + x) f.digits ∷ []) && is_storable_character (markup.number base (n * base + x) f.digits)) ≡ true) (sym v) f.good;
}

some_digits : (b : ℕ) (ds : List ℕ) → not (length (b ∷ ds) == 0) ≡ true
some_digits b ds = not_from_false _ (ne_eqb (length (b ∷ ds)) 0 (λ e. omega arith))

decimal_of : (n b : ℕ) (more : List ℕ) (next : Reference) → refs.decimal n b ≡ Some next → Finishes next more → (k : ℕ) × (markup.is_digit b ≡ true) × (digit_value b ≡ k) × Numbered markup.is_digit 10 (n * 10 + k) more
decimal_of n b more next e f =
    let g = grown_is ref.Decimal 10 n (refs.digit b) next e in
    let d = digit_is b g.k g.digit in
    (g.k, d.0, d.1, subst (λ (p : Reference). Finishes p more) (sym g.is) f)

hexadecimal_of : (n b : ℕ) (more : List ℕ) (next : Reference) → refs.hexadecimal n b ≡ Some next → Finishes next more → (k : ℕ) × (markup.is_hexadecimal_digit b ≡ true) × (digit_value b ≡ k) × Numbered markup.is_hexadecimal_digit 16 (n * 16 + k) more
hexadecimal_of n b more next e f =
    let g = grown_is ref.Digits 16 n (refs.hexadecimal_digit b) next e in
    let d = hexadecimal_is b g.k g.digit in
    (g.k, d.0, d.1, subst (λ (p : Reference). Finishes p more) (sym g.is) f)

hash_decimal : (b : ℕ) (more : List ℕ) (next : Reference) → refs.decimal 0 b ≡ Some next → Finishes next more → Finishes ref.Hash (b ∷ more)
unfolding numbered_more
hash_decimal b more next e f =
    let d = decimal_of 0 b more next e f in
    let m = numbered_more markup.is_digit 10 0 b d.0 more d.1 d.2 d.3 in
    (markup.Decimal (b ∷ d.3.digits), ap (λ xs. 38 ∷ 35 ∷ b ∷ xs) (sym d.3.is), and_from (not (length (b ∷ d.3.digits) == 0)) _ (some_digits b d.3.digits) (and_from (list_all markup.is_digit (b ∷ d.3.digits)) _ m.all m.good))

hash_hexadecimal : (b : ℕ) (more : List ℕ) (next : Reference) → refs.hexadecimal 0 b ≡ Some next → Finishes next more → Finishes ref.Hexadecimal (b ∷ more)
unfolding numbered_more
hash_hexadecimal b more next e f =
    let d = hexadecimal_of 0 b more next e f in
    let m = numbered_more markup.is_hexadecimal_digit 16 0 b d.0 more d.1 d.2 d.3 in
    (markup.Hexadecimal (b ∷ d.3.digits), ap (λ xs. 38 ∷ 35 ∷ 120 ∷ b ∷ xs) (sym d.3.is), and_from (not (length (b ∷ d.3.digits) == 0)) _ (some_digits b d.3.digits) (and_from (list_all markup.is_hexadecimal_digit (b ∷ d.3.digits)) _ m.all m.good))

pub grows : (part : Reference) (b : ℕ) (more : List ℕ) (next : Reference) → refs.extended part b ≡ Some next → Finishes next more → Finishes part (b ∷ more)
grows ref.Hash b more next e f = pick _ (b == 120) ref.Hexadecimal next _ e (shift ref.Hash ref.Hexadecimal b 120 more next (λ k. k) f) (λ g. hash_decimal b more next g f)
grows (ref.Decimal n) b more next e f = let d = decimal_of n b more next e f in numbered_more markup.is_digit 10 n b d.0 more d.1 d.2 d.3
grows ref.Hexadecimal b more next e f = hash_hexadecimal b more next e f
grows (ref.Digits n) b more next e f = let d = hexadecimal_of n b more next e f in numbered_more markup.is_hexadecimal_digit 16 n b d.0 more d.1 d.2 d.3
grows ref.Begun b more next e f =
    pick _ (b == 97) ref.A next _ e (shift ref.Begun ref.A b 97 more next (λ k. k) f)
    (λ e2. pick _ (b == 108) ref.L next _ e2 (shift ref.Begun ref.L b 108 more next (λ k. k) f)
    (λ e3. pick _ (b == 103) ref.G next _ e3 (shift ref.Begun ref.G b 103 more next (λ k. k) f)
    (λ e4. pick _ (b == 113) ref.Q next _ e4 (shift ref.Begun ref.Q b 113 more next (λ k. k) f)
    (λ e5. pick _ (b == 35) ref.Hash next _ e5 (shift ref.Begun ref.Hash b 35 more next (λ k. k) f) (λ n. absurd (none_some next n))))))
grows ref.A b more next e f =
    pick _ (b == 109) ref.Am next _ e (shift ref.A ref.Am b 109 more next (λ k. k) f)
    (λ e2. pick _ (b == 112) ref.Ap next _ e2 (shift ref.A ref.Ap b 112 more next (λ k. k) f) (λ n. absurd (none_some next n)))
grows ref.Am b more next e f = pick _ (b == 112) ref.Amp next _ e (shift ref.Am ref.Amp b 112 more next (λ k. k) f) (λ n. absurd (none_some next n))
grows ref.Ap b more next e f = pick _ (b == 111) ref.Apo next _ e (shift ref.Ap ref.Apo b 111 more next (λ k. k) f) (λ n. absurd (none_some next n))
grows ref.Apo b more next e f = pick _ (b == 115) ref.Apos next _ e (shift ref.Apo ref.Apos b 115 more next (λ k. k) f) (λ n. absurd (none_some next n))
grows ref.L b more next e f = pick _ (b == 116) ref.Lt next _ e (shift ref.L ref.Lt b 116 more next (λ k. k) f) (λ n. absurd (none_some next n))
grows ref.G b more next e f = pick _ (b == 116) ref.Gt next _ e (shift ref.G ref.Gt b 116 more next (λ k. k) f) (λ n. absurd (none_some next n))
grows ref.Q b more next e f = pick _ (b == 117) ref.Qu next _ e (shift ref.Q ref.Qu b 117 more next (λ k. k) f) (λ n. absurd (none_some next n))
grows ref.Qu b more next e f = pick _ (b == 111) ref.Quo next _ e (shift ref.Qu ref.Quo b 111 more next (λ k. k) f) (λ n. absurd (none_some next n))
grows ref.Quo b more next e f = pick _ (b == 116) ref.Quot next _ e (shift ref.Quo ref.Quot b 116 more next (λ k. k) f) (λ n. absurd (none_some next n))
grows ref.Amp b more next e f = absurd (none_some next e)
grows ref.Apos b more next e f = absurd (none_some next e)
grows ref.Lt b more next e f = absurd (none_some next e)
grows ref.Gt b more next e f = absurd (none_some next e)
grows ref.Quot b more next e f = absurd (none_some next e)

good_by : (x y : Bool) (n c : ℕ) → y ≡ is_storable_character n → refs.kept (cond x (Some n) None) ≡ Some c → (x && y) ≡ true
good_by true true n c q e = refl
good_by true false n c q e = absurd (none_nat c (sym (ap (λ b. cond b (Some n) None) (sym q)) ∙ e))
good_by false y n c q e = absurd (none_nat c e)

or_cond : (x y : Bool) → (x || y) ≡ cond x true y
or_cond true y = refl
or_cond false y = refl

good_of : (n c : ℕ) → refs.storable n ≡ Some c → (scalars (n ∷ []) && is_storable_character n) ≡ true
good_of n c e =
    let g = good_by (nat_lt n 0xd800 || (nat_le 0xe000 n && nat_lt n 0x110000)) (is_storable_character n) n c refl e in
    let p = and_parts _ _ g in
    and_from (scalars (n ∷ [])) (is_storable_character n) (and_from (scalar n) true (sym (or_cond (nat_lt n 0xd800) (nat_le 0xe000 n && nat_lt n 0x110000)) ∙ p.0) refl) p.1

pub ends : (part : Reference) (c : ℕ) → refs.character part ≡ Some c → Finishes part (59 ∷ [])
ends ref.Amp c e = (markup.Amp, refl, refl)
ends ref.Apos c e = (markup.Apos, refl, refl)
ends ref.Lt c e = (markup.Lt, refl, refl)
ends ref.Gt c e = (markup.Gt, refl, refl)
ends ref.Quot c e = (markup.Quot, refl, refl)
ends (ref.Decimal n) c e = record { digits = []; is = refl; all = refl; good = good_of n c e }
ends (ref.Digits n) c e = record { digits = []; is = refl; all = refl; good = good_of n c e }
ends _ c e = absurd (none_nat c e)

to_back : (s : State) (names : List (List ℕ)) (amp : ℕ) (place : Within) (part : Reference) (b : ℕ) (bs : List ℕ) (c : Option ℕ) → b < 128 → Has s names → (b == 59) ≡ true → refs.character part ≡ c → Back (Read (Referring (Behind s names place) part) (b ∷ bs)) bs (automaton.reference_to (in_mode s (modes.Reference amp place part)) amp place c)
to_back s names amp places.Content part b bs None h e q z = failed _ bs s (modes.Reference amp places.Content part) names kinds.BadEntity amp e
to_back s names amp (places.Value v) part b bs None h e q z = failed _ bs s (modes.Reference amp (places.Value v) part) names kinds.BadEntity amp e
to_back s names amp places.Content part b bs (Some c) h e q z = record {
  back = λ l. low (Content s.rooted names) (Referring (Behind s names places.Content) part) b bs h
      (λ cs k. put (Referring (Behind s names places.Content) part) b 59 cs q (record { more = 59 ∷ []; rest = cs; is = refl; finishes = ends part c z; behind = k })) (l names e);
}
to_back s names amp (places.Value v) part b bs (Some c) h e q z = record {
  back = λ l. low (Behind s names (places.Value v)) (Referring (Behind s names (places.Value v)) part) b bs h
      (λ cs k. put (Referring (Behind s names (places.Value v)) part) b 59 cs q (record { more = 59 ∷ []; rest = cs; is = refl; finishes = ends part c z; behind = k })) (l names e);
}

low_by : (b w : ℕ) → w < 128 → (b == w) ≡ true → b < 128
low_by b w h q = omega (arith, eqb-true b w q)

decimal_low : (n b : ℕ) (next : Reference) → refs.decimal n b ≡ Some next → b < 128
decimal_low n b next e =
    let g = grown_is ref.Decimal 10 n (refs.digit b) next e in
    let r = within_range 48 57 b (digit_is b g.k g.digit).0 in omega (arith, r.1)

small_digit : (b k : ℕ) → refs.hexadecimal_digit b ≡ Some k → b < 128
small_digit b k e =
    pick_nat _ (within 48 57 b) (b - 48) k _ e (λ w m. let r = within_range 48 57 b w in omega (arith, r.1))
    (λ _ f. pick_nat _ (within 65 70 b) (b - 55) k _ f (λ w m. let r = within_range 65 70 b w in omega (arith, r.1))
    (λ _ g. pick_nat _ (within 97 102 b) (b - 87) k None g (λ w m. let r = within_range 97 102 b w in omega (arith, r.1)) (λ _ n. absurd (none_nat k n))))

hexadecimal_low : (n b : ℕ) (next : Reference) → refs.hexadecimal n b ≡ Some next → b < 128
hexadecimal_low n b next e = let g = grown_is ref.Digits 16 n (refs.hexadecimal_digit b) next e in small_digit b g.k g.digit

only_low : (b w : ℕ) (made next : Reference) → w < 128 → refs.only b w made ≡ Some next → b < 128
only_low b w made next h e = pick _ (b == w) made next None e (λ q _. low_by b w h q) (λ n. absurd (none_some next n))

pub extended_low : (part : Reference) (b : ℕ) (next : Reference) → refs.extended part b ≡ Some next → b < 128
extended_low ref.Hash b next e = pick _ (b == 120) ref.Hexadecimal next _ e (λ q _. low_by b 120 (omega arith) q) (λ g. decimal_low 0 b next g)
extended_low (ref.Decimal n) b next e = decimal_low n b next e
extended_low ref.Hexadecimal b next e = hexadecimal_low 0 b next e
extended_low (ref.Digits n) b next e = hexadecimal_low n b next e
extended_low ref.Begun b next e =
    pick _ (b == 97) ref.A next _ e (λ q _. low_by b 97 (omega arith) q)
    (λ e2. pick _ (b == 108) ref.L next _ e2 (λ q _. low_by b 108 (omega arith) q)
    (λ e3. pick _ (b == 103) ref.G next _ e3 (λ q _. low_by b 103 (omega arith) q)
    (λ e4. pick _ (b == 113) ref.Q next _ e4 (λ q _. low_by b 113 (omega arith) q)
    (λ e5. pick _ (b == 35) ref.Hash next _ e5 (λ q _. low_by b 35 (omega arith) q) (λ n. absurd (none_some next n))))))
extended_low ref.A b next e =
    pick _ (b == 109) ref.Am next _ e (λ q _. low_by b 109 (omega arith) q) (λ e2. pick _ (b == 112) ref.Ap next _ e2 (λ q _. low_by b 112 (omega arith) q) (λ n. absurd (none_some next n)))
extended_low ref.Am b next e = only_low b 112 ref.Amp next (omega arith) e
extended_low ref.Ap b next e = only_low b 111 ref.Apo next (omega arith) e
extended_low ref.Apo b next e = only_low b 115 ref.Apos next (omega arith) e
extended_low ref.L b next e = only_low b 116 ref.Lt next (omega arith) e
extended_low ref.G b next e = only_low b 116 ref.Gt next (omega arith) e
extended_low ref.Q b next e = only_low b 117 ref.Qu next (omega arith) e
extended_low ref.Qu b next e = only_low b 111 ref.Quo next (omega arith) e
extended_low ref.Quo b next e = only_low b 116 ref.Quot next (omega arith) e
extended_low ref.Amp b next e = absurd (none_some next e)
extended_low ref.Apos b next e = absurd (none_some next e)
extended_low ref.Lt b next e = absurd (none_some next e)
extended_low ref.Gt b next e = absurd (none_some next e)
extended_low ref.Quot b next e = absurd (none_some next e)

on_back : (s : State) (names : List (List ℕ)) (amp : ℕ) (place : Within) (part : Reference) (b : ℕ) (bs : List ℕ) (next : Option Reference) → Has s names → refs.extended part b ≡ next → Back (Read (Referring (Behind s names place) part) (b ∷ bs)) bs (automaton.reference_on (in_mode s (modes.Reference amp place part)) amp place next)
on_back s names amp place part b bs None e z = failed _ bs s (modes.Reference amp place part) names kinds.BadEntity amp e
on_back s names amp place part b bs (Some next) e z =
    gone s (modes.Reference amp place part) (modes.Reference amp place next) names b bs (extended_low part b next z) e tt
    (λ cs k. record { more = b ∷ k.more; rest = k.rest; is = ap (λ xs. b ∷ xs) k.is; finishes = grows part b k.more next z k.finishes; behind = k.behind })

pub reference_back : (s : State) (names : List (List ℕ)) (amp : ℕ) (place : Within) (part : Reference) (b : ℕ) (bs : List ℕ) → Has s names → Back (Read (Referring (Behind s names place) part) (b ∷ bs)) bs (automaton.reference (in_mode s (modes.Reference amp place part)) amp place part b)
reference_back s names amp place part b bs e =
    either (b == 59) (λ q. to_back s names amp place part b bs (refs.character part) (low_by b 59 (omega arith) q) e q refl) (λ _. on_back s names amp place part b bs (refs.extended part b) e refl)
