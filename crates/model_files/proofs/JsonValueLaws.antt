-- The texts of values are those values, and the words of identifiers are those identifiers.
use Rattle.std.proofs.Common.{◌≡◌, ℕ, suc, ◌+◌, ◌-◌, ◌*◌, ◌/◌, ◌%◌, ◌^◌, ◌<◌, ◌≤◌, Bool, true, false, cond, List, [], ◌∷◌, ◌++◌, map, length, refl, sym, ap, ap₂, ◌∙◌, subst, arith, append_assoc, append-nil, Option, None, Some}
use Rattle.std.specs.Prelude.{◌==◌, ◌||◌, ◌&&◌, not, is_some, nat_lt, ℤ, pos, negsuc, neg_ℤ, chars}
use Rattle.std.specs.Fmt.{decimal, signed_decimal}
use Rattle.std.specs.List.{list_all, list_any, AllByRecursion}
use Rattle.std.specs.Option.{option_map}
use Rattle.std.proofs.lemmas.Bool.{and_parts, true≢false, lt-ltb, ltb-true, le-leb, ne_eqb, not-true}
use Rattle.std.proofs.lemmas.Bool.Decides.{nat_tests}
use Rattle.std.proofs.lemmas.Fmt.{decimal_by_steps}
use Rattle.serde_json.specs.Data.{Num, unsigned, negative, float, Data, null, boolean, number, string, array, object}
use Rattle.serde_json.specs.Find.{as_i64}
use Rattle.mof_metamodel.specs.declared.desc.MetaDesc.{MetaDesc}
use Rattle.mof_metamodel.specs.declared.desc.EnumId.{EnumId}
use Rattle.mof_metamodel.specs.declared.desc.PropType.{PropType}
use Rattle.mof_metamodel.specs.declared.desc.PropType.TheVariants as types
use Rattle.mof_metamodel.specs.Characters.{is_blank, is_storable_text, is_identifier_text}
use Rattle.mof_metamodel.specs.Metamodels.{literal_number, literal_at}
use Rattle.mof_metamodel.specs.WellMeta.{is_digit}
use Rattle.mof_metamodel.proofs.MetaLaws.{literal_named}
use Rattle.object_tables.specs.declared.value.Value.{Value}
use Rattle.object_tables.specs.declared.value.Value.TheVariants as values
use Rattle.model_assembly.specs.References.{with_word, words_behind, words}
use Rattle.model_assembly.specs.Values as texts
use Rattle.model_assembly.specs.Values.{is_all_blank, without_front_blanks, without_end_blanks, trimmed, number_from, spelled_number, at_most, not_negative, integer_of, boolean_of}
use Rattle.model_files.specs.JsonContent.{text_value, value_of, item_text, value_text, is_reference, with_blanks}
use Rattle.model_files.proofs.JsonNumberLaws.{Fits}

-- ---- texts without blanks

never : (b : Bool) → (b ≡ true → ⊥) → b ≡ false
never true f = absurd (f refl)
never false f = refl

abbrev Unblank : List ℕ → Type 0
Unblank cs = AllByRecursion (λ c. is_blank c ≡ false) cs

ends_kept : (cs : List ℕ) → Unblank cs → without_end_blanks cs ≡ cs
ends_kept [] h = refl
ends_kept (c ∷ cs) h = ap (λ (b : Bool). cond (b && is_all_blank cs) [] (c ∷ without_end_blanks cs)) h.0 ∙ ap (λ (xs : List ℕ). c ∷ xs) (ends_kept cs h.1)

front_kept : (cs : List ℕ) → Unblank cs → without_front_blanks cs ≡ cs
front_kept [] h = refl
front_kept (c ∷ cs) h = ap (λ (b : Bool). cond b (without_front_blanks cs) (c ∷ cs)) h.0

trimmed_kept : (cs : List ℕ) → Unblank cs → trimmed cs ≡ cs
trimmed_kept cs h = ap without_end_blanks (front_kept cs h) ∙ ends_kept cs h

-- ---- integers

digit_no_blank : (c : ℕ) → is_digit c ≡ true → is_blank c ≡ false
digit_no_blank c h = grind (arith, nat_tests)

digit_no_plus : (c : ℕ) → is_digit c ≡ true → (c == 43) ≡ false
digit_no_plus c h = grind (arith, nat_tests)

digit_no_minus : (c : ℕ) → is_digit c ≡ true → (c == 45) ≡ false
digit_no_minus c h = grind (arith, nat_tests)

small_digit : (n : ℕ) → n < 10 → is_digit (48 + n) ≡ true
small_digit n h = grind (arith, nat_tests)

digits_no_blank : (cs : List ℕ) → list_all is_digit cs ≡ true → Unblank cs
digits_no_blank [] h = tt
digits_no_blank (c ∷ cs) h = let both = and_parts (is_digit c) (list_all is_digit cs) h in (digit_no_blank c both.0, digits_no_blank cs both.1)

-- the digits of a number
record AreDigits (n : ℕ) (cs : List ℕ) : Type 0 where
  some : 0 < length cs
  digits : list_all is_digit cs ≡ true
  spelled : number_from 0 cs ≡ n

spelled_more : (k : ℕ) (cs : List ℕ) (c : ℕ) → number_from k (cs ++ c ∷ []) ≡ 10 * number_from k cs + (c - 48)
spelled_more k [] c = refl
spelled_more k (d ∷ cs) c = spelled_more (10 * k + (d - 48)) cs c

digits_more : (cs : List ℕ) (c : ℕ) → list_all is_digit cs ≡ true → is_digit c ≡ true → list_all is_digit (cs ++ c ∷ []) ≡ true
digits_more [] c h g = ap (λ b. b && true) g
digits_more (d ∷ cs) c h g =
    let both = and_parts (is_digit d) (list_all is_digit cs) h in
    ap₂ (λ a b. a && b) both.0 (digits_more cs c both.1 g)

longer : (cs : List ℕ) (c : ℕ) → 0 < length (cs ++ c ∷ [])
longer [] c = omega arith
longer (d ∷ cs) c = omega arith

one_digit : (n : ℕ) → n < 10 → AreDigits n ((48 + n) ∷ [])
one_digit n l =
    let value : 10 * 0 + ((48 + n) - 48) ≡ n = omega arith in
    record { some = omega arith; digits = ap (λ b. b && true) (small_digit n l); spelled = value }

digit_behind : (n : ℕ) (cs : List ℕ) → 10 ≤ n → AreDigits (n / 10) cs → AreDigits n (cs ++ ((48 + n % 10) ∷ []))
digit_behind n cs l h =
    let small : n % 10 < 10 = omega arith in
    let value : 10 * (n / 10) + ((48 + n % 10) - 48) ≡ n = omega arith in
    record {
      some = longer cs (48 + n % 10);
      digits = digits_more cs (48 + n % 10) h.digits (small_digit (n % 10) small);
      spelled = spelled_more 0 cs (48 + n % 10) ∙ ap (λ (k : ℕ). 10 * k + ((48 + n % 10) - 48)) h.spelled ∙ value;
    }

decimal_digits : (n : ℕ) → n < 2 ^ 64 → AreDigits n (decimal n)
decimal_digits n l = decimal_by_steps AreDigits one_digit digit_behind n l

spelled_is : (n : ℕ) (cs : List ℕ) → AreDigits n cs → spelled_number cs ≡ Some n
spelled_is n cs h =
    ap₂ (λ (a b : Bool). cond (a && b) (Some (number_from 0 cs)) None) (lt-ltb 0 (length cs) h.some) h.digits ∙ ap (λ (k : ℕ). Some k) h.spelled

within : (limit n : ℕ) → n ≤ limit → at_most limit (Some n) ≡ Some n
within limit n l = ap (λ (b : Bool). cond b (Some n) None) (le-leb n limit l)

unsigned_read : (n : ℕ) (cs : List ℕ) → n < 2 ^ 63 → AreDigits n cs → integer_of cs ≡ Some (pos n)
unsigned_read n [] l h = absurd (let some = h.some in omega (arith, some))
unsigned_read n (c ∷ cs) l h =
    let first = (and_parts (is_digit c) (list_all is_digit cs) h.digits).0 in
    ap₂ (λ (a b : Bool). cond a (not_negative cs) (cond b (texts.negative cs) (not_negative (c ∷ cs)))) (digit_no_plus c first) (digit_no_minus c first)
    ∙ ap (λ (o : Option ℕ). option_map pos (at_most (2 ^ 63 - 1) o)) (spelled_is n (c ∷ cs) h)
    ∙ ap (option_map pos) (within (2 ^ 63 - 1) n (omega (arith, l)))

negative_read : (k : ℕ) (cs : List ℕ) → suc k ≤ 2 ^ 63 → AreDigits (suc k) cs → integer_of (45 ∷ cs) ≡ Some (negsuc k)
negative_read k cs l h =
    ap (λ (o : Option ℕ). option_map (λ n. neg_ℤ (pos n)) (at_most (2 ^ 63) o)) (spelled_is (suc k) cs h)
    ∙ ap (option_map (λ n. neg_ℤ (pos n))) (within (2 ^ 63) (suc k) l)

abbrev ReadsBack : ℤ → Type 0
ReadsBack i = integer_of (trimmed (signed_decimal i)) ≡ Some i

unsigned_back : (n : ℕ) → n < 2 ^ 63 → ReadsBack (pos n)
unsigned_back n l =
    let digits = decimal_digits n (omega (arith, l)) in
    ap integer_of (trimmed_kept (decimal n) (digits_no_blank (decimal n) digits.digits)) ∙ unsigned_read n (decimal n) l digits

negative_back : (k : ℕ) → suc k ≤ 2 ^ 63 → ReadsBack (negsuc k)
negative_back k l =
    let digits = decimal_digits (suc k) (omega (arith, l)) in
    ap integer_of (trimmed_kept (45 ∷ decimal (suc k)) (refl, digits_no_blank (decimal (suc k)) digits.digits)) ∙ negative_read k (decimal (suc k)) l digits

-- ---- values

abbrev IsRead : MetaDesc → Option PropType → Option Value → Type 0
IsRead meta type None = Unit {0}
IsRead meta type (Some v) = texts.value_of meta type (value_text meta (Some v)) ≡ Some v

integer_known : (meta : MetaDesc) (n : Num) → Fits (number n) → IsRead meta (Some types.Int) (option_map (λ i. values.Int i) (as_i64 n))
integer_known meta (unsigned n) f = by (nat_lt n (2 ^ 63)) refl
  where
    by : (b : Bool) → nat_lt n (2 ^ 63) ≡ b → IsRead meta (Some types.Int) (option_map (λ i. values.Int i) (cond b (Some (pos n)) None))
    by true e = ap (option_map (λ i. values.Int i)) (unsigned_back n (ltb-true n (2 ^ 63) e))
    by false e = tt
integer_known meta (negative z) f = subst (λ (i : ℤ). texts.value_of meta (Some types.Int) (signed_decimal i) ≡ Some (values.Int i)) (sym f.1) (ap (option_map (λ i. values.Int i)) (negative_back f.0 f.2))
integer_known meta (float x) f = tt

boolean_known : (meta : MetaDesc) (b : Bool) → IsRead meta (Some types.Bool) (Some (values.Bool b))
boolean_known meta true = refl
boolean_known meta false = refl

text_known : (meta : MetaDesc) (text : List ℕ) → IsRead meta (Some types.Str) (text_value text)
text_known meta text = by (is_storable_text text)
  where
    by : (b : Bool) → IsRead meta (Some types.Str) (cond b (Some (values.Str text)) None)
    by true = refl
    by false = tt

literal_known : (meta : MetaDesc) (e : EnumId) (text : List ℕ) → IsRead meta (Some (types.Enum e)) (option_map (λ n. values.Lit e n) (literal_number meta e.0 text))
literal_known meta e text = by (literal_number meta e.0 text) refl
  where
    by : (o : Option ℕ) → literal_number meta e.0 text ≡ o → IsRead meta (Some (types.Enum e)) (option_map (λ n. values.Lit e n) o)
    by None f = tt
    by (Some n) f =
        let name : literal_at meta e.0 n ≡ text = literal_named meta e.0 text (Some n) (sym f) in
        ap (λ (t : List ℕ). option_map (λ k. values.Lit e k) (literal_number meta e.0 t)) name ∙ ap (option_map (λ k. values.Lit e k)) f

value_known : (meta : MetaDesc) (type : Option PropType) (d : Data) → Fits d → IsRead meta type (value_of meta type d)
value_known meta None d f = tt
value_known meta (Some types.Str) null f = tt
value_known meta (Some types.Str) (boolean b) f = tt
value_known meta (Some types.Str) (number n) f = tt
value_known meta (Some types.Str) (string s) f = text_known meta (chars s)
value_known meta (Some types.Str) (array ds) f = tt
value_known meta (Some types.Str) (object ms) f = tt
value_known meta (Some types.Int) null f = tt
value_known meta (Some types.Int) (boolean b) f = tt
value_known meta (Some types.Int) (number n) f = integer_known meta n f
value_known meta (Some types.Int) (string s) f = tt
value_known meta (Some types.Int) (array ds) f = tt
value_known meta (Some types.Int) (object ms) f = tt
value_known meta (Some types.Bool) null f = tt
value_known meta (Some types.Bool) (boolean b) f = boolean_known meta b
value_known meta (Some types.Bool) (number n) f = tt
value_known meta (Some types.Bool) (string s) f = tt
value_known meta (Some types.Bool) (array ds) f = tt
value_known meta (Some types.Bool) (object ms) f = tt
value_known meta (Some (types.Enum e)) null f = tt
value_known meta (Some (types.Enum e)) (boolean b) f = tt
value_known meta (Some (types.Enum e)) (number n) f = tt
value_known meta (Some (types.Enum e)) (string s) f = literal_known meta e (chars s)
value_known meta (Some (types.Enum e)) (array ds) f = tt
value_known meta (Some (types.Enum e)) (object ms) f = tt
value_known meta (Some (types.Class c)) d f = tt

-- the text of a value that may stand in a slot is that value
pub text_is_value : (meta : MetaDesc) (type : Option PropType) (d : Data) → Fits d → is_some (value_of meta type d) ≡ true
    → texts.value_of meta type (value_text meta (value_of meta type d)) ≡ value_of meta type d
text_is_value meta type d f stands = by (value_of meta type d) (value_known meta type d f) stands
  where
    by : (o : Option Value) → IsRead meta type o → is_some o ≡ true → texts.value_of meta type (value_text meta o) ≡ o
    by None r s = absurd (true≢false (sym s))
    by (Some v) r s = r

-- ---- words

abbrev pub IsWord : List ℕ → Type 0
IsWord text = (0 < length text) × Unblank text

unblank_from : (text : List ℕ) → list_any is_blank text ≡ false → Unblank text
unblank_from [] h = tt
unblank_from (c ∷ cs) h = by (is_blank c) refl h (unblank_from cs)
  where
    by : (b : Bool) → is_blank c ≡ b → (b || list_any is_blank cs) ≡ false → (list_any is_blank cs ≡ false → Unblank cs) → Unblank (c ∷ cs)
    by true e g more = absurd (true≢false g)
    by false e g more = (e, more g)

some_length : (text : List ℕ) → (length text == 0) ≡ false → 0 < length text
some_length [] e = absurd (true≢false e)
some_length (c ∷ cs) e = omega arith

-- an identifier is a word
pub word_from : (text : List ℕ) → is_identifier_text text ≡ true → IsWord text
word_from text h =
    let both = and_parts (is_storable_text text && not (list_any is_blank text)) (not (length text == 0)) h in
    let first = and_parts (is_storable_text text) (not (list_any is_blank text)) both.0 in
    (some_length text (not-true _ both.1), unblank_from text (not-true _ first.1))

word_on : (word text rest : List ℕ) → Unblank text → words_behind word (text ++ rest) ≡ words_behind (word ++ text) rest
word_on word [] rest h = ap (λ (w : List ℕ). words_behind w rest) (sym (append-nil word))
word_on word (c ∷ cs) rest h =
    ap (λ (b : Bool). cond b (with_word word (words_behind [] (cs ++ rest))) (words_behind (word ++ c ∷ []) (cs ++ rest))) h.0
    ∙ word_on (word ++ c ∷ []) cs rest h.1 ∙ ap (λ (w : List ℕ). words_behind w rest) (append_assoc word (c ∷ []) cs)

word_kept : (text : List ℕ) (rest : List (List ℕ)) → 0 < length text → with_word text rest ≡ text ∷ rest
word_kept text rest l = ap (λ (b : Bool). cond b rest (text ∷ rest)) (ne_eqb (length text) 0 (λ e. omega (arith, l, e)))

-- words with blanks between are read back
pub words_back : (ws : List (List ℕ)) → AllByRecursion IsWord ws → words (with_blanks ws) ≡ ws
words_back [] h = refl
words_back (text ∷ []) h =
    ap (words_behind []) (sym (append-nil text)) ∙ word_on [] text [] h.0.1 ∙ word_kept text [] h.0.0
words_back (text ∷ other ∷ rest) h =
    word_on [] text (32 ∷ with_blanks (other ∷ rest)) h.0.1 ∙ word_kept text (words (with_blanks (other ∷ rest))) h.0.0
    ∙ ap (λ (ts : List (List ℕ)). text ∷ ts) (words_back (other ∷ rest) h.1)

words_of_items : (ds : List Data) → AllByRecursion (λ d. is_reference d ≡ true) ds → AllByRecursion IsWord (map item_text ds)
words_of_items [] h = tt
words_of_items (d ∷ ds) h = (first d h.0, words_of_items ds h.1)
  where
    first : (x : Data) → is_reference x ≡ true → IsWord (item_text x)
    first null e = absurd (true≢false (sym e))
    first (boolean b) e = absurd (true≢false (sym e))
    first (number n) e = absurd (true≢false (sym e))
    first (string s) e = word_from (chars s) e
    first (array ds) e = absurd (true≢false (sym e))
    first (object ms) e = absurd (true≢false (sym e))

-- what a slot of identifiers names
pub words_are : (ds : List Data) → AllByRecursion (λ d. is_reference d ≡ true) ds → words (with_blanks (map item_text ds)) ≡ map item_text ds
words_are ds h = words_back (map item_text ds) (words_of_items ds h)
