-- The text of a value is read as the value.
use Rattle.std.proofs.Common.{◌≡◌, ℕ, suc, ◌+◌, ◌-◌, ◌*◌, ◌^◌, ◌<◌, ◌≤◌, Bool, true, false, List, [], ◌∷◌, ◌++◌, length, refl, sym, ◌∙◌, ap, arith, Option, None, Some}
use Rattle.std.specs.Prelude.{◌/◌, ◌%◌, ◌==◌, ◌||◌, ◌&&◌, nat_lt, nat_le, ℤ, pos, negsuc, neg_ℤ, if◌then◌else◌, IsTrue, FitsSigned}
use Rattle.std.specs.Int.{w64}
use Rattle.std.specs.Fmt.{decimal, signed_decimal}
use Rattle.std.specs.List.{list_all, list_any}
use Rattle.std.specs.Option.{option_map}
use Rattle.std.proofs.lemmas.Bool.{and_parts, and_from, or_parts, cond-true, cond-false, lt-ltb, ltb-true, ltb-false, leb-true, le-leb, ne_eqb, eqb-true}
use Rattle.std.proofs.lemmas.Fmt.{decimal_by_steps}
use Rattle.std.proofs.lemmas.List.{get_or_past}
use Rattle.mof_metamodel.specs.declared.desc.MetaDesc.{MetaDesc}
use Rattle.mof_metamodel.specs.declared.desc.EnumId.{EnumId}
use Rattle.mof_metamodel.specs.declared.desc.PropType.{PropType}
use Rattle.mof_metamodel.specs.declared.desc.PropType.TheVariants as types
use Rattle.mof_metamodel.specs.Characters.{is_blank}
use Rattle.mof_metamodel.specs.Metamodels.{enum_at, enum_count, no_enum, literal_at, literal_number}
use Rattle.mof_metamodel.specs.WellMeta.{WellMeta, is_digit}
use Rattle.mof_metamodel.specs.Members.{HasNoLiteral}
use Rattle.mof_metamodel.proofs.MetaLaws.{literal_within, literal_named}
use Rattle.object_tables.specs.declared.value.Value.{Value}
use Rattle.object_tables.specs.declared.value.Value.TheVariants as values
use Rattle.object_tables.specs.Models.{is_value_of}
use Rattle.xmi_profile.specs.Canon.{value_text}
use Rattle.model_assembly.specs.Held.{IsHeld}
use Rattle.model_assembly.specs.Values.{is_all_blank, without_front_blanks, without_end_blanks, trimmed, number_from, spelled_number, at_most, not_negative, negative, integer_of, value_of}

-- ---- texts without blanks

plain_front : (cs : List ℕ) → list_any is_blank cs ≡ false → without_front_blanks cs ≡ cs
plain_front [] e = refl
plain_front (c ∷ cs) e = cond-false (is_blank c) (without_front_blanks cs) (c ∷ cs) (or_parts (is_blank c) (list_any is_blank cs) e).0

plain_end : (cs : List ℕ) → list_any is_blank cs ≡ false → without_end_blanks cs ≡ cs
plain_end [] e = refl
plain_end (c ∷ cs) e =
    let n = or_parts (is_blank c) (list_any is_blank cs) e in
    cond-false (is_all_blank (c ∷ cs)) [] (c ∷ without_end_blanks cs) (ap (λ b. b && is_all_blank cs) n.0) ∙ ap (λ xs. c ∷ xs) (plain_end cs n.1)

plain_trimmed : (cs : List ℕ) → list_any is_blank cs ≡ false → trimmed cs ≡ cs
plain_trimmed cs e = ap without_end_blanks (plain_front cs e) ∙ plain_end cs e

digit_plain : (c : ℕ) → is_digit c ≡ true → is_blank c ≡ false
digit_plain c d =
    let low : 48 ≤ c = leb-true 48 c (and_parts (nat_le 48 c) (nat_le c 57) d).0 in
    ap (λ t. t || (c == 9) || (c == 10) || (c == 13)) (ne_eqb c 32 (λ e. omega (arith, e, low)))
    ∙ ap (λ t. t || (c == 10) || (c == 13)) (ne_eqb c 9 (λ e. omega (arith, e, low)))
    ∙ ap (λ t. t || (c == 13)) (ne_eqb c 10 (λ e. omega (arith, e, low)))
    ∙ ne_eqb c 13 (λ e. omega (arith, e, low))

digits_plain : (cs : List ℕ) → list_all is_digit cs ≡ true → list_any is_blank cs ≡ false
digits_plain [] d = refl
digits_plain (c ∷ cs) d =
    let both = and_parts (is_digit c) (list_all is_digit cs) d in
    ap (λ t. t || list_any is_blank cs) (digit_plain c both.0) ∙ digits_plain cs both.1

-- ---- integers

-- digits that spell a number
record IsSpelling (n : ℕ) (cs : List ℕ) : Type 0 where
  value : number_from 0 cs ≡ n
  digits : list_all is_digit cs ≡ true
  some : 0 < length cs

number_pushed : (n : ℕ) (cs : List ℕ) (d : ℕ) → number_from n (cs ++ d ∷ []) ≡ 10 * number_from n cs + (d - 48)
number_pushed n [] d = refl
number_pushed n (c ∷ cs) d = number_pushed (10 * n + (c - 48)) cs d

digits_pushed : (cs : List ℕ) (d : ℕ) → list_all is_digit cs ≡ true → is_digit d ≡ true → list_all is_digit (cs ++ d ∷ []) ≡ true
digits_pushed [] d h e = ap (λ t. t && true) e
digits_pushed (c ∷ cs) d h e =
    let both = and_parts (is_digit c) (list_all is_digit cs) h in
    ap (λ t. t && list_all is_digit (cs ++ d ∷ [])) both.0 ∙ digits_pushed cs d both.1 e

digit_of : (n : ℕ) → n < 10 → is_digit (48 + n) ≡ true
digit_of n l = and_from (nat_le 48 (48 + n)) (nat_le (48 + n) 57) (le-leb 48 (48 + n) (omega arith)) (le-leb (48 + n) 57 (omega (arith, l)))

spelled_one : (n : ℕ) → n < 10 → IsSpelling n ((48 + n) ∷ [])
spelled_one n l = record { value = omega arith; digits = ap (λ t. t && true) (digit_of n l); some = omega arith }

spelled_more : (n : ℕ) (cs : List ℕ) → 10 ≤ n → IsSpelling (n / 10) cs → IsSpelling n (cs ++ ((48 + n % 10) ∷ []))
spelled_more n cs l s =
    let below : n % 10 < 10 = omega arith in
    record {
      value = number_pushed 0 cs (48 + n % 10) ∙ ap (λ k. 10 * k + ((48 + n % 10) - 48)) s.value ∙ omega arith;
      digits = digits_pushed cs (48 + n % 10) s.digits (digit_of (n % 10) below);
      some = some_pushed cs (48 + n % 10);
    }
  where
    some_pushed : (xs : List ℕ) (d : ℕ) → 0 < length (xs ++ d ∷ [])
    some_pushed [] d = omega arith
    some_pushed (x ∷ xs) d = omega arith

decimal_spelled : (n : ℕ) → n < 2 ^ 64 → IsSpelling n (decimal n)
decimal_spelled n l = decimal_by_steps IsSpelling spelled_one spelled_more n l

spelled_is : (n : ℕ) (cs : List ℕ) → IsSpelling n cs → spelled_number cs ≡ Some n
spelled_is n cs s =
    cond-true (nat_lt 0 (length cs) && list_all is_digit cs) (Some (number_from 0 cs)) None (and_from (nat_lt 0 (length cs)) (list_all is_digit cs) (lt-ltb 0 (length cs) s.some) s.digits)
    ∙ ap Some s.value

not_negative_is : (n : ℕ) (cs : List ℕ) → IsSpelling n cs → n < 2 ^ 63 → not_negative cs ≡ Some (pos n)
not_negative_is n cs s l =
    ap (λ o. option_map pos (at_most (2 ^ 63 - 1) o)) (spelled_is n cs s)
    ∙ ap (option_map pos) (cond-true (nat_le n (2 ^ 63 - 1)) (Some n) None (le-leb n (2 ^ 63 - 1) (omega (arith, l))))

negative_is : (n : ℕ) (cs : List ℕ) → IsSpelling n cs → n ≤ 2 ^ 63 → negative cs ≡ Some (neg_ℤ (pos n))
negative_is n cs s l =
    ap (λ o. option_map (λ k. neg_ℤ (pos k)) (at_most (2 ^ 63) o)) (spelled_is n cs s)
    ∙ ap (option_map (λ k. neg_ℤ (pos k))) (cond-true (nat_le n (2 ^ 63)) (Some n) None (le-leb n (2 ^ 63) (omega (arith, l))))

unsigned : (cs : List ℕ) → list_all is_digit cs ≡ true → 0 < length cs → integer_of cs ≡ not_negative cs
unsigned [] d l = absurd (omega (arith, l))
unsigned (c ∷ cs) d l =
    let low : 48 ≤ c = leb-true 48 c (and_parts (nat_le 48 c) (nat_le c 57) (and_parts (is_digit c) (list_all is_digit cs) d).0).0 in
    cond-false (c == 43) (not_negative cs) (if c == 45 then negative cs else not_negative (c ∷ cs)) (ne_eqb c 43 (λ e. omega (arith, e, low)))
    ∙ cond-false (c == 45) (negative cs) (not_negative (c ∷ cs)) (ne_eqb c 45 (λ e. omega (arith, e, low)))

integer_read : (i : ℤ) → FitsSigned w64 i → integer_of (trimmed (signed_decimal i)) ≡ Some i
integer_read (pos n) f =
    let l : n < 2 ^ 63 = f.sfits in
    let s : IsSpelling n (decimal n) = decimal_spelled n (omega (arith, l)) in
    ap integer_of (plain_trimmed (decimal n) (digits_plain (decimal n) s.digits)) ∙ unsigned (decimal n) s.digits s.some ∙ not_negative_is n (decimal n) s l
integer_read (negsuc n) f =
    let l : n < 2 ^ 63 = f.sfits in
    let s : IsSpelling (suc n) (decimal (suc n)) = decimal_spelled (suc n) (omega (arith, l)) in
    ap integer_of (plain_trimmed (45 ∷ decimal (suc n)) (digits_plain (decimal (suc n)) s.digits)) ∙ negative_is (suc n) (decimal (suc n)) s (omega (arith, l))

-- ---- literals

module _ (meta : MetaDesc) (well : WellMeta meta) where
  literal_known : (e n : ℕ) → n < length (enum_at meta e).literals → e < enum_count meta
  literal_known e n l = by (nat_lt e (enum_count meta)) refl
    where
      by : (b : Bool) → nat_lt e (enum_count meta) ≡ b → e < enum_count meta
      by true h = ltb-true e (enum_count meta) h
      by false h =
          let past : enum_count meta ≤ e = omega (arith, ltb-false e (enum_count meta) h) in
          let none : length (enum_at meta e).literals ≡ 0 = ap (λ x. length x.literals) (get_or_past meta.enums e no_enum past) in
          absurd (omega (arith, l, none))

  literal_read : (e n : ℕ) → n < length (enum_at meta e).literals → literal_number meta e (literal_at meta e n) ≡ Some n
  literal_read e n l = by (literal_number meta e (literal_at meta e n)) refl
    where
      by : (o : Option ℕ) → o ≡ literal_number meta e (literal_at meta e n) → literal_number meta e (literal_at meta e n) ≡ Some n
      by None h =
          let none : HasNoLiteral meta e (literal_at meta e n) = literal_named meta e (literal_at meta e n) None h in
          absurd (none n l refl)
      by (Some k) h =
          let within : k < length (enum_at meta e).literals = literal_within meta e (literal_at meta e n) (Some k) h in
          let named : literal_at meta e k ≡ literal_at meta e n = literal_named meta e (literal_at meta e n) (Some k) h in
          sym h ∙ ap Some (well.distinct.literals e k n (literal_known e n l) within l named)

  -- ---- values

  pub value_read : (type : Option PropType) (v : Value) → IsTrue (is_value_of meta type v) → IsHeld v → value_of meta type (value_text meta v) ≡ Some v
  value_read (Some types.Str) (values.Str text) h r = refl
  value_read (Some types.Int) (values.Int i) h r = ap (option_map (λ k. values.Int k)) (integer_read i r)
  value_read (Some types.Bool) (values.Bool true) h r = refl
  value_read (Some types.Bool) (values.Bool false) h r = refl
  value_read (Some (types.Enum e)) (values.Lit f n) h r =
      let both = and_parts (e.0 == f.0) (nat_lt n (length (enum_at meta e.0).literals)) h in
      let same : e.0 ≡ f.0 = eqb-true e.0 f.0 both.0 in
      let l : n < length (enum_at meta e.0).literals = ltb-true n (length (enum_at meta e.0).literals) both.1 in
      let numbered : ℕ → EnumId = λ x. record { 0 = x } in
      let alike : e ≡ f = ap numbered same in
      ap (λ x. option_map (λ k. values.Lit e k) (literal_number meta e.0 (literal_at meta x n))) (sym same)
      ∙ ap (option_map (λ k. values.Lit e k)) (literal_read e.0 n l)
      ∙ ap (λ x. Some (values.Lit x n)) alike
  value_read None (values.Str text) h r = absurd cc
  value_read (Some types.Int) (values.Str text) h r = absurd cc
  value_read (Some types.Bool) (values.Str text) h r = absurd cc
  value_read (Some (types.Enum e)) (values.Str text) h r = absurd cc
  value_read (Some (types.Class c)) (values.Str text) h r = absurd cc
  value_read None (values.Int i) h r = absurd cc
  value_read (Some types.Str) (values.Int i) h r = absurd cc
  value_read (Some types.Bool) (values.Int i) h r = absurd cc
  value_read (Some (types.Enum e)) (values.Int i) h r = absurd cc
  value_read (Some (types.Class c)) (values.Int i) h r = absurd cc
  value_read None (values.Bool b) h r = absurd cc
  value_read (Some types.Str) (values.Bool b) h r = absurd cc
  value_read (Some types.Int) (values.Bool b) h r = absurd cc
  value_read (Some (types.Enum e)) (values.Bool b) h r = absurd cc
  value_read (Some (types.Class c)) (values.Bool b) h r = absurd cc
  value_read None (values.Lit f n) h r = absurd cc
  value_read (Some types.Str) (values.Lit f n) h r = absurd cc
  value_read (Some types.Int) (values.Lit f n) h r = absurd cc
  value_read (Some types.Bool) (values.Lit f n) h r = absurd cc
  value_read (Some (types.Class c)) (values.Lit f n) h r = absurd cc
