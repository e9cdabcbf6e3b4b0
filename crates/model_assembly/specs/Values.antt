-- Which text is a value of which type (UML 2.5.1, clause 21: primitive types; XML Schema 1.0 part 2, 3.2.2 and 3.3.13: the lexical forms
-- of Booleans and integers).
use Rattle.std.specs.Prelude.{ℕ, ◌==◌, ◌||◌, ◌&&◌, ◌+◌, ◌-◌, ◌*◌, ◌^◌, Bool, true, false, nat_lt, nat_le, ℤ, pos, neg_ℤ, List, [], ◌∷◌, length, codes, Option, None, Some, if◌then◌else◌}
use Rattle.std.specs.Bool.{beq}
use Rattle.std.specs.List.{list_all, list_any}
use Rattle.std.specs.Option.{option_map}
use Rattle.std.specs.Ordering.{int_eq}
use Rattle.mof_metamodel.specs.declared.desc.MetaDesc.{MetaDesc}
use Rattle.mof_metamodel.specs.declared.desc.PropType.{PropType}
use Rattle.mof_metamodel.specs.declared.desc.PropType.TheVariants as types
use Rattle.mof_metamodel.specs.Characters.{is_blank, same_name}
use Rattle.mof_metamodel.specs.Metamodels.{literal_number}
use Rattle.mof_metamodel.specs.WellMeta.{is_digit}
use Rattle.object_tables.specs.declared.value.Value.{Value}
use Rattle.object_tables.specs.declared.value.Value.TheVariants as values

-- Blanks around a text

abbrev pub is_all_blank : List ℕ → Bool
is_all_blank text = list_all is_blank text

abbrev pub without_front_blanks : List ℕ → List ℕ
without_front_blanks [] = []
without_front_blanks (c ∷ cs) = if is_blank c then without_front_blanks cs else c ∷ cs

abbrev pub without_end_blanks : List ℕ → List ℕ
without_end_blanks [] = []
without_end_blanks (c ∷ cs) = if is_all_blank (c ∷ cs) then [] else c ∷ without_end_blanks cs

abbrev pub trimmed : List ℕ → List ℕ
trimmed text = without_end_blanks (without_front_blanks text)

-- Integers

abbrev pub number_from : ℕ → List ℕ → ℕ
number_from n [] = n
number_from n (c ∷ cs) = number_from (10 * n + (c - 48)) cs

-- the number that one digit or more spell
abbrev pub spelled_number : List ℕ → Option ℕ
spelled_number cs = if nat_lt 0 (length cs) && list_all is_digit cs then Some (number_from 0 cs) else None

abbrev pub at_most : ℕ → Option ℕ → Option ℕ
at_most limit None = None
at_most limit (Some n) = if nat_le n limit then Some n else None

-- without a sign or with `+` at most 2 ^ 63 - 1, with `-` at most 2 ^ 63
abbrev pub not_negative : List ℕ → Option ℤ
not_negative digits = option_map pos (at_most (2 ^ 63 - 1) (spelled_number digits))

abbrev pub negative : List ℕ → Option ℤ
negative digits = option_map (λ n. neg_ℤ (pos n)) (at_most (2 ^ 63) (spelled_number digits))

-- an optional sign and digits, within 64 bits
abbrev pub integer_of : List ℕ → Option ℤ
integer_of [] = None
integer_of (c ∷ cs) = if c == 43 then not_negative cs else if c == 45 then negative cs else not_negative (c ∷ cs)

-- Booleans

abbrev pub boolean_of : List ℕ → Option Bool
boolean_of text =
    if same_name text (codes "true") || same_name text (codes "1") then Some true
    else if same_name text (codes "false") || same_name text (codes "0") then Some false
    else None

-- the value of the type that a text is
abbrev pub value_of : MetaDesc → Option PropType → List ℕ → Option Value
value_of meta (Some types.Str) text = Some (values.Str text)
value_of meta (Some types.Int) text = option_map (λ i. values.Int i) (integer_of (trimmed text))
value_of meta (Some types.Bool) text = option_map (λ b. values.Bool b) (boolean_of (trimmed text))
value_of meta (Some (types.Enum e)) text = option_map (λ n. values.Lit e n) (literal_number meta e.0 text)
value_of meta (Some (types.Class c)) text = None
value_of meta None text = None

-- Repeats

abbrev pub same_value : Value → Value → Bool
same_value (values.Str s) (values.Str t) = same_name s t
same_value (values.Int i) (values.Int j) = int_eq i j
same_value (values.Bool b) (values.Bool c) = beq b c
same_value (values.Lit e n) (values.Lit f k) = (e.0 == f.0) && (n == k)
same_value v w = false

-- values behind those that were met, each once and at its first place
abbrev pub unmet : List Value → List Value → List Value
unmet met [] = []
unmet met (v ∷ vs) = if list_any (same_value v) met then unmet met vs else v ∷ unmet (v ∷ met) vs

abbrev pub without_repeats : List Value → List Value
without_repeats vs = unmet [] vs
