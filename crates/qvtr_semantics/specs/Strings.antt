-- Strings as lists of characters (OCL 2.4, section 11.5.3).
use Rattle.std.specs.Prelude.{ℕ, Bool, true, false, ◌&&◌, ◌==◌, ◌+◌, ◌-◌, ◌*◌, nat_le, nat_lt, ℤ, pos, neg_ℤ, List, [], ◌∷◌, ◌++◌, length, take, drop, codes, Option, None, Some, if◌then◌else◌}
use Rattle.std.specs.List.{list_all}
use Rattle.std.specs.Option.{option_map}
use Rattle.std.specs.Fmt.{signed_decimal}
use Rattle.qvtr_semantics.specs.declared.out.Out.{Out}
use Rattle.qvtr_semantics.specs.declared.out.Out.TheVariants as outs
use Rattle.qvtr_semantics.specs.Outs.{given, natural, string}
use Rattle.qvtr_semantics.specs.Integers.{integer}

abbrev pub size : List ℕ → Out
size s = integer (pos (length s))

abbrev pub concatenated : List ℕ → List ℕ → Out
concatenated s t = string (s ++ t)

-- from the character of number `lower` to that of number `upper`, which are counted from 1
abbrev pub part_between : List ℕ → ℕ → ℕ → Out
part_between s lower upper =
    if nat_le 1 lower && nat_le lower upper && nat_le upper (length s)
    then string (take (upper + 1 - lower) (drop (lower - 1) s))
    else outs.Invalid

abbrev pub substring : List ℕ → ℤ → ℤ → Out
substring s lower upper = given (natural lower) (λ l. given (natural upper) (λ u. part_between s l u))

abbrev pub is_digit : ℕ → Bool
is_digit c = nat_le 48 c && nat_le c 57

abbrev pub number_onto : ℕ → List ℕ → ℕ
number_onto n [] = n
number_onto n (c ∷ cs) = number_onto (10 * n + (c - 48)) cs

-- the number that one digit or more spell
abbrev pub spelled_number : List ℕ → Option ℕ
spelled_number cs = if nat_lt 0 (length cs) && list_all is_digit cs then Some (number_onto 0 cs) else None

-- the number that an optional `-` and digits spell
abbrev pub spelled_integer : List ℕ → Option ℤ
spelled_integer [] = None
spelled_integer (c ∷ cs) = if c == 45 then option_map (λ n. neg_ℤ (pos n)) (spelled_number cs) else option_map pos (spelled_number (c ∷ cs))

abbrev pub to_integer : List ℕ → Out
to_integer s = given (spelled_integer s) integer

abbrev pub integer_text : ℤ → Out
integer_text i = string (signed_decimal i)

abbrev pub boolean_text : Bool → Out
boolean_text true = string (codes "true")
boolean_text false = string (codes "false")
