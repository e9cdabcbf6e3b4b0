-- Booleans with invalid as a third value, here None (OCL 2.4, section 11.5.4 and annex A.2.1.3).
use Rattle.std.specs.Prelude.{Bool, true, false, not, List, [], ◌∷◌, Option, None, Some}
use Rattle.std.specs.Option.{option_map}

abbrev pub and : Option Bool → Option Bool → Option Bool
and (Some false) q = Some false
and (Some true) q = q
and None (Some false) = Some false
and None q = None

abbrev pub or : Option Bool → Option Bool → Option Bool
or (Some true) q = Some true
or (Some false) q = q
or None (Some true) = Some true
or None q = None

abbrev pub negation : Option Bool → Option Bool
negation p = option_map not p

abbrev pub implies : Option Bool → Option Bool → Option Bool
implies p q = or (negation p) q

-- invalid where a part is
abbrev pub xor : Option Bool → Option Bool → Option Bool
xor None q = None
xor (Some true) q = negation q
xor (Some false) q = q

abbrev pub all_of : List (Option Bool) → Option Bool
all_of [] = Some true
all_of (p ∷ ps) = and p (all_of ps)

abbrev pub some_of : List (Option Bool) → Option Bool
some_of [] = Some false
some_of (p ∷ ps) = or p (some_of ps)
