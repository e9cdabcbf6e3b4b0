-- Where a value differs from the form of a model, found member by member and item by item.
use Rattle.std.proofs.Common.{◌≡◌, ℕ, ◌<◌, ◌^◌, List, [], ◌∷◌, drop, refl, Option, None, Some, chars}
use Rattle.std.specs.Fmt.{decimal}
use Rattle.std.specs.Option.{option_or}
use Rattle.std.specs.Ordering.{nat_cmp, match_ordering}
use Rattle.std.specs.Cmp.Lexicographic.{slice_cmp}
use Rattle.std.specs.declared.cmp.Ordering.{Ordering}
use Rattle.std.specs.declared.cmp.Ordering.TheVariants.{Less, Equal, Greater}
use Rattle.std.proofs.lemmas.Str.{chars-IsAscii}
use Rattle.std.proofs.lemmas.Fmt.{IsAscii-decimal}
use Rattle.serde_json.specs.Data.{Data, Members, no_members, member}
use Rattle.model_files.specs.Shape.{Path, Expected, at_member, amiss_in}
use Rattle.model_files.specs.ShapeSteps.{next_name, amiss_next, amiss_at_end}

or_within : {X : Type 0} (a b c : Option X) → option_or a (option_or b c) ≡ option_or (option_or a b) c
or_within None b c = refl
or_within (Some x) b c = refl

by_order : (o : Ordering) (here there : Path) (value rest : Option Path)
    → match_ordering o (Some here) (option_or value rest) (Some there) ≡ option_or (option_or (match_ordering o (Some here) None (Some there)) value) rest
by_order Less here there value rest = refl
by_order Equal here there value rest = refl
by_order Greater here there value rest = refl

pub next_member : (path : Path) (expected : Expected) (name : List ℕ) (d : Data) (others : Members)
    → amiss_in path expected (member name d others) ≡ option_or (amiss_next path expected name d) (amiss_in path (drop 1 expected) others)
next_member path [] name d others = refl
next_member path (wanted ∷ rest) name d others =
    by_order (slice_cmp nat_cmp name wanted.0) (at_member path name) (at_member path wanted.0) (wanted.1 (at_member path name) d) (amiss_in path rest others)

pub no_member : (path : Path) (expected : Expected) → amiss_in path expected no_members ≡ amiss_at_end path (next_name expected)
no_member path [] = refl
no_member path (wanted ∷ rest) = refl

pub decimal_characters : (n : ℕ) → n < 2 ^ 64 → chars (decimal n) ≡ decimal n
decimal_characters n h = chars-IsAscii (decimal n) (IsAscii-decimal n h)
