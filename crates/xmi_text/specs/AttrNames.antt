-- The names of the attributes of a tag.
use Rattle.std.specs.Prelude.{ℕ, Bool, false, ◌||◌, List, [], ◌∷◌, nat_eq}
use Rattle.std.specs.Cmp.Lexicographic.{pointwise}
use Rattle.xmi_text.specs.declared.mark.Attr.{Attr}

-- one of the attributes has the name
abbrev pub has_name : List Attr → List ℕ → Bool
has_name [] name = false
has_name (a ∷ rest) name = pointwise nat_eq a.name name || has_name rest name

-- an attribute without its name and value
abbrev pub emptied : Attr → Attr
emptied a = record { name = []; value = []; at = a.at }
