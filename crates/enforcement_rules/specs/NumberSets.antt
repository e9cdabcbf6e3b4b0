-- Sets of numbers.
use Rattle.std.specs.Prelude.{ℕ, Bool, List, nat_eq}
use Rattle.std.specs.List.{list_any}
use Rattle.std.specs.Ordering.{nat_cmp}
use Rattle.std.specs.BTreeSet.{contains}
use Rattle.enforcement_rules.specs.declared.number_set.NumberSet.{NumberSet}

-- the number is one of the list
abbrev pub is_among : List ℕ → ℕ → Bool
is_among numbers n = list_any (nat_eq n) numbers

-- the number is one of the set
abbrev pub has : NumberSet → ℕ → Bool
has set n = contains nat_cmp set.numbers n
