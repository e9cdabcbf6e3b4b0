-- Sets of classes, each by the number of its metamodel and its own.
use Rattle.std.specs.Prelude.{ℕ, Bool, ◌&&◌, List, nat_eq}
use Rattle.std.specs.List.{list_any}
use Rattle.std.specs.HashSet.{HashSet, contains}
use Rattle.qv_syntax.specs.declared.program.Key.{Key}

-- the two are one class
abbrev pub one_class : ℕ × ℕ → ℕ × ℕ → Bool
one_class a b = nat_eq a.0 b.0 && nat_eq a.1 b.1

-- the class is in the set
abbrev pub has_class : {S : Type 0} → HashSet (ℕ × ℕ) S → ℕ × ℕ → Bool
has_class set class = contains one_class set class

-- one of the keys is of the class
abbrev pub has_key : List Key → ℕ × ℕ → Bool
has_key keys class = list_any (λ k. one_class (k.meta, k.class.0) class) keys
