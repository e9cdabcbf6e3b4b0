-- An order of matches, by which they are looked up: those come together that differ in objects of the target alone, with a place before them
-- and one behind them.
use Rattle.std.specs.Prelude.{◌≡◌, ℕ, Bool, true, false, List, map, if◌then◌else◌, All}
use Rattle.std.specs.List.{list_any}
use Rattle.std.specs.Ordering.{nat_cmp, ordering_then, ordering_reverse, eq_by_cmp, is_lt, is_eq}
use Rattle.std.specs.Cmp.{IsTotalOrder, IsEquivalence, on_total, then_total, nat_cmp_total}
use Rattle.std.specs.Cmp.Lexicographic.{slice_cmp, lists_total}
use Rattle.std.specs.declared.cmp.Ordering.{Ordering}
use Rattle.std.specs.declared.cmp.Ordering.TheVariants.{Less, Equal, Greater}
use Rattle.std.proofs.Common.{refl, ap}
use Rattle.std.proofs.lemmas.Bool.{false≢true}
use Rattle.std.proofs.lemmas.Cmp.{eq_by_cmp_equiv}
use Rattle.ocl_eval.specs.Order.{datum_order}
use Rattle.ocl_eval.specs.OrderLaws.{order_total}
use Rattle.term_table.specs.declared.numbered.NumberedValue.{NumberedValue}
use Rattle.term_table.specs.declared.numbered.NumberedValue.TheVariants.{Val, Term}
use Rattle.term_table.specs.NumberOrder.{numbered_value_order, numbered_values_total}
use Rattle.entry_bindings.specs.declared.argument.Argument.{Argument}
use Rattle.entry_bindings.specs.declared.argument.Argument.TheVariants as arguments
use Rattle.entry_bindings.specs.declared.matching.Match.{Match}
use Rattle.entry_bindings.specs.declared.match_key.Side.{Side}
use Rattle.entry_bindings.specs.declared.match_key.Side.TheVariants.{Before, Itself, Behind}
use Rattle.entry_bindings.specs.declared.match_key.MatchKey.{MatchKey}

-- two values of a root, of which objects of the target tie
abbrev pub root_order : NumberedValue → NumberedValue → Ordering
root_order (Val d) (Val e) = datum_order d e
root_order (Val d) (Term n) = Less
root_order (Term m) (Val e) = Greater
root_order (Term m) (Term n) = Equal

abbrev pub side_number : Side → ℕ
side_number Before = 0
side_number Itself = 1
side_number Behind = 2

abbrev pub roots_of_key : MatchKey → List NumberedValue
roots_of_key k = k.found.roots

-- by the relation, the roots but for objects of the target, the side, and then these objects
abbrev pub key_order : MatchKey → MatchKey → Ordering
key_order k l = ordering_then (nat_cmp k.found.rel l.found.rel) (ordering_then (slice_cmp root_order k.found.roots l.found.roots)
    (ordering_then (nat_cmp (side_number k.side) (side_number l.side)) (slice_cmp numbered_value_order k.found.roots l.found.roots)))

-- ---- laws

roots_trans : (x y z : NumberedValue) → root_order x y ≡ Less → root_order y z ≡ Less → root_order x z ≡ Less
roots_trans (Val d) (Val e) (Val f) h k = order_total.trans d e f h k
roots_trans (Val d) (Val e) (Term n) h k = refl
roots_trans (Val d) (Term m) (Val f) h k = absurd (false≢true (ap is_lt k))
roots_trans (Val d) (Term m) (Term n) h k = refl
roots_trans (Term l) (Val e) (Val f) h k = absurd (false≢true (ap is_lt h))
roots_trans (Term l) (Val e) (Term n) h k = absurd (false≢true (ap is_lt h))
roots_trans (Term l) (Term m) (Val f) h k = absurd (false≢true (ap is_lt k))
roots_trans (Term l) (Term m) (Term n) h k = absurd (false≢true (ap is_lt h))

roots_congr : (x y z : NumberedValue) → root_order x y ≡ Equal → root_order x z ≡ root_order y z
roots_congr (Val d) (Val e) (Val f) h = order_total.congr d e f h
roots_congr (Val d) (Val e) (Term n) h = refl
roots_congr (Val d) (Term m) z h = absurd (false≢true (ap is_eq h))
roots_congr (Term l) (Val e) z h = absurd (false≢true (ap is_eq h))
roots_congr (Term l) (Term m) (Val f) h = refl
roots_congr (Term l) (Term m) (Term n) h = refl

roots_antisymm : (x y : NumberedValue) → root_order x y ≡ ordering_reverse (root_order y x)
roots_antisymm (Val d) (Val e) = order_total.antisymm d e
roots_antisymm (Val d) (Term n) = refl
roots_antisymm (Term m) (Val e) = refl
roots_antisymm (Term m) (Term n) = refl

pub root_total : IsTotalOrder root_order
root_total = record { antisymm = roots_antisymm; trans = roots_trans; congr = roots_congr }

pub key_total : IsTotalOrder key_order
key_total =
    then_total (on_total (λ (k : MatchKey). k.found.rel) nat_cmp_total)
    (then_total (on_total roots_of_key (lists_total root_total))
    (then_total (on_total (λ (k : MatchKey). side_number k.side) nat_cmp_total) (on_total roots_of_key (lists_total numbered_values_total))))

pub same_key_equiv : IsEquivalence (eq_by_cmp key_order)
same_key_equiv = eq_by_cmp_equiv key_total

-- ---- where the matches of a call lie

-- an argument is open
abbrev pub is_open : Argument → Bool
is_open (arguments.Given x) = false
is_open (arguments.Open v) = true

-- what stands for an argument in a key
abbrev pub root_of : Argument → NumberedValue
root_of (arguments.Given x) = x
root_of (arguments.Open v) = Term 0

abbrev pub key_of : ℕ → List Argument → Side → MatchKey
key_of number given side = record { found = record { rel = number; roots = map root_of given }; side = side }

-- from the place before those that differ in objects of the target alone to the one behind them, or the one key where no argument is open
abbrev pub first_side : List Argument → Side
first_side given = if list_any is_open given then Before else Itself

abbrev pub last_side : List Argument → Side
last_side given = if list_any is_open given then Behind else Itself

-- ---- the matches of keys

abbrev pub match_of : MatchKey → Match
match_of k = k.found

abbrev pub matches_of : List MatchKey → List Match
matches_of ks = map match_of ks

abbrev pub AreThemselves : List MatchKey → Type 0
AreThemselves ks = All (λ k. k.side ≡ Itself) ks
