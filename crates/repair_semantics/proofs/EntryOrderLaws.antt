-- The order of entries, and of terms, turns round with its sides; so a list of entries in order is determined by its elements.
use Rattle.std.specs.Prelude.{◌≡◌, ◌⊎◌, ◌<◌, ℕ, zero, suc, Bool, List, [], ◌∷◌, map, Option, None, Some, Contains}
use Rattle.std.specs.Option.{option_cmp}
use Rattle.std.specs.Cmp.{bool_cmp_total}
use Rattle.std.specs.Cmp.Lexicographic.{slice_cmp}
use Rattle.std.specs.List.{AllByRecursion}
use Rattle.std.specs.List.Sorted.{IsStrictlySortedBy}
use Rattle.std.specs.Ordering.{nat_cmp, bool_cmp, ordering_then, ordering_reverse}
use Rattle.std.specs.declared.cmp.Ordering.{Ordering}
use Rattle.std.specs.declared.cmp.Ordering.TheVariants.{Less, Equal, Greater}
use Rattle.std.proofs.Common.{refl, ap, sym, ◌∙◌, subst, arith, inl, inr}
use Rattle.std.proofs.lemmas.Cmp.{nat_cmp_total}
use Rattle.object_tables.specs.Models.{ModelData}
use Rattle.qv_syntax.specs.declared.program.Program.{Program}
use Rattle.qvtr_semantics.specs.declared.datum.Datum.{Datum}
use Rattle.ocl_eval.specs.Order.{datum_order}
use Rattle.ocl_eval.specs.OrderLaws.{order_total}
use Rattle.repair_semantics.specs.declared.term.Term.{Term, roll-Term, out-Term, roll-out-Term, out-roll-Term, map-Term, ind-Term}
use Rattle.repair_semantics.specs.declared.term.TermValue.{TermValue, roll-TermValue, out-TermValue, out-roll-TermValue, roll-out-TermValue, map-TermValue, ind-TermValue}
use Rattle.repair_semantics.specs.declared.term.TermValue.TheOpen as of
use Rattle.repair_semantics.specs.declared.entry.Entry.{Entry}
use Rattle.repair_semantics.specs.Terms.{ValueOrder, TermOrder, keys_against, datum_against, term_against, value_against, terms_against, term_order, value_order}
use Rattle.repair_semantics.specs.EntryOrder.{values_order, entry_order, AreEntries}
use Rattle.repair_semantics.proofs.TermLaws.{order_is, order_of_datum, order_of_term}

-- ---- orders that turn round

abbrev Turns : {X : Type 0} → (X → X → Ordering) → X → Type 0
Turns {X} order x = (y : X) → order x y ≡ ordering_reverse (order y x)

then_turned : (o p q r : Ordering) → o ≡ ordering_reverse p → q ≡ ordering_reverse r → ordering_then o q ≡ ordering_reverse (ordering_then p r)
then_turned o Less q r h k = ap (λ x. ordering_then x q) h
then_turned o Equal q r h k = ap (λ x. ordering_then x q) h ∙ k
then_turned o Greater q r h k = ap (λ x. ordering_then x q) h

options_turned : {X : Type 0} (order : X → X → Ordering) → ((x : X) → Turns order x) → (x : Option X) → Turns (option_cmp order) x
options_turned order turned None None = refl
options_turned order turned None (Some y) = refl
options_turned order turned (Some x) None = refl
options_turned order turned (Some x) (Some y) = turned x y

lists_turned : {X : Type 0} (order : X → X → Ordering) → ((x : X) → Turns order x) → (xs : List X) → Turns (slice_cmp order) xs
lists_turned order turned [] [] = refl
lists_turned order turned [] (y ∷ ys) = refl
lists_turned order turned (x ∷ xs) [] = refl
lists_turned order turned (x ∷ xs) (y ∷ ys) = then_turned (order x y) (order y x) (slice_cmp order xs ys) (slice_cmp order ys xs) (turned x y) (lists_turned order turned xs ys)

-- ---- terms

abbrev ValueTurns : TermValue → Type 0
ValueTurns = Turns value_order

abbrev TermTurns : Term → Type 0
TermTurns = Turns term_order

abbrev TurnedValue : Type 0
TurnedValue = (x : TermValue) × ValueTurns x

abbrev TurnedTerm : Type 0
TurnedTerm = (t : Term) × TermTurns t

keys_turned : (zs : List TurnedValue) (ws : List TermValue) → keys_against (map value_order (map (λ z. z.0) zs)) ws ≡ ordering_reverse (keys_against (map value_order ws) (map (λ z. z.0) zs))
keys_turned [] [] = refl
keys_turned [] (w ∷ ws) = refl
keys_turned (z ∷ zs) [] = refl
keys_turned (z ∷ zs) (w ∷ ws) =
    then_turned (value_order z.0 w) (value_order w z.0) (keys_against (map value_order (map (λ x. x.0) zs)) ws) (keys_against (map value_order ws) (map (λ x. x.0) zs))
    (z.1 w) (keys_turned zs ws)

-- how a term stands to another one, by what they are
opened : (t u : Term) → term_order t u ≡ terms_against (record { class = (out-Term t).class; keys = map value_order (out-Term t).keys }) u
opened t u = ap (λ x. term_order x u) (sym (roll-out-Term t)) ∙ ap (λ (f : TermOrder). f u) (order_is (out-Term t).class (out-Term t).keys)

term_turned : (z : of.Term-F TurnedValue TurnedTerm) → TermTurns (roll-Term (map-Term TurnedValue TurnedTerm TermValue Term (λ x. x.0) (λ x. x.0) z))
term_turned z u =
    let keys : List TermValue = map (λ x. x.0) z.keys in
    let t : Term = roll-Term (record { class = z.class; keys = keys }) in
    ap (λ (f : TermOrder). f u) (order_is z.class keys)
    ∙ then_turned (nat_cmp z.class.0 (out-Term u).class.0) (nat_cmp (out-Term u).class.0 z.class.0)
    (keys_against (map value_order keys) (out-Term u).keys) (keys_against (map value_order (out-Term u).keys) keys)
    (nat_cmp_total.antisymm z.class.0 (out-Term u).class.0) (keys_turned z.keys (out-Term u).keys)
    ∙ sym (ap ordering_reverse (opened u t
    ∙ ap (λ (o : of.Term-F TermValue Term). ordering_then (nat_cmp (out-Term u).class.0 o.class.0) (keys_against (map value_order (out-Term u).keys) o.keys)) (out-roll-Term (record { class = z.class; keys = keys }))))

value_is : (w : TermValue) (l : of.TermValue-F TermValue Term) → out-TermValue w ≡ l → w ≡ roll-TermValue l
value_is w l is = sym (roll-out-TermValue w) ∙ ap roll-TermValue is

value_turned : (z : of.TermValue-F TurnedValue TurnedTerm) → ValueTurns (roll-TermValue (map-TermValue TurnedValue TurnedTerm TermValue Term (λ x. x.0) (λ x. x.0) z))
value_turned (of.Val d) w = by (out-TermValue w) refl
  where
    x : TermValue
    x = roll-TermValue (of.Val d)

    back : (l : of.TermValue-F TermValue Term) → out-TermValue w ≡ l → value_order w x ≡ value_order (roll-TermValue l) x
    back l is = ap (λ y. value_order y x) (value_is w l is)

    by : (l : of.TermValue-F TermValue Term) → out-TermValue w ≡ l → value_order x w ≡ ordering_reverse (value_order w x)
    by (of.Val e) is =
        ap (λ (f : ValueOrder). f w) (order_of_datum d) ∙ ap (datum_against d) is ∙ order_total.antisymm d e
        ∙ sym (ap ordering_reverse (back (of.Val e) is ∙ ap (λ (f : ValueOrder). f x) (order_of_datum e) ∙ ap (datum_against e) (out-roll-TermValue (of.Val d))))
    by (of.Term t) is =
        ap (λ (f : ValueOrder). f w) (order_of_datum d) ∙ ap (datum_against d) is
        ∙ sym (ap ordering_reverse (back (of.Term t) is ∙ ap (λ (f : ValueOrder). f x) (order_of_term t) ∙ ap (term_against (term_order t)) (out-roll-TermValue (of.Val d))))
value_turned (of.Term s) w = by (out-TermValue w) refl
  where
    x : TermValue
    x = roll-TermValue (of.Term s.0)

    back : (l : of.TermValue-F TermValue Term) → out-TermValue w ≡ l → value_order w x ≡ value_order (roll-TermValue l) x
    back l is = ap (λ y. value_order y x) (value_is w l is)

    by : (l : of.TermValue-F TermValue Term) → out-TermValue w ≡ l → value_order x w ≡ ordering_reverse (value_order w x)
    by (of.Val e) is =
        ap (λ (f : ValueOrder). f w) (order_of_term s.0) ∙ ap (term_against (term_order s.0)) is
        ∙ sym (ap ordering_reverse (back (of.Val e) is ∙ ap (λ (f : ValueOrder). f x) (order_of_datum e) ∙ ap (datum_against e) (out-roll-TermValue (of.Term s.0))))
    by (of.Term t) is =
        ap (λ (f : ValueOrder). f w) (order_of_term s.0) ∙ ap (term_against (term_order s.0)) is ∙ s.1 t
        ∙ sym (ap ordering_reverse (back (of.Term t) is ∙ ap (λ (f : ValueOrder). f x) (order_of_term t) ∙ ap (term_against (term_order t)) (out-roll-TermValue (of.Term s.0))))

pub values_turned : (x y : TermValue) → value_order x y ≡ ordering_reverse (value_order y x)
values_turned = ind-TermValue ValueTurns TermTurns
    (λ x y is. subst (λ z. ValueTurns (roll-TermValue z)) is (value_turned y))
    (λ x y is. subst (λ z. TermTurns (roll-Term z)) is (term_turned y))

pub terms_turned : (t u : Term) → term_order t u ≡ ordering_reverse (term_order u t)
terms_turned = ind-Term ValueTurns TermTurns
    (λ x y is. subst (λ z. ValueTurns (roll-TermValue z)) is (value_turned y))
    (λ x y is. subst (λ z. TermTurns (roll-Term z)) is (term_turned y))

-- ---- entries

pub entries_turned : (e f : Entry) → entry_order e f ≡ ordering_reverse (entry_order f e)
entries_turned e f =
    then_turned (nat_cmp e.rel f.rel) (nat_cmp f.rel e.rel)
    (ordering_then (values_order e.values f.values) (bool_cmp e.called f.called)) (ordering_then (values_order f.values e.values) (bool_cmp f.called e.called))
    (nat_cmp_total.antisymm e.rel f.rel)
    (then_turned (values_order e.values f.values) (values_order f.values e.values) (bool_cmp e.called f.called) (bool_cmp f.called e.called)
    (lists_turned (option_cmp value_order) (options_turned value_order values_turned) e.values f.values) (bool_cmp_total.antisymm e.called f.called))

-- ---- lists in order

module _ {X : Type 0} (order : X → X → Ordering) (turned : (x y : X) → order x y ≡ ordering_reverse (order y x)) where
  never : (x y : X) → order x y ≡ Less → order y x ≡ Less → ⊥
  never x y h k = let wrong : Less ≡ Greater = sym h ∙ turned x y ∙ ap ordering_reverse k in absurd (cc)

  first_below : (x : X) (xs : List X) → AllByRecursion (λ y. order x y ≡ Less) xs → (y : X) → Contains xs y → order x y ≡ Less
  first_below x [] all y (k, below, is) = absurd (omega (arith, below))
  first_below x (z ∷ xs) all y (zero, below, is) = subst (λ w. order x w ≡ Less) is all.0
  first_below x (z ∷ xs) all y (suc k, below, is) = first_below x xs all.1 y (k, omega (arith, below), is)

  here_or_later : (x y : X) (xs : List X) → Contains (x ∷ xs) y → (x ≡ y) ⊎ Contains xs y
  here_or_later x y xs (zero, below, is) = inl is
  here_or_later x y xs (suc k, below, is) = inr (k, omega (arith, below), is)

  nothing_in : (x : X) → Contains [] x → ⊥
  nothing_in x (k, below, is) = omega (arith, below)

  first_there : (x : X) (xs : List X) → Contains (x ∷ xs) x
  first_there x xs = (0, omega arith, refl)

  later_there : (x y : X) (xs : List X) → Contains xs y → Contains (x ∷ xs) y
  later_there x y xs (k, below, is) = (suc k, omega (arith, below), is)

  -- the first elements are one
  same_first : (x y : X) (xs ys : List X) → AllByRecursion (λ z. order x z ≡ Less) xs → AllByRecursion (λ z. order y z ≡ Less) ys → Contains (y ∷ ys) x → Contains (x ∷ xs) y → x ≡ y
  same_first x y xs ys below_x below_y there back = by (here_or_later y x ys there) (here_or_later x y xs back)
    where
      by : (y ≡ x) ⊎ Contains ys x → (x ≡ y) ⊎ Contains xs y → x ≡ y
      by (inl same) other = sym same
      by (inr later) (inl same) = same
      by (inr later) (inr other) = absurd (never x y (first_below x xs below_x y other) (first_below y ys below_y x later))

  rest_there : (x y : X) (xs ys : List X) → x ≡ y → AllByRecursion (λ z. order x z ≡ Less) xs → ((z : X) → Contains (x ∷ xs) z → Contains (y ∷ ys) z) → (z : X) → Contains xs z → Contains ys z
  rest_there x y xs ys same below_x all z later = by (here_or_later y z ys (all z (later_there x z xs later)))
    where
      by : (y ≡ z) ⊎ Contains ys z → Contains ys z
      by (inr there) = there
      by (inl is) = let tie : order x x ≡ Less = subst (λ w. order x w ≡ Less) (sym (same ∙ is)) (first_below x xs below_x z later) in absurd (never x x tie tie)

  -- two lists in order with the same elements are one
  pub sorted_once : (xs ys : List X) → IsStrictlySortedBy order xs → IsStrictlySortedBy order ys → ((x : X) → Contains xs x → Contains ys x) → ((x : X) → Contains ys x → Contains xs x) → xs ≡ ys
  unfolding IsStrictlySortedBy
  sorted_once [] [] one other there back = refl
  sorted_once [] (y ∷ ys) one other there back = absurd (nothing_in y (back y (first_there y ys)))
  sorted_once (x ∷ xs) [] one other there back = absurd (nothing_in x (there x (first_there x xs)))
  sorted_once (x ∷ xs) (y ∷ ys) one other there back =
      let same : x ≡ y = same_first x y xs ys one.0 other.0 (there x (first_there x xs)) (back y (first_there y ys)) in
      ap (λ z. z ∷ xs) same
      ∙ ap (λ zs. y ∷ zs) (sorted_once xs ys one.1 other.1 (rest_there x y xs ys same one.0 there) (rest_there y x ys xs (sym same) other.0 back))

-- the list of all entries is one
pub entries_once : (program : Program) (models : List ModelData) (xs ys : List Entry) → AreEntries program models xs → AreEntries program models ys → xs ≡ ys
entries_once program models xs ys one other =
    sorted_once entry_order entries_turned xs ys one.sorted other.sorted (λ e there. other.all e (one.only e there)) (λ e there. one.all e (other.only e there))
