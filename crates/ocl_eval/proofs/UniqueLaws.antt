-- Values that are met one after the other are all new exactly where no two of them are equal.
use Rattle.std.proofs.Common.{◌≡◌, Bool, true, false, List, [], ◌∷◌, refl, sym, ◌∙◌, ap}
use Rattle.std.specs.Prelude.{⊤, ◌&&◌, ◌||◌, ◌==◌, not}
use Rattle.std.specs.List.{list_all, list_any}
use Rattle.std.specs.Cmp.Lexicographic.{pointwise, lists_equiv}
use Rattle.std.proofs.lemmas.Bool.{false≢true}
use Rattle.qv_syntax.specs.declared.type_tree.Kind.{Kind}
use Rattle.qv_syntax.specs.declared.type_tree.Kind.TheVariants.{Set, Bag, Sequence, OrderedSet}
use Rattle.qvtr_semantics.specs.declared.datum.Datum.{Datum}
use Rattle.qvtr_semantics.specs.declared.out.Out.{Out}
use Rattle.qvtr_semantics.specs.declared.out.Out.TheVariants as outs
use Rattle.qvtr_semantics.specs.Data.{same_datum}
use Rattle.qvtr_semantics.specs.Equality.{is_defined, unequal, is_known_true, same_kind, all_differ}
use Rattle.ocl_eval.specs.Order.{rank, same_out}
use Rattle.ocl_eval.specs.OrderLaws.{same_swapped, same_equiv}
use Rattle.ocl_eval.specs.Progress.{all_new}

abbrev pub AreDefined : List Out → Type 0
AreDefined [] = ⊤
AreDefined (x ∷ xs) = (is_defined x ≡ true) × AreDefined xs

and_true : (b : Bool) → b && true ≡ b
and_true true = refl
and_true false = refl

swapped : (ds es : List Datum) → pointwise same_datum ds es ≡ pointwise same_datum es ds
swapped = (lists_equiv same_equiv).symm

one_kind : (k l : Kind) (ds es : List Datum) → not (same_kind k l && pointwise same_datum ds es) ≡ not ((rank (outs.Many l es) == rank (outs.Many k ds)) && pointwise same_datum es ds)
one_kind Set Set ds es = ap not (swapped ds es)
one_kind Set Bag ds es = refl
one_kind Set Sequence ds es = refl
one_kind Set OrderedSet ds es = refl
one_kind Bag Set ds es = refl
one_kind Bag Bag ds es = ap not (swapped ds es)
one_kind Bag Sequence ds es = refl
one_kind Bag OrderedSet ds es = refl
one_kind Sequence Set ds es = refl
one_kind Sequence Bag ds es = refl
one_kind Sequence Sequence ds es = ap not (swapped ds es)
one_kind Sequence OrderedSet ds es = refl
one_kind OrderedSet Set ds es = refl
one_kind OrderedSet Bag ds es = refl
one_kind OrderedSet Sequence ds es = refl
one_kind OrderedSet OrderedSet ds es = ap not (swapped ds es)

one_many : (d : Datum) (k : Kind) (es : List Datum) → true ≡ not (same_out (outs.Many k es) (outs.One d))
one_many d Set es = refl
one_many d Bag es = refl
one_many d Sequence es = refl
one_many d OrderedSet es = refl

many_one : (k : Kind) (ds : List Datum) (e : Datum) → true ≡ not (same_out (outs.One e) (outs.Many k ds))
many_one Set ds e = refl
many_one Bag ds e = refl
many_one Sequence ds e = refl
many_one OrderedSet ds e = refl

differ : (x y : Out) → is_defined x ≡ true → is_defined y ≡ true → is_known_true (unequal x y) ≡ not (same_out y x)
differ (outs.One d) (outs.One e) h k = ap not (same_swapped d e ∙ sym (and_true (same_datum e d)))
differ (outs.One d) (outs.Many l es) h k = one_many d l es
differ (outs.Many k ds) (outs.One e) h g = many_one k ds e
differ (outs.Many k ds) (outs.Many l es) h g = one_kind k l ds es
differ outs.Null y h k = absurd (false≢true h)
differ outs.Invalid y h k = absurd (false≢true h)
differ (outs.One d) outs.Null h k = absurd (false≢true k)
differ (outs.One d) outs.Invalid h k = absurd (false≢true k)
differ (outs.Many l ds) outs.Null h k = absurd (false≢true k)
differ (outs.Many l ds) outs.Invalid h k = absurd (false≢true k)

-- none of the list is among those that were met
abbrev none_met : List Out → List Out → Bool
none_met met xs = list_all (λ z. not (list_any (same_out z) met)) xs

turned : (a b c d : Bool) → (not (a || b)) && (c && d) ≡ ((not b) && c) && ((not a) && d)
turned true true c d = refl
turned true false true d = refl
turned true false false d = refl
turned false true c d = refl
turned false false true d = refl
turned false false false d = refl

none_met_further : (x : Out) (met xs : List Out) → is_defined x ≡ true → AreDefined xs → none_met (x ∷ met) xs ≡ none_met met xs && list_all (λ y. is_known_true (unequal x y)) xs
none_met_further x met [] h g = refl
none_met_further x met (z ∷ zs) h g =
    ap (λ b. not (list_any (same_out z) (x ∷ met)) && b) (none_met_further x met zs h g.1)
    ∙ turned (same_out z x) (list_any (same_out z) met) (none_met met zs) (list_all (λ y. is_known_true (unequal x y)) zs)
    ∙ ap (λ b. (not (list_any (same_out z) met) && none_met met zs) && (b && list_all (λ y. is_known_true (unequal x y)) zs)) (sym (differ x z h g.0))

regrouped : (a b c d : Bool) → a && ((b && c) && d) ≡ (a && b) && (c && d)
regrouped true true c d = refl
regrouped true false c d = refl
regrouped false b c d = refl

new_or_differ : (met xs : List Out) → AreDefined xs → all_new met xs ≡ none_met met xs && all_differ xs
new_or_differ met [] g = refl
new_or_differ met (x ∷ xs) g =
    ap (λ b. not (list_any (same_out x) met) && b) (new_or_differ (x ∷ met) xs g.1 ∙ ap (λ b. b && all_differ xs) (none_met_further x met xs g.0 g.1))
    ∙ regrouped (not (list_any (same_out x) met)) (none_met met xs) (list_all (λ y. is_known_true (unequal x y)) xs) (all_differ xs)

none_of_none : (xs : List Out) → none_met [] xs ≡ true
none_of_none [] = refl
none_of_none (x ∷ xs) = none_of_none xs

pub all_new_differ : (xs : List Out) → AreDefined xs → all_new [] xs ≡ all_differ xs
all_new_differ xs g = new_or_differ [] xs g ∙ ap (λ b. b && all_differ xs) (none_of_none xs)
