-- Terms: objects of the target, each by what tells it apart (QVT 1.3, section 7.10.2 on keys; their order is this engine's own).
use Rattle.std.specs.Prelude.{ℕ, suc, max, Bool, List, [], ◌∷◌, Option, None, Some}
use Rattle.std.specs.Ordering.{nat_cmp, ordering_then, match_ordering, is_eq}
use Rattle.std.specs.declared.cmp.Ordering.{Ordering}
use Rattle.std.specs.declared.cmp.Ordering.TheVariants.{Less, Equal, Greater}
use Rattle.qvtr_semantics.specs.declared.datum.Datum.{Datum}
use Rattle.ocl_eval.specs.Order.{datum_order}
use Rattle.repair_semantics.specs.declared.term.Term.{Term, out-Term, fold-Term}
use Rattle.repair_semantics.specs.declared.term.TermValue.{TermValue, out-TermValue, fold-TermValue}
use Rattle.repair_semantics.specs.declared.term.TermValue.TheOpen as of

-- ---- height

-- the greatest number of a list, or 0
abbrev pub greatest : List ℕ → ℕ
greatest [] = 0
greatest (n ∷ ns) = max n (greatest ns)

-- the height of a value: 0 for a datum
abbrev pub value_height : of.TermValue-F ℕ ℕ → ℕ
value_height (of.Val d) = 0
value_height (of.Term h) = h

-- the height of a term by those of its key values
abbrev pub term_height : of.Term-F ℕ ℕ → ℕ
term_height t = suc (greatest t.keys)

-- one more than the greatest height of a term among the key values, or 1 where there is none
abbrev pub height : Term → ℕ
height = fold-Term ℕ ℕ value_height term_height

-- ---- what a value is

-- the datum, if the value is one
abbrev pub datum_part : of.TermValue-F TermValue Term → Option Datum
datum_part (of.Val d) = Some d
datum_part (of.Term t) = None

-- the term, if the value is one
abbrev pub term_part : of.TermValue-F TermValue Term → Option Term
term_part (of.Val d) = None
term_part (of.Term t) = Some t

-- the datum or the source object that a value is
abbrev pub datum_in : TermValue → Option Datum
datum_in v = datum_part (out-TermValue v)

-- the term that a value is
abbrev pub term_in : TermValue → Option Term
term_in v = term_part (out-TermValue v)

-- ---- order

-- how a value, or a term, stands to another one
abbrev pub ValueOrder : Type 0
ValueOrder = TermValue → Ordering

-- how a term stands to another one
abbrev pub TermOrder : Type 0
TermOrder = Term → Ordering

-- how a datum stands to a value
abbrev pub datum_against : Datum → of.TermValue-F TermValue Term → Ordering
datum_against d (of.Val e) = datum_order d e
datum_against d (of.Term t) = Less

-- how a term stands to a value
abbrev pub term_against : TermOrder → of.TermValue-F TermValue Term → Ordering
term_against order (of.Val e) = Greater
term_against order (of.Term t) = order t

-- data come before terms
abbrev pub value_against : of.TermValue-F ValueOrder TermOrder → ValueOrder
value_against (of.Val d) v = datum_against d (out-TermValue v)
value_against (of.Term order) v = term_against order (out-TermValue v)

-- key values in their order; a list that ends comes first
abbrev pub keys_against : List ValueOrder → List TermValue → Ordering
keys_against [] [] = Equal
keys_against [] (v ∷ vs) = Less
keys_against (order ∷ orders) [] = Greater
keys_against (order ∷ orders) (v ∷ vs) = ordering_then (order v) (keys_against orders vs)

-- by the number of the class, then by the key values
abbrev pub terms_against : of.Term-F ValueOrder TermOrder → TermOrder
terms_against t u = ordering_then (nat_cmp t.class.0 (out-Term u).class.0) (keys_against t.keys (out-Term u).keys)

-- the order of terms
abbrev pub term_order : Term → Term → Ordering
term_order = fold-Term ValueOrder TermOrder value_against terms_against

-- the order of values
abbrev pub value_order : TermValue → TermValue → Ordering
value_order = fold-TermValue ValueOrder TermOrder value_against terms_against

-- two terms, or two values, are equal where neither comes first
abbrev pub same_term : Term → Term → Bool
same_term t u = is_eq (term_order t u)

-- two values are equal where neither comes first
abbrev pub same_value : TermValue → TermValue → Bool
same_value v w = is_eq (value_order v w)

-- ---- lists in an order

-- the element at its place in a list in order, if it isn't there
abbrev pub placed_by : {X : Type 0} → (X → X → Ordering) → X → List X → List X
placed_by order x [] = x ∷ []
placed_by order x (y ∷ ys) = match_ordering (order x y) (x ∷ y ∷ ys) (y ∷ ys) (y ∷ placed_by order x ys)

-- the elements in order, equal ones once
abbrev pub each_once : {X : Type 0} → (X → X → Ordering) → List X → List X
each_once order [] = []
each_once order (x ∷ xs) = placed_by order x (each_once order xs)
