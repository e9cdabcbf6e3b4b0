-- What is known of tables of terms: what numbers stand for as a table grows, and that equal values are one number.
use Rattle.std.specs.Prelude.{◌≡◌, ◌<◌, ◌+◌, ℕ, Bool, true, false, List, [], ◌∷◌, ◌++◌, map, length, cond, All, Result, Ok, Err, OnOk, OnErr}
use Rattle.std.specs.List.{list_any}
use Rattle.std.proofs.Common.{refl, sym, ap, ◌∙◌, arith, append_assoc, append-nil, length-append}
use Rattle.std.proofs.Math.ListN.{get_or-append}
use Rattle.std.proofs.Math.Seq.{get_or-append_seam}
use Rattle.std.proofs.lemmas.List.{get_or_default}
use Rattle.std.proofs.lemmas.List.Elements.{All-head, All-tail}
use Rattle.std.proofs.lemmas.List.Folds.{Any-from_list_any, list_any_at}
use Rattle.mof_metamodel.specs.declared.desc.ClassId.{ClassId}
use Rattle.qvtr_semantics.specs.declared.datum.Datum.{Datum}
use Rattle.repair_semantics.specs.declared.term.Term.{Term, out-Term, out-roll-Term}
use Rattle.repair_semantics.specs.declared.term.TermValue.{TermValue, out-TermValue, out-roll-TermValue}
use Rattle.repair_semantics.specs.declared.term.TermValue.TheOpen as of
use Rattle.repair_semantics.specs.declared.term.TermValue.TheVariants as values
use Rattle.repair_semantics.specs.Terms.{same_term}
use Rattle.repair_semantics.proofs.TieLaws.{ties_are_one}
use Rattle.term_table.specs.declared.numbered.NumberedValue.{NumberedValue}
use Rattle.term_table.specs.declared.numbered.NumberedValue.TheVariants as numbered
use Rattle.term_table.specs.TermTables.{keyed, no_term, term_at, value_in, IsBelow, IsWithin, IsNumberOf, AreDistinct, with_term, IsGrown}

-- ---- values open

pub out_datum : (d : Datum) → out-TermValue (values.Val d) ≡ of.Val d
out_datum d = ap out-TermValue (sym (values.rolls-Val d)) ∙ out-roll-TermValue (of.Val d)

pub out_term : (t : Term) → out-TermValue (values.Term t) ≡ of.Term t
out_term t = ap out-TermValue (sym (values.rolls-Term t)) ∙ out-roll-TermValue (of.Term t)

pub same_data : (d e : Datum) → values.Val d ≡ values.Val e → d ≡ e
same_data d e h = let layers = sym (out_datum d) ∙ ap out-TermValue h ∙ out_datum e in cc

pub same_terms : (t u : Term) → values.Term t ≡ values.Term u → t ≡ u
same_terms t u h = let layers = sym (out_term t) ∙ ap out-TermValue h ∙ out_term u in cc

pub datum_no_term : (d : Datum) (t : Term) → values.Val d ≡ values.Term t → ⊥
datum_no_term d t h = let layers = sym (out_datum d) ∙ ap out-TermValue h ∙ out_term t in absurd (cc)

-- a term gives its class and its key values back
pub class_of_keyed : (class : ClassId) (keys : List TermValue) → (out-Term (keyed class keys)).class ≡ class
class_of_keyed class keys = ap (λ (l : of.Term-F TermValue Term). l.class) (out-roll-Term (record { class = class; keys = keys }))

pub keys_of_keyed : (class : ClassId) (keys : List TermValue) → (out-Term (keyed class keys)).keys ≡ keys
keys_of_keyed class keys = ap (λ (l : of.Term-F TermValue Term). l.keys) (out-roll-Term (record { class = class; keys = keys }))

-- ---- a table that grows

pub grown-refl : (a : List Term) → IsGrown a a
grown-refl a = ([], sym (append-nil a))

pub grown-trans : (a b c : List Term) → IsGrown a b → IsGrown b c → IsGrown a c
grown-trans a b c g h = (g.0 ++ h.0, h.1 ∙ ap (λ xs. xs ++ h.0) g.1 ∙ append_assoc a g.0 h.0)

pub with_term-grown : (a : List Term) (t : Term) → IsGrown a (with_term a t)
with_term-grown a t = elim (list_any (same_term t) a) as (λ b. IsGrown a (cond b a (a ++ t ∷ []))) [ true ↦ grown-refl a | false ↦ (t ∷ [], refl) ]

-- after a term was put behind the others, or wasn't for want of memory
pub grown_after : {T E : Type 0} (r : Result T E) (a b : List Term) (t : Term) → OnOk r (b ≡ a ++ t ∷ []) → OnErr r (b ≡ a) → IsGrown a b
grown_after (Ok x) a b t put same = (t ∷ [], put)
grown_after (Err e) a b t put same = ([], same ∙ sym (append-nil a))

pub length_grown : (a b : List Term) (n : ℕ) → IsGrown a b → n < length a → n < length b
length_grown a b n g l = omega (arith, ap length g.1, length-append a g.0)

pub term_grown : (a b : List Term) (n : ℕ) → IsGrown a b → n < length a → term_at b n ≡ term_at a n
term_grown a b n g l = ap (λ ts. term_at ts n) g.1 ∙ get_or-append a g.0 no_term n l

pub within_grown : (a b : List Term) (v : NumberedValue) → IsGrown a b → IsWithin a v → IsWithin b v
within_grown a b (numbered.Val d) g w = tt
within_grown a b (numbered.Term n) g w = length_grown a b n g w

pub value_grown : (a b : List Term) (v : NumberedValue) → IsGrown a b → IsWithin a v → value_in b v ≡ value_in a v
value_grown a b (numbered.Val d) g w = refl
value_grown a b (numbered.Term n) g w = ap values.Term (term_grown a b n g w)

-- key values keep what they stand for
pub keys_grown : (a b : List Term) (vs : List NumberedValue) → IsGrown a b → All (IsWithin a) vs → map (value_in b) vs ≡ map (value_in a) vs
keys_grown a b [] g w = refl
keys_grown a b (v ∷ vs) g w =
    ap (λ x. x ∷ map (value_in b) vs) (value_grown a b v g (All-head (IsWithin a) v vs w))
    ∙ ap (λ xs. value_in a v ∷ xs) (keys_grown a b vs g (All-tail (IsWithin a) v vs w))

-- a value below a bound is below a greater one
pub below_more : (m n : ℕ) (v : NumberedValue) → m < n + 1 → IsBelow m v → IsBelow n v
below_more m n (numbered.Val d) l w = tt
below_more m n (numbered.Term k) l w = omega (arith, l, w)

-- ---- what a table has

pub number_known : (a : List Term) (n : ℕ) (t : Term) → IsNumberOf a n t → list_any (same_term t) a ≡ true
number_known a n t is =
    list_any_at (same_term t) a n no_term is.0 ((ties_are_one t (term_at a n)).1 (sym is.1))

pub with_term_known : (a : List Term) (n : ℕ) (t : Term) → IsNumberOf a n t → with_term a t ≡ a
with_term_known a n t is = ap (λ b. cond b a (a ++ t ∷ [])) (number_known a n t is)

pub with_term_new : (a : List Term) (t : Term) → ((n : ℕ) → IsNumberOf a n t → ⊥) → with_term a t ≡ a ++ t ∷ []
with_term_new a t none = ap (λ b. cond b a (a ++ t ∷ [])) (by (list_any (same_term t) a) refl)
  where
    by : (b : Bool) → list_any (same_term t) a ≡ b → b ≡ false
    by false e = refl
    by true e =
        let found = Any-from_list_any (same_term t) a e in
        let at : term_at a found.0 ≡ found.1 = get_or_default a found.0 no_term found.1 found.2 ∙ found.3 in
        absurd (none found.0 (found.2, sym ((ties_are_one t (term_at a found.0)).0 (ap (same_term t) at ∙ found.4))))

-- the term behind the others has the next number
pub number_new : (a : List Term) (t : Term) → IsNumberOf (a ++ t ∷ []) (length a) t
number_new a t = (omega (arith, length-append a (t ∷ [])), get_or-append_seam a t [] no_term)

-- ---- equal values are one number

pub same_values : (a : List Term) (v w : NumberedValue) → AreDistinct a → IsWithin a v → IsWithin a w → value_in a v ≡ value_in a w → v ≡ w
same_values a (numbered.Val d) (numbered.Val e) apart p q h = ap numbered.Val (same_data d e h)
same_values a (numbered.Val d) (numbered.Term n) apart p q h = absurd (datum_no_term d (term_at a n) h)
same_values a (numbered.Term m) (numbered.Val e) apart p q h = absurd (datum_no_term e (term_at a m) (sym h))
same_values a (numbered.Term m) (numbered.Term n) apart p q h = ap numbered.Term (apart m n p q (same_terms (term_at a m) (term_at a n) h))
