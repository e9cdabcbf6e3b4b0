-- Values of the variables of an entry: data and terms, and how they are read over the models.
use Rattle.std.specs.Prelude.{◌≡◌, ◌<◌, ◌&&◌, is_none, slice_index_or, AllPairs, ℕ, zero, suc, Bool, true, false, List, [], ◌∷◌, length, Option, None, Some, Contains}
use Rattle.std.specs.List.{list_all}
use Rattle.std.specs.Option.{option_map, option_and_then}
use Rattle.std.proofs.Common.{refl, sym, ap, subst, ◌∙◌, arith, inl, inr}
use Rattle.std.proofs.lemmas.Bool.{true≢false, cases_lt, cases_eq, and_from}
use Rattle.std.proofs.lemmas.List.{get_or_default}
use Rattle.qv_syntax.specs.declared.program.Program.{Program}
use Rattle.qvtr_semantics.specs.declared.datum.Datum.{Datum}
use Rattle.qvtr_semantics.specs.Objects.{object_datum}
use Rattle.qvtr_semantics.specs.Templates.{Values, value_at}
use Rattle.repair_semantics.specs.declared.term.Term.{Term}
use Rattle.repair_semantics.specs.declared.term.TermValue.{TermValue, roll-TermValue, out-TermValue, out-roll-TermValue, roll-out-TermValue}
use Rattle.repair_semantics.specs.declared.term.TermValue.TheVariants as values
use Rattle.repair_semantics.specs.declared.term.TermValue.TheOpen as of
use Rattle.repair_semantics.specs.Terms.{datum_part, term_part, datum_in, term_in}
use Rattle.repair_semantics.specs.EntryValues.{TermValues, value_of, term_of, data_in}
use Rattle.repair_semantics.specs.Claims.{Held}
use Rattle.repair_semantics.specs.Conflicts.{held_in}
use Rattle.repair_semantics.specs.Candidates.{held_by_number}
use Rattle.template_match.proofs.ListLaws.{contains_later}
use Rattle.mof_metamodel.proofs.Facts.{contains_first}
use Rattle.reading_laws.specs.Readings.{Numbering, held_as, read_part, read_value, Reads}
use Rattle.std.proofs.lemmas.Option.{same_Some}

-- ---- lists

pub all_hold : {X : Type 0} (p : X → Bool) (xs : List X) → ((x : X) → Contains xs x → p x ≡ true) → list_all p xs ≡ true
all_hold p [] h = refl
all_hold p (x ∷ xs) h = ap (λ b. b && list_all p xs) (h x (contains_first x xs)) ∙ all_hold p xs (λ y c. h y (contains_later y x xs c))

pub nothing_some : {X : Type 0} (x : X) → ◌≡◌ {A = Option X} None (Some x) → ⊥
nothing_some x h = cc

pub some_given : {X : Type 0} (o : Option X) → is_none o ≡ false → (x : X) × (o ≡ Some x)
some_given None h = absurd (true≢false h)
some_given (Some x) h = (x, refl)

-- of elements that exclude each other two that don't are one
pub one_of : {X : Type 0} (R : X → X → Type 0) (xs : List X) (a b : X) → AllPairs R xs → (R a b → ⊥) → (R b a → ⊥) → Contains xs a → Contains xs b → a ≡ b
one_of R xs a b apart one other (i, first, at) (j, second, there) = elim (cases_eq i j) [
  | inl same ↦ sym at ∙ get_or_default xs i a b first ∙ ap (λ n. slice_index_or xs n b) same ∙ there
  | inr ne ↦ elim (cases_lt i j) [
    | inl less ↦ absurd (one (subst (λ z. R z b) at (subst (λ z. R (slice_index_or xs i a) z) (get_or_default xs j a b second ∙ there) (apart i j a less second))))
    | inr more ↦ absurd (other (subst (λ z. R z a) there (subst (λ z. R (slice_index_or xs j b) z) (get_or_default xs i b a first ∙ at) (apart j i b (omega (arith, more, ne)) first))))
  ]
]

-- ---- a value is a datum or a term

pub data KindOf (x : TermValue) : Type 0 where
  datum : (d : Datum) → x ≡ values.Val d → KindOf x
  term : (t : Term) → x ≡ values.Term t → KindOf x

kind_by : (x : TermValue) (l : of.TermValue-F TermValue Term) → out-TermValue x ≡ l → KindOf x
kind_by x (of.Val d) is = KindOf.datum d (sym (roll-out-TermValue x) ∙ ap roll-TermValue is ∙ values.rolls-Val d)
kind_by x (of.Term t) is = KindOf.term t (sym (roll-out-TermValue x) ∙ ap roll-TermValue is ∙ values.rolls-Term t)

pub kind_of : (x : TermValue) → KindOf x
kind_of x = kind_by x (out-TermValue x) refl

pub out_datum : (d : Datum) → out-TermValue (values.Val d) ≡ of.Val d
out_datum d = ap out-TermValue (sym (values.rolls-Val d)) ∙ out-roll-TermValue (of.Val d)

pub out_term : (t : Term) → out-TermValue (values.Term t) ≡ of.Term t
out_term t = ap out-TermValue (sym (values.rolls-Term t)) ∙ out-roll-TermValue (of.Term t)

pub datum_of_val : (d : Datum) → datum_in (values.Val d) ≡ Some d
datum_of_val d = ap datum_part (out_datum d)

pub datum_of_term : (t : Term) → datum_in (values.Term t) ≡ None
datum_of_term t = ap datum_part (out_term t)

pub term_of_val : (d : Datum) → term_in (values.Val d) ≡ None
term_of_val d = ap term_part (out_datum d)

pub term_of_term : (t : Term) → term_in (values.Term t) ≡ Some t
term_of_term t = ap term_part (out_term t)

pub one_datum : (d e : Datum) → Some (values.Val d) ≡ Some (values.Val e) → d ≡ e
one_datum d e h = same_Some d e (sym (datum_of_val d) ∙ ap (option_and_then datum_in) h ∙ datum_of_val e)

pub one_term : (t u : Term) → Some (values.Term t) ≡ Some (values.Term u) → t ≡ u
one_term t u h = same_Some t u (sym (term_of_term t) ∙ ap (option_and_then term_in) h ∙ term_of_term u)

pub no_term : (d : Datum) (t : Term) → Some (values.Val d) ≡ Some (values.Term t) → ⊥
no_term d t h = nothing_some t (sym (term_of_val d) ∙ ap (option_and_then term_in) h ∙ term_of_term t)

-- a value that has a datum is that
pub from_datum : (x : TermValue) (d : Datum) → datum_in x ≡ Some d → x ≡ values.Val d
from_datum x d h = by (kind_of x)
  where
    by : KindOf x → x ≡ values.Val d
    by (KindOf.datum e is) = is ∙ ap (λ z. values.Val z) (same_Some e d (sym (datum_of_val e) ∙ ap datum_in (sym is) ∙ h))
    by (KindOf.term t is) = absurd (nothing_some d (sym (datum_of_term t) ∙ ap datum_in (sym is) ∙ h))

pub from_term : (x : TermValue) (t : Term) → term_in x ≡ Some t → x ≡ values.Term t
from_term x t h = by (kind_of x)
  where
    by : KindOf x → x ≡ values.Term t
    by (KindOf.datum e is) = absurd (nothing_some t (sym (term_of_val e) ∙ ap term_in (sym is) ∙ h))
    by (KindOf.term u is) = is ∙ ap (λ z. values.Term z) (same_Some u t (sym (term_of_term u) ∙ ap term_in (sym is) ∙ h))

-- ---- values of variables

pub data_at : (b : TermValues) (v : ℕ) → value_at (data_in b) v ≡ option_and_then datum_in (value_of b v)
data_at [] v = refl
data_at (x ∷ b) zero = refl
data_at (x ∷ b) (suc v) = data_at b v

pub length_data : (b : TermValues) → length (data_in b) ≡ length b
length_data [] = refl
length_data (x ∷ b) = ap suc (length_data b)

pub within_terms : (b : TermValues) (v : ℕ) (x : TermValue) → value_of b v ≡ Some x → v < length b
within_terms [] v x h = absurd (nothing_some x h)
within_terms (y ∷ b) zero x h = omega arith
within_terms (y ∷ b) (suc v) x h = let more = within_terms b v x h in omega (arith, more)

-- a datum among the data is a value
pub datum_from : (b : TermValues) (v : ℕ) (d : Datum) → value_at (data_in b) v ≡ Some d → value_of b v ≡ Some (values.Val d)
datum_from b v d h = by (value_of b v) (sym (data_at b v) ∙ h)
  where
    by : (o : Option TermValue) → option_and_then datum_in o ≡ Some d → o ≡ Some (values.Val d)
    by None is = absurd (nothing_some d is)
    by (Some x) is = ap (λ z. Some z) (from_datum x d is)

pub datum_to : (b : TermValues) (v : ℕ) (d : Datum) → value_of b v ≡ Some (values.Val d) → value_at (data_in b) v ≡ Some d
datum_to b v d h = data_at b v ∙ ap (option_and_then datum_in) h ∙ datum_of_val d

pub term_to : (b : TermValues) (v : ℕ) (t : Term) → value_of b v ≡ Some (values.Term t) → term_of b v ≡ Some t
term_to b v t h = ap (option_and_then term_in) h ∙ term_of_term t

-- ---- values as they are read

module _ (program : Program) (number : Numbering) where
  pub datum_read : (d : Datum) → read_value program number (values.Val d) ≡ Some d
  datum_read d = ap (read_part program number) (out_datum d)

  pub term_read : (t : Term) → read_value program number (values.Term t) ≡ option_map (λ n. object_datum program.target n) (number t)
  term_read t = ap (read_part program number) (out_term t)

  pub term_number_by : (t : Term) (d : Datum) → read_value program number (values.Term t) ≡ Some d → (n : ℕ) × (number t ≡ Some n) × (d ≡ object_datum program.target n)
  term_number_by t d h = by (number t) refl (sym (term_read t) ∙ h)
    where
      by : (o : Option ℕ) → number t ≡ o → option_map (λ n. object_datum program.target n) o ≡ Some d → (n : ℕ) × (number t ≡ Some n) × (d ≡ object_datum program.target n)
      by None at is = absurd (nothing_some d is)
      by (Some n) at is = (n, at, sym (same_Some (object_datum program.target n) d is))

  module _ (b : TermValues) (c : Values) (r : Reads program number b c) where
    pub read_datum : (v : ℕ) (d : Datum) → value_of b v ≡ Some (values.Val d) → value_at c v ≡ Some d
    read_datum v d h = let (e, at, is) = r.given v (values.Val d) h in at ∙ sym is ∙ datum_read d

    pub read_term : (v : ℕ) (t : Term) → value_of b v ≡ Some (values.Term t) → (n : ℕ) × (number t ≡ Some n) × (value_at c v ≡ Some (object_datum program.target n))
    read_term v t h =
        let (e, at, is) = r.given v (values.Term t) h in
        let (n, num, same) = term_number_by t e is in
        (n, num, at ∙ ap (λ z. Some z) same)

    -- a value over the models is one that is read
    pub read_from : (v : ℕ) (d : Datum) → value_at c v ≡ Some d → (x : TermValue) × (value_of b v ≡ Some x) × (read_value program number x ≡ Some d)
    read_from v d h = by (value_of b v) refl
      where
        by : (o : Option TermValue) → value_of b v ≡ o → (x : TermValue) × (value_of b v ≡ Some x) × (read_value program number x ≡ Some d)
        by None at = absurd (nothing_some d (sym (r.none v at) ∙ h))
        by (Some x) at = let (e, here, is) = r.given v x at in (x, at, is ∙ sym here ∙ h)

-- ---- what a slot holds of a value

pub datum_held : (number : Numbering) (d : Datum) → held_as number (values.Val d) ≡ Some (Held.datum d)
datum_held number d = ap (λ x. held_by_number number (held_in x)) (out_datum d)

pub term_held : (number : Numbering) (t : Term) → held_as number (values.Term t) ≡ option_map (λ n. Held.object n) (number t)
term_held number t = ap (λ x. held_by_number number (held_in x)) (out_term t)
