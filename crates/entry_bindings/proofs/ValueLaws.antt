-- What a value of a variable is, by its number and in a table, and the data among the values of a binding.
use Rattle.std.specs.Prelude.{◌≡◌, ◌⊎◌, ℕ, zero, suc, true, false, List, [], ◌∷◌, map, length, Option, None, Some, slice_set}
use Rattle.std.specs.Option.{option_map, option_and_then}
use Rattle.std.proofs.Common.{refl, sym, ap, ◌∙◌, inl, inr}
use Rattle.std.proofs.lemmas.Bool.{true≢false}
use Rattle.std.proofs.lemmas.Option.{same_Some}
use Rattle.qvtr_semantics.specs.declared.datum.Datum.{Datum}
use Rattle.qvtr_semantics.specs.Templates.{value_at}
use Rattle.repair_semantics.specs.declared.term.Term.{Term}
use Rattle.repair_semantics.specs.declared.term.TermValue.{TermValue, out-TermValue, roll-TermValue, roll-out-TermValue, out-roll-TermValue}
use Rattle.repair_semantics.specs.declared.term.TermValue.TheVariants as values
use Rattle.repair_semantics.specs.declared.term.TermValue.TheOpen as of
use Rattle.repair_semantics.specs.Terms.{datum_part, term_part, datum_in, term_in}
use Rattle.repair_semantics.specs.EntryValues.{TermValues, value_of, data_in}
use Rattle.term_table.specs.declared.numbered.NumberedValue.{NumberedValue}
use Rattle.term_table.specs.declared.numbered.NumberedValue.TheVariants as numbered
use Rattle.term_table.specs.TermTables.{term_at, value_in, values_in, IsWithin, AreDistinct}
use Rattle.entry_bindings.specs.Starts.{NumberedValues, number_of, is_term}
use Rattle.entry_bindings.proofs.ArgumentLaws.{none_some, at_map}

-- ---- trees

pub val_or_term : (x : TermValue) → ((d : Datum) × (x ≡ values.Val d)) ⊎ ((t : Term) × (x ≡ values.Term t))
val_or_term x = by (out-TermValue x) refl
  where
    by : (l : of.TermValue-F TermValue Term) → out-TermValue x ≡ l → ((d : Datum) × (x ≡ values.Val d)) ⊎ ((t : Term) × (x ≡ values.Term t))
    by (of.Val d) is = inl (d, sym (roll-out-TermValue x) ∙ ap roll-TermValue is ∙ values.rolls-Val d)
    by (of.Term t) is = inr (t, sym (roll-out-TermValue x) ∙ ap roll-TermValue is ∙ values.rolls-Term t)

pub datum_of_val : (d : Datum) → datum_in (values.Val d) ≡ Some d
datum_of_val d = ap datum_part (ap out-TermValue (sym (values.rolls-Val d)) ∙ out-roll-TermValue (of.Val d))

pub datum_of_term : (t : Term) → datum_in (values.Term t) ≡ None
datum_of_term t = ap datum_part (ap out-TermValue (sym (values.rolls-Term t)) ∙ out-roll-TermValue (of.Term t))

term_of_term : (t : Term) → term_in (values.Term t) ≡ Some t
term_of_term t = ap term_part (ap out-TermValue (sym (values.rolls-Term t)) ∙ out-roll-TermValue (of.Term t))

pub val_term : (d : Datum) (t : Term) → values.Val d ≡ values.Term t → ⊥
val_term d t h = none_some d (sym (datum_of_term t) ∙ ap datum_in (sym h) ∙ datum_of_val d)

pub same_val : (a b : Datum) → values.Val a ≡ values.Val b → a ≡ b
same_val a b h = same_Some a b (sym (datum_of_val a) ∙ ap datum_in h ∙ datum_of_val b)

pub same_term : (t u : Term) → values.Term t ≡ values.Term u → t ≡ u
same_term t u h = same_Some t u (sym (term_of_term t) ∙ ap term_in h ∙ term_of_term u)

pub val_from : (x : TermValue) (d : Datum) → datum_in x ≡ Some d → x ≡ values.Val d
val_from x d is = by (val_or_term x)
  where
    by : ((e : Datum) × (x ≡ values.Val e)) ⊎ ((t : Term) × (x ≡ values.Term t)) → x ≡ values.Val d
    by (inl (e, same)) = same ∙ ap (λ z. values.Val z) (same_Some e d (sym (datum_of_val e) ∙ sym (ap datum_in same) ∙ is))
    by (inr (t, same)) = absurd (none_some d (sym (datum_of_term t) ∙ sym (ap datum_in same) ∙ is))

-- ---- the data of a binding

pub data_at : (b : TermValues) (v : ℕ) → value_at (data_in b) v ≡ option_and_then datum_in (value_of b v)
data_at [] v = refl
data_at (o ∷ b) zero = refl
data_at (o ∷ b) (suc v) = data_at b v

pub data_long : (b : TermValues) → length (data_in b) ≡ length b
data_long [] = refl
data_long (o ∷ b) = ap suc (data_long b)

pub datum_from : (b : TermValues) (v : ℕ) (d : Datum) → value_at (data_in b) v ≡ Some d → value_of b v ≡ Some (values.Val d)
datum_from b v d at = by (value_of b v) refl (sym (data_at b v) ∙ at)
  where
    by : (o : Option TermValue) → value_of b v ≡ o → option_and_then datum_in o ≡ Some d → o ≡ Some (values.Val d)
    by None is h = absurd (none_some d h)
    by (Some x) is h = ap (λ z. Some z) (val_from x d h)

pub datum_there : (b : TermValues) (v : ℕ) (d : Datum) → value_of b v ≡ Some (values.Val d) → value_at (data_in b) v ≡ Some d
datum_there b v d is = data_at b v ∙ ap (option_and_then datum_in) is ∙ datum_of_val d

-- ---- numbers

pub mapped_long : {X Y : Type 0} (f : X → Y) (xs : List X) → length (map f xs) ≡ length xs
mapped_long f [] = refl
mapped_long f (x ∷ xs) = ap suc (mapped_long f xs)

pub term_number : (x : NumberedValue) → is_term x ≡ true → (n : ℕ) × (x ≡ numbered.Term n)
term_number (numbered.Val d) is = absurd (true≢false (sym is))
term_number (numbered.Term n) is = (n, refl)

pub no_term : (x : NumberedValue) → is_term x ≡ false → (d : Datum) × (x ≡ numbered.Val d)
no_term (numbered.Val d) is = (d, refl)
no_term (numbered.Term n) is = absurd (true≢false is)

pub number_val_term : (d : Datum) (n : ℕ) → numbered.Val d ≡ numbered.Term n → ⊥
number_val_term d n h = true≢false (sym (ap is_term h))

module _ (terms : List Term) where
  pub val_number : (x : NumberedValue) (d : Datum) → value_in terms x ≡ values.Val d → x ≡ numbered.Val d
  val_number (numbered.Val e) d h = ap (λ y. numbered.Val y) (same_val e d h)
  val_number (numbered.Term n) d h = absurd (val_term d (term_at terms n) (sym h))

  pub number_term : (x : NumberedValue) (t : Term) → value_in terms x ≡ values.Term t → (n : ℕ) × (x ≡ numbered.Term n) × (term_at terms n ≡ t)
  number_term (numbered.Val e) t h = absurd (val_term e t h)
  number_term (numbered.Term n) t h = (n, refl, same_term (term_at terms n) t h)

  -- equal values of a table have one number
  pub same_numbers : AreDistinct terms → (x y : NumberedValue) → IsWithin terms x → IsWithin terms y → value_in terms x ≡ value_in terms y → x ≡ y
  same_numbers apart (numbered.Val d) (numbered.Val e) one other h = ap (λ z. numbered.Val z) (same_val d e h)
  same_numbers apart (numbered.Val d) (numbered.Term n) one other h = absurd (val_term d (term_at terms n) h)
  same_numbers apart (numbered.Term m) (numbered.Val e) one other h = absurd (val_term e (term_at terms m) (sym h))
  same_numbers apart (numbered.Term m) (numbered.Term n) one other h = ap (λ z. numbered.Term z) (apart m n one other (same_term (term_at terms m) (term_at terms n) h))

  pub value_there : (b : NumberedValues) (v : ℕ) (x : NumberedValue) → number_of b v ≡ Some x → value_of (values_in terms b) v ≡ Some (value_in terms x)
  value_there b v x at = at_map (value_in terms) b v ∙ ap (option_map (value_in terms)) at

  pub value_none : (b : NumberedValues) (v : ℕ) → number_of b v ≡ None → value_of (values_in terms b) v ≡ None
  value_none b v at = at_map (value_in terms) b v ∙ ap (option_map (value_in terms)) at

  pub number_there : (b : NumberedValues) (v : ℕ) (y : TermValue) → value_of (values_in terms b) v ≡ Some y → (x : NumberedValue) × (number_of b v ≡ Some x) × (value_in terms x ≡ y)
  number_there b v y at = by (number_of b v) refl
    where
      by : (o : Option NumberedValue) → number_of b v ≡ o → (x : NumberedValue) × (number_of b v ≡ Some x) × (value_in terms x ≡ y)
      by None is = absurd (none_some y (sym (value_none b v is) ∙ at))
      by (Some x) is = (x, is, same_Some (value_in terms x) y (sym (value_there b v x is) ∙ at))

  pub decoded_long : (b : NumberedValues) → length (values_in terms b) ≡ length b
  decoded_long b = mapped_long (option_map (value_in terms)) b

  -- a term at a place without a value adds no datum
  pub set_data : (b : NumberedValues) (v n : ℕ) → number_of b v ≡ None → data_in (values_in terms (slice_set b v (Some (numbered.Term n)))) ≡ data_in (values_in terms b)
  set_data [] v n none = refl
  set_data (o ∷ b) zero n none = ap (λ p. p ∷ data_in (values_in terms b)) (datum_of_term (term_at terms n) ∙ sym (ap (λ p. option_and_then datum_in (option_map (value_in terms) p)) none))
  set_data (o ∷ b) (suc v) n none = ap (λ ps. option_and_then datum_in (option_map (value_in terms) o) ∷ ps) (set_data b v n none)

-- ---- bindings with more values

-- the second has each value that the first has
abbrev pub Grows : NumberedValues → NumberedValues → Type 0
Grows b c = (v : ℕ) (x : NumberedValue) → number_of b v ≡ Some x → number_of c v ≡ Some x

pub set_grows : (b : NumberedValues) (r v : ℕ) (o : Option NumberedValue) (x : NumberedValue) → number_of b r ≡ None → number_of b v ≡ Some x → number_of (slice_set b r o) v ≡ Some x
set_grows [] r v o x none at = at
set_grows (p ∷ b) zero zero o x none at = absurd (none_some x (sym none ∙ at))
set_grows (p ∷ b) zero (suc v) o x none at = at
set_grows (p ∷ b) (suc r) zero o x none at = at
set_grows (p ∷ b) (suc r) (suc v) o x none at = set_grows b r v o x none at
