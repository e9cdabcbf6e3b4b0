-- What a value of a variable is read as, at one variable and at all of them.
use Rattle.std.specs.Prelude.{◌≡◌, ◌⊎◌, ℕ, zero, suc, true, List, [], ◌∷◌, length, Option, None, Some, Contains}
use Rattle.std.specs.Option.{option_map, option_and_then}
use Rattle.std.proofs.Common.{refl, sym, ap, subst, ◌∙◌, inl, inr}
use Rattle.object_tables.specs.Models.{ModelData}
use Rattle.qv_syntax.specs.declared.program.Program.{Program}
use Rattle.qv_syntax.specs.declared.program.Rel.{Rel}
use Rattle.qvtr_semantics.specs.declared.datum.Datum.{Datum}
use Rattle.qvtr_semantics.specs.declared.datum.Datum.TheVariants.{Obj, Val}
use Rattle.qvtr_semantics.specs.Objects.{object_datum}
use Rattle.qvtr_semantics.specs.Templates.{Values, value_at}
use Rattle.repair_semantics.specs.declared.term.Term.{Term}
use Rattle.repair_semantics.specs.declared.term.TermValue.{TermValue, out-TermValue, roll-TermValue, roll-out-TermValue, out-roll-TermValue}
use Rattle.repair_semantics.specs.declared.term.TermValue.TheVariants as values
use Rattle.repair_semantics.specs.declared.term.TermValue.TheOpen as of
use Rattle.repair_semantics.specs.Terms.{datum_part, term_part, datum_in, term_in}
use Rattle.repair_semantics.specs.EntryValues.{TermValues, value_of, term_of, data_in}
use Rattle.template_match.specs.Sources.{is_target_variable}
use Rattle.source_laws.specs.SourceValues.{IsOfSources}
use Rattle.reading_laws.specs.Readings.{Numbering, IsReading, read_part, read_value, Reads}
use Rattle.std.proofs.lemmas.Option.{same_Some}

-- ---- what a value is

pub val_or_term : (x : TermValue) → ((d : Datum) × (x ≡ values.Val d)) ⊎ ((t : Term) × (x ≡ values.Term t))
val_or_term x = by (out-TermValue x) refl
  where
    by : (l : of.TermValue-F TermValue Term) → out-TermValue x ≡ l → ((d : Datum) × (x ≡ values.Val d)) ⊎ ((t : Term) × (x ≡ values.Term t))
    by (of.Val d) is = inl (d, sym (roll-out-TermValue x) ∙ ap roll-TermValue is ∙ values.rolls-Val d)
    by (of.Term t) is = inr (t, sym (roll-out-TermValue x) ∙ ap roll-TermValue is ∙ values.rolls-Term t)

pub out_val : (d : Datum) → out-TermValue (values.Val d) ≡ of.Val d
out_val d = ap out-TermValue (sym (values.rolls-Val d)) ∙ out-roll-TermValue (of.Val d)

pub out_term : (t : Term) → out-TermValue (values.Term t) ≡ of.Term t
out_term t = ap out-TermValue (sym (values.rolls-Term t)) ∙ out-roll-TermValue (of.Term t)

pub datum_of_val : (d : Datum) → datum_in (values.Val d) ≡ Some d
datum_of_val d = ap datum_part (out_val d)

pub datum_of_term : (t : Term) → datum_in (values.Term t) ≡ None
datum_of_term t = ap datum_part (out_term t)

pub term_of_term : (t : Term) → term_in (values.Term t) ≡ Some t
term_of_term t = ap term_part (out_term t)

pub term_of_val : (d : Datum) → term_in (values.Val d) ≡ None
term_of_val d = ap term_part (out_val d)

pub none_some : {X : Type 0} (x : X) → ◌≡◌ {A = Option X} None (Some x) → ⊥
none_some x h = cc

-- the datum that a value is
pub val_from : (x : TermValue) (d : Datum) → datum_in x ≡ Some d → x ≡ values.Val d
val_from x d is = by (val_or_term x)
  where
    by : ((e : Datum) × (x ≡ values.Val e)) ⊎ ((t : Term) × (x ≡ values.Term t)) → x ≡ values.Val d
    by (inl (e, same)) = same ∙ ap (λ z. values.Val z) (same_Some e d (sym (datum_of_val e) ∙ sym (ap datum_in same) ∙ is))
    by (inr (t, same)) = absurd (none_some d (sym (datum_of_term t) ∙ sym (ap datum_in same) ∙ is))

pub term_from : (x : TermValue) (t : Term) → term_in x ≡ Some t → x ≡ values.Term t
term_from x t is = by (val_or_term x)
  where
    by : ((e : Datum) × (x ≡ values.Val e)) ⊎ ((u : Term) × (x ≡ values.Term u)) → x ≡ values.Term t
    by (inl (e, same)) = absurd (none_some t (sym (term_of_val e) ∙ sym (ap term_in same) ∙ is))
    by (inr (u, same)) = same ∙ ap (λ z. values.Term z) (same_Some u t (sym (term_of_term u) ∙ sym (ap term_in same) ∙ is))

-- no value is both
pub val_term : (d : Datum) (t : Term) → values.Val d ≡ values.Term t → ⊥
val_term d t h = none_some d (sym (datum_of_term t) ∙ ap datum_in (sym h) ∙ datum_of_val d)

pub same_val : (a b : Datum) → values.Val a ≡ values.Val b → a ≡ b
same_val a b h = same_Some a b (sym (datum_of_val a) ∙ ap datum_in h ∙ datum_of_val b)

pub same_term : (t u : Term) → values.Term t ≡ values.Term u → t ≡ u
same_term t u h = same_Some t u (sym (term_of_term t) ∙ ap term_in h ∙ term_of_term u)

-- ---- the data of a binding

pub data_at : (b : TermValues) (v : ℕ) → value_at (data_in b) v ≡ option_and_then datum_in (value_of b v)
data_at [] v = refl
data_at (o ∷ b) zero = refl
data_at (o ∷ b) (suc v) = data_at b v

pub data_long : (b : TermValues) → length (data_in b) ≡ length b
data_long [] = refl
data_long (o ∷ b) = ap suc (data_long b)

pub term_at : (b : TermValues) (v : ℕ) (t : Term) → value_of b v ≡ Some (values.Term t) → term_of b v ≡ Some t
term_at b v t is = ap (option_and_then term_in) is ∙ term_of_term t

-- where a variable has a datum
pub datum_from : (b : TermValues) (v : ℕ) (d : Datum) → value_at (data_in b) v ≡ Some d → value_of b v ≡ Some (values.Val d)
datum_from b v d at = by (value_of b v) refl (sym (data_at b v) ∙ at)
  where
    by : (o : Option TermValue) → value_of b v ≡ o → option_and_then datum_in o ≡ Some d → o ≡ Some (values.Val d)
    by None is h = absurd (none_some d h)
    by (Some x) is h = ap (λ z. Some z) (val_from x d h)

pub datum_there : (b : TermValues) (v : ℕ) (d : Datum) → value_of b v ≡ Some (values.Val d) → value_at (data_in b) v ≡ Some d
datum_there b v d is = data_at b v ∙ ap (option_and_then datum_in) is ∙ datum_of_val d

-- ---- reading

-- a value of a variable, as it is read
abbrev pub ReadsOne : Program → Numbering → Option TermValue → Option Datum → Type 0
ReadsOne program number None None = Unit {0}
ReadsOne program number None (Some d) = ⊥
ReadsOne program number (Some x) None = ⊥
ReadsOne program number (Some x) (Some d) = read_value program number x ≡ Some d

number_in : Datum → ℕ
number_in (Obj m o) = o.0
number_in (Val m v) = 0

same_object : (t a b : ℕ) → object_datum t a ≡ object_datum t b → a ≡ b
unfolding number_in
same_object t a b h = ap number_in h

-- a value is no object of the target as a datum, and where it is a term, one of these
pub record Told (program : Program) (terms : List Term) (x : TermValue) : Type 0 where
  pub data_value : (d : Datum) → x ≡ values.Val d → IsOfSources program.target d
  pub term : (t : Term) → x ≡ values.Term t → Contains terms t

-- and then of a variable for objects of the target
pub record IsFit (program : Program) (terms : List Term) (rel : Rel) (v : ℕ) (x : TermValue) : Type 0 where
  pub told : Told program terms x
  pub target : (t : Term) → x ≡ values.Term t → is_target_variable program rel v ≡ true

-- each value of a binding is
abbrev pub AreFit : Program → List Term → Rel → TermValues → Type 0
AreFit program terms rel b = (v : ℕ) (x : TermValue) → value_of b v ≡ Some x → IsFit program terms rel v x

module _ (program : Program) (number : Numbering) where
  pub val_read : (d : Datum) → read_value program number (values.Val d) ≡ Some d
  val_read d = ap (read_part program number) (out_val d)

  pub term_read : (t : Term) → read_value program number (values.Term t) ≡ option_map (λ n. object_datum program.target n) (number t)
  term_read t = ap (read_part program number) (out_term t)

  pub one_at : (b : TermValues) (c : Values) → Reads program number b c → (v : ℕ) → ReadsOne program number (value_of b v) (value_at c v)
  one_at b c reads v = by (value_of b v) refl
    where
      by : (o : Option TermValue) → value_of b v ≡ o → ReadsOne program number o (value_at c v)
      by None is = subst (ReadsOne program number None) (sym (reads.none v is)) tt
      by (Some x) is = let given = reads.given v x is in subst (ReadsOne program number (Some x)) (sym given.1) given.2

  pub some_read : (x : TermValue) (o : Option Datum) → ReadsOne program number (Some x) o → (d : Datum) × (o ≡ Some d) × (read_value program number x ≡ Some d)
  some_read x None h = absurd h
  some_read x (Some d) h = (d, refl, h)

  pub none_read : (o : Option Datum) → ReadsOne program number None o → o ≡ None
  none_read None h = refl
  none_read (Some d) h = absurd h

  pub read_some : (o : Option TermValue) (d : Datum) → ReadsOne program number o (Some d) → (x : TermValue) × (o ≡ Some x) × (read_value program number x ≡ Some d)
  read_some None d h = absurd h
  read_some (Some x) d h = (x, refl, h)

  pub all_at : (b : TermValues) (c : Values) → length c ≡ length b → ((v : ℕ) → ReadsOne program number (value_of b v) (value_at c v)) → Reads program number b c
  all_at b c long each = record {
    places = long;
    given = λ v x is. some_read x (value_at c v) (subst (λ o. ReadsOne program number o (value_at c v)) is (each v));
    none = λ v is. none_read (value_at c v) (subst (λ o. ReadsOne program number o (value_at c v)) is (each v));
  }

  -- the term of which a value is read as this object
  number_of : (t : Term) (d : Datum) (o : Option ℕ) → number t ≡ o → option_map (λ n. object_datum program.target n) o ≡ Some d
      → (n : ℕ) × (number t ≡ Some n) × (d ≡ object_datum program.target n)
  number_of t d None is h = absurd (none_some d h)
  number_of t d (Some n) is h = (n, is, sym (same_Some (object_datum program.target n) d h))

  pub term_number : (t : Term) (d : Datum) → read_value program number (values.Term t) ≡ Some d → (n : ℕ) × (number t ≡ Some n) × (d ≡ object_datum program.target n)
  term_number t d h = number_of t d (number t) refl (sym (term_read t) ∙ h)

  not_source : (n : ℕ) (d : Datum) → d ≡ object_datum program.target n → IsOfSources program.target d → ⊥
  not_source n d is apart = (subst (IsOfSources program.target) is apart) refl

  -- such values are told apart by what they are read as
  pub one_value : (m : ModelData) (terms : List Term) → IsReading program m terms number → (x y : TermValue) (d : Datum) → Told program terms x → Told program terms y
      → read_value program number x ≡ Some d → read_value program number y ≡ Some d → x ≡ y
  one_value m terms reading x y d one other here there = by (val_or_term x) (val_or_term y)
    where
      by : ((a : Datum) × (x ≡ values.Val a)) ⊎ ((t : Term) × (x ≡ values.Term t)) → ((a : Datum) × (y ≡ values.Val a)) ⊎ ((t : Term) × (y ≡ values.Term t)) → x ≡ y
      by (inl (a, is)) (inl (b, at)) =
          let here_is : a ≡ d = same_Some a d (sym (val_read a) ∙ sym (ap (read_value program number) is) ∙ here) in
          let there_is : b ≡ d = same_Some b d (sym (val_read b) ∙ sym (ap (read_value program number) at) ∙ there) in
          is ∙ ap (λ z. values.Val z) (here_is ∙ sym there_is) ∙ sym at
      by (inl (a, is)) (inr (u, at)) =
          let n = term_number u d (sym (ap (read_value program number) at) ∙ there) in
          let here_is : a ≡ d = same_Some a d (sym (val_read a) ∙ sym (ap (read_value program number) is) ∙ here) in
          absurd (not_source n.0 a (here_is ∙ n.2) (one.data_value a is))
      by (inr (t, is)) (inl (b, at)) =
          let n = term_number t d (sym (ap (read_value program number) is) ∙ here) in
          let there_is : b ≡ d = same_Some b d (sym (val_read b) ∙ sym (ap (read_value program number) at) ∙ there) in
          absurd (not_source n.0 b (there_is ∙ n.2) (other.data_value b at))
      by (inr (t, is)) (inr (u, at)) =
          let n = term_number t d (sym (ap (read_value program number) is) ∙ here) in
          let k = term_number u d (sym (ap (read_value program number) at) ∙ there) in
          let same : n.0 ≡ k.0 = same_object program.target n.0 k.0 (sym n.2 ∙ k.2) in
          is ∙ ap (λ z. values.Term z) (reading.apart t u n.0 (one.term t is) (other.term u at) n.1 (k.1 ∙ ap (λ z. Some z) (sym same))) ∙ sym at
