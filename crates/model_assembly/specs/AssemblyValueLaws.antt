-- Equal values are one, so that values are found by hashing.
use Rattle.std.proofs.Common.{◌≡◌, ◌∙◌, ℕ, Bool, true, false, List, refl, ap, subst, eq-eqb}
use Rattle.std.specs.Prelude.{◌==◌, encode_utf8_all}
use Rattle.std.specs.Bool.{beq}
use Rattle.std.specs.Cmp.{IsEquivalence, both_ways}
use Rattle.std.specs.Cmp.Lexicographic.{bytes_decides}
use Rattle.std.specs.Hash as fed
use Rattle.std.proofs.lemmas.Bool.{eqb-true, and_parts, and_from, false≢true}
use Rattle.std.proofs.lemmas.Bool.Decides.{Decides-int_eq}
use Rattle.mof_metamodel.specs.declared.desc.EnumId.{EnumId}
use Rattle.object_tables.specs.declared.value.Value.{Value}
use Rattle.object_tables.specs.declared.value.Value.TheVariants as values
use Rattle.model_assembly.specs.Values.{same_value}

enum_same : (e f : EnumId) → e.0 ≡ f.0 → e ≡ f
enum_same e f h = let make : ℕ → EnumId = λ n. record { 0 = n } in ap make h

bool_same : (b c : Bool) → beq b c ≡ true → b ≡ c
bool_same true true h = refl
bool_same true false h = absurd (false≢true h)
bool_same false true h = absurd (false≢true h)
bool_same false false h = refl

pub value_same : (v w : Value) → same_value v w ≡ true → v ≡ w
value_same (values.Str s) (values.Str t) h = ap values.Str ((bytes_decides s t).0 h)
value_same (values.Str s) (values.Int j) h = absurd (false≢true h)
value_same (values.Str s) (values.Bool c) h = absurd (false≢true h)
value_same (values.Str s) (values.Lit f k) h = absurd (false≢true h)
value_same (values.Int i) (values.Str t) h = absurd (false≢true h)
value_same (values.Int i) (values.Int j) h = ap values.Int ((Decides-int_eq i j).0 h)
value_same (values.Int i) (values.Bool c) h = absurd (false≢true h)
value_same (values.Int i) (values.Lit f k) h = absurd (false≢true h)
value_same (values.Bool b) (values.Str t) h = absurd (false≢true h)
value_same (values.Bool b) (values.Int j) h = absurd (false≢true h)
value_same (values.Bool b) (values.Bool c) h = ap values.Bool (bool_same b c h)
value_same (values.Bool b) (values.Lit f k) h = absurd (false≢true h)
value_same (values.Lit e n) (values.Str t) h = absurd (false≢true h)
value_same (values.Lit e n) (values.Int j) h = absurd (false≢true h)
value_same (values.Lit e n) (values.Bool c) h = absurd (false≢true h)
value_same (values.Lit e n) (values.Lit f k) h = let both = and_parts (e.0 == f.0) (n == k) h in ap (λ x. values.Lit x n) (enum_same e f (eqb-true _ _ both.0)) ∙ ap (λ x. values.Lit f x) (eqb-true n k both.1)

pub value_itself : (v : Value) → same_value v v ≡ true
value_itself (values.Str s) = (bytes_decides s s).1 refl
value_itself (values.Int i) = (Decides-int_eq i i).1 refl
value_itself (values.Bool true) = refl
value_itself (values.Bool false) = refl
value_itself (values.Lit e n) = and_from (e.0 == e.0) (n == n) (eq-eqb e.0 e.0 refl) (eq-eqb n n refl)

swapped : (v w : Value) → same_value v w ≡ true → same_value w v ≡ true
swapped v w h = subst (λ x. same_value x v ≡ true) (value_same v w h) (value_itself v)

pub values_equiv : IsEquivalence same_value
values_equiv = record {
  refl = value_itself;
  symm = λ v w. both_ways (same_value v w) (same_value w v) (swapped v w) (swapped w v);
  congr = λ v w u h. ap (λ x. same_value x u) (value_same v w h);
}

-- what a value gives a hasher; those of one attribute are of one type
abbrev pub value_input : Value → List (List ℕ)
value_input (values.Str text) = fed.str (encode_utf8_all text)
value_input (values.Int number) = fed.i64 number
value_input (values.Bool bool) = fed.bool bool
value_input (values.Lit of place) = fed.u32 place

pub hashed_alike : (v w : Value) → same_value v w ≡ true → value_input v ≡ value_input w
hashed_alike v w h = ap value_input (value_same v w h)
