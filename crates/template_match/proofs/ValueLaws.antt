-- Bindings as lists of values: when two are one, what a further value changes, and what an expression that is ready is in more than one.
use Rattle.std.specs.Prelude.{◌≡◌, ◌≢◌, ◌<◌, ℕ, zero, suc, true, false, List, [], ◌∷◌, length, Option, None, Some, is_some, slice_get}
use Rattle.std.proofs.Common.{refl, sym, ap, ◌∙◌, arith}
use Rattle.std.proofs.lemmas.Bool.{true≢false}
use Rattle.std.proofs.lemmas.List.{get_or-set_same, get_or-set_other}
use Rattle.object_tables.specs.Models.{ModelData}
use Rattle.qv_syntax.specs.declared.program.Program.{Program}
use Rattle.qv_syntax.specs.declared.typed.Typed.{Typed}
use Rattle.qvtr_semantics.specs.declared.datum.Datum.{Datum}
use Rattle.qvtr_semantics.specs.Expressions.{setting, queries_within, bound_value, scope_of, variable, value_for}
use Rattle.qvtr_semantics.specs.Templates.{Values, value_at}
use Rattle.qvtr_semantics.specs.Bindings.{Extends}
use Rattle.template_match.specs.Ready.{is_known, is_ready}
use Rattle.template_match.specs.Search.{is_vacant, with_value}
use Rattle.template_match.proofs.SteadyLaws.{steady}

pub some_datum : (d e : Datum) → Some d ≡ Some e → d ≡ e
some_datum d e h = cc

pub not_some : (d : Datum) → ◌≡◌ {A = Option Datum} None (Some d) → ⊥
not_some d h = cc

-- two bindings with the same values are one
pub same_values : (a b : Values) → length a ≡ length b → ((v : ℕ) → value_at a v ≡ value_at b v) → a ≡ b
same_values [] [] long h = refl
same_values [] (y ∷ b) long h = absurd (omega (arith, long))
same_values (x ∷ a) [] long h = absurd (omega (arith, long))
same_values (x ∷ a) (y ∷ b) long h =
    let short : length a ≡ length b = omega (arith, long) in
    ap (λ z. z ∷ a) (h zero) ∙ ap (λ z. y ∷ z) (same_values a b short (λ v. h (suc v)))

pub within_values : (b : Values) (v : ℕ) (d : Datum) → value_at b v ≡ Some d → v < length b
within_values [] v d h = absurd (not_some d h)
within_values (x ∷ b) zero d h = omega arith
within_values (x ∷ b) (suc v) d h = let more = within_values b v d h in omega (arith, more)

-- ---- places without a value

pub vacant_parts : (a : Values) (v : ℕ) → is_vacant (slice_get a v) ≡ true → (v < length a) × (value_at a v ≡ None)
vacant_parts [] v h = absurd (true≢false (sym h))
vacant_parts (None ∷ a) zero h = (omega arith, refl)
vacant_parts (Some d ∷ a) zero h = absurd (true≢false (sym h))
vacant_parts (x ∷ a) (suc v) h = let more = vacant_parts a v h in (omega (arith, more.0), more.1)

pub vacant_from : (a : Values) (v : ℕ) → v < length a → is_some (value_at a v) ≡ false → is_vacant (slice_get a v) ≡ true
vacant_from [] v within h = absurd (omega (arith, within))
vacant_from (None ∷ a) zero within h = refl
vacant_from (Some d ∷ a) zero within h = absurd (true≢false h)
vacant_from (x ∷ a) (suc v) within h = vacant_from a v (omega (arith, within)) h

-- ---- one more value

pub same_place : (a : Values) (v : ℕ) (d : Datum) → v < length a → value_at (with_value a v d) v ≡ Some d
same_place a v d within = get_or-set_same a v (Some d) None within

pub other_place : (a : Values) (v w : ℕ) (d : Datum) → w ≢ v → value_at (with_value a v d) w ≡ value_at a w
other_place a v w d apart = get_or-set_other a v w (Some d) None apart

-- ---- values of expressions

known_by : (a b : Values) → length a ≡ length b → Extends a b → (n : ℕ) → is_known a n ≡ true → variable (scope_of a) n ≡ variable (scope_of b) n
known_by [] [] long more n h = refl
known_by [] (y ∷ b) long more n h = absurd (omega (arith, long))
known_by (x ∷ a) [] long more n h = absurd (omega (arith, long))
known_by (None ∷ a) (y ∷ b) long more zero h = absurd (true≢false (sym h))
known_by (Some d ∷ a) (y ∷ b) long more zero h = ap bound_value (sym (more zero d refl))
known_by (x ∷ a) (y ∷ b) long more (suc n) h =
    let short : length a ≡ length b = omega (arith, long) in
    known_by a b short (λ v d at. more (suc v) d at) n h

length_scope : (a : Values) → length (scope_of a) ≡ length a
length_scope [] = refl
length_scope (x ∷ a) = ap suc (length_scope a)

-- an expression that is ready has its value in each binding that has more values
pub ready_value : (program : Program) (models : List ModelData) (e : Typed) (a b : Values) → length a ≡ length b → Extends a b → is_ready a e ≡ true
    → value_for program models e a ≡ value_for program models e b
ready_value program models e a b long more ready =
    steady (setting program models) (queries_within program.queries (setting program models) (length program.queries)) a e ready (scope_of a) (scope_of b)
    (length_scope a ∙ long ∙ sym (length_scope b)) (known_by a b long more)

-- a variable of the relation that has a value is known, and so is what is none
pub known_if : (a : Values) (n : ℕ) → (n < length a → is_some (value_at a n) ≡ true) → is_known a n ≡ true
known_if [] n h = refl
known_if (x ∷ a) zero h = h (omega arith)
known_if (x ∷ a) (suc n) h = known_if a n (λ within. h (omega (arith, within)))
