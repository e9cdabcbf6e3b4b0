-- The value of an expression depends on the variables that it names alone.
use Rattle.std.specs.Prelude.{◌≡◌, ◌<◌, ◌≤◌, ◌==◌, ℕ, Bool, true, false, List, [], length, map, Option, None, Some, is_some, slice_get, if◌then◌else◌, Contains}
use Rattle.std.specs.List.{range_with_len, list_any}
use Rattle.std.proofs.Common.{refl, sym, ap, subst, ◌∙◌, arith, inl, inr, eq-eqb}
use Rattle.std.proofs.lemmas.Bool.{cases_lt, true≢false, eqb-true}
use Rattle.std.proofs.lemmas.List.{get_or_past}
use Rattle.std.proofs.lemmas.List.FromFn.{length-map-range_with_len, get_or-map-range_with_len}
use Rattle.std.proofs.lemmas.Option.{slice_get-get_or, slice_get_past}
use Rattle.object_tables.specs.Models.{ModelData}
use Rattle.object_tables.specs.declared.value.Value.TheVariants.{Bool as Boolean}
use Rattle.qv_syntax.specs.declared.program.Program.{Program}
use Rattle.qv_syntax.specs.declared.program.Rel.{Rel}
use Rattle.qv_syntax.specs.declared.typed.Typed.{Typed}
use Rattle.qv_syntax.specs.Parts.{Names}
use Rattle.qvtr_semantics.specs.declared.datum.Datum.{Datum}
use Rattle.qvtr_semantics.specs.declared.datum.Datum.TheVariants.{Val}
use Rattle.qvtr_semantics.specs.declared.out.Out.TheVariants as outs
use Rattle.qvtr_semantics.specs.Expressions.{Scope, value, variable, setting, queries_within}
use Rattle.qvtr_semantics.specs.Templates.{Values}
use Rattle.template_match.specs.Ready.{has_place, is_known, is_ready}
use Rattle.template_match.proofs.ListLaws.{any_at, any_from}
use Rattle.template_match.proofs.ReadyLaws.{ready_from_known}
use Rattle.template_match.proofs.SteadyLaws.{steady}
use Rattle.enforcement_rules.specs.Mentions.{variables_of}
use Rattle.enforcement_rules.specs.KnownVariables.{NamesOf}
use Rattle.enforcement_rules.proofs.VariableLaws.{names_listed, listed_names}

module _ (rel : Rel) (e : Typed) where
  abbrev n : ℕ
  n = length rel.vars

  abbrev is_named : ℕ → Bool
  is_named w = list_any (λ k. k == w) (variables_of n e)

  abbrev mark : Bool → Option Datum
  mark true = Some (Val 0 (Boolean true))
  mark false = None

  -- a value for each variable that is named, and for no other one of the relation
  abbrev marks : Values
  marks = map (λ w. mark (is_named w)) (range_with_len 0 n)

  known_at : (w : ℕ) → w < n → is_named w ≡ true → is_known marks w ≡ true
  known_at w below named =
      ap has_place (slice_get-get_or marks w None (omega (arith, below, length-map-range_with_len (λ v. mark (is_named v)) 0 n))
      ∙ ap (λ o. Some o) (get_or-map-range_with_len (λ v. mark (is_named v)) 0 n w w None below (omega arith) ∙ ap mark named))

  named_at : (w : ℕ) → w < n → is_known marks w ≡ true → is_named w ≡ true
  named_at w below known = by (is_named w) refl
    where
      by : (b : Bool) → is_named w ≡ b → is_named w ≡ true
      by true is = is
      by false is = absurd (true≢false (sym known
          ∙ ap has_place (slice_get-get_or marks w None (omega (arith, below, length-map-range_with_len (λ v. mark (is_named v)) 0 n))
          ∙ ap (λ o. Some o) (get_or-map-range_with_len (λ v. mark (is_named v)) 0 n w w None below (omega arith) ∙ ap mark is))))

  known_past : (w : ℕ) → n ≤ w → is_known marks w ≡ true
  known_past w past = ap has_place (slice_get_past marks w (omega (arith, past, length-map-range_with_len (λ v. mark (is_named v)) 0 n)))

  ready : is_ready marks e ≡ true
  ready = ready_from_known marks e (λ w names. elim (cases_lt w n) [
    | inl below ↦ known_at w below (any_at (λ k. k == w) (variables_of n e) w (eq-eqb w w refl) (names_listed rel e w (record { own = below; names = names })))
    | inr past ↦ known_past w (omega (arith, past))
  ])

  -- in scopes of the relation's variables that agree on those that it names its value is one
  pub same_value : (program : Program) (models : List ModelData) (x y : Scope) → length x ≡ n → length y ≡ n
      → ((w : ℕ) → w < n → NamesOf rel e w → variable x w ≡ variable y w) → value program models e x ≡ value program models e y
  same_value program models x y x_long y_long same =
      let s = setting program models in
      steady s (queries_within program.queries s (length program.queries)) marks e ready x y (x_long ∙ sym y_long) (λ w known. elim (cases_lt w n) [
        | inl below ↦ (let (k, among, is) = any_from (λ k. k == w) (variables_of n e) (named_at w below known) in
            let names : NamesOf rel e k = listed_names rel e k among in
            same w below (subst (NamesOf rel e) (eqb-true k w is) names))
        | inr past ↦ get_or_past x w outs.Invalid (omega (arith, past, x_long)) ∙ sym (get_or_past y w outs.Invalid (omega (arith, past, y_long)))
      ])
