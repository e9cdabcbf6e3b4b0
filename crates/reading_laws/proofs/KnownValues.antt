-- What is known of a variable of an entry: a value of its binding, the datum of an equation, or a term that is made. So variables for objects of the
-- target have terms, and others data.
use Rattle.std.specs.Prelude.{◌≡◌, ◌≢◌, ◌<◌, ℕ, Bool, true, false, not, List, map, length, Option, None, Some, slice_get, Contains}
use Rattle.std.specs.Option.{option_and_then, option_or}
use Rattle.std.proofs.Common.{refl, sym, ap, subst, ◌∙◌}
use Rattle.std.proofs.lemmas.Bool.{true≢false, eq-eqb}
use Rattle.mof_metamodel.specs.declared.desc.MetaDesc.{MetaDesc}
use Rattle.object_tables.specs.Models.{ModelData}
use Rattle.object_tables.proofs.SlotLemmas.{Contains-to_filter}
use Rattle.qv_syntax.specs.declared.typed.Typed.{Typed}
use Rattle.qv_syntax.specs.declared.program.Program.{Program}
use Rattle.qv_syntax.specs.declared.program.Rel.{Rel}
use Rattle.qv_syntax.specs.declared.program.Var.{Var}
use Rattle.qv_syntax.specs.Relations.{IsUniversal}
use Rattle.qv_syntax.specs.Directions.{IsMeant}
use Rattle.qvtr_semantics.specs.declared.datum.Datum.{Datum}
use Rattle.qvtr_semantics.specs.declared.out.Out.TheVariants as outs
use Rattle.qvtr_semantics.specs.Bindings.{is_model}
use Rattle.qvtr_semantics.specs.Expressions.{Scope, variable, bound_value}
use Rattle.qvtr_semantics.specs.Templates.{value_at}
use Rattle.template_match.specs.Sources.{is_of_target, is_target_variable, source_variables}
use Rattle.template_match.proofs.SideLaws.{valued}
use Rattle.enforcement_rules.specs.Rules.{Breaks, IsEnforceable}
use Rattle.enforceable_sources.proofs.EnforceableLaws.{enforceable_hands_on}
use Rattle.evaluation_laws.specs.Evaluable.{IsEvaluable}
use Rattle.source_laws.proofs.BindingLaws.{found_within, subject_outside}
use Rattle.source_laws.specs.SourceRelations.{KeepsToSources}
use Rattle.source_laws.proofs.QueryLaws.{variable_is}
use Rattle.source_laws.proofs.RuleLaws.{rule_keeps}
use Rattle.repair_semantics.specs.declared.term.Term.{Term}
use Rattle.repair_semantics.specs.declared.term.TermValue.{TermValue}
use Rattle.repair_semantics.specs.declared.term.TermValue.TheVariants as values
use Rattle.repair_semantics.specs.Terms.{datum_in}
use Rattle.repair_semantics.specs.EntryValues.{TermValues, Known, value_of, data_in, given_out}
use Rattle.repair_semantics.specs.TargetItems.{target_items, class_of_variable, class_in}
use Rattle.repair_semantics.specs.Making.{variables, equation_of, entry_scope, value_or_datum, entry_known}
use Rattle.repair_semantics.specs.Entries.{TermSource}
use Rattle.reading_laws.specs.Roots.{HasRootsOf}
use Rattle.reading_laws.proofs.MeetingValues.{nothing_some, no_term, one_datum, data_at, datum_to, within_terms}
use Rattle.std.proofs.lemmas.Option.{same_Some}
use Rattle.reading_laws.proofs.MeetingEntries.{term_is_target, datum_is_source}
use Rattle.reading_laws.proofs.MeetingTypes.{equation_found, length_variables, length_map, target_root_is, have, datum_universal}
use Rattle.reading_laws.proofs.MeetingKnown.{at_variable, value_stays, length_round, made_later}
use Rattle.reading_laws.proofs.MeetingEquations.{stays}
use Rattle.reading_laws.proofs.PartnerValues.{class_of_type}
use Rattle.reading_laws.proofs.PartnerEquations.{equation_for}
use Rattle.reading_laws.proofs.PartnerKeys.{datum_given}

pub is_target : (program : Program) (rel : Rel) (v : ℕ) (var : Var) → slice_get rel.vars v ≡ Some var → var.model ≡ Some program.target → is_target_variable program rel v ≡ true
is_target program rel v var found model = ap (is_of_target program) found ∙ ap (λ x. is_model x program.target) model ∙ eq-eqb program.target program.target refl

module _ (metas : List MetaDesc) (program : Program) (sources : List ModelData) (over : IsEvaluable metas program sources) (enforceable : IsEnforceable metas program)
    (place : ℕ) (rel : Rel) (found : slice_get program.rels place ≡ Some rel) (direction : rel.in_direction ≡ true)
    (roots b : TermValues) (source : TermSource program sources rel roots b) (has : HasRootsOf metas program sources rel roots) where
  abbrev meant : IsMeant program place rel
  meant = over.well.relations place rel found

  pub keeps : KeepsToSources program rel
  keeps = rule_keeps metas program over.well place rel found (enforceable_hands_on metas program over.well place rel enforceable found direction)

  abbrev scope : Scope
  scope = entry_scope program sources rel b

  abbrev k : Known
  k = entry_known program sources rel b

  abbrev begin : TermValues
  begin = map (value_or_datum b scope) (variables rel)

  -- ---- what is known of a variable

  -- a value of the binding, the datum of an equation, or a term that is made
  data IsKnownBy (v : ℕ) (x : TermValue) : Type 0 where
    given : value_of b v ≡ Some x → IsKnownBy v x
    datum : value_of b v ≡ None → given_out (variable scope v) ≡ Some x → IsKnownBy v x
    made : value_of b v ≡ None → (t : Term) → x ≡ values.Term t → (class : ℕ) → class_of_variable rel v ≡ Some class → IsKnownBy v x

  known_below : (v : ℕ) (x : TermValue) → value_of k.values v ≡ Some x → v < length rel.vars
  known_below v x at =
      subst (λ n. v < n) (length_round program sources rel (target_items program rel) scope begin (length_map (value_or_datum b scope) (variables rel) ∙ length_variables rel) (length rel.vars))
      (within_terms k.values v x at)

  begin_by : (v : ℕ) (x : TermValue) → v < length rel.vars → value_of begin v ≡ Some x → IsKnownBy v x
  begin_by v x below at = by (value_of b v) refl (sym (at_variable rel (value_or_datum b scope) v below) ∙ at)
    where
      by : (o : Option TermValue) → value_of b v ≡ o → option_or o (given_out (variable scope v)) ≡ Some x → IsKnownBy v x
      by None is h = IsKnownBy.datum is h
      by (Some y) is h = IsKnownBy.given (is ∙ h)

  none_before : (v : ℕ) → v < length rel.vars → value_of begin v ≡ None → value_of b v ≡ None
  none_before v below at = by (value_of b v) refl (sym (at_variable rel (value_or_datum b scope) v below) ∙ at)
    where
      by : (o : Option TermValue) → value_of b v ≡ o → option_or o (given_out (variable scope v)) ≡ None → o ≡ None
      by None is h = refl
      by (Some y) is h = absurd (nothing_some y (sym h))

  known_by : (v : ℕ) (x : TermValue) → value_of k.values v ≡ Some x → IsKnownBy v x
  known_by v x at = by (known_below v x at) (value_of begin v) refl
    where
      by : v < length rel.vars → (o : Option TermValue) → value_of begin v ≡ o → IsKnownBy v x
      by below None is =
          let m = made_later program sources rel (target_items program rel) scope begin (length rel.vars) v x below is at in
          IsKnownBy.made (none_before v below is) m.t m.is m.class m.class_is
      by below (Some y) is =
          let same : y ≡ x = same_Some y x (sym (value_stays program sources rel (target_items program rel) scope begin (length rel.vars) v y below is) ∙ at) in
          begin_by v x below (is ∙ ap (λ z. Some z) same)

  -- ---- variables for objects of the target have terms, and others data

  unequated : (v : ℕ) → is_target_variable program rel v ≡ true → equation_of rel.wheres v ≡ None
  unequated v target = by (equation_of rel.wheres v) refl
    where
      by : (o : Option Typed) → equation_of rel.wheres v ≡ o → o ≡ None
      by None is = refl
      by (Some e) is =
          absurd (true≢false (sym target ∙ subject_outside program rel (λ w. ¬ IsUniversal program rel w) rel.wheres meant.variables meant.wheres v e (equation_for rel.wheres v e is)))

  before_is : (v : ℕ) → v < length rel.vars → equation_of rel.wheres v ≡ None → variable scope v ≡ bound_value (value_at (data_in b) v)
  before_is v below none =
      stays metas program sources over enforceable place rel found direction roots b source has v below none (length rel.wheres)
      ∙ variable_is (data_in b) v

  pub no_datum : (v : ℕ) (d : Datum) → value_of k.values v ≡ Some (values.Val d) → is_target_variable program rel v ≡ true → ⊥
  no_datum v d at target = by (known_below v (values.Val d) at) (known_by v (values.Val d) at)
    where
      by : v < length rel.vars → IsKnownBy v (values.Val d) → ⊥
      by below (IsKnownBy.given is) = true≢false (sym target ∙ datum_is_source metas program sources rel roots b source has v d is)
      by below (IsKnownBy.datum none is) =
          nothing_some (values.Val d) (sym (ap given_out (before_is v below (unequated v target) ∙ ap bound_value (data_at b v ∙ ap (option_and_then datum_in) none))) ∙ is)
      by below (IsKnownBy.made none t same class typed) = no_term d t (ap (λ x. Some x) same)

  universal_given : (v : ℕ) (var : Var) → slice_get rel.vars v ≡ Some var → value_of b v ≡ None → is_target_variable program rel v ≡ false → ¬ IsUniversal program rel v
  universal_given v var at none outside universal =
      let among = (meant.variables.universal v var at).1 universal in
      let x = valued program sources rel (source_variables program rel) (data_in b) v
      (have metas program sources over place rel found keeps roots b source has)
      (Contains-to_filter (λ w. not (is_target_variable program rel w)) rel.universal v (ap not outside) among) in
      nothing_some x.value (sym (data_at b v ∙ ap (option_and_then datum_in) none) ∙ x.at)

  -- an object variable that has no value before is one of the target's
  made_target : (v class : ℕ) → v < length rel.vars → value_of b v ≡ None → class_of_variable rel v ≡ Some class → is_target_variable program rel v ≡ true
  made_target v class below none typed = by (is_target_variable program rel v) refl
    where
      by : (x : Bool) → is_target_variable program rel v ≡ x → x ≡ true
      by true is = refl
      by false is =
          let (var, at) = found_within rel.vars v below in
          let (meta, class_id, of_class, same) = class_of_type var.ty class (sym (ap (option_and_then (λ (y : Var). class_in y.ty)) at) ∙ typed) in
          absurd (enforceable place 4 (record {
            rel = rel;
            found = found;
            in_direction = direction;
            breaks = Breaks.e4 refl (record {
              v = v;
              object = record { var = var; found = at; meta = meta; class = class_id; typed = of_class };
              existential = universal_given v var at none is;
              own = λ on. true≢false (sym (target_root_is metas program sources over place rel found on.dom on.of) ∙ ap (is_target_variable program rel) on.root ∙ is);
              unmade = λ concrete. true≢false (sym (is_target program rel v concrete.of_target.var concrete.of_target.found concrete.of_target.target) ∙ is);
            });
          }))

  pub term_target : (v : ℕ) (t : Term) → value_of k.values v ≡ Some (values.Term t) → is_target_variable program rel v ≡ true
  term_target v t at = by (known_below v (values.Term t) at) (known_by v (values.Term t) at)
    where
      by : v < length rel.vars → IsKnownBy v (values.Term t) → is_target_variable program rel v ≡ true
      by below (IsKnownBy.given is) = term_is_target metas program sources rel roots b source has v t is
      by below (IsKnownBy.datum none is) =
          let (d, out, same) = datum_given (variable scope v) (values.Term t) is in absurd (no_term d t (ap (λ x. Some x) (sym same)))
      by below (IsKnownBy.made none u same class typed) = made_target v class below none typed

  -- a datum that is known is the variable's in the scope
  pub datum_known : (v : ℕ) (d : Datum) → value_of k.values v ≡ Some (values.Val d) → variable scope v ≡ outs.One d
  datum_known v d at = by (known_below v (values.Val d) at) (known_by v (values.Val d) at)
    where
      universal_unequated : v < length rel.vars → Contains rel.universal v → (o : Option Typed) → equation_of rel.wheres v ≡ o → o ≡ None
      universal_unequated below among None is = refl
      universal_unequated below among (Some e) is =
          let (var, there) = found_within rel.vars v below in
          let (p, equation) = equation_found rel.wheres v e is in
          absurd ((meant.wheres.are p v e equation).1 ((meant.variables.universal v var there).0 among))

      by : v < length rel.vars → IsKnownBy v (values.Val d) → variable scope v ≡ outs.One d
      by below (IsKnownBy.given is) =
          before_is v below (universal_unequated below (datum_universal metas program sources over place rel found keeps roots b source has v d is) (equation_of rel.wheres v) refl)
          ∙ ap bound_value (datum_to b v d is)
      by below (IsKnownBy.datum none is) =
          let (e, out, same) = datum_given (variable scope v) (values.Val d) is in out ∙ ap (λ y. outs.One y) (sym (one_datum d e (ap (λ x. Some x) same)))
      by below (IsKnownBy.made none t same class typed) = absurd (no_term d t (ap (λ x. Some x) same))
