-- Where the demands of an entry stand, its values and those that it makes, as they are read over the models, meet the target of its relation.
use Rattle.std.specs.Prelude.{◌≡◌, ◌⊎◌, ◌<◌, ◌&&◌, ◌||◌, ℕ, Bool, true, false, not, List, length, Option, None, Some, slice_get, Contains}
use Rattle.std.specs.List.{list_all}
use Rattle.std.proofs.Common.{refl, sym, ap, subst, ◌∙◌, inl, inr}
use Rattle.std.proofs.lemmas.Bool.{true≢false, not-false}
use Rattle.mof_metamodel.specs.declared.desc.MetaDesc.{MetaDesc}
use Rattle.object_tables.specs.Models.{ModelData}
use Rattle.qv_syntax.specs.declared.typed.Typed.{Typed}
use Rattle.qv_syntax.specs.declared.program.Program.{Program}
use Rattle.qv_syntax.specs.declared.program.Rel.{Rel}
use Rattle.qv_syntax.specs.declared.program.Var.{Var}
use Rattle.qv_syntax.specs.declared.program.Dom.{Dom}
use Rattle.qv_syntax.specs.declared.program.Conj.{Conj}
use Rattle.qv_syntax.specs.declared.program.Conj.TheVariants as conjuncts
use Rattle.qv_syntax.specs.Relations.{IsTargetDomain, IsUniversal}
use Rattle.qv_syntax.specs.Directions.{IsMeant}
use Rattle.qvtr_semantics.specs.declared.datum.Datum.{Datum}
use Rattle.qvtr_semantics.specs.declared.out.Out.{Out}
use Rattle.qvtr_semantics.specs.declared.out.Out.TheVariants as outs
use Rattle.qvtr_semantics.specs.Outs.{datum_of, boolean_of}
use Rattle.qvtr_semantics.specs.Equality.{is_known_true}
use Rattle.qvtr_semantics.specs.Data.{same_datum}
use Rattle.qvtr_semantics.specs.Expressions.{setting, value, variable, bound_value, value_for}
use Rattle.qvtr_semantics.specs.Templates.{Values, value_at}
use Rattle.qvtr_semantics.specs.Bindings.{is_value_for, have_values, is_target_domain, template_meets, target_meets, are_one, conjunct_holds, Target}
use Rattle.template_match.specs.Sources.{is_of_target, is_target_variable}
use Rattle.template_match.proofs.ValueLaws.{within_values}
use Rattle.ocl_eval.specs.OrderLaws.{same_decides}
use Rattle.evaluation_laws.proofs.SlotLaws.{variable_value}
use Rattle.mof_metamodel.proofs.Facts.{contains_at}
use Rattle.repair_semantics.specs.declared.term.Term.{Term}
use Rattle.repair_semantics.specs.declared.term.TermValue.{TermValue}
use Rattle.repair_semantics.specs.declared.term.TermValue.TheVariants as values
use Rattle.repair_semantics.specs.EntryValues.{TermValues, value_of, Known}
use Rattle.repair_semantics.specs.Making.{entry_known, entry_scope, equation_of}
use Rattle.repair_semantics.specs.Demands.{demands_where}
use Rattle.source_laws.specs.TargetRule.{IsExpressionOf}
use Rattle.source_laws.proofs.BindingLaws.{found_within, value_same, subject_outside}
use Rattle.source_laws.proofs.RuleLaws.{target_is}
use Rattle.reading_laws.specs.Readings.{Numbering, AllStand}
use Rattle.reading_laws.proofs.MeetingValues.{KindOf, kind_of, nothing_some, some_given, all_hold, within_terms, term_to, read_datum, read_term, read_from}
use Rattle.std.proofs.lemmas.Bool.{and_from}
use Rattle.reading_laws.proofs.MeetingObjects.{object_fits}
use Rattle.reading_laws.proofs.MeetingEntries.{term_is_target}
use Rattle.reading_laws.proofs.MeetingUnmet.{conjunct_met}
use Rattle.reading_laws.proofs.MeetingTypes.{equation_found, datum_universal, equation_allowed}
use Rattle.reading_laws.proofs.MeetingKnown.{IsMeeting, one_value, rule, keeps, given_kept, places, source_given, unbound, scopes_agree, expression_agrees, term_known, datum_known}
use Rattle.reading_laws.proofs.MeetingHolds.{template_matches}

same_itself : (d : Datum) → same_datum d d ≡ true
same_itself d = (same_decides d d).1 refl

module _ (metas : List MetaDesc) (program : Program) (sources models : List ModelData) (m : ModelData) (terms : List Term) (number : Numbering) (rel : Rel) (roots b : TermValues) (c g : Values)
    (p : IsMeeting metas program sources models m terms number rel roots b c g) where
  abbrev k : Known
  k = entry_known program sources rel b

  abbrev meant : IsMeant program p.place rel
  meant = p.over.evaluable.well.relations p.place rel p.found

  -- ---- existential variables

  not_universal : (v : ℕ) → v < length rel.vars → Contains rel.existential v → ¬ IsUniversal program rel v
  not_universal v below there = let (var, at) = found_within rel.vars v below in (meant.variables.existential v var at).0 there

  -- one that is none of the target has no value before
  none_before : (v : ℕ) → ¬ IsUniversal program rel v → is_target_variable program rel v ≡ false → value_of b v ≡ None
  none_before v existential outside = by (value_of b v) refl
    where
      universal_is : (d : Datum) → value_of b v ≡ Some (values.Val d) → IsUniversal program rel v
      universal_is d at =
          let below : v < length rel.vars = subst (λ n. v < n) p.source.places (within_terms b v (values.Val d) at) in
          let (var, there) = found_within rel.vars v below in
          (meant.variables.universal v var there).0
          (datum_universal metas program sources p.over.over_sources p.place rel p.found (keeps metas program sources models m terms number rel roots b c g p) roots b p.source p.own v d at)

      by_kind : (x : TermValue) → value_of b v ≡ Some x → KindOf x → value_of b v ≡ None
      by_kind x at (KindOf.datum d is) = absurd (existential (universal_is d (at ∙ ap (λ y. Some y) is)))
      by_kind x at (KindOf.term t is) = absurd (true≢false (sym (term_is_target metas program sources rel roots b p.source p.own v t (at ∙ ap (λ y. Some y) is)) ∙ outside))

      by : (o : Option TermValue) → value_of b v ≡ o → value_of b v ≡ None
      by None at = at
      by (Some x) at = by_kind x at (kind_of x)

  -- it may have the datum that its equation gives
  data_value : (v : ℕ) (var : Var) → v < length rel.vars → slice_get rel.vars v ≡ Some var → ¬ IsUniversal program rel v → is_target_variable program rel v ≡ false
      → is_value_for (setting program models) (Some var) (value_at g v) ≡ true
  data_value v var below at existential outside =
      let (d, known, scope_is) = datum_known metas program sources models m terms number rel roots b c g p v below outside in
      ap (is_value_for (setting program models) (Some var)) (read_datum program number k.values g p.made v d known)
      ∙ sym (value_same program sources models p.over.others (Some var) (Some d) (sym (ap (is_of_target program) at) ∙ outside))
      ∙ by d scope_is (equation_of rel.wheres v) refl
    where
      by : (d : Datum) → variable k.scope v ≡ outs.One d → (o : Option Typed) → equation_of rel.wheres v ≡ o → is_value_for (setting program sources) (Some var) (Some d) ≡ true
      by d scope_is None none =
          absurd (nothing_some d (sym (ap datum_of (unbound metas program sources models m terms number rel roots b c g p v below none (none_before v existential outside))) ∙ ap datum_of scope_is))
      by d scope_is (Some e) is =
          let (place, there) = equation_found rel.wheres v e is in
          let given : datum_of (value program sources e (entry_scope program sources rel b)) ≡ Some d =
          ap datum_of (sym (p.equations v e (contains_at rel.wheres place (conjuncts.Equation v e) there)) ∙ scope_is) in
          (equation_allowed metas program sources p.over.over_sources p.place rel p.found (keeps metas program sources models m terms number rel roots b c g p) roots b p.source p.own place v e var d there at given).allowed

  object_value : (v : ℕ) (var : Var) → v < length rel.vars → slice_get rel.vars v ≡ Some var → is_target_variable program rel v ≡ true
      → is_value_for (setting program models) (Some var) (value_at g v) ≡ true
  object_value v var below at target =
      let (t, known) = term_known metas program sources models m terms number rel roots b c g p v below target in
      let (n, num, here) = read_term program number k.values g p.made v t known in
      ap (is_value_for (setting program models) (Some var)) here
      ∙ object_fits metas program sources models m terms number p.over p.reading p.place rel p.found v var t n at (sym (ap (is_of_target program) at) ∙ target)
      (p.among.among v t (term_to k.values v t known)) num (λ class. p.among.typed v t class (term_to k.values v t known))

  existential_value : (v : ℕ) → Contains rel.existential v → is_value_for (setting program models) (slice_get rel.vars v) (value_at g v) ≡ true
  existential_value v there =
      let below = (p.over.evaluable.well.numbers.relations rel (contains_at program.rels p.place rel p.found)).vars.existential v there in
      let (var, at) = found_within rel.vars v below in
      ap (λ x. is_value_for (setting program models) x (value_at g v)) at ∙ by var below at (is_target_variable program rel v) refl
    where
      by : (var : Var) → v < length rel.vars → slice_get rel.vars v ≡ Some var → (x : Bool) → is_target_variable program rel v ≡ x → is_value_for (setting program models) (Some var) (value_at g v) ≡ true
      by var below at true target = object_value v var below at target
      by var below at false outside = data_value v var below at (not_universal v below there) outside

  -- ---- the where clause

  one_bound : (o : Option Datum) (d : Datum) → ◌≡◌ {A = Out} (bound_value o) (outs.One d) → o ≡ Some d
  one_bound None d h = absurd (nothing_some d (ap datum_of h))
  one_bound (Some e) d h = ap datum_of h

  holds : (x : Conj) → Contains rel.wheres x → conjunct_holds program models g x ≡ true
  holds (conjuncts.Cond e) there =
      let r = rule metas program sources models m terms number rel roots b c g p in
      let same = expression_agrees metas program sources models m terms number rel roots b c g p e (IsExpressionOf.conjunct (conjuncts.Cond e) (inr there) refl) (r.named (conjuncts.Cond e) e (inr there) refl) in
      ap (λ o. is_known_true (boolean_of o)) (sym same)
      ∙ not-false (is_known_true (boolean_of (value program sources e k.scope))) (conjunct_met program sources rel k p.met (conjuncts.Cond e) there)
  holds (conjuncts.Equation v e) there =
      let r = rule metas program sources models m terms number rel roots b c g p in
      let same = expression_agrees metas program sources models m terms number rel roots b c g p e (IsExpressionOf.conjunct (conjuncts.Equation v e) (inr there) refl) (r.named (conjuncts.Equation v e) e (inr there) refl) in
      let (d, given) = some_given (datum_of (value program sources e k.scope)) (conjunct_met program sources rel k p.met (conjuncts.Equation v e) there) in
      let scope_is = one_value (variable k.scope v) d (ap datum_of (p.equations v e there) ∙ given) in
      let outside : is_target_variable program rel v ≡ false = subject_outside program rel (λ w. ¬ IsUniversal program rel w) rel.wheres meant.variables meant.wheres v e there in
      let at : value_at g v ≡ Some d = one_bound (value_at g v) d
      (variable_value g v ∙ sym (scopes_agree metas program sources models m terms number rel roots b c g p v outside) ∙ scope_is) in
      ap (λ o. are_one o (datum_of (value_for program models e g))) at ∙ ap (λ o. are_one (Some d) (datum_of o)) (sym same) ∙ ap (are_one (Some d)) given ∙ same_itself d
  holds (conjuncts.Call n args) there = refl

  -- ---- the domain of the target

  module _ (entry : ℕ) (all : AllStand program m number (demands_where program sources entry rel k)) where
    domain_meets : (dom : Dom) → Contains rel.domains dom → target_meets program models g dom ≡ true
    domain_meets dom there = by (is_target_domain program dom) refl
      where
        by : (x : Bool) → is_target_domain program dom ≡ x → (not x || template_meets program models dom.template g) ≡ true
        by false outside = refl
        by true is =
            let of : IsTargetDomain program rel dom = record { is = there; target = target_is program.target dom.model is } in
            let (t, has, root) = (meant.domains.shaped dom there).shaped program.target of.target in
            ap (λ x. template_meets program models x g) has ∙ template_matches metas program sources models m terms number rel roots b c g p entry all dom of t has

    extends : (v : ℕ) (d : Datum) → value_at c v ≡ Some d → value_at g v ≡ Some d
    extends v d at =
        let (x, given, read) = read_from program number b c p.reads v d at in
        let (e, here, is_read) = p.made.given v x (given_kept metas program sources models m terms number rel roots b c g p v x given) in
        here ∙ sym is_read ∙ read

    no_others : (v : ℕ) (d : Datum) → value_at g v ≡ Some d → Contains rel.existential v ⊎ (value_at c v ≡ Some d)
    no_others v d at = by (value_of b v) refl
      where
        by : (o : Option TermValue) → value_of b v ≡ o → Contains rel.existential v ⊎ (value_at c v ≡ Some d)
        by (Some x) given =
            let (e, here, is_read) = p.reads.given v x given in
            let (f, there, also_read) = p.made.given v x (given_kept metas program sources models m terms number rel roots b c g p v x given) in
            inr (here ∙ sym is_read ∙ also_read ∙ sym there ∙ at)
        by None none =
            let below : v < length rel.vars = subst (λ n. v < n) (places metas program sources models m terms number rel roots b c g p) (within_values g v d at) in
            let (var, there) = found_within rel.vars v below in
            inl ((meant.variables.existential v var there).1 (λ universal. never ((meant.variables.universal v var there).1 universal) (is_target_variable program rel v) refl))
          where
            never : Contains rel.universal v → (x : Bool) → is_target_variable program rel v ≡ x → ⊥
            never universal true target = let (t, has) = p.source.terms v (record { universal = universal; target = target }) in nothing_some (values.Term t) (sym none ∙ has)
            never universal false outside =
                let (e, has) = source_given metas program sources models m terms number rel roots b c g p v universal outside in nothing_some (values.Val e) (sym none ∙ has)

    pub target_met : Target program models rel c g
    target_met = record {
      places = places metas program sources models m terms number rel roots b c g p;
      extends = extends;
      no_others = no_others;
      meets = and_from (have_values program models rel rel.existential g && list_all (target_meets program models g) rel.domains) (list_all (conjunct_holds program models g) rel.wheres)
          (and_from (have_values program models rel rel.existential g) (list_all (target_meets program models g) rel.domains)
          (all_hold (λ v. is_value_for (setting program models) (slice_get rel.vars v) (value_at g v)) rel.existential existential_value)
          (all_hold (target_meets program models g) rel.domains domain_meets))
          (all_hold (conjunct_holds program models g) rel.wheres holds);
    }
