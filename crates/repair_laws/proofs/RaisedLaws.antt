-- A binding of a relation with its partner, with free roots, is one with the roots that a call gives, where the partner has these: the roots that
-- the binding lacks are added to it.
use Rattle.std.specs.Prelude.{◌≡◌, ◌≢◌, ◌⊎◌, ◌<◌, ◌≤◌, ℕ, zero, suc, true, false, ◌&&◌, not, ◌==◌, List, [], ◌∷◌, map, length, replicate, Option, None, Some, slice_get, Contains}
use Rattle.std.specs.List.{list_all}
use Rattle.std.specs.Option.{option_or}
use Rattle.std.proofs.Common.{refl, ap, sym, ◌∙◌, subst, arith, inl, inr, true≢false}
use Rattle.std.proofs.lemmas.Bool.{and_parts}
use Rattle.std.proofs.lemmas.Bool.Decides.{nat_tests}
use Rattle.mof_metamodel.specs.declared.desc.MetaDesc.{MetaDesc}
use Rattle.object_tables.specs.Models.{ModelData}
use Rattle.object_tables.proofs.ListLemmas.{map-same_all, Contains-filter}
use Rattle.qv_syntax.specs.declared.program.Program.{Program}
use Rattle.qv_syntax.specs.declared.program.Rel.{Rel}
use Rattle.qv_syntax.specs.declared.program.Var.{Var}
use Rattle.qv_syntax.specs.declared.program.Dom.{Dom}
use Rattle.qv_syntax.specs.declared.program.Conj.{Conj}
use Rattle.qv_syntax.specs.declared.program.Conj.TheVariants as conjuncts
use Rattle.qv_syntax.specs.declared.typed.Typed.{Typed}
use Rattle.qv_syntax.specs.Parts.{Names, IsNested}
use Rattle.qv_syntax.specs.Relations.{IsModelDomain, IsTemplateOf, IsUniversal, OccursInTemplates, OccursInClause}
use Rattle.qv_syntax.specs.WellFormed.{IsWellFormed}
use Rattle.qvtr_semantics.specs.declared.datum.Datum.{Datum}
use Rattle.qvtr_semantics.specs.declared.out.Out.TheVariants as outs
use Rattle.qvtr_semantics.specs.Outs.{datum_of, all_given}
use Rattle.qvtr_semantics.specs.Expressions.{variable, scope_of, bound_value, setting, queries_within, value_for}
use Rattle.qvtr_semantics.specs.Templates.{Values, value_at}
use Rattle.qvtr_semantics.specs.Bindings.{is_model, is_value_for, have_values, source_meets, conjunct_holds, Source, Target}
use Rattle.qvtr_semantics.specs.Calls.{free, call_with, call_of, calls_of}
use Rattle.template_match.specs.Sources.{is_of_target, is_target_variable, source_variables, meets_without_target}
use Rattle.template_match.specs.Ready.{is_known}
use Rattle.template_match.proofs.ListLaws.{contains_later, list_all_at}
use Rattle.mof_metamodel.proofs.Facts.{contains_first}
use Rattle.template_match.proofs.ReadyLaws.{ready_from_known}
use Rattle.template_match.proofs.SteadyLaws.{steady}
use Rattle.source_laws.specs.SourceRelations.{KeepsToSources, AgreeOnSources}
use Rattle.source_laws.proofs.BindingLaws.{all_same, found_within, meets_same}
use Rattle.source_laws.proofs.RuleLaws.{model_domain}
use Rattle.std.proofs.lemmas.Option.{same_Some}

none_some : {X : Type 0} (x : X) → ◌≡◌ {A = Option X} None (Some x) → ⊥
none_some x h = cc

-- ---- values, and others where there are none

pub over : Values → Values → Values
over [] r = []
over (x ∷ c) [] = x ∷ c
over (x ∷ c) (y ∷ r) = option_or x y ∷ over c r

over_at : (c r : Values) (v : ℕ) → length r ≡ length c → value_at (over c r) v ≡ option_or (value_at c v) (value_at r v)
unfolding over
over_at [] [] v long = refl
over_at [] (y ∷ r) v long = absurd (omega (arith, long))
over_at (x ∷ c) [] v long = absurd (omega (arith, long))
over_at (x ∷ c) (y ∷ r) zero long = refl
over_at (x ∷ c) (y ∷ r) (suc v) long = over_at c r v (omega (arith, long))

over_long : (c r : Values) → length (over c r) ≡ length c
unfolding over
over_long [] r = refl
over_long (x ∷ c) [] = refl
over_long (x ∷ c) (y ∷ r) = ap suc (over_long c r)

scope_at : (b : Values) (v : ℕ) → variable (scope_of b) v ≡ bound_value (value_at b v)
scope_at [] v = refl
scope_at (x ∷ b) zero = refl
scope_at (x ∷ b) (suc v) = scope_at b v

scope_long : (b : Values) → length (scope_of b) ≡ length b
scope_long [] = refl
scope_long (x ∷ b) = ap suc (scope_long b)

-- what is known has a value, or is no variable of the binding
known_at : (c : Values) (v : ℕ) → is_known c v ≡ true → ((d : Datum) × (value_at c v ≡ Some d)) ⊎ (length c ≤ v)
known_at [] v h = inr (omega arith)
known_at (None ∷ c) zero h = absurd (true≢false (sym h))
known_at (Some d ∷ c) zero h = inl (d, refl)
known_at (x ∷ c) (suc v) h = by (known_at c v h)
  where
    by : ((d : Datum) × (value_at c v ≡ Some d)) ⊎ (length c ≤ v) → ((d : Datum) × (value_at c v ≡ Some d)) ⊎ (length (x ∷ c) ≤ suc v)
    by (inl found) = inl found
    by (inr past) = inr (omega (arith, past))

is_known_there : (c : Values) (v : ℕ) → (v < length c → (d : Datum) × (value_at c v ≡ Some d)) → is_known c v ≡ true
is_known_there [] v h = refl
is_known_there (None ∷ c) zero h = absurd (none_some (h (omega arith)).0 (h (omega arith)).1)
is_known_there (Some d ∷ c) zero h = refl
is_known_there (x ∷ c) (suc v) h = is_known_there c v (λ l. h (omega (arith, l)))

nothing_past : (b : Values) (v : ℕ) → length b ≤ v → value_at b v ≡ None
nothing_past [] v l = refl
nothing_past (x ∷ b) zero l = absurd (omega (arith, l))
nothing_past (x ∷ b) (suc v) l = nothing_past b v (omega (arith, l))

module _ (metas : List MetaDesc) (program : Program) (models : List ModelData) (well : IsWellFormed metas program) (place : ℕ) (rel : Rel) (found : slice_get program.rels place ≡ Some rel)
    (keeps : KeepsToSources program rel) (r c g : Values) (source : Source program models rel (free rel) c) (target : Target program models rel c g) (long : length r ≡ length c)
    (roots : (v : ℕ) (d : Datum) → value_at r v ≡ Some d → (dom : Dom) × Contains rel.domains dom × (dom.root ≡ v))
    (agree : (v : ℕ) (d : Datum) → value_at r v ≡ Some d → value_at g v ≡ Some d)
  where
    abbrev pub b : Values
    b = over c r

    at_value : (v : ℕ) (d : Datum) → value_at c v ≡ Some d → value_at b v ≡ Some d
    at_value v d at = over_at c r v long ∙ ap (λ x. option_or x (value_at r v)) at

    at_none : (v : ℕ) → value_at c v ≡ None → value_at b v ≡ value_at r v
    at_none v at = over_at c r v long ∙ ap (λ x. option_or x (value_at r v)) at

    -- ---- universal variables

    sources_met : (have_values program models rel rel.universal c ≡ true) × (list_all (source_meets program models c) rel.domains ≡ true) × (list_all (conjunct_holds program models c) rel.whens ≡ true)
    sources_met =
        let outer = and_parts (have_values program models rel rel.universal c && list_all (source_meets program models c) rel.domains) (list_all (conjunct_holds program models c) rel.whens) source.meets in
        let inner = and_parts (have_values program models rel rel.universal c) (list_all (source_meets program models c) rel.domains) outer.0 in
        (inner.0, inner.1, outer.1)

    universal_at : (v : ℕ) → Contains rel.universal v → (d : Datum) × (value_at c v ≡ Some d)
    universal_at v has =
        by (slice_get rel.vars v) (value_at c v) refl (list_all_at (λ w. is_value_for (setting program models) (slice_get rel.vars w) (value_at c w)) rel.universal v sources_met.0 has)
      where
        by : (var : Option Var) (o : Option Datum) → value_at c v ≡ o → is_value_for (setting program models) var o ≡ true → (d : Datum) × (value_at c v ≡ Some d)
        by var (Some d) at h = (d, at)
        by None None at h = absurd (true≢false (sym h))
        by (Some var) None at h = absurd (true≢false (sym h))

    same_universal : (v : ℕ) → Contains rel.universal v → value_at b v ≡ value_at c v
    same_universal v has = let own = universal_at v has in at_value v own.0 own.1 ∙ sym own.1

    universal_in : (v : ℕ) → v < length rel.vars → IsUniversal program rel v → Contains rel.universal v
    universal_in v within is = let var = found_within rel.vars v within in ((well.relations place rel found).variables.universal v var.0 var.1).1 is

    -- ---- roots of domains

    root_of_target : (dom : Dom) → Contains rel.domains dom → dom.model ≡ Some program.target → is_target_variable program rel dom.root ≡ true
    root_of_target dom has is =
        let domains = (well.relations place rel found).domains in
        let shaped = (domains.shaped dom has).shaped program.target is in
        let of : IsTemplateOf dom shaped.0 = record { root = shaped.0; has = shaped.1; nested = IsNested.whole shaped.0 } in
        let d : IsModelDomain program rel dom = model_domain metas program well place rel found dom shaped.0 has of in
        let declared = domains.declared dom d shaped.0 of in
        let model : d.model ≡ program.target = same_Some d.model program.target (sym d.of_model ∙ is) in
        let one : (program.target == program.target) ≡ true = grind (arith, nat_tests) in
        ap (is_target_variable program rel) (sym shaped.2) ∙ ap (is_of_target program) declared.found ∙ ap (λ m. is_model m program.target) (declared.of_model ∙ ap (λ m. Some m) model) ∙ one

    root_is_universal : (dom : Dom) → Contains rel.domains dom → is_target_variable program rel dom.root ≡ false → IsUniversal program rel dom.root
    root_is_universal dom has outside =
        IsUniversal.domain dom (record { is = has; source = λ is. true≢false (sym (root_of_target dom has is) ∙ outside) }) (OccursInTemplates.root refl)

    within_vars : (v : ℕ) (d : Datum) → value_at r v ≡ Some d → v < length rel.vars
    within_vars v d at = by (found_in r v d at)
      where
        found_in : (xs : Values) (k : ℕ) (e : Datum) → value_at xs k ≡ Some e → k < length xs
        found_in [] k e is = absurd (none_some e is)
        found_in (x ∷ xs) zero e is = omega arith
        found_in (x ∷ xs) (suc k) e is = let more = found_in xs k e is in omega (arith, more)

        by : v < length r → v < length rel.vars
        by l = subst (λ n. v < n) (long ∙ source.places) l

    outside_same : (v : ℕ) → is_target_variable program rel v ≡ false → value_at b v ≡ value_at c v
    outside_same v outside = by (value_at c v) refl (value_at r v) refl
      where
        by : (o : Option Datum) → value_at c v ≡ o → (p : Option Datum) → value_at r v ≡ p → value_at b v ≡ value_at c v
        by (Some d) at p given = at_value v d at ∙ sym at
        by None at None given = at_none v at ∙ given ∙ sym at
        by None at (Some d) given =
            let (dom, has, root) = roots v d given in
            let universal : IsUniversal program rel v = subst (IsUniversal program rel) root (root_is_universal dom has (ap (is_target_variable program rel) root ∙ outside)) in
            let own = universal_at v (universal_in v (within_vars v d given) universal) in
            absurd (none_some own.0 (sym at ∙ own.1))

    -- ---- the source is met

    on_sources : AgreeOnSources program rel b c
    on_sources = record { places = over_long c r; same = outside_same }

    pub places : length b ≡ length rel.vars
    places = over_long c r ∙ source.places

    have_some : (vs : List ℕ) → ((v : ℕ) → Contains vs v → Contains rel.universal v) → have_values program models rel vs c ≡ true
    have_some [] within = refl
    have_some (v ∷ vs) within =
        let here : is_value_for (setting program models) (slice_get rel.vars v) (value_at c v) ≡ true =
        list_all_at (λ w. is_value_for (setting program models) (slice_get rel.vars w) (value_at c w)) rel.universal v sources_met.0 (within v (contains_first v vs)) in
        ap (λ x. x && have_values program models rel vs c) here ∙ have_some vs (λ w k. within w (contains_later w v vs k))

    without_met : meets_without_target program models rel b ≡ true
    without_met =
        meets_same program models models (λ m other. refl) place rel well.relations found keeps b c on_sources places
        ∙ ap (λ x. x && list_all (source_meets program models c) rel.domains && list_all (conjunct_holds program models c) rel.whens)
        (have_some (source_variables program rel) (λ v k. Contains-filter (λ w. not (is_target_variable program rel w)) rel.universal v k))
        ∙ ap (λ x. x && list_all (conjunct_holds program models c) rel.whens) sources_met.1 ∙ sources_met.2

    source_met : have_values program models rel rel.universal b && list_all (source_meets program models b) rel.domains && list_all (conjunct_holds program models b) rel.whens ≡ true
    source_met =
        let outer = and_parts (have_values program models rel (source_variables program rel) b && list_all (source_meets program models b) rel.domains)
        (list_all (conjunct_holds program models b) rel.whens) without_met in
        let inner = and_parts (have_values program models rel (source_variables program rel) b) (list_all (source_meets program models b) rel.domains) outer.0 in
        let have : have_values program models rel rel.universal b ≡ true =
        all_same (λ v. is_value_for (setting program models) (slice_get rel.vars v) (value_at b v)) (λ v. is_value_for (setting program models) (slice_get rel.vars v) (value_at c v)) rel.universal
        (λ v has. ap (is_value_for (setting program models) (slice_get rel.vars v)) (same_universal v has)) ∙ sources_met.0 in
        ap (λ x. x && list_all (source_meets program models b) rel.domains && list_all (conjunct_holds program models b) rel.whens) have
        ∙ ap (λ x. x && list_all (conjunct_holds program models b) rel.whens) inner.1 ∙ outer.1

    raised_no_others : (v : ℕ) (d : Datum) → value_at b v ≡ Some d → Contains rel.universal v ⊎ (value_at r v ≡ Some d)
    raised_no_others v d at = by (value_at c v) refl
      where
        nothing_free : (n k : ℕ) (e : Datum) → value_at (replicate n None) k ≡ Some e → ⊥
        nothing_free zero k e is = none_some e is
        nothing_free (suc n) zero e is = none_some e is
        nothing_free (suc n) (suc k) e is = nothing_free n k e is

        own : (e : Datum) → Contains rel.universal v ⊎ (value_at (free rel) v ≡ Some e) → Contains rel.universal v
        own e (inl has) = has
        own e (inr is) = absurd (nothing_free (length rel.vars) v e is)

        by : (o : Option Datum) → value_at c v ≡ o → Contains rel.universal v ⊎ (value_at r v ≡ Some d)
        by (Some e) is = inl (own e (source.no_others v e is))
        by None is = inr (sym (at_none v is) ∙ at)

    raised_extends : (v : ℕ) (d : Datum) → value_at r v ≡ Some d → value_at b v ≡ Some d
    raised_extends v d at = by (value_at c v) refl
      where
        by : (o : Option Datum) → value_at c v ≡ o → value_at b v ≡ Some d
        by (Some e) is = at_value v e is ∙ sym (target.extends v e is) ∙ agree v d at
        by None is = at_none v is ∙ at

    pub raised_source : Source program models rel r b
    raised_source = record { places = places; extends = raised_extends; no_others = raised_no_others; meets = source_met }

    -- ---- the target

    pub raised_target : Target program models rel b g
    raised_target = record { places = target.places; extends = extends; no_others = no_others; meets = target.meets }
      where
        extends : (v : ℕ) (d : Datum) → value_at b v ≡ Some d → value_at g v ≡ Some d
        extends v d at = by (value_at c v) refl
          where
            by : (o : Option Datum) → value_at c v ≡ o → value_at g v ≡ Some d
            by (Some e) is = target.extends v e is ∙ sym (at_value v e is) ∙ at
            by None is = agree v d (sym (at_none v is) ∙ at)

        no_others : (v : ℕ) (d : Datum) → value_at g v ≡ Some d → Contains rel.existential v ⊎ (value_at b v ≡ Some d)
        no_others v d at = by (target.no_others v d at)
          where
            by : Contains rel.existential v ⊎ (value_at c v ≡ Some d) → Contains rel.existential v ⊎ (value_at b v ≡ Some d)
            by (inl has) = inl has
            by (inr is) = inr (at_value v d is)

    -- ---- calls in the when clause

    value_same : (e : Typed) → ((n : ℕ) → Names e n → n < length c → (d : Datum) × (value_at c n ≡ Some d)) → value_for program models e b ≡ value_for program models e c
    value_same e named =
        steady (setting program models) (queries_within program.queries (setting program models) (length program.queries)) c e
        (ready_from_known c e (λ n names. is_known_there c n (named n names))) (scope_of b) (scope_of c) (scope_long b ∙ over_long c r ∙ sym (scope_long c)) (λ n known. by n (known_at c n known))
      where
        by : (n : ℕ) → ((d : Datum) × (value_at c n ≡ Some d)) ⊎ (length c ≤ n) → variable (scope_of b) n ≡ variable (scope_of c) n
        by n (inl own) = scope_at b n ∙ ap bound_value (at_value n own.0 own.1 ∙ sym own.1) ∙ sym (scope_at c n)
        by n (inr past) =
            scope_at b n ∙ ap bound_value (nothing_past b n (subst (λ k. k ≤ n) (sym (over_long c r)) past) ∙ sym (nothing_past c n past)) ∙ sym (scope_at c n)

    argument_same : (number : ℕ) (args : List Typed) (e : Typed) → Contains rel.whens (conjuncts.Call number args) → Contains args e → value_for program models e b ≡ value_for program models e c
    argument_same number args e call has =
        value_same e (λ n names within.
        universal_at n (universal_in n (subst (λ k. n < k) source.places within) (IsUniversal.when (OccursInClause.expression (conjuncts.Call number args) e call has names))))

    calls_same : (cs : List Conj) → ((x : Conj) → Contains cs x → Contains rel.whens x) → calls_of program models b cs ≡ calls_of program models c cs
    calls_same [] within = refl
    calls_same (conjuncts.Call number args ∷ cs) within =
        let same : map (λ e. datum_of (value_for program models e b)) args ≡ map (λ e. datum_of (value_for program models e c)) args =
        map-same_all (λ e. datum_of (value_for program models e b)) (λ e. datum_of (value_for program models e c)) args
        (λ e has. ap datum_of (argument_same number args e (within (conjuncts.Call number args) (contains_first (conjuncts.Call number args) cs)) has)) in
        ap (λ ds. call_with number (slice_get program.rels number) (all_given ds) ∷ calls_of program models b cs) same
        ∙ ap (λ ks. call_of program models c number args ∷ ks) (calls_same cs (λ x k. within x (contains_later x (conjuncts.Call number args) cs k)))
    calls_same (conjuncts.Cond e ∷ cs) within = calls_same cs (λ x k. within x (contains_later x (conjuncts.Cond e) cs k))
    calls_same (conjuncts.Equation v e ∷ cs) within = calls_same cs (λ x k. within x (contains_later x (conjuncts.Equation v e) cs k))

    pub raised_calls : calls_of program models b rel.whens ≡ calls_of program models c rel.whens
    raised_calls = calls_same rel.whens (λ x k. k)
