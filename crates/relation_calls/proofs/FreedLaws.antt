-- A binding of a relation that meets its source with roots that a call gives, and its partner: with the values of the universal variables alone it
-- meets the source with free roots, and its partner is the same.
use Rattle.std.specs.Prelude.{◌≡◌, ◌⊎◌, ◌<◌, ◌≤◌, ◌+◌, ℕ, zero, suc, Bool, true, false, ◌&&◌, ◌||◌, ◌==◌, List, [], ◌∷◌, map, length, replicate, Option, None, Some, is_some, slice_get, slice_index_or, Contains, if◌then◌else◌}
use Rattle.std.specs.List.{list_all, list_any}
use Rattle.std.proofs.Common.{refl, sym, ap, subst, ◌∙◌, arith, inl, inr}
use Rattle.std.proofs.lemmas.Bool.{eq-eqb, eqb-true, true≢false}
use Rattle.std.proofs.lemmas.Bool.Decides.{leb_tells}
use Rattle.std.proofs.lemmas.Option.{slice_get_cases}
use Rattle.object_tables.specs.Models.{ModelData}
use Rattle.qv_syntax.specs.declared.program.Program.{Program}
use Rattle.qv_syntax.specs.declared.program.Rel.{Rel}
use Rattle.qv_syntax.specs.declared.program.Dom.{Dom}
use Rattle.qv_syntax.specs.declared.program.Conj.{Conj}
use Rattle.qv_syntax.specs.declared.program.Conj.TheVariants as conjuncts
use Rattle.qv_syntax.specs.declared.program.Tmpl.{Tmpl, out-Tmpl}
use Rattle.qv_syntax.specs.declared.typed.Typed.{Typed}
use Rattle.qv_syntax.specs.Parts.{Names}
use Rattle.qv_syntax.specs.Relations.{IsSourceDomain, IsUniversal, OccursInTemplates, OccursInClause}
use Rattle.qv_syntax.specs.Directions.{AreMeant, HasVariables}
use Rattle.qvtr_semantics.specs.declared.datum.Datum.{Datum}
use Rattle.qvtr_semantics.specs.Outs.{datum_of, boolean_of, all_given}
use Rattle.qvtr_semantics.specs.Equality.{is_known_true}
use Rattle.qvtr_semantics.specs.Expressions.{setting, value_for}
use Rattle.qvtr_semantics.specs.Templates.{Values, value_at}
use Rattle.qvtr_semantics.specs.Bindings.{is_model, is_value_for, have_values, is_target_domain, template_meets, source_meets, are_one, conjunct_holds, meets_source, Extends, Source, Target}
use Rattle.qvtr_semantics.specs.Calls.{free, call_with, call_of, calls_of}
use Rattle.template_match.specs.declared.side.Side.TheVariants as sides
use Rattle.template_match.specs.Ready.{is_known}
use Rattle.template_match.proofs.ListLaws.{any_from, any_at, contains_later}
use Rattle.template_match.proofs.ReadyLaws.{ready_from_known}
use Rattle.template_match.proofs.SideLaws.{meets_parts, valued}
use Rattle.template_match.proofs.ValueLaws.{not_some, within_values, ready_value, known_if}
use Rattle.mof_metamodel.proofs.Facts.{contains_first}
use Rattle.relation_calls.proofs.TemplateLaws.{template_same}

-- ---- lists of values

pub nothing_free : {X : Type 0} (n v : ℕ) (d : X) → slice_index_or (replicate n None) v None ≡ Some d → ⊥
nothing_free zero v d at = absurd (cc)
nothing_free (suc n) zero d at = absurd (cc)
nothing_free (suc n) (suc v) d at = nothing_free n v d at

nothing_past : (b : Values) (v : ℕ) → length b ≤ v → value_at b v ≡ None
nothing_past [] v past = refl
nothing_past (x ∷ b) zero past = absurd (omega (arith, past))
nothing_past (x ∷ b) (suc v) past = nothing_past b v (omega (arith, past))

has : List ℕ → ℕ → Bool
has vars v = list_any (λ w. w == v) vars

has_if : (vars : List ℕ) (v : ℕ) → Contains vars v → has vars v ≡ true
unfolding has
has_if vars v c = any_at (λ w. w == v) vars v (eq-eqb v v refl) c

has_only : (vars : List ℕ) (v : ℕ) → has vars v ≡ true → Contains vars v
unfolding has
has_only vars v h = let (w, c, same) = any_from (λ w. w == v) vars h in subst (Contains vars) (eqb-true w v same) c

-- the values of these variables alone, from the place k on
pub kept : List ℕ → ℕ → Values → Values
kept vars k [] = []
kept vars k (x ∷ xs) = (if has vars k then x else None) ∷ kept vars (suc k) xs

kept_long : (vars : List ℕ) (k : ℕ) (xs : Values) → length (kept vars k xs) ≡ length xs
unfolding kept
kept_long vars k [] = refl
kept_long vars k (x ∷ xs) = ap suc (kept_long vars (suc k) xs)

kept_in : (vars : List ℕ) (k : ℕ) (xs : Values) (v n : ℕ) → n ≡ k + v → Contains vars n → value_at (kept vars k xs) v ≡ value_at xs v
unfolding kept
kept_in vars k [] v n is c = refl
kept_in vars k (x ∷ xs) zero n is c = let same : n ≡ k = omega (arith, is) in ap (λ (t : Bool). if t then x else None) (has_if vars k (subst (Contains vars) same c))
kept_in vars k (x ∷ xs) (suc v) n is c = kept_in vars (suc k) xs v n (omega (arith, is)) c

kept_from : (vars : List ℕ) (k : ℕ) (xs : Values) (v n : ℕ) → n ≡ k + v → (d : Datum) → value_at (kept vars k xs) v ≡ Some d → Contains vars n × (value_at xs v ≡ Some d)
unfolding kept
kept_from vars k [] v n is d at = absurd (not_some d at)
kept_from vars k (x ∷ xs) zero n is d at = by (has vars k) refl at
  where
    same : n ≡ k
    same = omega (arith, is)

    by : (t : Bool) → has vars k ≡ t → (if t then x else None) ≡ Some d → Contains vars n × (x ≡ Some d)
    by true h e = (subst (Contains vars) (sym same) (has_only vars k h), e)
    by false h e = absurd (not_some d e)
kept_from vars k (x ∷ xs) (suc v) n is d at = kept_from vars (suc k) xs v n (omega (arith, is)) d at

-- ---- tests

or_same : (t x y : Bool) → (t ≡ false → x ≡ y) → (t || x) ≡ (t || y)
or_same true x y h = refl
or_same false x y h = h refl

all_alike : {X : Type 0} (p q : X → Bool) (xs : List X) → ((x : X) → Contains xs x → p x ≡ q x) → list_all p xs ≡ list_all q xs
all_alike p q [] h = refl
all_alike p q (x ∷ xs) h = ap (λ y. y && list_all p xs) (h x (contains_first x xs)) ∙ ap (λ y. q x && y) (all_alike p q xs (λ y c. h y (contains_later y x xs c)))

module _ (program : Program) (models : List ModelData) (meant : AreMeant program) (number : ℕ) (rel : Rel) (found : slice_get program.rels number ≡ Some rel)
    (roots b g : Values) (source : Source program models rel roots b) (target : Target program models rel b g)
  where
    abbrev pub freed : Values
    freed = kept rel.universal 0 b

    variables : HasVariables program rel
    variables = (meant number rel found).variables

    long : length freed ≡ length b
    long = kept_long rel.universal 0 b

    in_universal : (v : ℕ) → Contains rel.universal v → value_at freed v ≡ value_at b v
    in_universal v c = kept_in rel.universal 0 b v v (omega arith) c

    extends : Extends freed b
    extends v d at = (kept_from rel.universal 0 b v v (omega arith) d at).1

    universal_in : (v : ℕ) → v < length rel.vars → IsUniversal program rel v → Contains rel.universal v
    universal_in v within is = elim ((slice_get_cases rel.vars v).1) [
      | inl there ↦ (variables.universal v there.0 there.2).1 is
      | inr past ↦ (let p = past.0 in absurd (omega (arith, p, within)))
    ]

    same_at : (v : ℕ) → IsUniversal program rel v → value_at freed v ≡ value_at b v
    same_at v is = elim (leb_tells (length b) v) [
      | inl past ↦ (let p = past.1 in nothing_past freed v (omega (arith, p, long)) ∙ sym (nothing_past b v p))
      | inr within ↦ (let w = within.1 in let places = source.places in in_universal v (universal_in v (omega (arith, w, places)) is))
    ]

    known : (v : ℕ) → IsUniversal program rel v → is_known freed v ≡ true
    known v is = known_if freed v (λ within.
        let places = source.places in
        let c : Contains rel.universal v = universal_in v (omega (arith, within, long, places)) is in
        let val = valued program models rel rel.universal b v (meets_parts sides.Source rel.universal program models rel b source.meets).have c in
        ap is_some (in_universal v c ∙ val.at))

    value_same : (e : Typed) → ((v : ℕ) → Names e v → IsUniversal program rel v) → value_for program models e freed ≡ value_for program models e b
    value_same e named = ready_value program models e freed b long extends (ready_from_known freed e (λ v names. known v (named v names)))

    -- ---- the source is met

    of_source : (dom : Dom) → Contains rel.domains dom → is_target_domain program dom ≡ false → IsSourceDomain program rel dom
    of_source dom c outside =
        record { is = c; source = λ is. true≢false (sym (eq-eqb program.target program.target refl) ∙ sym (ap (λ m. is_model m program.target) is) ∙ outside) }

    template_kept : (dom : Dom) → Contains rel.domains dom → is_target_domain program dom ≡ false → (o : Option Tmpl) → dom.template ≡ o
        → template_meets program models o freed ≡ template_meets program models o b
    template_kept dom c outside None is = refl
    template_kept dom c outside (Some t) is =
        let own = of_source dom c outside in
        template_same program models freed b t
        (λ inner nested. same_at (out-Tmpl inner).var (IsUniversal.domain dom own (OccursInTemplates.template inner (record { root = t; has = is; nested = nested }) refl)))
        (λ inner item e nested has_item expression. value_same e (λ v names. IsUniversal.domain dom own
        (OccursInTemplates.item e (record { item = item; of = record { template = inner; of = record { root = t; has = is; nested = nested }; has = has_item }; is = expression }) names)))

    domain_kept : (dom : Dom) → Contains rel.domains dom → source_meets program models freed dom ≡ source_meets program models b dom
    domain_kept dom c =
        or_same (is_target_domain program dom) (template_meets program models dom.template freed) (template_meets program models dom.template b)
        (λ outside. template_kept dom c outside dom.template refl)

    conjunct_kept : (x : Conj) → Contains rel.whens x → conjunct_holds program models freed x ≡ conjunct_holds program models b x
    conjunct_kept (conjuncts.Cond e) c =
        ap (λ o. is_known_true (boolean_of o)) (value_same e (λ v names. IsUniversal.when (OccursInClause.expression (conjuncts.Cond e) e c refl names)))
    conjunct_kept (conjuncts.Equation v e) c =
        ap (λ x. are_one x (datum_of (value_for program models e freed))) (same_at v (IsUniversal.when (OccursInClause.subject (conjuncts.Equation v e) c refl)))
        ∙ ap (λ o. are_one (value_at b v) (datum_of o)) (value_same e (λ w names. IsUniversal.when (OccursInClause.expression (conjuncts.Equation v e) e c refl names)))
    conjunct_kept (conjuncts.Call called args) c = refl

    meets_kept : meets_source program models rel freed ≡ meets_source program models rel b
    meets_kept =
        let have : have_values program models rel rel.universal freed ≡ have_values program models rel rel.universal b =
        all_alike (λ v. is_value_for (setting program models) (slice_get rel.vars v) (value_at freed v)) (λ v. is_value_for (setting program models) (slice_get rel.vars v) (value_at b v)) rel.universal
        (λ v c. ap (is_value_for (setting program models) (slice_get rel.vars v)) (in_universal v c)) in
        let domains : list_all (source_meets program models freed) rel.domains ≡ list_all (source_meets program models b) rel.domains =
        all_alike (source_meets program models freed) (source_meets program models b) rel.domains domain_kept in
        let clause : list_all (conjunct_holds program models freed) rel.whens ≡ list_all (conjunct_holds program models b) rel.whens =
        all_alike (conjunct_holds program models freed) (conjunct_holds program models b) rel.whens conjunct_kept in
        ap (λ x. x && list_all (source_meets program models freed) rel.domains && list_all (conjunct_holds program models freed) rel.whens) have
        ∙ ap (λ x. have_values program models rel rel.universal b && x && list_all (conjunct_holds program models freed) rel.whens) domains
        ∙ ap (λ x. have_values program models rel rel.universal b && list_all (source_meets program models b) rel.domains && x) clause

    pub freed_source : Source program models rel (free rel) freed
    freed_source =
        record {
          places = long ∙ source.places;
          extends = λ v d at. absurd (nothing_free (length rel.vars) v d at);
          no_others = λ v d at. inl (kept_from rel.universal 0 b v v (omega arith) d at).0;
          meets = meets_kept ∙ source.meets;
        }

    -- ---- its calls are the same

    abbrev given_by : Values → Typed → Option Datum
    given_by x e = datum_of (value_for program models e x)

    args_kept : (args : List Typed) → ((e : Typed) → Contains args e → (v : ℕ) → Names e v → IsUniversal program rel v) → map (given_by freed) args ≡ map (given_by b) args
    args_kept [] named = refl
    args_kept (e ∷ es) named =
        ap (λ x. x ∷ map (given_by freed) es) (ap datum_of (value_same e (named e (contains_first e es))))
        ∙ ap (λ xs. given_by b e ∷ xs) (args_kept es (λ x c. named x (contains_later x e es c)))

    call_kept : (called : ℕ) (args : List Typed) → Contains rel.whens (conjuncts.Call called args) → call_of program models freed called args ≡ call_of program models b called args
    call_kept called args c =
        ap (λ ds. call_with called (slice_get program.rels called) (all_given ds))
        (args_kept args (λ e within v names. IsUniversal.when (OccursInClause.expression (conjuncts.Call called args) e c within names)))

    calls_kept : (clause : List Conj) → ((x : Conj) → Contains clause x → Contains rel.whens x) → calls_of program models freed clause ≡ calls_of program models b clause
    calls_kept [] within = refl
    calls_kept (conjuncts.Cond e ∷ cs) within = calls_kept cs (λ x c. within x (contains_later x (conjuncts.Cond e) cs c))
    calls_kept (conjuncts.Equation v e ∷ cs) within = calls_kept cs (λ x c. within x (contains_later x (conjuncts.Equation v e) cs c))
    calls_kept (conjuncts.Call called args ∷ cs) within =
        ap (λ x. x ∷ calls_of program models freed cs) (call_kept called args (within (conjuncts.Call called args) (contains_first (conjuncts.Call called args) cs)))
        ∙ ap (λ xs. call_of program models b called args ∷ xs) (calls_kept cs (λ x c. within x (contains_later x (conjuncts.Call called args) cs c)))

    pub freed_calls : calls_of program models freed rel.whens ≡ calls_of program models b rel.whens
    freed_calls = calls_kept rel.whens (λ x c. c)

    -- ---- the partner is the same

    pub freed_target : Target program models rel freed g
    freed_target = record { places = target.places; extends = λ v d at. target.extends v d (extends v d at); no_others = no_others; meets = target.meets }
      where
        own : (v : ℕ) (d : Datum) → value_at b v ≡ Some d → (t : Bool) → has rel.universal v ≡ t → Contains rel.existential v ⊎ (value_at freed v ≡ Some d)
        own v d at true h = inr (in_universal v (has_only rel.universal v h) ∙ at)
        own v d at false h =
            let within = within_values b v d at in
            let places = source.places in
            elim ((slice_get_cases rel.vars v).1) [
              | inl there ↦ inl ((variables.existential v there.0 there.2).1 (λ is. true≢false (sym (has_if rel.universal v ((variables.universal v there.0 there.2).1 is)) ∙ h)))
              | inr past ↦ (let p = past.0 in absurd (omega (arith, p, within, places)))
            ]

        no_others : (v : ℕ) (d : Datum) → value_at g v ≡ Some d → Contains rel.existential v ⊎ (value_at freed v ≡ Some d)
        no_others v d at = elim (target.no_others v d at) [
          | inl existential ↦ inl existential
          | inr before ↦ own v d before (has rel.universal v) refl
        ]
