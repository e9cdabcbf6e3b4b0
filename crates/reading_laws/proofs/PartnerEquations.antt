-- The data of an entry are those of its partner: the equations of where give both the same values, each after those that its expression names.
use Rattle.std.specs.Prelude.{◌≡◌, ◌≢◌, ◌<◌, ◌⊎◌, ℕ, zero, suc, Bool, true, false, ◌==◌, List, [], ◌∷◌, length, Option, None, Some, slice_get, Contains, if◌then◌else◌}
use Rattle.std.specs.Option.{option_and_then}
use Rattle.std.proofs.Common.{refl, sym, ap, subst, ◌∙◌, arith, inl, inr}
use Rattle.std.proofs.lemmas.Bool.{true≢false, eqb-true, cases_lt}
use Rattle.std.proofs.lemmas.List.{get_or_past, length-map}
use Rattle.std.proofs.lemmas.List.FromFn.{length-map-range_with_len, get_or-map-range_with_len}
use Rattle.mof_metamodel.specs.declared.desc.MetaDesc.{MetaDesc}
use Rattle.mof_metamodel.specs.declared.desc.ClassId.{ClassId}
use Rattle.object_tables.specs.Models.{ModelData}
use Rattle.qv_syntax.specs.declared.ty.Ty.TheVariants as types
use Rattle.qv_syntax.specs.declared.program.Program.{Program}
use Rattle.qv_syntax.specs.declared.program.Rel.{Rel}
use Rattle.qv_syntax.specs.declared.program.Var.{Var}
use Rattle.qv_syntax.specs.declared.program.Conj.{Conj}
use Rattle.qv_syntax.specs.declared.program.Conj.TheVariants as conjuncts
use Rattle.qv_syntax.specs.declared.typed.Typed.{Typed}
use Rattle.qv_syntax.specs.Parts.{Names}
use Rattle.qv_syntax.specs.Relations.{IsUniversal}
use Rattle.qvtr_semantics.specs.declared.datum.Datum.{Datum}
use Rattle.qvtr_semantics.specs.declared.out.Out.{Out}
use Rattle.qvtr_semantics.specs.declared.out.Out.TheVariants as outs
use Rattle.qvtr_semantics.specs.Outs.{datum_of}
use Rattle.qvtr_semantics.specs.Data.{same_datum}
use Rattle.qvtr_semantics.specs.Bindings.{are_one, conjunct_holds}
use Rattle.qvtr_semantics.specs.Expressions.{Scope, variable, bound_value, scope_of, value, value_for}
use Rattle.qvtr_semantics.specs.Templates.{Values, value_at}
use Rattle.ocl_eval.specs.OrderLaws.{same_decides}
use Rattle.template_match.specs.Sources.{is_target_variable}
use Rattle.template_match.proofs.ListLaws.{contains_later, list_all_at}
use Rattle.mof_metamodel.proofs.Facts.{contains_first}
use Rattle.template_match.proofs.SideLaws.{Valued}
use Rattle.enforcement_rules.specs.KnownVariables.{IsKnown}
use Rattle.enforcement_rules.specs.Rules.{Breaks}
use Rattle.source_laws.specs.SourceValues.{IsOfSources, HasNoTarget}
use Rattle.source_laws.specs.TargetRule.{IsExpressionOf}
use Rattle.source_laws.proofs.BindingLaws.{found_at, found_within, subject_outside}
use Rattle.source_laws.proofs.QueryLaws.{scope_alike, variable_is}
use Rattle.repair_semantics.specs.declared.term.Term.{Term}
use Rattle.repair_semantics.specs.EntryValues.{TermValues, data_in}
use Rattle.repair_semantics.specs.Making.{equation_of, by_equation, scope_within, entry_scope}
use Rattle.repair_semantics.specs.Terms.{datum_in, datum_part}
use Rattle.reading_laws.specs.Readings.{Numbering}
use Rattle.reading_laws.proofs.MeetingValues.{nothing_some, data_at, out_datum}
use Rattle.std.proofs.lemmas.Option.{same_Some}
use Rattle.reading_laws.proofs.MeetingObjects.{class_or_data}
use Rattle.reading_laws.proofs.PartnerValues.{IsPartnered, meant, rule, wheres, kind_of, universal_datum, places, partner_apart, target_of_model, root_target}

-- ---- values of expressions

-- that a value is this datum is decided
decided : (x : Out) (d : Datum) → ¬ (¬ (x ≡ outs.One d)) → x ≡ outs.One d
decided (outs.One e) d h = by (same_datum e d) refl
  where
    by : (y : Bool) → same_datum e d ≡ y → ◌≡◌ {A = Out} (outs.One e) (outs.One d)
    by true is = ap outs.One ((same_decides e d).0 is)
    by false is = absurd (h (λ one. true≢false (sym ((same_decides e d).1 (same_Some e d (ap datum_of one))) ∙ is)))
decided (outs.Many kind ds) d h = absurd (h (λ one. nothing_some d (ap datum_of one)))
decided outs.Null d h = absurd (h (λ one. nothing_some d (ap datum_of one)))
decided outs.Invalid d h = absurd (h (λ one. nothing_some d (ap datum_of one)))

one_of : (x : Out) (d : Datum) → datum_of x ≡ Some d → x ≡ outs.One d
one_of (outs.One e) d h = ap outs.One (same_Some e d h)
one_of (outs.Many kind ds) d h = absurd (nothing_some d h)
one_of outs.Null d h = absurd (nothing_some d h)
one_of outs.Invalid d h = absurd (nothing_some d h)

-- ---- equations

pub equation_for : (cs : List Conj) (v : ℕ) (e : Typed) → equation_of cs v ≡ Some e → Contains cs (conjuncts.Equation v e)
equation_for [] v e h = absurd (nothing_some e h)
equation_for (conjuncts.Equation w x ∷ cs) v e h = by (λ k. equation_for cs v e k) (w == v) refl h
  where
    by : (equation_of cs v ≡ Some e → Contains cs (conjuncts.Equation v e)) → (b : Bool) → (w == v) ≡ b → (if b then Some x else equation_of cs v) ≡ Some e → Contains (conjuncts.Equation w x ∷ cs) (conjuncts.Equation v e)
    by later true is k =
        subst (λ y. Contains (conjuncts.Equation w x ∷ cs) (conjuncts.Equation v y)) (same_Some x e k)
        (subst (λ u. Contains (conjuncts.Equation w x ∷ cs) (conjuncts.Equation u x)) (eqb-true w v is) (contains_first (conjuncts.Equation w x) cs))
    by later false is k = contains_later (conjuncts.Equation v e) (conjuncts.Equation w x) cs (later k)
equation_for (conjuncts.Cond x ∷ cs) v e h = contains_later (conjuncts.Equation v e) (conjuncts.Cond x) cs (equation_for cs v e h)
equation_for (conjuncts.Call n args ∷ cs) v e h = contains_later (conjuncts.Equation v e) (conjuncts.Call n args) cs (equation_for cs v e h)

-- two values that are one
same_values : (x y : Option Datum) → are_one x y ≡ true → (d : Datum) × (x ≡ Some d) × (y ≡ Some d)
same_values None y h = absurd (true≢false (sym h))
same_values (Some d) None h = absurd (true≢false (sym h))
same_values (Some d) (Some e) h = (d, refl, ap (λ z. Some z) (sym ((same_decides d e).0 h)))

scope_length : (b : Values) → length (scope_of b) ≡ length b
scope_length b = length-map b bound_value

pub scope_past : (x : Scope) (v : ℕ) → (v < length x → ⊥) → variable x v ≡ outs.Invalid
scope_past x v past = elim (cases_lt v (length x)) [
  | inl l ↦ absurd (past l)
  | inr le ↦ get_or_past x v outs.Invalid le
]

module _ (metas : List MetaDesc) (program : Program) (sources models : List ModelData) (m : ModelData) (terms : List Term) (number : Numbering) (rel : Rel) (roots b : TermValues) (c g : Values)
    (p : IsPartnered metas program sources models m terms number rel roots b c g)
    (fix : (v : ℕ) (e : Typed) → Contains rel.wheres (conjuncts.Equation v e)
    → variable (entry_scope program sources rel b) v ≡ value program sources e (entry_scope program sources rel b)) where
  abbrev before : Scope
  before = scope_of (data_in b)

  abbrev scope : Scope
  scope = entry_scope program sources rel b

  abbrev round : ℕ → ℕ → Out
  round n v = by_equation program sources (scope_within program sources rel before n) (variable before v) (equation_of rel.wheres v)

  length_within : (n : ℕ) → length (scope_within program sources rel before n) ≡ length rel.vars
  length_within zero = scope_length (data_in b) ∙ length-map b (option_and_then datum_in) ∙ p.source.places
  length_within (suc n) = length-map-range_with_len (round n) 0 (length rel.vars)

  pub scope_places : length scope ≡ length rel.vars
  scope_places = length_within (length rel.wheres)

  -- a variable without an equation has what it had before
  unequated : (n v : ℕ) → v < length rel.vars → equation_of rel.wheres v ≡ None → variable (scope_within program sources rel before n) v ≡ variable before v
  unequated zero v below none = refl
  unequated (suc n) v below none =
      get_or-map-range_with_len (round n) 0 (length rel.vars) v v outs.Invalid below (omega arith)
      ∙ ap (by_equation program sources (scope_within program sources rel before n) (variable before v)) none

  -- an equation is one of an existential variable
  existential_subject : (v : ℕ) (e : Typed) → Contains rel.wheres (conjuncts.Equation v e) → ¬ IsUniversal program rel v
  existential_subject v e among =
      let at = found_at rel.wheres (conjuncts.Equation v e) among in
      let (data_variable, sought, other, first) = (meant metas program sources models m terms number rel roots b c g p).wheres.are at.0 v e at.1 in
      sought

  universal_unequated : (v : ℕ) → v < length rel.vars → Contains rel.universal v → equation_of rel.wheres v ≡ None
  universal_unequated v below among = by (equation_of rel.wheres v) refl
    where
      by : (o : Option Typed) → equation_of rel.wheres v ≡ o → o ≡ None
      by None is = refl
      by (Some e) is =
          let var = found_within rel.vars v below in
          absurd (existential_subject v e (equation_for rel.wheres v e is)
          (((meant metas program sources models m terms number rel roots b c g p).variables.universal v var.0 var.1).0 among))

  -- what is known of a variable without an equation that has a datum
  universal_read : (v : ℕ) → v < length rel.vars → Contains rel.universal v → is_target_variable program rel v ≡ false → variable scope v ≡ variable (scope_of g) v
  universal_read v below among outside =
      let (d, given, at) = universal_datum metas program sources models m terms number rel roots b c g p v among outside in
      let own : value_at (data_in b) v ≡ Some d = data_at b v ∙ ap (option_and_then datum_in) given ∙ ap datum_part (out_datum d) in
      unequated (length rel.wheres) v below (universal_unequated v below among) ∙ variable_is (data_in b) v ∙ ap bound_value (own ∙ sym at) ∙ sym (variable_is g v)

  apart_bound : (o : Option Datum) → ((d : Datum) → o ≡ Some d → IsOfSources program.target d) → HasNoTarget program.target (bound_value o)
  apart_bound None h = tt
  apart_bound (Some d) h = h d refl

  -- no object of the target stands in g's scope but at variables for these
  apart_at : (w : ℕ) → is_target_variable program rel w ≡ false → HasNoTarget program.target (variable (scope_of g) w)
  apart_at w outside =
      subst (HasNoTarget program.target) (sym (variable_is g w))
      (apart_bound (value_at g w) (λ d at. partner_apart metas program sources models m terms number rel roots b c g p w d outside at))

  past_both : (w : ℕ) → (w < length rel.vars → ⊥) → variable scope w ≡ variable (scope_of g) w
  past_both w past =
      scope_past scope w (λ l. past (subst (λ n. w < n) scope_places l))
      ∙ sym (scope_past (scope_of g) w (λ l. past (subst (λ n. w < n) (scope_length g ∙ places metas program sources models m terms number rel roots b c g p) l)))

  -- the value of an expression whose variables are as g has them
  pub expression_alike : (e : Typed) → IsExpressionOf rel e → ((w : ℕ) → Names e w → is_target_variable program rel w ≡ false)
      → ((w : ℕ) → Names e w → w < length rel.vars → variable scope w ≡ variable (scope_of g) w)
      → (value program sources e scope ≡ value_for program models e g) × HasNoTarget program.target (value program sources e scope)
  expression_alike e is outside same =
      scope_alike program sources models e scope (scope_of g) p.over.others ((rule metas program sources models m terms number rel roots b c g p).speaks e is)
      (scope_places ∙ sym (scope_length g ∙ places metas program sources models m terms number rel roots b c g p))
      (λ w names. let one : variable scope w ≡ variable (scope_of g) w = by w names in (one, subst (HasNoTarget program.target) (sym one) (apart_at w (outside w names))))
    where
      by : (w : ℕ) → Names e w → variable scope w ≡ variable (scope_of g) w
      by w names = elim (cases_lt w (length rel.vars)) [
        | inl l ↦ same w names l
        | inr le ↦ past_both w (λ l. absurd (omega (arith, l, le)))
      ]

  -- ---- known variables

  equation_holds : (v : ℕ) (e : Typed) → Contains rel.wheres (conjuncts.Equation v e) → (d : Datum) × (value_at g v ≡ Some d) × (value_for program models e g ≡ outs.One d)
  equation_holds v e among =
      let h = list_all_at (conjunct_holds program models g) rel.wheres (conjuncts.Equation v e) (wheres metas program sources models m terms number rel roots b c g p) among in
      let (d, at, is) = same_values (value_at g v) (datum_of (value_for program models e g)) h in
      (d, at, one_of (value_for program models e g) d is)

  known_read : (v : ℕ) → IsKnown program rel v → v < length rel.vars → is_target_variable program rel v ≡ false → variable scope v ≡ variable (scope_of g) v
  known_read v (IsKnown.universal _ universal) below outside =
      let var = found_within rel.vars v below in
      universal_read v below (((meant metas program sources models m terms number rel roots b c g p).variables.universal v var.0 var.1).1 universal) outside
  known_read v (IsKnown.determined _ e none data_variable among names) below outside =
      let named : (w : ℕ) → Names e w → is_target_variable program rel w ≡ false =
      λ w is. (rule metas program sources models m terms number rel roots b c g p).named (conjuncts.Equation v e) e (inr among) refl w is in
      let (d, at, one) = equation_holds v e among in
      fix v e among
      ∙ (expression_alike e (IsExpressionOf.conjunct (conjuncts.Equation v e) (inr among) refl) named
      (λ w is under. known_read w (names w (record { own = under; names = is })) under (named w is))).0
      ∙ one ∙ sym (variable_is g v ∙ ap bound_value at)

  -- ---- all data

  -- an existential variable of another model than the target is one of a data type
  no_object : (v : ℕ) (var : Var) (meta : ℕ) (class : ClassId) → slice_get rel.vars v ≡ Some var → var.ty ≡ types.Class meta class → ¬ IsUniversal program rel v
      → is_target_variable program rel v ≡ false → ⊥
  no_object v var meta class found typed none outside = p.over.enforceable p.place 4 (record {
    rel = rel;
    found = p.found;
    in_direction = p.direction;
    breaks = Breaks.e4 refl (record {
      v = v;
      object = record { var = var; found = found; meta = meta; class = class; typed = typed };
      existential = none;
      own = λ on.
          true≢false (sym (root_target metas program sources models m terms number rel roots b c g p on.dom on.of) ∙ ap (is_target_variable program rel) on.root ∙ outside);
      unmade = λ made.
          true≢false (sym (target_of_model metas program sources models m terms number rel roots b c g p v made.of_target.var made.of_target.found made.of_target.target) ∙ outside);
    });
  })

  -- a variable for objects of the target has no datum but that which it is given
  pub target_scope : (v : ℕ) → v < length rel.vars → is_target_variable program rel v ≡ true → variable scope v ≡ bound_value (value_at (data_in b) v)
  target_scope v below target = by (equation_of rel.wheres v) refl
    where
      by : (o : Option Typed) → equation_of rel.wheres v ≡ o → variable scope v ≡ bound_value (value_at (data_in b) v)
      by None is = unequated (length rel.wheres) v below is ∙ variable_is (data_in b) v
      by (Some e) is =
          let formed = meant metas program sources models m terms number rel roots b c g p in
          absurd (true≢false (sym target ∙ subject_outside program rel (λ w. ¬ IsUniversal program rel w) rel.wheres formed.variables formed.wheres v e (equation_for rel.wheres v e is)))

  -- the data of an entry are those of its partner
  pub scope_is_read : (v : ℕ) → is_target_variable program rel v ≡ false → variable scope v ≡ variable (scope_of g) v
  scope_is_read v outside = elim (cases_lt v (length rel.vars)) [
    | inr le ↦ past_both v (λ l. absurd (omega (arith, l, le)))
    | inl below ↦ by below (kind_of metas program sources models m terms number rel roots b c g p v below)
  ]
    where
      of_type : (below : v < length rel.vars) → ¬ IsUniversal program rel v → (x : Valued program models rel g v)
          → ((meta : ℕ) × (class : ClassId) × (x.var.ty ≡ types.Class meta class)) ⊎ ((meta : ℕ) (class : ClassId) → x.var.ty ≢ types.Class meta class)
          → variable scope v ≡ variable (scope_of g) v
      of_type below none x (inl (meta, class, is)) = absurd (no_object v x.var meta class x.found is none outside)
      of_type below none x (inr data_type) =
          let there : variable (scope_of g) v ≡ outs.One x.value = variable_is g v ∙ ap bound_value x.at in
          decided (variable scope v) x.value (λ other. p.over.enforceable p.place 11 (record {
            rel = rel;
            found = p.found;
            in_direction = p.direction;
            breaks = Breaks.e11 refl (record {
              v = v;
              data_variable = record { var = x.var; found = x.found; data_type = data_type };
              existential = none;
              unknown = λ known. other (known_read v known below outside ∙ there);
            });
          }))
          ∙ sym there

      by : (below : v < length rel.vars) → (Contains rel.universal v) ⊎ ((¬ IsUniversal program rel v) × Valued program models rel g v) → variable scope v ≡ variable (scope_of g) v
      by below (inl among) = universal_read v below among outside
      by below (inr (none, x)) = of_type below none x (class_or_data x.var.ty)
