-- What is known in an entry: its own values, and what it makes.
use Rattle.std.specs.Prelude.{◌≡◌, ◌⊎◌, ◌<◌, ℕ, zero, suc, Bool, true, false, ◌&&◌, not, List, [], ◌∷◌, map, length, Option, None, Some, slice_get, Contains}
use Rattle.std.specs.List.{list_all}
use Rattle.std.specs.Option.{option_map, option_and_then, option_or}
use Rattle.std.proofs.Common.{refl, sym, ap, subst, ◌∙◌, inl, inr, arith, get_or}
use Rattle.std.proofs.lemmas.Bool.{and_parts, true≢false, eq-eqb}
use Rattle.object_tables.proofs.SlotLemmas.{Contains-to_filter}
use Rattle.std.proofs.lemmas.List.FromFn.{get_or-map-range_with_len, length-map-range_with_len}
use Rattle.mof_metamodel.specs.declared.desc.MetaDesc.{MetaDesc}
use Rattle.mof_metamodel.specs.declared.desc.ClassId.{ClassId}
use Rattle.mof_metamodel.specs.declared.desc.PropId.{PropId}
use Rattle.object_tables.specs.Models.{ModelData}
use Rattle.qv_syntax.specs.declared.ty.Ty.{Ty}
use Rattle.qv_syntax.specs.declared.program.Program.{Program}
use Rattle.qv_syntax.specs.declared.program.Rel.{Rel}
use Rattle.qv_syntax.specs.declared.program.Var.{Var}
use Rattle.qv_syntax.specs.declared.program.Dom.{Dom}
use Rattle.qv_syntax.specs.declared.program.Tmpl.{out-Tmpl}
use Rattle.qv_syntax.specs.Parts.{IsNested}
use Rattle.qv_syntax.specs.Relations.{IsTargetDomain, IsTemplateOf}
use Rattle.qv_syntax.specs.WellFormed.{IsWellFormed}
use Rattle.qvtr_semantics.specs.declared.datum.Datum.{Datum}
use Rattle.qvtr_semantics.specs.declared.out.Out.{Out}
use Rattle.qvtr_semantics.specs.Outs.{datum_of, all_given}
use Rattle.qvtr_semantics.specs.Expressions.{Scope, setting, variable, scope_of, bound_value}
use Rattle.qvtr_semantics.specs.Templates.{value_at}
use Rattle.qvtr_semantics.specs.Bindings.{is_model, is_value_for, have_values, source_meets, conjunct_holds}
use Rattle.template_match.specs.Sources.{is_of_target, is_target_variable, source_variables}
use Rattle.template_match.proofs.ListLaws.{list_all_at}
use Rattle.enforcement_rules.specs.TargetParts.{IsObjectVariable}
use Rattle.enforcement_rules.specs.Patterns.{IsHandedOn, HasConcreteTemplate}
use Rattle.enforcement_rules.specs.Rules.{Breaks, IsEnforceable}
use Rattle.source_laws.specs.SourceValues.{IsOfSources, HasNoTarget}
use Rattle.source_laws.specs.TargetRule.{HandsTargetOn}
use Rattle.source_laws.proofs.QueryLaws.{variable_is}
use Rattle.source_laws.proofs.OperationLaws.{datum_apart}
use Rattle.source_laws.proofs.RelationLaws.{datum_by}
use Rattle.source_laws.proofs.BindingLaws.{source_variable, source_apart}
use Rattle.source_laws.proofs.RuleLaws.{model_domain}
use Rattle.entry_sources.proofs.MakingLaws.{scope_same}
use Rattle.repair_semantics.specs.declared.term.Term.{Term, roll-Term}
use Rattle.repair_semantics.specs.declared.term.TermValue.{TermValue}
use Rattle.repair_semantics.specs.Terms.{datum_in}
use Rattle.repair_semantics.specs.EntryValues.{TermValues, Known, value_of, data_in, given_out}
use Rattle.repair_semantics.specs.TargetItems.{TargetItem, target_items, class_in, class_of_variable, key_of}
use Rattle.repair_semantics.specs.Making.{variables, entry_scope, key_value, keyed, term_by, made_term, value_or_datum, values_within, entry_known}
use Rattle.repair_semantics.specs.Entries.{IsUniversalTarget, TermSource}
use Rattle.reading_laws.specs.Readings.{HasTermsAmong}
use Rattle.reading_laws.proofs.CallValues.{none_some, val_term, same_val, data_at, term_at, datum_from, datum_there, IsFit, AreFit}
use Rattle.std.proofs.lemmas.Option.{same_Some}
use Rattle.reading_laws.proofs.CallFits.{given_val}
use Rattle.qv_syntax.specs.declared.ty.Ty.TheVariants as types
use Rattle.repair_semantics.specs.declared.term.TermValue.TheVariants as values

-- ---- lists by the variables

pub variables_at : {X : Type 0} (f : ℕ → Option X) (rel : Rel) (v : ℕ) → v < length rel.vars → get_or (map f (variables rel)) v None ≡ f v
variables_at f rel v less = get_or-map-range_with_len f 0 (length rel.vars) v v None less (omega arith)

pub within_long : {X : Type 0} (b : List (Option X)) (v : ℕ) (x : X) → get_or b v None ≡ Some x → v < length b
within_long [] v x at = absurd (none_some x at)
within_long (o ∷ b) zero x at = omega arith
within_long (o ∷ b) (suc v) x at = let h : v < length b = within_long b v x at in omega (arith, h)

pub variables_within : {X : Type 0} (f : ℕ → Option X) (rel : Rel) (v : ℕ) (x : X) → get_or (map f (variables rel)) v None ≡ Some x → v < length rel.vars
variables_within f rel v x at = subst (λ n. v < n) (length-map-range_with_len f 0 (length rel.vars)) (within_long (map f (variables rel)) v x at)

-- ---- what an entry makes

made_is : (program : Program) (sources : List ModelData) (rel : Rel) (items : List TargetItem) (k : Known) (v : ℕ) (x : TermValue) → made_term program sources rel items k v ≡ Some x
    → (class : ℕ) × (t : Term) × (class_of_variable rel v ≡ Some class) × (x ≡ values.Term t)
made_is program sources rel items k v x is = by (class_of_variable rel v) refl is
  where
    keyed_is : (class : ℕ) (o : Option (List TermValue)) → option_map (keyed class) o ≡ Some x → (t : Term) × (x ≡ values.Term t)
    keyed_is class None h = absurd (none_some x h)
    keyed_is class (Some xs) h = (roll-Term (record { class = record { 0 = class }; keys = xs }), sym (same_Some (keyed class xs) x h))

    key_is : (class : ℕ) (o : Option (List PropId)) → option_and_then (λ props. option_map (keyed class) (all_given (map (key_value program sources items k v) props))) o ≡ Some x
        → (t : Term) × (x ≡ values.Term t)
    key_is class None h = absurd (none_some x h)
    key_is class (Some props) h = keyed_is class (all_given (map (key_value program sources items k v) props)) h

    by : (o : Option ℕ) → class_of_variable rel v ≡ o → option_and_then (term_by program sources items k v) o ≡ Some x
        → (class : ℕ) × (t : Term) × (class_of_variable rel v ≡ Some class) × (x ≡ values.Term t)
    by None at h = absurd (none_some x h)
    by (Some class) at h = let t = key_is class (key_of program class) h in (class, t.0, at, t.1)

-- a value that is known is one of the binding, the datum of an equation, or a term that is made
pub data IsKnownBy (program : Program) (sources : List ModelData) (rel : Rel) (b : TermValues) (v : ℕ) (x : TermValue) : Type 0 where
  own : value_of b v ≡ Some x → IsKnownBy program sources rel b v x
  equation : value_of b v ≡ None → given_out (variable (entry_scope program sources rel b) v) ≡ Some x → IsKnownBy program sources rel b v x
  term : (class : ℕ) (t : Term) → value_of b v ≡ None → class_of_variable rel v ≡ Some class → x ≡ values.Term t → IsKnownBy program sources rel b v x

module _ (program : Program) (sources : List ModelData) (rel : Rel) (b : TermValues) where
  abbrev scope : Scope
  scope = entry_scope program sources rel b

  abbrev before : TermValues
  before = map (value_or_datum b scope) (variables rel)

  abbrev rounds : ℕ → TermValues
  rounds n = values_within program sources rel (target_items program rel) scope before n

  abbrev made_in : ℕ → ℕ → Option TermValue
  made_in n v = made_term program sources rel (target_items program rel) (record { values = rounds n; scope = scope }) v

  rounds_keep : (n v : ℕ) (x : TermValue) → v < length rel.vars → value_of before v ≡ Some x → value_of (rounds n) v ≡ Some x
  rounds_keep zero v x less at = at
  rounds_keep (suc n) v x less at =
      variables_at (λ w. option_or (value_of before w) (made_in n w)) rel v less ∙ ap (λ o. option_or o (made_in n v)) at

  pub known_extends : length b ≡ length rel.vars → (v : ℕ) (x : TermValue) → value_of b v ≡ Some x → value_of (entry_known program sources rel b).values v ≡ Some x
  known_extends long v x at =
      let less : v < length rel.vars = subst (λ n. v < n) long (within_long b v x at) in
      rounds_keep (length rel.vars) v x less (variables_at (value_or_datum b scope) rel v less ∙ ap (λ o. option_or o (given_out (variable scope v))) at)

  rounds_long : (n : ℕ) → length (rounds n) ≡ length rel.vars
  rounds_long zero = length-map-range_with_len (value_or_datum b scope) 0 (length rel.vars)
  rounds_long (suc n) = length-map-range_with_len (λ w. option_or (value_of before w) (made_in n w)) 0 (length rel.vars)

  pub known_long : length (entry_known program sources rel b).values ≡ length rel.vars
  known_long = rounds_long (length rel.vars)

  first_by : (v : ℕ) (x : TermValue) → v < length rel.vars → value_of before v ≡ Some x → IsKnownBy program sources rel b v x
  first_by v x less at = by (value_of b v) refl (sym (variables_at (value_or_datum b scope) rel v less) ∙ at)
    where
      by : (o : Option TermValue) → value_of b v ≡ o → option_or o (given_out (variable scope v)) ≡ Some x → IsKnownBy program sources rel b v x
      by None is h = IsKnownBy.equation is h
      by (Some y) is h = IsKnownBy.own (is ∙ h)

  rounds_by : (n v : ℕ) (x : TermValue) → value_of (rounds n) v ≡ Some x → IsKnownBy program sources rel b v x
  rounds_by zero v x at = first_by v x (variables_within (value_or_datum b scope) rel v x at) at
  rounds_by (suc n) v x at = by (value_of before v) refl (sym (variables_at all rel v less) ∙ at)
    where
      all : ℕ → Option TermValue
      all w = option_or (value_of before w) (made_in n w)

      less : v < length rel.vars
      less = variables_within (λ w. option_or (value_of before w) (made_in n w)) rel v x at

      none_before : value_of before v ≡ None → value_of b v ≡ None
      none_before is = from (value_of b v) refl
        where
          from : (o : Option TermValue) → value_of b v ≡ o → o ≡ None
          from None here = refl
          from (Some y) here =
              absurd (none_some y (sym is ∙ variables_at (value_or_datum b scope) rel v less ∙ ap (λ o. option_or o (given_out (variable scope v))) here))

      by : (o : Option TermValue) → value_of before v ≡ o → option_or o (made_in n v) ≡ Some x → IsKnownBy program sources rel b v x
      by None is h =
          let made = made_is program sources rel (target_items program rel) (record { values = rounds n; scope = scope }) v x h in
          IsKnownBy.term made.0 made.1 (none_before is) made.2 made.3
      by (Some y) is h = first_by v x less (is ∙ h)

  pub known_by_one : (v : ℕ) (x : TermValue) → value_of (entry_known program sources rel b).values v ≡ Some x → IsKnownBy program sources rel b v x
  known_by_one v x at = rounds_by (length rel.vars) v x at

-- ---- variables of the target

pub class_from : (ty : Ty) (c : ℕ) → class_in ty ≡ Some c → (m : ℕ) × (class : ClassId) × (ty ≡ types.Class m class)
class_from (types.Class m class) c h = (m, class, refl)
class_from ty c h = absurd (none_some c h)

target_there : (program : Program) (rel : Rel) (v : ℕ) (var : Var) → slice_get rel.vars v ≡ Some var → var.model ≡ Some program.target → is_target_variable program rel v ≡ true
target_there program rel v var found is = ap (is_of_target program) found ∙ ap (λ m. is_model m program.target) is ∙ eq-eqb program.target program.target refl

no_value : (program : Program) (sources : List ModelData) (rel : Rel) (v : ℕ) (var : Var) (o : Option Datum) → slice_get rel.vars v ≡ Some var → o ≡ None
    → is_value_for (setting program sources) (slice_get rel.vars v) o ≡ true → ⊥
no_value program sources rel v var o found none h =
    true≢false (sym h ∙ ap (λ p. is_value_for (setting program sources) (slice_get rel.vars v) p) none ∙ ap (λ q. is_value_for (setting program sources) q None) found)

module _ (metas : List MetaDesc) (program : Program) (formed : IsWellFormed metas program) (enforceable : IsEnforceable metas program) (sources : List ModelData) (place : ℕ) (rel : Rel)
    (found : slice_get program.rels place ≡ Some rel) (is_towards : rel.in_direction ≡ true) where
  -- the root of the target domain is a variable for objects of the target
  pub target_root : (dom : Dom) → IsTargetDomain program rel dom → is_target_variable program rel dom.root ≡ true
  target_root dom of =
      let t = ((formed.relations place rel found).domains.shaped dom of.is).shaped program.target of.target in
      let in_dom : IsTemplateOf dom t.0 = record { root = t.0; has = t.1; nested = IsNested.whole t.0 } in
      let d = model_domain metas program formed place rel found dom t.0 of.is in_dom in
      let declared = (formed.relations place rel found).domains.declared dom d t.0 in_dom in
      subst (λ v. is_target_variable program rel v ≡ true) t.2
      (target_there program rel (out-Tmpl t.0).var declared.var declared.found (declared.of_model ∙ sym d.of_model ∙ of.target))

  module _ (roots b : TermValues) (source : TermSource program sources rel roots b) where
    have : have_values program sources rel (source_variables program rel) (data_in b) ≡ true
    have =
        let outer = and_parts (have_values program sources rel (source_variables program rel) (data_in b) && list_all (source_meets program sources (data_in b)) rel.domains)
        (list_all (conjunct_holds program sources (data_in b)) rel.whens) source.source.meets in
        (and_parts (have_values program sources rel (source_variables program rel) (data_in b)) (list_all (source_meets program sources (data_in b)) rel.domains) outer.0).0

    -- a universal variable that is none for objects of the target has a value
    pub source_given : (v : ℕ) (var : Var) → slice_get rel.vars v ≡ Some var → Contains rel.universal v → is_target_variable program rel v ≡ false → value_of b v ≡ None → ⊥
    source_given v var at universal outside none =
        no_value program sources rel v var (value_at (data_in b) v) at (data_at b v ∙ ap (option_and_then datum_in) none)
        (list_all_at (λ w. is_value_for (setting program sources) (slice_get rel.vars w) (value_at (data_in b) w)) (source_variables program rel) v have
        (Contains-to_filter (λ w. not (is_target_variable program rel w)) rel.universal v (ap not outside) universal))

    -- an object variable without a value is one for objects of the target
    class_of_target : (v class : ℕ) → value_of b v ≡ None → class_of_variable rel v ≡ Some class → is_target_variable program rel v ≡ true
    class_of_target v class none typed = by (is_target_variable program rel v) refl
      where
        var_by : (o : Option Var) → slice_get rel.vars v ≡ o → option_and_then (λ var. class_in var.ty) o ≡ Some class → IsObjectVariable rel v
        var_by None at h = absurd (none_some class h)
        var_by (Some var) at h = let c = class_from var.ty class h in record { var = var; found = at; meta = c.0; class = c.1; typed = c.2 }

        object : IsObjectVariable rel v
        object = var_by (slice_get rel.vars v) refl typed

        by : (x : Bool) → is_target_variable program rel v ≡ x → x ≡ true
        by true there = refl
        by false there = absurd (enforceable place 4 (record {
          rel = rel;
          found = found;
          in_direction = is_towards;
          breaks = Breaks.e4 refl (record {
            v = v;
            object = object;
            existential = λ universal. source_given v object.var object.found (((formed.relations place rel found).variables.universal v object.var object.found).1 universal) there none;
            own = λ (handed : IsHandedOn program rel v). true≢false (sym (target_root handed.dom handed.of) ∙ ap (is_target_variable program rel) handed.root ∙ there);
            unmade = λ (made : HasConcreteTemplate metas program rel v). true≢false (sym (target_there program rel v made.of_target.var made.of_target.found made.of_target.target) ∙ there);
          });
        }))

    module _ (m : ModelData) (terms : List Term) (among_terms : HasTermsAmong program m terms rel (entry_known program sources rel b).values) (handed : AreFit program terms rel roots) where
      term_among : (v : ℕ) (t : Term) → value_of b v ≡ Some (values.Term t) → Contains terms t
      term_among v t at =
          among_terms.among v t (term_at (entry_known program sources rel b).values v t (known_extends program sources rel b source.places v (values.Term t) at))

      datum_fit : (v : ℕ) (d : Datum) → value_of b v ≡ Some (values.Val d) → IsOfSources program.target d
      datum_fit v d at = by (is_target_variable program rel v) refl
        where
          from_roots : value_at (data_in roots) v ≡ Some d → IsOfSources program.target d
          from_roots is = (handed v (values.Val d) (datum_from roots v d is)).told.data_value d refl

          inside : Contains (source_variables program rel) v ⊎ (value_at (data_in roots) v ≡ Some d) → is_target_variable program rel v ≡ true → IsOfSources program.target d
          inside (inl c) target = absurd (true≢false (sym target ∙ source_variable program rel v c))
          inside (inr is) target = from_roots is

          by : (x : Bool) → is_target_variable program rel v ≡ x → IsOfSources program.target d
          by true target = inside (source.source.no_others v d (datum_there b v d at)) target
          by false outside =
              source_apart program sources sources (λ n other. refl) rel (data_in roots) (data_in b)
              (λ w e other is. (handed w (values.Val e) (datum_from roots w e is)).told.data_value e refl) source.source v d outside (datum_there b v d at)

      target_fit : (v : ℕ) (t : Term) → value_of b v ≡ Some (values.Term t) → is_target_variable program rel v ≡ true
      target_fit v t at = by (source.no_others v t at)
        where
          by : IsUniversalTarget program rel v ⊎ (value_of roots v ≡ Some (values.Term t)) → is_target_variable program rel v ≡ true
          by (inl u) = u.target
          by (inr is) = (handed v (values.Term t) is).target t refl

      -- the values of the binding fit their variables
      pub binding_fit : AreFit program terms rel b
      binding_fit v x at = record {
        told = record { data_value = λ d is. datum_fit v d (at ∙ ap (λ z. Some z) is); term = λ t is. term_among v t (at ∙ ap (λ z. Some z) is) };
        target = λ t is. target_fit v t (at ∙ ap (λ z. Some z) is);
      }

      -- no variable has an object of the target in the scope
      pub scope_fit : HandsTargetOn program rel → (v : ℕ) → HasNoTarget program.target (variable (entry_scope program sources rel b) v)
      scope_fit rule v =
          (scope_same program sources sources (λ n other. refl) rel rule (scope_of (data_in b)) fine (length rel.wheres)).1 v
        where
          datum : (w : ℕ) (o : Option Datum) → value_at (data_in b) w ≡ o → HasNoTarget program.target (bound_value o)
          datum w None is = tt
          datum w (Some d) is = datum_fit w d (datum_from b w d is)

          fine : (w : ℕ) → HasNoTarget program.target (variable (scope_of (data_in b)) w)
          fine w = subst (HasNoTarget program.target) (sym (variable_is (data_in b) w)) (datum w (value_at (data_in b) w) refl)

      -- so do all that are known
      pub known_fit : HandsTargetOn program rel → AreFit program terms rel (entry_known program sources rel b).values
      known_fit rule v x at = by (known_by_one program sources rel b v x at)
        where
          by : IsKnownBy program sources rel b v x → IsFit program terms rel v x
          by (IsKnownBy.own is) = binding_fit v x is
          by (IsKnownBy.equation none is) =
              let out : Out = variable (entry_scope program sources rel b) v in
              let d = given_val (datum_of out) x is in
              let apart : IsOfSources program.target d.0 = datum_by program.target (datum_of out) d.0 (datum_apart program.target out (scope_fit rule v)) d.1 in
              record {
                told = record {
                  data_value = λ y is_y. subst (IsOfSources program.target) (same_val d.0 y (sym d.2 ∙ is_y)) apart;
                  term = λ t is_t. absurd (val_term d.0 t (sym d.2 ∙ is_t));
                };
                target = λ t is_t. absurd (val_term d.0 t (sym d.2 ∙ is_t));
              }
          by (IsKnownBy.term class u none typed is) = record {
            told = record {
              data_value = λ d is_d. absurd (val_term d u (sym is_d ∙ is));
              term = λ t is_t. among_terms.among v t (term_at (entry_known program sources rel b).values v t (at ∙ ap (λ z. Some z) is_t));
            };
            target = λ t is_t. class_of_target v class none typed;
          }
