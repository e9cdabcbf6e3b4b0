-- What meets the source of a relation that keeps to the sources, over models that agree but for the target.
use Rattle.std.specs.Prelude.{◌≡◌, ◌≢◌, ◌<◌, ◌⊎◌, ℕ, zero, suc, Bool, true, false, ◌&&◌, ◌||◌, not, List, [], ◌∷◌, length, Option, None, Some, slice_get, Contains, IsTrue}
use Rattle.std.specs.List.{list_all}
use Rattle.std.proofs.Common.{refl, sym, ap, subst, ◌∙◌, arith, inl, inr}
use Rattle.std.proofs.lemmas.Bool.{and_parts, true≢false, eqb-true, eq-eqb, not-true}
use Rattle.std.proofs.lemmas.List.Elements.{All-contains, filter_passes}
use Rattle.object_tables.specs.declared.value.ObjId.{ObjId}
use Rattle.object_tables.specs.Models.{ModelData}
use Rattle.object_tables.proofs.SlotLemmas.{Contains-to_filter}
use Rattle.qv_syntax.specs.declared.program.Program.{Program}
use Rattle.qv_syntax.specs.declared.program.Rel.{Rel}
use Rattle.qv_syntax.specs.declared.program.Var.{Var}
use Rattle.qv_syntax.specs.declared.program.Dom.{Dom}
use Rattle.qv_syntax.specs.declared.program.Tmpl.{Tmpl, out-Tmpl}
use Rattle.qv_syntax.specs.declared.program.Conj.{Conj}
use Rattle.qv_syntax.specs.declared.program.Conj.TheVariants as conjuncts
use Rattle.qv_syntax.specs.declared.ty.Ty.{Ty, roll-Ty, out-Ty, roll-out-Ty}
use Rattle.qv_syntax.specs.declared.ty.Ty.TheOpen as of
use Rattle.qv_syntax.specs.declared.ty.Ty.TheVariants as types
use Rattle.qv_syntax.specs.declared.typed.Typed.{Typed}
use Rattle.qv_syntax.specs.Parts.{Names}
use Rattle.qv_syntax.specs.Relations.{IsSourceDomain, IsTemplateOf, InConjunct, OccursInTemplates, OccursInClause, IsUniversal}
use Rattle.qv_syntax.specs.Directions.{HasVariables, HasEquations, AreMeant}
use Rattle.qvtr_semantics.specs.declared.datum.Datum.{Datum}
use Rattle.qvtr_semantics.specs.declared.datum.Datum.TheVariants.{Obj, Val}
use Rattle.qvtr_semantics.specs.Outs.{datum_of, boolean_of}
use Rattle.qvtr_semantics.specs.Equality.{is_known_true}
use Rattle.qvtr_semantics.specs.Expressions.{setting, value_for}
use Rattle.qvtr_semantics.specs.Templates.{Values, value_at, conforms, is_of_class}
use Rattle.qvtr_semantics.specs.Bindings.{is_model, is_object_for, is_datum_for, is_value_for, have_values, is_target_domain, template_meets, source_meets, are_one, conjunct_holds}
use Rattle.template_match.specs.Sources.{is_of_target, is_target_variable, source_variables, IsAsked, meets_without_target, SourceWithoutTarget}
use Rattle.template_match.proofs.ListLaws.{contains_later}
use Rattle.mof_metamodel.proofs.Facts.{contains_first}
use Rattle.template_match.proofs.ValueLaws.{some_datum, within_values}
use Rattle.template_match.proofs.SideLaws.{Valued, valued}
use Rattle.source_laws.specs.Agreement.{AgreeBut}
use Rattle.source_laws.specs.SourceValues.{IsOfSources}
use Rattle.source_laws.specs.SourceRelations.{IsSourceExpression, KeepsToSources, AgreeOnSources, IsApart}
use Rattle.source_laws.proofs.SettingLaws.{class_same}
use Rattle.source_laws.proofs.QueryLaws.{value_alike}
use Rattle.source_laws.proofs.TemplateLaws.{template_same}
use Rattle.mof_metamodel.proofs.Facts.{contains_at}

-- ---- lists

pub all_same : {X : Type 0} (p q : X → Bool) (xs : List X) → ((x : X) → Contains xs x → p x ≡ q x) → list_all p xs ≡ list_all q xs
all_same p q [] h = refl
all_same p q (x ∷ xs) h = ap (λ y. y && list_all p xs) (h x (contains_first x xs)) ∙ ap (λ y. q x && y) (all_same p q xs (λ y c. h y (contains_later y x xs c)))

pub found_within : {X : Type 0} (xs : List X) (i : ℕ) → i < length xs → (x : X) × (slice_get xs i ≡ Some x)
found_within [] i h = absurd (omega (arith, h))
found_within (x ∷ xs) zero h = (x, refl)
found_within (x ∷ xs) (suc i) h = found_within xs i (omega (arith, h))

-- both parts agree where the first test passes
guarded : (x a c d e : Bool) → (x ≡ true → a ≡ c) → (x ≡ true → d ≡ e) → (x && a && d) ≡ (x && c && e)
guarded true a c d e f g = ap (λ y. y && d) (f refl) ∙ ap (λ y. c && y) (g refl)
guarded false a c d e f g = refl

pub found_at : {X : Type 0} (xs : List X) (x : X) → Contains xs x → (i : ℕ) × (slice_get xs i ≡ Some x)
found_at [] x (k, within, is) = absurd (omega (arith, within))
found_at (y ∷ ys) x (zero, within, is) = (0, ap (λ z. Some z) is)
found_at (y ∷ ys) x (suc k, within, is) = let more = found_at ys x (k, omega (arith, within), is) in (suc more.0, more.1)

-- lists of models agree both ways
pub opposite : (t : ℕ) (ms ns : List ModelData) → AgreeBut t ms ns → AgreeBut t ns ms
opposite t ms ns agree m other = sym (agree m other)

pub asked_in : (c : Conj) (e : Typed) → IsAsked c e → InConjunct c e
asked_in (conjuncts.Cond x) e h = h
asked_in (conjuncts.Equation v x) e h = h
asked_in (conjuncts.Call n args) e h = absurd h

-- ---- models of variables

-- a source variable is none for objects of the target
pub source_variable : (program : Program) (rel : Rel) (v : ℕ) → Contains (source_variables program rel) v → is_target_variable program rel v ≡ false
source_variable program rel v c =
    not-true (is_target_variable program rel v)
    (All-contains (λ w. not (is_target_variable program rel w) ≡ true) (source_variables program rel) v (filter_passes (λ w. not (is_target_variable program rel w)) rel.universal) c)

not_target : (t m : ℕ) (model : Option ℕ) → is_model model m ≡ true → is_model model t ≡ false → m ≢ t
not_target t m None h k = absurd (true≢false (sym h))
not_target t m (Some n) h k = λ is. absurd (true≢false (sym (eq-eqb n t (eqb-true n m h ∙ is)) ∙ k))

-- the variable of an equation is one of a data type
pub subject_outside : (program : Program) (rel : Rel) (IsSought : ℕ → Type 0) (clause : List Conj) → HasVariables program rel → HasEquations rel IsSought clause → (v : ℕ) (e : Typed)
    → Contains clause (conjuncts.Equation v e) → is_target_variable program rel v ≡ false
subject_outside program rel IsSought clause variables equations v e within =
    let place = found_at clause (conjuncts.Equation v e) within in
    let (data_variable, sought, other, first) = equations.are place.0 v e place.1 in
    let model : data_variable.var.model ≡ None = (variables.models data_variable.var (contains_at rel.vars v data_variable.var data_variable.found)).data_value data_variable.data_type in
    ap (is_of_target program) data_variable.found ∙ ap (λ m. is_model m program.target) model

module _ (program : Program) (ms ns : List ModelData) (agree : AgreeBut program.target ms ns) where
  -- ---- the values that a variable may have

  class_if : (var : Var) (class m : ℕ) (o : ObjId) (x : Bool) → is_model var.model m ≡ x → is_of_target program (Some var) ≡ false
      → (x && is_of_class (setting program ms) class (Obj m o)) ≡ (x && is_of_class (setting program ns) class (Obj m o))
  class_if var class m o true is outside = ap (conforms class) (class_same program.target program.models ms ns agree (Obj m o) (not_target program.target m var.model is outside))
  class_if var class m o false is outside = refl

  object_by : (var : Var) (l : of.Ty-F Ty) (m : ℕ) (o : ObjId) → is_of_target program (Some var) ≡ false
      → is_object_for (setting program ms) var (roll-Ty l) m (Obj m o) ≡ is_object_for (setting program ns) var (roll-Ty l) m (Obj m o)
  object_by var of.Str m o outside =
      ap (λ t. is_object_for (setting program ms) var t m (Obj m o)) types.rolls-Str ∙ sym (ap (λ t. is_object_for (setting program ns) var t m (Obj m o)) types.rolls-Str)
  object_by var of.Int m o outside =
      ap (λ t. is_object_for (setting program ms) var t m (Obj m o)) types.rolls-Int ∙ sym (ap (λ t. is_object_for (setting program ns) var t m (Obj m o)) types.rolls-Int)
  object_by var of.Bool m o outside =
      ap (λ t. is_object_for (setting program ms) var t m (Obj m o)) types.rolls-Bool ∙ sym (ap (λ t. is_object_for (setting program ns) var t m (Obj m o)) types.rolls-Bool)
  object_by var of.Null m o outside =
      ap (λ t. is_object_for (setting program ms) var t m (Obj m o)) types.rolls-Null ∙ sym (ap (λ t. is_object_for (setting program ns) var t m (Obj m o)) types.rolls-Null)
  object_by var (of.Enum k e) m o outside =
      ap (λ t. is_object_for (setting program ms) var t m (Obj m o)) (types.rolls-Enum k e) ∙ sym (ap (λ t. is_object_for (setting program ns) var t m (Obj m o)) (types.rolls-Enum k e))
  object_by var (of.Coll k e) m o outside =
      ap (λ t. is_object_for (setting program ms) var t m (Obj m o)) (types.rolls-Coll k e) ∙ sym (ap (λ t. is_object_for (setting program ns) var t m (Obj m o)) (types.rolls-Coll k e))
  object_by var (of.Class k class) m o outside =
      ap (λ t. is_object_for (setting program ms) var t m (Obj m o)) (types.rolls-Class k class)
      ∙ class_if var class.0 m o (is_model var.model m) refl outside
      ∙ sym (ap (λ t. is_object_for (setting program ns) var t m (Obj m o)) (types.rolls-Class k class))

  pub value_same : (var : Option Var) (d : Option Datum) → is_of_target program var ≡ false → is_value_for (setting program ms) var d ≡ is_value_for (setting program ns) var d
  value_same None d outside = refl
  value_same (Some var) None outside = refl
  value_same (Some var) (Some (Val m v)) outside = refl
  value_same (Some var) (Some (Obj m o)) outside =
      subst (λ ty. is_object_for (setting program ms) var ty m (Obj m o) ≡ is_object_for (setting program ns) var ty m (Obj m o)) (roll-out-Ty var.ty) (object_by var (out-Ty var.ty) m o outside)

  pub values_same : (rel : Rel) (b c : Values) → AgreeOnSources program rel b c
      → have_values program ms rel (source_variables program rel) b ≡ have_values program ns rel (source_variables program rel) c
  values_same rel b c both =
      all_same (λ v. is_value_for (setting program ms) (slice_get rel.vars v) (value_at b v)) (λ v. is_value_for (setting program ns) (slice_get rel.vars v) (value_at c v))
      (source_variables program rel)
      (λ v within.
      value_same (slice_get rel.vars v) (value_at b v) (source_variable program rel v within)
      ∙ ap (is_value_for (setting program ns) (slice_get rel.vars v)) (both.same v (source_variable program rel v within)))

  -- ---- values that are no objects of the target

  model_by : (var : Var) (l : of.Ty-F Ty) (m : ℕ) (d : Datum) → is_object_for (setting program ms) var (roll-Ty l) m d ≡ true → is_model var.model m ≡ true
  model_by var of.Str m d h = absurd (true≢false (sym h ∙ ap (λ t. is_object_for (setting program ms) var t m d) types.rolls-Str))
  model_by var of.Int m d h = absurd (true≢false (sym h ∙ ap (λ t. is_object_for (setting program ms) var t m d) types.rolls-Int))
  model_by var of.Bool m d h = absurd (true≢false (sym h ∙ ap (λ t. is_object_for (setting program ms) var t m d) types.rolls-Bool))
  model_by var of.Null m d h = absurd (true≢false (sym h ∙ ap (λ t. is_object_for (setting program ms) var t m d) types.rolls-Null))
  model_by var (of.Enum k e) m d h = absurd (true≢false (sym h ∙ ap (λ t. is_object_for (setting program ms) var t m d) (types.rolls-Enum k e)))
  model_by var (of.Coll k e) m d h = absurd (true≢false (sym h ∙ ap (λ t. is_object_for (setting program ms) var t m d) (types.rolls-Coll k e)))
  model_by var (of.Class k class) m d h =
      (and_parts (is_model var.model m) (is_of_class (setting program ms) class.0 d) (sym (ap (λ t. is_object_for (setting program ms) var t m d) (types.rolls-Class k class)) ∙ h)).0

  fits_sources : (var : Var) (d : Datum) → is_of_target program (Some var) ≡ false → is_datum_for (setting program ms) var d ≡ true → IsOfSources program.target d
  fits_sources var (Val m v) outside h = tt
  fits_sources var (Obj m o) outside h =
      not_target program.target m var.model (model_by var (out-Ty var.ty) m (Obj m o) (ap (λ t. is_object_for (setting program ms) var t m (Obj m o)) (roll-out-Ty var.ty) ∙ h)) outside

  target_of : (rel : Rel) (v : ℕ) (var : Var) → slice_get rel.vars v ≡ Some var → is_target_variable program rel v ≡ false → is_of_target program (Some var) ≡ false
  target_of rel v var found outside = sym (ap (is_of_target program) found) ∙ outside

  -- a source variable has a value that is no object of the target
  pub had : (rel : Rel) (b : Values) (v : ℕ) (d : Datum) → have_values program ms rel (source_variables program rel) b ≡ true → Contains (source_variables program rel) v → value_at b v ≡ Some d
      → IsOfSources program.target d
  had rel b v d have c at =
      let x : Valued program ms rel b v = valued program ms rel (source_variables program rel) b v have c in
      let same : x.value ≡ d = some_datum x.value d (sym x.at ∙ at) in
      subst (IsOfSources program.target) same (fits_sources x.var x.value (target_of rel v x.var x.found (source_variable program rel v c)) x.fits)

  module _ (number : ℕ) (rel : Rel) (meant : AreMeant program) (found : slice_get program.rels number ≡ Some rel) (keeps : KeepsToSources program rel)
      (b c : Values) (both : AgreeOnSources program rel b c) (places : length b ≡ length rel.vars) (have : have_values program ms rel (source_variables program rel) b ≡ true) where
    abbrev variables : HasVariables program rel
    variables = (meant number rel found).variables

    universal : (v : ℕ) (d : Datum) → IsUniversal program rel v → is_target_variable program rel v ≡ false → value_at b v ≡ Some d → IsOfSources program.target d
    universal v d is outside at =
        let within : v < length rel.vars = subst (λ n. v < n) places (within_values b v d at) in
        let var = found_within rel.vars v within in
        had rel b v d have (Contains-to_filter (λ w. not (is_target_variable program rel w)) rel.universal v (ap not outside) ((variables.universal v var.0 var.1).1 is)) at

    named : (e : Typed) (v : ℕ) → IsSourceExpression program rel e → Names e v → IsUniversal program rel v
    named e v (IsSourceExpression.item dom source of) names = IsUniversal.domain dom source (OccursInTemplates.item e of names)
    named e v (IsSourceExpression.asked x within asked) names = IsUniversal.when (OccursInClause.expression x e within (asked_in x e asked) names)

    expression_same : (e : Typed) → IsSourceExpression program rel e → value_for program ms e b ≡ value_for program ns e c
    expression_same e is =
        (value_alike program ms ns e b c agree (keeps.speaks e is) both.places (λ v names. both.same v (keeps.names e is v names))
        (λ v d names at. universal v d (named e v is names) (keeps.names e is v names) at)).0

    domain_template : (dom : Dom) (o : Option Tmpl) → dom.template ≡ o → IsSourceDomain program rel dom → template_meets program ms o b ≡ template_meets program ns o c
    domain_template dom None is source = refl
    domain_template dom (Some t) is source =
        template_same program ms ns agree b c t
        (λ inner nested. both.same (out-Tmpl inner).var (keeps.templates dom inner source (record { root = t; has = is; nested = nested })))
        (λ inner d nested at.
        let of : IsTemplateOf dom inner = record { root = t; has = is; nested = nested } in
        universal (out-Tmpl inner).var d (IsUniversal.domain dom source (OccursInTemplates.template inner of refl)) (keeps.templates dom inner source of) at)
        (λ inner item e nested has_item value.
        expression_same e (IsSourceExpression.item dom source (record { item = item; of = record { template = inner; of = record { root = t; has = is; nested = nested }; has = has_item }; is = value })))

    other_model : (dom : Dom) → is_target_domain program dom ≡ false → dom.model ≢ Some program.target
    other_model dom outside is = absurd (true≢false (sym (eq-eqb program.target program.target refl) ∙ sym (ap (λ m. is_model m program.target) is) ∙ outside))

    domain_by : (dom : Dom) (x : Bool) → is_target_domain program dom ≡ x → Contains rel.domains dom
        → (x || template_meets program ms dom.template b) ≡ (x || template_meets program ns dom.template c)
    domain_by dom true is within = refl
    domain_by dom false is within = domain_template dom dom.template refl (record { is = within; source = other_model dom is })

    subject_same : (v : ℕ) (e : Typed) → Contains rel.whens (conjuncts.Equation v e) → value_at b v ≡ value_at c v
    subject_same v e within = both.same v (subject_outside program rel (IsUniversal program rel) rel.whens variables (meant number rel found).whens v e within)

    conjunct_same : (x : Conj) → Contains rel.whens x → conjunct_holds program ms b x ≡ conjunct_holds program ns c x
    conjunct_same (conjuncts.Cond e) within = ap (λ o. is_known_true (boolean_of o)) (expression_same e (IsSourceExpression.asked (conjuncts.Cond e) within refl))
    conjunct_same (conjuncts.Equation v e) within =
        ap (λ o. are_one (value_at b v) (datum_of o)) (expression_same e (IsSourceExpression.asked (conjuncts.Equation v e) within refl))
        ∙ ap (λ o. are_one o (datum_of (value_for program ns e c))) (subject_same v e within)
    conjunct_same (conjuncts.Call n args) within = refl

    pub domains_same : list_all (source_meets program ms b) rel.domains ≡ list_all (source_meets program ns c) rel.domains
    domains_same = all_same (source_meets program ms b) (source_meets program ns c) rel.domains (λ dom within. domain_by dom (is_target_domain program dom) refl within)

    pub whens_same : list_all (conjunct_holds program ms b) rel.whens ≡ list_all (conjunct_holds program ns c) rel.whens
    whens_same = all_same (conjunct_holds program ms b) (conjunct_holds program ns c) rel.whens conjunct_same

  -- bindings that have the same values but for objects of the target meet the source alike
  pub meets_same : (number : ℕ) (rel : Rel) → AreMeant program → slice_get program.rels number ≡ Some rel → KeepsToSources program rel → (b c : Values)
      → AgreeOnSources program rel b c → length b ≡ length rel.vars → meets_without_target program ms rel b ≡ meets_without_target program ns rel c
  meets_same number rel meant found keeps b c both places =
      guarded (have_values program ms rel (source_variables program rel) b) (list_all (source_meets program ms b) rel.domains) (list_all (source_meets program ns c) rel.domains)
      (list_all (conjunct_holds program ms b) rel.whens) (list_all (conjunct_holds program ns c) rel.whens)
      (λ have. domains_same number rel meant found keeps b c both places have) (λ have. whens_same number rel meant found keeps b c both places have)
      ∙ ap (λ x. x && list_all (source_meets program ns c) rel.domains && list_all (conjunct_holds program ns c) rel.whens) (values_same rel b c both)

  -- a binding of the source is one over the other models too
  pub source_kept : (number : ℕ) (rel : Rel) → AreMeant program → slice_get program.rels number ≡ Some rel → KeepsToSources program rel → (roots b : Values)
      → SourceWithoutTarget program ms rel roots b → SourceWithoutTarget program ns rel roots b
  source_kept number rel meant found keeps roots b source = record {
    places = source.places;
    extends = source.extends;
    no_others = source.no_others;
    meets = subst IsTrue (meets_same number rel meant found keeps b b (record { places = refl; same = λ v outside. refl }) source.places) source.meets;
  }

  -- and a binding that has the same values but for objects of the target, which it has from other roots
  pub source_moved : (number : ℕ) (rel : Rel) → AreMeant program → slice_get program.rels number ≡ Some rel → KeepsToSources program rel → (roots others b c : Values)
      → AgreeOnSources program rel roots others → AgreeOnSources program rel b c
      → ((v : ℕ) → is_target_variable program rel v ≡ true → value_at c v ≡ value_at others v)
      → SourceWithoutTarget program ms rel roots b → SourceWithoutTarget program ns rel others c
  source_moved number rel meant found keeps roots others b c given both handed source = record {
    places = sym both.places ∙ source.places;
    extends = λ v d at. extends v d (is_target_variable program rel v) refl at;
    no_others = λ v d at. none v d (is_target_variable program rel v) refl at;
    meets = subst IsTrue (meets_same number rel meant found keeps b c both source.places) source.meets;
  }
    where
      extends : (v : ℕ) (d : Datum) (x : Bool) → is_target_variable program rel v ≡ x → value_at others v ≡ Some d → value_at c v ≡ Some d
      extends v d true target at = handed v target ∙ at
      extends v d false outside at = sym (both.same v outside) ∙ source.extends v d (given.same v outside ∙ at)

      by : (v : ℕ) (d : Datum) → is_target_variable program rel v ≡ false → Contains (source_variables program rel) v ⊎ (value_at roots v ≡ Some d)
          → Contains (source_variables program rel) v ⊎ (value_at others v ≡ Some d)
      by v d outside (inl within) = inl within
      by v d outside (inr at) = inr (sym (given.same v outside) ∙ at)

      none : (v : ℕ) (d : Datum) (x : Bool) → is_target_variable program rel v ≡ x → value_at c v ≡ Some d → Contains (source_variables program rel) v ⊎ (value_at others v ≡ Some d)
      none v d true target at = inr (sym (handed v target) ∙ at)
      none v d false outside at = by v d outside (source.no_others v d (both.same v outside ∙ at))

  pub have_of : (rel : Rel) (b : Values) → IsTrue (meets_without_target program ms rel b) → have_values program ms rel (source_variables program rel) b ≡ true
  have_of rel b h =
      let outer = and_parts (have_values program ms rel (source_variables program rel) b && list_all (source_meets program ms b) rel.domains) (list_all (conjunct_holds program ms b) rel.whens) h in
      (and_parts (have_values program ms rel (source_variables program rel) b) (list_all (source_meets program ms b) rel.domains) outer.0).0

  -- and where only the variables for objects of the target have such objects contains_at the roots, only these have them in it
  pub source_apart : (rel : Rel) (roots b : Values) → IsApart program rel roots → SourceWithoutTarget program ms rel roots b → IsApart program rel b
  source_apart rel roots b apart source v d outside at = by (source.no_others v d at)
    where
      by : Contains (source_variables program rel) v ⊎ (value_at roots v ≡ Some d) → IsOfSources program.target d
      by (inl c) = had rel b v d (have_of rel b source.meets) c at
      by (inr is) = apart v d outside is
