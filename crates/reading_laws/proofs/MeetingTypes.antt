-- The values of an entry, and those that its equations give, are of their types and no objects of the target.
use Rattle.std.specs.Prelude.{◌≡◌, ◌≢◌, ◌⊎◌, ◌<◌, ◌==◌, ◌&&◌, ℕ, zero, suc, Bool, true, false, not, List, [], ◌∷◌, map, length, Option, None, Some, slice_get, Contains, IsTrue, if◌then◌else◌}
use Rattle.std.specs.List.{list_all}
use Rattle.std.specs.Option.{option_map}
use Rattle.std.proofs.Common.{refl, sym, ap, subst, ◌∙◌, arith, inl, inr, eq-eqb}
use Rattle.std.proofs.lemmas.Bool.{and_parts, true≢false, eqb-true}
use Rattle.std.proofs.lemmas.Option.{slice_get-map}
use Rattle.std.proofs.lemmas.List.FromFn.{length-range_with_len, get_or-map-range_with_len}
use Rattle.mof_metamodel.specs.declared.desc.MetaDesc.{MetaDesc}
use Rattle.object_tables.specs.Models.{ModelData}
use Rattle.object_tables.proofs.ListLemmas.{Contains-filter}
use Rattle.object_tables.proofs.SlotLemmas.{Contains-to_filter}
use Rattle.qv_syntax.specs.declared.type_tree.Kind.{Kind}
use Rattle.qv_syntax.specs.declared.ty.Ty.{Ty, out-Ty, out-roll-Ty}
use Rattle.qv_syntax.specs.declared.ty.Ty.TheOpen as of
use Rattle.qv_syntax.specs.declared.ty.Ty.TheVariants as types
use Rattle.qv_syntax.specs.declared.typed.Typed.{Typed}
use Rattle.qv_syntax.specs.declared.typed.Node.TheVariants as nodes
use Rattle.qv_syntax.specs.declared.program.Program.{Program}
use Rattle.qv_syntax.specs.declared.program.Rel.{Rel}
use Rattle.qv_syntax.specs.declared.program.Var.{Var}
use Rattle.qv_syntax.specs.declared.program.Dom.{Dom}
use Rattle.qv_syntax.specs.declared.program.Conj.{Conj}
use Rattle.qv_syntax.specs.declared.program.Conj.TheVariants as conjuncts
use Rattle.qv_syntax.specs.Types.{IsSingleType}
use Rattle.qv_syntax.specs.TypeRules.{AreComparable}
use Rattle.qv_syntax.specs.TypedTrees.{Typing}
use Rattle.qv_syntax.specs.ProgramTypes.{typing_of, variables_of, IsEquationTyped}
use Rattle.qv_syntax.specs.Parts.{Names, IsNested}
use Rattle.qv_syntax.specs.Relations.{IsTargetDomain, IsSourceDomain, IsModelDomain, IsTemplateOf, IsUniversal, OccursInTemplates, IsDataVariable, Says}
use Rattle.qv_syntax.specs.Directions.{IsMeant}
use Rattle.qvtr_semantics.specs.declared.datum.Datum.{Datum}
use Rattle.qvtr_semantics.specs.declared.out.Out.{Out}
use Rattle.qvtr_semantics.specs.declared.out.Out.TheVariants as outs
use Rattle.qvtr_semantics.specs.Outs.{datum_of}
use Rattle.qvtr_semantics.specs.Objects.{Setting}
use Rattle.qvtr_semantics.specs.Expressions.{Scope, setting, value, variable, scope_of, bound_value}
use Rattle.qvtr_semantics.specs.Templates.{value_at}
use Rattle.qvtr_semantics.specs.Bindings.{is_model, is_value_for, have_values, is_target_domain, source_meets, conjunct_holds}
use Rattle.template_match.specs.Sources.{is_of_target, is_target_variable, source_variables}
use Rattle.template_match.proofs.ListLaws.{list_all_at}
use Rattle.evaluation_laws.specs.TypedValues.{IsDatumOfTyping, IsValueIn, IsValueOf, anywhere}
use Rattle.evaluation_laws.specs.Literals.{HasStorableLiterals}
use Rattle.evaluation_laws.specs.Literals as literals
use Rattle.evaluation_laws.specs.Evaluable.{IsEvaluable}
use Rattle.evaluation_laws.specs.Scopes.{HasValuesOfTypes, of_its_model}
use Rattle.evaluation_laws.specs.Sources.{MeetsSource}
use Rattle.evaluation_laws.specs.Held.{IsAllowed}
use Rattle.evaluation_laws.proofs.BoundLaws.{right_within, source_valued, domain_meets}
use Rattle.evaluation_laws.proofs.ProgramLaws.{types_kept}
use Rattle.mof_metamodel.proofs.Facts.{contains_at}
use Rattle.evaluation_laws.proofs.SlotLaws.{IsNoClass, variable_value, compared_is, one_type, where_value}
use Rattle.evaluation_laws.proofs.TypeLaws.{within_through}
use Rattle.evaluation_laws.proofs.ValueLaws.{datum_elsewhere}
use Rattle.repair_semantics.specs.declared.term.TermValue.{TermValue}
use Rattle.repair_semantics.specs.declared.term.TermValue.TheVariants as values
use Rattle.repair_semantics.specs.EntryValues.{TermValues, value_of, data_in}
use Rattle.repair_semantics.specs.Making.{variables, equation_of, by_equation, scope_within, entry_scope}
use Rattle.repair_semantics.specs.Entries.{TermSource}
use Rattle.source_laws.specs.SourceValues.{IsOfSources, HasNoTarget}
use Rattle.source_laws.specs.SourceRelations.{IsSourceExpression, KeepsToSources}
use Rattle.source_laws.proofs.BindingLaws.{found_within, had, have_of}
use Rattle.source_laws.proofs.RuleLaws.{target_is, model_domain}
use Rattle.reading_laws.specs.Roots.{HasRootsOf}
use Rattle.reading_laws.proofs.MeetingValues.{nothing_some, within_terms, datum_from, datum_to}
use Rattle.std.proofs.lemmas.Option.{same_Some}
use Rattle.reading_laws.proofs.MeetingEntries.{datum_is_source}

-- ---- scopes

pub at_scope : (rel : Rel) (f : ℕ → Out) (v : ℕ) → v < length rel.vars → variable (map f (variables rel)) v ≡ f v
at_scope rel f v below = get_or-map-range_with_len f 0 (length rel.vars) v v outs.Invalid below (omega arith)

pub length_map : {X Y : Type 0} (f : X → Y) (xs : List X) → length (map f xs) ≡ length xs
length_map f [] = refl
length_map f (x ∷ xs) = ap suc (length_map f xs)

pub length_variables : (rel : Rel) → length (variables rel) ≡ length rel.vars
length_variables rel = length-range_with_len 0 (length rel.vars)

pub below_vars : (rel : Rel) (v : ℕ) (var : Var) → slice_get rel.vars v ≡ Some var → v < length rel.vars
below_vars rel v var found = in_list rel.vars v found
  where
    in_list : (vars : List Var) (n : ℕ) → slice_get vars n ≡ Some var → n < length vars
    in_list [] n h = absurd (nothing_some var h)
    in_list (x ∷ vars) zero h = omega arith
    in_list (x ∷ vars) (suc n) h = let more = in_list vars n h in omega (arith, more)

-- the equation of a variable stands in the clause
pub equation_found : (cs : List Conj) (v : ℕ) (e : Typed) → equation_of cs v ≡ Some e → (p : ℕ) × (slice_get cs p ≡ Some (conjuncts.Equation v e))
equation_found [] v e h = absurd (nothing_some e h)
equation_found (conjuncts.Equation w x ∷ cs) v e h = by (equation_found cs v e) (w == v) refl h
  where
    by : (equation_of cs v ≡ Some e → (p : ℕ) × (slice_get cs p ≡ Some (conjuncts.Equation v e))) → (b : Bool) → (w == v) ≡ b → (if b then Some x else equation_of cs v) ≡ Some e → (p : ℕ) × (slice_get (conjuncts.Equation w x ∷ cs) p ≡ Some (conjuncts.Equation v e))
    by rest true same is = (0, ap (λ u. Some (conjuncts.Equation u x)) (eqb-true w v same) ∙ ap (λ y. Some (conjuncts.Equation v y)) (same_Some x e is))
    by rest false same is = let (p, at) = rest is in (suc p, at)
equation_found (conjuncts.Cond x ∷ cs) v e h = let (p, at) = equation_found cs v e h in (suc p, at)
equation_found (conjuncts.Call n args ∷ cs) v e h = let (p, at) = equation_found cs v e h in (suc p, at)

-- ---- a value that may be compared with one of a data type is of the type

abbrev collection_layer : of.Ty-F Ty → Bool
collection_layer (of.Coll kind inner) = true
collection_layer l = false

null_is_none : (kind : Kind) (inner : Ty) → types.Null ≡ types.Coll kind inner → ⊥
null_is_none kind inner h =
    let null : collection_layer (out-Ty types.Null) ≡ false = ap (λ t. collection_layer (out-Ty t)) (sym types.rolls-Null) ∙ ap collection_layer (out-roll-Ty of.Null) in
    let collection : collection_layer (out-Ty (types.Coll kind inner)) ≡ true =
    ap (λ t. collection_layer (out-Ty t)) (sym (types.rolls-Coll kind inner)) ∙ ap collection_layer (out-roll-Ty (of.Coll kind inner)) in
    true≢false (sym collection ∙ sym (ap (λ t. collection_layer (out-Ty t)) h) ∙ null)

value_compared : (metas : List MetaDesc) (program : Program) (sources : List ModelData) (over : IsEvaluable metas program sources) (ty given : Ty) → IsSingleType metas ty → IsNoClass ty → AreComparable metas ty given
    → (x : Out) → IsValueOf metas (setting program sources) given x → IsValueOf metas (setting program sources) ty x
value_compared metas program sources over ty given single none compared (outs.One d) is = compared_is metas program sources over.kept over.well over.texts ty given single none compared d is
value_compared metas program sources over ty given single none compared (outs.Many kind ds) is = absurd (by compared)
  where
    no_collection : (k : Kind) (inner : Ty) → ty ≡ types.Coll k inner → ⊥
    no_collection k inner same = subst (IsSingleType metas) same single

    by : AreComparable metas ty given → ⊥
    by (inl null) = subst (IsSingleType metas) null single
    by (inr (inl null)) = null_is_none kind is.0 (sym null ∙ is.1)
    by (inr (inr (inl related))) = no_collection kind is.0 (one_type metas ty given none related ∙ is.1)
    by (inr (inr (inr alike))) = no_collection alike.kind alike.one alike.first
value_compared metas program sources over ty given single none compared outs.Null is = tt
value_compared metas program sources over ty given single none compared outs.Invalid is = tt

module _ (metas : List MetaDesc) (program : Program) (sources : List ModelData) (over : IsEvaluable metas program sources)
    (place : ℕ) (rel : Rel) (found : slice_get program.rels place ≡ Some rel) where
  abbrev meant : IsMeant program place rel
  meant = over.well.relations place rel found

  -- the root of a target domain is a variable of the target
  pub target_root_is : (dom : Dom) → IsTargetDomain program rel dom → is_target_variable program rel dom.root ≡ true
  target_root_is dom of =
      let (t, has, root) = (meant.domains.shaped dom of.is).shaped program.target of.target in
      let whole : IsTemplateOf dom t = record { root = t; has = has; nested = IsNested.whole t } in
      let d : IsModelDomain program rel dom = model_domain metas program over.well place rel found dom t of.is whole in
      let declared = meant.domains.declared dom d t whole in
      let model : declared.var.model ≡ Some program.target = declared.of_model ∙ sym d.of_model ∙ of.target in
      ap (is_target_variable program rel) (sym root) ∙ ap (is_of_target program) declared.found ∙ ap (λ x. is_model x program.target) model ∙ eq-eqb program.target program.target refl

  pub source_domain : (dom : Dom) → Contains rel.domains dom → is_target_domain program dom ≡ false → IsSourceDomain program rel dom
  source_domain dom among outside = record {
    is = among;
    source = λ is. true≢false (sym (eq-eqb program.target program.target refl) ∙ sym (ap (λ m. is_model m program.target) is) ∙ outside);
  }

  module _ (keeps : KeepsToSources program rel) (roots b : TermValues) (source : TermSource program sources rel roots b) (h : HasRootsOf metas program sources rel roots) where
    abbrev s : Setting
    s = setting program sources

    abbrev asked : ℕ → Bool
    asked v = not (is_target_variable program rel v)

    -- ---- universal variables

    pub have : have_values program sources rel (source_variables program rel) (data_in b) ≡ true
    have = have_of program sources sources (λ m other. refl) rel (data_in b) source.source.meets

    root_universal : (v : ℕ) (x : TermValue) → value_of roots v ≡ Some x → is_target_variable program rel v ≡ false → Contains rel.universal v
    root_universal v x at outside =
        let (dom, among, root) = h.of_domains v x at in by dom among root (is_target_domain program dom) refl
      where
        by : (dom : Dom) → Contains rel.domains dom → dom.root ≡ v → (y : Bool) → is_target_domain program dom ≡ y → Contains rel.universal v
        by dom among root true of =
            absurd (true≢false (sym (target_root_is dom (record { is = among; target = target_is program.target dom.model of })) ∙ ap (is_target_variable program rel) root ∙ outside))
        by dom among root false of =
            let below : v < length rel.vars = subst (λ n. v < n) source.places (within_terms b v x (source.extends v x at)) in
            let (var, there) = found_within rel.vars v below in
            (meant.variables.universal v var there).1 (IsUniversal.domain dom (source_domain dom among of) (OccursInTemplates.root root))

    -- a variable that has a datum is universal
    pub datum_universal : (v : ℕ) (d : Datum) → value_of b v ≡ Some (values.Val d) → Contains rel.universal v
    datum_universal v d at = by (source.source.no_others v d (datum_to b v d at))
      where
        by : Contains (source_variables program rel) v ⊎ (value_at (data_in roots) v ≡ Some d) → Contains rel.universal v
        by (inl c) = Contains-filter asked rel.universal v c
        by (inr root) = root_universal v (values.Val d) (datum_from roots v d root) (datum_is_source metas program sources rel roots b source h v d at)

    -- and the datum is no object of the target
    pub datum_apart : (v : ℕ) (d : Datum) → value_of b v ≡ Some (values.Val d) → IsOfSources program.target d
    datum_apart v d at =
        let among = Contains-to_filter asked rel.universal v (ap not (datum_is_source metas program sources rel roots b source h v d at)) (datum_universal v d at) in
        had program sources sources (λ m other. refl) rel (data_in b) v d have among (datum_to b v d at)

    pub scope_apart : (v : ℕ) → HasNoTarget program.target (variable (scope_of (data_in b)) v)
    scope_apart v = subst (HasNoTarget program.target) (variable_value (data_in b) v) (by (value_at (data_in b) v) refl)
      where
        by : (x : Option Datum) → value_at (data_in b) v ≡ x → HasNoTarget program.target (bound_value x)
        by None at = tt
        by (Some d) at = datum_apart v d (datum_from b v d at)

    -- ---- types

    says_names : (c : Conj) (v : ℕ) (e : Typed) (w : ℕ) → Contains rel.whens c → Says c v e → Names e w → asked w ≡ true
    says_names c v e w there (Says.equation _ _) names = ap not (keeps.names e (IsSourceExpression.asked (conjuncts.Equation v e) there refl) w names)
    says_names c v e w there (Says.condition _ _ ty own link) names =
        ap not (keeps.names _ (IsSourceExpression.asked _ there refl) w (names.0, within_through _ e (record { ty = names.0; node = nodes.Variable w }) (right_within ty own link v e) names.1))

    -- what meets the source without the variables for objects of the target
    pub source_parts : MeetsSource program sources rel (λ v. IsTrue (asked v)) (data_in roots) (data_in b)
    source_parts =
        let outer = and_parts (have_values program sources rel (source_variables program rel) (data_in b) && list_all (source_meets program sources (data_in b)) rel.domains)
        (list_all (conjunct_holds program sources (data_in b)) rel.whens) source.source.meets in
        let inner = and_parts (have_values program sources rel (source_variables program rel) (data_in b)) (list_all (source_meets program sources (data_in b)) rel.domains) outer.0 in
        record {
          places = source.source.places;
          extends = source.source.extends;
          values = λ v is universal.
              list_all_at (λ w. is_value_for (setting program sources) (slice_get rel.vars w) (value_at (data_in b) w)) (source_variables program rel) v inner.0 (Contains-to_filter asked rel.universal v is universal);
          domains = domain_meets program sources rel (data_in b) inner.1;
          whens = λ c there. list_all_at (conjunct_holds program sources (data_in b)) rel.whens c outer.1 there;
          templates = λ dom t src of. ap not (keeps.templates dom t src of);
          named = says_names;
        }

    pub datum_typed : (v : ℕ) (var : Var) (d : Datum) → slice_get rel.vars v ≡ Some var → value_of b v ≡ Some (values.Val d) → IsDatumOfTyping metas s (typing_of var) d
    datum_typed v var d there at =
        source_valued metas program sources over.kept over.well over.texts place rel found (data_in roots) (data_in b) (λ w. IsTrue (asked w)) source_parts h.given v
        ((meant.variables.universal v var there).0 (datum_universal v d at)) (ap not (datum_is_source metas program sources rel roots b source h v d at)) var d there (datum_to b v d at)

    abbrev before : Scope
    before = scope_of (data_in b)

    before_typed : (v : ℕ) (var : Var) → slice_get rel.vars v ≡ Some var → IsValueIn metas s anywhere var.ty (variable before v)
    before_typed v var there = subst (IsValueIn metas s anywhere var.ty) (variable_value (data_in b) v) (by (value_at (data_in b) v) refl)
      where
        by : (x : Option Datum) → value_at (data_in b) v ≡ x → IsValueIn metas s anywhere var.ty (bound_value x)
        by None at = tt
        by (Some d) at = datum_elsewhere metas s (of_its_model var.model) anywhere (λ k is. tt) var.ty d (datum_typed v var d there (datum_from b v d at))

    pub length_within : (n : ℕ) → length (scope_within program sources rel before n) ≡ length rel.vars
    length_within zero = length_map bound_value (data_in b) ∙ source.source.places
    length_within (suc n) =
        length_map (λ v. by_equation program sources (scope_within program sources rel before n) (variable before v) (equation_of rel.wheres v)) (variables rel) ∙ length_variables rel

    equation_typed : (n v : ℕ) (var : Var) (p : ℕ) (e : Typed) → slice_get rel.vars v ≡ Some var → slice_get rel.wheres p ≡ Some (conjuncts.Equation v e)
        → HasValuesOfTypes metas s e (variables_of rel) (scope_within program sources rel before n) → IsValueIn metas s anywhere var.ty (value program sources e (scope_within program sources rel before n))
    equation_typed n v var p e there at valued =
        let among = contains_at program.rels place rel found in
        let within = contains_at rel.wheres p (conjuncts.Equation v e) at in
        let typed : IsEquationTyped metas program rel v e = (over.well.typed.relations rel among).wheres (conjuncts.Equation v e) within in
        let stored : HasStorableLiterals e = over.texts.relations rel e among (literals.IsExpressionOf.of_where (conjuncts.Equation v e) within refl) in
        let is_data : IsDataVariable rel v = (meant.wheres.are p v e at).0 in
        let one : typed.var ≡ var = same_Some typed.var var (sym typed.found ∙ there) in
        let other : is_data.var ≡ var = same_Some is_data.var var (sym is_data.found ∙ there) in
        let none : IsNoClass var.ty = λ m class same. is_data.data_type m class (ap (λ (x : Var). x.ty) other ∙ same) in
        let single : IsSingleType metas var.ty = (over.well.numbers.relations rel among).vars.types var (contains_at rel.vars v var there) in
        let compared : AreComparable metas var.ty typed.typing.ty = subst (λ (x : Var). AreComparable metas x.ty typed.typing.ty) one typed.compared in
        value_compared metas program sources over var.ty typed.typing.ty single none compared (value program sources e (scope_within program sources rel before n))
        (types_kept metas program sources over.kept over.well.typed.queries over.texts (variables_of rel) e typed.typing (scope_within program sources rel before n) stored valued typed.typed)

    scope_valued : (e : Typed) (x : Scope) → length x ≡ length rel.vars → ((w : ℕ) (other : Var) → slice_get rel.vars w ≡ Some other → IsValueIn metas s anywhere other.ty (variable x w))
        → HasValuesOfTypes metas s e (variables_of rel) x
    scope_valued e x long all = record { places = long ∙ sym (length_map typing_of rel.vars); values = λ w t told names. by w t told (slice_get rel.vars w) refl }
      where
        by : (w : ℕ) (t : Typing) → slice_get (variables_of rel) w ≡ Some t → (o : Option Var) → slice_get rel.vars w ≡ o → IsValueIn metas s anywhere t.ty (variable x w)
        by w t told None at = absurd (nothing_some t (sym (ap (option_map typing_of) at) ∙ sym (slice_get-map typing_of rel.vars w) ∙ told))
        by w t told (Some other) at =
            let same : typing_of other ≡ t = same_Some (typing_of other) t (sym (ap (option_map typing_of) at) ∙ sym (slice_get-map typing_of rel.vars w) ∙ told) in
            subst (λ (y : Typing). IsValueIn metas s anywhere y.ty (variable x w)) same (all w other at)

    -- the values that equations give are of the types of their variables
    mutual_typed : (n : ℕ) (v : ℕ) (var : Var) → slice_get rel.vars v ≡ Some var → IsValueIn metas s anywhere var.ty (variable (scope_within program sources rel before n) v)
    mutual_typed zero v var there = before_typed v var there
    mutual_typed (suc n) v var there =
        let x : Scope = scope_within program sources rel before n in
        subst (IsValueIn metas s anywhere var.ty) (sym (at_scope rel (λ w. by_equation program sources x (variable before w) (equation_of rel.wheres w)) v (below_vars rel v var there)))
        (by (equation_of rel.wheres v) refl (λ w other at. mutual_typed n w other at))
      where
        by : (o : Option Typed) → equation_of rel.wheres v ≡ o
            → ((w : ℕ) (other : Var) → slice_get rel.vars w ≡ Some other → IsValueIn metas s anywhere other.ty (variable (scope_within program sources rel before n) w))
            → IsValueIn metas s anywhere var.ty (by_equation program sources (scope_within program sources rel before n) (variable before v) o)
        by None is all = before_typed v var there
        by (Some e) is all = let (p, at) = equation_found rel.wheres v e is in equation_typed n v var p e there at (scope_valued e (scope_within program sources rel before n) (length_within n) all)

    -- the data of an entry are values of the types of its variables
    pub entry_typed : (e : Typed) → HasValuesOfTypes metas s e (variables_of rel) (entry_scope program sources rel b)
    entry_typed e = scope_valued e (entry_scope program sources rel b) (length_within (length rel.wheres)) (mutual_typed (length rel.wheres))

    -- what the equation of a variable gives it, it may have
    pub equation_allowed : (p v : ℕ) (e : Typed) (var : Var) (d : Datum) → slice_get rel.wheres p ≡ Some (conjuncts.Equation v e) → slice_get rel.vars v ≡ Some var
        → datum_of (value program sources e (entry_scope program sources rel b)) ≡ Some d → IsAllowed metas s var d
    equation_allowed p v e var d at there has =
        where_value metas program sources over.kept over.well over.texts place rel found p v e at (entry_scope program sources rel b) (entry_typed e) var there d has
