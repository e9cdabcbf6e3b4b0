-- A call gives the data variables of the called relation's roots values of their types (QVT 1.3, sections 7.3 and 7.10.2).
use Rattle.std.proofs.Common.{◌≡◌, ◌<◌, ℕ, zero, suc, List, [], ◌∷◌, map, length, replicate, Option, None, Some, refl, sym, ap, ◌∙◌, subst, inl, inr, arith}
use Rattle.std.specs.Prelude.{◌≢◌, slice_get, slice_set, Contains}
use Rattle.std.specs.Option.{option_map}
use Rattle.std.proofs.lemmas.Bool.{cases_eq}
use Rattle.std.proofs.lemmas.Option.{none-some, same_Some}
use Rattle.std.proofs.lemmas.List.{get_or-set_same, get_or-set_other}
use Rattle.mof_metamodel.specs.declared.desc.MetaDesc.{MetaDesc}
use Rattle.object_tables.specs.Models.{ModelData}
use Rattle.qv_syntax.specs.declared.ty.Ty.{Ty}
use Rattle.qv_syntax.specs.declared.typed.Typed.{Typed}
use Rattle.qv_syntax.specs.declared.program.Program.{Program}
use Rattle.qv_syntax.specs.declared.program.Rel.{Rel}
use Rattle.qv_syntax.specs.declared.program.Var.{Var}
use Rattle.qv_syntax.specs.declared.program.Dom.{Dom}
use Rattle.qv_syntax.specs.declared.program.Conj.TheVariants as conjuncts
use Rattle.qv_syntax.specs.Types.{AreRelated}
use Rattle.qv_syntax.specs.Relations.{IsDataVariable}
use Rattle.qv_syntax.specs.ProgramTypes.{typing_of, variables_of, IsGiven, AreGiven, IsCallTyped}
use Rattle.qv_syntax.specs.WellFormed.{IsWellFormed}
use Rattle.qvtr_semantics.specs.declared.datum.Datum.{Datum}
use Rattle.qvtr_semantics.specs.Outs.{datum_of, all_given}
use Rattle.qvtr_semantics.specs.Objects.{Setting}
use Rattle.qvtr_semantics.specs.Expressions.{Scope, setting, scope_of, value, value_for}
use Rattle.qvtr_semantics.specs.Templates.{Values}
use Rattle.qvtr_semantics.specs.Calls.{RelationCall, free, with_roots, call_with, call_of}
use Rattle.evaluation_laws.specs.TypedValues.{AreModels, IsDatumOf, IsDatumOfTyping, anywhere}
use Rattle.evaluation_laws.specs.Literals.{HasStorableLiterals, IsExpressionOf, HasStorableTexts}
use Rattle.evaluation_laws.specs.Scopes.{AreValued, HasValueOfType, AreRootsGiven, of_its_model, HasValuesOfTypes}
use Rattle.evaluation_laws.proofs.CollectionLaws.{later_in}
use Rattle.mof_metamodel.proofs.Facts.{contains_first}
use Rattle.mof_metamodel.proofs.Facts.{contains_at}
use Rattle.evaluation_laws.proofs.SlotLaws.{IsNoClass, data_anywhere, one_type, bound_types, datum_kept}

-- ---- lists

record Given (o : Option Datum) (os : List (Option Datum)) (ds : List Datum) : Type 0 where
  first : Datum
  more : List Datum
  is : o ≡ Some first
  are : all_given os ≡ Some more
  all : first ∷ more ≡ ds

given_by : (o : Option Datum) (os : List (Option Datum)) (rest : Option (List Datum)) (ds : List Datum) → all_given os ≡ rest → all_given (o ∷ os) ≡ Some ds → Given o os ds
given_by None os rest ds at is = absurd (none-some ds is)
given_by (Some d) os None ds at is = absurd (none-some ds (ap (option_map (λ ys. d ∷ ys)) (sym at) ∙ is))
given_by (Some d) os (Some es) ds at is = record { first = d; more = es; is = refl; are = at; all = same_Some (d ∷ es) ds (ap (option_map (λ ys. d ∷ ys)) (sym at) ∙ is) }

set_length : (xs : Values) (i : ℕ) (x : Option Datum) → length (slice_set xs i x) ≡ length xs
set_length [] i x = refl
set_length (y ∷ xs) zero x = refl
set_length (y ∷ xs) (suc i) x = ap suc (set_length xs i x)

replicate_length : (n : ℕ) (x : Option Datum) → length (replicate n x) ≡ n
replicate_length zero x = refl
replicate_length (suc n) x = ap suc (replicate_length n x)

-- ---- roots

module _ (metas : List MetaDesc) (s : Setting) (called : Rel) where
  -- each datum is of the type of the root at its place, if that is a data variable
  abbrev AreRootsOf : List Dom → List Datum → Type 0
  AreRootsOf [] [] = Unit {0}
  AreRootsOf (dom ∷ doms) (d ∷ ds) = ((var : Var) → slice_get called.vars dom.root ≡ Some var → IsNoClass var.ty → IsDatumOfTyping metas s (typing_of var) d) × AreRootsOf doms ds
  AreRootsOf doms ds = ⊥

  abbrev Good : Values → ℕ → Type 0
  Good values v = HasValueOfType metas s called values v

  -- a root that is set has its value
  set_good : (values : Values) (v : ℕ) (d : Datum) → v < length values → IsDataVariable called v
      → ((var : Var) → slice_get called.vars v ≡ Some var → IsNoClass var.ty → IsDatumOfTyping metas s (typing_of var) d) → Good (slice_set values v (Some d)) v
  set_good values v d within is_data is = record {
    var = is_data.var;
    found = is_data.found;
    datum = d;
    at = get_or-set_same values v (Some d) None within;
    is = is is_data.var is_data.found is_data.data_type;
  }

  other_good : (values : Values) (v w : ℕ) (d : Datum) → v ≢ w → Good values v → Good (slice_set values w (Some d)) v
  other_good values v w d other good = record {
    var = good.var;
    found = good.found;
    datum = good.datum;
    at = get_or-set_other values w v (Some d) None other ∙ good.at;
    is = good.is;
  }

  pub AreWithin : Values → List Dom → Type 0
  AreWithin values doms = (dom : Dom) → Contains doms dom → dom.root < length values

  rest_within : (values : Values) (dom : Dom) (doms : List Dom) (d : Datum) → AreWithin values (dom ∷ doms) → AreWithin (slice_set values dom.root (Some d)) doms
  unfolding AreWithin
  rest_within values dom doms d within other c =
      let below : other.root < length values = within other (later_in dom other doms c) in
      subst (λ n. other.root < n) (sym (set_length values dom.root (Some d))) below

  first_root : (values : Values) (dom : Dom) (doms : List Dom) → AreWithin values (dom ∷ doms) → dom.root < length values
  unfolding AreWithin
  first_root values dom doms within = within dom (contains_first dom doms)

  now_good : (values : Values) (dom : Dom) (doms : List Dom) (d : Datum) (v : ℕ) → ((var : Var) → slice_get called.vars dom.root ≡ Some var → IsNoClass var.ty → IsDatumOfTyping metas s (typing_of var) d)
      → AreWithin values (dom ∷ doms) → IsDataVariable called v → Good values v → Good (slice_set values dom.root (Some d)) v
  now_good values dom doms d v is within is_data good = elim (cases_eq v dom.root) [
    | inl same ↦ subst (Good (slice_set values dom.root (Some d))) (sym same) (set_good values dom.root d (first_root values dom doms within) (subst (IsDataVariable called) same is_data) is)
    | inr other ↦ other_good values v dom.root d other good
  ]

  stays_good : (values : Values) (doms : List Dom) (ds : List Datum) (v : ℕ) → AreRootsOf doms ds → AreWithin values doms → IsDataVariable called v → Good values v → Good (with_roots values doms ds) v
  stays_good values [] [] v are within is_data good = good
  stays_good values [] (d ∷ ds) v are within is_data good = absurd are
  stays_good values (dom ∷ doms) [] v are within is_data good = absurd are
  stays_good values (dom ∷ doms) (d ∷ ds) v are within is_data good =
      stays_good (slice_set values dom.root (Some d)) doms ds v are.1 (rest_within values dom doms d within) is_data (now_good values dom doms d v are.0 within is_data good)

  -- the roots have their values
  pub roots_good : (values : Values) (doms : List Dom) (ds : List Datum) → AreRootsOf doms ds → AreWithin values doms → (dom : Dom) → Contains doms dom → IsDataVariable called dom.root → Good (with_roots values doms ds) dom.root
  roots_good values [] ds are within dom (k, below, is) is_data = absurd (omega (arith, below))
  roots_good values (other ∷ doms) [] are within dom c is_data = absurd are
  roots_good values (other ∷ doms) (d ∷ ds) are within dom (zero, below, is) is_data =
      let own : IsDataVariable called other.root = subst (λ (x : Dom). IsDataVariable called x.root) (sym is) is_data in
      subst (λ (x : Dom). Good (with_roots values (other ∷ doms) (d ∷ ds)) x.root) is
      (stays_good (slice_set values other.root (Some d)) doms ds other.root are.1 (rest_within values other doms d within) own (set_good values other.root d (first_root values other doms within) own are.0))
  roots_good values (other ∷ doms) (d ∷ ds) are within dom (suc k, below, is) is_data =
      roots_good (slice_set values other.root (Some d)) doms ds are.1 (rest_within values other doms d within) dom (k, omega (arith, below), is) is_data

-- ---- calls

module _ (metas : List MetaDesc) (program : Program) (contents : List ModelData) (models : AreModels metas (setting program contents))
    (well : IsWellFormed metas program) (literals : HasStorableTexts program) (rel : Rel) (b : Values) where
  abbrev s : Setting
  s = setting program contents

  turned : (a c : Ty) → AreRelated metas a c → AreRelated metas c a
  turned a c (inl one) = inr one
  turned a c (inr other) = inl other

  argument_fits : (e : Typed) (root : Var) → IsGiven metas program rel (typing_of root) e → HasStorableLiterals e → (scope : Scope) → HasValuesOfTypes metas s e (variables_of rel) scope → IsNoClass root.ty
      → (d : Datum) → datum_of (value program contents e scope) ≡ Some d → IsDatumOfTyping metas s (typing_of root) d
  argument_fits e root given stored scope known none d has =
      let is = datum_kept metas program contents models well literals rel e given.typing scope stored known given.typed d has in
      let one : root.ty ≡ given.typing.ty = one_type metas root.ty given.typing.ty none (turned given.typing.ty root.ty given.fits.related) in
      data_anywhere metas s anywhere (of_its_model root.model) root.ty none d (subst (λ ty. IsDatumOf metas s ty d) (sym one) is)

  -- the argument at a place, with the root of the domain there
  record IsFor (called : Rel) (dom : Dom) (e : Typed) : Type 0 where
    root : Var
    found : slice_get called.vars dom.root ≡ Some root
    given : IsGiven metas program rel (typing_of root) e

  given_at : (called : Rel) (doms : List Dom) (es : List Typed) → AreGiven metas program rel called doms es → (place : ℕ) (dom : Dom) (e : Typed) → slice_get doms place ≡ Some dom → slice_get es place ≡ Some e → IsFor called dom e
  given_at called [] [] given place dom e one other = absurd (none-some dom one)
  given_at called [] (x ∷ es) given place dom e one other = absurd given
  given_at called (x ∷ doms) [] given place dom e one other = absurd given
  given_at called (x ∷ doms) (y ∷ es) given zero dom e one other =
      let of_first : IsFor called x y = record { root = given.0.0; found = given.0.1; given = given.0.2 } in
      subst (λ (z : Typed). IsFor called dom z) (same_Some y e other) (subst (λ (z : Dom). IsFor called z y) (same_Some x dom one) of_first)
  given_at called (x ∷ doms) (y ∷ es) given (suc place) dom e one other = given_at called doms es given.1 place dom e one other

  -- the value of an argument whose root is a data variable is of the variable's type
  argument_at : (number : ℕ) (args : List Typed) → IsCallTyped metas program rel number args → (called : Rel) → slice_get program.rels number ≡ Some called
      → (place : ℕ) (dom : Dom) (e : Typed) → slice_get called.domains place ≡ Some dom → slice_get args place ≡ Some e → IsDataVariable called dom.root → HasStorableLiterals e
      → (scope : Scope) → HasValuesOfTypes metas s e (variables_of rel) scope → (var : Var) → slice_get called.vars dom.root ≡ Some var
      → (d : Datum) → datum_of (value program contents e scope) ≡ Some d → IsDatumOfTyping metas s (typing_of var) d
  argument_at number args typed called found place dom e one other is_data stored scope known var at d has =
      let given : AreGiven metas program rel called called.domains args = subst (λ (r : Rel). AreGiven metas program rel r r.domains args) (same_Some typed.called called (sym typed.found ∙ found)) typed.given in
      let f = given_at called called.domains args given place dom e one other in
      let root : f.root ≡ var = same_Some f.root var (sym f.found ∙ at) in
      let data_root : is_data.var ≡ var = same_Some is_data.var var (sym is_data.found ∙ at) in
      argument_fits e var (subst (λ (x : Var). IsGiven metas program rel (typing_of x) e) root f.given) stored scope known (subst (λ (x : Var). IsNoClass x.ty) data_root is_data.data_type) d has

  pub when_argument : Contains program.rels rel → (number : ℕ) (args : List Typed) → Contains rel.whens (conjuncts.Call number args) → (called : Rel) → slice_get program.rels number ≡ Some called
      → (place : ℕ) (dom : Dom) (e : Typed) → slice_get called.domains place ≡ Some dom → slice_get args place ≡ Some e → IsDataVariable called dom.root
      → (scope : Scope) → HasValuesOfTypes metas s e (variables_of rel) scope → (var : Var) → slice_get called.vars dom.root ≡ Some var
      → (d : Datum) → datum_of (value program contents e scope) ≡ Some d → IsDatumOfTyping metas s (typing_of var) d
  when_argument among number args c called found place dom e one other is_data =
      argument_at number args ((well.typed.relations rel among).whens (conjuncts.Call number args) c) called found place dom e one other is_data
      (literals.relations rel e among (IsExpressionOf.of_when (conjuncts.Call number args) c (contains_at args place e other)))

  pub where_argument : Contains program.rels rel → (number : ℕ) (args : List Typed) → Contains rel.wheres (conjuncts.Call number args) → (called : Rel) → slice_get program.rels number ≡ Some called
      → (place : ℕ) (dom : Dom) (e : Typed) → slice_get called.domains place ≡ Some dom → slice_get args place ≡ Some e → IsDataVariable called dom.root
      → (scope : Scope) → HasValuesOfTypes metas s e (variables_of rel) scope → (var : Var) → slice_get called.vars dom.root ≡ Some var
      → (d : Datum) → datum_of (value program contents e scope) ≡ Some d → IsDatumOfTyping metas s (typing_of var) d
  where_argument among number args c called found place dom e one other is_data =
      argument_at number args ((well.typed.relations rel among).wheres (conjuncts.Call number args) c) called found place dom e one other is_data
      (literals.relations rel e among (IsExpressionOf.of_where (conjuncts.Call number args) c (contains_at args place e other)))

  -- the arguments of a call may be evaluated
  record IsArgument (e : Typed) : Type 0 where
    stored : HasStorableLiterals e
    valued : AreValued metas s rel e b

  arguments_fit : (called : Rel) (doms : List Dom) (es : List Typed) (ds : List Datum) → AreGiven metas program rel called doms es → ((e : Typed) → Contains es e → IsArgument e)
      → all_given (map (λ e. datum_of (value_for program contents e b)) es) ≡ Some ds → AreRootsOf metas s called doms ds
  arguments_fit called [] [] ds given each is = subst (AreRootsOf metas s called []) (same_Some [] ds is) tt
  arguments_fit called [] (e ∷ es) ds given each is = absurd given
  arguments_fit called (dom ∷ doms) [] ds given each is = absurd given
  arguments_fit called (dom ∷ doms) (e ∷ es) ds given each is =
      let g = given_by (datum_of (value_for program contents e b)) (map (λ x. datum_of (value_for program contents x b)) es)
      (all_given (map (λ x. datum_of (value_for program contents x b)) es)) ds refl is in
      let own = each e (contains_first e es) in
      subst (AreRootsOf metas s called (dom ∷ doms)) g.all (
        (λ var found none. argument_fits e var (subst (λ (x : Var). IsGiven metas program rel (typing_of x) e) (same_Some given.0.0 var (sym given.0.1 ∙ found)) given.0.2) own.stored (scope_of b) (bound_types metas s rel e b own.valued) none g.first g.is),
        arguments_fit called doms es g.more given.1 (λ x c. each x (later_in e x es c)) g.are,
      )

  roots_within : (called : Rel) → Contains program.rels called → AreWithin metas s called (free called) called.domains
  unfolding AreWithin
  roots_within called among dom c =
      subst (λ n. dom.root < n) (sym (replicate_length (length called.vars) None)) ((well.numbers.relations called among).roots dom c)

  call_gives : (number : ℕ) (args : List Typed) → IsCallTyped metas program rel number args → ((e : Typed) → Contains args e → HasStorableLiterals e × AreValued metas s rel e b)
      → (called : Rel) → slice_get program.rels number ≡ Some called → (call : RelationCall) → call_of program contents b number args ≡ Some call → AreRootsGiven metas s called call.roots
  call_gives number args typed each called found call made = by (all_given (map (λ e. datum_of (value_for program contents e b)) args)) refl
      (ap (λ x. call_with number x (all_given (map (λ e. datum_of (value_for program contents e b)) args))) (sym found) ∙ made)
    where
      given : AreGiven metas program rel called called.domains args
      given = subst (λ (r : Rel). AreGiven metas program rel r r.domains args) (same_Some typed.called called (sym typed.found ∙ found)) typed.given

      by : (os : Option (List Datum)) → all_given (map (λ e. datum_of (value_for program contents e b)) args) ≡ os → call_with number (Some called) os ≡ Some call → AreRootsGiven metas s called call.roots
      by None at is = absurd (none-some call is)
      by (Some ds) at is =
          let are = arguments_fit called called.domains args ds given (λ e c. record { stored = (each e c).0; valued = (each e c).1 }) at in
          subst (λ (r : RelationCall). AreRootsGiven metas s called r.roots) (same_Some (record { rel = number; roots = with_roots (free called) called.domains ds }) call is)
          (λ dom c is_data. roots_good metas s called (free called) called.domains ds are (roots_within called (contains_at program.rels number called found)) dom c is_data)

  pub when_call : Contains program.rels rel → (number : ℕ) (args : List Typed) → Contains rel.whens (conjuncts.Call number args) → ((e : Typed) → Contains args e → AreValued metas s rel e b)
      → (called : Rel) → slice_get program.rels number ≡ Some called → (call : RelationCall) → call_of program contents b number args ≡ Some call → AreRootsGiven metas s called call.roots
  when_call among number args c each called found call made = call_gives number args ((well.typed.relations rel among).whens (conjuncts.Call number args) c) (λ e there. (literals.relations rel e among (IsExpressionOf.of_when (conjuncts.Call number args) c there), each e there)) called found call made

  pub where_call : Contains program.rels rel → (number : ℕ) (args : List Typed) → Contains rel.wheres (conjuncts.Call number args) → ((e : Typed) → Contains args e → AreValued metas s rel e b)
      → (called : Rel) → slice_get program.rels number ≡ Some called → (call : RelationCall) → call_of program contents b number args ≡ Some call → AreRootsGiven metas s called call.roots
  where_call among number args c each called found call made = call_gives number args ((well.typed.relations rel among).wheres (conjuncts.Call number args) c) (λ e there. (literals.relations rel e among (IsExpressionOf.of_where (conjuncts.Call number args) c there), each e there)) called found call made
