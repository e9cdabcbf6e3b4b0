-- The variables that a binding of the source gives values have values of their types, by induction on the rules that bind them (QVT 1.3,
-- sections 7.2.1, 7.3 and 7.10.1).
use Rattle.std.proofs.Common.{◌≡◌, ◌==◌, ◌&&◌, ◌||◌, ◌⊎◌, ℕ, zero, suc, Bool, true, false, List, [], ◌∷◌, length, Option, None, Some, refl, sym, ap, ◌∙◌, subst, inl, inr, arith}
use Rattle.std.specs.Prelude.{◌≢◌, slice_get, slice_index_or, Contains}
use Rattle.std.specs.List.{list_all}
use Rattle.std.specs.Option.{option_map}
use Rattle.std.proofs.lemmas.Bool.{and_parts, true≢false, false≢true, eqb-true}
use Rattle.std.proofs.lemmas.Option.{none-some, same_Some, slice_get-map, slice_get-get_or}
use Rattle.mof_metamodel.specs.declared.desc.MetaDesc.{MetaDesc}
use Rattle.mof_metamodel.specs.declared.desc.ClassId.{ClassId}
use Rattle.object_tables.specs.Models.{ModelData}
use Rattle.qv_syntax.specs.declared.ty.Ty.{Ty}
use Rattle.qv_syntax.specs.declared.ty.Ty.TheVariants as types
use Rattle.qv_syntax.specs.declared.operator.Operator.TheVariants as operators
use Rattle.qv_syntax.specs.declared.typed.Typed.{Typed}
use Rattle.qv_syntax.specs.declared.typed.Node.{Node, fold-roll-Node, out-Node, out-roll-Node}
use Rattle.qv_syntax.specs.declared.typed.Node.TheVariants as nodes
use Rattle.qv_syntax.specs.declared.typed.Call.TheOpen as of
use Rattle.qv_syntax.specs.declared.typed.TypedInfix.{TypedInfix, fold-TypedInfix, fold-roll-TypedInfix}
use Rattle.qv_syntax.specs.declared.program.Program.{Program}
use Rattle.qv_syntax.specs.declared.program.Rel.{Rel}
use Rattle.qv_syntax.specs.declared.program.Var.{Var}
use Rattle.qv_syntax.specs.declared.program.Dom.{Dom}
use Rattle.qv_syntax.specs.declared.program.Tmpl.{Tmpl, out-Tmpl}
use Rattle.qv_syntax.specs.declared.program.Item.{Item}
use Rattle.qv_syntax.specs.declared.program.ItemValue.TheVariants as items
use Rattle.qv_syntax.specs.declared.program.Conj.{Conj}
use Rattle.qv_syntax.specs.declared.program.Conj.TheVariants as conjuncts
use Rattle.qv_syntax.specs.Types.{AreRelated}
use Rattle.qv_syntax.specs.TypeRules.{AreComparable}
use Rattle.qv_syntax.specs.TypedTrees.{Typing, IsTyped}
use Rattle.qv_syntax.specs.Parts.{IsWithin, Names, node_parts}
use Rattle.qv_syntax.specs.Relations.{IsModelDomain, IsSourceDomain, IsTemplateOf, OccursInTemplates, OccursInClause, IsUniversal, IsDataVariable, Says, IsItemAlone, IsBound}
use Rattle.qv_syntax.specs.Directions.{IsMeant}
use Rattle.qv_syntax.specs.ProgramTypes.{context_of, typing_of, variables_of, IsItemOfType}
use Rattle.qv_syntax.specs.WellFormed.{IsWellFormed}
use Rattle.qvtr_semantics.specs.declared.datum.Datum.{Datum}
use Rattle.qvtr_semantics.specs.declared.out.Out.{Out}
use Rattle.qvtr_semantics.specs.declared.out.Out.TheVariants as outs
use Rattle.qvtr_semantics.specs.Outs.{datum_of, boolean_of, truth}
use Rattle.qvtr_semantics.specs.Equality.{equal, is_known_true}
use Rattle.qvtr_semantics.specs.Objects.{Setting}
use Rattle.qvtr_semantics.specs.Expressions.{Scope, Meaning, Operated, Called, Queries, variable, operated, all_operated, node_meaning, typed_meaning, infix_meaning, call_meaning, postfix_meaning, meaning, queries_within, setting, scope_of, bound_value, value_for, is_true}
use Rattle.qvtr_semantics.specs.Templates.{Values, value_at, meets}
use Rattle.qvtr_semantics.specs.Bindings.{is_model, is_datum_for, is_value_for, have_values, is_target_domain, template_meets, source_meets, are_one, conjunct_holds, Source}
use Rattle.qvtr_semantics.proofs.ExpressionLaws.{node_of, typed_is, variable_is}
use Rattle.evaluation_laws.specs.TypedValues.{AreModels, IsDatumIn, IsDatumOfTyping, anywhere}
use Rattle.evaluation_laws.specs.Literals.{HasStorableLiterals, IsExpressionOf, HasStorableTexts}
use Rattle.evaluation_laws.specs.Sources.{MeetsSource}
use Rattle.evaluation_laws.specs.Scopes.{AreRootsGiven, IsValued, AreValued, of_its_model}
use Rattle.evaluation_laws.proofs.CollectionLaws.{later_in}
use Rattle.mof_metamodel.proofs.Facts.{contains_first}
use Rattle.evaluation_laws.proofs.TypeLaws.{within_through}
use Rattle.mof_metamodel.proofs.Facts.{contains_at}
use Rattle.evaluation_laws.proofs.NavigationLaws.{held_is}
use Rattle.evaluation_laws.proofs.SlotLaws.{IsNoClass, data_anywhere, one_type, compared_is, bound_types, datum_kept, variable_value, expression_of, at_null, at_expression, at_nested}
use Rattle.evaluation_laws.proofs.FormLaws.{variable_typed, chain_typed, link_typed}
use Rattle.evaluation_laws.proofs.DatumLaws.{datum_same}
use Rattle.evaluation_laws.proofs.MatchLaws.{matched, nested_matches, item_value}
use Rattle.evaluation_laws.proofs.SourceLaws.{object_valued}

-- ---- small facts

holds_at : {X : Type 0} (test : X → Bool) (xs : List X) → list_all test xs ≡ true → (x : X) → Contains xs x → test x ≡ true
holds_at test [] all x (k, within, is) = absurd (omega (arith, within))
holds_at test (y ∷ ys) all x (zero, within, is) = subst (λ z. test z ≡ true) is (and_parts (test y) (list_all test ys) all).0
holds_at test (y ∷ ys) all x (suc k, within, is) = holds_at test ys (and_parts (test y) (list_all test ys) all).1 x (k, omega (arith, within), is)

abbrev is_class_type : Ty → Bool
is_class_type (types.Class m class) = true
is_class_type ty = false

class_or_data : (ty : Ty) → ((m : ℕ) × (class : ClassId) × (ty ≡ types.Class m class)) ⊎ IsNoClass ty
class_or_data (types.Class m class) = inl (m, class, refl)
class_or_data ty = inr (λ m class same. false≢true (ap is_class_type same))

other_side : (a b : Bool) → a ≡ false → (a || b) ≡ true → b ≡ true
other_side true b wrong is = absurd (true≢false wrong)
other_side false b wrong is = is

the_one : (d : Datum) (o : Option Datum) → are_one (Some d) o ≡ true → o ≡ Some d
the_one d None is = absurd (false≢true is)
the_one d (Some e) is = ap (λ x. Some x) (sym (datum_same d e is))

-- what is equal to a datum is that datum
equal_one : (d : Datum) (y : Out) → is_known_true (boolean_of (truth (equal (outs.One d) y))) ≡ true → datum_of y ≡ Some d
equal_one d (outs.One e) is = ap (λ x. Some x) (sym (datum_same d e is))
equal_one d (outs.Many kind ds) is = absurd (false≢true is)
equal_one d outs.Null is = absurd (false≢true is)
equal_one d outs.Invalid is = absurd (false≢true is)

-- ---- a condition `v = e`

abbrev equation : Ty → Ty → Ty → ℕ → Typed → Typed
equation ty own link v e = record { ty = ty; node = nodes.Chain (record { ty = own; node = nodes.Variable v }) (record { operator = operators.Equal; right = e; ty = link } ∷ []) }

module _ (s : Setting) (q : Queries) where
  abbrev infix_of : TypedInfix → Operated
  infix_of = fold-TypedInfix Called Meaning Meaning Operated Called (call_meaning s) (node_meaning s q) typed_meaning infix_meaning postfix_meaning

  variable_meaning : (own : Ty) (v : ℕ) → meaning s q (record { ty = own; node = nodes.Variable v }) ≡ (λ (scope : Scope). variable scope v)
  variable_meaning own v = typed_is s q own (nodes.Variable v) ∙ ap (node_of s q) (sym (nodes.rolls-Variable v)) ∙ variable_is s q v

  equation_value : (ty own link : Ty) (v : ℕ) (e : Typed) (scope : Scope) → meaning s q (equation ty own link v e) scope ≡ truth (equal (variable scope v) (meaning s q e scope))
  equation_value ty own link v e scope =
      let first : Typed = record { ty = own; node = nodes.Variable v } in
      let l : TypedInfix = record { operator = operators.Equal; right = e; ty = link } in
      let node = nodes.Chain first (l ∷ []) in
      let opened = typed_is s q ty node ∙ ap (node_of s q) (sym (nodes.rolls-Chain first (l ∷ [])))
      ∙ fold-roll-Node Called Meaning Meaning Operated Called (call_meaning s) (node_meaning s q) typed_meaning infix_meaning postfix_meaning (of.Chain first (l ∷ [])) in
      let same : infix_of l ≡ record { operator = operators.Equal; right = meaning s q e } =
      fold-roll-TypedInfix Called Meaning Meaning Operated Called (call_meaning s) (node_meaning s q) typed_meaning infix_meaning postfix_meaning (record { operator = operators.Equal; right = e; ty = link }) in
      ap (λ (m : Meaning). m scope) opened
      ∙ ap (λ (m : Meaning). all_operated scope (m scope) (infix_of l ∷ [])) (variable_meaning own v)
      ∙ ap (λ (o : Operated). operated o.operator (variable scope v) (o.right scope)) same

pub right_within : (ty own link : Ty) (v : ℕ) (e : Typed) → IsWithin (equation ty own link v e) e
right_within ty own link v e =
    let first : Typed = record { ty = own; node = nodes.Variable v } in
    let l : TypedInfix = record { operator = operators.Equal; right = e; ty = link } in
    let same : node_parts (out-Node (nodes.Chain first (l ∷ []))) ≡ first ∷ e ∷ [] =
    ap (λ (n : Node). node_parts (out-Node n)) (sym (nodes.rolls-Chain first (l ∷ []))) ∙ ap node_parts (out-roll-Node (of.Chain first (l ∷ []))) in
    IsWithin.inside (equation ty own link v e) e e (subst (λ (ps : List Typed). Contains ps e) (sym same) (later_in first e (e ∷ []) (contains_first e []))) (IsWithin.whole e)

module _ (metas : List MetaDesc) (program : Program) (contents : List ModelData) (models : AreModels metas (setting program contents))
    (well : IsWellFormed metas program) (literals : HasStorableTexts program)
    (number : ℕ) (rel : Rel) (at : slice_get program.rels number ≡ Some rel) (roots b : Values) (Asked : ℕ → Type 0) (source : MeetsSource program contents rel Asked roots b)
    (given : rel.top ≡ false → AreRootsGiven metas (setting program contents) rel roots) where
  abbrev s : Setting
  s = setting program contents

  -- the variable has a value of its type, if it is one of a data type and has one
  abbrev Valued : ℕ → Type 0
  Valued v = (var : Var) (d : Datum) → slice_get rel.vars v ≡ Some var → value_at b v ≡ Some d → IsNoClass var.ty → IsDatumOfTyping metas s (typing_of var) d

  among : Contains program.rels rel
  among = contains_at program.rels number rel at

  abbrev meant : IsMeant program number rel
  meant = well.relations number rel at

  -- ---- what the binding meets

  -- a universal variable has a value that it may have
  may_have : (v : ℕ) → IsUniversal program rel v → Asked v → (var : Var) (d : Datum) → slice_get rel.vars v ≡ Some var → value_at b v ≡ Some d → is_datum_for s var d ≡ true
  may_have v universal asked var d found has =
      let told = source.values v asked ((meant.variables.universal v var found).1 universal) in
      ap (λ x. is_value_for s (Some var) x) (sym has) ∙ ap (λ x. is_value_for s x (value_at b v)) (sym found) ∙ told

  object : (v : ℕ) → IsUniversal program rel v → Asked v → (var : Var) (d : Datum) → slice_get rel.vars v ≡ Some var → value_at b v ≡ Some d → (m : ℕ) (class : ClassId) → var.ty ≡ types.Class m class
      → IsDatumOfTyping metas s (typing_of var) d
  object v universal asked var d found has m class same =
      object_valued metas program contents models var (meant.variables.models var (contains_at rel.vars v var found)) m class same d (may_have v universal asked var d found has)

  -- ---- the variables of an expression

  abbrev AreKnown : Typed → Type 0
  AreKnown e = (w : ℕ) → Names e w → IsDataVariable rel w → Valued w

  known : (e : Typed) → ((w : ℕ) → Names e w → IsUniversal program rel w) → ((w : ℕ) → Names e w → Asked w) → AreKnown e → AreValued metas s rel e b
  known e universal asked data_known = record {
    places = source.places;
    values = λ w names var d found has. elim (class_or_data var.ty) [
      | inl class ↦ object w (universal w names) (asked w names) var d found has class.0 class.1 class.2
      | inr none ↦ data_known w names (record { var = var; found = found; data_type = none }) var d found has none
    ];
  }

  -- ---- the two ways to say `v = e`

  typed_datum : (v : ℕ) (e : Typed) (t : Typing) (var : Var) → slice_get rel.vars v ≡ Some var → IsNoClass var.ty → IsTyped (context_of metas program) (variables_of rel) e t → AreComparable metas var.ty t.ty
      → HasStorableLiterals e → AreValued metas s rel e b → (d : Datum) → datum_of (value_for program contents e b) ≡ Some d → IsDatumOfTyping metas s (typing_of var) d
  typed_datum v e t var found none typed compared kept valued d has =
      let single = (well.numbers.relations rel among).vars.types var (contains_at rel.vars v var found) in
      data_anywhere metas s anywhere (of_its_model var.model) var.ty none d
      (compared_is metas program contents models well literals var.ty t.ty single none compared d (datum_kept metas program contents models well literals rel e t (scope_of b) kept (bound_types metas s rel e b valued) typed d has))

  -- the variables of a conjunct of when are universal
  universal_in : (v : ℕ) (c : Conj) (e : Typed) → Contains rel.whens c → Says c v e → (w : ℕ) → Names e w → IsUniversal program rel w
  universal_in v c e there (Says.equation _ _) w names = IsUniversal.when (OccursInClause.expression (conjuncts.Equation v e) e there refl names)
  universal_in v c e there (Says.condition _ _ ty own link) w names =
      let whole : Typed = equation ty own link v e in
      IsUniversal.when (OccursInClause.expression (conjuncts.Cond whole) whole there refl (names.0, within_through whole e (record { ty = names.0; node = nodes.Variable w }) (right_within ty own link v e) names.1))

  when_valued : (v : ℕ) (c : Conj) (e : Typed) → Contains rel.whens c → Says c v e → AreKnown e → (var : Var) (d : Datum) → slice_get rel.vars v ≡ Some var → value_at b v ≡ Some d → IsNoClass var.ty
      → IsDatumOfTyping metas s (typing_of var) d
  when_valued v c e there (Says.equation _ _) data_known var d found has none =
      let c : Conj = conjuncts.Equation v e in
      let kept = literals.relations rel e among (IsExpressionOf.of_when c there refl) in
      let valued = known e (universal_in v c e there (Says.equation v e)) (λ w names. source.named c v e w there (Says.equation v e) names) data_known in
      let holds = source.whens c there in
      let value : datum_of (value_for program contents e b) ≡ Some d =
      the_one d (datum_of (value_for program contents e b)) (ap (λ x. are_one x (datum_of (value_for program contents e b))) (sym has) ∙ holds) in
      let typed = (well.typed.relations rel among).whens c there in
      let one : typed.var ≡ var = same_Some typed.var var (sym typed.found ∙ found) in
      typed_datum v e typed.typing var found none typed.typed (subst (λ (x : Var). AreComparable metas x.ty typed.typing.ty) one typed.compared) kept valued d value
  when_valued v c e there (Says.condition _ _ ty own link) data_known var d found has none =
      let whole : Typed = equation ty own link v e in
      let c : Conj = conjuncts.Cond whole in
      let inside = right_within ty own link v e in
      let kept : HasStorableLiterals e = λ u text w. literals.relations rel whole among (IsExpressionOf.of_when c there refl) u text (within_through whole e (record { ty = u; node = nodes.Str text }) inside w) in
      let valued = known e (universal_in v c e there (Says.condition v e ty own link)) (λ w names. source.named c v e w there (Says.condition v e ty own link) names) data_known in
      let holds : is_true program contents whole b ≡ true = source.whens c there in
      let q : Queries = queries_within program.queries s (length program.queries) in
      let value : datum_of (value_for program contents e b) ≡ Some d =
      equal_one d (value_for program contents e b)
      (ap (λ x. is_known_true (boolean_of (truth (equal x (value_for program contents e b))))) (ap bound_value (sym has) ∙ variable_value b v)
      ∙ ap (λ x. is_known_true (boolean_of x)) (sym (equation_value s q ty own link v e (scope_of b))) ∙ holds) in
      let typed = (well.typed.relations rel among).whens c there in
      let first : Typed = record { ty = own; node = nodes.Variable v } in
      let l : TypedInfix = record { operator = operators.Equal; right = e; ty = link } in
      let links = chain_typed (context_of metas program) (variables_of rel) whole typed.typing typed.typed first (l ∷ []) ty refl in
      let second = link_typed (context_of metas program) (variables_of rel) links.typing.ty l links.last links.chained in
      let of_variable : slice_get (variables_of rel) v ≡ Some links.typing = variable_typed (context_of metas program) (variables_of rel) first links.typing links.typed v own refl in
      let one : typing_of var ≡ links.typing = same_Some (typing_of var) links.typing (ap (option_map typing_of) (sym found) ∙ sym (slice_get-map typing_of rel.vars v) ∙ of_variable) in
      typed_datum v e second.typing var found none second.typed (subst (λ (x : Typing). AreComparable metas x.ty second.typing.ty) (sym one) second.operated.0) kept valued d value

  -- ---- an item of a source domain

  -- the domain's model
  source_model : (dom : Dom) → Contains rel.domains dom → (root : Tmpl) → dom.template ≡ Some root → IsModelDomain program rel dom
  source_model dom there root has = by dom.model refl
    where
      by : (o : Option ℕ) → dom.model ≡ o → IsModelDomain program rel dom
      by None is = absurd (none-some root (sym ((meant.domains.shaped dom there).bare is) ∙ has))
      by (Some m) is = record {
        is = there;
        model = m;
        of_model = is;
        slot = slice_index_or program.models m (record { name = []; meta = 0 });
        found = slice_get-get_or program.models m (record { name = []; meta = 0 }) ((well.numbers.relations rel among).models dom m there is);
      }

  -- a data variable that is an item's value alone has the property's type
  item_type : (v : ℕ) (var : Var) → slice_get rel.vars v ≡ Some var → IsNoClass var.ty → (own ty : Ty) (model meta : ℕ) (item : Item) → item.value ≡ items.Expr (record { ty = own; node = nodes.Variable v })
      → IsItemOfType metas program rel model meta ty item → var.ty ≡ ty
  item_type v var found none own ty model meta item is (IsItemOfType.empty empty) =
      let e : Typed = record { ty = own; node = nodes.Variable v } in
      absurd (none-some e (sym at_null ∙ ap expression_of (sym empty ∙ is) ∙ at_expression e))
  item_type v var found none own ty model meta item is (IsItemOfType.expression f same given) =
      let e : Typed = record { ty = own; node = nodes.Variable v } in
      let one : f ≡ e = same_Some f e (sym (at_expression f) ∙ ap expression_of (sym same ∙ is) ∙ at_expression e) in
      let of_variable = variable_typed (context_of metas program) (variables_of rel) f given.typing given.typed v own one in
      let its : typing_of var ≡ given.typing = same_Some (typing_of var) given.typing (ap (option_map typing_of) (sym found) ∙ sym (slice_get-map typing_of rel.vars v) ∙ of_variable) in
      one_type metas var.ty ty none (subst (λ (x : Typing). AreRelated metas x.ty ty) (sym its) given.fits.related)
  item_type v var found none own ty model meta item is (IsItemOfType.nested part same related) =
      let e : Typed = record { ty = own; node = nodes.Variable v } in
      absurd (none-some e (sym (at_nested part) ∙ ap expression_of (sym same ∙ is) ∙ at_expression e))

  item_alone : (v : ℕ) (dom : Dom) → IsSourceDomain program rel dom → IsItemAlone dom v → (var : Var) (d : Datum) → slice_get rel.vars v ≡ Some var → value_at b v ≡ Some d → IsNoClass var.ty → IsDatumOfTyping metas s (typing_of var) d
  item_alone v dom src alone var d found has none =
      let t = alone.is.of.template in
      let of_dom : IsTemplateOf dom t = alone.is.of.of in
      let item = alone.is.item in
      let e : Typed = record { ty = alone.ty; node = nodes.Variable v } in
      let in_model = source_model dom src.is of_dom.root of_dom.has in
      let root_meets : meets program contents of_dom.root b ≡ true = ap (λ x. template_meets program contents x b) (sym of_dom.has) ∙ source.domains dom src in
      let m = matched program contents b t (nested_matches program contents b of_dom.root t of_dom.nested root_meets) in
      let declared = meant.domains.declared dom in_model t of_dom in
      let template_universal = IsUniversal.domain dom src (OccursInTemplates.template t of_dom refl) in
      let object_is = object (out-Tmpl t).var template_universal (source.templates dom t src of_dom) declared.var m.object declared.found m.at in_model.slot.meta (out-Tmpl t).class declared.class in
      let of_class = subst (λ ty. IsDatumIn metas s (of_its_model declared.var.model) ty m.object) declared.class object_is in
      let typed = (well.typed.relations rel among).items dom in_model t item of_dom alone.is.of.has in
      let value : datum_of (value_for program contents e b) ≡ Some d =
      ap datum_of (ap (λ (x : Meaning). x (scope_of b)) (variable_meaning s (queries_within program.queries s (length program.queries)) alone.ty v) ∙ sym (variable_value b v) ∙ ap bound_value has) in
      let held = item_value program contents b (IsDatumIn metas s (of_its_model declared.var.model) typed.of) m.object d item e (m.items item alone.is.of.has) alone.is.is value
      (λ ds there. held_is metas s models (of_its_model declared.var.model) (types.Class in_model.slot.meta (out-Tmpl t).class) item.prop typed.gives typed.of typed.property m.object of_class ds there) in
      let one : var.ty ≡ typed.of = item_type v var found none alone.ty typed.of in_model.model in_model.slot.meta item alone.is.is typed.value in
      data_anywhere metas s (of_its_model declared.var.model) (of_its_model var.model) var.ty none d (subst (λ ty. IsDatumIn metas s (of_its_model declared.var.model) ty d) (sym one) held)

  -- ---- the root of a primitive domain

  root_valued : (dom : Dom) → Contains rel.domains dom → rel.top ≡ false → (var : Var) (d : Datum) → slice_get rel.vars dom.root ≡ Some var → value_at b dom.root ≡ Some d → IsNoClass var.ty
      → IsDatumOfTyping metas s (typing_of var) d
  root_valued dom there top var d found has none =
      let root = given top dom there (record { var = var; found = found; data_type = none }) in
      let same : root.datum ≡ d = same_Some root.datum d (sym (source.extends dom.root root.datum root.at) ∙ has) in
      let one : root.var ≡ var = same_Some root.var var (sym root.found ∙ found) in
      subst (IsDatumOfTyping metas s (typing_of var)) same (subst (λ (x : Var). IsDatumOfTyping metas s (typing_of x) root.datum) one root.is)

  -- ---- all of it

  bound_valued : (v : ℕ) → IsBound program rel v → IsUniversal program rel v → Valued v
  bound_valued v (IsBound.source_item _ dom u src alone) universal var d found has none = item_alone v dom src alone var d found has none
  bound_valued v (IsBound.when _ c e u there says bound) universal var d found has none =
      when_valued v c e there says (λ w names is_data. bound_valued w (bound w names is_data) (universal_in v c e there says w names)) var d found has none
  bound_valued v (IsBound.primitive _ dom top there primitive is) universal var d found has none =
      root_valued dom there top var d (ap (slice_get rel.vars) is ∙ found) (ap (value_at b) is ∙ has) none
  bound_valued v (IsBound.target_item _ dom not_universal target alone) universal var d found has none = absurd (not_universal universal)
  bound_valued v (IsBound.where_clause _ c e not_universal there says bound) universal var d found has none = absurd (not_universal universal)

  -- each universal data variable has a value of its type
  pub data_valued : (v : ℕ) → IsUniversal program rel v → IsDataVariable rel v → IsValued metas s rel b v
  data_valued v universal is_data var d found has =
      let one : is_data.var ≡ var = same_Some is_data.var var (sym is_data.found ∙ found) in
      bound_valued v (meant.variables.bound v is_data) universal var d found has (subst (λ (x : Var). IsNoClass x.ty) one is_data.data_type)

  -- and each universal variable of which it is asked
  pub source_valued : (v : ℕ) → IsUniversal program rel v → Asked v → IsValued metas s rel b v
  source_valued v universal asked var d found has = elim (class_or_data var.ty) [
    | inl class ↦ object v universal asked var d found has class.0 class.1 class.2
    | inr none ↦ data_valued v universal (record { var = var; found = found; data_type = none }) var d found has
  ]

-- ---- a binding of the source

module _ (program : Program) (contents : List ModelData) (rel : Rel) (b : Values) where
  not_target : (given : Option ℕ) → given ≢ Some program.target → is_model given program.target ≡ false
  not_target None other = refl
  not_target (Some m) other = by (m == program.target) refl
    where
      by : (b : Bool) → (m == program.target) ≡ b → b ≡ false
      by true is = absurd (other (ap (λ x. Some x) (eqb-true m program.target is)))
      by false is = refl

  pub domain_meets : list_all (source_meets program contents b) rel.domains ≡ true → (dom : Dom) → IsSourceDomain program rel dom → template_meets program contents dom.template b ≡ true
  domain_meets all dom src =
      other_side (is_target_domain program dom) (template_meets program contents dom.template b) (not_target dom.model src.source) (holds_at (source_meets program contents b) rel.domains all dom src.is)

  -- all universal variables have values
  pub whole_source : (roots : Values) → Source program contents rel roots b → MeetsSource program contents rel (λ v. Unit {0}) roots b
  whole_source roots source =
      let outer = and_parts (have_values program contents rel rel.universal b && list_all (source_meets program contents b) rel.domains) (list_all (conjunct_holds program contents b) rel.whens) source.meets in
      let inner = and_parts (have_values program contents rel rel.universal b) (list_all (source_meets program contents b) rel.domains) outer.0 in
      record {
        places = source.places;
        extends = source.extends;
        values = λ v asked among. holds_at (λ w. is_value_for (setting program contents) (slice_get rel.vars w) (value_at b w)) rel.universal inner.0 v among;
        domains = domain_meets inner.1;
        whens = λ c among. holds_at (conjunct_holds program contents b) rel.whens outer.1 c among;
        templates = λ dom t src of_dom. tt;
        named = λ c v e w there says names. tt;
      }
