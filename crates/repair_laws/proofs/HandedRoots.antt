-- The roots that a call in a where clause hands on: terms of the entry that makes it, of classes that conform to those of the roots.
use Rattle.std.specs.Prelude.{◌≡◌, ◌≢◌, ◌<◌, ℕ, zero, suc, Bool, true, false, List, [], ◌∷◌, length, Option, None, Some, slice_get, Contains}
use Rattle.std.specs.Option.{option_map, option_and_then}
use Rattle.std.proofs.Common.{refl, ap, sym, ◌∙◌, subst, arith, true≢false}
use Rattle.std.proofs.lemmas.Bool.{eq-eqb}
use Rattle.std.proofs.lemmas.Option.{none-some, same_Some, slice_get_within}
use Rattle.mof_metamodel.specs.declared.desc.MetaDesc.{MetaDesc}
use Rattle.mof_metamodel.specs.declared.desc.ClassId.{ClassId}
use Rattle.mof_metamodel.specs.Metamodels.{Conforms}
use Rattle.object_tables.specs.Models.{ModelData}
use Rattle.qv_syntax.specs.declared.query.ModelSlot.{ModelSlot}
use Rattle.qv_syntax.specs.declared.ty.Ty.{Ty}
use Rattle.qv_syntax.specs.declared.ty.Ty.TheVariants as types
use Rattle.qv_syntax.specs.declared.typed.Typed.{Typed}
use Rattle.qv_syntax.specs.declared.typed.Node.TheVariants as nodes
use Rattle.qv_syntax.specs.declared.program.Program.{Program}
use Rattle.qv_syntax.specs.declared.program.Rel.{Rel}
use Rattle.qv_syntax.specs.declared.program.Dom.{Dom}
use Rattle.qv_syntax.specs.declared.program.Var.{Var}
use Rattle.qv_syntax.specs.declared.program.Conj.TheVariants as conjuncts
use Rattle.qv_syntax.specs.Parts.{IsNested}
use Rattle.qv_syntax.specs.Relations.{IsUniversal, IsSourceDomain, OccursInTemplates}
use Rattle.qv_syntax.specs.ProgramTypes.{typing_of, IsGiven, AreGiven}
use Rattle.qv_syntax.specs.WellFormed.{IsWellFormed}
use Rattle.qvtr_semantics.specs.declared.datum.Datum.{Datum}
use Rattle.qvtr_semantics.specs.Objects.{is_kind_of}
use Rattle.qvtr_semantics.specs.Bindings.{is_model, is_target_domain}
use Rattle.qvtr_semantics.specs.Expressions.{value}
use Rattle.template_match.specs.Sources.{is_of_target, is_target_variable}
use Rattle.template_match.proofs.ListLaws.{find_some}
use Rattle.source_laws.proofs.BindingLaws as binding
use Rattle.source_laws.proofs.RuleLaws.{target_is}
use Rattle.source_laws.proofs.RootLaws.{alone_given}
use Rattle.ocl_environments.specs.Environments.{meta_at, class_of}
use Rattle.ocl_environments.specs.Conformance.{ConformsBy, TypeConforms}
use Rattle.enforcement_rules.specs.TargetParts.{target_desc, IsTargetVariable}
use Rattle.enforcement_rules.specs.Calls.{IsTargetArgument, IsPassedInWhere, HasWrongArgument}
use Rattle.enforcement_rules.specs.Rules.{Breaks, IsEnforceable}
use Rattle.enforcement_rules.proofs.ExpressionLaws.{alone_is, is_alone}
use Rattle.enforcement_rules.proofs.ClassLaws.{is_class, class_of_class}
use Rattle.enforcement_rules.proofs.ListLaws.{among_some}
use Rattle.enforcement_rules.proofs.RuleLaws.{kept_by_each}
use Rattle.repair_semantics.specs.declared.term.Term.{Term, out-Term}
use Rattle.repair_semantics.specs.declared.term.TermValue.{TermValue}
use Rattle.repair_semantics.specs.declared.entry.EntryName.{EntryName}
use Rattle.repair_semantics.specs.declared.demand.Demand.{Demand}
use Rattle.repair_semantics.specs.Terms.{datum_in, term_in}
use Rattle.repair_semantics.specs.EntryValues.{TermValues, value_of, root_values, Known, given_by, given_value}
use Rattle.repair_semantics.specs.TargetItems.{target_domain, target_root, class_in, class_of_variable, target_metamodel}
use Rattle.repair_semantics.specs.Entries.{bound_roots}
use Rattle.repair_laws.proofs.ManagedLaws.{slot_at}
use Rattle.repair_laws.proofs.RootTerms.{HasRoot, root_from, bound_some, bound_from}
use Rattle.repair_laws.proofs.CallTerms.{alone_agrees, IsCallWith, values_given}
use Rattle.repair_laws.proofs.EntryTerms.{term_alone, given_many}
use Rattle.repair_laws.proofs.TargetVariables.{target_variable, variable_target, keyed_within, kind_up, declared, meant, range, universal_among}
use Rattle.repair_laws.proofs.EntryStep.{IsTypedFor, IsGoodTerm, AreGoodValues, AreGoodRoots}
use Rattle.mof_metamodel.proofs.Facts.{contains_at}

class_type : (ty : Ty) (n : ℕ) → class_in ty ≡ Some n → (meta : ℕ) × (ty ≡ types.Class meta (record { 0 = n }))
class_type (types.Class meta c) n h = (meta, ap (λ (k : ℕ). let d : ClassId = record { 0 = k } in types.Class meta d) (same_Some c.0 n h))
class_type ty n h = absurd (none-some n h)

-- a type that conforms to a class is a class that conforms to it
conforms_class : (metas : List MetaDesc) (own : Ty) (meta : ℕ) (c : ClassId) → TypeConforms metas own (types.Class meta c)
    → (d : ClassId) × (own ≡ types.Class meta d) × Conforms (meta_at metas meta) d.0 c.0
conforms_class metas own meta c h = by (class_of own) refl (subst (ConformsBy metas own (types.Class meta c) (class_of own)) (class_of_class meta c) h)
  where
    by : (o : Option (ℕ × ClassId)) → class_of own ≡ o → ConformsBy metas own (types.Class meta c) o (Some (meta, c)) → (d : ClassId) × (own ≡ types.Class meta d) × Conforms (meta_at metas meta) d.0 c.0
    by None is g = absurd (none-some {A = ℕ × ClassId} (meta, c) (sym is ∙ ap class_of g ∙ class_of_class meta c))
    by (Some d) is g =
        (d.1, is_class own d is ∙ ap (λ n. types.Class n d.1) g.0, subst (λ n. Conforms (meta_at metas n) d.1.0 c.0) g.0 g.1.2)

-- the argument at a place, with the type and the model of the root there
record IsFor (metas : List MetaDesc) (program : Program) (rel called : Rel) (dom : Dom) (e : Typed) : Type 0 where
  root : Var
  found : slice_get called.vars dom.root ≡ Some root
  given : IsGiven metas program rel (typing_of root) e

typed_at : (metas : List MetaDesc) (program : Program) (rel called : Rel) (doms : List Dom) (es : List Typed) → AreGiven metas program rel called doms es → (place : ℕ) (dom : Dom) (e : Typed)
    → slice_get doms place ≡ Some dom → slice_get es place ≡ Some e → IsFor metas program rel called dom e
typed_at metas program rel called [] es given place dom e one two = absurd (none-some dom one)
typed_at metas program rel called (d ∷ doms) [] given place dom e one two = absurd given
typed_at metas program rel called (d ∷ doms) (y ∷ es) given zero dom e one two =
    subst (λ (x : Typed). IsFor metas program rel called dom x) (same_Some y e two)
    (subst (λ (x : Dom). IsFor metas program rel called x y) (same_Some d dom one) (record { root = given.0.0; found = given.0.1; given = given.0.2 }))
typed_at metas program rel called (d ∷ doms) (y ∷ es) given (suc place) dom e one two = typed_at metas program rel called doms es given.1 place dom e one two

module _ (metas : List MetaDesc) (program : Program) (formed : IsWellFormed metas program) (enforceable : IsEnforceable metas program)
    (sources : List ModelData) (m : ModelData) (meta_is : target_metamodel program sources ≡ m.meta) (desc : target_desc metas program ≡ m.meta) (demands : List Demand) where
  abbrev GoodRoots : Rel → TermValues → Type 0
  GoodRoots rel roots = AreGoodRoots program m.meta demands rel roots

  -- ---- roots that a call hands on

  module _ (place : ℕ) (from : Rel) (there : slice_get program.rels place ≡ Some from) (direction : from.in_direction ≡ true) (k : Known)
      (good : AreGoodValues program m.meta demands from k.values) (c : EntryName) (rel : Rel) (found : slice_get program.rels c.rel ≡ Some rel)
      (number : ℕ) (args : List Typed) (call : Contains from.wheres (conjuncts.Call number args)) (parts : IsCallWith program sources k number args c) where
    found_number : slice_get program.rels number ≡ Some rel
    found_number = ap (slice_get program.rels) (sym parts.rel) ∙ found

    one : parts.called ≡ rel
    one = same_Some parts.called rel (sym parts.found ∙ found_number)

    given : AreGiven metas program from rel rel.domains args
    given =
        let typed = (formed.typed.relations from (contains_at program.rels place from there)).wheres (conjuncts.Call number args) call in
        subst (λ (r : Rel). AreGiven metas program from r r.domains args) (same_Some typed.called rel (sym typed.found ∙ found_number)) typed.given

    rel_roots : (dom : Dom) → Contains rel.domains dom → dom.root < length rel.vars
    rel_roots dom is = (range metas program formed m desc number rel found_number).roots dom is

    many : length parts.xs ≡ length rel.domains
    many = (values_given program sources k number args c parts).0 ∙ given_many metas program from rel rel.domains args given

    listed : (i : ℕ) (dom : Dom) → slice_get rel.domains i ≡ Some dom → Contains rel.domains dom
    listed i dom is = contains_at rel.domains i dom is

    bound : c.roots ≡ bound_roots rel parts.xs
    bound = parts.roots ∙ ap (λ r. bound_roots r parts.xs) one

    -- the argument that gives a root its value
    record HasArgument (v : ℕ) (x : TermValue) : Type 0 where
      has : HasRoot rel.domains parts.xs v x
      e : Typed
      e_is : slice_get args has.at ≡ Some e
      value : given_value program sources k e ≡ Some x
      typed : IsFor metas program from rel has.dom e

    argument : (v : ℕ) (x : TermValue) → value_of (root_values rel c.roots) v ≡ Some x → HasArgument v x
    argument v x h =
        let r = root_from rel rel_roots listed parts.xs v x (bound_from rel rel_roots listed parts.xs many v x (ap (λ xs. value_of (root_values rel xs) v) (sym bound) ∙ h)) in
        let lists = values_given program sources k number args c parts in
        let below : r.at < length args = (let l = slice_get_within parts.xs r.at x r.value_is in let same = lists.0 in omega (arith, l, same)) in
        let (e, e_is) = binding.found_within args r.at below in
        let (y, y_at, y_is) = lists.1 r.at e e_is in
        record {
          has = r;
          e = e;
          e_is = e_is;
          value = y_is ∙ ap (λ z. Some z) (same_Some y x (sym y_at ∙ r.value_is));
          typed = typed_at metas program from rel rel.domains args given r.at r.dom e r.dom_is e_is;
        }

    -- a term is that of a variable of the entry that calls
    record HasTerm (v : ℕ) (x : TermValue) (t : Term) : Type 0 where
      a : HasArgument v x
      w : ℕ
      alone : a.e ≡ record { ty = a.e.ty; node = nodes.Variable w }
      good_term : IsGoodTerm program m.meta demands from w t

    handed_term : (v : ℕ) (x : TermValue) (t : Term) → value_of (root_values rel c.roots) v ≡ Some x → term_in x ≡ Some t → HasTerm v x t
    handed_term v x t h is =
        let a = argument v x h in
        let (w, alone, at) = term_alone program sources k a.e x t a.value is in
        record { a = a; w = w; alone = alone_is a.e w (sym (alone_agrees a.e) ∙ alone); good_term = good.terms w x t at is }

    target_root_is : (v : ℕ) (x : TermValue) (t : Term) → HasTerm v x t → is_target_variable program rel v ≡ true
    target_root_is v x t h = by (is_target_variable program rel v) refl
      where
        by : (b : Bool) → is_target_variable program rel v ≡ b → is_target_variable program rel v ≡ true
        by true is = is
        by false outside =
            let f = h.a.typed in
            absurd (true≢false (sym h.good_term.target
            ∙ alone_given metas program formed place from there f.root h.a.e h.a.e.ty h.w f.given h.alone
            (ap (is_of_target program) (sym f.found) ∙ ap (is_target_variable program rel) h.a.has.root ∙ outside)))

    argument_is : (v : ℕ) (x : TermValue) (a : HasArgument v x) → is_target_variable program rel v ≡ true → IsTargetArgument program from.wheres rel a.has.dom a.e
    argument_is v x a target = record {
      number = number;
      args = args;
      call = call;
      found = found_number;
      place = a.has.at;
      of = a.has.dom_is;
      target = subst (IsTargetVariable program rel) (sym a.has.root) (target_variable program rel v target);
      last = λ j other more less is at same.
          let y = (values_given program sources k number args c parts).1 j more at in
          a.has.last j other y.0 less is y.1 (same ∙ a.has.root);
      argument = a.e_is;
    }

    refused : (v : ℕ) (x : TermValue) (a : HasArgument v x) → is_target_variable program rel v ≡ true → ¬ ¬ IsPassedInWhere metas program from rel a.has.dom a.e
    refused v x a target not_passed =
        kept_by_each metas program place 10 from enforceable there direction (Breaks.e10 refl (HasWrongArgument.of_where rel a.has.dom a.e (argument_is v x a target) not_passed))

    -- the metamodel of a target variable of a class
    meta_of_class : (var : Var) (v meta : ℕ) (class : ClassId) → slice_get rel.vars v ≡ Some var → var.ty ≡ types.Class meta class → is_target_variable program rel v ≡ true → meta_at metas meta ≡ m.meta
    meta_of_class var v meta class at ty target =
        let t = target_variable program rel v target in
        let same : t.var ≡ var = same_Some t.var var (sym t.found ∙ at) in
        let (model, slot, of_model, slot_is, slot_meta) = ((meant metas program formed m desc number rel found_number).variables.models var (contains_at rel.vars v var at)).object meta class ty in
        let model_is : model ≡ program.target = same_Some model program.target (sym of_model ∙ ap (λ (y : Var). y.model) (sym same) ∙ t.target) in
        ap (meta_at metas) (sym slot_meta ∙ ap (λ (s : ModelSlot). s.meta) (sym (slot_at program.models program.target slot (ap (slice_get program.models) (sym model_is) ∙ slot_is)))) ∙ desc

    typed_root : (v : ℕ) (x : TermValue) (t : Term) → HasTerm v x t → IsTypedFor m.meta rel v t
    typed_root v x t h class class_is = by (is_kind_of m.meta (out-Term t).class.0 class) refl
      where
        passed : IsPassedInWhere metas program from rel h.a.has.dom h.a.e → is_kind_of m.meta (out-Term t).class.0 class ≡ true
        passed p =
            let y = p.types in
            let same : y.v ≡ h.w = same_Some y.v h.w (sym (is_alone h.a.e y.alone.0 y.v y.alone.1) ∙ is_alone h.a.e h.a.e.ty h.w h.alone) in
            let at_v : slice_get rel.vars v ≡ Some y.root = ap (slice_get rel.vars) (sym h.a.has.root) ∙ y.root_found in
            let (meta, asked_is) = class_type p.asked class (ap class_in (sym y.root_typed) ∙ sym (ap (option_and_then (λ (var : Var). class_in var.ty)) at_v) ∙ class_is) in
            let (d, own_is, up) = conforms_class metas p.own meta (record { 0 = class }) (subst (TypeConforms metas p.own) asked_is p.conforms) in
            let described = meta_of_class y.root v meta (record { 0 = class }) at_v (y.root_typed ∙ asked_is) (target_root_is v x t h) in
            let kind = h.good_term.typed d.0 (ap (class_of_variable from) (sym same) ∙ ap (option_and_then (λ (var : Var). class_in var.ty)) y.found ∙ ap class_in (y.typed ∙ own_is)) in
            kind_up metas program formed m desc (out-Term t).class.0 d.0 class
            (keyed_within metas program formed m desc (out-Term t).class.0 h.good_term.told.key.props h.good_term.told.key.key) kind (subst (λ x. Conforms x d.0 class) described up)

        by : (b : Bool) → is_kind_of m.meta (out-Term t).class.0 class ≡ b → is_kind_of m.meta (out-Term t).class.0 class ≡ true
        by true is = is
        by false is = absurd (refused v x h.a (target_root_is v x t h) (λ p. true≢false (sym (passed p) ∙ is)))

    data_root : (v : ℕ) (x : TermValue) (d : Datum) → value_of (root_values rel c.roots) v ≡ Some x → datum_in x ≡ Some d → is_target_variable program rel v ≡ false
    data_root v x d h is = by (is_target_variable program rel v) refl
      where
        passed : (a : HasArgument v x) → IsPassedInWhere metas program from rel a.has.dom a.e → ⊥
        passed a p =
            let y = p.types in
            let alone = alone_agrees a.e ∙ is_alone a.e y.alone.0 y.v y.alone.1 in
            let at : value_of k.values y.v ≡ Some x = sym (ap (given_by program sources k a.e) alone) ∙ a.value in
            true≢false (sym (variable_target program from y.v (record { var = y.var; found = y.found; target = y.target })) ∙ good.outside y.v x d at is)

        by : (b : Bool) → is_target_variable program rel v ≡ b → is_target_variable program rel v ≡ false
        by false none = none
        by true target = absurd (refused v x (argument v x h) target (passed (argument v x h)))

    -- a datum is given to a root of a source domain
    universal_root : (v : ℕ) (x : TermValue) (d : Datum) → value_of (root_values rel c.roots) v ≡ Some x → datum_in x ≡ Some d → Contains rel.universal v
    universal_root v x d h is = by (argument v x h) (is_target_domain program (argument v x h).has.dom) refl
      where
        by : (a : HasArgument v x) → (b : Bool) → is_target_domain program a.has.dom ≡ b → Contains rel.universal v
        by a true target =
            let there = listed a.has.at a.has.dom a.has.dom_is in
            let (t, has, var) = ((meant metas program formed m desc number rel found_number).domains.shaped a.has.dom there).shaped program.target (target_is program.target a.has.dom.model target) in
            let declared_here = declared metas program formed m desc number rel found_number a.has.dom t there target (record { root = t; has = has; nested = IsNested.whole t }) in
            absurd (true≢false (sym (variable_target program rel v (subst (IsTargetVariable program rel) (var ∙ a.has.root) declared_here)) ∙ data_root v x d h is))
        by a false other =
            let there = listed a.has.at a.has.dom a.has.dom_is in
            let source : IsSourceDomain program rel a.has.dom = record {
              is = there;
              source = λ same. true≢false (sym (ap (λ o. is_model o program.target) same ∙ eq-eqb program.target program.target refl) ∙ other);
            } in
            universal_among metas program formed m desc number rel found_number v (subst (λ n. n < length rel.vars) a.has.root (rel_roots a.has.dom there))
            (IsUniversal.domain a.has.dom source (OccursInTemplates.root a.has.root))

    handed_root : (v : ℕ) → target_root program rel ≡ Some v → (x : TermValue) × (value_of (root_values rel c.roots) v ≡ Some x)
    handed_root v is = by (target_domain program rel) refl is
      where
        by : (o : Option Dom) → target_domain program rel ≡ o → option_map (λ (dom : Dom). dom.root) o ≡ Some v → (x : TermValue) × (value_of (root_values rel c.roots) v ≡ Some x)
        by None at g = absurd (none-some v g)
        by (Some dom) at g =
            let among_doms = (find_some (is_target_domain program) rel.domains dom at).0 in
            let (i, dom_is) = among_some rel.domains dom among_doms in
            let r = bound_some rel rel_roots listed parts.xs many i dom dom_is in
            (r.0, ap (λ xs. value_of (root_values rel xs) v) bound ∙ ap (value_of (root_values rel (bound_roots rel parts.xs))) (sym (same_Some dom.root v g)) ∙ r.1)

    pub call_roots : GoodRoots rel (root_values rel c.roots)
    call_roots = record {
      told = λ v x t at is. (handed_term v x t at is).good_term.told;
      target = λ v x t at is. target_root_is v x t (handed_term v x t at is);
      typed = λ v x t at is. typed_root v x t (handed_term v x t at is);
      outside = data_root;
      universal = universal_root;
      handed = λ other v is. handed_root v is;
    }

    pub called_direction : rel.in_direction ≡ true
    called_direction = ((meant metas program formed m desc place from there).calls direction).wheres number rel (args, call) found_number
