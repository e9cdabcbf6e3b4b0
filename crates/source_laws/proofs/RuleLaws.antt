-- In a well-formed program a relation that hands objects of the target only on keeps to the sources, and its calls have plain arguments.
use Rattle.std.specs.Prelude.{◌≡◌, ◌≢◌, ◌⊎◌, ℕ, Bool, true, false, ◌==◌, List, map, Option, None, Some, slice_get, Contains}
use Rattle.std.proofs.Common.{refl, sym, ap, subst, ◌∙◌, inl, inr, zero, suc, [], ◌∷◌}
use Rattle.std.proofs.lemmas.Bool.{true≢false, eqb-true}
use Rattle.mof_metamodel.specs.declared.desc.MetaDesc.{MetaDesc}
use Rattle.qv_syntax.specs.declared.ty.Ty.{Ty}
use Rattle.qv_syntax.specs.declared.typed.Typed.{Typed}
use Rattle.qv_syntax.specs.declared.typed.Node.{Node}
use Rattle.qv_syntax.specs.declared.program.Program.{Program}
use Rattle.qv_syntax.specs.declared.program.Rel.{Rel}
use Rattle.qv_syntax.specs.declared.program.Dom.{Dom}
use Rattle.qv_syntax.specs.declared.program.Tmpl.{Tmpl, out-Tmpl}
use Rattle.qv_syntax.specs.declared.program.Item.{Item}
use Rattle.qv_syntax.specs.declared.program.ItemValue.{ItemValue, out-ItemValue, out-roll-ItemValue}
use Rattle.qv_syntax.specs.declared.program.ItemValue.TheVariants as items
use Rattle.qv_syntax.specs.declared.program.ItemValue.TheOpen as layers
use Rattle.qv_syntax.specs.declared.program.Conj.{Conj}
use Rattle.qv_syntax.specs.declared.program.Conj.TheVariants as conjuncts
use Rattle.qv_syntax.specs.Parts.{Names}
use Rattle.qv_syntax.specs.Relations.{IsModelDomain, IsSourceDomain, IsTemplateOf, IsItemExpression}
use Rattle.qv_syntax.specs.TypedTrees.{Typing}
use Rattle.qv_syntax.specs.ProgramTypes.{context_of, typing_of, variables_of, IsGiven, IsItemOfType}
use Rattle.qv_syntax.specs.Directions.{HasDomains}
use Rattle.qv_syntax.specs.WellFormed.{IsWellFormed}
use Rattle.qvtr_semantics.specs.Bindings.{is_model}
use Rattle.template_match.specs.Sources.{is_of_target, is_target_variable}
use Rattle.source_laws.specs.SourceExpressions.{AsksNoTargetExtent, AsksNoTargetClass, SpeaksOfSources}
use Rattle.source_laws.specs.SourceRelations.{IsSourceExpression, NamesSources, KeepsToSources, IsPlainArgument, HavePlainArguments}
use Rattle.source_laws.specs.TargetRule.{HasConjunct, MayBeTarget, IsExpressionOf, HandsTargetOn}
use Rattle.source_laws.proofs.TypingLaws.{is_in, none_some, variable_from, variable_is_in, alone_names, typed_alone}
use Rattle.source_laws.proofs.BindingLaws.{asked_in, found_within}
use Rattle.mof_metamodel.proofs.Facts.{contains_at}

-- ---- models of variables

not_model : (n t : ℕ) → n ≢ t → is_model (Some n) t ≡ false
not_model n t h = by (n == t) refl
  where
    by : (x : Bool) → (n == t) ≡ x → x ≡ false
    by true is = absurd (h (eqb-true n t is))
    by false is = refl

pub target_is : (t : ℕ) (model : Option ℕ) → is_model model t ≡ true → model ≡ Some t
target_is t None h = absurd (true≢false (sym h))
target_is t (Some n) h = ap (λ x. Some x) (eqb-true n t h)

pub mapped : {X Y : Type 0} (f : X → Y) (xs : List X) (i : ℕ) (y : Y) → slice_get (map f xs) i ≡ Some y → (x : X) × (slice_get xs i ≡ Some x) × (f x ≡ y)
mapped f [] i y h = absurd (cc)
mapped f (x ∷ xs) zero y h = (x, refl, same (f x) y h)
  where
    same : {Z : Type 0} (a b : Z) → Some a ≡ Some b → a ≡ b
    same a b k = cc
mapped f (x ∷ xs) (suc i) y h = mapped f xs i y h

-- ---- values of items

pub out_expr : (e : Typed) → out-ItemValue (items.Expr e) ≡ layers.Expr e
out_expr e = ap out-ItemValue (sym (items.rolls-Expr e)) ∙ out-roll-ItemValue (layers.Expr e)

out_null : out-ItemValue items.Null ≡ layers.Null
out_null = ap out-ItemValue (sym items.rolls-Null) ∙ out-roll-ItemValue layers.Null

pub out_nested : (t : Tmpl) → out-ItemValue (items.Nested t) ≡ layers.Nested t
out_nested t = ap out-ItemValue (sym (items.rolls-Nested t)) ∙ out-roll-ItemValue (layers.Nested t)

one_layer : (e f : Typed) → ◌≡◌ {A = layers.ItemValue-F ItemValue Item Tmpl} (layers.Expr e) (layers.Expr f) → e ≡ f
one_layer e f h = cc

pub expr_in : (e f : Typed) → items.Expr e ≡ items.Expr f → e ≡ f
expr_in e f h = one_layer e f (sym (out_expr e) ∙ ap out-ItemValue h ∙ out_expr f)

null_expr : (e : Typed) → ◌≡◌ {A = layers.ItemValue-F ItemValue Item Tmpl} layers.Null (layers.Expr e) → ⊥
null_expr e h = cc

pub nested_expr : (t : Tmpl) (e : Typed) → ◌≡◌ {A = layers.ItemValue-F ItemValue Item Tmpl} (layers.Nested t) (layers.Expr e) → ⊥
nested_expr t e h = cc

-- ---- what the rule gives

-- an argument or an item that names a variable for objects of the target is this alone
pub plain_by : (program : Program) (rel : Rel) (e : Typed) (o : Option ℕ) → is_in e.node ≡ o → HandsTargetOn program rel → MayBeTarget rel e → SpeaksOfSources program e → IsPlainArgument program rel e
plain_by program rel e (Some v) is rule may speaks = IsPlainArgument.alone e.ty v (ap (λ (n : Node). let x : Typed = record { ty = e.ty; node = n } in x) (variable_from e.node v is))
plain_by program rel e None is rule may speaks = IsPlainArgument.of_sources speaks (λ v names. by v names (is_target_variable program rel v) refl)
  where
    by : (v : ℕ) → Names e v → (x : Bool) → is_target_variable program rel v ≡ x → x ≡ false
    by v names true target =
        let alone = rule.alone e v may names target in
        absurd (none_some e.node alone.1 is (ap (λ (x : Typed). is_in x.node) alone.2 ∙ variable_is_in alone.1))
    by v names false none = refl

-- an `allInstances` of the target model is one of a class of its metamodel
pub no_target_extent : (metas : List MetaDesc) (program : Program) (e : Typed) → IsWellFormed metas program → AsksNoTargetClass program e → AsksNoTargetExtent program.target e
no_target_extent metas program e formed asks ty model class within is =
    let slot = found_within program.models program.target formed.numbers.target in
    asks ty model class slot.0 slot.0 within (ap (slice_get program.models) is ∙ slot.1) slot.1 refl

module _ (metas : List MetaDesc) (program : Program) (formed : IsWellFormed metas program) (number : ℕ) (rel : Rel) (found : slice_get program.rels number ≡ Some rel) where
  abbrev within : Contains program.rels rel
  within = contains_at program.rels number rel found

  abbrev has : HasDomains program rel
  has = (formed.relations number rel found).domains

  -- a domain with a template is one of a model
  model_by : (dom : Dom) (root : Tmpl) (model : Option ℕ) → dom.model ≡ model → Contains rel.domains dom → dom.template ≡ Some root → IsModelDomain program rel dom
  model_by dom root None is c there = absurd (none_some root (sym ((has.shaped dom c).bare is) ∙ there))
    where
      none_some : (t : Tmpl) → ◌≡◌ {A = Option Tmpl} None (Some t) → ⊥
      none_some t h = cc
  model_by dom root (Some m) is c there =
      let slot = found_within program.models m ((formed.numbers.relations rel within).models dom m c is) in
      record { is = c; model = m; of_model = is; slot = slot.0; found = slot.1 }

  pub model_domain : (dom : Dom) (t : Tmpl) → Contains rel.domains dom → IsTemplateOf dom t → IsModelDomain program rel dom
  model_domain dom t c of = model_by dom of.root dom.model refl c of.has

  other_model : (dom : Dom) (d : IsModelDomain program rel dom) → IsSourceDomain program rel dom → d.model ≢ program.target
  other_model dom d source is = source.source (d.of_model ∙ ap (λ m. Some m) is)

  -- the variable of a template of a source domain is none for objects of the target
  template_of : (dom : Dom) (t : Tmpl) → IsSourceDomain program rel dom → IsTemplateOf dom t → is_target_variable program rel (out-Tmpl t).var ≡ false
  template_of dom t source of =
      let d = model_domain dom t source.is of in
      let declared = has.declared dom d t of in
      ap (is_of_target program) declared.found ∙ ap (λ m. is_model m program.target) declared.of_model ∙ not_model d.model program.target (other_model dom d source)

  -- ---- items of source domains

  -- where an object of one model is asked for, no variable for objects of another stands alone
  not_given : (model : ℕ) (ty : Ty) (e : Typed) (v : ℕ) → model ≢ program.target → IsGiven metas program rel (record { ty = ty; model = Some model }) e
      → is_in e.node ≡ Some v → is_target_variable program rel v ≡ true → ⊥
  not_given model ty e v other given alone target =
      let typing : Typing = given.typing in
      let at : slice_get (variables_of rel) v ≡ Some typing =
      typed_alone (context_of metas program) (variables_of rel) e typing v given.typed alone in
      let var = mapped typing_of rel.vars v typing at in
      let is : typing.model ≡ Some program.target = sym (ap (λ (p : Typing). p.model) var.2) ∙ target_is program.target var.0.model (sym (ap (is_of_target program) var.1) ∙ target) in
      by typing.model is given.fits.model
    where
      by : (m : Option ℕ) → m ≡ Some program.target → (m ≡ None) ⊎ (m ≡ Some model) → ⊥
      by m is (inl none) = cc
      by m is (inr some) = other (same model program.target (sym some ∙ is))
        where
          same : (a b : ℕ) → Some a ≡ Some b → a ≡ b
          same a b k = cc

  value_given : (model meta : ℕ) (ty : Ty) (dom : Dom) (e : Typed) (is : IsItemExpression dom e) → IsItemOfType metas program rel model meta ty is.item
      → IsGiven metas program rel (record { ty = ty; model = Some model }) e
  value_given model meta ty dom e is (IsItemOfType.empty none) = absurd (null_expr e (sym out_null ∙ ap out-ItemValue (sym none ∙ is.is) ∙ out_expr e))
  value_given model meta ty dom e is (IsItemOfType.expression f value given) =
      subst (λ x. IsGiven metas program rel (record { ty = ty; model = Some model }) x) (expr_in f e (sym value ∙ is.is)) given
  value_given model meta ty dom e is (IsItemOfType.nested part value related) = absurd (nested_expr part e (sym (out_nested part) ∙ ap out-ItemValue (sym value ∙ is.is) ∙ out_expr e))

  item_names : (dom : Dom) (e : Typed) → HandsTargetOn program rel → IsSourceDomain program rel dom → IsItemExpression dom e → NamesSources program rel e
  item_names dom e rule source is v names = by (is_target_variable program rel v) refl
    where
      by : (x : Bool) → is_target_variable program rel v ≡ x → x ≡ false
      by true target =
          let t = is.of.template in
          let d = model_domain dom t source.is is.of.of in
          let typed = (formed.typed.relations rel within).items dom d t is.item is.of.of is.of.has in
          absurd (not_given d.model typed.of e v (other_model dom d source) (value_given d.model d.slot.meta typed.of dom e is typed.value)
          (alone_names e v (rule.alone e v (MayBeTarget.item dom source.is is) names target) names) target)
      by false none = refl

  pub rule_keeps : HandsTargetOn program rel → KeepsToSources program rel
  rule_keeps rule = record { speaks = speaks; names = names; templates = template_of }
    where
      speaks : (e : Typed) → IsSourceExpression program rel e → SpeaksOfSources program e
      speaks e (IsSourceExpression.item dom source is) = rule.speaks e (IsExpressionOf.item dom source.is is)
      speaks e (IsSourceExpression.asked c there asked) = rule.speaks e (IsExpressionOf.conjunct c (inl there) (asked_in c e asked))

      names : (e : Typed) → IsSourceExpression program rel e → NamesSources program rel e
      names e (IsSourceExpression.item dom source is) = item_names dom e rule source is
      names e (IsSourceExpression.asked c there asked) = rule.named c e (inl there) asked

  -- ---- arguments

  speaks_in : (clause : List Conj) → ((c : Conj) → Contains clause c → HasConjunct rel c) → HandsTargetOn program rel → (n : ℕ) (args : List Typed) (e : Typed)
      → Contains clause (conjuncts.Call n args) → Contains args e → SpeaksOfSources program e
  speaks_in clause there rule n args e c contains_at = rule.speaks e (IsExpressionOf.conjunct (conjuncts.Call n args) (there (conjuncts.Call n args) c) contains_at)

  pub rule_plain : (clause : List Conj) → ((c : Conj) → Contains clause c → HasConjunct rel c) → HandsTargetOn program rel → HavePlainArguments program rel clause
  rule_plain clause there rule n args e c contains_at =
      plain_by program rel e (is_in e.node) refl rule (MayBeTarget.argument n args (there (conjuncts.Call n args) c) contains_at) (speaks_in clause there rule n args e c contains_at)
