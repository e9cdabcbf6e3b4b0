-- E2: the tests on the expressions of a relation tell whether one touches the target.
use Rattle.std.proofs.Common.{Result, Ok, Err, map, ◌≡◌, ◌||◌, ◌&&◌, ℕ, List, [], Bool, true, false, Option, None, Some, refl, sym, ap, ◌∙◌, inl, inr, ⊎_elim, true≢false}
use Rattle.std.specs.Prelude.{Contains, ◌↔◌, IsTrue, IfOk, not, is_some, slice_get}
use Rattle.std.specs.List.{list_any}
use Rattle.qv_syntax.specs.declared.ty.Ty.{Ty}
use Rattle.qv_syntax.specs.declared.typed.Typed.{Typed}
use Rattle.qv_syntax.specs.declared.typed.Node.{Node, roll-Node, out-Node, out-roll-Node, roll-out-Node}
use Rattle.qv_syntax.specs.declared.typed.Node.TheVariants as nodes
use Rattle.qv_syntax.specs.declared.typed.Call.{Call}
use Rattle.qv_syntax.specs.declared.typed.Call.TheOpen as of
use Rattle.qv_syntax.specs.declared.typed.TypedInfix.{TypedInfix}
use Rattle.qv_syntax.specs.declared.typed.TypedPostfix.{TypedPostfix}
use Rattle.qv_syntax.specs.declared.program.Program.{Program}
use Rattle.qv_syntax.specs.declared.program.Rel.{Rel}
use Rattle.qv_syntax.specs.declared.program.Var.{Var}
use Rattle.enforcement_rules.specs.declared.standing.Standing.{Standing}
use Rattle.enforcement_rules.specs.declared.mention.Mention.{Mention}
use Rattle.enforcement_rules.specs.declared.mention.Mention.TheVariants as mentions
use Rattle.qv_syntax.specs.declared.program.Dom.{Dom}
use Rattle.qv_syntax.specs.declared.program.Tmpl.{Tmpl, out-Tmpl}
use Rattle.qv_syntax.specs.declared.program.Item.{Item}
use Rattle.qv_syntax.specs.declared.program.ItemValue.{ItemValue, out-ItemValue}
use Rattle.qv_syntax.specs.declared.program.ItemValue.TheOpen as layers
use Rattle.qv_syntax.specs.declared.program.Conj.{Conj}
use Rattle.qv_syntax.specs.declared.program.Conj.TheVariants as conjuncts
use Rattle.qv_syntax.specs.Relations.{IsItemExpression}
use Rattle.qv_syntax.specs.Parts.{Names, CallsQuery}
use Rattle.enforcement_rules.specs.Expressions.{HasTargetExtent, ReadsTarget, IsAlone, IsAsked, IsArgument, IsConjunct, IsObjectPlace, IsDataPlace, IsExpressionOf, TouchesTarget}
use Rattle.enforcement_rules.specs.ExpressionTests.{variable_alone, is_touch, touches, value_touches, item_touches, template_touches, conjunct_touches, touches_target}
use Rattle.enforcement_rules.specs.Mentions.{mentions_in}
use Rattle.enforcement_rules.specs.ReaderTests.{AreReaders}
use Rattle.enforcement_rules.specs.Standings.{Shown, shown_standing, Adds, IsOfDomain, IsOfDomains}
use Rattle.enforcement_rules.specs.TargetParts.{target_meta, IsTargetVariable}
use Rattle.enforcement_rules.specs.TargetTests.{is_of_target, has_model, is_target_variable}
use Rattle.std.proofs.lemmas.Bool.{eqb-true, eq-eqb}
use Rattle.enforcement_rules.proofs.ItemLaws.{expression_is, is_expression}
use Rattle.enforcement_rules.proofs.ListLaws.{nothing_in, or_cases, or_first, or_second, any_there, any_here, and_first, and_second, and_both, not_true, not_false}
use Rattle.enforcement_rules.proofs.StandingLaws.{stands_nested, nested_stands}
use Rattle.enforcement_rules.proofs.ReaderLaws.{extent_there, there_meta}
use Rattle.enforcement_rules.proofs.VariableLaws.{named_listed, listed_named, call_listed, listed_call, extent_listed}

-- ---- target variables

pub target_model : (program : Program) (model : Option ℕ) → is_of_target program model ≡ true → model ≡ Some program.target
target_model program None h = absurd (cc)
target_model program (Some m) h = ap (λ n. Some n) (eqb-true m program.target h)

pub model_target : (program : Program) (model : Option ℕ) → model ≡ Some program.target → is_of_target program model ≡ true
model_target program model is = ap (is_of_target program) is ∙ eq-eqb program.target program.target refl

pub target_there : (program : Program) (rel : Rel) (v : ℕ) → is_target_variable program rel v ≡ true → IsTargetVariable program rel v
target_there program rel v h = by (slice_get rel.vars v) refl h
  where
    by : (o : Option Var) → slice_get rel.vars v ≡ o → has_model program o ≡ true → IsTargetVariable program rel v
    by None e g = absurd (cc)
    by (Some var) e g = record { var = var; found = e; target = target_model program var.model g }

pub there_target : (program : Program) (rel : Rel) (v : ℕ) → IsTargetVariable program rel v → is_target_variable program rel v ≡ true
there_target program rel v t = ap (has_model program) t.found ∙ model_target program t.var.model t.target

-- ---- an expression that is a variable alone

layer_alone : (d : of.Node-F Call Node Typed TypedInfix TypedPostfix) (v : ℕ) → variable_alone d ≡ Some v → d ≡ of.Variable v
layer_alone (of.Variable n) v h = cc
layer_alone (of.Number value) v h = absurd (cc)
layer_alone (of.Str value) v h = absurd (cc)
layer_alone (of.Bool value) v h = absurd (cc)
layer_alone of.Null v h = absurd (cc)
layer_alone of.Invalid v h = absurd (cc)
layer_alone (of.EnumLiteral m e l) v h = absurd (cc)
layer_alone (of.Let n value body) v h = absurd (cc)
layer_alone (of.Chain first rest) v h = absurd (cc)
layer_alone (of.Not operand) v h = absurd (cc)
layer_alone (of.Negated operand) v h = absurd (cc)
layer_alone (of.Calls part calls) v h = absurd (cc)
layer_alone (of.If condition one other) v h = absurd (cc)
layer_alone (of.Coll kind elements) v h = absurd (cc)
layer_alone (of.Extent m c) v h = absurd (cc)
layer_alone (of.Query n args) v h = absurd (cc)

pub alone_is : (e : Typed) (v : ℕ) → variable_alone (out-Node e.node) ≡ Some v → e ≡ record { ty = e.ty; node = nodes.Variable v }
alone_is e v h =
    let is : e.node ≡ nodes.Variable v = sym (roll-out-Node e.node) ∙ ap roll-Node (layer_alone (out-Node e.node) v h) ∙ nodes.rolls-Variable v in
    ap (λ (n : Node). let t : Typed = record { ty = e.ty; node = n } in t) is

pub is_alone : (e : Typed) (ty : Ty) (v : ℕ) → e ≡ record { ty = ty; node = nodes.Variable v } → variable_alone (out-Node e.node) ≡ Some v
is_alone e ty v is =
    ap (λ (t : Typed). variable_alone (out-Node t.node)) is ∙ ap (λ (n : Node). variable_alone (out-Node n)) (sym (nodes.rolls-Variable v))
    ∙ ap variable_alone (out-roll-Node (of.Variable v))

alone_told : (e : Typed) → is_some (variable_alone (out-Node e.node)) ≡ true → IsAlone e
alone_told e h = by (variable_alone (out-Node e.node)) refl h
  where
    by : (o : Option ℕ) → variable_alone (out-Node e.node) ≡ o → is_some o ≡ true → IsAlone e
    by None is g = absurd (cc)
    by (Some v) is g = (e.ty, v, alone_is e v is)

told_alone : (e : Typed) → IsAlone e → is_some (variable_alone (out-Node e.node)) ≡ true
told_alone e (ty, v, is) = ap (λ (o : Option ℕ). is_some o) (is_alone e ty v is)

-- ---- one expression

-- what an expression that may be a variable alone says of the target
pub data Touches (program : Program) (rel : Rel) (in_object_place : Bool) (e : Typed) : Type 0 where
  variable : (v : ℕ) → Names e v → IsTargetVariable program rel v → (in_object_place ≡ true → ¬ IsAlone e) → Touches program rel in_object_place e
  extent : HasTargetExtent program e → Touches program rel in_object_place e
  query : (q : ℕ) → CallsQuery e q → ReadsTarget program q → Touches program rel in_object_place e

module _ (program : Program) (rel : Rel) (readers : List Bool) (exact : AreReaders program readers) where
  abbrev meta : ℕ
  meta = target_meta program

  module _ (place : Bool) (e : Typed) where
    abbrev may : Bool
    may = place && is_some (variable_alone (out-Node e.node))

    by_mention : (m : Mention) → Contains (mentions_in e) m → is_touch program rel meta readers may m ≡ true → Touches program rel place e
    by_mention (mentions.Variable v) among h =
        let no = not_true may (and_first (not may) (is_target_variable program rel v) h) in
        Touches.variable v (listed_named e v among) (target_there program rel v (and_second (not may) (is_target_variable program rel v) h))
        (λ is alone. true≢false (sym (and_both place (is_some (variable_alone (out-Node e.node))) is (told_alone e alone)) ∙ no))
    by_mention (mentions.Query q) among h = Touches.query q (listed_call e q among) ((exact q).0 h)
    by_mention (mentions.Extent model) among h = Touches.extent (extent_there program e model among h)

    pub touches_there : touches program rel meta readers place e ≡ true → Touches program rel place e
    touches_there h =
        let found = any_there (is_touch program rel meta readers may) (mentions_in e) h in
        by_mention found.0 found.1 found.2

    may_not : (place ≡ true → ¬ IsAlone e) → may ≡ false
    may_not none = by place (is_some (variable_alone (out-Node e.node))) refl refl
      where
        by : (a b : Bool) → place ≡ a → is_some (variable_alone (out-Node e.node)) ≡ b → (a && b) ≡ false
        by false b is alone = refl
        by true false is alone = refl
        by true true is alone = absurd (none is (alone_told e alone))

    pub there_touches : Touches program rel place e → touches program rel meta readers place e ≡ true
    there_touches (Touches.variable v names target none) =
        any_here (is_touch program rel meta readers may) (mentions_in e) (mentions.Variable v) (named_listed e v names)
        (and_both (not may) (is_target_variable program rel v) (not_false may (may_not none)) (there_target program rel v target))
    there_touches (Touches.extent x) =
        any_here (is_touch program rel meta readers may) (mentions_in e) (mentions.Extent x.model) (extent_listed e x.model (x.ty, x.class, x.within)) (there_meta program x.model x.slot x.found x.target)
    there_touches (Touches.query q calls reads) =
        any_here (is_touch program rel meta readers may) (mentions_in e) (mentions.Query q) (call_listed e q calls) ((exact q).1 reads)

-- ---- the places of a relation

module _ (program : Program) (rel : Rel) (readers : List Bool) (exact : AreReaders program readers)
    (templates : List Shown) (all : Adds (IsOfDomains IsOfDomain rel.domains) [] templates) where
  abbrev the_meta : ℕ
  the_meta = target_meta program

  -- what an expression says, in its place

  of_data : (e : Typed) → IsDataPlace rel e → Touches program rel false e → TouchesTarget program rel
  of_data e place (Touches.variable v names target none) = TouchesTarget.in_data e v place names target
  of_data e place (Touches.extent x) = TouchesTarget.extent e (IsExpressionOf.in_data place) x
  of_data e place (Touches.query q calls reads) = TouchesTarget.query e q (IsExpressionOf.in_data place) calls reads

  of_object : (e : Typed) → IsObjectPlace rel e → Touches program rel true e → TouchesTarget program rel
  of_object e place (Touches.variable v names target none) = TouchesTarget.not_alone e v place (none refl) names target
  of_object e place (Touches.extent x) = TouchesTarget.extent e (IsExpressionOf.of_object place) x
  of_object e place (Touches.query q calls reads) = TouchesTarget.query e q (IsExpressionOf.of_object place) calls reads

  -- conjuncts

  by_conjunct : (c : Conj) → IsConjunct rel c → conjunct_touches program rel the_meta readers c ≡ true → TouchesTarget program rel
  by_conjunct (conjuncts.Cond e) of h = of_data e (record { c = conjuncts.Cond e; of = of; asked = refl }) (touches_there program rel readers exact false e h)
  by_conjunct (conjuncts.Equation v e) of h = of_data e (record { c = conjuncts.Equation v e; of = of; asked = refl }) (touches_there program rel readers exact false e h)
  by_conjunct (conjuncts.Call number args) of h =
      let found = any_there (touches program rel the_meta readers true) args h in
      of_object found.0 (IsObjectPlace.argument (conjuncts.Call number args) of found.1) (touches_there program rel readers exact true found.0 found.2)

  data_conjunct : (c : Conj) (e : Typed) → IsAsked c e → touches program rel the_meta readers false e ≡ true → conjunct_touches program rel the_meta readers c ≡ true
  data_conjunct (conjuncts.Cond x) e is h = ap (touches program rel the_meta readers false) is ∙ h
  data_conjunct (conjuncts.Equation v x) e is h = ap (touches program rel the_meta readers false) is ∙ h
  data_conjunct (conjuncts.Call number args) e is h = absurd is

  object_conjunct : (c : Conj) (e : Typed) → IsArgument c e → touches program rel the_meta readers true e ≡ true → conjunct_touches program rel the_meta readers c ≡ true
  object_conjunct (conjuncts.Cond x) e is h = absurd is
  object_conjunct (conjuncts.Equation v x) e is h = absurd is
  object_conjunct (conjuncts.Call number args) e is h = any_here (touches program rel the_meta readers true) args e is h

  abbrev whens : Bool
  whens = list_any (conjunct_touches program rel the_meta readers) rel.whens

  abbrev wheres : Bool
  wheres = list_any (conjunct_touches program rel the_meta readers) rel.wheres

  abbrev patterns : Bool
  patterns = list_any (template_touches program rel the_meta readers) templates

  from_conjunct : (c : Conj) → IsConjunct rel c → conjunct_touches program rel the_meta readers c ≡ true → touches_target program rel the_meta readers templates ≡ true
  from_conjunct c (IsConjunct.of_when among) h = or_first (whens || wheres) patterns (or_first whens wheres (any_here (conjunct_touches program rel the_meta readers) rel.whens c among h))
  from_conjunct c (IsConjunct.of_where among) h = or_first (whens || wheres) patterns (or_second whens wheres (any_here (conjunct_touches program rel the_meta readers) rel.wheres c among h))

  -- items

  value_there : (d : layers.ItemValue-F ItemValue Item Tmpl) → value_touches program rel the_meta readers d ≡ true → (e : Typed) × (d ≡ layers.Expr e) × (touches program rel the_meta readers true e ≡ true)
  value_there layers.Null h = absurd (cc)
  value_there (layers.Expr e) h = (e, refl, h)
  value_there (layers.Nested part) h = absurd (cc)

  by_template : (s : Shown) → Contains templates s → template_touches program rel the_meta readers s ≡ true → TouchesTarget program rel
  by_template s among h =
      let found = any_there (item_touches program rel the_meta readers) (out-Tmpl s.0).items h in
      let item = found.0 in
      let value = value_there (out-ItemValue item.value) found.2 in
      let of = ⊎_elim (λ (none : Contains {X = Shown} [] s). absurd (nothing_in s none)) (λ (d : IsOfDomains IsOfDomain rel.domains s). d) (all.only s among) in
      of_object value.0
      (IsObjectPlace.item of.dom of.among
      (record {
        item = item;
        of = record { template = s.0; of = record { root = of.of.root; has = of.of.has; nested = stands_nested of.of.root None s.0 s.1 of.of.stands }; has = found.1 };
        is = expression_is item.value value.0 value.1;
      }))
      (touches_there program rel readers exact true value.0 value.2)

  from_item : (dom : Dom) (e : Typed) → Contains rel.domains dom → IsItemExpression dom e → touches program rel the_meta readers true e ≡ true → touches_target program rel the_meta readers templates ≡ true
  from_item dom e among x h =
      let t = x.of.template in
      let stands = nested_stands x.of.of.root None t x.of.of.nested in
      let s : Shown = (t, stands.0) in
      or_second (whens || wheres) patterns
      (any_here (template_touches program rel the_meta readers) templates s
      (all.more s (record { dom = dom; among = among; of = record { root = x.of.of.root; has = x.of.of.has; stands = stands.1 } }))
      (any_here (item_touches program rel the_meta readers) (out-Tmpl t).items x.item x.of.has (ap (value_touches program rel the_meta readers) (is_expression x.item.value e x.is) ∙ h)))

  -- ---- E2

  pub touching_there : touches_target program rel the_meta readers templates ≡ true → TouchesTarget program rel
  touching_there h = elim (or_cases (whens || wheres) patterns h) [
    | inl clauses ↦ elim (or_cases whens wheres clauses) [
      | inl w ↦ (let found = any_there (conjunct_touches program rel the_meta readers) rel.whens w in by_conjunct found.0 (IsConjunct.of_when found.1) found.2)
      | inr w ↦ (let found = any_there (conjunct_touches program rel the_meta readers) rel.wheres w in by_conjunct found.0 (IsConjunct.of_where found.1) found.2)
    ]
    | inr p ↦ (let found = any_there (template_touches program rel the_meta readers) templates p in by_template found.0 found.1 found.2)
  ]

  from_data : (e : Typed) → IsDataPlace rel e → Touches program rel false e → touches_target program rel the_meta readers templates ≡ true
  from_data e place says = from_conjunct place.c place.of (data_conjunct place.c e place.asked (there_touches program rel readers exact false e says))

  from_object : (e : Typed) → IsObjectPlace rel e → Touches program rel true e → touches_target program rel the_meta readers templates ≡ true
  from_object e (IsObjectPlace.item dom among x) says = from_item dom e among x (there_touches program rel readers exact true e says)
  from_object e (IsObjectPlace.argument c of arg) says = from_conjunct c of (object_conjunct c e arg (there_touches program rel readers exact true e says))

  from_expression : (e : Typed) → IsExpressionOf rel e → ((place : Bool) → Touches program rel place e) → touches_target program rel the_meta readers templates ≡ true
  from_expression e (IsExpressionOf.in_data place) says = from_data e place (says false)
  from_expression e (IsExpressionOf.of_object place) says = from_object e place (says true)

  pub there_touching : TouchesTarget program rel → touches_target program rel the_meta readers templates ≡ true
  there_touching (TouchesTarget.in_data e v place names target) = from_data e place (Touches.variable v names target (λ is. absurd (true≢false (sym is))))
  there_touching (TouchesTarget.not_alone e v place other names target) = from_object e place (Touches.variable v names target (λ is. other))
  there_touching (TouchesTarget.extent e place x) = from_expression e place (λ p. Touches.extent x)
  there_touching (TouchesTarget.query e q place calls reads) = from_expression e place (λ p. Touches.query q calls reads)

  pub touching_told : (b : Bool) → b ≡ touches_target program rel the_meta readers templates → IsTrue b ↔ TouchesTarget program rel
  touching_told b is = (λ h. touching_there (sym is ∙ h), λ t. is ∙ there_touching t)

-- what is asked of the templates of all domains is E2
pub any_told : {E : Type 0} (program : Program) (rel : Rel) (meta : ℕ) (readers : List Bool) → meta ≡ target_meta program → AreReaders program readers → (templates : List Standing)
    → Adds (IsOfDomains IsOfDomain rel.domains) [] (map shown_standing templates) → (slice : List Standing) → slice ≡ templates → (r : Result Bool E)
    → IfOk r (λ b. b ≡ touches_target program rel meta readers (map shown_standing slice)) → IfOk r (λ b. IsTrue b ↔ TouchesTarget program rel)
any_told program rel _ readers is exact templates all slice same (Ok b) h =
    touching_told program rel readers exact (map shown_standing templates) all b
    (h ∙ ap (λ (m : ℕ). touches_target program rel m readers (map shown_standing slice)) is ∙ ap (λ (ts : List Standing). touches_target program rel (target_meta program) readers (map shown_standing ts)) same)
any_told program rel _ readers is exact templates all slice same (Err e) h = tt
