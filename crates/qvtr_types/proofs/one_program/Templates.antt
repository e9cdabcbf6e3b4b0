-- A template resolves to one template, with one number behind it, and a domain to one domain (QVT 1.3, sections 7.11.1.6, 7.11.2.2 and 7.11.2.3),
-- where each expression has one typed tree.
use Rattle.std.proofs.Common.{◌≡◌, ℕ, ◌+◌, List, [], ◌∷◌, true, false, refl, sym, ◌∙◌, ap, subst, arith, true≢false}
use Rattle.std.specs.Prelude.{Option, Some}
use Rattle.std.proofs.lemmas.Option.{same_Some, slice_get_within}
use Rattle.mof_metamodel.specs.declared.desc.ClassId.{ClassId}
use Rattle.qv_syntax.specs.declared.expr.Expr.{Expr}
use Rattle.qv_syntax.specs.declared.name.Name.{Name}
use Rattle.qv_syntax.specs.declared.typed.Typed.{Typed}
use Rattle.qv_syntax.specs.declared.script.RelationTree.{RelationTree}
use Rattle.qv_syntax.specs.declared.script.DomainTree.{DomainTree}
use Rattle.qv_syntax.specs.declared.script.DomainTree.TheVariants as domains
use Rattle.qv_syntax.specs.declared.script.TemplateTree.{TemplateTree, out-TemplateTree}
use Rattle.qv_syntax.specs.declared.script.ItemTree.{ItemTree}
use Rattle.qv_syntax.specs.declared.script.ItemValueTree.{ItemValueTree, out-ItemValueTree, out-roll-ItemValueTree}
use Rattle.qv_syntax.specs.declared.script.ItemValueTree.TheOpen as of
use Rattle.qv_syntax.specs.declared.script.ItemValueTree.TheVariants as values
use Rattle.qv_syntax.specs.declared.program.Dom.{Dom}
use Rattle.qv_syntax.specs.declared.program.Var.{Var}
use Rattle.qv_syntax.specs.declared.program.Tmpl.{Tmpl, out-Tmpl, roll-Tmpl, roll-out-Tmpl}
use Rattle.qv_syntax.specs.declared.program.Item.{Item}
use Rattle.qv_syntax.specs.declared.program.ItemValue.{ItemValue}
use Rattle.qv_syntax.specs.declared.program.ItemValue.TheOpen as layers
use Rattle.qv_syntax.specs.declared.program.ItemValue.TheVariants as items
use Rattle.ocl_types.specs.HasType.{HasTree}
use Rattle.script_scopes.specs.Conjuncts.{is_null}
use Rattle.script_scopes.specs.Occurrences.{variable_text}
use Rattle.script_scopes.specs.Divisions.{first_template}
use Rattle.script_scopes.specs.Environments.{Setting, in_relation, place_of}
use Rattle.script_scopes.specs.ResolvedTemplates.{DomainReach, class_named, NamesProperty, IsTemplate, AreItems, IsItem}
use Rattle.script_scopes.specs.Resolutions.{domain_reach, IsDomain, AreDomains}
use Rattle.script_scopes.proofs.CallRowLaws.{within_some}
use Rattle.qvtr_types.proofs.one_program.Lists.{by_place}

-- ---- values of items as they are written

abbrev ValueLayer : Type 0
ValueLayer = of.ItemValueTree-F ItemValueTree ItemTree TemplateTree

expr_layer : (e : Expr) → out-ItemValueTree (values.Expr e) ≡ of.Expr e
expr_layer e = ap out-ItemValueTree (sym (values.rolls-Expr e)) ∙ out-roll-ItemValueTree (of.Expr e)

nested_layer : (variable : Option Name) (inner : TemplateTree) → out-ItemValueTree (values.Nested variable inner) ≡ of.Nested variable inner
nested_layer variable inner = ap out-ItemValueTree (sym (values.rolls-Nested variable inner)) ∙ out-roll-ItemValueTree (of.Nested variable inner)

same_expr : (e f : Expr) → values.Expr e ≡ values.Expr f → e ≡ f
same_expr e f h = let l : ◌≡◌ {A = ValueLayer} (of.Expr e) (of.Expr f) = sym (expr_layer e) ∙ ap out-ItemValueTree h ∙ expr_layer f in cc

no_nested : (e : Expr) (variable : Option Name) (inner : TemplateTree) → values.Expr e ≡ values.Nested variable inner → ⊥
no_nested e variable inner h = let l : ◌≡◌ {A = ValueLayer} (of.Expr e) (of.Nested variable inner) = sym (expr_layer e) ∙ ap out-ItemValueTree h ∙ nested_layer variable inner in cc

module _ (v w : Option Name) (t u : TemplateTree) (h : values.Nested v t ≡ values.Nested w u) where
  abbrev layers_are : ◌≡◌ {A = ValueLayer} (of.Nested v t) (of.Nested w u)
  layers_are = sym (nested_layer v t) ∙ ap out-ItemValueTree h ∙ nested_layer w u

  same_variable : v ≡ w
  same_variable = let l : ◌≡◌ {A = ValueLayer} (of.Nested v t) (of.Nested w u) = layers_are in cc

  same_inner : t ≡ u
  same_inner = let l : ◌≡◌ {A = ValueLayer} (of.Nested v t) (of.Nested w u) = layers_are in cc

-- ---- templates and items from their parts

same_template : (t u : Tmpl) → (out-Tmpl t).var ≡ (out-Tmpl u).var → (out-Tmpl t).class ≡ (out-Tmpl u).class → (out-Tmpl t).items ≡ (out-Tmpl u).items → t ≡ u
same_template t u var class its =
    let same : ◌≡◌ {A = layers.Tmpl-F ItemValue Item Tmpl} (out-Tmpl t) (out-Tmpl u) = (λ i. record { var = var i; class = class i; items = its i }) in
    sym (roll-out-Tmpl t) ∙ ap roll-Tmpl same ∙ roll-out-Tmpl u

same_item : (a b : Item) → a.prop.0 ≡ b.prop.0 → a.value ≡ b.value → a ≡ b
same_item a b prop value = λ i. record { prop = record { 0 = prop i }; value = value i }

module _ (reach : DomainReach) (same_tree : (e : Expr) (t u : Typed) → HasTree reach.env e t → HasTree reach.env e u → t ≡ u) where
  same_prop : (class : ClassId) (tree : ItemTree) (a b : Item) → NamesProperty reach class tree a → NamesProperty reach class tree b → a.prop.0 ≡ b.prop.0
  same_prop class tree a b one other = same_Some a.prop.0 b.prop.0 (sym one ∙ other)

  -- ---- what a template is made of

  record IsTemplateWith (k : ℕ) (variable : Option Name) (tree : TemplateTree) (t : Tmpl) (next : ℕ) : Type 0 where
    pub var : (out-Tmpl t).var ≡ place_of (variable_text k variable) reach.variables
    pub class : class_named reach (out-TemplateTree tree).class ≡ Some (out-Tmpl t).class
    pub are : AreItems reach (out-Tmpl t).class (k + 1) (out-TemplateTree tree).items (out-Tmpl t).items next

  template_with : (k next : ℕ) (variable : Option Name) (tree : TemplateTree) (t : Tmpl) → IsTemplate reach k variable tree t next → IsTemplateWith k variable tree t next
  template_with _ _ _ _ _ (IsTemplate.template k next variable tree t var class are) = record { var = var; class = class; are = are }

  -- items of which the first comes from this tree
  record AreItemsWith (class : ClassId) (k next : ℕ) (tree : ItemTree) (trees : List ItemTree) (list : List Item) : Type 0 where
    pub middle : ℕ
    pub item : Item
    pub rest : List Item
    pub are : list ≡ item ∷ rest
    pub first : IsItem reach class k tree item middle
    pub later : AreItems reach class middle trees rest next

  no_items : (class : ClassId) (k next : ℕ) (trees : List ItemTree) (list : List Item) → AreItems reach class k trees list next → trees ≡ [] → (list ≡ []) × (next ≡ k)
  no_items _ _ _ _ _ (AreItems.none class k) is = (refl, refl)
  no_items _ _ _ _ _ (AreItems.one_more class k middle next tree trees item rest one are) is = absurd (cc)

  items_with : (class : ClassId) (k next : ℕ) (trees : List ItemTree) (list : List Item) → AreItems reach class k trees list next
      → (tree : ItemTree) (more : List ItemTree) → trees ≡ tree ∷ more → AreItemsWith class k next tree more list
  items_with _ _ _ _ _ (AreItems.none class k) tree more is = absurd (cc)
  items_with _ _ _ _ _ (AreItems.one_more class k middle next first trees item rest one are) tree more is =
      let head : first ≡ tree = cc in
      let tail : trees ≡ more = cc in
      record {
        middle = middle;
        item = item;
        rest = rest;
        are = refl;
        first = subst (λ (x : ItemTree). IsItem reach class k x item middle) head one;
        later = subst (λ (xs : List ItemTree). AreItems reach class middle xs rest next) tail are;
      }

  -- an item whose value is a nested template
  record IsNestedWith (class : ClassId) (k next : ℕ) (tree : ItemTree) (item : Item) (variable : Option Name) (inner : TemplateTree) : Type 0 where
    pub part : Tmpl
    pub named : NamesProperty reach class tree item
    pub its : IsTemplate reach k variable inner part next
    pub is : item.value ≡ items.Nested part

  nested_with : (class : ClassId) (k next : ℕ) (tree : ItemTree) (item : Item) → IsItem reach class k tree item next
      → (variable : Option Name) (inner : TemplateTree) → tree.value ≡ values.Nested variable inner → IsNestedWith class k next tree item variable inner
  nested_with _ _ _ _ _ (IsItem.empty class k tree item e named value null is) variable inner at = absurd (no_nested e variable inner (sym value ∙ at))
  nested_with _ _ _ _ _ (IsItem.expression class k tree item e t named value null has is) variable inner at = absurd (no_nested e variable inner (sym value ∙ at))
  nested_with _ _ _ _ _ (IsItem.nested class k next tree item v template part named value its is) variable inner at =
      let same : values.Nested v template ≡ values.Nested variable inner = sym value ∙ at in
      record {
        part = part;
        named = named;
        its = subst (λ (x : TemplateTree). IsTemplate reach k variable x part next) (same_inner v variable template inner same)
            (subst (λ (w : Option Name). IsTemplate reach k w template part next) (same_variable v variable template inner same) its);
        is = is;
      }

  -- ---- items

  empty_one : (class : ClassId) (k next : ℕ) (tree : ItemTree) (item : Item) → IsItem reach class k tree item next
      → (e : Expr) (other : Item) → tree.value ≡ values.Expr e → is_null e ≡ true → NamesProperty reach class tree other → other.value ≡ items.Null → (other ≡ item) × (k ≡ next)
  empty_one _ _ _ _ _ (IsItem.empty class k tree item f named value null is) e other at empty its has_none =
      (same_item other item (same_prop class tree other item its named) (has_none ∙ sym is), refl)
  empty_one _ _ _ _ _ (IsItem.expression class k tree item f t named value null has is) e other at empty its has_none =
      absurd (true≢false (sym empty ∙ ap is_null (same_expr e f (sym at ∙ value)) ∙ null))
  empty_one _ _ _ _ _ (IsItem.nested class k next tree item v inner part named value whole is) e other at empty its has_none = absurd (no_nested e v inner (sym at ∙ value))

  expression_one : (class : ClassId) (k next : ℕ) (tree : ItemTree) (item : Item) → IsItem reach class k tree item next
      → (e : Expr) (t : Typed) (other : Item) → tree.value ≡ values.Expr e → is_null e ≡ false → HasTree reach.env e t → NamesProperty reach class tree other → other.value ≡ items.Expr t
      → (other ≡ item) × (k ≡ next)
  expression_one _ _ _ _ _ (IsItem.empty class k tree item f named value null is) e t other at full given its has_value =
      absurd (true≢false (sym null ∙ ap is_null (same_expr f e (sym value ∙ at)) ∙ full))
  expression_one _ _ _ _ _ (IsItem.expression class k tree item f u named value null has is) e t other at full given its has_value =
      let same : t ≡ u = same_tree e t u given (subst (λ (x : Expr). HasTree reach.env x u) (same_expr f e (sym value ∙ at)) has) in
      (same_item other item (same_prop class tree other item its named) (has_value ∙ ap (λ (x : Typed). items.Expr x) same ∙ sym is), refl)
  expression_one _ _ _ _ _ (IsItem.nested class k next tree item v inner part named value whole is) e t other at full given its has_value = absurd (no_nested e v inner (sym at ∙ value))

  mutual
    pub one_template : (k next : ℕ) (variable : Option Name) (tree : TemplateTree) (t : Tmpl) → IsTemplate reach k variable tree t next
        → (other : ℕ) (u : Tmpl) → IsTemplate reach k variable tree u other → (t ≡ u) × (next ≡ other)
    one_template _ _ _ _ _ (IsTemplate.template k next variable tree t var class are) other u has =
        let q = template_with k other variable tree u has in
        let same : (out-Tmpl t).class ≡ (out-Tmpl u).class = same_Some (out-Tmpl t).class (out-Tmpl u).class (sym class ∙ q.class) in
        let rest = one_items (out-Tmpl t).class (k + 1) next (out-TemplateTree tree).items (out-Tmpl t).items are other (out-Tmpl u).items
        (subst (λ (c : ClassId). AreItems reach c (k + 1) (out-TemplateTree tree).items (out-Tmpl u).items other) (sym same) q.are) in
        (same_template t u (var ∙ sym q.var) same rest.0, rest.1)

    one_items : (class : ClassId) (k next : ℕ) (trees : List ItemTree) (list : List Item) → AreItems reach class k trees list next
        → (other : ℕ) (others : List Item) → AreItems reach class k trees others other → (list ≡ others) × (next ≡ other)
    one_items _ _ _ _ _ (AreItems.none class k) other others have = let q = no_items class k other [] others have refl in (sym q.0, sym q.1)
    one_items _ _ _ _ _ (AreItems.one_more class k middle next tree trees item rest is are) other others have =
        let q = items_with class k other (tree ∷ trees) others have tree trees refl in
        let first = one_item class k middle tree item is q.middle q.item q.first in
        let later = one_items class middle next trees rest are other q.rest (subst (λ (m : ℕ). AreItems reach class m trees q.rest other) (sym first.1) q.later) in
        let same : item ∷ rest ≡ q.item ∷ q.rest = (λ i. first.0 i ∷ later.0 i) in
        (same ∙ sym q.are, later.1)

    one_item : (class : ClassId) (k next : ℕ) (tree : ItemTree) (item : Item) → IsItem reach class k tree item next
        → (other : ℕ) (x : Item) → IsItem reach class k tree x other → (item ≡ x) × (next ≡ other)
    one_item _ _ _ _ _ (IsItem.empty class k tree item e named value null is) other x has = empty_one class k other tree x has e item value null named is
    one_item _ _ _ _ _ (IsItem.expression class k tree item e t named value null tree_of is) other x has = expression_one class k other tree x has e t item value null tree_of named is
    one_item _ _ _ _ _ (IsItem.nested class k next tree item variable inner part named value its is) other x has =
        let q = nested_with class k other tree x has variable inner value in
        let same = one_template k next variable inner part its other q.part q.its in
        (same_item item x (same_prop class tree item x named q.named) (is ∙ ap (λ (p : Tmpl). items.Nested p) same.0 ∙ sym q.is), same.1)

-- ---- domains

module _ (s : Setting) (r : RelationTree) (vars : List Var) (same_tree : (e : Expr) (t u : Typed) → HasTree (in_relation s r vars) e t → HasTree (in_relation s r vars) e u → t ≡ u) where
  one_domain : (k : ℕ) (tree : DomainTree) (a b : Dom) → IsDomain s r vars k tree a → IsDomain s r vars k tree b → a ≡ b
  one_domain k (domains.Pattern mark model root tree span) a b one other =
      let (t, next, at, is) = one.4 in
      let (u, more, there, its) = other.4 in
      let same : t ≡ u = (one_template (domain_reach s r vars model.text) same_tree k next (Some root) tree t is more u its).0 in
      let model_is : a.model ≡ b.model = one.1 ∙ sym other.1 in
      let marker_is : a.marker ≡ b.marker = one.2 ∙ sym other.2 in
      let root_is : a.root ≡ b.root = one.3 ∙ sym other.3 in
      let template_is : a.template ≡ b.template = at ∙ ap (λ (p : Tmpl). Some p) same ∙ sym there in
      λ i. record { model = model_is i; marker = marker_is i; root = root_is i; template = template_is i }
  one_domain k (domains.Primitive root ty span) a b one other =
      let model_is : a.model ≡ b.model = one.0 ∙ sym other.0 in
      let marker_is : a.marker ≡ b.marker = one.1 ∙ sym other.1 in
      let root_is : a.root ≡ b.root = one.2 ∙ sym other.2 in
      let template_is : a.template ≡ b.template = one.3 ∙ sym other.3 in
      λ i. record { model = model_is i; marker = marker_is i; root = root_is i; template = template_is i }

  pub one_domains : (xs ys : List Dom) → AreDomains s r vars xs → AreDomains s r vars ys → xs ≡ ys
  one_domains xs ys one other = by_place xs ys (sym one.count ∙ other.count) (λ i a b at there.
      let below = slice_get_within xs i a at in
      let count = one.count in
      let (tree, found) = within_some r.domains i (omega (arith, below, count)) in
      one_domain (first_template r i) tree a b (one.each i tree a found at) (other.each i tree b found there))
