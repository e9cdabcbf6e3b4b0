-- The pieces of a template as it is written, and what it resolves to: each template within it and each item comes from a piece, and each
-- piece comes to one.
use Rattle.std.proofs.Common.{◌≡◌, ℕ, ◌+◌, List, [], ◌∷◌, ◌++◌, map, false, refl, sym, ◌∙◌, ap, subst, arith, inl, inr, true≢false}
use Rattle.std.specs.Prelude.{Option, Some, Contains}
use Rattle.std.specs.List.{flat_map}
use Rattle.std.proofs.lemmas.List.{map-append}
use Rattle.std.proofs.lemmas.Grind.{flat_map-append}
use Rattle.std.proofs.lemmas.List.Elements.{Contains-append_left, Contains-append_right, Contains-append_cases}
use Rattle.mof_metamodel.specs.declared.desc.ClassId.{ClassId}
use Rattle.mof_metamodel.specs.declared.desc.PropId.{PropId}
use Rattle.mof_metamodel.specs.Metamodels.{prop_number}
use Rattle.qv_syntax.specs.declared.name.Name.{Name}
use Rattle.qv_syntax.specs.declared.name.Path.{Path}
use Rattle.qv_syntax.specs.declared.expr.Expr.{Expr}
use Rattle.qv_syntax.specs.declared.typed.Typed.{Typed}
use Rattle.qv_syntax.specs.declared.script.TemplateTree.{TemplateTree, out-TemplateTree}
use Rattle.qv_syntax.specs.declared.script.ItemTree.{ItemTree}
use Rattle.qv_syntax.specs.declared.script.ItemValueTree.{ItemValueTree}
use Rattle.qv_syntax.specs.declared.script.ItemValueTree.TheVariants as values
use Rattle.qv_syntax.specs.declared.program.Tmpl.{Tmpl, out-Tmpl, roll-out-Tmpl, fold-roll-Tmpl}
use Rattle.qv_syntax.specs.declared.program.Item.{Item, fold-roll-Item}
use Rattle.qv_syntax.specs.declared.program.ItemValue.{ItemValue, out-ItemValue, out-roll-ItemValue, fold-ItemValue, fold-roll-ItemValue}
use Rattle.qv_syntax.specs.declared.program.ItemValue.TheVariants as items
use Rattle.qv_syntax.specs.declared.program.ItemValue.TheOpen as of_templates
use Rattle.qv_syntax.specs.declared.program.Item.{fold-Item}
use Rattle.qv_syntax.specs.Parts as program
use Rattle.qv_syntax.specs.Parts.{IsNested, HasItem}
use Rattle.ocl_environments.specs.Environments.{meta_at}
use Rattle.ocl_types.specs.HasType.{HasTree}
use Rattle.script_scopes.specs.Conjuncts.{is_null}
use Rattle.script_scopes.specs.Occurrences.{WrittenProperty, Piece, ValuePieces, ItemPieces, in_turn, with_variable, template_body, item_pieces, value_pieces, variable_text, piece_template}
use Rattle.script_scopes.specs.Occurrences.Piece.{begins, asks}
use Rattle.script_scopes.specs.Environments.{place_of}
use Rattle.script_scopes.specs.ResolvedTemplates.{DomainReach, class_named, IsTemplate, AreItems, IsItem}
use Rattle.qvtr_types.proofs.PieceForms.{body_is, item_is, expr_is, nested_is}
use Rattle.ocl_types.proofs.ConformanceLaws.{in_either}
use Rattle.mof_metamodel.proofs.Facts.{nothing_in}
use Rattle.mof_metamodel.proofs.Facts.{only_one}

-- ---- pieces of items

-- the pieces of the items of a template
abbrev pub items_of : TemplateTree → ItemPieces
items_of tree = in_turn (map item_pieces (out-TemplateTree tree).items)

abbrev pub whole_of : Option Name → TemplateTree → ValuePieces
whole_of variable tree = with_variable variable (template_body tree)

whole_is : (variable : Option Name) (tree : TemplateTree) → whole_of variable tree ≡ with_variable variable (record { class = (out-TemplateTree tree).class; items = items_of tree })
whole_is variable tree = ap (with_variable variable) (body_is tree)

-- an item whose value is of a form has the pieces of that
item_with : (tree : ItemTree) (value : ItemValueTree) (ps : ValuePieces) → tree.value ≡ value → value_pieces value ≡ ps
    → item_pieces tree ≡ record { count = ps.count; from = λ k class. ps.from k (Some (record { class = class; name = tree.prop.text })) }
item_with tree value ps is same =
    item_is tree ∙ ap (λ (v : ValuePieces). record { count = v.count; from = λ (k : ℕ) (class : Path). v.from k (Some (record { class = class; name = tree.prop.text })) }) (ap value_pieces is ∙ same)

-- ---- values of items apart

abbrev Layer : Type 0
Layer = of_templates.ItemValue-F ItemValue Item Tmpl

null_layer : out-ItemValue items.Null ≡ of_templates.Null
null_layer = ap out-ItemValue (sym items.rolls-Null) ∙ out-roll-ItemValue of_templates.Null

expr_layer : (t : Typed) → out-ItemValue (items.Expr t) ≡ of_templates.Expr t
expr_layer t = ap out-ItemValue (sym (items.rolls-Expr t)) ∙ out-roll-ItemValue (of_templates.Expr t)

nested_layer : (t : Tmpl) → out-ItemValue (items.Nested t) ≡ of_templates.Nested t
nested_layer t = ap out-ItemValue (sym (items.rolls-Nested t)) ∙ out-roll-ItemValue (of_templates.Nested t)

no_null : (part : Tmpl) → items.Null ≡ items.Nested part → ⊥
no_null part h = let e : ◌≡◌ {A = Layer} of_templates.Null (of_templates.Nested part) = sym null_layer ∙ ap out-ItemValue h ∙ nested_layer part in cc

no_expr : (t : Typed) (part : Tmpl) → items.Expr t ≡ items.Nested part → ⊥
no_expr t part h = let e : ◌≡◌ {A = Layer} (of_templates.Expr t) (of_templates.Nested part) = sym (expr_layer t) ∙ ap out-ItemValue h ∙ nested_layer part in cc

pub null_no_expr : (t : Typed) → items.Null ≡ items.Expr t → ⊥
null_no_expr t h = let e : ◌≡◌ {A = Layer} of_templates.Null (of_templates.Expr t) = sym null_layer ∙ ap out-ItemValue h ∙ expr_layer t in cc

pub nested_no_expr : (part : Tmpl) (t : Typed) → items.Nested part ≡ items.Expr t → ⊥
nested_no_expr part t h = no_expr t part (sym h)

same_part : (t part : Tmpl) → items.Nested t ≡ items.Nested part → t ≡ part
same_part t part h = let e : ◌≡◌ {A = Layer} (of_templates.Nested t) (of_templates.Nested part) = sym (nested_layer t) ∙ ap out-ItemValue h ∙ nested_layer part in cc

pub same_expr : (t u : Typed) → items.Expr t ≡ items.Expr u → t ≡ u
same_expr t u h = let e : ◌≡◌ {A = Layer} (of_templates.Expr t) (of_templates.Expr u) = sym (expr_layer t) ∙ ap out-ItemValue h ∙ expr_layer u in cc

-- ---- the variables of templates, form by form

abbrev variables_in_value : ItemValue → List ℕ
variables_in_value = fold-ItemValue (List ℕ) (List ℕ) (List ℕ) program.value_variables program.item_variables program.template_step

abbrev variables_in_item : Item → List ℕ
variables_in_item = fold-Item (List ℕ) (List ℕ) (List ℕ) program.value_variables program.item_variables program.template_step

of_template : (t : Tmpl) → program.template_variables t ≡ (out-Tmpl t).var ∷ flat_map (λ vs. vs) (map variables_in_item (out-Tmpl t).items)
of_template t =
    ap program.template_variables (sym (roll-out-Tmpl t)) ∙ fold-roll-Tmpl (List ℕ) (List ℕ) (List ℕ) program.value_variables program.item_variables program.template_step (out-Tmpl t)

of_item : (item : Item) → variables_in_item item ≡ variables_in_value item.value
of_item item = fold-roll-Item (List ℕ) (List ℕ) (List ℕ) program.value_variables program.item_variables program.template_step (record { prop = item.prop; value = item.value })

of_null : variables_in_value items.Null ≡ []
of_null = ap variables_in_value (sym items.rolls-Null) ∙ fold-roll-ItemValue (List ℕ) (List ℕ) (List ℕ) program.value_variables program.item_variables program.template_step of_templates.Null

of_expr : (t : Typed) → variables_in_value (items.Expr t) ≡ []
of_expr t = ap variables_in_value (sym (items.rolls-Expr t)) ∙ fold-roll-ItemValue (List ℕ) (List ℕ) (List ℕ) program.value_variables program.item_variables program.template_step (of_templates.Expr t)

of_nested : (t : Tmpl) → variables_in_value (items.Nested t) ≡ program.template_variables t
of_nested t = ap variables_in_value (sym (items.rolls-Nested t)) ∙ fold-roll-ItemValue (List ℕ) (List ℕ) (List ℕ) program.value_variables program.item_variables program.template_step (of_templates.Nested t)

-- ---- templates within templates

-- what holds of the template, and of what is nested in its items, holds of what is nested in it
nested_cases : (P : Tmpl → Type 0) (t u : Tmpl) → IsNested t u → P t
    → ((prop : PropId) (part : Tmpl) → HasItem t (record { prop = prop; value = items.Nested part }) → IsNested part u → P u) → P u
nested_cases P _ _ (IsNested.whole t) own within = own
nested_cases P _ _ (IsNested.inside t prop part inner has nested) own within = within prop part has nested

module _ (reach : DomainReach) where
  abbrev number : List ℕ → ℕ
  number v = place_of v reach.variables

  -- the property of this name is that of the item
  abbrev pub IsNamed : ClassId → List ℕ → Item → Type 0
  IsNamed class name item = prop_number (meta_at reach.env.metas reach.meta) class.0 name ≡ Some item.prop.0

  -- ---- how many templates there are

  mutual
    template_next : (k next : ℕ) (variable : Option Name) (tree : TemplateTree) (t : Tmpl) → IsTemplate reach k variable tree t next → next ≡ k + (whole_of variable tree).count
    template_next _ _ _ _ _ (IsTemplate.template k next variable tree t var class are) =
        let rest = items_next (out-Tmpl t).class (k + 1) next (out-TemplateTree tree).items (out-Tmpl t).items are in
        let count : (whole_of variable tree).count ≡ 1 + (items_of tree).count = ap (λ (v : ValuePieces). v.count) (whole_is variable tree) in
        omega (arith, rest, count)

    items_next : (class : ClassId) (k next : ℕ) (trees : List ItemTree) (list : List Item) → AreItems reach class k trees list next → next ≡ k + (in_turn (map item_pieces trees)).count
    items_next _ _ _ _ _ (AreItems.none class k) = omega arith
    items_next _ _ _ _ _ (AreItems.one_more class k middle next tree trees item rest is are) =
        let one = item_next class k middle tree item is in
        let more = items_next class middle next trees rest are in
        omega (arith, one, more)

    item_next : (class : ClassId) (k next : ℕ) (tree : ItemTree) (item : Item) → IsItem reach class k tree item next → next ≡ k + (item_pieces tree).count
    item_next _ _ _ _ _ (IsItem.empty class k tree item e named value null is) =
        let count : (item_pieces tree).count ≡ 0 = ap (λ (p : ItemPieces). p.count) (item_with tree (values.Expr e) _ value (expr_is e)) in
        omega (arith, count)
    item_next _ _ _ _ _ (IsItem.expression class k tree item e t named value null has is) =
        let count : (item_pieces tree).count ≡ 0 = ap (λ (p : ItemPieces). p.count) (item_with tree (values.Expr e) _ value (expr_is e)) in
        omega (arith, count)
    item_next _ _ _ _ _ (IsItem.nested class k next tree item variable inner t named value its is) =
        let count : (item_pieces tree).count ≡ (whole_of variable inner).count = ap (λ (p : ItemPieces). p.count) (item_with tree (values.Nested variable inner) _ value (nested_is variable inner)) in
        let more = template_next k next variable inner t its in
        omega (arith, count, more)

  -- ---- from the program: what a template and its items come from

  -- an item of a template with the class of this path, whose number is this class
  pub data IsItemTold (all : List Piece) (path : Path) (class : ClassId) (item : Item) : Type 0 where
    empty : (name : List ℕ) → IsNamed class name item → item.value ≡ items.Null → IsItemTold all path class item
    expression : (name : List ℕ) (e : Expr) (t : Typed) → IsNamed class name item → Contains all (asks (Some (record { class = path; name = name })) e) → is_null e ≡ false
        → HasTree reach.env e t → item.value ≡ items.Expr t → IsItemTold all path class item
    nested : (name v : List ℕ) (inner : Path) (part : Tmpl) → IsNamed class name item → Contains all (begins (Some (record { class = path; name = name })) v inner)
        → class_named reach inner ≡ Some (out-Tmpl part).class → item.value ≡ items.Nested part → IsItemTold all path class item

  pub record IsTold (all : List Piece) (t : Tmpl) : Type 0 where
    pub at : Option WrittenProperty
    pub v : List ℕ
    pub path : Path
    pub among : Contains all (begins at v path)
    pub number_is : (out-Tmpl t).var ≡ number v
    pub class : class_named reach path ≡ Some (out-Tmpl t).class
    pub items_told : (item : Item) → HasItem t item → IsItemTold all path (out-Tmpl t).class item

  -- each of the pieces is one of these
  abbrev pub AreAmong : List Piece → List Piece → Type 0
  AreAmong some all = (p : Piece) → Contains some p → Contains all p

  module _ (all : List Piece) where
    head_among : (k : ℕ) (at : Option WrittenProperty) (variable : Option Name) (tree : TemplateTree) → AreAmong ((whole_of variable tree).from k at) all
        → Contains all (begins at (variable_text k variable) (out-TemplateTree tree).class)
    head_among k at variable tree within =
        let p = begins at (variable_text k variable) (out-TemplateTree tree).class in
        within p (subst (λ (v : ValuePieces). Contains (v.from k at) p) (sym (whole_is variable tree)) (0, omega arith, refl))

    rest_among : (k : ℕ) (at : Option WrittenProperty) (variable : Option Name) (tree : TemplateTree) → AreAmong ((whole_of variable tree).from k at) all
        → AreAmong ((items_of tree).from (k + 1) (out-TemplateTree tree).class) all
    rest_among k at variable tree within p c =
        let first = begins at (variable_text k variable) (out-TemplateTree tree).class in
        within p (subst (λ (v : ValuePieces). Contains (v.from k at) p) (sym (whole_is variable tree))
        (Contains-append_right (first ∷ []) ((items_of tree).from (k + 1) (out-TemplateTree tree).class) p c))

    first_among : (k : ℕ) (path : Path) (tree : ItemTree) (trees : List ItemTree) → AreAmong ((in_turn (map item_pieces (tree ∷ trees))).from k path) all → AreAmong ((item_pieces tree).from k path) all
    first_among k path tree trees within p c = within p (Contains-append_left ((item_pieces tree).from k path) ((in_turn (map item_pieces trees)).from (k + (item_pieces tree).count) path) p c)

    later_among : (k middle : ℕ) (path : Path) (tree : ItemTree) (trees : List ItemTree) → middle ≡ k + (item_pieces tree).count → AreAmong ((in_turn (map item_pieces (tree ∷ trees))).from k path) all
        → AreAmong ((in_turn (map item_pieces trees)).from middle path) all
    later_among k middle path tree trees is within p c = within p (Contains-append_right ((item_pieces tree).from k path) ((in_turn (map item_pieces trees)).from (k + (item_pieces tree).count) path) p
        (subst (λ (n : ℕ). Contains ((in_turn (map item_pieces trees)).from n path) p) is c))

    value_among : (k : ℕ) (path : Path) (tree : ItemTree) (value : ItemValueTree) (ps : ValuePieces) → tree.value ≡ value → value_pieces value ≡ ps → AreAmong ((item_pieces tree).from k path) all
        → AreAmong (ps.from k (Some (record { class = path; name = tree.prop.text }))) all
    value_among k path tree value ps is same within p c = within p (subst (λ (v : ItemPieces). Contains (v.from k path) p) (sym (item_with tree value ps is same)) c)

    item_told : (class : ClassId) (k next : ℕ) (tree : ItemTree) (item : Item) → IsItem reach class k tree item next → (path : Path) → AreAmong ((item_pieces tree).from k path) all
        → IsItemTold all path class item
    item_told _ _ _ _ _ (IsItem.empty class k tree item e named value null is) path within = IsItemTold.empty tree.prop.text named is
    item_told _ _ _ _ _ (IsItem.expression class k tree item e t named value null has is) path within =
        IsItemTold.expression tree.prop.text e t named
        (value_among k path tree (values.Expr e) _ value (expr_is e) within (asks (Some (record { class = path; name = tree.prop.text })) e) (0, omega arith, refl)) null has is
    item_told _ _ _ _ _ (IsItem.nested class k next tree item variable inner t named value its is) path within =
        IsItemTold.nested tree.prop.text (variable_text k variable) (out-TemplateTree inner).class t named
        (head_among k (Some (record { class = path; name = tree.prop.text })) variable inner
        (value_among k path tree (values.Nested variable inner) _ value (nested_is variable inner) within)) (its_class k next variable inner t its) is
      where
        its_class : (k next : ℕ) (variable : Option Name) (inner : TemplateTree) (t : Tmpl) → IsTemplate reach k variable inner t next → class_named reach (out-TemplateTree inner).class ≡ Some (out-Tmpl t).class
        its_class _ _ _ _ _ (IsTemplate.template k next variable tree t var class are) = class

    items_told : (class : ClassId) (k next : ℕ) (trees : List ItemTree) (list : List Item) → AreItems reach class k trees list next → (path : Path)
        → AreAmong ((in_turn (map item_pieces trees)).from k path) all → (item : Item) → Contains list item → IsItemTold all path class item
    items_told _ _ _ _ _ (AreItems.none class k) path within item c = absurd (nothing_in item c)
    items_told _ _ _ _ _ (AreItems.one_more class k middle next tree trees item rest is are) path within x c = elim (in_either item x rest c) [
      | inl same ↦ subst (IsItemTold all path class) same (item_told class k middle tree item is path (first_among k path tree trees within))
      | inr more ↦ items_told class middle next trees rest are path (later_among k middle path tree trees (item_next class k middle tree item is) within) x more
    ]

    mutual
      pub template_told : (k next : ℕ) (variable : Option Name) (tree : TemplateTree) (t : Tmpl) → IsTemplate reach k variable tree t next → (at : Option WrittenProperty)
          → AreAmong ((whole_of variable tree).from k at) all → (u : Tmpl) → IsNested t u → IsTold all u
      template_told _ _ _ _ _ (IsTemplate.template k next variable tree t var class are) at within u below =
          let rest = rest_among k at variable tree within in
          nested_cases (IsTold all) t u below
          (record {
            at = at;
            v = variable_text k variable;
            path = (out-TemplateTree tree).class;
            among = head_among k at variable tree within;
            number_is = var;
            class = class;
            items_told = λ item c. items_told (out-Tmpl t).class (k + 1) next (out-TemplateTree tree).items (out-Tmpl t).items are (out-TemplateTree tree).class rest item c;
          })
          (λ prop part has inside. items_within (out-Tmpl t).class (k + 1) next (out-TemplateTree tree).items (out-Tmpl t).items are (out-TemplateTree tree).class rest
          (record { prop = prop; value = items.Nested part }) has part refl u inside)

      items_within : (class : ClassId) (k next : ℕ) (trees : List ItemTree) (list : List Item) → AreItems reach class k trees list next → (path : Path)
          → AreAmong ((in_turn (map item_pieces trees)).from k path) all → (x : Item) → Contains list x → (part : Tmpl) → x.value ≡ items.Nested part → (u : Tmpl) → IsNested part u → IsTold all u
      items_within _ _ _ _ _ (AreItems.none class k) path within x c part is u below = absurd (nothing_in x c)
      items_within _ _ _ _ _ (AreItems.one_more class k middle next tree trees item rest one are) path within x c part is u below = elim (in_either item x rest c) [
        | inl same ↦ item_within class k middle tree item one path (first_among k path tree trees within) part (ap (λ (i : Item). i.value) same ∙ is) u below
        | inr more ↦ items_within class middle next trees rest are path (later_among k middle path tree trees (item_next class k middle tree item one) within) x more part is u below
      ]

      item_within : (class : ClassId) (k next : ℕ) (tree : ItemTree) (item : Item) → IsItem reach class k tree item next → (path : Path) → AreAmong ((item_pieces tree).from k path) all
          → (part : Tmpl) → item.value ≡ items.Nested part → (u : Tmpl) → IsNested part u → IsTold all u
      item_within _ _ _ _ _ (IsItem.empty class k tree item e named value null at) path within part is u below = absurd (no_null part (sym at ∙ is))
      item_within _ _ _ _ _ (IsItem.expression class k tree item e t named value null has at) path within part is u below = absurd (no_expr t part (sym at ∙ is))
      item_within _ _ _ _ _ (IsItem.nested class k next tree item variable inner t named value its at) path within part is u below =
          template_told k next variable inner t its (Some (record { class = path; name = tree.prop.text }))
          (value_among k path tree (values.Nested variable inner) _ value (nested_is variable inner) within) u
          (subst (λ (p : Tmpl). IsNested p u) (sym (same_part t part (sym at ∙ is))) below)

  -- ---- from the script: what a piece comes to

  pub data IsShown (t : Tmpl) : Piece → Type 0 where
    begun : (u : Tmpl) (at : Option WrittenProperty) (v : List ℕ) (path : Path) → IsNested t u → (out-Tmpl u).var ≡ number v → IsShown t (begins at v path)
    asked : (at : Option WrittenProperty) (e : Expr)
        → (is_null e ≡ false → (u : Tmpl) × (item : Item) × (tree : Typed) × IsNested t u × HasItem u item × (item.value ≡ items.Expr tree) × HasTree reach.env e tree) → IsShown t (asks at e)

  -- what comes to something in the value of an item comes to it in the template
  lifted : (t part : Tmpl) (prop : PropId) → HasItem t (record { prop = prop; value = items.Nested part }) → (p : Piece) → IsShown part p → IsShown t p
  lifted t part prop has _ (IsShown.begun u at v path below is) = IsShown.begun u at v path (IsNested.inside t prop part u has below) is
  lifted t part prop has _ (IsShown.asked at e gives) =
      IsShown.asked at e (λ null. let g = gives null in (g.0, g.1, g.2, IsNested.inside t prop part g.0 has g.3, g.4, g.5, g.6))

  valued : (t : Tmpl) (item : Item) (value : ItemValue) → HasItem t item → item.value ≡ value → HasItem t (record { prop = item.prop; value = value })
  valued t item value has is = subst (λ (v : ItemValue). HasItem t (record { prop = item.prop; value = v })) is has

  mutual
    pub template_shown : (k next : ℕ) (variable : Option Name) (tree : TemplateTree) (t : Tmpl) → IsTemplate reach k variable tree t next → (at : Option WrittenProperty) (p : Piece)
        → Contains ((whole_of variable tree).from k at) p → IsShown t p
    template_shown _ _ _ _ _ (IsTemplate.template k next variable tree t var class are) at p c =
        let first = begins at (variable_text k variable) (out-TemplateTree tree).class in
        elim (in_either first p ((items_of tree).from (k + 1) (out-TemplateTree tree).class) (subst (λ (v : ValuePieces). Contains (v.from k at) p) (whole_is variable tree) c)) [
          | inl same ↦ subst (IsShown t) same (IsShown.begun t at (variable_text k variable) (out-TemplateTree tree).class (IsNested.whole t) var)
          | inr more ↦ items_shown (out-Tmpl t).class (k + 1) next (out-TemplateTree tree).items (out-Tmpl t).items are (out-TemplateTree tree).class t (λ item has. has) p more
        ]

    items_shown : (class : ClassId) (k next : ℕ) (trees : List ItemTree) (list : List Item) → AreItems reach class k trees list next → (path : Path) (t : Tmpl)
        → ((item : Item) → Contains list item → HasItem t item) → (p : Piece) → Contains ((in_turn (map item_pieces trees)).from k path) p → IsShown t p
    items_shown _ _ _ _ _ (AreItems.none class k) path t has p c = absurd (nothing_in p c)
    items_shown _ _ _ _ _ (AreItems.one_more class k middle next tree trees item rest is are) path t has p c =
        elim (Contains-append_cases ((item_pieces tree).from k path) ((in_turn (map item_pieces trees)).from (k + (item_pieces tree).count) path) p c) [
          | inl here ↦ item_shown class k middle tree item is path t (has item (0, omega arith, refl)) p here
          | inr more ↦ items_shown class middle next trees rest are path t (λ x among. has x (Contains-append_right (item ∷ []) rest x among)) p
              (subst (λ (n : ℕ). Contains ((in_turn (map item_pieces trees)).from n path) p) (sym (item_next class k middle tree item is)) more)
        ]

    item_shown : (class : ClassId) (k next : ℕ) (tree : ItemTree) (item : Item) → IsItem reach class k tree item next → (path : Path) (t : Tmpl) → HasItem t item → (p : Piece)
        → Contains ((item_pieces tree).from k path) p → IsShown t p
    item_shown _ _ _ _ _ (IsItem.empty class k tree item e named value null is) path t has p c =
        let here = subst (λ (v : ItemPieces). Contains (v.from k path) p) (item_with tree (values.Expr e) _ value (expr_is e)) c in
        subst (IsShown t) (only_one (asks (Some (record { class = path; name = tree.prop.text })) e) p here) (IsShown.asked _ e (λ other. absurd (true≢false (sym null ∙ other))))
    item_shown _ _ _ _ _ (IsItem.expression class k tree item e typed named value null tree_of is) path t has p c =
        let here = subst (λ (v : ItemPieces). Contains (v.from k path) p) (item_with tree (values.Expr e) _ value (expr_is e)) c in
        subst (IsShown t) (only_one (asks (Some (record { class = path; name = tree.prop.text })) e) p here)
        (IsShown.asked _ e (λ other. (t, item, typed, IsNested.whole t, has, is, tree_of)))
    item_shown _ _ _ _ _ (IsItem.nested class k next tree item variable inner part named value its is) path t has p c =
        let here = subst (λ (v : ItemPieces). Contains (v.from k path) p) (item_with tree (values.Nested variable inner) _ value (nested_is variable inner)) c in
        lifted t part item.prop (valued t item (items.Nested part) has is) p (template_shown k next variable inner part its (Some (record { class = path; name = tree.prop.text })) p here)

  -- ---- the variables of templates, in their order

  -- the numbers of the variables with which templates begin among pieces
  abbrev numbers_of : List Piece → List ℕ
  numbers_of ps = map number (flat_map piece_template ps)

  joined : (ps qs : List Piece) → numbers_of ps ++ numbers_of qs ≡ numbers_of (ps ++ qs)
  joined ps qs = sym (ap (map number) (flat_map-append piece_template ps qs) ∙ map-append number (flat_map piece_template ps) (flat_map piece_template qs))

  mutual
    pub template_listed : (k next : ℕ) (variable : Option Name) (tree : TemplateTree) (t : Tmpl) → IsTemplate reach k variable tree t next → (at : Option WrittenProperty)
        → program.template_variables t ≡ numbers_of ((whole_of variable tree).from k at)
    template_listed _ _ _ _ _ (IsTemplate.template k next variable tree t var class are) at =
        of_template t
        ∙ ap (λ (v : ℕ). v ∷ flat_map (λ vs. vs) (map variables_in_item (out-Tmpl t).items)) var
        ∙ ap (λ (vs : List ℕ). number (variable_text k variable) ∷ vs) (items_listed (out-Tmpl t).class (k + 1) next (out-TemplateTree tree).items (out-Tmpl t).items are (out-TemplateTree tree).class)
        ∙ ap (λ (v : ValuePieces). numbers_of (v.from k at)) (sym (whole_is variable tree))

    items_listed : (class : ClassId) (k next : ℕ) (trees : List ItemTree) (list : List Item) → AreItems reach class k trees list next → (path : Path)
        → flat_map (λ vs. vs) (map variables_in_item list) ≡ numbers_of ((in_turn (map item_pieces trees)).from k path)
    items_listed _ _ _ _ _ (AreItems.none class k) path = refl
    items_listed _ _ _ _ _ (AreItems.one_more class k middle next tree trees item rest is are) path =
        ap (λ (vs : List ℕ). vs ++ flat_map (λ vs. vs) (map variables_in_item rest)) (item_listed class k middle tree item is path)
        ∙ ap (λ (vs : List ℕ). numbers_of ((item_pieces tree).from k path) ++ vs) (items_listed class middle next trees rest are path)
        ∙ ap (λ (n : ℕ). numbers_of ((item_pieces tree).from k path) ++ numbers_of ((in_turn (map item_pieces trees)).from n path)) (item_next class k middle tree item is)
        ∙ joined ((item_pieces tree).from k path) ((in_turn (map item_pieces trees)).from (k + (item_pieces tree).count) path)

    item_listed : (class : ClassId) (k next : ℕ) (tree : ItemTree) (item : Item) → IsItem reach class k tree item next → (path : Path)
        → variables_in_item item ≡ numbers_of ((item_pieces tree).from k path)
    item_listed _ _ _ _ _ (IsItem.empty class k tree item e named value null is) path =
        of_item item ∙ ap variables_in_value is ∙ of_null ∙ ap (λ (v : ItemPieces). numbers_of (v.from k path)) (sym (item_with tree (values.Expr e) _ value (expr_is e)))
    item_listed _ _ _ _ _ (IsItem.expression class k tree item e t named value null has is) path =
        of_item item ∙ ap variables_in_value is ∙ of_expr t ∙ ap (λ (v : ItemPieces). numbers_of (v.from k path)) (sym (item_with tree (values.Expr e) _ value (expr_is e)))
    item_listed _ _ _ _ _ (IsItem.nested class k next tree item variable inner t named value its is) path =
        of_item item ∙ ap variables_in_value is ∙ of_nested t
        ∙ template_listed k next variable inner t its (Some (record { class = path; name = tree.prop.text }))
        ∙ ap (λ (v : ItemPieces). numbers_of (v.from k path)) (sym (item_with tree (values.Nested variable inner) _ value (nested_is variable inner)))
