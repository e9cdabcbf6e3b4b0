-- The pieces of a template, of an item and of its value, form by form.
use Rattle.std.proofs.Common.{◌≡◌, ℕ, ◌+◌, List, [], ◌∷◌, ◌++◌, map, sym, ap, ◌∙◌}
use Rattle.std.specs.Prelude.{Option, Some}
use Rattle.qv_syntax.specs.declared.expr.Expr.{Expr}
use Rattle.qv_syntax.specs.declared.name.Name.{Name}
use Rattle.qv_syntax.specs.declared.name.Path.{Path}
use Rattle.qv_syntax.specs.declared.script.TemplateTree.{TemplateTree, out-TemplateTree, roll-out-TemplateTree, fold-roll-TemplateTree}
use Rattle.qv_syntax.specs.declared.script.ItemTree.{ItemTree, fold-roll-ItemTree}
use Rattle.qv_syntax.specs.declared.script.ItemValueTree.{ItemValueTree, fold-roll-ItemValueTree}
use Rattle.qv_syntax.specs.declared.script.ItemValueTree.TheOpen as of
use Rattle.qv_syntax.specs.declared.script.ItemValueTree.TheVariants as values
use Rattle.script_scopes.specs.Occurrences.{WrittenProperty, Piece, ValuePieces, ItemPieces, BodyPieces, in_turn, begun, with_variable, value_step, item_step, template_step, template_body, item_pieces, value_pieces, variable_text}
use Rattle.script_scopes.specs.Occurrences.Piece.{begins, asks}

pub body_is : (tree : TemplateTree) → template_body tree ≡ record { class = (out-TemplateTree tree).class; items = in_turn (map item_pieces (out-TemplateTree tree).items) }
body_is tree = ap template_body (sym (roll-out-TemplateTree tree)) ∙ fold-roll-TemplateTree ValuePieces ItemPieces BodyPieces value_step item_step template_step (out-TemplateTree tree)

pub item_is : (tree : ItemTree) → item_pieces tree ≡ item_step (record { prop = tree.prop; value = value_pieces tree.value })
item_is tree = fold-roll-ItemTree ValuePieces ItemPieces BodyPieces value_step item_step template_step (record { prop = tree.prop; value = tree.value })

pub expr_is : (e : Expr) → value_pieces (values.Expr e) ≡ value_step (of.Expr e)
expr_is e = ap value_pieces (sym (values.rolls-Expr e)) ∙ fold-roll-ItemValueTree ValuePieces ItemPieces BodyPieces value_step item_step template_step (of.Expr e)

pub nested_is : (variable : Option Name) (template : TemplateTree) → value_pieces (values.Nested variable template) ≡ with_variable variable (template_body template)
nested_is variable template =
    ap value_pieces (sym (values.rolls-Nested variable template)) ∙ fold-roll-ItemValueTree ValuePieces ItemPieces BodyPieces value_step item_step template_step (of.Nested variable template)

-- the property that an item is of, as it is written
abbrev pub written : Path → ItemTree → WrittenProperty
written class tree = record { class = class; name = tree.prop.text }

module _ (tree : ItemTree) (k : ℕ) (class : Path) where
  pub expr_item : (e : Expr) → tree.value ≡ values.Expr e → (item_pieces tree).from k class ≡ asks (Some (written class tree)) e ∷ []
  expr_item e is =
      ap (λ (p : ItemPieces). p.from k class) (item_is tree) ∙ ap (λ (v : ValuePieces). v.from k (Some (written class tree))) (ap value_pieces is ∙ expr_is e)

  pub expr_count : (e : Expr) → tree.value ≡ values.Expr e → (item_pieces tree).count ≡ 0
  expr_count e is = ap (λ (p : ItemPieces). p.count) (item_is tree) ∙ ap (λ (v : ValuePieces). v.count) (ap value_pieces is ∙ expr_is e)

  pub nested_item : (variable : Option Name) (template : TemplateTree) → tree.value ≡ values.Nested variable template
      → (item_pieces tree).from k class ≡ begins (Some (written class tree)) (variable_text k variable) (template_body template).class ∷ (template_body template).items.from (k + 1) (template_body template).class
  nested_item variable template is =
      ap (λ (p : ItemPieces). p.from k class) (item_is tree) ∙ ap (λ (v : ValuePieces). v.from k (Some (written class tree))) (ap value_pieces is ∙ nested_is variable template)

  pub nested_count : (variable : Option Name) (template : TemplateTree) → tree.value ≡ values.Nested variable template → (item_pieces tree).count ≡ 1 + (template_body template).items.count
  nested_count variable template is = ap (λ (p : ItemPieces). p.count) (item_is tree) ∙ ap (λ (v : ValuePieces). v.count) (ap value_pieces is ∙ nested_is variable template)
