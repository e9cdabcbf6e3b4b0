-- An item of a template that is resolved, its pieces, and the faults that stand at them.
use Rattle.std.proofs.Common.{◌≡◌, ℕ, ◌+◌, List, [], ◌∷◌, refl, sym, ap, subst, ◌∙◌, arith}
use Rattle.std.specs.Prelude.{Option, Some, All, Contains}
use Rattle.std.proofs.lemmas.List.Elements.{All-cons, Contains-append_right}
use Rattle.mof_metamodel.specs.declared.desc.ClassId.{ClassId}
use Rattle.mof_metamodel.specs.declared.desc.PropId.{PropId}
use Rattle.qv_syntax.specs.declared.expr.Expr.{Expr}
use Rattle.qv_syntax.specs.declared.name.Name.{Name}
use Rattle.qv_syntax.specs.declared.name.Path.{Path}
use Rattle.qv_syntax.specs.declared.ty.Ty.{Ty}
use Rattle.qv_syntax.specs.declared.script.TemplateTree.{TemplateTree, out-TemplateTree}
use Rattle.qv_syntax.specs.declared.script.ItemTree.{ItemTree}
use Rattle.qv_syntax.specs.declared.script.ItemValueTree.{ItemValueTree, out-ItemValueTree, roll-ItemValueTree, roll-out-ItemValueTree}
use Rattle.qv_syntax.specs.declared.script.ItemValueTree.TheOpen as of
use Rattle.qv_syntax.specs.declared.script.ItemValueTree.TheVariants as values
use Rattle.qv_syntax.specs.declared.program.Tmpl.{Tmpl, out-Tmpl, roll-Tmpl, out-roll-Tmpl}
use Rattle.qv_syntax.specs.declared.program.Item.{Item}
use Rattle.qv_syntax.specs.declared.program.ItemValue.TheOpen as layers
use Rattle.qv_syntax.specs.declared.program.ItemValue.{ItemValue}
use Rattle.qv_syntax.specs.declared.program.ItemValue.TheVariants as items
use Rattle.ocl_environments.specs.declared.fault.TypeFault.{TypeFault}
use Rattle.script_scopes.specs.Occurrences.{Piece, BodyPieces, template_body, item_pieces, variable_text, property_of}
use Rattle.script_scopes.specs.Occurrences.Piece.{begins, asks}
use Rattle.script_scopes.specs.ResolvedTemplates.{DomainReach, class_named, IsTemplate, AreItems, IsItem}
use Rattle.script_scopes.specs.Environments.{place_of}
use Rattle.qvtr_types.specs.TemplatePieces.{IsItemProperty, LacksProperty, IsValueOf, HasValue, StandsInValue, IsNested, StandsInNested, IsMeant, StandsAtPiece, IsPieceFault}
use Rattle.qvtr_types.proofs.PieceForms.{written, body_is, expr_item, nested_item}
use Rattle.qvtr_types.proofs.ItemLaws.{pieces_from, pieces_count}

-- the first piece of an item is the value at its property
first_piece : (tree : ItemTree) (k : ℕ) (path : Path) → (piece : Piece) × Contains ((item_pieces tree).from k path) piece × (property_of piece ≡ Some (written path tree))
first_piece tree k path = by (out-ItemValueTree tree.value) (roll-out-ItemValueTree tree.value)
  where
    by : (d : of.ItemValueTree-F ItemValueTree ItemTree TemplateTree) → roll-ItemValueTree d ≡ tree.value
        → (piece : Piece) × Contains ((item_pieces tree).from k path) piece × (property_of piece ≡ Some (written path tree))
    by (of.Expr e) same =
        (asks (Some (written path tree)) e, subst (λ (ps : List Piece). Contains ps (asks (Some (written path tree)) e)) (sym (expr_item tree k path e (sym same ∙ values.rolls-Expr e))) (0, omega arith, refl), refl)
    by (of.Nested v t) same = (
      begins (Some (written path tree)) (variable_text k v) (template_body t).class,
      subst (λ (ps : List Piece). Contains ps (begins (Some (written path tree)) (variable_text k v) (template_body t).class)) (sym (nested_item tree k path v t (sym same ∙ values.rolls-Nested v t))) (0, omega arith, refl),
      refl,
    )

module _ (reach : DomainReach) (tree : ItemTree) (k : ℕ) (path : Path) where
  pub property_fault : (f : TypeFault) → LacksProperty reach (written path tree) f → IsPieceFault reach ((item_pieces tree).from k path) f
  property_fault f h =
      let (piece, among, holder) = first_piece tree k path in
      record { piece = piece; among = among; stands = StandsAtPiece.property piece (written path tree) f holder h }

  module _ (class : ClassId) (prop : PropId) (ty : Ty) (h : IsItemProperty reach (written path tree) class prop ty) where
    -- ---- an expression

    module _ (e : Expr) (is : tree.value ≡ values.Expr e) where
      pub expr_fault : (f : TypeFault) → StandsInValue reach ty tree.prop.text e f → IsPieceFault reach ((item_pieces tree).from k path) f
      expr_fault f stands = subst (λ (ps : List Piece). IsPieceFault reach ps f) (sym (expr_item tree k path e is))
          (record { piece = asks (Some (written path tree)) e; among = (0, omega arith, refl); stands = StandsAtPiece.expression (written path tree) class prop ty e f h stands })

      pub expr_meant : IsValueOf reach ty e → All (IsMeant reach) ((item_pieces tree).from k path)
      expr_meant value = subst (All (IsMeant reach)) (sym (expr_item tree k path e is))
          (All-cons (IsMeant reach) (asks (Some (written path tree)) e) [] (record { class = class; prop = prop; of = ty; property = h; value = value }) (λ i d within. absurd (omega (arith, within))))

      pub expr_resolved : (value : ItemValue) → HasValue reach e value → IsItem reach class k tree (record { prop = prop; value = value }) k
      expr_resolved value (HasValue.empty null same) = IsItem.empty class k tree (record { prop = prop; value = value }) e h.number is null same
      expr_resolved value (HasValue.given t null has same) = IsItem.expression class k tree (record { prop = prop; value = value }) e t h.number is null has same

    -- ---- a nested template

    module _ (v : Option Name) (inner : TemplateTree) (is : tree.value ≡ values.Nested v inner) where
      abbrev within : List Piece
      within = (template_body inner).items.from (k + 1) (template_body inner).class

      abbrev head : Piece
      head = begins (Some (written path tree)) (variable_text k v) (template_body inner).class

      pub head_fault : (f : TypeFault) → StandsInNested reach ty (template_body inner).class f → IsPieceFault reach ((item_pieces tree).from k path) f
      head_fault f stands = subst (λ (ps : List Piece). IsPieceFault reach ps f) (sym (nested_item tree k path v inner is))
          (record { piece = head; among = (0, omega arith, refl); stands = StandsAtPiece.nested (written path tree) class prop ty (variable_text k v) (template_body inner).class f h stands })

      pub inner_fault : (f : TypeFault) → IsPieceFault reach within f → IsPieceFault reach ((item_pieces tree).from k path) f
      inner_fault f fault = subst (λ (ps : List Piece). IsPieceFault reach ps f) (sym (nested_item tree k path v inner is))
          (record { piece = fault.piece; among = Contains-append_right (head ∷ []) within fault.piece fault.among; stands = fault.stands })

      pub nested_meant : (other : ClassId) → IsNested reach ty (template_body inner).class other → All (IsMeant reach) within → All (IsMeant reach) ((item_pieces tree).from k path)
      nested_meant other nested all = subst (All (IsMeant reach)) (sym (nested_item tree k path v inner is))
          (All-cons (IsMeant reach) head within (record { class = class; prop = prop; of = ty; inner = other; property = h; nested = nested }) all)

      pub nested_resolved : (t : Tmpl) (next : ℕ) → IsTemplate reach k v inner t next → IsItem reach class k tree (record { prop = prop; value = items.Nested t }) next
      nested_resolved t next is_t = IsItem.nested class k next tree (record { prop = prop; value = items.Nested t }) v inner t h.number is is_t refl

-- ---- a template

pub body_pieces : (tree : TemplateTree) (k : ℕ) → (template_body tree).items.from k (template_body tree).class ≡ pieces_from k (out-TemplateTree tree).class (out-TemplateTree tree).items
body_pieces tree k = ap (λ (b : BodyPieces). b.items.from k b.class) (body_is tree)

pub body_count : (tree : TemplateTree) → (template_body tree).items.count ≡ pieces_count (out-TemplateTree tree).items
body_count tree = ap (λ (b : BodyPieces). b.items.count) (body_is tree)

pub body_class : (tree : TemplateTree) → (template_body tree).class ≡ (out-TemplateTree tree).class
body_class tree = ap (λ (b : BodyPieces). b.class) (body_is tree)

module _ (reach : DomainReach) (k next : ℕ) (v : Option Name) (tree : TemplateTree) (var : ℕ) (class : ClassId) (resolved : List Item) where
  abbrev layer : layers.Tmpl-F ItemValue Item Tmpl
  layer = record { var = var; class = class; items = resolved }

  pub template_made : var ≡ place_of (variable_text k v) reach.variables → class_named reach (out-TemplateTree tree).class ≡ Some class
      → AreItems reach class (k + 1) (out-TemplateTree tree).items resolved next → IsTemplate reach k v tree (roll-Tmpl layer) next
  template_made var_is class_is are =
      let same : out-Tmpl (roll-Tmpl layer) ≡ layer = out-roll-Tmpl layer in
      IsTemplate.template k next v tree (roll-Tmpl layer)
      (ap (λ (x : layers.Tmpl-F ItemValue Item Tmpl). x.var) same ∙ var_is)
      (class_is ∙ ap (λ (x : layers.Tmpl-F ItemValue Item Tmpl). Some x.class) (sym same))
      (subst (λ (x : layers.Tmpl-F ItemValue Item Tmpl). AreItems reach x.class (k + 1) (out-TemplateTree tree).items x.items next) (sym same) are)
