use Rattle.std.proofs.Common.{◌≡◌, ◌+◌, ◌++◌, ℕ, List, drop, refl, sym, ap, subst, ◌∙◌, arith}
use Rattle.std.specs.Prelude.{Err, All}
use Rattle.std.proofs.lemmas.Result.{err_from_is_err_and}
use Rattle.std.proofs.Math.ListN.{drop_of_length-le}
use Rattle.qv_syntax.specs.declared.name.Path.{Path}
use Rattle.qv_syntax.specs.declared.script.TemplateTree.{TemplateTree, out-TemplateTree}
use Rattle.qv_syntax.specs.declared.script.ItemTree.{ItemTree}
use Rattle.qv_syntax.specs.declared.program.Item.{Item}
use Rattle.ocl_types.proofs.QueryLemmas.{err_told}
use Rattle.script_scopes.specs.Occurrences.{Piece, template_body, item_pieces}
use Rattle.script_scopes.specs.ResolvedTemplates.{AreItems}
use Rattle.qvtr_types.specs.TemplatePieces.{LacksProperty, StandsInValue, StandsInNested, IsNested, IsMeant, IsPieceFault}
use Rattle.qvtr_types.proofs.TemplateLaws.{item_type_over}
use Rattle.qvtr_types.proofs.PieceForms.{written, expr_count, nested_count}
use Rattle.qvtr_types.proofs.ItemLaws.{pieces_from, pieces_count, are_more, next_more, meant_more, fault_more, fault_here, are_all}
use Rattle.qvtr_types.proofs.ItemForms.{property_fault, expr_fault, expr_meant, expr_resolved, head_fault, inner_fault, nested_meant, nested_resolved, body_pieces, body_count, body_class, template_made}
use Rattle.qvtr_types.proofs.templates.+templates.Goals as goal

-- ---- an item

pub resolve_item-returns-in_err-prop-clause-fault : goal.resolve_item-returns-in_err-prop-clause-fault
resolve_item-returns-in_err-prop-clause-fault t c =
    let p = err_from_is_err_and c.from_residual.result c.from_residual.ensures.1 in
    err_told c.from_residual.result p.0 _ (IsPieceFault c.args.scope.now ((item_pieces c.args.tree.now).from c.args.k c.args.of.1.now)) (LacksProperty c.args.scope.now (written c.args.of.1.now c.args.tree.now)) p.1 p.2
    (λ f h. property_fault c.args.scope.now c.args.tree.now c.args.k c.args.of.1.now f h)
    c.in_err-prop.ensures.fault

pub resolve_item-item_value-value-requires : goal.resolve_item-item_value-value-requires
resolve_item-item_value-value-requires t c =
    item_type_over c.args.scope.now (written c.args.of.1.now c.args.tree.now) c.args.of.0 c.requires c.in_ok-prop.prop c.in_ok-prop.ty c.in_ok-prop.ensures.is

pub resolve_item-returns-in_err-value-in-Expr-clause-fault : goal.resolve_item-returns-in_err-value-in-Expr-clause-fault
resolve_item-returns-in_err-value-in-Expr-clause-fault t c =
    let p = err_from_is_err_and c.from_residual-in_err-value-in-Expr.result c.from_residual-in_err-value-in-Expr.ensures.1 in
    err_told c.from_residual-in_err-value-in-Expr.result p.0 _ (IsPieceFault c.args.scope.now ((item_pieces c.args.tree.now).from c.args.k c.args.of.1.now))
    (StandsInValue c.args.scope.now c.in_ok-prop.ty c.args.tree.now.prop.text c.in-Expr.value) p.1 p.2
    (λ f h. expr_fault c.args.scope.now c.args.tree.now c.args.k c.args.of.1.now c.args.of.0 c.in_ok-prop.prop c.in_ok-prop.ty c.in_ok-prop.ensures.is c.in-Expr.value c.in-Expr.is f h)
    c.in_err-value-in-Expr.ensures.fault

pub resolve_item-returns-in_ok-value-in-Expr-clause-is : goal.resolve_item-returns-in_ok-value-in-Expr-clause-is
resolve_item-returns-in_ok-value-in-Expr-clause-is t c =
    expr_resolved c.args.scope.now c.args.tree.now c.args.k c.args.of.1.now c.args.of.0 c.in_ok-prop.prop c.in_ok-prop.ty c.in_ok-prop.ensures.is c.in-Expr.value c.in-Expr.is
    c.in_ok-value-in-Expr.value c.in_ok-value-in-Expr.ensures.is

pub resolve_item-returns-in_ok-value-in-Expr-clause-next : goal.resolve_item-returns-in_ok-value-in-Expr-clause-next
resolve_item-returns-in_ok-value-in-Expr-clause-next t c =
    let none = expr_count c.args.tree.now c.args.k c.args.of.1.now c.in-Expr.value c.in-Expr.is in
    omega (arith, none)

pub resolve_item-returns-in_ok-value-in-Expr-clause-meant : goal.resolve_item-returns-in_ok-value-in-Expr-clause-meant
resolve_item-returns-in_ok-value-in-Expr-clause-meant t c =
    expr_meant c.args.scope.now c.args.tree.now c.args.k c.args.of.1.now c.args.of.0 c.in_ok-prop.prop c.in_ok-prop.ty c.in_ok-prop.ensures.is c.in-Expr.value c.in-Expr.is
    c.in_ok-value-in-Expr.ensures.meant

pub resolve_item-nested_class-class-requires : goal.resolve_item-nested_class-class-requires
resolve_item-nested_class-class-requires t c =
    item_type_over c.args.scope.now (written c.args.of.1.now c.args.tree.now) c.args.of.0 c.requires c.in_ok-prop.prop c.in_ok-prop.ty c.in_ok-prop.ensures.is

pub resolve_item-returns-in_err-class-in-Nested-clause-fault : goal.resolve_item-returns-in_err-class-in-Nested-clause-fault
resolve_item-returns-in_err-class-in-Nested-clause-fault t c =
    let p = err_from_is_err_and c.from_residual-in_err-class-in-Nested.result c.from_residual-in_err-class-in-Nested.ensures.1 in
    err_told c.from_residual-in_err-class-in-Nested.result p.0 _ (IsPieceFault c.args.scope.now ((item_pieces c.args.tree.now).from c.args.k c.args.of.1.now))
    (StandsInNested c.args.scope.now c.in_ok-prop.ty (out-TemplateTree c.in-Nested.template).class) p.1 p.2
    (λ f h. head_fault c.args.scope.now c.args.tree.now c.args.k c.args.of.1.now c.args.of.0 c.in_ok-prop.prop c.in_ok-prop.ty c.in_ok-prop.ensures.is c.in-Nested.variable c.in-Nested.template c.in-Nested.is f
    (subst (λ (path : Path). StandsInNested c.args.scope.now c.in_ok-prop.ty path f) (sym (body_class c.in-Nested.template)) h))
    c.in_err-class-in-Nested.ensures.fault

pub resolve_item-returns-in_err-inner-in-Nested-clause-fault : goal.resolve_item-returns-in_err-inner-in-Nested-clause-fault
resolve_item-returns-in_err-inner-in-Nested-clause-fault t c =
    let within : List Piece = (template_body c.in-Nested.template).items.from (c.args.k + 1) (template_body c.in-Nested.template).class in
    let p = err_from_is_err_and c.from_residual-in_err-inner-in-Nested.result c.from_residual-in_err-inner-in-Nested.ensures.1 in
    err_told c.from_residual-in_err-inner-in-Nested.result p.0 _ (IsPieceFault c.args.scope.now ((item_pieces c.args.tree.now).from c.args.k c.args.of.1.now)) (IsPieceFault c.args.scope.now within) p.1 p.2
    (λ f h. inner_fault c.args.scope.now c.args.tree.now c.args.k c.args.of.1.now c.args.of.0 c.in_ok-prop.prop c.in_ok-prop.ty c.in_ok-prop.ensures.is c.in-Nested.variable c.in-Nested.template c.in-Nested.is f h)
    c.in_err-inner-in-Nested.ensures.fault

pub resolve_item-returns-in_ok-inner-in-Nested-clause-is : goal.resolve_item-returns-in_ok-inner-in-Nested-clause-is
resolve_item-returns-in_ok-inner-in-Nested-clause-is t c =
    nested_resolved c.args.scope.now c.args.tree.now c.args.k c.args.of.1.now c.args.of.0 c.in_ok-prop.prop c.in_ok-prop.ty c.in_ok-prop.ensures.is c.in-Nested.variable c.in-Nested.template c.in-Nested.is
    c.in_ok-inner-in-Nested.inner c.in_ok-inner-in-Nested.after (c.in_ok-inner-in-Nested.ensures.is c.in-Nested.variable c.in_ok-var-in-Nested.ensures)

pub resolve_item-returns-in_ok-inner-in-Nested-clause-next : goal.resolve_item-returns-in_ok-inner-in-Nested-clause-next
resolve_item-returns-in_ok-inner-in-Nested-clause-next t c =
    let count = nested_count c.args.tree.now c.args.k c.args.of.1.now c.in-Nested.variable c.in-Nested.template c.in-Nested.is in
    let after = c.in_ok-inner-in-Nested.ensures.next in
    omega (arith, count, after)

pub resolve_item-returns-in_ok-inner-in-Nested-clause-meant : goal.resolve_item-returns-in_ok-inner-in-Nested-clause-meant
resolve_item-returns-in_ok-inner-in-Nested-clause-meant t c =
    nested_meant c.args.scope.now c.args.tree.now c.args.k c.args.of.1.now c.args.of.0 c.in_ok-prop.prop c.in_ok-prop.ty c.in_ok-prop.ensures.is c.in-Nested.variable c.in-Nested.template c.in-Nested.is
    c.in_ok-class-in-Nested.class
    (subst (λ (path : Path). IsNested c.args.scope.now c.in_ok-prop.ty path c.in_ok-class-in-Nested.class) (sym (body_class c.in-Nested.template)) c.in_ok-class-in-Nested.ensures.is)
    c.in_ok-inner-in-Nested.ensures.meant

-- ---- items

pub resolve_items-loop-tree-init : goal.resolve_items-loop-tree-init
resolve_items-loop-tree-init t c = record {
  are = λ rest next h. subst (λ (xs : List Item). AreItems c.args.scope.now c.args.of.0 c.args.first c.args.trees.now (xs ++ rest) next) (sym c.new-items.ensures) h;
  next = refl;
  meant = λ h. h;
  fault = λ f h. h;
}

pub resolve_items-returns-in-loop-tree-clause-fault : goal.resolve_items-returns-in-loop-tree-clause-fault
resolve_items-returns-in-loop-tree-clause-fault t c =
    err_told {X = List Item × ℕ} (Err c.or_drop-from.result) c.or_drop-from.result c.in-Err-or_drop.field-0 (IsPieceFault c.args.scope.now (pieces_from c.args.first c.args.of.1.now c.args.trees.now))
    (IsPieceFault c.args.scope.now ((item_pieces c.tree-item.result).from c.loop-tree.k c.args.of.1.now)) refl c.or_drop-from.ensures
    (λ f h. fault_here c.args.scope.now c.args.trees.now c.loop-tree.tree-index c.tree-item.result (omega arith) c.tree-item.is c.loop-tree.k c.loop-tree.k c.args.of.1.now
    (pieces_from c.args.first c.args.of.1.now c.args.trees.now) c.loop-tree.invariant.fault f h)
    c.in-Err-or_drop.ensures.fault

pub resolve_items-loop-tree-preserved : goal.resolve_items-loop-tree-preserved
resolve_items-loop-tree-preserved t c =
    let i = c.loop-tree.tree-index in
    let all : List Piece = pieces_from c.args.first c.args.of.1.now c.args.trees.now in
    record {
      are = subst (λ (xs : List Item). (rest : List Item) (next : ℕ) → AreItems c.args.scope.now c.args.of.0 c.in-Ok-or_drop.field-0.1 (drop (i + 1) c.args.trees.now) rest next → AreItems c.args.scope.now c.args.of.0 c.args.first c.args.trees.now (xs ++ rest) next)
          (sym c.in-Ok-or_drop-2.ensures.ok)
          (are_more c.args.scope.now c.args.trees.now i c.tree-item.result (omega arith) c.tree-item.is c.loop-tree.k c.in-Ok-or_drop.field-0.1 c.args.of.0 c.args.first c.loop-tree.items c.in-Ok-or_drop.field-0.0
          c.loop-tree.invariant.are c.in-Ok-or_drop.ensures.is);
      next = next_more c.args.scope.now c.args.trees.now i c.tree-item.result (omega arith) c.tree-item.is c.loop-tree.k c.in-Ok-or_drop.field-0.1 c.in-Ok-or_drop.ensures.next (c.args.first + pieces_count c.args.trees.now) c.loop-tree.invariant.next;
      meant = meant_more c.args.scope.now c.args.trees.now i c.tree-item.result (omega arith) c.tree-item.is c.loop-tree.k c.in-Ok-or_drop.field-0.1 c.in-Ok-or_drop.ensures.next c.args.of.1.now all c.loop-tree.invariant.meant c.in-Ok-or_drop.ensures.meant;
      fault = fault_more c.args.scope.now c.args.trees.now i c.tree-item.result (omega arith) c.tree-item.is c.loop-tree.k c.in-Ok-or_drop.field-0.1 c.in-Ok-or_drop.ensures.next c.args.of.1.now all c.loop-tree.invariant.fault;
    }

pub resolve_items-returns-clause-are : goal.resolve_items-returns-clause-are
resolve_items-returns-clause-are t c =
    are_all c.args.scope.now c.args.of.0 c.args.first c.loop-tree.k c.args.trees.now (drop c.loop-tree.tree-index c.args.trees.now) c.loop-tree.items (drop_of_length-le c.args.trees.now c.loop-tree-test.false) c.loop-tree.invariant.are

pub resolve_items-returns-clause-next : goal.resolve_items-returns-clause-next
resolve_items-returns-clause-next t c =
    let none : pieces_count (drop c.loop-tree.tree-index c.args.trees.now) ≡ 0 = ap pieces_count (drop_of_length-le c.args.trees.now c.loop-tree-test.false) in
    let so_far = c.loop-tree.invariant.next in
    omega (arith, none, so_far)

pub resolve_items-returns-clause-meant : goal.resolve_items-returns-clause-meant
resolve_items-returns-clause-meant t c =
    c.loop-tree.invariant.meant (subst (λ (ts : List ItemTree). All (IsMeant c.args.scope.now) (pieces_from c.loop-tree.k c.args.of.1.now ts)) (sym (drop_of_length-le c.args.trees.now c.loop-tree-test.false))
    (λ j d within. absurd (omega (arith, within))))

-- ---- a template

pub resolve_template-returns-in_err-items-clause-fault : goal.resolve_template-returns-in_err-items-clause-fault
resolve_template-returns-in_err-items-clause-fault t c =
    let tree : TemplateTree = c.args.tree.now in
    let p = err_from_is_err_and c.from_residual-in_err-items.result c.from_residual-in_err-items.ensures.1 in
    err_told c.from_residual-in_err-items.result p.0 _ (IsPieceFault c.args.scope.now ((template_body tree).items.from (c.args.k + 1) (template_body tree).class))
    (IsPieceFault c.args.scope.now (pieces_from c.in_ok-first.first (out-TemplateTree tree).class c.as_slice.result.now)) p.1 p.2
    (λ f h. subst (λ (ps : List Piece). IsPieceFault c.args.scope.now ps f)
    (ap (λ (n : ℕ). pieces_from n (out-TemplateTree tree).class c.as_slice.result.now) c.in_ok-first.ensures.next
    ∙ ap (pieces_from (c.args.k + 1) (out-TemplateTree tree).class) c.as_slice.ensures ∙ sym (body_pieces tree (c.args.k + 1))) h)
    c.in_err-items.ensures.fault

pub resolve_template-returns-clause-is : goal.resolve_template-returns-clause-is
resolve_template-returns-clause-is t c = λ v var_is.
    template_made c.args.scope.now c.args.k c.in_ok-items.last v c.args.tree.now c.args.head.0 c.args.head.1 c.in_ok-items.items var_is c.requires
    (subst (λ (n : ℕ). AreItems c.args.scope.now c.args.head.1 n (out-TemplateTree c.args.tree.now).items c.in_ok-items.items c.in_ok-items.last) c.in_ok-first.ensures.next
    (subst (λ (ts : List ItemTree). AreItems c.args.scope.now c.args.head.1 c.in_ok-first.first ts c.in_ok-items.items c.in_ok-items.last) c.as_slice.ensures c.in_ok-items.ensures.are))

pub resolve_template-returns-clause-next : goal.resolve_template-returns-clause-next
resolve_template-returns-clause-next t c =
    let count : pieces_count c.as_slice.result.now ≡ (template_body c.args.tree.now).items.count = ap pieces_count c.as_slice.ensures ∙ sym (body_count c.args.tree.now) in
    let last = c.in_ok-items.ensures.next in
    let first = c.in_ok-first.ensures.next in
    omega (arith, count, last, first)

pub resolve_template-returns-clause-meant : goal.resolve_template-returns-clause-meant
resolve_template-returns-clause-meant t c =
    let tree : TemplateTree = c.args.tree.now in
    subst (All (IsMeant c.args.scope.now))
    (ap (λ (n : ℕ). pieces_from n (out-TemplateTree tree).class c.as_slice.result.now) c.in_ok-first.ensures.next
    ∙ ap (pieces_from (c.args.k + 1) (out-TemplateTree tree).class) c.as_slice.ensures ∙ sym (body_pieces tree (c.args.k + 1)))
    c.in_ok-items.ensures.meant
