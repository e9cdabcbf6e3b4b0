-- What the value of an item is, by its layer.
use Rattle.std.proofs.Common.{◌≡◌, sym, ap, ◌∙◌}
use Rattle.qv_syntax.specs.declared.typed.Typed.{Typed}
use Rattle.qv_syntax.specs.declared.program.Tmpl.{Tmpl}
use Rattle.qv_syntax.specs.declared.program.ItemValue.{ItemValue, roll-ItemValue, out-ItemValue, roll-out-ItemValue, out-roll-ItemValue}
use Rattle.qv_syntax.specs.declared.program.ItemValue.TheVariants as items
use Rattle.qv_syntax.specs.declared.program.ItemValue.TheOpen as layers

pub nested_is : (value : ItemValue) (part : Tmpl) → out-ItemValue value ≡ layers.Nested part → value ≡ items.Nested part
nested_is value part is = sym (roll-out-ItemValue value) ∙ ap roll-ItemValue is ∙ items.rolls-Nested part

pub is_nested : (value : ItemValue) (part : Tmpl) → value ≡ items.Nested part → out-ItemValue value ≡ layers.Nested part
is_nested value part is = ap out-ItemValue (is ∙ sym (items.rolls-Nested part)) ∙ out-roll-ItemValue (layers.Nested part)

pub expression_is : (value : ItemValue) (e : Typed) → out-ItemValue value ≡ layers.Expr e → value ≡ items.Expr e
expression_is value e is = sym (roll-out-ItemValue value) ∙ ap roll-ItemValue is ∙ items.rolls-Expr e

pub is_expression : (value : ItemValue) (e : Typed) → value ≡ items.Expr e → out-ItemValue value ≡ layers.Expr e
is_expression value e is = ap out-ItemValue (is ∙ sym (items.rolls-Expr e)) ∙ out-roll-ItemValue (layers.Expr e)
