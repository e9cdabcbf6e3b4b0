use Rattle.std.proofs.Common.{◌≡◌, ◌==◌, ℕ, true, false, if◌then◌else◌, List, [], ◌∷◌, ◌++◌, sym, ap, ◌∙◌, eq-eqb, ne_eqb}
use Rattle.qv_syntax.specs.Operators.{level_of}
use Rattle.qv_syntax.specs.declared.expr.Infix.{Infix}
use Rattle.ocl_parser.specs.Moves.{Move, infixed, to}
use Rattle.ocl_parser.specs.declared.frame.Frame.{Frame}
use Rattle.ocl_parser.specs.declared.frame.Frame.TheVariants as frames
use Rattle.ocl_parser.specs.declared.state.State.TheVariants as states
use Rattle.ocl_parser.proofs.MoveLaws.{so, then_so, else_so}
use Rattle.ocl_parser.proofs.closing.operator_in_row.Goals as goal

same_level : (a b m n : ℕ) → a ≡ m → b ≡ n → a ≡ b → true ≡ (m == n)
same_level a b m n one two e = sym (eq-eqb m n (sym one ∙ e ∙ two))

other_level : (a b m n : ℕ) → a ≡ m → b ≡ n → (a ≡ b → ⊥) → false ≡ (m == n)
other_level a b m n one two ne = sym (ne_eqb m n (λ e. ne (one ∙ e ∙ sym two)))

pub returns-in-Ok-or_drop : goal.returns-in-Ok-or_drop
returns-in-Ok-or_drop c =
    let row = c.args.row in
    let part : Infix = infixed row.operator c.args.subtree.tree in
    let goes_on : Move = to (frames.Row row.first (row.rest ++ part ∷ []) c.args.operator ∷ c.args.stack.now) states.Operand in
    let begins : Move = to (frames.Row c.args.subtree [] c.args.operator ∷ frames.Row row.first row.rest row.operator ∷ c.args.stack.now) states.Operand in
    so c.open.result c.open.new.stack (to (frames.Row row.first c.push.new.self c.args.operator ∷ c.args.stack.now) states.Operand)
    (if level_of row.operator == level_of c.args.operator then goes_on else begins)
    (ap (λ (is : List Infix). to (frames.Row row.first is c.args.operator ∷ c.args.stack.now) states.Operand) (c.in-Ok-or_drop.ensures.ok ∙ ap (λ (i : Infix). row.rest ++ i ∷ []) c.infixed.ensures)
    ∙ then_so (level_of row.operator == level_of c.args.operator) goes_on begins
    (same_level c.level.result c.level-2.result (level_of row.operator) (level_of c.args.operator) c.level.ensures c.level-2.ensures c.if-level.true))
    c.open.ensures

pub returns-in-Ok-or_drop-2 : goal.returns-in-Ok-or_drop-2
returns-in-Ok-or_drop-2 c =
    let row = c.args.row in
    let part : Infix = infixed row.operator c.args.subtree.tree in
    let goes_on : Move = to (frames.Row row.first (row.rest ++ part ∷ []) c.args.operator ∷ c.args.stack.now) states.Operand in
    let begins : Move = to (frames.Row c.args.subtree [] c.args.operator ∷ frames.Row row.first row.rest row.operator ∷ c.args.stack.now) states.Operand in
    so c.begin_row.result c.begin_row.new.stack (to (frames.Row c.args.subtree [] c.args.operator ∷ c.push-else-level.new.self) states.Operand)
    (if level_of row.operator == level_of c.args.operator then goes_on else begins)
    (ap (λ (s : List Frame). to (frames.Row c.args.subtree [] c.args.operator ∷ s) states.Operand) c.in-Ok-or_drop-2.ensures.ok
    ∙ else_so (level_of row.operator == level_of c.args.operator) goes_on begins
    (other_level c.level.result c.level-2.result (level_of row.operator) (level_of c.args.operator) c.level.ensures c.level-2.ensures c.if-level.false))
    c.begin_row.ensures
