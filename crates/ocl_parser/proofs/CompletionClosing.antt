-- What ends open constructs behind an operand.
use Rattle.std.proofs.Common.{◌≡◌, ℕ, ◌+◌, ◌≤◌, Bool, true, false, nat_le, List, [], ◌∷◌, ◌++◌, Option, ap, ◌∙◌, refl, arith}
use Rattle.std.specs.Prelude.{codes}
use Rattle.std.proofs.lemmas.Bool.Decides.{nat_tests}
use Rattle.mof_metamodel.specs.declared.span.Span.{Span}
use Rattle.ql_lex.specs.Lexed.{Lexeme}
use Rattle.qv_syntax.specs.declared.name.Name.{Name}
use Rattle.qv_syntax.specs.declared.type_tree.Kind.{Kind}
use Rattle.qv_syntax.specs.declared.type_tree.TypeTree.{TypeTree}
use Rattle.qv_syntax.specs.declared.operator.Operator.{Operator}
use Rattle.qv_syntax.specs.declared.expr.Expr.{Expr}
use Rattle.qv_syntax.specs.declared.expr.Expr.TheVariants as exprs
use Rattle.qv_syntax.specs.declared.expr.Infix.{Infix}
use Rattle.qv_syntax.specs.declared.expr.Args.TheVariants as args
use Rattle.qv_syntax.specs.Operators.{level_of}
use Rattle.ql_lex.specs.Symbols.{symbol_of}
use Rattle.ocl_parser.specs.Moves.{Move, Reduced, move, to, from_to, base_of, subtree_of, with_args, with_body, chained, reduced, closed, open_levels}
use Rattle.ocl_parser.specs.Runs.{Tree, run, ended_by}
use Rattle.ql_lex.specs.Symbols.{nowhere}
use Rattle.ocl_parser.specs.Completion.{Ends, closing, reserved, mark, null, closes, are_expressions}
use Rattle.ql_lex.specs.declared.symbol.Symbol.{Symbol}
use Rattle.ql_lex.specs.declared.symbol.Symbol.TheVariants as symbols
use Rattle.ocl_parser.specs.declared.frame.Subtree.{Subtree}
use Rattle.ocl_parser.specs.declared.frame.Base.{Base}
use Rattle.ocl_parser.specs.declared.frame.CallHead.{CallHead}
use Rattle.ocl_parser.specs.declared.frame.Iterated.{Iterated}
use Rattle.ocl_parser.specs.declared.frame.Frame.{Frame}
use Rattle.ocl_parser.specs.declared.frame.Frame.TheVariants as frames
use Rattle.ocl_parser.specs.declared.state.State.{State}
use Rattle.ocl_parser.specs.declared.state.State.TheVariants as states
use Rattle.ocl_parser.proofs.CompletionSteps.{step, is_null, is_in, is_then, is_else, is_endif, is_closing, is_close_brace}

-- the symbols that end what is open, and the end of the text
abbrev pub is_closer : Symbol → Bool
is_closer symbols.In = true
is_closer symbols.Then = true
is_closer symbols.Else = true
is_closer symbols.Endif = true
is_closer symbols.CloseParenthesis = true
is_closer symbols.CloseBrace = true
is_closer symbols.Other = true
is_closer symbol = false

-- such a symbol ends an operand in this state: this part, inside these constructs
abbrev pub IsBehind : List Frame → State → List Frame → Subtree → Type 0
IsBehind whole state stack subtree = (symbol : Symbol) (span : Span) → is_closer symbol ≡ true → move whole state symbol span ≡ closed (reduced 0 stack subtree) symbol span

pub behind_after : (stack : List Frame) (base : Base) → IsBehind stack (states.After base) stack (subtree_of base)
unfolding move
behind_after stack base symbols.In span h = refl
behind_after stack base symbols.Then span h = refl
behind_after stack base symbols.Else span h = refl
behind_after stack base symbols.Endif span h = refl
behind_after stack base symbols.CloseParenthesis span h = refl
behind_after stack base symbols.CloseBrace span h = refl
behind_after stack base symbols.Other span h = refl
behind_after stack base symbol span h = cc

-- such tokens end constructs behind an operand
abbrev pub ClosesBy : ℕ → List Frame → List Lexeme → Type 0
ClosesBy levels stack more = (subtree : Subtree) (whole : List Frame) (state : State) (at : ℕ) → IsBehind whole state stack subtree → Ends levels more whole state at

closes_none : (levels : ℕ) → ClosesBy levels [] []
unfolding run reduced
closes_none levels subtree whole state at h =
    let e : ended_by (move whole state symbols.Other nowhere).action at ≡ Tree subtree.tree at = ap (λ (m : Move). ended_by m.action at) (h symbols.Other nowhere refl) in
    let here : at ≡ at + 0 = omega arith in
    record { tree = subtree.tree; ends = e ∙ ap (Tree subtree.tree) here }

-- a construct that ends with its last part
closes_with : (levels : ℕ) (frame : Frame) (stack : List Frame) (more : List Lexeme) (wider : Subtree → Subtree) → ((subtree : Subtree) → reduced 0 (frame ∷ stack) subtree ≡ reduced 0 stack (wider subtree)) → ClosesBy levels stack more
    → ClosesBy levels (frame ∷ stack) more
closes_with levels frame stack more wider e inner subtree whole state at h =
    inner (wider subtree) whole state at (λ symbol span closer. h symbol span closer ∙ ap (λ (s : Reduced). closed s symbol span) (e subtree))

-- one that a token ends
closes_at : (levels : ℕ) (frame : Frame) (stack : List Frame) (l : Lexeme) (more : List Lexeme) (symbol : Symbol) (base : Subtree → Base) → symbol_of l ≡ symbol → is_closer symbol ≡ true
    → ((subtree : Subtree) → closed (reduced 0 (frame ∷ stack) subtree) symbol l.token.span ≡ to stack (states.After (base subtree))) → open_levels stack ≤ levels → ClosesBy levels stack more
    → ClosesBy levels (frame ∷ stack) (l ∷ more)
closes_at levels frame stack l more symbol base is closer e fits inner subtree whole state at h =
    step levels at whole state l more symbol stack (states.After (base subtree)) is (h symbol l.token.span closer ∙ e subtree) (omega arith)
    (inner (subtree_of (base subtree)) stack (states.After (base subtree)) (at + 1) (behind_after stack (base subtree)))

-- an operand, and what ends the constructs around it
pub operand_closes : (levels : ℕ) (stack : List Frame) (more : List Lexeme) (at : ℕ) → open_levels stack ≤ levels → ClosesBy levels stack more → Ends levels (null ∷ more) stack states.Operand at
unfolding move
operand_closes levels stack more at fits inner =
    let base : Base = base_of (exprs.Null nowhere) nowhere in
    step levels at stack states.Operand null more symbols.Null stack (states.After base) is_null refl (omega arith)
    (inner (subtree_of base) stack (states.After base) (at + 1) (behind_after stack base))

-- one that goes on behind a token
closes_on : (levels : ℕ) (frame : Frame) (stack : List Frame) (l : Lexeme) (more : List Lexeme) (symbol : Symbol) (next : Subtree → Frame) → symbol_of l ≡ symbol → is_closer symbol ≡ true
    → ((subtree : Subtree) → closed (reduced 0 (frame ∷ stack) subtree) symbol l.token.span ≡ to (next subtree ∷ stack) states.Operand) → ((subtree : Subtree) → open_levels (next subtree ∷ stack) ≤ levels)
    → ((subtree : Subtree) → ClosesBy levels (next subtree ∷ stack) more) → ClosesBy levels (frame ∷ stack) (l ∷ null ∷ more)
closes_on levels frame stack l more symbol next is closer e fits inner subtree whole state at h =
    let within : open_levels (next subtree ∷ stack) ≤ levels = fits subtree in
    step levels at whole state l (null ∷ more) symbol (next subtree ∷ stack) states.Operand is (h symbol l.token.span closer ∙ e subtree) (omega (arith, within))
    (operand_closes levels (next subtree ∷ stack) more (at + 1) within (inner subtree))

-- ---- the constructs one by one

closes_in : (levels : ℕ) (stack : List Frame) (more : List Lexeme) (start : ℕ) (name : Name) (ty : TypeTree) (value : Expr) → ClosesBy levels stack more → ClosesBy levels (frames.In start name ty value ∷ stack) more
unfolding reduced
closes_in levels stack more start name ty value = closes_with levels (frames.In start name ty value) stack more
    (λ subtree. record { tree = exprs.Let name ty value subtree.tree (from_to start subtree.span.end); span = from_to start subtree.span.end }) (λ subtree. refl)

closes_not : (levels : ℕ) (stack : List Frame) (more : List Lexeme) (start : ℕ) → ClosesBy levels stack more → ClosesBy levels (frames.Not start ∷ stack) more
unfolding reduced
closes_not levels stack more start = closes_with levels (frames.Not start) stack more
    (λ subtree. record { tree = exprs.Not subtree.tree (from_to start subtree.span.end); span = from_to start subtree.span.end }) (λ subtree. refl)

closes_negated : (levels : ℕ) (stack : List Frame) (more : List Lexeme) (start : ℕ) → ClosesBy levels stack more → ClosesBy levels (frames.Negated start ∷ stack) more
unfolding reduced
closes_negated levels stack more start = closes_with levels (frames.Negated start) stack more
    (λ subtree. record { tree = exprs.Negated subtree.tree (from_to start subtree.span.end); span = from_to start subtree.span.end }) (λ subtree. refl)

closes_row : (levels : ℕ) (stack : List Frame) (more : List Lexeme) (first : Subtree) (rest : List Infix) (operator : Operator) → ClosesBy levels stack more → ClosesBy levels (frames.Row first rest operator ∷ stack) more
unfolding reduced
closes_row levels stack more first rest operator =
    let low : nat_le 0 (level_of operator) ≡ true = grind (arith, nat_tests) in
    closes_with levels (frames.Row first rest operator) stack more (chained first rest operator) (λ subtree. rw low refl)

closes_parens : (levels : ℕ) (stack : List Frame) (more : List Lexeme) (start : ℕ) → open_levels stack ≤ levels → ClosesBy levels stack more → ClosesBy levels (frames.Parens start ∷ stack) (closes ∷ more)
unfolding reduced
closes_parens levels stack more start = closes_at levels (frames.Parens start) stack closes more symbols.CloseParenthesis
    (λ subtree. base_of (exprs.Parens subtree.tree (from_to start 0)) (from_to start 0)) is_closing refl (λ subtree. refl)

closes_arguments : (levels : ℕ) (stack : List Frame) (more : List Lexeme) (called : CallHead) (values : List Expr) → open_levels stack ≤ levels → ClosesBy levels stack more → ClosesBy levels (frames.Arguments called values ∷ stack) (closes ∷ more)
unfolding reduced
closes_arguments levels stack more called values = closes_at levels (frames.Arguments called values) stack closes more symbols.CloseParenthesis
    (λ subtree. with_args called (args.Values (values ++ subtree.tree ∷ [])) 0) is_closing refl (λ subtree. refl)

closes_elements : (levels : ℕ) (stack : List Frame) (more : List Lexeme) (start : ℕ) (kind : Kind) (elements : List Expr) → open_levels stack ≤ levels → ClosesBy levels stack more
    → ClosesBy levels (frames.Elements start kind elements ∷ stack) (mark (codes "}") ∷ more)
unfolding reduced
closes_elements levels stack more start kind elements = closes_at levels (frames.Elements start kind elements) stack (mark (codes "}")) more symbols.CloseBrace
    (λ subtree. base_of (exprs.Coll kind (elements ++ subtree.tree ∷ []) (from_to start 0)) (from_to start 0)) is_close_brace refl (λ subtree. refl)

pub closes_body : (levels : ℕ) (stack : List Frame) (more : List Lexeme) (it : Iterated) (ty : Option TypeTree) → open_levels stack ≤ levels → ClosesBy levels stack more → ClosesBy levels (frames.Body it ty ∷ stack) (closes ∷ more)
unfolding reduced
closes_body levels stack more it ty = closes_at levels (frames.Body it ty) stack closes more symbols.CloseParenthesis
    (λ subtree. with_body it ty subtree.tree 0) is_closing refl (λ subtree. refl)

closes_else : (levels : ℕ) (stack : List Frame) (more : List Lexeme) (start : ℕ) (condition one : Expr) → open_levels stack ≤ levels → ClosesBy levels stack more
    → ClosesBy levels (frames.Else start condition one ∷ stack) (reserved (codes "endif") ∷ more)
unfolding reduced
closes_else levels stack more start condition one = closes_at levels (frames.Else start condition one) stack (reserved (codes "endif")) more symbols.Endif
    (λ subtree. base_of (exprs.If condition one subtree.tree (from_to start 0)) (from_to start 0)) is_endif refl (λ subtree. refl)

closes_then : (levels : ℕ) (stack : List Frame) (more : List Lexeme) (start : ℕ) (condition : Expr) → 1 + open_levels stack ≤ levels → ClosesBy levels stack more
    → ClosesBy levels (frames.Then start condition ∷ stack) (reserved (codes "else") ∷ null ∷ reserved (codes "endif") ∷ more)
unfolding reduced
closes_then levels stack more start condition fits inner = closes_on levels (frames.Then start condition) stack (reserved (codes "else")) (reserved (codes "endif") ∷ more) symbols.Else
    (λ subtree. frames.Else start condition subtree.tree) is_else refl (λ subtree. refl) (λ subtree. fits) (λ subtree. closes_else levels stack more start condition subtree.tree (omega arith) inner)

closes_if : (levels : ℕ) (stack : List Frame) (more : List Lexeme) (start : ℕ) → 1 + open_levels stack ≤ levels → ClosesBy levels stack more
    → ClosesBy levels (frames.If start ∷ stack) (reserved (codes "then") ∷ null ∷ reserved (codes "else") ∷ null ∷ reserved (codes "endif") ∷ more)
unfolding reduced
closes_if levels stack more start fits inner = closes_on levels (frames.If start) stack (reserved (codes "then")) (reserved (codes "else") ∷ null ∷ reserved (codes "endif") ∷ more) symbols.Then
    (λ subtree. frames.Then start subtree.tree) is_then refl (λ subtree. refl) (λ subtree. fits) (λ subtree. closes_then levels stack more start subtree.tree fits inner)

pub closes_let : (levels : ℕ) (stack : List Frame) (more : List Lexeme) (start : ℕ) (name : Name) (ty : TypeTree) → 1 + open_levels stack ≤ levels → ClosesBy levels stack more
    → ClosesBy levels (frames.Let start name ty ∷ stack) (reserved (codes "in") ∷ null ∷ more)
unfolding reduced
closes_let levels stack more start name ty fits inner = closes_on levels (frames.Let start name ty) stack (reserved (codes "in")) more symbols.In
    (λ subtree. frames.In start name ty subtree.tree) is_in refl (λ subtree. refl) (λ subtree. fits) (λ subtree. closes_in levels stack more start name ty subtree.tree inner)

-- constructs in which expressions are read end behind an operand
pub closing_closes : (levels : ℕ) (stack : List Frame) → are_expressions stack ≡ true → open_levels stack ≤ levels → ClosesBy levels stack (closing stack)
unfolding closing
closing_closes levels [] plain fits = closes_none levels
closing_closes levels (frames.LetType start name ∷ stack) plain fits = cc
closing_closes levels (frames.Let start name ty ∷ stack) plain fits = closes_let levels stack (closing stack) start name ty fits (closing_closes levels stack plain (omega arith))
closing_closes levels (frames.In start name ty value ∷ stack) plain fits = closes_in levels stack (closing stack) start name ty value (closing_closes levels stack plain (omega arith))
closing_closes levels (frames.Not start ∷ stack) plain fits = closes_not levels stack (closing stack) start (closing_closes levels stack plain (omega arith))
closing_closes levels (frames.Negated start ∷ stack) plain fits = closes_negated levels stack (closing stack) start (closing_closes levels stack plain (omega arith))
closing_closes levels (frames.Row first rest operator ∷ stack) plain fits = closes_row levels stack (closing stack) first rest operator (closing_closes levels stack plain (omega arith))
closing_closes levels (frames.Parens start ∷ stack) plain fits = closes_parens levels stack (closing stack) start (omega arith) (closing_closes levels stack plain (omega arith))
closing_closes levels (frames.If start ∷ stack) plain fits = closes_if levels stack (closing stack) start fits (closing_closes levels stack plain (omega arith))
closing_closes levels (frames.Then start condition ∷ stack) plain fits = closes_then levels stack (closing stack) start condition fits (closing_closes levels stack plain (omega arith))
closing_closes levels (frames.Else start condition one ∷ stack) plain fits = closes_else levels stack (closing stack) start condition one (omega arith) (closing_closes levels stack plain (omega arith))
closing_closes levels (frames.Elements start kind elements ∷ stack) plain fits = closes_elements levels stack (closing stack) start kind elements (omega arith) (closing_closes levels stack plain (omega arith))
closing_closes levels (frames.Arguments called values ∷ stack) plain fits = closes_arguments levels stack (closing stack) called values (omega arith) (closing_closes levels stack plain (omega arith))
closing_closes levels (frames.VariableType it ∷ stack) plain fits = cc
closing_closes levels (frames.Body it ty ∷ stack) plain fits = closes_body levels stack (closing stack) it ty (omega arith) (closing_closes levels stack plain (omega arith))
closing_closes levels (frames.OfKind start kind ∷ stack) plain fits = cc
