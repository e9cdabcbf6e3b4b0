-- The tokens at the head of a `let` and of an iterator lead to its frame.
use Rattle.std.proofs.Common.{◌≡◌, ℕ, ◌+◌, ◌<◌, ◌≤◌, true, List, ◌∷◌, Option, Some, None, ap, sym, ◌∙◌, refl, arith}
use Rattle.std.specs.Prelude.{codes}
use Rattle.ql_lex.specs.Lexed.{Lexeme}
use Rattle.qv_syntax.specs.declared.name.Name.{Name}
use Rattle.qv_syntax.specs.declared.operator.Operator.TheVariants as operators
use Rattle.qv_syntax.specs.declared.type_tree.TypeTree.{TypeTree}
use Rattle.ocl_parser.specs.Pieces.{◌▸◌, name, sign}
use Rattle.ql_lex.specs.Lexemes.{is_sign, is_name, span_at, stands}
use Rattle.ocl_parser.specs.Grammar.{type_of, optional_type, bound, declared_variable}
use Rattle.ocl_parser.specs.Moves.{move, iterated_of, open_levels}
use Rattle.ql_lex.specs.declared.symbol.Symbol.TheVariants as symbols
use Rattle.ocl_parser.specs.declared.frame.Base.{Base}
use Rattle.ocl_parser.specs.declared.frame.Iterated.{Iterated}
use Rattle.ocl_parser.specs.declared.frame.Frame.{Frame}
use Rattle.ocl_parser.specs.declared.frame.Frame.TheVariants as frames
use Rattle.ocl_parser.specs.declared.state.State.TheVariants as states
use Rattle.ocl_parser.proofs.CompleteRuns.{going, step}
use Rattle.ocl_parser.proofs.CompletePieces.{parts, taken}
use Rattle.ocl_parser.proofs.CompleteTypes.{type_read}

-- `name : type =` behind `let`
pub bound_read : (levels : ℕ) (ts : List Lexeme) (stack : List Frame) (start : ℕ) (x : Name) (ty : TypeTree) (n i j : ℕ) → open_levels stack + 1 + n ≤ levels
    → bound ts x ty n i ≡ Some j
    → (i < j) × (going levels ts stack (states.LetName start) i ≡ going levels ts (frames.Let start x ty ∷ stack) states.Operand j)
unfolding bound move
bound_read levels ts stack start x ty n i j few e =
    let a = parts (name ts x ▸ sign ts (codes ":") ▸ type_of ts ty) (sign ts (codes "=")) n i j e in
    let b = parts (name ts x ▸ sign ts (codes ":")) (type_of ts ty) n i a.0 a.1 in
    let c = parts (name ts x) (sign ts (codes ":")) n i b.0 b.1 in
    let named = taken (is_name x) ts n i c.0 c.1 in
    let colon = taken (is_sign (codes ":")) ts n c.0 b.0 c.2 in
    let equals = taken (is_sign (codes "=")) ts n a.0 j a.2 in
    let typing : List Frame = frames.LetType start x ∷ stack in
    let within : List Frame = frames.Let start x ty ∷ stack in
    let r = type_read ty ts levels n b.0 a.0 typing (omega (arith, few)) b.2 in
    let one = step levels ts (symbols.Name x) i stack stack (states.LetName start) (states.LetColon start x) refl named.0 refl (omega (arith, few)) in
    let two = step levels ts symbols.Colon c.0 stack typing (states.LetColon start x) states.Type refl colon.0 refl (omega (arith, few)) in
    let three = step levels ts (symbols.Operator operators.Equal) a.0 typing within r.state states.Operand refl equals.0
    (r.holds (symbols.Operator operators.Equal) (span_at ts a.0 (a.0 + 1)) refl) (omega (arith, few)) in (
      omega (arith, named.1, colon.1, equals.1, r.further),
      one ∙ ap (going levels ts stack (states.LetColon start x)) (sym named.1) ∙ two ∙ ap (going levels ts typing states.Type) (sym colon.1) ∙ r.runs ∙ three
          ∙ ap (going levels ts within states.Operand) (sym equals.1),
    )

-- `: type |` or `|` behind a variable
typed_read : (levels : ℕ) (ts : List Lexeme) (stack : List Frame) (it : Iterated) (ty : Option TypeTree) (n i k j : ℕ) → open_levels stack + 1 + n ≤ levels
    → optional_type ts ty n i ≡ Some k
    → stands (is_sign (codes "|")) ts k ≡ true → j ≡ k + 1
    → (i < j) × (going levels ts stack (states.ArrowSecond it) i ≡ going levels ts (frames.Body it ty ∷ stack) states.Operand j)
unfolding optional_type move
typed_read levels ts stack it None n i k j few e bar at =
    let same : i ≡ k = cc in
    let one = step levels ts symbols.Bar k stack (frames.Body it None ∷ stack) (states.ArrowSecond it) states.Operand refl bar refl (omega (arith, few)) in
    (omega arith, ap (going levels ts stack (states.ArrowSecond it)) same ∙ one ∙ ap (going levels ts (frames.Body it None ∷ stack) states.Operand) (sym at))
typed_read levels ts stack it (Some ty) n i k j few e bar at =
    let a = parts (sign ts (codes ":")) (type_of ts ty) n i k e in
    let colon = taken (is_sign (codes ":")) ts n i a.0 a.1 in
    let typing : List Frame = frames.VariableType it ∷ stack in
    let within : List Frame = frames.Body it (Some ty) ∷ stack in
    let r = type_read ty ts levels n a.0 k typing (omega (arith, few)) a.2 in
    let one = step levels ts symbols.Colon i stack typing (states.ArrowSecond it) states.Type refl colon.0 refl (omega (arith, few)) in
    let two = step levels ts symbols.Bar k typing within r.state states.Operand refl bar (r.holds symbols.Bar (span_at ts k (k + 1)) refl) (omega (arith, few)) in (
      omega (arith, colon.1, r.further),
      one ∙ ap (going levels ts typing states.Type) (sym colon.1) ∙ r.runs ∙ two ∙ ap (going levels ts within states.Operand) (sym at),
    )

-- `( variable : type |` behind `->name`, the type left out or not
pub variable_read : (levels : ℕ) (ts : List Lexeme) (stack : List Frame) (base : Base) (start : ℕ) (x v : Name) (ty : Option TypeTree) (n i j : ℕ)
    → open_levels stack + 1 + n ≤ levels
    → declared_variable ts v ty n i ≡ Some j
    → (i < j) × (going levels ts stack (states.ArrowParenthesis base start x) i
    ≡ going levels ts (frames.Body (iterated_of base start x v) ty ∷ stack) states.Operand j)
unfolding declared_variable move
variable_read levels ts stack base start x v ty n i j few e =
    let a = parts (sign ts (codes "(") ▸ name ts v ▸ optional_type ts ty) (sign ts (codes "|")) n i j e in
    let b = parts (sign ts (codes "(") ▸ name ts v) (optional_type ts ty) n i a.0 a.1 in
    let c = parts (sign ts (codes "(")) (name ts v) n i b.0 b.1 in
    let opens = taken (is_sign (codes "(")) ts n i c.0 c.1 in
    let named = taken (is_name v) ts n c.0 b.0 c.2 in
    let bar = taken (is_sign (codes "|")) ts n a.0 j a.2 in
    let it : Iterated = iterated_of base start x v in
    let one = step levels ts symbols.OpenParenthesis i stack stack (states.ArrowParenthesis base start x) (states.ArrowFirst base start x) refl opens.0 refl
    (omega (arith, few)) in
    let two = step levels ts (symbols.Name v) c.0 stack stack (states.ArrowFirst base start x) (states.ArrowSecond it) refl named.0 refl (omega (arith, few)) in
    let rest = typed_read levels ts stack it ty n b.0 a.0 j few b.2 bar.0 bar.1 in (
      omega (arith, opens.1, named.1, rest.0),
      one ∙ ap (going levels ts stack (states.ArrowFirst base start x)) (sym opens.1) ∙ two ∙ ap (going levels ts stack (states.ArrowSecond it)) (sym named.1) ∙ rest.1,
    )
