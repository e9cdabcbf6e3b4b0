-- The tokens of a chain lead to it: a row collects the parts.
use Rattle.std.proofs.Common.{◌≡◌, ℕ, ◌+◌, ◌<◌, ◌≤◌, Bool, true, false, ◌&&◌, nat_lt, nat_le, List, [], ◌∷◌, ◌++◌, length, map, Some, ap, sym, ◌∙◌, refl, subst, arith}
use Rattle.std.proofs.lemmas.Bool.Decides.{nat_tests}
use Rattle.mof_metamodel.specs.declared.span.Span.{Span}
use Rattle.ql_lex.specs.Lexed.{Lexeme}
use Rattle.qv_syntax.specs.Operators.{level_of}
use Rattle.qv_syntax.specs.declared.operator.Operator.TheVariants as operators
use Rattle.qv_syntax.specs.declared.expr.Expr.{Expr}
use Rattle.qv_syntax.specs.declared.expr.Expr.TheVariants as exprs
use Rattle.qv_syntax.specs.declared.expr.Infix.{Infix}
use Rattle.qv_syntax.specs.declared.expr.Args.TheOpen as of
use Rattle.ocl_parser.specs.Pieces.{Piece, ◌▸◌, name, only}
use Rattle.ql_lex.specs.Lexemes.{span_at}
use Rattle.ocl_parser.specs.Grammar.{Form, InfixForm, Given, form, infix_form, args_step, expr_step, postfix_step, infix_step}
use Rattle.ocl_parser.specs.Moves.{move, to, reduced, open_levels}
use Rattle.ql_lex.specs.declared.symbol.Symbol.TheVariants as symbols
use Rattle.ocl_parser.specs.declared.frame.Subtree.{Subtree}
use Rattle.ocl_parser.specs.declared.frame.Frame.{Frame}
use Rattle.ocl_parser.specs.declared.frame.Frame.TheVariants as frames
use Rattle.ocl_parser.specs.declared.state.State.TheVariants as states
use Rattle.ocl_parser.proofs.CompleteRuns.{going, step}
use Rattle.ocl_parser.proofs.CompletePieces.{parts, held, token_first}
use Rattle.std.proofs.lemmas.Bool.{and_parts}
use Rattle.std.specs.Prelude.{◌==◌, nat_eq}
use Rattle.std.specs.List.{list_all}
use Rattle.std.proofs.lemmas.List.{append_assoc}
use Rattle.qv_syntax.specs.declared.operator.Operator.{Operator}
use Rattle.qv_syntax.specs.declared.expr.Infix.{fold-roll-Infix}
use Rattle.ocl_parser.specs.Pieces.{each}
use Rattle.ocl_parser.specs.Grammar.{is_operator, is_chain, is_of_level, chain_level}
use Rattle.ocl_parser.specs.Moves.{at_operator, infixed}
use Rattle.ocl_parser.proofs.CompleteForms.{part_from_to, Reads, Fits, Reading, IsRead, by_span}
use Rattle.ocl_parser.proofs.CompleteLists.{AllOf}

pub low : (operator : Operator) → level_of operator ≤ 7
low operators.Implies = omega arith
low operators.Xor = omega arith
low operators.Or = omega arith
low operators.And = omega arith
low operators.Equal = omega arith
low operators.NotEqual = omega arith
low operators.Less = omega arith
low operators.Greater = omega arith
low operators.AtMost = omega arith
low operators.AtLeast = omega arith
low operators.Plus = omega arith
low operators.Minus = omega arith
low operators.Times = omega arith

infix_form_is : (ts : List Lexeme) (l : Infix) → infix_form ts l ≡ infix_step ts (record { operator = l.operator; right = form ts l.right })
infix_form_is ts l = fold-roll-Infix Given Form Piece InfixForm (args_step ts) (expr_step ts) (postfix_step ts) (infix_step ts) (record { operator = l.operator; right = l.right })

-- an operator behind a part that fits begins a row
row_begins : (operator : Operator) (stack : List Frame) (p : Subtree) → Fits (level_of operator) stack
    → at_operator operator (reduced (level_of operator + 1) stack p) ≡ to (frames.Row p [] operator ∷ stack) states.Operand
unfolding reduced
row_begins operator [] p fit = refl
row_begins operator (frames.Row first rest waiting ∷ stack) p fit =
    let stays : nat_le (level_of operator + 1) (level_of waiting) ≡ false = grind (arith, nat_tests) in
    let other : nat_eq (level_of waiting) (level_of operator) ≡ false = grind (arith, nat_tests) in
    rw (stays, other) refl
row_begins operator (frames.Not start ∷ stack) p fit = absurd (omega (arith, low operator))
row_begins operator (frames.Negated start ∷ stack) p fit = absurd (omega (arith, low operator))
row_begins operator (frames.In start name ty value ∷ stack) p fit =
    let stays : nat_eq (level_of operator + 1) 0 ≡ false = grind (arith, nat_tests) in
    rw stays refl
row_begins operator (frame ∷ stack) p fit = refl

-- one behind a part of a row goes on with it
row_goes_on : (operator waiting : Operator) (first : Subtree) (rest : List Infix) (stack : List Frame) (p : Subtree) → level_of waiting ≡ level_of operator
    → at_operator operator (reduced (level_of operator + 1) (frames.Row first rest waiting ∷ stack) p)
    ≡ to (frames.Row first (rest ++ infixed waiting p.tree ∷ []) operator ∷ stack) states.Operand
unfolding reduced
row_goes_on operator waiting first rest stack p same =
    let stays : nat_le (level_of operator + 1) (level_of waiting) ≡ false = grind (arith, nat_tests) in
    let one : nat_eq (level_of waiting) (level_of operator) ≡ true = grind (arith, nat_tests) in
    rw (stays, one) refl

-- the operator behind a part
behind_part : (levels : ℕ) (ts : List Lexeme) (e : Expr) (binding : ℕ) (stack : List Frame) (i j : ℕ) (r : Reads levels ts e binding stack i j) (operator : Operator)
    (span : Span) → level_of operator < binding
    → move r.on r.state (symbols.Operator operator) span ≡ at_operator operator (reduced (level_of operator + 1) stack (part_from_to ts e i j))
behind_part levels ts e binding stack i j r operator span tight =
    r.holds (symbols.Operator operator) span refl ∙ ap (at_operator operator) (r.reduces (level_of operator + 1) (omega arith))

abbrev pub IsInfixRead : List Lexeme → Infix → Type 0
IsInfixRead ts l = IsRead ts l.right

abbrev pub pieces_of : List Lexeme → List Infix → Piece
pieces_of ts ls = each (map (λ l. l.piece) (map (infix_form ts) ls))

-- A row of operators of one level with their parts, the last of which begins at number `from`, and what follows.
chain_on : (levels : ℕ) (ts : List Lexeme) (level : ℕ) (stack : List Frame) (f : Expr) (n i h k : ℕ) → level ≤ 7 → open_levels stack + n ≤ levels
    → (ls : List Infix) → AllOf (IsInfixRead ts) ls → (done : List Infix) (operator : Operator) (e : Expr) → IsRead ts e → level_of operator ≡ level
    → level < (form ts e).binding → (from j : ℕ) → i < from
    → going levels ts stack states.Operand i ≡ going levels ts (frames.Row (part_from_to ts f i h) done operator ∷ stack) states.Operand from
    → (form ts e).piece n from ≡ Some j
    → list_all (is_of_level level) (map (infix_form ts) ls) ≡ true → pieces_of ts ls n j ≡ Some k
    → Reads levels ts (exprs.Chain f (done ++ infixed operator e ∷ ls) (span_at ts i k)) level stack i k
unfolding each reduced span_at
chain_on levels ts level stack f n i h k small few [] all done operator e ih of_level tight from j behind_i before subtree same_level more =
    let row : List Frame = frames.Row (part_from_to ts f i h) done operator ∷ stack in
    let r = ih levels n from j row (omega (arith, of_level, tight)) (omega (arith, few)) subtree in
    let same : j ≡ k = cc in
    subst (λ (x : ℕ). Reads levels ts (exprs.Chain f (done ++ infixed operator e ∷ []) (span_at ts i x)) level stack i x) same (record {
      on = r.on;
      state = r.state;
      base = r.base;
      further = omega (arith, r.further);
      runs = before ∙ r.runs;
      holds = r.holds;
      reduces = λ m loose.
          let pops : nat_le m (level_of operator) ≡ true = grind (arith, nat_tests) in
          r.reduces m (omega (arith, tight)) ∙ rw pops refl;
      tight = λ z. absurd (omega (arith, small));
    })
chain_on levels ts level stack f n i h k small few (l ∷ ls) all done operator e ih of_level tight from j behind_i before subtree same_level more =
    let row : List Frame = frames.Row (part_from_to ts f i h) done operator ∷ stack in
    let next : List Frame = frames.Row (part_from_to ts f i h) (done ++ infixed operator e ∷ []) l.operator ∷ stack in
    let r = ih levels n from j row (omega (arith, of_level, tight)) (omega (arith, few)) subtree in
    let a = parts (infix_form ts l).piece (pieces_of ts ls) n j k more in
    let b = token_first (is_operator l.operator) ts (form ts l.right).piece n j a.0 (subst (λ (x : InfixForm). x.piece n j ≡ Some a.0) (infix_form_is ts l) a.1) in
    let here = and_parts (is_of_level level (infix_form ts l)) (list_all (is_of_level level) (map (infix_form ts) ls)) same_level in
    let here' : is_of_level level (infix_step ts (record { operator = l.operator; right = form ts l.right })) ≡ true =
    subst (λ (x : InfixForm). is_of_level level x ≡ true) (infix_form_is ts l) here.0 in
    let now = and_parts (level_of l.operator == level) (nat_lt level (form ts l.right).binding) here' in
    let level' : level_of l.operator ≡ level = grind (arith, nat_tests) in
    let tight' : level < (form ts l.right).binding = grind (arith, nat_tests) in
    let m = behind_part levels ts e (form ts e).binding row from j r l.operator (span_at ts j (j + 1)) (omega (arith, tight, level'))
    ∙ row_goes_on l.operator operator (part_from_to ts f i h) done stack (part_from_to ts e from j) (of_level ∙ sym level') in
    let s = step levels ts (symbols.Operator l.operator) j r.on next r.state states.Operand refl b.0 m (omega (arith, few)) in
    let rest = chain_on levels ts level stack f n i h k small few ls all.1 (done ++ infixed operator e ∷ []) l.operator l.right all.0 level' tight' (j + 1) a.0
    (omega (arith, r.further)) (before ∙ r.runs ∙ s) b.1 here.1 a.2 in
    subst (λ (all_links : List Infix). Reads levels ts (exprs.Chain f all_links (span_at ts i k)) level stack i k) (append_assoc done (infixed operator e ∷ []) (l ∷ ls))
    rest

fits_more : (a b : ℕ) (stack : List Frame) → a ≤ b → Fits a stack → Fits b stack
fits_more a b [] m fit = tt
fits_more a b (frames.Row first rest operator ∷ stack) m fit = omega arith
fits_more a b (frames.Not start ∷ stack) m fit = omega arith
fits_more a b (frames.Negated start ∷ stack) m fit = omega arith
fits_more a b (frame ∷ stack) m fit = tt

chain_from : (ts : List Lexeme) (f : Expr) (ls : List Infix) → IsRead ts f → AllOf (IsInfixRead ts) ls → is_chain (form ts f) (map (infix_form ts) ls) ≡ true
    → (levels n i j : ℕ) (stack : List Frame) → Fits (chain_level (map (infix_form ts) ls)) stack → open_levels stack + n ≤ levels
    → ((form ts f).piece ▸ pieces_of ts ls) n i ≡ Some j
    → Reads levels ts (exprs.Chain f ls (span_at ts i j)) (chain_level (map (infix_form ts) ls)) stack i j
unfolding each
chain_from ts f [] ih all is levels n i j stack fit few e = cc
chain_from ts f (l ∷ ls) ih all is levels n i j stack fit few e =
    let level : ℕ = (infix_form ts l).level in
    let level_is : level ≡ level_of l.operator = ap (λ (x : InfixForm). x.level) (infix_form_is ts l) in
    let some : Bool = nat_lt 0 (length (map (infix_form ts) (l ∷ ls))) in
    let both = and_parts (some && nat_lt level (form ts f).binding) (list_all (is_of_level level) (map (infix_form ts) (l ∷ ls))) is in
    let looser = and_parts some (nat_lt level (form ts f).binding) both.0 in
    let here = and_parts (is_of_level level (infix_form ts l)) (list_all (is_of_level level) (map (infix_form ts) ls)) both.1 in
    let here' : is_of_level level (infix_step ts (record { operator = l.operator; right = form ts l.right })) ≡ true =
    subst (λ (x : InfixForm). is_of_level level x ≡ true) (infix_form_is ts l) here.0 in
    let now = and_parts (level_of l.operator == level) (nat_lt level (form ts l.right).binding) here' in
    let tight : level < (form ts f).binding = grind (arith, nat_tests, looser.1) in
    let tight' : level < (form ts l.right).binding = grind (arith, nat_tests, now.1) in
    let a = parts (form ts f).piece (pieces_of ts (l ∷ ls)) n i j e in
    let h : ℕ = a.0 in
    let b = parts (infix_form ts l).piece (pieces_of ts ls) n h j a.2 in
    let c = token_first (is_operator l.operator) ts (form ts l.right).piece n h b.0 (subst (λ (x : InfixForm). x.piece n h ≡ Some b.0) (infix_form_is ts l) b.1) in
    let r = ih levels n i h stack (fits_more level (form ts f).binding stack (omega (arith, tight)) fit) few a.1 in
    let next : List Frame = frames.Row (part_from_to ts f i h) [] l.operator ∷ stack in
    let m = behind_part levels ts f (form ts f).binding stack i h r l.operator (span_at ts h (h + 1)) (omega (arith, tight, level_is))
    ∙ row_begins l.operator stack (part_from_to ts f i h) (subst (λ (x : ℕ). Fits x stack) level_is fit) in
    let s = step levels ts (symbols.Operator l.operator) h r.on next r.state states.Operand refl c.0 m (omega (arith, few)) in
    chain_on levels ts level stack f n i h j (omega (arith, level_is, low l.operator)) few ls all.1 [] l.operator l.right all.0 (sym level_is) tight' (h + 1) b.0
    (omega (arith, r.further)) (r.runs ∙ s) c.1 here.1 b.2

pub chain_read : (ts : List Lexeme) (f : Expr) (ls : List Infix) (span : Span) → IsRead ts f → AllOf (IsInfixRead ts) ls
    → Reading ts (expr_step ts (of.Chain (form ts f) (map (infix_form ts) ls) span)) (exprs.Chain f ls span)
chain_read ts f ls span ih all =
    by_span ts (chain_level (map (infix_form ts) ls)) (exprs.Chain f ls) span (only (is_chain (form ts f) (map (infix_form ts) ls)) ((form ts f).piece ▸ pieces_of ts ls))
    (λ levels n i j stack fit few e.
    let a = held (is_chain (form ts f) (map (infix_form ts) ls)) ((form ts f).piece ▸ pieces_of ts ls) n i j e in
    chain_from ts f ls ih all a.0 levels n i j stack fit few a.1)
