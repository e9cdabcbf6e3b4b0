-- What ends before a symbol is spelled where it stands: rows, `not`, `-` and `let` become parts of what is open around them.
use Rattle.std.proofs.Common.{◌≡◌, ℕ, ◌+◌, ◌-◌, ◌≤◌, Bool, true, false, nat_le, if◌then◌else◌, List, [], ◌∷◌, ◌++◌, Some, ap, sym, ◌∙◌, refl, arith, true≢false}
use Rattle.std.specs.Prelude.{codes, ◌==◌}
use Rattle.std.proofs.lemmas.Bool.Decides.{nat_tests}
use Rattle.std.proofs.lemmas.List.{length-append}
use Rattle.mof_metamodel.specs.declared.span.Span.{Span}
use Rattle.ql_lex.specs.Lexed.{Lexeme}
use Rattle.qv_syntax.specs.declared.name.Name.{Name}
use Rattle.qv_syntax.specs.declared.type_tree.TypeTree.{TypeTree}
use Rattle.qv_syntax.specs.declared.operator.Operator.{Operator}
use Rattle.qv_syntax.specs.declared.operator.Operator.TheVariants as operators
use Rattle.qv_syntax.specs.declared.expr.Expr.{Expr}
use Rattle.qv_syntax.specs.declared.expr.Expr.TheVariants as exprs
use Rattle.qv_syntax.specs.declared.expr.Infix.{Infix}
use Rattle.qv_syntax.specs.Operators.{level_of}
use Rattle.ql_lex.specs.Lexemes.{is_sign, is_word, start_of, end_of, span_at}
use Rattle.ocl_parser.specs.Grammar.{binding, spelled, spelled_infixes}
use Rattle.ocl_parser.specs.Moves.{Reduced, reduced, from_to, chained, infixed, begins_expression, open_levels, frame_levels}
use Rattle.ocl_parser.specs.declared.frame.Subtree.{Subtree}
use Rattle.ocl_parser.specs.declared.frame.Frame.{Frame}
use Rattle.ocl_parser.specs.declared.frame.Frame.TheVariants as frames
use Rattle.ocl_parser.proofs.ExprLaws.{not_spelled, negated_spelled, let_spelled, chain_spelled, not_binding, negated_binding, chain_binding}
use Rattle.ocl_parser.proofs.StepLaws.{links_more, level_more}
use Rattle.ocl_parser.proofs.SoundStacks.{PartAt, FrameAt, OpensAt, RowAt, InAt, Holds, floor}

-- ---- levels

pub level_most : (operator : Operator) → level_of operator ≤ 7
level_most operators.Implies = omega arith
level_most operators.Xor = omega arith
level_most operators.Or = omega arith
level_most operators.And = omega arith
level_most operators.Equal = omega arith
level_most operators.NotEqual = omega arith
level_most operators.Less = omega arith
level_most operators.Greater = omega arith
level_most operators.AtMost = omega arith
level_most operators.AtLeast = omega arith
level_most operators.Plus = omega arith
level_most operators.Minus = omega arith
level_most operators.Times = omega arith

-- one more than the level of a row on top, and more than any level where `not` or `-` is on top
abbrev pub waits : List Frame → ℕ
waits [] = 0
waits (frames.Row first rest operator ∷ stack) = level_of operator + 1
waits (frames.Not start ∷ stack) = 9
waits (frames.Negated start ∷ stack) = 9
waits (frame ∷ stack) = 0

pub floor_most : (stack : List Frame) → floor stack ≤ 8
floor_most [] = omega arith
floor_most (frames.Row first rest operator ∷ stack) = omega (arith, level_most operator)
floor_most (frames.Not start ∷ stack) = omega arith
floor_most (frames.Negated start ∷ stack) = omega arith
floor_most (frame ∷ stack) = omega arith

pub begins_free : (stack : List Frame) → begins_expression stack ≡ true → floor stack ≤ 0
begins_free [] e = omega arith
begins_free (frames.Row first rest operator ∷ stack) e = absurd (true≢false (sym e))
begins_free (frames.Not start ∷ stack) e = absurd (true≢false (sym e))
begins_free (frames.Negated start ∷ stack) e = absurd (true≢false (sym e))
begins_free (frame ∷ stack) e = omega arith

frame_level : (ts : List Lexeme) (frame : Frame) (n m a b : ℕ) → FrameAt ts frame n m a b → n ≡ m + frame_levels frame
frame_level ts (frames.LetType start name) n m a b h = h.0.level
frame_level ts (frames.Let start name ty) n m a b h = h.0.level
frame_level ts (frames.In start name ty value) n m a b h = h.0.level
frame_level ts (frames.Not start) n m a b h = h.0.level
frame_level ts (frames.Negated start) n m a b h = h.0.level
frame_level ts (frames.Row first rest operator) n m a b h = omega (arith, h.level)
frame_level ts (frames.Parens start) n m a b h = h.0.level
frame_level ts (frames.If start) n m a b h = h.0.level
frame_level ts (frames.Then start condition) n m a b h = h.0.level
frame_level ts (frames.Else start condition one) n m a b h = h.0.level
frame_level ts (frames.Elements start kind elements) n m a b h = h.0.level
frame_level ts (frames.Arguments called values) n m a b h = h.level
frame_level ts (frames.VariableType it) n m a b h = h.level
frame_level ts (frames.Body it ty) n m a b h = h.level
frame_level ts (frames.OfKind start kind) n m a b h = h.0.level

-- the levels that are left and those that are open are all
pub levels_open : (ts : List Lexeme) (from levels : ℕ) (stack : List Frame) (b m : ℕ) → Holds ts from levels stack b m → m + open_levels stack ≡ levels
levels_open ts from levels [] b m h = omega (arith, h.1)
levels_open ts from levels (frame ∷ stack) b m h = omega (arith, frame_level ts frame h.n m h.a b h.frame, levels_open ts from levels stack h.a h.n h.below)

-- ---- spans

pub span_to : (ts : List Lexeme) (start i k l : ℕ) → start ≡ start_of ts i → l ≡ k + 1 → from_to start (end_of ts k) ≡ span_at ts i l
unfolding span_at
span_to ts start i k l s e =
    let back : l - 1 ≡ k = omega arith in ap (λ (x : ℕ). from_to x (end_of ts k)) s ∙ ap (λ (x : ℕ). from_to (start_of ts i) (end_of ts x)) (sym back)

pub span_over : (ts : List Lexeme) (start a b c : ℕ) (span : Span) → start ≡ start_of ts a → span ≡ span_at ts b c → from_to start span.end ≡ span_at ts a c
unfolding span_at
span_over ts start a b c span s e = ap (λ (x : ℕ). from_to x span.end) s ∙ ap (λ (x : Span). from_to (start_of ts a) x.end) e

-- ---- what ends

-- what has ended, up to the token of number c, before a symbol of this level
pub record ReducedAt (ts : List Lexeme) (from levels level : ℕ) (s : Reduced) (c : ℕ) : Type 0 where
  pub b : ℕ
  pub m : ℕ
  pub below : Holds ts from levels s.stack b m
  pub subtree : PartAt ts m s.subtree b c
  pub high : level ≤ binding ts s.subtree.tree
  pub low : waits s.stack ≤ level

abbrev as_part : Expr → ℕ → Span → Subtree
as_part tree start span = record { tree = tree; span = from_to start span.end }

not_part : (ts : List Lexeme) (start n m a b c : ℕ) (subtree : Subtree) → OpensAt ts (is_word (codes "not")) start n m a → b ≡ a + 1 → PartAt ts m subtree b c
    → 8 ≤ binding ts subtree.tree
    → PartAt ts n (as_part (exprs.Not subtree.tree (from_to start subtree.span.end)) start subtree.span) a c
not_part ts start n m a b c subtree opens end p tight =
    let at = span_over ts start a b c subtree.span opens.begin p.span in
    record { whole = not_spelled ts subtree.tree (from_to start subtree.span.end) n m a b c opens.level opens.token end p.whole tight at; span = at }

negated_part : (ts : List Lexeme) (start n m a b c : ℕ) (subtree : Subtree) → OpensAt ts (is_sign (codes "-")) start n m a → b ≡ a + 1 → PartAt ts m subtree b c
    → 8 ≤ binding ts subtree.tree
    → PartAt ts n (as_part (exprs.Negated subtree.tree (from_to start subtree.span.end)) start subtree.span) a c
negated_part ts start n m a b c subtree opens end p tight =
    let at = span_over ts start a b c subtree.span opens.begin p.span in
    record { whole = negated_spelled ts subtree.tree (from_to start subtree.span.end) n m a b c opens.level opens.token end p.whole tight at; span = at }

let_part : (ts : List Lexeme) (start n m a b c : ℕ) (name : Name) (ty : TypeTree) (value : Expr) (subtree : Subtree) → OpensAt ts (is_word (codes "let")) start n m a
    → InAt ts name ty value m a b → PartAt ts m subtree b c
    → PartAt ts n (as_part (exprs.Let name ty value subtree.tree (from_to start subtree.span.end)) start subtree.span) a c
let_part ts start n m a b c name ty value subtree opens head p =
    let at = span_over ts start a b c subtree.span opens.begin p.span in
    let body : spelled ts m subtree.tree (head.to + 1) ≡ Some c = ap (λ (x : ℕ). spelled ts m subtree.tree x) (sym head.end) ∙ p.whole in
    record {
      whole = let_spelled ts name ty value subtree.tree (from_to start subtree.span.end) n m a
          (a + 1) head.from head.to c opens.level opens.token refl head.head head.subtree head.word body at;
      span = at;
    }

-- the row with one more part
pub links_longer : (ts : List Lexeme) (first : Subtree) (rest : List Infix) (operator : Operator) (n m a b c : ℕ) (subtree : Subtree) (row : RowAt ts first rest operator n m a b)
    → PartAt ts m subtree b c
    → spelled_infixes ts m (rest ++ infixed operator subtree.tree ∷ []) row.second ≡ Some c
links_longer ts first rest operator n m a b c subtree row p =
    links_more ts m rest operator subtree.tree row.second row.at c row.infixes row.sign (ap (λ (x : ℕ). spelled ts m subtree.tree x) (sym row.end) ∙ p.whole)

row_part : (ts : List Lexeme) (first : Subtree) (rest : List Infix) (operator : Operator) (n m a b c : ℕ) (subtree : Subtree) → RowAt ts first rest operator n m a b
    → PartAt ts m subtree b c
    → level_of operator + 1 ≤ binding ts subtree.tree → PartAt ts n (chained first rest operator subtree) a c
row_part ts first rest operator n m a b c subtree row p tight =
    let infixes = rest ++ infixed operator subtree.tree ∷ [] in
    let at = span_over ts first.span.start a b c subtree.span row.begin p.span in
    let even = level_more ts (level_of operator) rest operator subtree.tree row.even refl (omega (arith, tight)) in
    let whole = chain_spelled ts first.tree infixes (from_to first.span.start subtree.span.end) (level_of operator) m a row.second c row.subtree row.tight
    (links_longer ts first rest operator n m a b c subtree row p) even (omega (arith, length-append rest (infixed operator subtree.tree ∷ []))) at in
    record { whole = ap (λ (x : ℕ). spelled ts x (exprs.Chain first.tree infixes (from_to first.span.start subtree.span.end)) a) row.level ∙ whole; span = at }

row_binding : (ts : List Lexeme) (first : Subtree) (rest : List Infix) (operator : Operator) (n m a b : ℕ) (subtree : Subtree) → RowAt ts first rest operator n m a b
    → level_of operator + 1 ≤ binding ts subtree.tree
    → binding ts (chained first rest operator subtree).tree ≡ level_of operator
row_binding ts first rest operator n m a b subtree row tight =
    chain_binding ts first.tree (rest ++ infixed operator subtree.tree ∷ []) (from_to first.span.start subtree.span.end) (level_of operator)
    (level_more ts (level_of operator) rest operator subtree.tree row.even refl (omega (arith, tight))) (omega (arith, length-append rest (infixed operator subtree.tree ∷ [])))

pub chosen : {X : Type 0} (P : X → Type 0) (b : Bool) (x y : X) → (b ≡ true → P x) → (b ≡ false → P y) → P (if b then x else y)
chosen P true x y one other = one refl
chosen P false x y one other = other refl

below : (a b : ℕ) → nat_le a b ≡ true → a ≤ b
below a b e = grind (arith, nat_tests)

above : (a b : ℕ) → nat_le a b ≡ false → b + 1 ≤ a
above a b e = grind (arith, nat_tests)

none : (a : ℕ) → (a == 0) ≡ true → a ≡ 0
none a e = grind (arith, nat_tests)

pub reduced_holds : (ts : List Lexeme) (from levels level : ℕ) (stack : List Frame) (subtree : Subtree) (b c m : ℕ) → level ≤ 8 → Holds ts from levels stack b m
    → PartAt ts m subtree b c
    → floor stack ≤ binding ts subtree.tree → level ≤ binding ts subtree.tree → ReducedAt ts from levels level (reduced level stack subtree) c
unfolding reduced
reduced_holds ts from levels level [] subtree b c m few h p fits high = record { b = b; m = m; below = h; subtree = p; high = high; low = omega arith }
reduced_holds ts from levels level (frames.Not start ∷ stack) subtree b c m few h p fits high =
    let eight : binding ts (exprs.Not subtree.tree (from_to start subtree.span.end)) ≡ 8 = not_binding ts subtree.tree (from_to start subtree.span.end) in
    reduced_holds ts from levels level stack (as_part (exprs.Not subtree.tree (from_to start subtree.span.end)) start subtree.span) h.a c h.n few h.below
    (not_part ts start h.n m h.a b c subtree h.frame.0 h.frame.1 p fits) (omega (arith, eight, floor_most stack)) (omega (arith, eight, few))
reduced_holds ts from levels level (frames.Negated start ∷ stack) subtree b c m few h p fits high =
    let eight : binding ts (exprs.Negated subtree.tree (from_to start subtree.span.end)) ≡ 8 = negated_binding ts subtree.tree (from_to start subtree.span.end) in
    reduced_holds ts from levels level stack (as_part (exprs.Negated subtree.tree (from_to start subtree.span.end)) start subtree.span) h.a c h.n few h.below
    (negated_part ts start h.n m h.a b c subtree h.frame.0 h.frame.1 p fits) (omega (arith, eight, floor_most stack)) (omega (arith, eight, few))
reduced_holds ts from levels level (frames.Row first rest operator ∷ stack) subtree b c m few h p fits high =
    let same : binding ts (chained first rest operator subtree).tree ≡ level_of operator = row_binding ts first rest operator h.n m h.a b subtree h.frame fits in
    chosen (λ s. ReducedAt ts from levels level s c) (nat_le level (level_of operator)) _ _
    (λ e. reduced_holds ts from levels level stack (chained first rest operator subtree) h.a c h.n few h.below
    (row_part ts first rest operator h.n m h.a b c subtree h.frame p fits)
    (omega (arith, same, h.fits)) (omega (arith, same, below level (level_of operator) e)))
    (λ e. record { b = b; m = m; below = h; subtree = p; high = high; low = above level (level_of operator) e })
reduced_holds ts from levels level (frames.In start name ty value ∷ stack) subtree b c m few h p fits high =
    chosen (λ s. ReducedAt ts from levels level s c) (level == 0) _ _
    (λ e. reduced_holds ts from levels level stack (as_part (exprs.Let name ty value subtree.tree (from_to start subtree.span.end)) start subtree.span) h.a c h.n few h.below
    (let_part ts start h.n m h.a b c name ty value subtree h.frame.0 h.frame.1 p) (omega (arith, h.fits)) (omega (arith, none level e)))
    (λ e. record { b = b; m = m; below = h; subtree = p; high = high; low = omega arith })
reduced_holds ts from levels level (frame ∷ stack) subtree b c m few h p fits high = record { b = b; m = m; below = h; subtree = p; high = high; low = omega arith }
