-- The tokens of a class that is the argument of a call lead behind it, and the first value behind `->name(` is read like any other.
use Rattle.std.proofs.Common.{◌≡◌, ℕ, ◌+◌, ◌<◌, ◌≤◌, true, false, List, [], ◌∷◌, inl, inr, None, Some, ap, sym, ◌∙◌, refl, arith}
use Rattle.std.specs.Prelude.{codes}
use Rattle.mof_metamodel.specs.declared.span.Span.{Span}
use Rattle.ql_lex.specs.Lexed.{Lexeme}
use Rattle.qv_syntax.specs.declared.name.Name.{Name}
use Rattle.qv_syntax.specs.declared.name.Path.{Path}
use Rattle.qv_syntax.specs.declared.expr.Args.TheVariants as args
use Rattle.ocl_parser.specs.Pieces.{Piece, ◌▸◌, sign, nested}
use Rattle.ql_lex.specs.Lexemes.{is_sign, is_name, stands, span_at}
use Rattle.ocl_parser.specs.Grammar.{takes_class, class_path as class_piece}
use Rattle.ocl_parser.specs.Moves.{move, to, arguments, with_args, arrow_call, iterated_of, path_of, open_levels}
use Rattle.ql_lex.specs.declared.symbol.Symbol.{Symbol}
use Rattle.ql_lex.specs.declared.symbol.Symbol.TheVariants as symbols
use Rattle.ocl_parser.specs.declared.frame.Base.{Base}
use Rattle.ocl_parser.specs.declared.frame.Before.TheVariants as before
use Rattle.ocl_parser.specs.declared.frame.CallHead.{CallHead}
use Rattle.ocl_parser.specs.declared.frame.Iterated.{Iterated}
use Rattle.ocl_parser.specs.declared.frame.Frame.{Frame}
use Rattle.ocl_parser.specs.declared.frame.Frame.TheVariants as frames
use Rattle.ocl_parser.specs.declared.state.State.{State}
use Rattle.ocl_parser.specs.declared.state.State.TheVariants as states
use Rattle.ocl_parser.proofs.CompleteRuns.{going, step}
use Rattle.ocl_parser.proofs.CompletePieces.{parts, taken, within}
use Rattle.ocl_parser.proofs.CompletePaths.{PathParts, path_parts, path_behind}
use Rattle.ocl_parser.proofs.CompleteTypes.{class_read, class_extends}
use Rattle.ocl_parser.proofs.CompleteLeading.{same_here, name_of, is_typing, IsPlain, plain_at, plain_names, not_typing, named_or_not, not_named}

-- a class between parentheses
abbrev pub class_between : List Lexeme → Path → Piece
class_between ts p = nested (sign ts (codes "(") ▸ class_piece ts p ▸ sign ts (codes ")"))

pub record ClassParts (ts : List Lexeme) (p : Path) (n i j : ℕ) : Type 0 where
  pub inner : ℕ
  pub level : n ≡ inner + 1
  pub opens : stands (is_sign (codes "(")) ts i ≡ true
  pub end : ℕ
  pub path : class_piece ts p inner (i + 1) ≡ Some end
  pub closes : stands (is_sign (codes ")")) ts end ≡ true
  pub next : j ≡ end + 1

class_parts : (ts : List Lexeme) (p : Path) (n i j : ℕ) → class_between ts p n i ≡ Some j → ClassParts ts p n i j
class_parts ts p n i j e =
    let a = within (sign ts (codes "(") ▸ class_piece ts p ▸ sign ts (codes ")")) n i j e in
    let b = parts (sign ts (codes "(") ▸ class_piece ts p) (sign ts (codes ")")) a.0 i j a.2 in
    let c = parts (sign ts (codes "(")) (class_piece ts p) a.0 i b.0 b.1 in
    let opens = taken (is_sign (codes "(")) ts a.0 i c.0 c.1 in
    let closes = taken (is_sign (codes ")")) ts a.0 b.0 j b.2 in
    record {
      inner = a.0;
      level = a.1;
      opens = opens.0;
      end = b.0;
      path = rw (← opens.1) c.2;
      closes = closes.0;
      next = closes.1;
    }

same_ends : (ts : List Lexeme) (i k j : ℕ) → (span_at ts i j).end ≡ (span_at ts k j).end
unfolding span_at
same_ends ts i k j = refl

last_end : (ts : List Lexeme) (i k : ℕ) → (span_at ts k (k + 1)).end ≡ (span_at ts i (k + 1)).end
unfolding span_at
last_end ts i k = refl

-- `)` behind a class
class_closed : (levels : ℕ) (ts : List Lexeme) (stack : List Frame) (state : State) (called : CallHead) (p : Path) (i k j : ℕ) → open_levels stack ≤ levels
    → stands (is_sign (codes ")")) ts k ≡ true → j ≡ k + 1
    → ((span : Span) → move stack state symbols.CloseParenthesis span ≡ to stack (states.After (with_args called (args.Class p) span.end)))
    → going levels ts stack state k ≡ going levels ts stack (states.After (with_args called (args.Class p) (span_at ts i j).end)) j
class_closed levels ts stack state called p i k j few closes at m =
    step levels ts symbols.CloseParenthesis k stack stack state (states.After (with_args called (args.Class p) (span_at ts k (k + 1)).end)) refl closes
    (m (span_at ts k (k + 1))) (omega (arith, few))
    ∙ ap (λ (x : ℕ). going levels ts stack (states.After (with_args called (args.Class p) x)) (k + 1)) (last_end ts i k)
    ∙ ap (λ (x : ℕ). going levels ts stack (states.After (with_args called (args.Class p) (span_at ts i x).end)) x) (sym at)

-- from a state in which `(` begins arguments
pub class_given : (levels : ℕ) (ts : List Lexeme) (stack : List Frame) (state : State) (called : CallHead) (p : Path) (n i j : ℕ) → open_levels stack + n ≤ levels
    → takes_class called.name.text ≡ true
    → ((span : Span) → move stack state symbols.OpenParenthesis span ≡ arguments stack called) → class_between ts p n i ≡ Some j
    → (i < j) × (going levels ts stack state i ≡ going levels ts stack (states.After (with_args called (args.Class p) (span_at ts i j).end)) j)
unfolding move
class_given levels ts stack state called p n i j few takes m e =
    let a = class_parts ts p n i j e in
    let begins : move stack state symbols.OpenParenthesis (span_at ts i (i + 1)) ≡ to stack (states.ClassName called) = m (span_at ts i (i + 1)) ∙ rw takes refl in
    let one = step levels ts symbols.OpenParenthesis i stack stack state (states.ClassName called) refl a.opens begins (omega (arith, few, a.level)) in
    let two = class_read levels ts stack called p a.inner (i + 1) a.end (omega (arith, few, a.level)) a.path in
    let three = class_closed levels ts stack (states.ClassPath called p) called p i a.end j (omega (arith, few)) a.closes a.next (λ span. refl) in
    (omega (arith, two.0, a.next), one ∙ two.1 ∙ three)

-- ---- behind `->name(`

class_moves : (stack : List Frame) (it : Iterated) (s : Symbol) (span : Span) → takes_class it.name.text ≡ true → is_typing s ≡ false
    → move stack (states.ArrowSecond it) s span ≡ move stack (states.ClassPath (arrow_call it) (path_of it.variable)) s span
unfolding move
class_moves stack it symbols.Colon span takes e = cc
class_moves stack it symbols.Bar span takes e = cc
class_moves stack it s span takes e = rw takes refl

-- a class, whose first name might have been a variable
second_class : (levels : ℕ) (ts : List Lexeme) (stack : List Frame) (it : Iterated) (p : Path) (n i k j : ℕ) → open_levels stack + 1 ≤ levels
    → takes_class it.name.text ≡ true → (a : PathParts ts 2 p n i k) → it.variable ≡ a.first
    → stands (is_sign (codes ")")) ts k ≡ true → j ≡ k + 1 → (i < k)
    × (going levels ts stack (states.ArrowSecond it) (i + 1) ≡ going levels ts stack (states.After (with_args (arrow_call it) (args.Class p) (span_at ts i j).end)) j)
unfolding move
second_class levels ts stack it p n i k j few takes a is closes at =
    let called : CallHead = arrow_call it in
    let plain : IsPlain ts (i + 1) = elim (plain_names ts a.rest n (i + 1) k a.ends) [
      | inl e ↦ rw (← e) (plain_at ts k symbols.CloseParenthesis refl refl closes)
      | inr e ↦ e
    ] in
    let two = path_behind levels 2 ts stack (states.ClassPath called) (states.ClassNext called) (class_extends levels stack called few) p n i k a in
    let three = class_closed levels ts stack (states.ClassPath called p) called p i k j (omega (arith, few)) closes at (λ span. refl) in
    let same : going levels ts stack (states.ArrowSecond it) (i + 1) ≡ going levels ts stack (states.ClassPath called (path_of it.variable)) (i + 1) =
    same_here levels ts (i + 1) stack stack (states.ArrowSecond it) (states.ClassPath called (path_of it.variable))
    (λ s span h. class_moves stack it s span takes (not_typing ts (i + 1) s plain h)) in
    (two.0, same ∙ ap (λ (x : Name). going levels ts stack (states.ClassPath called (path_of x)) (i + 1)) is ∙ two.1 ∙ three)

abbrev pub arrow_of : Base → ℕ → Name → CallHead
arrow_of base start x = record { before = before.Arrow base start; name = x }

first_moves : (stack : List Frame) (base : Base) (start : ℕ) (x : Name) (s : Symbol) (span : Span) → takes_class x.text ≡ false → name_of s ≡ None
    → move stack (states.ArrowFirst base start x) s span ≡ move (frames.Arguments (arrow_of base start x) [] ∷ stack) states.Operand s span
unfolding move
first_moves stack base start x (symbols.Name v) span takes e = cc
first_moves stack base start x s span takes e = rw takes refl

second_moves : (stack : List Frame) (it : Iterated) (s : Symbol) (span : Span) → takes_class it.name.text ≡ false → is_typing s ≡ false
    → move stack (states.ArrowSecond it) s span ≡ move (frames.Arguments (arrow_call it) [] ∷ stack) (states.Path (path_of it.variable)) s span
unfolding move
second_moves stack it symbols.Colon span takes e = cc
second_moves stack it symbols.Bar span takes e = cc
second_moves stack it s span takes e = rw takes refl

-- a class behind `->name`
pub class_behind_arrow : (levels : ℕ) (ts : List Lexeme) (stack : List Frame) (base : Base) (start : ℕ) (x : Name) (p : Path) (n i j : ℕ)
    → open_levels stack + n ≤ levels → takes_class x.text ≡ true
    → class_between ts p n i ≡ Some j
    → (i < j) × (going levels ts stack (states.ArrowParenthesis base start x) i
    ≡ going levels ts stack (states.After (with_args (arrow_of base start x) (args.Class p) (span_at ts i j).end)) j)
unfolding move
class_behind_arrow levels ts stack base start x p n i j few takes e =
    let a = class_parts ts p n i j e in
    let q = path_parts ts 2 p a.inner (i + 1) a.end a.path in
    let it : Iterated = iterated_of base start x q.first in
    let one = step levels ts symbols.OpenParenthesis i stack stack (states.ArrowParenthesis base start x) (states.ArrowFirst base start x) refl a.opens refl
    (omega (arith, few, a.level)) in
    let two = step levels ts (symbols.Name q.first) (i + 1) stack stack (states.ArrowFirst base start x) (states.ArrowSecond it) refl q.begins refl
    (omega (arith, few, a.level)) in
    let three = second_class levels ts stack it p a.inner (i + 1) a.end j (omega (arith, few, a.level)) takes q refl a.closes a.next in
    let ends : (span_at ts (i + 1) j).end ≡ (span_at ts i j).end = same_ends ts (i + 1) i j in (
      omega (arith, three.0, a.next),
      one ∙ two ∙ three.1 ∙ ap (λ (y : ℕ). going levels ts stack (states.After (with_args (arrow_of base start x) (args.Class p) y)) j)
          ends,
    )

-- the first value behind `->name(` is read like any other, unless what follows a leading name makes it a variable
pub first_value : (levels : ℕ) (ts : List Lexeme) (stack : List Frame) (base : Base) (start : ℕ) (x : Name) (i : ℕ) → open_levels stack + 1 ≤ levels
    → takes_class x.text ≡ false
    → ((v : Name) → stands (is_name v) ts i ≡ true → IsPlain ts (i + 1))
    → going levels ts stack (states.ArrowFirst base start x) i ≡ going levels ts (frames.Arguments (arrow_of base start x) [] ∷ stack) states.Operand i
unfolding move
first_value levels ts stack base start x i few takes plain = elim (named_or_not ts i) [
  | inl named ↦
      let v : Name = named.0 in
      let it : Iterated = iterated_of base start x v in
      let within : List Frame = frames.Arguments (arrow_of base start x) [] ∷ stack in
      let one = step levels ts (symbols.Name v) i stack stack (states.ArrowFirst base start x) (states.ArrowSecond it) refl named.1 refl (omega (arith, few)) in
      let other = step levels ts (symbols.Name v) i within within states.Operand (states.Path (path_of v)) refl named.1 refl (omega (arith, few)) in
      let same = same_here levels ts (i + 1) stack within (states.ArrowSecond it) (states.Path (path_of v))
      (λ s span h. second_moves stack it s span takes (not_typing ts (i + 1) s (plain v named.1) h)) in
      one ∙ same ∙ sym other
  | inr none ↦ same_here levels ts i stack (frames.Arguments (arrow_of base start x) [] ∷ stack) (states.ArrowFirst base start x) states.Operand
      (λ s span h. first_moves stack base start x s span takes (not_named ts i s none h))
]
