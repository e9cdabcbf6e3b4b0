-- Symbols in a call: behind `.`, behind `->`, and in the parentheses of an iterator or of a class.
use Rattle.std.proofs.Common.{◌≡◌, ℕ, ◌+◌, ◌-◌, ◌≤◌, false, nat_lt, if◌then◌else◌, List, [], ◌∷◌, length, None, ap, sym, refl, subst, arith}
use Rattle.std.specs.Prelude.{codes}
use Rattle.ql_lex.specs.Lexed.{Lexeme}
use Rattle.qv_syntax.specs.declared.name.Name.{Name}
use Rattle.qv_syntax.specs.declared.name.Path.{Path}
use Rattle.qv_syntax.specs.declared.expr.Args.TheVariants as args
use Rattle.ocl_parser.specs.Grammar.{takes_class}
use Rattle.ocl_parser.specs.Moves.{refused, path_of, operand, on_path, on_arrow_parenthesis, arrow_first, arrow_second, arrow_call, class_path}
use Rattle.ql_lex.specs.declared.symbol.Symbol.{Symbol}
use Rattle.ql_lex.specs.declared.symbol.Symbol.TheVariants as symbols
use Rattle.ocl_parser.specs.declared.frame.Base.{Base}
use Rattle.ocl_parser.specs.declared.frame.Before.TheVariants as before
use Rattle.ocl_parser.specs.declared.frame.CallHead.{CallHead}
use Rattle.ocl_parser.specs.declared.frame.Iterated.{Iterated}
use Rattle.ocl_parser.specs.declared.frame.Frame.{Frame}
use Rattle.ocl_parser.specs.declared.frame.Frame.TheVariants as frames
use Rattle.ocl_parser.proofs.HeadLaws.{untyped_spelled, variable_spelled}
use Rattle.ocl_parser.proofs.StepLaws.{class_spelled}
use Rattle.ocl_parser.proofs.SoundStacks.{here, IsNamed, StepAt, PathAt, CallOpenAt, ClassPathAt, IteratorAt, Holds}
use Rattle.ocl_parser.proofs.SoundReduced.{floor_most, chosen}
use Rattle.ocl_parser.proofs.SoundParts.{called_with, path_one}
use Rattle.ocl_parser.proofs.SoundOperands.{operand_fits, path_fits, path_spelled}
use Rattle.std.proofs.lemmas.Bool.{ltb-true}
use Rattle.ocl_parser.proofs.SoundMoves.{Fits, IsAt, room}

pub arrow_parenthesis_fits : (ts : List Lexeme) (from levels : ℕ) (stack : List Frame) (base : Base) (start : ℕ) (name : Name) (s : Symbol) (a b n : ℕ)
    → Holds ts from levels stack a n
    → StepAt ts n (codes "->") base start name a b → IsAt ts b s → Fits ts from levels b (on_arrow_parenthesis stack base start name s)
arrow_parenthesis_fits ts from levels stack base start name symbols.OpenParenthesis a b n h r e =
    λ ltb-true. record {
      a = a;
      n = n;
      below = h;
      read = record {
        m = n - 1;
        level = room ts from levels stack a n h (omega (arith, ltb-true));
        at = b;
        call = r;
        opens = e;
        end = refl;
      };
    }
arrow_parenthesis_fits ts from levels stack base start name s a b n h r e = tt

-- ---- a class in parentheses

class_closes : (ts : List Lexeme) (from levels : ℕ) (stack : List Frame) (called : CallHead) (p : Path) (a b n : ℕ) → Holds ts from levels stack a n
    → ClassPathAt ts called (λ f. PathAt ts 2 p f b) n a
    → IsAt ts b symbols.CloseParenthesis → Fits ts from levels b (class_path stack called p symbols.CloseParenthesis (here ts b))
class_closes ts from levels stack called p a b n h r e =
    let c = r.call.call in
    let whole = class_spelled ts called.name.text p n c.m c.at r.from b (b + 1) r.call.class c.level c.opens c.end (path_spelled ts 2 p r.from b r.path) e refl in
    λ _. record { a = a; n = n; below = h; read = called_with ts n called (args.Class p) a c.at (b + 1) b c.call whole refl }

pub class_path_fits : (ts : List Lexeme) (from levels : ℕ) (stack : List Frame) (called : CallHead) (p : Path) (s : Symbol) (a b n : ℕ) → Holds ts from levels stack a n
    → ClassPathAt ts called (λ f. PathAt ts 2 p f b) n a
    → IsAt ts b s → Fits ts from levels b (class_path stack called p s (here ts b))
class_path_fits ts from levels stack called p symbols.DoubleColon a b n h r e = chosen (Fits ts from levels b) (nat_lt (length p.names) 2) _ _
    (λ less. λ _. record {
      a = a;
      n = n;
      below = h;
      read = record { from = r.from; call = r.call; path = record { at = b; room = ltb-true (length p.names) 2 less; shorter = r.path; sign = e; end = refl } };
    })
    (λ _. tt)
class_path_fits ts from levels stack called p symbols.CloseParenthesis a b n h r e = class_closes ts from levels stack called p a b n h r e
class_path_fits ts from levels stack called p s a b n h r e = tt

-- ---- behind `->name(`

abbrev arrow_of : Base → ℕ → Name → CallHead
arrow_of base start name = record { before = before.Arrow base start; name = name }

-- what is read there is an argument
arguments_open : (ts : List Lexeme) (from levels : ℕ) (stack : List Frame) (called : CallHead) (a b n : ℕ) → Holds ts from levels stack a n
    → (r : CallOpenAt ts called n a b) → takes_class called.name.text ≡ false
    → Holds ts from levels (frames.Arguments called [] ∷ stack) b r.m
arguments_open ts from levels stack called a b n h r plain = record {
  a = a;
  n = n;
  below = h;
  fits = floor_most stack;
  frame = record { level = r.level; at = r.at; call = r.call; plain = plain; opens = r.opens; list = r.end };
}

argument_first : (ts : List Lexeme) (from levels : ℕ) (stack : List Frame) (base : Base) (start : ℕ) (name : Name) (s : Symbol) (a b n : ℕ)
    → Holds ts from levels stack a n → CallOpenAt ts (arrow_of base start name) n a b
    → IsAt ts b s
    → Fits ts from levels b (if takes_class name.text then refused stack else operand (frames.Arguments (arrow_of base start name) [] ∷ stack) s (here ts b))
argument_first ts from levels stack base start name s a b n h r e = chosen (Fits ts from levels b) (takes_class name.text) _ _
    (λ _. tt)
    (λ plain. operand_fits ts from levels (frames.Arguments (arrow_of base start name) [] ∷ stack) s b r.m
    (arguments_open ts from levels stack (arrow_of base start name) a b n h r plain) e)

pub arrow_first_fits : (ts : List Lexeme) (from levels : ℕ) (stack : List Frame) (base : Base) (start : ℕ) (name : Name) (s : Symbol) (a b n : ℕ)
    → Holds ts from levels stack a n
    → CallOpenAt ts (arrow_of base start name) n a b → IsAt ts b s → Fits ts from levels b (arrow_first stack base start name s (here ts b))
arrow_first_fits ts from levels stack base start name (symbols.Name variable) a b n h r e = λ _. record {
  a = a;
  n = n;
  below = h;
  read =
      record {
        m = r.m;
        level = r.level;
        variable = record {
          at = r.at;
          step = r.call;
          opens = r.opens;
          variable = subst (IsNamed ts variable) r.end e;
          end = ap (λ (x : ℕ). x + 1) r.end;
        };
      };
}
arrow_first_fits ts from levels stack base start name s a b n h r e = argument_first ts from levels stack base start name s a b n h r e

-- ---- behind `->name(variable`

-- what was read there as a variable is a call's `(` and a name
call_open : (ts : List Lexeme) (it : Iterated) (n a b : ℕ) → (r : IteratorAt ts it n a b) → CallOpenAt ts (arrow_call it) n a (r.variable.at + 1)
call_open ts it n a b r = record { m = r.m; level = r.level; at = r.variable.at; call = r.variable.step; opens = r.variable.opens; end = refl }

name_path : (ts : List Lexeme) (most : ℕ) (it : Iterated) (n a b : ℕ) → 1 ≤ most → (r : IteratorAt ts it n a b)
    → PathAt ts most (path_of it.variable) (r.variable.at + 1) b
name_path ts most it n a b some r =
    let v = r.variable in
    subst (λ (x : ℕ). PathAt ts most (path_of it.variable) (v.at + 1) x) (sym v.end) (path_one ts most it.variable (v.at + 1) some v.variable)

argument_second : (ts : List Lexeme) (from levels : ℕ) (stack : List Frame) (it : Iterated) (s : Symbol) (a b n : ℕ) → Holds ts from levels stack a n
    → IteratorAt ts it n a b → IsAt ts b s
    → Fits ts from levels b (if takes_class it.name.text then class_path stack (arrow_call it) (path_of it.variable) s (here ts b) else on_path
    (frames.Arguments (arrow_call it) [] ∷ stack) (path_of it.variable) s (here ts b))
argument_second ts from levels stack it s a b n h r e =
    let c = call_open ts it n a b r in
    chosen (Fits ts from levels b) (takes_class it.name.text) _ _
    (λ class. class_path_fits ts from levels stack (arrow_call it) (path_of it.variable) s a b n h
    (record { from = r.variable.at + 1; call = record { call = c; class = class }; path = name_path ts 2 it n a b (omega arith) r }) e)
    (λ plain. path_fits ts from levels (frames.Arguments (arrow_call it) [] ∷ stack) (path_of it.variable) s (r.variable.at + 1) b c.m
    (arguments_open ts from levels stack (arrow_call it) a (r.variable.at + 1) n h c plain) (name_path ts 3 it n a b (omega arith) r) e)

pub arrow_second_fits : (ts : List Lexeme) (from levels : ℕ) (stack : List Frame) (it : Iterated) (s : Symbol) (a b n : ℕ) → Holds ts from levels stack a n
    → IteratorAt ts it n a b → IsAt ts b s
    → Fits ts from levels b (arrow_second stack it s (here ts b))
arrow_second_fits ts from levels stack it symbols.Colon a b n h r e = λ _. (
  r.m,
  record {
    a = a;
    n = n;
    below = h;
    fits = floor_most stack;
    frame = record { level = r.level; at = b; variable = r.variable; colon = e; end = refl };
  },
)
arrow_second_fits ts from levels stack it symbols.Bar a b n h r e =
    let v = r.variable in
    λ _. (
      r.m,
      record {
        a = a;
        n = n;
        below = h;
        fits = floor_most stack;
        frame = record {
          level = r.level;
          at = v.at;
          step = v.step;
          variable = variable_spelled ts it.variable None r.m v.at (v.at + 1) b b (b + 1) v.opens refl v.variable v.end (untyped_spelled ts r.m b) e refl;
        };
      },
    )
arrow_second_fits ts from levels stack it s a b n h r e = argument_second ts from levels stack it s a b n h r e
