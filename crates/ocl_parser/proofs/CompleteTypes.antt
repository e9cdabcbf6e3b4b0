-- The tokens of a path, of a class between parentheses and of a type lead to it.
use Rattle.std.proofs.Common.{◌≡◌, ℕ, ◌+◌, ◌<◌, ◌≤◌, Bool, true, false, nat_lt, List, [], ◌∷◌, length, Some, ap, sym, ◌∙◌, refl, subst, arith}
use Rattle.std.specs.Prelude.{codes}
use Rattle.std.proofs.lemmas.Bool.Decides.{nat_tests}
use Rattle.mof_metamodel.specs.declared.span.Span.{Span}
use Rattle.ql_lex.specs.Lexed.{Lexeme}
use Rattle.qv_syntax.specs.declared.name.Name.{Name}
use Rattle.qv_syntax.specs.declared.name.Path.{Path}
use Rattle.qv_syntax.specs.declared.type_tree.Kind.{Kind}
use Rattle.qv_syntax.specs.declared.type_tree.TypeTree.{TypeTree, fold-roll-TypeTree, roll-TypeTree, map-TypeTree, ind-TypeTree}
use Rattle.qv_syntax.specs.declared.type_tree.TypeTree.TheOpen as types
use Rattle.qv_syntax.specs.declared.type_tree.TypeTree.TheVariants.{Str, Int, Bool as Boolean, Named, Coll, rolls-Str, rolls-Int, rolls-Bool, rolls-Named, rolls-Coll}
use Rattle.ocl_parser.specs.Pieces.{Piece, ◌▸◌, word, sign, nested, spanned}
use Rattle.ql_lex.specs.Lexemes.{is_sign, is_word, span_at}
use Rattle.ocl_parser.specs.Grammar.{class_path as class_piece, named_path, kind_word, type_of, type_step}
use Rattle.ocl_parser.specs.Moves.{move, to, from_to, path_by, plain_type, type_end, open_levels}
use Rattle.ql_lex.specs.declared.symbol.Symbol.{Symbol}
use Rattle.ql_lex.specs.declared.symbol.Symbol.TheVariants as symbols
use Rattle.ql_lex.specs.declared.symbol.PlainType.{PlainType}
use Rattle.ql_lex.specs.declared.symbol.PlainType.TheVariants as plain
use Rattle.ocl_parser.specs.declared.frame.CallHead.{CallHead}
use Rattle.ocl_parser.specs.declared.frame.Frame.{Frame}
use Rattle.ocl_parser.specs.declared.frame.Frame.TheVariants as frames
use Rattle.ocl_parser.specs.declared.state.State.{State}
use Rattle.ocl_parser.specs.declared.state.State.TheVariants as states
use Rattle.ocl_parser.proofs.SymbolLaws.{plain_word}
use Rattle.ocl_parser.proofs.CompleteRuns.{going, step}
use Rattle.ocl_parser.proofs.CompletePieces.{parts, taken, at_span, within}
use Rattle.ocl_parser.proofs.CompletePaths.{Extends, path_read}

-- ---- paths

colons_by : (ns : List Name) (stack : List Frame) (p : Path) (span : Span) → length ns < 3 → path_by ns stack p symbols.DoubleColon span ≡ to stack (states.PathName p)
colons_by [] stack p span few = refl
colons_by (x ∷ []) stack p span few = refl
colons_by (x ∷ y ∷ ns) stack p span few =
    let test : nat_lt (length (x ∷ y ∷ ns)) 3 ≡ true = grind (arith, nat_tests) in
    rw test refl

-- a path goes on with one more name: in an expression, in a type, and as the class that is the argument of a call
pub path_extends : (levels : ℕ) (stack : List Frame) → open_levels stack ≤ levels → Extends levels 3 stack states.Path states.PathName
unfolding move
path_extends levels stack few = record {
  colons = λ p span more. colons_by p.names stack p span more;
  named = λ p x span. refl;
  few = λ p. omega arith;
  few_next = λ p. omega arith;
}

pub type_extends : (levels : ℕ) (stack : List Frame) → open_levels stack ≤ levels → Extends levels 2 stack states.TypePath states.TypeName
unfolding move
type_extends levels stack few = record {
  colons = λ p span more. (let test : nat_lt (length p.names) 2 ≡ true = grind (arith, nat_tests) in rw test refl);
  named = λ p x span. refl;
  few = λ p. omega arith;
  few_next = λ p. omega arith;
}

pub class_extends : (levels : ℕ) (stack : List Frame) (called : CallHead) → open_levels stack + 1 ≤ levels
    → Extends levels 2 stack (states.ClassPath called) (states.ClassNext called)
unfolding move
class_extends levels stack called few = record {
  colons = λ p span more. (let test : nat_lt (length p.names) 2 ≡ true = grind (arith, nat_tests) in rw test refl);
  named = λ p x span. refl;
  few = λ p. few;
  few_next = λ p. few;
}

-- the tokens of a path lead behind it
pub named_read : (levels : ℕ) (ts : List Lexeme) (stack : List Frame) (p : Path) (n i j : ℕ) → open_levels stack ≤ levels → named_path ts p n i ≡ Some j
    → (i < j) × (going levels ts stack states.Operand i ≡ going levels ts stack (states.Path p) j)
unfolding move
named_read levels ts stack p n i j few e = path_read levels 3 ts stack states.Operand states.Path states.PathName (path_extends levels stack few) (λ y span. refl) p n i
    j e

pub class_read : (levels : ℕ) (ts : List Lexeme) (stack : List Frame) (called : CallHead) (p : Path) (n i j : ℕ) → open_levels stack + 1 ≤ levels
    → class_piece ts p n i ≡ Some j
    → (i < j) × (going levels ts stack (states.ClassName called) i ≡ going levels ts stack (states.ClassPath called p) j)
unfolding move
class_read levels ts stack called p n i j few e =
    path_read levels 2 ts stack (states.ClassName called) (states.ClassPath called) (states.ClassNext called) (class_extends levels stack called few) (λ y span. refl) p
    n i j e

-- ---- types

-- the symbol that goes on with a path
abbrev pub is_colons : Symbol → Bool
is_colons symbols.DoubleColon = true
is_colons s = false

-- a state is behind a type
abbrev pub HoldsType : List Frame → State → TypeTree → Type 0
HoldsType stack state ty = (s : Symbol) (span : Span) → is_colons s ≡ false → move stack state s span ≡ type_end stack ty s span

pub record TypeReads (levels : ℕ) (ts : List Lexeme) (ty : TypeTree) (stack : List Frame) (i j : ℕ) : Type 0 where
  pub state : State
  pub further : i < j
  pub runs : going levels ts stack states.Type i ≡ going levels ts stack state j
  pub holds : HoldsType stack state ty

abbrev pub IsReadBy : Piece → List Lexeme → TypeTree → Type 0
IsReadBy p ts ty = (levels n i j : ℕ) (stack : List Frame) → open_levels stack + n ≤ levels → p n i ≡ Some j → TypeReads levels ts ty stack i j

type_ended : (stack : List Frame) (ty : TypeTree) → HoldsType stack (states.TypeEnd ty) ty
unfolding move
type_ended stack ty s span e = refl

type_pathed : (stack : List Frame) (p : Path) → HoldsType stack (states.TypePath p) (Named p)
unfolding move
type_pathed stack p symbols.DoubleColon span e = cc
type_pathed stack p s span e = refl

plain_reads : (ts : List Lexeme) (ty : PlainType) (span : Span) → IsReadBy (spanned ts span (word ts (plain_word ty))) ts (plain_type ty span)
unfolding move
plain_reads ts ty span levels n i j stack few e =
    let a = at_span ts span (word ts (plain_word ty)) n i j e in
    let b = taken (is_word (plain_word ty)) ts n i j a.0 in
    let at : span ≡ span_at ts i (i + 1) = a.1 ∙ ap (span_at ts i) b.1 in
    let one = step levels ts (symbols.Plain ty) i stack stack states.Type (states.TypeEnd (plain_type ty (span_at ts i (i + 1)))) refl b.0 refl (omega arith) in
    record {
      state = states.TypeEnd (plain_type ty span);
      further = omega (arith, b.1);
      runs = one ∙ ap (λ (s : Span). going levels ts stack (states.TypeEnd (plain_type ty s)) (i + 1)) (sym at)
          ∙ ap (going levels ts stack (states.TypeEnd (plain_type ty span))) (sym b.1);
      holds = type_ended stack (plain_type ty span);
    }

named_reads : (ts : List Lexeme) (p : Path) → IsReadBy (class_piece ts p) ts (Named p)
unfolding move
named_reads ts p levels n i j stack few e =
    let a = path_read levels 2 ts stack states.Type states.TypePath states.TypeName (type_extends levels stack (omega arith)) (λ y span. refl) p n i j e in
    record { state = states.TypePath p; further = a.0; runs = a.1; holds = type_pathed stack p }

from_ends : (ts : List Lexeme) (i j : ℕ) → from_to (span_at ts i (i + 1)).start (span_at ts j (j + 1)).end ≡ span_at ts i (j + 1)
unfolding span_at
from_ends ts i j = refl

abbrev between : List Lexeme → Piece → Piece
between ts q = sign ts (codes "(") ▸ q ▸ sign ts (codes ")")

coll_reads : (ts : List Lexeme) (kind : Kind) (t : TypeTree) (q : Piece) (span : Span) → IsReadBy q ts t
    → IsReadBy (spanned ts span (word ts (kind_word kind) ▸ nested (between ts q))) ts (Coll kind t span)
unfolding move
coll_reads ts kind t q span inner levels n i j stack few e =
    let a = at_span ts span (word ts (kind_word kind) ▸ nested (between ts q)) n i j e in
    let b = parts (word ts (kind_word kind)) (nested (between ts q)) n i j a.0 in
    let k : ℕ = b.0 in
    let kinds = taken (is_word (kind_word kind)) ts n i k b.1 in
    let c = within (between ts q) n k j b.2 in
    let m : ℕ = c.0 in
    let d = parts (sign ts (codes "(") ▸ q) (sign ts (codes ")")) m k j c.2 in
    let l : ℕ = d.0 in
    let f = parts (sign ts (codes "(")) q m k l d.1 in
    let o : ℕ = f.0 in
    let opens = taken (is_sign (codes "(")) ts m k o f.1 in
    let closes = taken (is_sign (codes ")")) ts m l j d.2 in
    let start : ℕ = (span_at ts i (i + 1)).start in
    let end : ℕ = (span_at ts l (l + 1)).end in
    let wider : List Frame = frames.OfKind start kind ∷ stack in
    let r = inner levels m o l wider (omega (arith, c.1, few)) f.2 in
    let one = step levels ts (symbols.Kind kind) i stack stack states.Type (states.TypeParenthesis start kind) refl kinds.0 refl (omega arith) in
    let two = step levels ts symbols.OpenParenthesis k stack wider (states.TypeParenthesis start kind) states.Type refl opens.0 refl (omega (arith, c.1, few)) in
    let three = step levels ts symbols.CloseParenthesis l wider stack r.state (states.TypeEnd (Coll kind t (from_to start end))) refl closes.0
    (r.holds symbols.CloseParenthesis (span_at ts l (l + 1)) refl) (omega arith) in
    let at : from_to start end ≡ span = from_ends ts i l ∙ ap (span_at ts i) (sym closes.1) ∙ sym a.1 in
    record {
      state = states.TypeEnd (Coll kind t span);
      further = omega (arith, kinds.1, opens.1, closes.1, r.further);
      runs = one ∙ ap (going levels ts stack (states.TypeParenthesis start kind)) (sym kinds.1) ∙ two ∙ ap (going levels ts wider states.Type) (sym opens.1) ∙ r.runs
          ∙ three
          ∙ ap (λ (s : Span). going levels ts stack (states.TypeEnd (Coll kind t s)) (l + 1)) at
          ∙ ap (going levels ts stack (states.TypeEnd (Coll kind t span))) (sym closes.1);
      holds = type_ended stack (Coll kind t span);
    }

-- the tokens of a type lead behind it
abbrev pub IsRead : TypeTree → Type 0
IsRead t = (ts : List Lexeme) → IsReadBy (type_of ts t) ts t

rolled : (ts : List Lexeme) (d : types.TypeTree-F TypeTree) (t : TypeTree) → roll-TypeTree d ≡ t
    → type_of ts t ≡ type_step ts (map-TypeTree TypeTree Piece (type_of ts) d)
unfolding type_of
rolled ts d t e = ap (type_of ts) (sym e) ∙ fold-roll-TypeTree Piece (type_step ts) d

by_rolled : (d : types.TypeTree-F TypeTree) (t : TypeTree) → roll-TypeTree d ≡ t
    → ((ts : List Lexeme) → IsReadBy (type_step ts (map-TypeTree TypeTree Piece (type_of ts) d)) ts t) → IsRead (roll-TypeTree d)
by_rolled d t e h = subst IsRead (sym e) (λ ts. subst (λ p. IsReadBy p ts t) (sym (rolled ts d t e)) (h ts))

layer_read : (y : types.TypeTree-F ((t : TypeTree) × IsRead t)) → IsRead (roll-TypeTree (map-TypeTree ((t : TypeTree) × IsRead t) TypeTree (λ x. x.0) y))
layer_read (types.Str span) = by_rolled (types.Str span) (Str span) (rolls-Str span) (λ ts. plain_reads ts plain.Str span)
layer_read (types.Int span) = by_rolled (types.Int span) (Int span) (rolls-Int span) (λ ts. plain_reads ts plain.Int span)
layer_read (types.Bool span) = by_rolled (types.Bool span) (Boolean span) (rolls-Bool span) (λ ts. plain_reads ts plain.Bool span)
layer_read (types.Named p) = by_rolled (types.Named p) (Named p) (rolls-Named p) (λ ts. named_reads ts p)
layer_read (types.Coll kind t span) = by_rolled (types.Coll kind t.0 span) (Coll kind t.0 span) (rolls-Coll kind t.0 span)
    (λ ts. coll_reads ts kind t.0 (type_of ts t.0) span (t.1 ts))

pub type_read : (t : TypeTree) → IsRead t
type_read = ind-TypeTree IsRead (λ x y is. subst (λ z. IsRead (roll-TypeTree z)) is (layer_read y))
