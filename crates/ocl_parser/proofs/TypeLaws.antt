-- The tokens of a type as it is written, form by form.
use Rattle.std.proofs.Common.{◌≡◌, ℕ, ◌+◌, true, List, Some, ap, sym, ◌∙◌, refl}
use Rattle.std.specs.Prelude.{codes}
use Rattle.mof_metamodel.specs.declared.span.Span.{Span}
use Rattle.ql_lex.specs.Lexed.{Lexeme}
use Rattle.qv_syntax.specs.declared.name.Path.{Path}
use Rattle.qv_syntax.specs.declared.type_tree.Kind.{Kind}
use Rattle.qv_syntax.specs.declared.type_tree.TypeTree.{TypeTree, fold-roll-TypeTree, roll-TypeTree, map-TypeTree}
use Rattle.qv_syntax.specs.declared.type_tree.TypeTree.TheOpen as types
use Rattle.qv_syntax.specs.declared.type_tree.TypeTree.TheVariants.{Str, Int, Bool, Named, Coll, rolls-Str, rolls-Int, rolls-Bool, rolls-Named, rolls-Coll}
use Rattle.ocl_parser.specs.Pieces.{Piece}
use Rattle.ql_lex.specs.Lexemes.{stands, is_sign, is_word, span_at}
use Rattle.ocl_parser.specs.Grammar.{path, kind_word, type_of, type_step}
use Rattle.ql_lex.proofs.TokenLaws.{same_span}
use Rattle.ocl_parser.proofs.PieceLaws.{nested_at}

rolled : (ts : List Lexeme) (d : types.TypeTree-F TypeTree) (t : TypeTree) → roll-TypeTree d ≡ t → type_of ts t ≡ type_step ts (map-TypeTree TypeTree Piece (type_of ts) d)
unfolding type_of
rolled ts d t e = ap (type_of ts) (sym e) ∙ fold-roll-TypeTree Piece (type_step ts) d

pub type_str : (ts : List Lexeme) (n i : ℕ) → stands (is_word (codes "String")) ts i ≡ true → type_of ts (Str (span_at ts i (i + 1))) n i ≡ Some (i + 1)
type_str ts n i e = ap (λ (p : Piece). p n i) (rolled ts (types.Str (span_at ts i (i + 1))) (Str (span_at ts i (i + 1))) (rolls-Str (span_at ts i (i + 1)))) ∙ rw (e, same_span (span_at ts i (i + 1))) refl

pub type_int : (ts : List Lexeme) (n i : ℕ) → stands (is_word (codes "Integer")) ts i ≡ true → type_of ts (Int (span_at ts i (i + 1))) n i ≡ Some (i + 1)
type_int ts n i e = ap (λ (p : Piece). p n i) (rolled ts (types.Int (span_at ts i (i + 1))) (Int (span_at ts i (i + 1))) (rolls-Int (span_at ts i (i + 1)))) ∙ rw (e, same_span (span_at ts i (i + 1))) refl

pub type_bool : (ts : List Lexeme) (n i : ℕ) → stands (is_word (codes "Boolean")) ts i ≡ true → type_of ts (Bool (span_at ts i (i + 1))) n i ≡ Some (i + 1)
type_bool ts n i e = ap (λ (p : Piece). p n i) (rolled ts (types.Bool (span_at ts i (i + 1))) (Bool (span_at ts i (i + 1))) (rolls-Bool (span_at ts i (i + 1)))) ∙ rw (e, same_span (span_at ts i (i + 1))) refl

pub type_named : (ts : List Lexeme) (p : Path) (n i j : ℕ) → ((m : ℕ) → path ts 2 p m i ≡ Some j) → type_of ts (Named p) n i ≡ Some j
type_named ts p n i j e = ap (λ (q : Piece). q n i) (rolled ts (types.Named p) (Named p) (rolls-Named p)) ∙ e n

pub type_coll : (ts : List Lexeme) (kind : Kind) (t : TypeTree) (span : Span) (n m i j k l : ℕ) → stands (is_word (kind_word kind)) ts i ≡ true → stands (is_sign (codes "(")) ts (i + 1) ≡ true → j ≡ i + 1 + 1 → n ≡ m + 1
    → type_of ts t m j ≡ Some k → stands (is_sign (codes ")")) ts k ≡ true → l ≡ k + 1 → span ≡ span_at ts i l → type_of ts (Coll kind t span) n i ≡ Some l
type_coll ts kind t span n m i j k l word opens first level inner closes last at =
    ap (λ (p : Piece). p n i) (rolled ts (types.Coll kind t span) (Coll kind t span) (rolls-Coll kind t span))
    ∙ rw (level, word, nested_at, opens, ← first, inner, closes, ← last, at, same_span (span_at ts i l)) refl
