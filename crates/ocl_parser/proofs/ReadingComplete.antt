-- What is spelled is read: single tokens, paths and types.
use Rattle.std.proofs.Common.{◌≡◌, ℕ, ◌+◌, ◌-◌, ◌<◌, Bool, true, false, ◌&&◌, nat_lt, nat_le, List, [], ◌∷◌, length, map, slice_get, Option, Some, None, Ok, ap, sym, ◌∙◌, refl, subst, arith}
use Rattle.std.specs.Prelude.{codes, ◌==◌}
use Rattle.std.specs.Option.{option_map_or}
use Rattle.std.specs.Str.{bytes_eq}
use Rattle.std.proofs.lemmas.Bool.Decides.{nat_tests}
use Rattle.std.proofs.lemmas.Slice.Eq.{bytes_eq-Decides}
use Rattle.mof_metamodel.specs.declared.span.Span.{Span}
use Rattle.qv_syntax.specs.declared.expr.Expr.{Expr}
use Rattle.qv_syntax.specs.declared.name.Name.{Name}
use Rattle.qv_syntax.specs.declared.name.Path.{Path}
use Rattle.qv_syntax.specs.declared.type_tree.Kind.{Kind}
use Rattle.qv_syntax.specs.declared.type_tree.TypeTree.{TypeTree, roll-TypeTree, map-TypeTree, ind-TypeTree, fold-roll-TypeTree}
use Rattle.qv_syntax.specs.declared.type_tree.TypeTree.TheOpen as types
use Rattle.qv_syntax.specs.declared.type_tree.TypeTree.TheVariants.{Str, Int, Bool as Boolean, Named, Coll, rolls-Str, rolls-Int, rolls-Bool, rolls-Named, rolls-Coll}
use Rattle.ql_lex.specs.Lexed.{Lexeme}
use Rattle.ql_lex.specs.Lexemes.{end_of, is_name, is_same_span, is_sign, is_word, name_text, span_at, stands, start_of}
use Rattle.ql_lex.specs.Symbols.{terminal_of}
use Rattle.ql_lex.specs.declared.symbol.Symbol.{Symbol}
use Rattle.ql_lex.specs.declared.symbol.Symbol.TheVariants as symbols
use Rattle.ql_lex.specs.declared.symbol.PlainType.{PlainType}
use Rattle.ql_lex.specs.declared.symbol.PlainType.TheVariants as plain
use Rattle.ocl_parser.specs.Followers.{follows}
use Rattle.ocl_parser.specs.Pieces.{Piece, ◌▸◌, each, name, nested, only, separated, sign, spanned, token, word}
use Rattle.ocl_parser.specs.Grammar.{class_path, kind_word, names, path, spelled, type_of, type_step}
use Rattle.ocl_parser.specs.Moves.{from_to, plain_type}
use Rattle.ocl_parser.specs.Readings.{Read, elements_read, expr_read, name_by, name_read, opening_read, path_read, read_by, sign_read, token_read, type_by, type_read, word_read}
use Rattle.ocl_parser.proofs.SymbolLaws.{is_told, plain_word, symbol_is, test_of}
use Rattle.ocl_parser.proofs.CompleteRuns.{span_of, there}
use Rattle.ocl_parser.proofs.CompletePaths.{name_span}
use Rattle.ocl_parser.proofs.CompletePieces.{at_span, bracketed, held, parts, same_spans, taken, within}
use Rattle.std.proofs.lemmas.Bool.{and_parts}
use Rattle.ocl_parser.proofs.SoundParts.{name_spans}
use Rattle.ocl_parser.proofs.ReadingLaws.{type_unrolled}
use Rattle.ocl_parser.proofs.Local.{spelled_end}
use Rattle.ocl_parser.proofs.FollowLaws.{tree_before}
use Rattle.ocl_parser.proofs.TokenApart.{apart_at, signs_apart}

-- a value is read from one number up to another
pub record Reads {A : Type 0} (reader : ℕ → Read A) (value : A) (i j : ℕ) : Type 0 where
  pub read : reader i ≡ Ok (value, j)
  pub further : i < j

-- ---- single tokens

pub token_reads : (passes : Lexeme → Bool) (ts : List Lexeme) (n i j : ℕ) → token passes ts n i ≡ Some j → (token_read passes ts i ≡ Ok j) × (j ≡ i + 1)
token_reads passes ts n i j e =
    let a = taken passes ts n i j e in
    (rw a.0 (ap (λ (k : ℕ). Ok k) (sym a.1)), a.1)

pub sign_reads : (ts : List Lexeme) (text : List ℕ) (n i j : ℕ) → sign ts text n i ≡ Some j → (sign_read ts text i ≡ Ok j) × (j ≡ i + 1)
sign_reads ts text n i j e = token_reads (is_sign text) ts n i j e

pub word_reads : (ts : List Lexeme) (text : List ℕ) (n i j : ℕ) → word ts text n i ≡ Some j → (word_read ts text i ≡ Ok j) × (j ≡ i + 1)
word_reads ts text n i j e = token_reads (is_word text) ts n i j e

named : (x : Name) (l : Lexeme) → is_name x l ≡ true → (o : Option (List ℕ)) → name_text l.token.kind l.text ≡ o → (i : ℕ) → name_by l i o ≡ Ok (x, i + 1)
named x l e (Some text) t i =
    let b = and_parts (option_map_or (bytes_eq x.text) (name_text l.token.kind l.text) false) (is_same_span l.token.span x.span) e in
    let same : bytes_eq x.text text ≡ true = rw t at b.0 in
    ap (λ (y : List ℕ). Ok (record { text = y; span = l.token.span }, i + 1)) (sym ((bytes_eq-Decides x.text text).0 same))
    ∙ ap (λ (s : Span). Ok (record { text = x.text; span = s }, i + 1)) (same_spans l.token.span x.span b.1)
named x l e None t i =
    let b = and_parts (option_map_or (bytes_eq x.text) (name_text l.token.kind l.text) false) (is_same_span l.token.span x.span) e in
    let none : false ≡ true = rw t at b.0 in
    cc

pub name_stands_reads : (ts : List Lexeme) (x : Name) (i : ℕ) → stands (is_name x) ts i ≡ true → name_read ts i ≡ Ok (x, i + 1)
unfolding name_read
name_stands_reads ts x i e =
    let t = there (is_name x) ts i e in
    rw t.1 (named x t.0 t.2 (name_text t.0.token.kind t.0.text) refl i)

pub name_reads : (ts : List Lexeme) (x : Name) (n i j : ℕ) → name ts x n i ≡ Some j → (name_read ts i ≡ Ok (x, j)) × (j ≡ i + 1)
name_reads ts x n i j e =
    let a = taken (is_name x) ts n i j e in
    (name_stands_reads ts x i a.0 ∙ ap (λ (k : ℕ). Ok (x, k)) (sym a.1), a.1)

-- a piece between brackets, a level further in
pub record Braced (ts : List Lexeme) (opener closer : List ℕ) (p : Piece) (n i j : ℕ) : Type 0 where
  pub inside : ℕ
  pub close : ℕ
  pub less : n - 1 ≡ inside
  pub some : n ≡ inside + 1
  pub opens : opening_read ts opener n i ≡ Ok (i + 1)
  pub opening : stands (is_sign opener) ts i ≡ true
  pub inner : p inside (i + 1) ≡ Some close
  pub closing : stands (is_sign closer) ts close ≡ true
  pub closes : sign_read ts closer close ≡ Ok j
  pub end : j ≡ close + 1

pub braced : (ts : List Lexeme) (opener closer : List ℕ) (p : Piece) (n i j : ℕ) → nested (sign ts opener ▸ p ▸ sign ts closer) n i ≡ Some j → Braced ts opener closer p n i j
braced ts opener closer p n i j e =
    let c = within (sign ts opener ▸ p ▸ sign ts closer) n i j e in
    let d = bracketed (is_sign opener) (is_sign closer) ts p c.0 i j c.2 in
    let some : (n == 0) ≡ false = grind (arith, nat_tests, c.1) in
    record {
      inside = c.0;
      close = d.0;
      less = omega (arith, c.1);
      some = c.1;
      opens = rw (d.1, some) refl;
      opening = d.1;
      inner = d.2;
      closing = d.3;
      closes = rw d.3 (ap (λ (k : ℕ). Ok k) (sym d.4));
      end = d.4;
    }

-- ---- paths

same_some : (a b : ℕ) → Option.Some a ≡ Some b → a ≡ b
same_some a b e = cc

one_name : (ts : List Lexeme) (x : Name) (span : Span) (i j : ℕ) → stands (is_name x) ts i ≡ true → j ≡ i + 1 → span ≡ span_at ts i j → stands (is_sign (codes "::")) ts j ≡ false
    → path_read ts i ≡ Ok (record { names = x ∷ []; span = span }, j)
unfolding path_read
one_name ts x span i j e next at last =
    let here : stands (is_sign (codes "::")) ts (i + 1) ≡ false = rw next at last in
    let is : x.span ≡ span = name_span ts x i e ∙ ap (span_at ts i) (sym next) ∙ sym at in
    rw (name_stands_reads ts x i e, here) (ap (λ (s : Span). Ok (record { names = x ∷ []; span = s }, i + 1)) is ∙ ap (λ (k : ℕ). Ok (record { names = x ∷ []; span = span }, k)) (sym next))

two_names : (ts : List Lexeme) (x y : Name) (span : Span) (i j : ℕ) → stands (is_name x) ts i ≡ true → stands (is_sign (codes "::")) ts (i + 1) ≡ true → stands (is_name y) ts (i + 1 + 1) ≡ true
    → j ≡ i + 1 + 1 + 1 → span ≡ span_at ts i j → path_read ts i ≡ Ok (record { names = x ∷ y ∷ []; span = span }, j)
unfolding path_read span_at
two_names ts x y span i j e colons f next at =
    let starts = (name_spans ts x i e).starts in
    let ends = (name_spans ts y (i + 1 + 1) f).ends in
    let before : j - 1 ≡ i + 1 + 1 = omega (arith, next) in
    let is : from_to x.span.start y.span.end ≡ span = ap (λ (k : ℕ). from_to k y.span.end) starts ∙ ap (λ (k : ℕ). from_to (start_of ts i) k) ends
    ∙ ap (λ (k : ℕ). from_to (start_of ts i) (end_of ts k)) (sym before) ∙ sym at in
    rw (name_stands_reads ts x i e, colons, name_stands_reads ts y (i + 1 + 1) f)
    (ap (λ (s : Span). Ok (record { names = x ∷ y ∷ []; span = s }, i + 1 + 1 + 1)) is ∙ ap (λ (k : ℕ). Ok (record { names = x ∷ y ∷ []; span = span }, k)) (sym next))

pub path_begins : (ts : List Lexeme) (p : Path) (n i j : ℕ) → class_path ts p n i ≡ Some j → (x : Name) × (stands (is_name x) ts i ≡ true)
unfolding path names separated
path_begins ts p n i j e = by p.names (at_span ts p.span (only (nat_lt 0 (length p.names) && nat_le (length p.names) 2) (names ts p.names)) n i j e).0
  where
    by : (ns : List Name) → only (nat_lt 0 (length ns) && nat_le (length ns) 2) (names ts ns) n i ≡ Some j → (x : Name) × (stands (is_name x) ts i ≡ true)
    by [] h = cc
    by (x ∷ ns) h =
        let b = held (nat_lt 0 (length (x ∷ ns)) && nat_le (length (x ∷ ns)) 2) (names ts (x ∷ ns)) n i j h in
        let c = parts (name ts x) (each (map (λ q. sign ts (codes "::") ▸ q) (map (name ts) ns))) n i j b.1 in
        (x, (taken (is_name x) ts n i c.0 c.1).0)

pub path_reads : (ts : List Lexeme) (p : Path) (n i j : ℕ) → class_path ts p n i ≡ Some j → stands (is_sign (codes "::")) ts j ≡ false → Reads (path_read ts) p i j
unfolding path names separated each
path_reads ts p n i j e last =
    let a = at_span ts p.span (only (nat_lt 0 (length p.names) && nat_le (length p.names) 2) (names ts p.names)) n i j e in
    by p.names a.0 a.1
  where
    by : (ns : List Name) → only (nat_lt 0 (length ns) && nat_le (length ns) 2) (names ts ns) n i ≡ Some j → p.span ≡ span_at ts i j → Reads (path_read ts) (record { names = ns; span = p.span }) i j
    by [] h at = cc
    by (x ∷ []) h at =
        let b = held (nat_lt 0 (length (x ∷ [])) && nat_le (length (x ∷ [])) 2) (names ts (x ∷ [])) n i j h in
        let c = parts (name ts x) (each []) n i j b.1 in
        let d = taken (is_name x) ts n i c.0 c.1 in
        let end = same_some c.0 j c.2 in
        let next : j ≡ i + 1 = omega (arith, end, d.1) in
        record { read = one_name ts x p.span i j d.0 next at last; further = omega (arith, next) }
    by (x ∷ y ∷ []) h at =
        let b = held (nat_lt 0 (length (x ∷ y ∷ [])) && nat_le (length (x ∷ y ∷ [])) 2) (names ts (x ∷ y ∷ [])) n i j h in
        let c = parts (name ts x) (each ((sign ts (codes "::") ▸ name ts y) ∷ [])) n i j b.1 in
        let d = taken (is_name x) ts n i c.0 c.1 in
        let f = parts (sign ts (codes "::") ▸ name ts y) (each []) n c.0 j c.2 in
        let g = parts (sign ts (codes "::")) (name ts y) n c.0 f.0 f.1 in
        let s = taken (is_sign (codes "::")) ts n c.0 g.0 g.1 in
        let t = taken (is_name y) ts n g.0 f.0 g.2 in
        let end = same_some f.0 j f.2 in
        let colons : stands (is_sign (codes "::")) ts (i + 1) ≡ true = ap (stands (is_sign (codes "::")) ts) (sym d.1) ∙ s.0 in
        let third : g.0 ≡ i + 1 + 1 = omega (arith, d.1, s.1) in
        let second : stands (is_name y) ts (i + 1 + 1) ≡ true = ap (stands (is_name y) ts) (sym third) ∙ t.0 in
        let next : j ≡ i + 1 + 1 + 1 = omega (arith, end, t.1, third) in
        record { read = two_names ts x y p.span i j d.0 colons second next at; further = omega (arith, next) }
    by (x ∷ y ∷ z ∷ ns) h at =
        let b = held (nat_lt 0 (length (x ∷ y ∷ z ∷ ns)) && nat_le (length (x ∷ y ∷ z ∷ ns)) 2) (names ts (x ∷ y ∷ z ∷ ns)) n i j h in
        let c = and_parts (nat_lt 0 (length (x ∷ y ∷ z ∷ ns))) (nat_le (length (x ∷ y ∷ z ∷ ns)) 2) b.0 in
        absurd (grind (arith, nat_tests, c.1))

-- ---- types

-- what follows goes on with no path
abbrev pub Follows : List Lexeme → ℕ → Type 0
Follows ts j = stands (is_sign (codes "::")) ts j ≡ false

terminal_is : (ts : List Lexeme) (i : ℕ) (s : Symbol) → is_told s ≡ true → stands (test_of s) ts i ≡ true → terminal_of (slice_get ts i) ≡ record { symbol = s; span = span_at ts i (i + 1) }
terminal_is ts i s told e =
    let t = there (test_of s) ts i e in
    let l : Lexeme = t.0 in
    ap terminal_of t.1 ∙ ap (λ (x : Symbol). record { symbol = x; span = l.token.span }) (symbol_is s l told t.2) ∙ ap (λ (x : Span). record { symbol = s; span = x }) (sym (span_of ts i l t.1))

abbrev IsRead : Piece → List Lexeme → TypeTree → Type 0
IsRead p ts ty = (n i j : ℕ) → p n i ≡ Some j → Follows ts j → Reads (type_read ts n) ty i j

plain_reads : (ts : List Lexeme) (ty : PlainType) (span : Span) → IsRead (spanned ts span (word ts (plain_word ty))) ts (plain_type ty span)
plain_reads ts ty span n i j e last =
    let a = at_span ts span (word ts (plain_word ty)) n i j e in
    let b = taken (is_word (plain_word ty)) ts n i j a.0 in
    let at : span_at ts i (i + 1) ≡ span = ap (span_at ts i) (sym b.1) ∙ sym a.1 in
    record {
      read = sym (type_unrolled ts n i) ∙ ap (type_by ts (type_read ts (n - 1)) n i) (terminal_is ts i (symbols.Plain ty) refl b.0)
          ∙ ap (λ (s : Span). Ok (plain_type ty s, i + 1)) at ∙ ap (λ (k : ℕ). Ok (plain_type ty span, k)) (sym b.1);
      further = omega (arith, b.1);
    }

named_reads : (ts : List Lexeme) (p : Path) → IsRead (class_path ts p) ts (Named p)
named_reads ts p n i j e last =
    let x = path_begins ts p n i j e in
    let r = path_reads ts p n i j e last in
    record {
      read = sym (type_unrolled ts n i) ∙ ap (type_by ts (type_read ts (n - 1)) n i) (terminal_is ts i (symbols.Name x.0) refl x.1) ∙ rw r.read refl;
      further = r.further;
    }

coll_reads : (ts : List Lexeme) (kind : Kind) (t : TypeTree) (q : Piece) (span : Span) → IsRead q ts t
    → IsRead (spanned ts span (word ts (kind_word kind) ▸ nested (sign ts (codes "(") ▸ q ▸ sign ts (codes ")")))) ts (Coll kind t span)
coll_reads ts kind t q span inner n i j e last =
    let a = at_span ts span (word ts (kind_word kind) ▸ nested (sign ts (codes "(") ▸ q ▸ sign ts (codes ")"))) n i j e in
    let b = parts (word ts (kind_word kind)) (nested (sign ts (codes "(") ▸ q ▸ sign ts (codes ")"))) n i j a.0 in
    let kinds = taken (is_word (kind_word kind)) ts n i b.0 b.1 in
    let c = braced ts (codes "(") (codes ")") q n b.0 j b.2 in
    let r = inner c.inside (b.0 + 1) c.close c.inner (apart_at (is_sign (codes ")")) (is_sign (codes "::")) (signs_apart (codes ")") (codes "::") refl) ts c.close c.closing) in
    let opens : opening_read ts (codes "(") n (i + 1) ≡ Ok (b.0 + 1) = ap (opening_read ts (codes "(") n) (sym kinds.1) ∙ c.opens in
    let of : type_read ts (n - 1) (b.0 + 1) ≡ Ok (t, c.close) = ap (λ (m : ℕ). type_read ts m (b.0 + 1)) c.less ∙ r.read in
    let all : elements_read ts (type_read ts (n - 1)) n i kind ≡ Ok (Coll kind t span, j) = rw (opens, of, c.closes) (ap (λ (s : Span). Ok (Coll kind t s, j)) (sym a.1)) in
    record {
      read = sym (type_unrolled ts n i) ∙ ap (type_by ts (type_read ts (n - 1)) n i) (terminal_is ts i (symbols.Kind kind) refl kinds.0) ∙ all;
      further = omega (arith, kinds.1, r.further, c.end);
    }

abbrev IsTypeRead : TypeTree → Type 0
IsTypeRead t = (ts : List Lexeme) → IsRead (type_of ts t) ts t

rolled : (ts : List Lexeme) (d : types.TypeTree-F TypeTree) (t : TypeTree) → roll-TypeTree d ≡ t
    → type_of ts t ≡ type_step ts (map-TypeTree TypeTree Piece (type_of ts) d)
unfolding type_of
rolled ts d t e = ap (type_of ts) (sym e) ∙ fold-roll-TypeTree Piece (type_step ts) d

by_rolled : (d : types.TypeTree-F TypeTree) (t : TypeTree) → roll-TypeTree d ≡ t
    → ((ts : List Lexeme) → IsRead (type_step ts (map-TypeTree TypeTree Piece (type_of ts) d)) ts t) → IsTypeRead (roll-TypeTree d)
by_rolled d t e h = subst IsTypeRead (sym e) (λ ts. subst (λ p. IsRead p ts t) (sym (rolled ts d t e)) (h ts))

layer_read : (y : types.TypeTree-F ((t : TypeTree) × IsTypeRead t)) → IsTypeRead (roll-TypeTree (map-TypeTree ((t : TypeTree) × IsTypeRead t) TypeTree (λ x. x.0) y))
layer_read (types.Str span) = by_rolled (types.Str span) (Str span) (rolls-Str span) (λ ts. plain_reads ts plain.Str span)
layer_read (types.Int span) = by_rolled (types.Int span) (Int span) (rolls-Int span) (λ ts. plain_reads ts plain.Int span)
layer_read (types.Bool span) = by_rolled (types.Bool span) (Boolean span) (rolls-Bool span) (λ ts. plain_reads ts plain.Bool span)
layer_read (types.Named p) = by_rolled (types.Named p) (Named p) (rolls-Named p) (λ ts. named_reads ts p)
layer_read (types.Coll kind t span) = by_rolled (types.Coll kind t.0 span) (Coll kind t.0 span) (rolls-Coll kind t.0 span)
    (λ ts. coll_reads ts kind t.0 (type_of ts t.0) span (t.1 ts))

pub type_reads : (t : TypeTree) (ts : List Lexeme) (n i j : ℕ) → type_of ts t n i ≡ Some j → Follows ts j → Reads (type_read ts n) t i j
type_reads = ind-TypeTree IsTypeRead (λ x y is. subst (λ z. IsTypeRead (roll-TypeTree z)) is (layer_read y))

-- ---- expressions

pub expr_reads : (ts : List Lexeme) (e : Expr) (n i j : ℕ) → spelled ts n e i ≡ Some j → stands follows ts j ≡ true → Reads (expr_read ts n) e i j
unfolding expr_read
expr_reads ts e n i j h f = record { read = ap read_by (tree_before ts n n i j e (omega arith) h f); further = (spelled_end ts n e i j h).0 }
