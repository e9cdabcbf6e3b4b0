-- The tokens of a path lead to it.
use Rattle.std.proofs.Common.{◌≡◌, ℕ, ◌+◌, ◌<◌, ◌≤◌, true, false, ◌&&◌, nat_lt, nat_le, List, [], ◌∷◌, ◌++◌, length, map, Some, ap, sym, ◌∙◌, refl, arith}
use Rattle.std.specs.Prelude.{codes}
use Rattle.std.specs.Option.{option_map_or}
use Rattle.std.specs.Str.{bytes_eq}
use Rattle.std.proofs.lemmas.Bool.Decides.{nat_tests}
use Rattle.std.proofs.lemmas.List.{append-nil, append_assoc, length-append}
use Rattle.mof_metamodel.specs.declared.span.Span.{Span}
use Rattle.ql_lex.specs.Lexed.{Lexeme}
use Rattle.qv_syntax.specs.declared.name.Name.{Name}
use Rattle.qv_syntax.specs.declared.name.Path.{Path}
use Rattle.ocl_parser.specs.Pieces.{Piece, ◌▸◌, sign, name, only, each, separated}
use Rattle.ql_lex.specs.Lexemes.{stands, is_sign, is_name, name_text, is_same_span, span_at, start_of}
use Rattle.ocl_parser.specs.Grammar.{names, path}
use Rattle.ocl_parser.specs.Moves.{move, to, open_levels, state_levels, path_of, extended, from_to}
use Rattle.ql_lex.specs.declared.symbol.Symbol.TheVariants as symbols
use Rattle.ocl_parser.specs.declared.frame.Frame.{Frame}
use Rattle.ocl_parser.specs.declared.state.State.{State}
use Rattle.ocl_parser.proofs.CompleteRuns.{going, there, span_of, step}
use Rattle.ocl_parser.proofs.CompletePieces.{parts, taken, held, same_spans, at_span}
use Rattle.std.proofs.lemmas.Bool.{and_parts}

-- where a name stands
pub name_span : (ts : List Lexeme) (x : Name) (i : ℕ) → stands (is_name x) ts i ≡ true → x.span ≡ span_at ts i (i + 1)
name_span ts x i e =
    let t = there (is_name x) ts i e in
    let l : Lexeme = t.0 in
    let b = and_parts (option_map_or (bytes_eq x.text) (name_text l.token.kind l.text) false) (is_same_span l.token.span x.span) t.2 in
    sym (span_of ts i l t.1 ∙ same_spans l.token.span x.span b.1)

abbrev behind_colons : List Lexeme → Piece → Piece
behind_colons ts q = sign ts (codes "::") ▸ q

-- the pieces of the names behind the first
abbrev pub further_names : List Lexeme → List Name → Piece
further_names ts rest = each (map (behind_colons ts) (map (name ts) rest))

abbrev pub path_from_to : List Lexeme → List Name → ℕ → ℕ → Path
path_from_to ts ns i j = record { names = ns; span = span_at ts i j }

-- how a state goes on with the names of a path
pub record Extends (levels most : ℕ) (stack : List Frame) (at_path next : Path → State) : Type 0 where
  pub colons : (p : Path) (span : Span) → length p.names < most → move stack (at_path p) symbols.DoubleColon span ≡ to stack (next p)
  pub named : (p : Path) (x : Name) (span : Span) → move stack (next p) (symbols.Name x) span ≡ to stack (at_path (extended p x))
  pub few : (p : Path) → open_levels stack + state_levels (at_path p) ≤ levels
  pub few_next : (p : Path) → open_levels stack + state_levels (next p) ≤ levels

extended_at : (ts : List Lexeme) (read : List Name) (x : Name) (i j : ℕ) → x.span ≡ span_at ts (j + 1) (j + 1 + 1)
    → extended (path_from_to ts read i j) x ≡ path_from_to ts (read ++ x ∷ []) i (j + 1 + 1)
unfolding span_at
extended_at ts read x i j e = ap (λ (s : Span). record { names = read ++ x ∷ []; span = from_to (start_of ts i) s.end }) e

pub names_read : (levels most : ℕ) (ts : List Lexeme) (stack : List Frame) (at_path next : Path → State) → Extends levels most stack at_path next
    → (read rest : List Name) (n i j k : ℕ) → length read + length rest ≤ most → further_names ts rest n j ≡ Some k
    → (j ≤ k) × (going levels ts stack (at_path (path_from_to ts read i j)) j ≡ going levels ts stack (at_path (path_from_to ts (read ++ rest) i k)) k)
unfolding each
names_read levels most ts stack at_path next x read [] n i j k few e =
    let same : j ≡ k = cc in
    (omega arith, rw (append-nil read, same) refl)
names_read levels most ts stack at_path next x read (y ∷ rest) n i j k few e =
    let a = parts (behind_colons ts (name ts y)) (further_names ts rest) n j k e in
    let b = parts (sign ts (codes "::")) (name ts y) n j a.0 a.1 in
    let c = taken (is_sign (codes "::")) ts n j b.0 b.1 in
    let d = taken (is_name y) ts n b.0 a.0 b.2 in
    let here : stands (is_name y) ts (j + 1) ≡ true = rw (← c.1) d.0 in
    let ends : a.0 ≡ j + 1 + 1 = rw (← c.1) d.1 in
    let p : Path = path_from_to ts read i j in
    let one = step levels ts symbols.DoubleColon j stack stack (at_path p) (next p) refl c.0 (x.colons p (span_at ts j (j + 1)) (omega arith)) (x.few_next p) in
    let two = step levels ts (symbols.Name y) (j + 1) stack stack (next p) (at_path (extended p y)) refl here (x.named p y (span_at ts (j + 1) (j + 1 + 1)))
    (x.few (extended p y)) in
    let three = ap (λ (q : Path). going levels ts stack (at_path q) (j + 1 + 1)) (extended_at ts read y i j (name_span ts y (j + 1) here)) in
    let rest_read = names_read levels most ts stack at_path next x (read ++ y ∷ []) rest n i (j + 1 + 1) k (omega (arith, length-append read (y ∷ [])))
    (rw (← ends) a.2) in
    (omega (arith, rest_read.0), one ∙ two ∙ three ∙ rest_read.1 ∙ rw (append_assoc read (y ∷ []) rest) refl)

-- ---- whole paths

-- a path by its first name
pub record PathParts (ts : List Lexeme) (most : ℕ) (p : Path) (n i j : ℕ) : Type 0 where
  pub first : Name
  pub rest : List Name
  pub is : p ≡ path_from_to ts (first ∷ rest) i j
  pub few : 1 + length rest ≤ most
  pub begins : stands (is_name first) ts i ≡ true
  pub ends : further_names ts rest n (i + 1) ≡ Some j

pub path_parts : (ts : List Lexeme) (most : ℕ) (p : Path) (n i j : ℕ) → path ts most p n i ≡ Some j → PathParts ts most p n i j
unfolding path names separated
path_parts ts most p n i j e =
    let a = at_span ts p.span (only (nat_lt 0 (length p.names) && nat_le (length p.names) most) (names ts p.names)) n i j e in
    let b = held (nat_lt 0 (length p.names) && nat_le (length p.names) most) (names ts p.names) n i j a.0 in
    let c = and_parts (nat_lt 0 (length p.names)) (nat_le (length p.names) most) b.0 in
    by p.names refl c.0 c.1 b.1 a.1
  where
    by : (ns : List Name) → p.names ≡ ns → nat_lt 0 (length ns) ≡ true → nat_le (length ns) most ≡ true → names ts ns n i ≡ Some j → p.span ≡ span_at ts i j
        → PathParts ts most p n i j
    by [] is some few e at = cc
    by (x ∷ rest) is some few e at =
        let a = parts (name ts x) (further_names ts rest) n i j e in
        let b = taken (is_name x) ts n i a.0 a.1 in
        record {
          first = x;
          rest = rest;
          is = ap (λ (ns : List Name). record { names = ns; span = p.span }) is ∙ ap (λ (s : Span). record { names = x ∷ rest; span = s }) at;
          few = grind (arith, nat_tests);
          begins = b.0;
          ends = rw (← b.1) a.2;
        }

path_of_at : (ts : List Lexeme) (x : Name) (i : ℕ) → stands (is_name x) ts i ≡ true → path_of x ≡ path_from_to ts (x ∷ []) i (i + 1)
path_of_at ts x i e = ap (λ (s : Span). record { names = x ∷ []; span = s }) (name_span ts x i e)

-- behind the first name
pub path_behind : (levels most : ℕ) (ts : List Lexeme) (stack : List Frame) (at_path next : Path → State) → Extends levels most stack at_path next
    → (p : Path) (n i j : ℕ) (a : PathParts ts most p n i j)
    → (i < j) × (going levels ts stack (at_path (path_of a.first)) (i + 1) ≡ going levels ts stack (at_path p) j)
path_behind levels most ts stack at_path next x p n i j a =
    let r = names_read levels most ts stack at_path next x (a.first ∷ []) a.rest n i (i + 1) j (omega (arith, a.few)) a.ends in (
      omega (arith, r.0),
      ap (λ (q : Path). going levels ts stack (at_path q) (i + 1)) (path_of_at ts a.first i a.begins) ∙ r.1
          ∙ ap (λ (q : Path). going levels ts stack (at_path q) j) (sym a.is),
    )

pub path_read : (levels most : ℕ) (ts : List Lexeme) (stack : List Frame) (start : State) (at_path next : Path → State) → Extends levels most stack at_path next
    → ((y : Name) (span : Span) → move stack start (symbols.Name y) span ≡ to stack (at_path (path_of y)))
    → (p : Path) (n i j : ℕ) → path ts most p n i ≡ Some j → (i < j) × (going levels ts stack start i ≡ going levels ts stack (at_path p) j)
path_read levels most ts stack start at_path next x begins p n i j e =
    let a = path_parts ts most p n i j e in
    let one = step levels ts (symbols.Name a.first) i stack stack start (at_path (path_of a.first)) refl a.begins (begins a.first (span_at ts i (i + 1)))
    (x.few (path_of a.first)) in
    let two = path_behind levels most ts stack at_path next x p n i j a in
    (two.0, one ∙ two.1)
