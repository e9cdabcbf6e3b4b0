-- What is read is spelled: single tokens, names, paths and types.
use Rattle.std.proofs.Common.{◌≡◌, ℕ, zero, suc, ◌+◌, ◌-◌, Bool, true, false, List, slice_get, Option, Some, None, Result, Ok, Err, ap, sym, ◌∙◌, refl, subst, true≢false, arith}
use Rattle.std.specs.Prelude.{codes, ◌==◌, if◌then◌else◌}
use Rattle.std.proofs.lemmas.Bool.Decides.{nat_tests}
use Rattle.mof_metamodel.specs.declared.span.Span.{Span}
use Rattle.qv_syntax.specs.declared.name.Name.{Name}
use Rattle.qv_syntax.specs.declared.name.Path.{Path}
use Rattle.qv_syntax.specs.declared.type_tree.Kind.{Kind}
use Rattle.qv_syntax.specs.declared.type_tree.TypeTree.{TypeTree}
use Rattle.qv_syntax.specs.declared.type_tree.TypeTree.TheVariants.{Named}
use Rattle.ql_lex.specs.Lexed.{Lexeme}
use Rattle.ql_lex.specs.Lexemes.{is_sign, is_word, is_name, name_text, span_at, stands}
use Rattle.ql_lex.specs.Symbols.{terminal_of}
use Rattle.ql_lex.specs.declared.symbol.Symbol.{Symbol}
use Rattle.ql_lex.specs.declared.symbol.Symbol.TheVariants as symbols
use Rattle.ql_lex.specs.declared.symbol.PlainType.{PlainType}
use Rattle.ql_lex.specs.declared.symbol.PlainType.TheVariants as plain
use Rattle.ql_lex.proofs.TokenLaws.{same_text, same_span, stands_some}
use Rattle.ocl_parser.specs.Pieces.{sign, word, name}
use Rattle.ocl_parser.specs.Grammar.{class_path, kind_word, type_of}
use Rattle.ocl_parser.specs.Moves.{extended, path_of, plain_type}
use Rattle.ocl_parser.specs.Readings.{Read, and_then, elements_read, name_at, name_by, name_read, opening_read, path_behind, path_read, sign_read, token_read, type_by, type_read, word_read}
use Rattle.ocl_parser.specs.declared.halt.Stop.{Stop}
use Rattle.ocl_parser.specs.declared.halt.Stop.TheVariants as stops
use Rattle.ocl_parser.proofs.SymbolLaws.{is_told, plain_word, test_of, tested}
use Rattle.ocl_parser.proofs.PieceLaws.{token_taken}
use Rattle.ocl_parser.proofs.CompleteRuns.{span_of}
use Rattle.ocl_parser.proofs.SoundParts.{path_one, path_longer}
use Rattle.ocl_parser.proofs.SoundOperands.{path_spelled}
use Rattle.ocl_parser.proofs.SoundStacks.{PathAt, LongerPathAt}
use Rattle.ocl_parser.proofs.TypeLaws.{type_str, type_int, type_bool, type_named, type_coll}

-- ---- readings taken apart

-- what is read behind another reading
pub inverted : {X Y : Type 0} (m : Result X Stop) (f : X → Result Y Stop) (z : Y) → and_then m f ≡ Ok z → (x : X) × (m ≡ Ok x) × (f x ≡ Ok z)
inverted (Ok x) f z e = (x, refl, e)
inverted (Err s) f z e = cc

-- two values of one reading
abbrev ok_of : {X : Type 0} → X → Result X Stop
ok_of x = Ok x

pub same_ok : {X : Type 0} (a b : X) → ok_of a ≡ ok_of b → a ≡ b
same_ok a b e = cc

pub token_found : (passes : Lexeme → Bool) (ts : List Lexeme) (i j : ℕ) → token_read passes ts i ≡ Ok j → (stands passes ts i ≡ true) × (j ≡ i + 1)
token_found passes ts i j e = by (stands passes ts i) e
  where
    by : (b : Bool) → (if b then Ok (i + 1) else Err (stops.Stuck i)) ≡ Ok j → (b ≡ true) × (j ≡ i + 1)
    by true a = (refl, cc)
    by false a = cc

pub sign_found : (ts : List Lexeme) (text : List ℕ) (i j : ℕ) → sign_read ts text i ≡ Ok j → (n : ℕ) → sign ts text n i ≡ Some j
sign_found ts text i j e n =
    let a = token_found (is_sign text) ts i j e in
    token_taken (is_sign text) ts n i a.0 ∙ ap (λ (x : ℕ). Some x) (sym a.1)

pub word_found : (ts : List Lexeme) (text : List ℕ) (i j : ℕ) → word_read ts text i ≡ Ok j → (n : ℕ) → word ts text n i ≡ Some j
word_found ts text i j e n =
    let a = token_found (is_word text) ts i j e in
    token_taken (is_word text) ts n i a.0 ∙ ap (λ (x : ℕ). Some x) (sym a.1)

-- a level that is opened
pub opening_found : (ts : List Lexeme) (text : List ℕ) (n i j : ℕ) → opening_read ts text n i ≡ Ok j → (n ≡ n - 1 + 1) × ((m : ℕ) → sign ts text m i ≡ Some j)
opening_found ts text n i j e = by (stands (is_sign text) ts i) refl (n == 0) refl e
  where
    by : (b : Bool) → stands (is_sign text) ts i ≡ b → (c : Bool) → (n == 0) ≡ c → (if b then (if c then Err (stops.Deep i) else Ok (i + 1)) else Err (stops.Stuck i)) ≡ Ok j
        → (n ≡ n - 1 + 1) × ((m : ℕ) → sign ts text m i ≡ Some j)
    by true s true z a = cc
    by true s false z a =
        let next : i + 1 ≡ j = cc in
        (grind (arith, nat_tests), λ m. token_taken (is_sign text) ts m i s ∙ ap (λ (x : ℕ). Some x) next)
    by false s c z a = cc

-- ---- names and paths

name_test : (l : Lexeme) (text : List ℕ) → name_text l.token.kind l.text ≡ Some text → is_name (record { text = text; span = l.token.span }) l ≡ true
name_test l text e = rw (e, same_text text, same_span l.token.span) refl

pub name_stands : (ts : List Lexeme) (i : ℕ) (x : Name × ℕ) → name_read ts i ≡ Ok x → (stands (is_name x.0) ts i ≡ true) × (x.1 ≡ i + 1)
unfolding name_read
name_stands ts i x e = by (slice_get ts i) refl e
  where
    so : (l : Lexeme) (o : Option (List ℕ)) → name_text l.token.kind l.text ≡ o → slice_get ts i ≡ Some l → name_by l i o ≡ Ok x → (stands (is_name x.0) ts i ≡ true) × (x.1 ≡ i + 1)
    so l None a b c = cc
    so l (Some text) a b c =
        let is = same_ok _ x c in
        subst (λ (y : Name × ℕ). (stands (is_name y.0) ts i ≡ true) × (y.1 ≡ i + 1)) is
        (stands_some (is_name (record { text = text; span = l.token.span })) ts i l b ∙ name_test l text a, refl)

    by : (o : Option Lexeme) → slice_get ts i ≡ o → name_at i o ≡ Ok x → (stands (is_name x.0) ts i ≡ true) × (x.1 ≡ i + 1)
    by None a b = cc
    by (Some l) a b = so l (name_text l.token.kind l.text) refl a b

pub name_found : (ts : List Lexeme) (i : ℕ) (x : Name × ℕ) → name_read ts i ≡ Ok x → (n : ℕ) → name ts x.0 n i ≡ Some x.1
name_found ts i x e n =
    let a = name_stands ts i x e in
    token_taken (is_name x.0) ts n i a.0 ∙ ap (λ (y : ℕ). Some y) (sym a.1)

-- a path of one name, or of two
pub path_stands : (ts : List Lexeme) (i : ℕ) (x : Path × ℕ) → path_read ts i ≡ Ok x → PathAt ts 2 x.0 i x.1
unfolding path_read
path_stands ts i x e =
    let a = inverted (name_read ts i) (path_behind ts) x e in
    by a.0 a.1 (stands (is_sign (codes "::")) ts a.0.1) refl a.2
  where
    one : (f : Name × ℕ) → name_read ts i ≡ Ok f → PathAt ts 2 (path_of f.0) i f.1
    one f a =
        let b = name_stands ts i f a in
        subst (λ (k : ℕ). PathAt ts 2 (path_of f.0) i k) (sym b.1) (path_one ts 2 f.0 i (omega arith) b.0)

    two : (f s : Name × ℕ) → name_read ts i ≡ Ok f → stands (is_sign (codes "::")) ts f.1 ≡ true → name_read ts (f.1 + 1) ≡ Ok s → PathAt ts 2 (extended (path_of f.0) s.0) i s.1
    two f s a colons b =
        let first = one f a in
        let second = name_stands ts (f.1 + 1) s b in
        let longer : LongerPathAt ts 2 (path_of f.0) i (f.1 + 1) = record { at = f.1; shorter = first; room = omega arith; sign = colons; end = refl } in
        subst (λ (k : ℕ). PathAt ts 2 (extended (path_of f.0) s.0) i k) (sym second.1) (path_longer ts 2 (path_of f.0) s.0 i (f.1 + 1) longer second.0)

    by : (f : Name × ℕ) → name_read ts i ≡ Ok f → (b : Bool) → stands (is_sign (codes "::")) ts f.1 ≡ b
        → (if b then and_then (name_read ts (f.1 + 1)) (λ second. Ok (extended (path_of f.0) second.0, second.1)) else Ok (path_of f.0, f.1)) ≡ Ok x
        → PathAt ts 2 x.0 i x.1
    by f a true colons c =
        let b = inverted (name_read ts (f.1 + 1)) (λ (second : Name × ℕ). Ok (extended (path_of f.0) second.0, second.1)) x c in
        let is = same_ok _ x b.2 in
        subst (λ (y : Path × ℕ). PathAt ts 2 y.0 i y.1) is (two f b.0 a colons b.1)
    by f a false colons c =
        let is = same_ok _ x c in
        subst (λ (y : Path × ℕ). PathAt ts 2 y.0 i y.1) is (one f a)

pub path_found : (ts : List Lexeme) (i : ℕ) (x : Path × ℕ) → path_read ts i ≡ Ok x → (n : ℕ) → class_path ts x.0 n i ≡ Some x.1
path_found ts i x e = path_spelled ts 2 x.0 i x.1 (path_stands ts i x e)

-- ---- types

-- a token of this symbol
symbol_stands : (ts : List Lexeme) (i : ℕ) (s : Symbol) → is_told s ≡ true → (terminal_of (slice_get ts i)).symbol ≡ s → (stands (test_of s) ts i ≡ true) × ((terminal_of (slice_get ts i)).span ≡ span_at ts i (i + 1))
symbol_stands ts i s told e = by (slice_get ts i) refl e
  where
    by : (o : Option Lexeme) → slice_get ts i ≡ o → (terminal_of o).symbol ≡ s → (stands (test_of s) ts i ≡ true) × ((terminal_of (slice_get ts i)).span ≡ span_at ts i (i + 1))
    by None a b = absurd (true≢false (sym told ∙ ap is_told (sym b)))
    by (Some l) a b = (
      stands_some (test_of s) ts i l a ∙ rw (← b) (tested l),
      ap (λ (o : Option Lexeme). (terminal_of o).span) a ∙ sym (span_of ts i l a),
    )

plain_found : (ts : List Lexeme) (ty : PlainType) (n i : ℕ) → stands (is_word (plain_word ty)) ts i ≡ true → type_of ts (plain_type ty (span_at ts i (i + 1))) n i ≡ Some (i + 1)
plain_found ts plain.Str n i e = type_str ts n i e
plain_found ts plain.Int n i e = type_int ts n i e
plain_found ts plain.Bool n i e = type_bool ts n i e

abbrev IsFoundBy : List Lexeme → (ℕ → Read TypeTree) → ℕ → Type 0
IsFoundBy ts inner m = (i : ℕ) (x : TypeTree × ℕ) → inner i ≡ Ok x → type_of ts x.0 m i ≡ Some x.1

elements_found : (ts : List Lexeme) (inner : ℕ → Read TypeTree) (n i : ℕ) (kind : Kind) (x : TypeTree × ℕ) → IsFoundBy ts inner (n - 1)
    → stands (is_word (kind_word kind)) ts i ≡ true → elements_read ts inner n i kind ≡ Ok x → type_of ts x.0 n i ≡ Some x.1
elements_found ts inner n i kind x found word e =
    let a = inverted (opening_read ts (codes "(") n (i + 1)) _ x e in
    let b = inverted (inner a.0) _ x a.2 in
    let c = inverted (sign_read ts (codes ")") b.0.1) _ x b.2 in
    let opens = token_after (is_sign (codes "(")) ts n (i + 1) a.0 a.1 in
    let closes = token_found (is_sign (codes ")")) ts b.0.1 c.0 c.1 in
    let is = same_ok _ x c.2 in
    subst (λ (y : TypeTree × ℕ). type_of ts y.0 n i ≡ Some y.1) is
    (type_coll ts kind b.0.0 (span_at ts i c.0) n (n - 1) i a.0 b.0.1 c.0 word opens.1 opens.2 opens.0 (found a.0 b.0 b.1) closes.0 closes.1 refl)
  where
    token_after : (passes : Lexeme → Bool) (ts : List Lexeme) (n i j : ℕ)
        → (if stands passes ts i then (if n == 0 then Err (stops.Deep i) else Ok (i + 1)) else Err (stops.Stuck i)) ≡ Ok j
        → (n ≡ n - 1 + 1) × (stands passes ts i ≡ true) × (j ≡ i + 1)
    token_after passes ts n i j e = by (stands passes ts i) (n == 0) refl e
      where
        by : (b c : Bool) → (n == 0) ≡ c → (if b then (if c then Err (stops.Deep i) else Ok (i + 1)) else Err (stops.Stuck i)) ≡ Ok j
            → (n ≡ n - 1 + 1) × (b ≡ true) × (j ≡ i + 1)
        by true true z a = cc
        by true false z a = (grind (arith, nat_tests), refl, cc)
        by false c z a = cc

type_by_found : (ts : List Lexeme) (inner : ℕ → Read TypeTree) (n i : ℕ) (x : TypeTree × ℕ) → IsFoundBy ts inner (n - 1)
    → type_by ts inner n i (terminal_of (slice_get ts i)) ≡ Ok x → type_of ts x.0 n i ≡ Some x.1
type_by_found ts inner n i x found e = by (terminal_of (slice_get ts i)).symbol (terminal_of (slice_get ts i)).span refl refl e
  where
    path_so : and_then (path_read ts i) (λ p. Ok (Named p.0, p.1)) ≡ Ok x → type_of ts x.0 n i ≡ Some x.1
    path_so a =
        let b = inverted (path_read ts i) (λ (p : Path × ℕ). Ok (Named p.0, p.1)) x a in
        let is = same_ok _ x b.2 in
        subst (λ (y : TypeTree × ℕ). type_of ts y.0 n i ≡ Some y.1) is (type_named ts b.0.0 n i b.0.1 (path_found ts i b.0 b.1))

    by : (s : Symbol) (span : Span) → (terminal_of (slice_get ts i)).symbol ≡ s → (terminal_of (slice_get ts i)).span ≡ span
        → type_by ts inner n i (record { symbol = s; span = span }) ≡ Ok x → type_of ts x.0 n i ≡ Some x.1
    by (symbols.Plain ty) span s at a =
        let b = symbol_stands ts i (symbols.Plain ty) refl s in
        let is = same_ok _ x a in
        subst (λ (y : TypeTree × ℕ). type_of ts y.0 n i ≡ Some y.1) is
        (ap (λ (p : Span). type_of ts (plain_type ty p) n i) (sym at ∙ b.1) ∙ plain_found ts ty n i b.0)
    by (symbols.Kind kind) span s at a = elements_found ts inner n i kind x found (symbol_stands ts i (symbols.Kind kind) refl s).0 a
    by (symbols.Name y) span s at a = path_so a
    by s span is at a = cc

pub type_found : (ts : List Lexeme) (levels i : ℕ) (x : TypeTree × ℕ) → type_read ts levels i ≡ Ok x → type_of ts x.0 levels i ≡ Some x.1
unfolding type_read
type_found ts zero i x e = type_by_found ts (λ first. Err (stops.Stuck first)) 0 i x (λ j y a. cc) e
type_found ts (suc levels) i x e =
    let less : suc levels - 1 ≡ levels = omega arith in
    type_by_found ts (type_read ts levels) (suc levels) i x (λ j y a. rw less (type_found ts levels j y a)) e
