-- The symbol of a token, and the tests of the grammar.
use Rattle.std.proofs.Common.{◌≡◌, ℕ, Bool, true, false, if◌then◌else◌, List, [], ◌∷◌, Option, Some, None, ℤ, ◌&&◌, ap, sym, ◌∙◌, refl, true≢false, arith}
use Rattle.std.specs.Prelude.{codes, ◌==◌}
use Rattle.std.specs.Option.{option_map_or}
use Rattle.std.specs.Str.{bytes_eq, chars}
use Rattle.std.specs.Ordering.{int_eq}
use Rattle.std.proofs.lemmas.Bool.Decides.{Decides-int_eq, nat_tests}
use Rattle.std.proofs.lemmas.Slice.Eq.{bytes_eq-Decides}
use Rattle.mof_metamodel.specs.Characters.{is_storable_text}
use Rattle.mof_metamodel.specs.declared.span.Span.{Span}
use Rattle.ql_lex.specs.declared.token.TokenKind.{TokenKind}
use Rattle.ql_lex.specs.declared.token.TokenKind.TheVariants as kinds
use Rattle.ql_lex.specs.Lexed.{Lexeme}
use Rattle.qv_syntax.specs.declared.name.Name.{Name}
use Rattle.qv_syntax.specs.declared.operator.Operator.{Operator}
use Rattle.qv_syntax.specs.declared.operator.Operator.TheVariants as operators
use Rattle.qv_syntax.specs.declared.type_tree.Kind.{Kind}
use Rattle.qv_syntax.specs.declared.type_tree.Kind.TheVariants as collections
use Rattle.ql_lex.specs.Lexemes.{is_same_span, is_sign, is_word, is_name, is_string, is_number, integer_of, name_text}
use Rattle.ocl_parser.specs.Grammar.{is_operator, kind_word, constant}
use Rattle.ql_lex.specs.Symbols.{symbol_of, symbol_by, symbol_among, words, signs, number_symbol, string_symbol, name_symbol}
use Rattle.ql_lex.specs.Unquoting.{unquoted}
use Rattle.ql_lex.specs.declared.symbol.Symbol.{Symbol}
use Rattle.ql_lex.specs.declared.symbol.Symbol.TheVariants as symbols
use Rattle.ql_lex.specs.declared.symbol.PlainType.{PlainType}
use Rattle.ql_lex.specs.declared.symbol.PlainType.TheVariants as plain
use Rattle.ql_lex.proofs.TokenLaws.{same_text, same_span}
use Rattle.std.proofs.lemmas.Bool.{and_parts}

-- the word of a type that is no collection and no class
abbrev pub plain_word : PlainType → List ℕ
plain_word plain.Str = codes "String"
plain_word plain.Int = codes "Integer"
plain_word plain.Bool = codes "Boolean"

-- the test that a token of a symbol passes
abbrev pub test_of : Symbol → Lexeme → Bool
test_of symbols.Let = is_word (codes "let")
test_of symbols.In = is_word (codes "in")
test_of symbols.If = is_word (codes "if")
test_of symbols.Then = is_word (codes "then")
test_of symbols.Else = is_word (codes "else")
test_of symbols.Endif = is_word (codes "endif")
test_of symbols.Not = is_word (codes "not")
test_of symbols.Null = is_word (codes "null")
test_of symbols.Invalid = is_word (codes "invalid")
test_of (symbols.Bool value) = is_word (constant value)
test_of (symbols.Number value) = is_number value
test_of (symbols.Str text) = is_string text
test_of (symbols.Name name) = is_name name
test_of (symbols.Kind kind) = is_word (kind_word kind)
test_of (symbols.Plain ty) = is_word (plain_word ty)
test_of (symbols.Operator operator) = is_operator operator
test_of symbols.OpenParenthesis = is_sign (codes "(")
test_of symbols.CloseParenthesis = is_sign (codes ")")
test_of symbols.OpenBrace = is_sign (codes "{")
test_of symbols.CloseBrace = is_sign (codes "}")
test_of symbols.Comma = is_sign (codes ",")
test_of symbols.Colon = is_sign (codes ":")
test_of symbols.DoubleColon = is_sign (codes "::")
test_of symbols.Dot = is_sign (codes ".")
test_of symbols.Arrow = is_sign (codes "->")
test_of symbols.Bar = is_sign (codes "|")
test_of symbols.Other = λ l. true

abbrev lexeme_of : TokenKind → List ℕ → Span → Lexeme
lexeme_of kind text span = record { token = record { kind = kind; span = span }; text = text }

same_number : (value : ℤ) → int_eq value value ≡ true
same_number value = (Decides-int_eq value value).1 refl

-- each entry of a table has the property if it is met
Entries : List ℕ → (Symbol → Type 0) → List (List ℕ × Symbol) → Type 0
Entries text P [] = Unit {0}
Entries text P (entry ∷ entries) = (bytes_eq text entry.0 ≡ true → P entry.1) × Entries text P entries

chosen : (P : Symbol → Type 0) (b : Bool) (one more : Symbol) → (b ≡ true → P one) → P more → P (if b then one else more)
chosen P true one more here other = here refl
chosen P false one more here other = other

among : (text : List ℕ) (P : Symbol → Type 0) (entries : List (List ℕ × Symbol)) → P symbols.Other → Entries text P entries → P (symbol_among text entries)
unfolding symbol_among Entries
among text P [] other all = other
among text P (entry ∷ entries) other all = chosen P (bytes_eq text entry.0) entry.1 (symbol_among text entries) all.0 (among text P entries other all.1)

itself : {X : Type 0} → X → X
itself x = x

word_tested : (text : List ℕ) (span : Span) → test_of (symbol_among text words) (lexeme_of kinds.Reserved text span) ≡ true
unfolding Entries
word_tested text span = among text (λ s. test_of s (lexeme_of kinds.Reserved text span) ≡ true) words refl (
  itself,
  (
    itself,
    (
      itself,
      (
        itself,
        (
          itself,
          (
            itself,
            (
              itself,
              (
                itself,
                (
                  itself,
                  (
                    itself,
                    (
                      itself,
                      (
                        itself,
                        (
                          itself,
                          (
                            itself,
                            (
                              itself,
                              (
                                itself,
                                (
                                  itself,
                                  (
                                    itself,
                                    (itself, (itself, (itself, (itself, tt)))),
                                  ),
                                ),
                              ),
                            ),
                          ),
                        ),
                      ),
                    ),
                  ),
                ),
              ),
            ),
          ),
        ),
      ),
    ),
  ),
)

sign_tested : (text : List ℕ) (span : Span) → test_of (symbol_among text signs) (lexeme_of kinds.Sign text span) ≡ true
unfolding Entries
sign_tested text span = among text (λ s. test_of s (lexeme_of kinds.Sign text span) ≡ true) signs refl (
  itself,
  (
    itself,
    (
      itself,
      (
        itself,
        (
          itself,
          (
            itself,
            (
              itself,
              (
                itself,
                (
                  itself,
                  (
                    itself,
                    (
                      itself,
                      (
                        itself,
                        (
                          itself,
                          (
                            itself,
                            (
                              itself,
                              (
                                itself,
                                (
                                  itself,
                                  (
                                    itself,
                                    (itself, tt),
                                  ),
                                ),
                              ),
                            ),
                          ),
                        ),
                      ),
                    ),
                  ),
                ),
              ),
            ),
          ),
        ),
      ),
    ),
  ),
)

number_tested : (o : Option ℤ) (text : List ℕ) (span : Span) → integer_of text ≡ o → test_of (number_symbol o) (lexeme_of kinds.Number text span) ≡ true
number_tested (Some value) text span e = rw e (same_number value)
number_tested None text span e = refl

string_tested : (b : Bool) (text : List ℕ) (span : Span) → is_storable_text (unquoted (chars text)) ≡ b
    → test_of (if b then symbols.Str (unquoted (chars text)) else symbols.Other) (lexeme_of kinds.Str text span) ≡ true
string_tested true text span e = rw (same_text (unquoted (chars text)), e) refl
string_tested false text span e = refl

name_tested : (kind : TokenKind) (o : Option (List ℕ)) (text : List ℕ) (span : Span) → name_text kind text ≡ o
    → test_of (name_symbol o span) (lexeme_of kind text span) ≡ true
name_tested kind (Some name) text span e = rw (e, same_text name, same_span span) refl
name_tested kind None text span e = refl

tested_by : (kind : TokenKind) (text : List ℕ) (span : Span) → test_of (symbol_by kind text span) (lexeme_of kind text span) ≡ true
tested_by kinds.Name text span = name_tested kinds.Name (name_text kinds.Name text) text span refl
tested_by kinds.Quoted text span = name_tested kinds.Quoted (name_text kinds.Quoted text) text span refl
tested_by kinds.Reserved text span = word_tested text span
tested_by kinds.Number text span = number_tested (integer_of text) text span refl
tested_by kinds.Str text span = string_tested (is_storable_text (unquoted (chars text))) text span refl
tested_by kinds.Sign text span = sign_tested text span

-- a token passes the test of its symbol
pub tested : (l : Lexeme) → test_of (symbol_of l) l ≡ true
unfolding symbol_of
tested l = tested_by l.token.kind l.text l.token.span

-- ---- and back: the token that passes a symbol's test is that symbol

none_true : {X : Type 0} → false ≡ true → X
none_true e = absurd (true≢false (sym e))

word_by : (kind : TokenKind) (x : List ℕ) (span : Span) (text : List ℕ) (s : Symbol) → symbol_among text words ≡ s → is_word text (lexeme_of kind x span) ≡ true
    → symbol_by kind x span ≡ s
word_by kinds.Name x span text s is e = none_true e
word_by kinds.Quoted x span text s is e = none_true e
word_by kinds.Reserved x span text s is e = ap (λ (y : List ℕ). symbol_among y words) ((bytes_eq-Decides x text).0 e) ∙ is
word_by kinds.Number x span text s is e = none_true e
word_by kinds.Str x span text s is e = none_true e
word_by kinds.Sign x span text s is e = none_true e

sign_by : (kind : TokenKind) (x : List ℕ) (span : Span) (text : List ℕ) (s : Symbol) → symbol_among text signs ≡ s → is_sign text (lexeme_of kind x span) ≡ true
    → symbol_by kind x span ≡ s
sign_by kinds.Name x span text s is e = none_true e
sign_by kinds.Quoted x span text s is e = none_true e
sign_by kinds.Reserved x span text s is e = none_true e
sign_by kinds.Number x span text s is e = none_true e
sign_by kinds.Str x span text s is e = none_true e
sign_by kinds.Sign x span text s is e = ap (λ (y : List ℕ). symbol_among y signs) ((bytes_eq-Decides x text).0 e) ∙ is

pub word_is : (text : List ℕ) (s : Symbol) (l : Lexeme) → symbol_among text words ≡ s → is_word text l ≡ true → symbol_of l ≡ s
unfolding symbol_of
word_is text s l is e = word_by l.token.kind l.text l.token.span text s is e

pub sign_is : (text : List ℕ) (s : Symbol) (l : Lexeme) → symbol_among text signs ≡ s → is_sign text l ≡ true → symbol_of l ≡ s
unfolding symbol_of
sign_is text s l is e = sign_by l.token.kind l.text l.token.span text s is e

number_by : (value : ℤ) (o : Option ℤ) → option_map_or (int_eq value) o false ≡ true → number_symbol o ≡ symbols.Number value
number_by value (Some other) e = ap symbols.Number (sym ((Decides-int_eq value other).0 e))
number_by value None e = none_true e

pub number_is : (value : ℤ) (l : Lexeme) → is_number value l ≡ true → symbol_of l ≡ symbols.Number value
unfolding symbol_of
number_is value l e = by l.token.kind l.text l.token.span e
  where
    by : (kind : TokenKind) (x : List ℕ) (span : Span) → is_number value (lexeme_of kind x span) ≡ true → symbol_by kind x span ≡ symbols.Number value
    by kinds.Name x span e = none_true e
    by kinds.Quoted x span e = none_true e
    by kinds.Reserved x span e = none_true e
    by kinds.Number x span e = number_by value (integer_of x) e
    by kinds.Str x span e = none_true e
    by kinds.Sign x span e = none_true e

string_by : (text found : List ℕ) → (bytes_eq text found && is_storable_text text) ≡ true → string_symbol found ≡ symbols.Str text
string_by text found e =
    let t = and_parts (bytes_eq text found) (is_storable_text text) e in
    let same : text ≡ found = (bytes_eq-Decides text found).0 t.0 in
    ap string_symbol (sym same) ∙ rw t.1 refl

pub string_is : (text : List ℕ) (l : Lexeme) → is_string text l ≡ true → symbol_of l ≡ symbols.Str text
unfolding symbol_of
string_is text l e = by l.token.kind l.text l.token.span e
  where
    by : (kind : TokenKind) (x : List ℕ) (span : Span) → is_string text (lexeme_of kind x span) ≡ true → symbol_by kind x span ≡ symbols.Str text
    by kinds.Name x span e = none_true e
    by kinds.Quoted x span e = none_true e
    by kinds.Reserved x span e = none_true e
    by kinds.Number x span e = none_true e
    by kinds.Str x span e = string_by text (unquoted (chars x)) e
    by kinds.Sign x span e = none_true e

named_by : (name : Name) (o : Option (List ℕ)) (span : Span) → (option_map_or (bytes_eq name.text) o false && is_same_span span name.span) ≡ true
    → name_symbol o span ≡ symbols.Name name
named_by name None span e = none_true e
named_by name (Some text) span e =
    let t = and_parts (bytes_eq name.text text) (is_same_span span name.span) e in
    let same : name.text ≡ text = (bytes_eq-Decides name.text text).0 t.0 in
    let at = and_parts (span.start == name.span.start) (span.end == name.span.end) t.1 in
    let starts : span.start ≡ name.span.start = grind (arith, nat_tests) in
    let ends : span.end ≡ name.span.end = grind (arith, nat_tests) in
    ap (λ (x : List ℕ). symbols.Name (record { text = x; span = span })) (sym same)
    ∙ ap (λ (x : ℕ). symbols.Name (record { text = name.text; span = record { start = x; end = span.end } })) starts
    ∙ ap (λ (x : ℕ). symbols.Name (record { text = name.text; span = record { start = name.span.start; end = x } })) ends

pub name_is : (name : Name) (l : Lexeme) → is_name name l ≡ true → symbol_of l ≡ symbols.Name name
unfolding symbol_of name_text
name_is name l e = by l.token.kind l.text l.token.span e
  where
    by : (kind : TokenKind) (x : List ℕ) (span : Span) → is_name name (lexeme_of kind x span) ≡ true → symbol_by kind x span ≡ symbols.Name name
    by kinds.Name x span e = named_by name (name_text kinds.Name x) span e
    by kinds.Quoted x span e = named_by name (name_text kinds.Quoted x) span e
    by kinds.Reserved x span e = none_true e
    by kinds.Number x span e = none_true e
    by kinds.Str x span e = none_true e
    by kinds.Sign x span e = none_true e

kind_is : (kind : Kind) (l : Lexeme) → is_word (kind_word kind) l ≡ true → symbol_of l ≡ symbols.Kind kind
unfolding symbol_among
kind_is collections.Set l e = word_is (codes "Set") (symbols.Kind collections.Set) l refl e
kind_is collections.Bag l e = word_is (codes "Bag") (symbols.Kind collections.Bag) l refl e
kind_is collections.Sequence l e = word_is (codes "Sequence") (symbols.Kind collections.Sequence) l refl e
kind_is collections.OrderedSet l e = word_is (codes "OrderedSet") (symbols.Kind collections.OrderedSet) l refl e

operator_is : (operator : Operator) (l : Lexeme) → is_operator operator l ≡ true → symbol_of l ≡ symbols.Operator operator
unfolding symbol_among
operator_is operators.Implies l e = word_is (codes "implies") (symbols.Operator operators.Implies) l refl e
operator_is operators.Xor l e = word_is (codes "xor") (symbols.Operator operators.Xor) l refl e
operator_is operators.Or l e = word_is (codes "or") (symbols.Operator operators.Or) l refl e
operator_is operators.And l e = word_is (codes "and") (symbols.Operator operators.And) l refl e
operator_is operators.Equal l e = sign_is (codes "=") (symbols.Operator operators.Equal) l refl e
operator_is operators.NotEqual l e = sign_is (codes "<>") (symbols.Operator operators.NotEqual) l refl e
operator_is operators.Less l e = sign_is (codes "<") (symbols.Operator operators.Less) l refl e
operator_is operators.Greater l e = sign_is (codes ">") (symbols.Operator operators.Greater) l refl e
operator_is operators.AtMost l e = sign_is (codes "<=") (symbols.Operator operators.AtMost) l refl e
operator_is operators.AtLeast l e = sign_is (codes ">=") (symbols.Operator operators.AtLeast) l refl e
operator_is operators.Plus l e = sign_is (codes "+") (symbols.Operator operators.Plus) l refl e
operator_is operators.Minus l e = sign_is (codes "-") (symbols.Operator operators.Minus) l refl e
operator_is operators.Times l e = sign_is (codes "*") (symbols.Operator operators.Times) l refl e

-- whether expressions have the symbol
abbrev pub is_told : Symbol → Bool
is_told symbols.Other = false
is_told s = true

-- the token that passes a symbol's test is that symbol
pub symbol_is : (s : Symbol) (l : Lexeme) → is_told s ≡ true → test_of s l ≡ true → symbol_of l ≡ s
unfolding symbol_among
symbol_is symbols.Let l told e = word_is (codes "let") symbols.Let l refl e
symbol_is symbols.In l told e = word_is (codes "in") symbols.In l refl e
symbol_is symbols.If l told e = word_is (codes "if") symbols.If l refl e
symbol_is symbols.Then l told e = word_is (codes "then") symbols.Then l refl e
symbol_is symbols.Else l told e = word_is (codes "else") symbols.Else l refl e
symbol_is symbols.Endif l told e = word_is (codes "endif") symbols.Endif l refl e
symbol_is symbols.Not l told e = word_is (codes "not") symbols.Not l refl e
symbol_is symbols.Null l told e = word_is (codes "null") symbols.Null l refl e
symbol_is symbols.Invalid l told e = word_is (codes "invalid") symbols.Invalid l refl e
symbol_is (symbols.Bool true) l told e = word_is (codes "true") (symbols.Bool true) l refl e
symbol_is (symbols.Bool false) l told e = word_is (codes "false") (symbols.Bool false) l refl e
symbol_is (symbols.Number value) l told e = number_is value l e
symbol_is (symbols.Str text) l told e = string_is text l e
symbol_is (symbols.Name name) l told e = name_is name l e
symbol_is (symbols.Kind kind) l told e = kind_is kind l e
symbol_is (symbols.Plain plain.Str) l told e = word_is (codes "String") (symbols.Plain plain.Str) l refl e
symbol_is (symbols.Plain plain.Int) l told e = word_is (codes "Integer") (symbols.Plain plain.Int) l refl e
symbol_is (symbols.Plain plain.Bool) l told e = word_is (codes "Boolean") (symbols.Plain plain.Bool) l refl e
symbol_is (symbols.Operator operator) l told e = operator_is operator l e
symbol_is symbols.OpenParenthesis l told e = sign_is (codes "(") symbols.OpenParenthesis l refl e
symbol_is symbols.CloseParenthesis l told e = sign_is (codes ")") symbols.CloseParenthesis l refl e
symbol_is symbols.OpenBrace l told e = sign_is (codes "{") symbols.OpenBrace l refl e
symbol_is symbols.CloseBrace l told e = sign_is (codes "}") symbols.CloseBrace l refl e
symbol_is symbols.Comma l told e = sign_is (codes ",") symbols.Comma l refl e
symbol_is symbols.Colon l told e = sign_is (codes ":") symbols.Colon l refl e
symbol_is symbols.DoubleColon l told e = sign_is (codes "::") symbols.DoubleColon l refl e
symbol_is symbols.Dot l told e = sign_is (codes ".") symbols.Dot l refl e
symbol_is symbols.Arrow l told e = sign_is (codes "->") symbols.Arrow l refl e
symbol_is symbols.Bar l told e = sign_is (codes "|") symbols.Bar l refl e
symbol_is symbols.Other l told e = none_true told
