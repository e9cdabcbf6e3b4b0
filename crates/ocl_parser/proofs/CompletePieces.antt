-- What pieces that stand consist of.
use Rattle.std.proofs.Common.{◌≡◌, ℕ, ◌+◌, ◌-◌, Bool, true, false, ◌&&◌, List, Option, Some, None, ap, sym, ◌∙◌, refl, subst, arith}
use Rattle.std.specs.Prelude.{option_and_then, ◌==◌, if◌then◌else◌}
use Rattle.std.proofs.lemmas.Bool.Decides.{nat_tests}
use Rattle.mof_metamodel.specs.declared.span.Span.{Span}
use Rattle.ql_lex.specs.Lexed.{Lexeme}
use Rattle.ocl_parser.specs.Pieces.{Piece, ◌▸◌, token, nested, only, spanned}
use Rattle.ql_lex.specs.Lexemes.{stands, span_at, is_same_span}
use Rattle.std.proofs.lemmas.Bool.{and_parts}

some_is : (i j : ℕ) → Option.Some i ≡ Option.Some j → i ≡ j
some_is i j e = cc

pub parts : (p q : Piece) (n i j : ℕ) → (p ▸ q) n i ≡ Some j → (k : ℕ) × (p n i ≡ Some k) × (q n k ≡ Some j)
parts p q n i j e = by (p n i) refl e
  where
    by : (o : Option ℕ) → p n i ≡ o → option_and_then (q n) o ≡ Some j → (k : ℕ) × (p n i ≡ Some k) × (q n k ≡ Some j)
    by None a b = cc
    by (Some k) a b = (k, a, b)

pub taken : (passes : Lexeme → Bool) (ts : List Lexeme) (n i j : ℕ) → token passes ts n i ≡ Some j → (stands passes ts i ≡ true) × (j ≡ i + 1)
taken passes ts n i j e = by (stands passes ts i) e
  where
    by : (b : Bool) → (if b then Option.Some (i + 1) else None) ≡ Some j → (b ≡ true) × (j ≡ i + 1)
    by true a = (refl, sym (some_is (i + 1) j a))
    by false a = cc

pub held : (b : Bool) (p : Piece) (n i j : ℕ) → only b p n i ≡ Some j → (b ≡ true) × (p n i ≡ Some j)
held true p n i j e = (refl, e)
held false p n i j e = cc

same_fields : (a b : Span) → a.start ≡ b.start → a.end ≡ b.end → a ≡ b
same_fields a b starts ends = ap (λ (x : ℕ). record { start = x; end = a.end }) starts ∙ ap (λ (x : ℕ). record { start = b.start; end = x }) ends

pub same_spans : (a b : Span) → is_same_span a b ≡ true → a ≡ b
same_spans a b e =
    let at = and_parts (a.start == b.start) (a.end == b.end) e in
    same_fields a b (grind (arith, nat_tests)) (grind (arith, nat_tests))

pub at_span : (ts : List Lexeme) (span : Span) (p : Piece) (n i j : ℕ) → spanned ts span p n i ≡ Some j → (p n i ≡ Some j) × (span ≡ span_at ts i j)
at_span ts span p n i j e = by (p n i) e
  where
    so : (b : Bool) (k : ℕ) → is_same_span span (span_at ts i k) ≡ b → (if b then Option.Some k else None) ≡ Some j → (Option.Some k ≡ Some j) × (span ≡ span_at ts i j)
    so true k s a = let f : k ≡ j = some_is k j a in (a, same_spans span (span_at ts i k) s ∙ ap (span_at ts i) f)
    so false k s a = cc

    by : (o : Option ℕ) → option_and_then (λ end. if is_same_span span (span_at ts i end) then Some end else None) o ≡ Some j → (o ≡ Some j) × (span ≡ span_at ts i j)
    by None a = cc
    by (Some k) a = so (is_same_span span (span_at ts i k)) k refl a

pub within : (p : Piece) (n i j : ℕ) → nested p n i ≡ Some j → (m : ℕ) × (n ≡ m + 1) × (p m i ≡ Some j)
unfolding nested
within p n i j e = by (n == 0) refl e
  where
    by : (b : Bool) → (n == 0) ≡ b → (if b then None else p (n - 1) i) ≡ Some j → (m : ℕ) × (n ≡ m + 1) × (p m i ≡ Some j)
    by true a b = cc
    by false a b = let some : n ≡ n - 1 + 1 = grind (arith, nat_tests) in (n - 1, some, b)

-- a token and what stands behind it
pub token_first : (passes : Lexeme → Bool) (ts : List Lexeme) (q : Piece) (n i j : ℕ) → (token passes ts ▸ q) n i ≡ Some j
    → (stands passes ts i ≡ true) × (q n (i + 1) ≡ Some j)
token_first passes ts q n i j e =
    let a = parts (token passes ts) q n i j e in
    let b = taken passes ts n i a.0 a.1 in
    (b.0, subst (λ (x : ℕ). q n x ≡ Some j) b.1 a.2)

-- a token and what stands before it
pub token_last : (p : Piece) (passes : Lexeme → Bool) (ts : List Lexeme) (n i j : ℕ) → (p ▸ token passes ts) n i ≡ Some j
    → (k : ℕ) × (p n i ≡ Some k) × (stands passes ts k ≡ true) × (j ≡ k + 1)
token_last p passes ts n i j e =
    let a = parts p (token passes ts) n i j e in
    let b = taken passes ts n a.0 j a.2 in
    (a.0, a.1, b.0, b.1)

-- a piece between two tokens
pub bracketed : (opens closes : Lexeme → Bool) (ts : List Lexeme) (p : Piece) (n i j : ℕ) → (token opens ts ▸ p ▸ token closes ts) n i ≡ Some j
    → (k : ℕ) × (stands opens ts i ≡ true) × (p n (i + 1) ≡ Some k) × (stands closes ts k ≡ true) × (j ≡ k + 1)
bracketed opens closes ts p n i j e =
    let a = token_last (token opens ts ▸ p) closes ts n i j e in
    let b = token_first opens ts p n i a.0 a.1 in
    (a.0, b.0, b.1, a.2, a.3)
