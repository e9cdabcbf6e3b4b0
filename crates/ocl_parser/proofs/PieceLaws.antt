-- Laws about pieces of tokens.
use Rattle.std.proofs.Common.{◌≡◌, ℕ, ◌+◌, ◌-◌, ◌<◌, ◌≤◌, nat_eq, Bool, true, false, nat_lt, nat_le, List, [], ◌∷◌, ◌++◌, length, map, Option, Some, None, ap, ◌∙◌, refl, arith}
use Rattle.std.specs.Prelude.{option_and_then, codes}
use Rattle.std.proofs.lemmas.List.{map-append, length-map}
use Rattle.std.proofs.lemmas.Bool.Decides.{nat_tests}
use Rattle.ql_lex.specs.Lexed.{Lexeme}
use Rattle.qv_syntax.specs.declared.name.Name.{Name}
use Rattle.ocl_parser.specs.Pieces.{Piece, ◌▸◌, token, sign, name, nested, spanned, each, separated}
use Rattle.ql_lex.specs.Lexemes.{stands, is_sign, is_name, span_at}
use Rattle.ocl_parser.specs.Grammar.{names, path}
use Rattle.ql_lex.proofs.TokenLaws.{same_span}

-- one token
pub token_taken : (passes : Lexeme → Bool) (ts : List Lexeme) (n i : ℕ) → stands passes ts i ≡ true → token passes ts n i ≡ Some (i + 1)
token_taken passes ts n i e = rw e refl

-- one piece behind another
pub both : (p q : Piece) (n i j k : ℕ) → p n i ≡ Some j → q n j ≡ Some k → (p ▸ q) n i ≡ Some k
both p q n i j k a b = ap (option_and_then (q n)) a ∙ b

-- a piece inside a level
pub inside : (p : Piece) (n m i j : ℕ) → n ≡ m + 1 → p m i ≡ Some j → nested p n i ≡ Some j
unfolding nested
inside p n m i j e h =
    let some : nat_eq n 0 ≡ false = grind (arith, nat_tests) in
    let less : n - 1 ≡ m = omega arith in
    rw (some, less) h

-- a piece at its span
pub with_span : (ts : List Lexeme) (p : Piece) (n i j : ℕ) → p n i ≡ Some j → spanned ts (span_at ts i j) p n i ≡ Some j
with_span ts p n i j h = rw (h, same_span (span_at ts i j)) refl

after : (o : Option ℕ) (f g : ℕ → Option ℕ) (j k : ℕ) → ((m : ℕ) → f m ≡ Some j → g m ≡ Some k) → option_and_then f o ≡ Some j → option_and_then g o ≡ Some k
after None f g j k h a = cc
after (Some m) f g j k h a = h m a

-- pieces, and one behind them
pub each_none : (n i : ℕ) → each [] n i ≡ Some i
unfolding each
each_none n i = refl

pub each_more : (ps : List Piece) (q : Piece) (n i j k : ℕ) → each ps n i ≡ Some j → q n j ≡ Some k → each (ps ++ q ∷ []) n i ≡ Some k
unfolding each
each_more [] q n i j k a b = let e : i ≡ j = cc in rw e (ap (option_and_then (λ (x : ℕ). Some x)) b)
each_more (p ∷ ps) q n i j k a b = after (p n i) (each ps n) (each (ps ++ q ∷ []) n) j k (λ m x. each_more ps q n m j k x b) a

-- pieces with a sign between them, and one more
pub separated_none : (ts : List Lexeme) (text : List ℕ) (n i : ℕ) → separated ts text [] n i ≡ Some i
unfolding separated
separated_none ts text n i = refl

pub separated_one : (ts : List Lexeme) (text : List ℕ) (p : Piece) (n i j : ℕ) → p n i ≡ Some j → separated ts text (p ∷ []) n i ≡ Some j
unfolding separated each
separated_one ts text p n i j e = ap (option_and_then (λ (x : ℕ). Some x)) e

pub separated_more : (ts : List Lexeme) (text : List ℕ) (ps : List Piece) (q : Piece) (n i j k : ℕ) → 0 < length ps → separated ts text ps n i ≡ Some j → stands (is_sign text) ts j ≡ true → q n (j + 1) ≡ Some k
    → separated ts text (ps ++ q ∷ []) n i ≡ Some k
unfolding separated
separated_more ts text [] q n i j k some a e b = absurd (omega arith)
separated_more ts text (p ∷ ps) q n i j k some a e b =
    let g : Piece → Piece = λ r. sign ts text ▸ r in
    let one : g q n j ≡ Some k = both (sign ts text) q n j (j + 1) k (token_taken (is_sign text) ts n j e) b in
    let apart : map g (ps ++ q ∷ []) ≡ map g ps ++ g q ∷ [] = map-append g ps (q ∷ []) in
    after (p n i) (each (map g ps) n) (each (map g (ps ++ q ∷ [])) n) j k (λ m x. rw apart (each_more (map g ps) (g q) n m j k x one)) a

-- names
pub names_one : (ts : List Lexeme) (x : Name) (i : ℕ) → stands (is_name x) ts i ≡ true → (n : ℕ) → names ts (x ∷ []) n i ≡ Some (i + 1)
unfolding names
names_one ts x i e n = separated_one ts (codes "::") (name ts x) n i (i + 1) (token_taken (is_name x) ts n i e)

pub names_more : (ts : List Lexeme) (ns : List Name) (x : Name) (i j : ℕ) → 0 < length ns → ((n : ℕ) → names ts ns n i ≡ Some j) → stands (is_sign (codes "::")) ts j ≡ true → stands (is_name x) ts (j + 1) ≡ true
    → (n : ℕ) → names ts (ns ++ x ∷ []) n i ≡ Some (j + 1 + 1)
unfolding names
names_more ts ns x i j some a e b n =
    let apart : map (name ts) (ns ++ x ∷ []) ≡ map (name ts) ns ++ name ts x ∷ [] = map-append (name ts) ns (x ∷ []) in
    let there : 0 < length (map (name ts) ns) = omega (arith, length-map ns (name ts)) in
    rw apart (separated_more ts (codes "::") (map (name ts) ns) (name ts x) n i j (j + 1 + 1) there (a n) e (token_taken (is_name x) ts n (j + 1) b))

pub path_of : (ts : List Lexeme) (most : ℕ) (ns : List Name) (i j : ℕ) → 0 < length ns → length ns ≤ most → ((n : ℕ) → names ts ns n i ≡ Some j)
    → (n : ℕ) → path ts most (record { names = ns; span = span_at ts i j }) n i ≡ Some j
unfolding path
path_of ts most ns i j some few a n =
    let lower : nat_lt 0 (length ns) ≡ true = grind (arith, nat_tests) in
    let upper : nat_le (length ns) most ≡ true = grind (arith, nat_tests) in
    rw (lower, upper, a n, same_span (span_at ts i j)) refl

-- a level further in
pub nested_at : (p : Piece) (m i : ℕ) → nested p (m + 1) i ≡ p m i
unfolding nested
nested_at p m i =
    let some : nat_eq (m + 1) 0 ≡ false = grind (arith, nat_tests) in
    let less : m + 1 - 1 ≡ m = omega arith in
    rw (some, less) refl
