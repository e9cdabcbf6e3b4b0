-- What may stand behind a name with which an expression begins: no sign that would make it a variable.
use Rattle.std.proofs.Common.{◌≡◌, ℕ, ◌+◌, ◌<◌, ◌≤◌, Bool, true, false, List, [], ◌∷◌, drop, slice_get}
use Rattle.std.proofs.Common.{get_or, length, ◌⊎◌, inl, inr, Option, None, Some, ap, sym, ◌∙◌, refl, true≢false}
use Rattle.std.specs.Prelude.{codes}
use Rattle.std.proofs.lemmas.List.{drop_more}
use Rattle.std.proofs.lemmas.Option.{slice_get_cases}
use Rattle.std.proofs.Math.ListN.{drop_of_length-le}
use Rattle.mof_metamodel.specs.declared.span.Span.{Span}
use Rattle.ql_lex.specs.Lexed.{Lexeme}
use Rattle.qv_syntax.specs.declared.name.Name.{Name}
use Rattle.ocl_parser.specs.Pieces.{◌▸◌, name, sign, each}
use Rattle.ql_lex.specs.Lexemes.{is_sign, is_name, stands}
use Rattle.ql_lex.specs.Symbols.{symbol_of}
use Rattle.ocl_parser.specs.Moves.{Move, move}
use Rattle.ocl_parser.specs.Runs.{run, ended_by}
use Rattle.ql_lex.specs.Symbols.{nowhere}
use Rattle.ql_lex.specs.declared.symbol.Symbol.{Symbol}
use Rattle.ql_lex.specs.declared.symbol.Symbol.TheVariants as symbols
use Rattle.ocl_parser.specs.declared.frame.Frame.{Frame}
use Rattle.ocl_parser.specs.declared.state.State.{State}
use Rattle.ql_lex.proofs.TokenLaws.{stands_some, stands_none}
use Rattle.ocl_parser.proofs.SymbolLaws.{test_of, is_told, tested, symbol_is}
use Rattle.ocl_parser.proofs.CompleteRuns.{going, moved, coming, there}
use Rattle.ocl_parser.proofs.CompletePieces.{parts, taken}
use Rattle.ocl_parser.proofs.CompletePaths.{further_names}

-- ---- two states from which each symbol leads the same way

pub same_here : (levels : ℕ) (ts : List Lexeme) (k : ℕ) (stack stack' : List Frame) (state place' : State)
    → ((s : Symbol) (span : Span) → (is_told s ≡ true → stands (test_of s) ts k ≡ true) → move stack state s span ≡ move stack' place' s span)
    → going levels ts stack state k ≡ going levels ts stack' place' k
unfolding going run
same_here levels ts k stack stack' state place' m = by (slice_get_cases ts k).1
  where
    by : ((x : Lexeme) × (k < length ts) × (slice_get ts k ≡ Some x) × (get_or ts k x ≡ x)) ⊎ ((length ts ≤ k) × (slice_get ts k ≡ None))
        → run levels (drop k ts) stack state k ≡ run levels (drop k ts) stack' place' k
    by (inl c) =
        let l : Lexeme = c.0 in
        let ls : List Lexeme = drop (k + 1) ts in
        let d : drop k ts ≡ l ∷ ls = drop_more ts k l c.1 ∙ ap (λ (x : Lexeme). x ∷ ls) c.3 in
        let e = m (symbol_of l) l.token.span (λ told. stands_some (test_of (symbol_of l)) ts k l c.2 ∙ tested l) in
        rw d (moved levels l ls stack state k ∙ ap (coming levels ls k) e ∙ sym (moved levels l ls stack' place' k))
    by (inr c) =
        let e = m symbols.Other nowhere (λ told. cc) in
        rw (drop_of_length-le ts c.0) (ap (λ (x : Move). ended_by x.action k) e)

abbrev pub name_of : Symbol → Option Name
name_of (symbols.Name x) = Some x
name_of s = None

-- the signs behind a variable
abbrev pub is_typing : Symbol → Bool
is_typing symbols.Colon = true
is_typing symbols.Bar = true
is_typing s = false

-- none of these signs stands at a number
abbrev pub IsPlain : List Lexeme → ℕ → Type 0
IsPlain ts k = (stands (is_sign (codes ":")) ts k ≡ false) × (stands (is_sign (codes "|")) ts k ≡ false)

absent : (passes : Lexeme → Bool) (ts : List Lexeme) (k : ℕ) → (stands passes ts k ≡ true → ⊥) → stands passes ts k ≡ false
absent passes ts k h = by (stands passes ts k) refl
  where
    by : (b : Bool) → stands passes ts k ≡ b → b ≡ false
    by true e = absurd (h e)
    by false e = refl

-- one token at a number has one symbol
pub one_symbol : (ts : List Lexeme) (k : ℕ) (s t : Symbol) → is_told s ≡ true → is_told t ≡ true → stands (test_of s) ts k ≡ true → stands (test_of t) ts k ≡ true
    → s ≡ t
one_symbol ts k s t told told' e f =
    let a = there (test_of s) ts k e in
    let l : Lexeme = a.0 in
    let g : test_of t l ≡ true = sym (stands_some (test_of t) ts k l a.1) ∙ f in
    sym (symbol_is s l told a.2) ∙ symbol_is t l told' g

pub plain_at : (ts : List Lexeme) (k : ℕ) (s : Symbol) → is_told s ≡ true → is_typing s ≡ false → stands (test_of s) ts k ≡ true → IsPlain ts k
plain_at ts k s told typing e = (
  absent (is_sign (codes ":")) ts k (λ f. (let h : symbols.Colon ≡ s = one_symbol ts k symbols.Colon s refl told f e in true≢false (ap is_typing h ∙ typing))),
  absent (is_sign (codes "|")) ts k (λ f. (let h : symbols.Bar ≡ s = one_symbol ts k symbols.Bar s refl told f e in true≢false (ap is_typing h ∙ typing))),
)

pub not_typing : (ts : List Lexeme) (k : ℕ) (s : Symbol) → IsPlain ts k → (is_told s ≡ true → stands (test_of s) ts k ≡ true) → is_typing s ≡ false
not_typing ts k symbols.Colon plain h = absurd (true≢false (sym (h refl) ∙ plain.0))
not_typing ts k symbols.Bar plain h = absurd (true≢false (sym (h refl) ∙ plain.1))
not_typing ts k s plain h = refl

-- behind a name of a path stands `::` or what stands behind the path
pub plain_names : (ts : List Lexeme) (rest : List Name) (n i j : ℕ) → further_names ts rest n i ≡ Some j → (j ≡ i) ⊎ IsPlain ts i
unfolding each
plain_names ts [] n i j e = inl cc
plain_names ts (y ∷ rest) n i j e =
    let a = parts (sign ts (codes "::") ▸ name ts y) (further_names ts rest) n i j e in
    let b = parts (sign ts (codes "::")) (name ts y) n i a.0 a.1 in
    let c = taken (is_sign (codes "::")) ts n i b.0 b.1 in
    inr (plain_at ts i symbols.DoubleColon refl refl c.0)

-- a name stands at a number, or none
named_is : (s : Symbol) (v : Name) → name_of s ≡ Some v → s ≡ symbols.Name v
named_is (symbols.Name x) v e = let same : x ≡ v = cc in ap symbols.Name same
named_is s v e = cc

pub named_or_not : (ts : List Lexeme) (i : ℕ) → ((v : Name) × (stands (is_name v) ts i ≡ true)) ⊎ ((v : Name) → stands (is_name v) ts i ≡ true → ⊥)
named_or_not ts i = by (slice_get ts i) refl
  where
    named : (l : Lexeme) (o : Option Name) → slice_get ts i ≡ Some l → name_of (symbol_of l) ≡ o
        → ((v : Name) × (stands (is_name v) ts i ≡ true)) ⊎ ((v : Name) → stands (is_name v) ts i ≡ true → ⊥)
    named l (Some v) is e = inl (v, stands_some (is_name v) ts i l is ∙ ap (λ (s : Symbol). test_of s l) (sym (named_is (symbol_of l) v e)) ∙ tested l)
    named l None is e = inr (λ v f.
        let s : symbol_of l ≡ symbols.Name v = symbol_is (symbols.Name v) l refl (sym (stands_some (is_name v) ts i l is) ∙ f) in
        let g : Option.None ≡ Some v = sym e ∙ ap name_of s in
        cc)

    by : (o : Option Lexeme) → slice_get ts i ≡ o → ((v : Name) × (stands (is_name v) ts i ≡ true)) ⊎ ((v : Name) → stands (is_name v) ts i ≡ true → ⊥)
    by None is = inr (λ v f. true≢false (sym f ∙ stands_none (is_name v) ts i is))
    by (Some l) is = named l (name_of (symbol_of l)) is refl

pub not_named : (ts : List Lexeme) (i : ℕ) (s : Symbol) → ((v : Name) → stands (is_name v) ts i ≡ true → ⊥) → (is_told s ≡ true → stands (test_of s) ts i ≡ true)
    → name_of s ≡ None
not_named ts i (symbols.Name v) none h = absurd (none v (h refl))
not_named ts i s none h = refl
