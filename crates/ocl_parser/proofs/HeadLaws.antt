-- The tokens at the head of a `let` and of an iterator.
use Rattle.std.proofs.Common.{◌≡◌, ℕ, ◌+◌, true, List, Option, Some, None, refl}
use Rattle.std.specs.Prelude.{codes}
use Rattle.ql_lex.specs.Lexed.{Lexeme}
use Rattle.qv_syntax.specs.declared.name.Name.{Name}
use Rattle.qv_syntax.specs.declared.type_tree.TypeTree.{TypeTree}
use Rattle.ql_lex.specs.Lexemes.{stands, is_sign, is_name}
use Rattle.ocl_parser.specs.Grammar.{type_of, bound, optional_type, declared_variable}

pub bound_spelled : (ts : List Lexeme) (x : Name) (ty : TypeTree) (n j k l o p : ℕ) → stands (is_name x) ts j ≡ true → k ≡ j + 1 → stands (is_sign (codes ":")) ts k ≡ true → l ≡ k + 1 → type_of ts ty n l ≡ Some o
    → stands (is_sign (codes "=")) ts o ≡ true → p ≡ o + 1 → bound ts x ty n j ≡ Some p
unfolding bound
bound_spelled ts x ty n j k l o p w2 e2 w3 e3 s1 w4 e4 = rw (w2, ← e2, w3, ← e3, s1, w4, ← e4) refl

pub typed_spelled : (ts : List Lexeme) (ty : TypeTree) (n i k : ℕ) → stands (is_sign (codes ":")) ts i ≡ true → type_of ts ty n (i + 1) ≡ Some k → optional_type ts (Some ty) n i ≡ Some k
unfolding optional_type
typed_spelled ts ty n i k w e = rw (w, e) refl

pub untyped_spelled : (ts : List Lexeme) (n i : ℕ) → optional_type ts None n i ≡ Some i
unfolding optional_type
untyped_spelled ts n i = refl

pub variable_spelled : (ts : List Lexeme) (v : Name) (ty : Option TypeTree) (n j k l o p : ℕ) → stands (is_sign (codes "(")) ts j ≡ true → k ≡ j + 1 → stands (is_name v) ts k ≡ true → l ≡ k + 1
    → optional_type ts ty n l ≡ Some o → stands (is_sign (codes "|")) ts o ≡ true → p ≡ o + 1 → declared_variable ts v ty n j ≡ Some p
unfolding declared_variable
variable_spelled ts v ty n j k l o p opens e3 variable e4 typed bar e5 = rw (opens, ← e3, variable, ← e4, typed, bar, ← e5) refl
