-- Laws about what stands behind the names of a path.
use Rattle.std.proofs.Common.{◌≡◌, ◌≤◌, nat_lt, length, if◌then◌else◌, List, [], ◌∷◌, refl, sym, ◌∙◌, le-ltb}
use Rattle.mof_metamodel.specs.declared.span.Span.{Span}
use Rattle.qv_syntax.specs.declared.name.Name.{Name}
use Rattle.qv_syntax.specs.declared.name.Path.{Path}
use Rattle.ocl_parser.specs.Moves.{path_by, after_path, to}
use Rattle.ql_lex.specs.declared.symbol.Symbol.{Symbol}
use Rattle.ql_lex.specs.declared.symbol.Symbol.TheVariants as symbols
use Rattle.ocl_parser.specs.declared.frame.Frame.{Frame}
use Rattle.ocl_parser.specs.declared.state.State.TheVariants as states

-- `(` behind several names ends the path
pub more_names : (names : List Name) (stack : List Frame) (path : Path) (span : Span) → (length names ≡ 1 → ⊥) → path_by names stack path symbols.OpenParenthesis span ≡ after_path stack path symbols.OpenParenthesis span
more_names [] stack path span several = refl
more_names (name ∷ []) stack path span several = absurd (several refl)
more_names (one ∷ two ∷ names) stack path span several = refl

pub next_name : (names : List Name) (stack : List Frame) (path : Path) (span : Span)
    → path_by names stack path symbols.DoubleColon span ≡ (if nat_lt (length names) 3 then to stack (states.PathName path) else after_path stack path symbols.DoubleColon span)
next_name [] stack path span = refl
next_name (name ∷ []) stack path span = refl
next_name (one ∷ two ∷ names) stack path span = refl

-- another symbol ends the path
pub path_ends : (names : List Name) (stack : List Frame) (path : Path) (symbol : Symbol) (span : Span) → (symbol ≡ symbols.OpenParenthesis → ⊥) → (symbol ≡ symbols.DoubleColon → ⊥)
    → path_by names stack path symbol span ≡ after_path stack path symbol span
path_ends [] stack path symbols.DoubleColon span a b = absurd (b refl)
path_ends [] stack path _ span a b = refl
path_ends (name ∷ []) stack path symbols.OpenParenthesis span a b = absurd (a refl)
path_ends (name ∷ []) stack path symbols.DoubleColon span a b = absurd (b refl)
path_ends (name ∷ []) stack path _ span a b = refl
path_ends (one ∷ two ∷ names) stack path symbols.DoubleColon span a b = absurd (b refl)
path_ends (one ∷ two ∷ names) stack path _ span a b = refl

-- the same, as the code finds it
pub call_ends : (names : List Name) (stack : List Frame) (path : Path) (span : Span) → names ≡ path.names → (length path.names ≡ 1 → ⊥)
    → after_path stack (record { names = names; span = path.span }) symbols.OpenParenthesis span ≡ path_by path.names stack path symbols.OpenParenthesis span
call_ends names stack path span e several = rw e (sym (more_names path.names stack path span several))

pub names_full : (stack : List Frame) (path : Path) (symbol : Symbol) (span : Span) → symbol ≡ symbols.DoubleColon → 3 ≤ length path.names
    → after_path stack path symbols.DoubleColon span ≡ path_by path.names stack path symbol span
names_full stack path symbol span e full = rw e (sym (next_name path.names stack path span ∙ (rw (le-ltb (length path.names) 3 full) refl)))
