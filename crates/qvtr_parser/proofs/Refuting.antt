-- Wrong answers that the definitions exclude, each on a small case: what the definition gives, and that it isn't what the wrong
-- code would answer. A contract says that the code's result is what the definition gives, so it refuses that code.
use Rattle.std.specs.Prelude.{◌≡◌, ℕ, true, false, List, [], ◌∷◌, codes, Ok, Err}
use Rattle.std.proofs.Common.{refl, ap, sym, ◌∙◌, arith, true≢false}
use Rattle.qv_syntax.specs.declared.script.TemplateTree.{TemplateTree}
use Rattle.ql_lex.specs.declared.token.TokenKind.{TokenKind}
use Rattle.ql_lex.specs.declared.token.TokenKind.TheVariants as kinds
use Rattle.ql_lex.specs.Lexed.{Lexeme}
use Rattle.ql_lex.specs.Lexemes.{name_text, stands}
use Rattle.ocl_parser.specs.Readings.{Read, name_read, path_read}
use Rattle.ocl_parser.specs.declared.limits.TheConstants.{MAX_NESTING}
use Rattle.ocl_parser.specs.declared.halt.Stop.TheVariants as stops
use Rattle.qvtr_parser.specs.Lists.{each_read}
use Rattle.qvtr_parser.specs.ScriptReadings.{declarations_read, goes_on, item_by, items_by, model_read, models_read, script_read, template_read}

-- tokens, whose places don't matter here
abbrev lexeme : TokenKind → List ℕ → Lexeme
lexeme kind text = record { token = record { kind = kind; span = record { start = 0; end = 0 } }; text = text }

abbrev sign : List ℕ → Lexeme
sign text = lexeme kinds.Sign text

abbrev name : List ℕ → Lexeme
name text = lexeme kinds.Name text

abbrev place_of : {A : Type 0} → Read A → ℕ
place_of (Ok found) = 0
place_of (Err (stops.Stuck at)) = at
place_of (Err (stops.Deep at)) = 0

no_value : {A : Type 0} (at : ℕ) (read : Read A) (found : A × ℕ) → read ≡ Err (stops.Deep at) → read ≡ Ok found → ⊥
no_value at read found deep ok = cc

-- ---- expressions one behind the other

-- `; }`
abbrev last_semicolon : List Lexeme
last_semicolon = sign (codes ";") ∷ sign (codes "}") ∷ []

pub ends_before_a_brace : goes_on last_semicolon 0 ≡ false
unfolding stands
ends_before_a_brace = refl

-- one more expression before the brace
pub semicolon_always_goes_on : goes_on last_semicolon 0 ≡ true → ⊥
semicolon_always_goes_on e = true≢false (sym e ∙ ends_before_a_brace)

-- ---- levels of nesting

-- `: A { b = : C { } }`
abbrev template_within : List Lexeme
template_within = sign (codes ":") ∷ name (codes "A") ∷ sign (codes "{") ∷ name (codes "b") ∷ sign (codes "=")
    ∷ sign (codes ":") ∷ name (codes "C") ∷ sign (codes "{") ∷ sign (codes "}") ∷ sign (codes "}") ∷ []

pub second_brace_too_deep : template_read template_within 1 0 ≡ Err (stops.Deep 7)
unfolding template_read items_by item_by name_read path_read name_text stands
second_brace_too_deep = refl

-- as many levels within a template as outside
pub levels_counted_anew_in_a_template : (found : TemplateTree × ℕ) → template_read template_within 1 0 ≡ Ok found → ⊥
levels_counted_anew_in_a_template found e = no_value 7 (template_read template_within 1 0) found second_brace_too_deep e

-- ---- faults

-- `transformation t ( m : M ) { } }`: nothing stands behind a script
abbrev brace_behind : List Lexeme
brace_behind = lexeme kinds.Reserved (codes "transformation") ∷ name (codes "t") ∷ sign (codes "(") ∷ name (codes "m") ∷ sign (codes ":") ∷ name (codes "M")
    ∷ sign (codes ")") ∷ sign (codes "{") ∷ sign (codes "}") ∷ sign (codes "}") ∷ []

pub fault_at_the_last_brace : script_read brace_behind MAX_NESTING ≡ Err (stops.Stuck 9)
unfolding script_read models_read model_read declarations_read each_read name_read name_text stands
fault_at_the_last_brace = refl

-- the fault at the token before
pub parse_told_at_the_token_before : script_read brace_behind MAX_NESTING ≡ Err (stops.Stuck 8) → ⊥
parse_told_at_the_token_before e = let apart : 9 ≡ 8 = ap place_of (sym fault_at_the_last_brace ∙ e) in absurd (omega (arith, apart))
