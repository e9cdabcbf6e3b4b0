-- A text is one script, or one error is told of it.
use Rattle.std.proofs.Common.{◌≡◌, ◌⊎◌, inl, inr, ℕ, List, length, Result, Ok, Err, ap, sym, ◌∙◌, refl, subst, arith}
use Rattle.std.specs.Prelude.{IfErr, IsOkUnless}
use Rattle.ocl_parser.specs.declared.limits.TheConstants.{MAX_NESTING}
use Rattle.ocl_parser.specs.declared.error.ParseError.{ParseError}
use Rattle.ocl_parser.specs.declared.error.ParseError.TheVariants as parser
use Rattle.ocl_parser.specs.declared.halt.Stop.TheVariants as stops
use Rattle.ocl_parser.specs.Places.{place_of}
use Rattle.ocl_parser.specs.Readings.{Read}
use Rattle.ql_lex.specs.Lexed.{Lexeme, LexedText, lexed}
use Rattle.ql_lex.specs.Tokens.{IsLexed}
use Rattle.ql_lex.specs.declared.fault.LexFault.{LexFault}
use Rattle.ql_lex.proofs.LexLaws.{lexed_is}
use Rattle.qv_syntax.specs.declared.script.Script.{Script}
use Rattle.qvtr_parser.specs.Answers.{result_of}
use Rattle.qvtr_parser.specs.ScriptReadings.{script_read}
use Rattle.qvtr_parser.proofs.OneAnswer.{answer_tells_exactly}
use Rattle.script_files.specs.declared.error.ScriptError.{ScriptError}
use Rattle.script_files.specs.declared.error.ScriptError.TheVariants as errors
use Rattle.script_files.specs.Scripts.{SpellsScript, IsParserError, IsUnparsed, IsScriptError, IsTold}

-- what is seen of a text with these tokens
abbrev seen : List ℕ → List Lexeme → LexedText
seen bytes ls = record { lexemes = ls; end = length bytes }

-- what reading these tokens answers
abbrev answer : List ℕ → List Lexeme → Result Script ParseError
answer bytes ls = result_of (seen bytes ls) (script_read ls MAX_NESTING)

-- reading the tokens of the text answers this
record Answered (bytes : List ℕ) (result : Result Script ParseError) : Type 0 where
  lexemes : List Lexeme
  tokens : IsLexed bytes lexemes
  is : answer bytes lexemes ≡ result

same_list : (a b : List Lexeme) (r : Result (List Lexeme) LexFault) → r ≡ Ok a → r ≡ Ok b → a ≡ b
same_list a b r p q = cc

no_list : {X : Type 0} (ls : List Lexeme) (f : LexFault) (r : Result (List Lexeme) LexFault) → r ≡ Ok ls → r ≡ Err f → X
no_list ls f r p q = absurd cc

-- a text has one list of tokens
one_list : (bytes : List ℕ) (a b : List Lexeme) → IsLexed bytes a → IsLexed bytes b → a ≡ b
one_list bytes a b p q = same_list a b (lexed bytes) ((lexed_is bytes a).1 p) ((lexed_is bytes b).1 q)

-- or a fault
lexed_alone : {X : Type 0} (bytes : List ℕ) (ls : List Lexeme) (f : LexFault) → IsLexed bytes ls → lexed bytes ≡ Err f → X
lexed_alone bytes ls f p e = no_list ls f (lexed bytes) ((lexed_is bytes ls).1 p) e

one_answer : (bytes : List ℕ) (a b : Result Script ParseError) → Answered bytes a → Answered bytes b → a ≡ b
one_answer bytes a b p q = sym p.is ∙ ap (answer bytes) (one_list bytes p.lexemes q.lexemes p.tokens q.tokens) ∙ q.is

-- what is told of a text is answered

of_script : (bytes : List ℕ) (s : Script) → SpellsScript bytes s → Answered bytes (Ok s)
of_script bytes s h =
    record { lexemes = h.lexemes; tokens = h.tokens; is = (answer_tells_exactly (seen bytes h.lexemes) MAX_NESTING (omega arith) (Ok s)).1 h.spelled }

of_parse : (bytes : List ℕ) (at : ℕ) → IsUnparsed bytes (errors.Parse at) → Answered bytes (Err (parser.Parse at))
of_parse bytes at h =
    record { lexemes = h.lexemes; tokens = h.tokens; is = (answer_tells_exactly (seen bytes h.lexemes) MAX_NESTING (omega arith) (Err (parser.Parse at))).1 h.told }

of_limit : (bytes : List ℕ) (at : ℕ) → IsUnparsed bytes (errors.Limit at) → Answered bytes (Err (parser.Limit at))
of_limit bytes at h =
    record { lexemes = h.lexemes; tokens = h.tokens; is = (answer_tells_exactly (seen bytes h.lexemes) MAX_NESTING (omega arith) (Err (parser.Limit at))).1 h.told }

-- ---- laws

same_script : (s t : Script) (a : Result Script ParseError) → a ≡ Ok s → a ≡ Ok t → s ≡ t
same_script s t a p q = cc

no_script : {X : Type 0} (s : Script) (e : ParseError) (a : Result Script ParseError) → a ≡ Ok s → a ≡ Err e → X
no_script s e a p q = absurd cc

pub one_script : (bytes : List ℕ) (a b : Script) → SpellsScript bytes a → SpellsScript bytes b → a ≡ b
one_script bytes a b p q = same_script a b (Ok a) refl (one_answer bytes (Ok a) (Ok b) (of_script bytes a p) (of_script bytes b q))

pub no_error : {X : Type 0} (bytes : List ℕ) (s : Script) (e : ScriptError) → SpellsScript bytes s → IsScriptError bytes e → IsTold e → X
no_error {X} bytes s (errors.Tokens f) p q told = lexed_alone bytes p.lexemes f p.tokens q
no_error {X} bytes s (errors.Parse at) p q told =
    no_script s (parser.Parse at) (Ok s) refl (one_answer bytes (Ok s) (Err (parser.Parse at)) (of_script bytes s p) (of_parse bytes at q))
no_error {X} bytes s (errors.Limit at) p q told =
    no_script s (parser.Limit at) (Ok s) refl (one_answer bytes (Ok s) (Err (parser.Limit at)) (of_script bytes s p) (of_limit bytes at q))
no_error {X} bytes s errors.NoMemory p q told = absurd (told refl)

-- of a text that spells a script nothing is answered but want of memory
pub only_spelled : (bytes : List ℕ) (s : Script) (e : ScriptError) → SpellsScript bytes s → IsScriptError bytes e → e ≡ errors.NoMemory
only_spelled bytes s (errors.Tokens f) p q = no_error bytes s (errors.Tokens f) p q (λ h. cc)
only_spelled bytes s (errors.Parse at) p q = no_error bytes s (errors.Parse at) p q (λ h. cc)
only_spelled bytes s (errors.Limit at) p q = no_error bytes s (errors.Limit at) p q (λ h. cc)
only_spelled bytes s errors.NoMemory p q = refl

pub only_answered : (r : Result Script ScriptError) (bytes : List ℕ) → IfErr r (IsScriptError bytes) → (s : Script) → SpellsScript bytes s → IsOkUnless r errors.NoMemory
only_answered (Ok x) bytes h s p = tt
only_answered (Err e) bytes h s p = only_spelled bytes s e p h

-- what is told of the tokens of a text is told of it
told_of_tokens : (bytes : List ℕ) (text : LexedText) (e : ScriptError) → IsLexed bytes text.lexemes → text.end ≡ length bytes → IsParserError text e → IsScriptError bytes e
told_of_tokens bytes text (errors.Tokens f) tokens end h = absurd h
told_of_tokens bytes text (errors.Parse at) tokens end h =
    record { lexemes = text.lexemes; tokens = tokens; told = subst (λ (n : ℕ). IsParserError (record { lexemes = text.lexemes; end = n }) (errors.Parse at)) end h }
told_of_tokens bytes text (errors.Limit at) tokens end h =
    record { lexemes = text.lexemes; tokens = tokens; told = subst (λ (n : ℕ). IsParserError (record { lexemes = text.lexemes; end = n }) (errors.Limit at)) end h }
told_of_tokens bytes text errors.NoMemory tokens end h = tt

pub parsed_told : (r : Result Script ScriptError) (bytes : List ℕ) (text : LexedText) → IsLexed bytes text.lexemes → text.end ≡ length bytes
    → IfErr r (IsParserError text) → IfErr r (IsScriptError bytes)
parsed_told (Ok s) bytes text tokens end h = tt
parsed_told (Err e) bytes text tokens end h = told_of_tokens bytes text e tokens end h

same_fault : (f g : LexFault) (r : Result (List Lexeme) LexFault) → r ≡ Err f → r ≡ Err g → errors.Tokens f ≡ errors.Tokens g
same_fault f g r p q = cc

same_parse : (at to : ℕ) (a : Result Script ParseError) → a ≡ Err (parser.Parse at) → a ≡ Err (parser.Parse to) → errors.Parse at ≡ errors.Parse to
same_parse at to a p q = cc

same_limit : (at to : ℕ) (a : Result Script ParseError) → a ≡ Err (parser.Limit at) → a ≡ Err (parser.Limit to) → errors.Limit at ≡ errors.Limit to
same_limit at to a p q = cc

not_both : {X : Type 0} (at to : ℕ) (a : Result Script ParseError) → a ≡ Err (parser.Parse at) → a ≡ Err (parser.Limit to) → X
not_both at to a p q = absurd cc

pub one_error : (bytes : List ℕ) (e f : ScriptError) → IsTold e → IsTold f → IsScriptError bytes e → IsScriptError bytes f → e ≡ f
one_error bytes (errors.Tokens a) (errors.Tokens b) m n p q = same_fault a b (lexed bytes) p q
one_error bytes (errors.Tokens a) (errors.Parse to) m n p q = lexed_alone bytes q.lexemes a q.tokens p
one_error bytes (errors.Tokens a) (errors.Limit to) m n p q = lexed_alone bytes q.lexemes a q.tokens p
one_error bytes (errors.Tokens a) errors.NoMemory m n p q = absurd (n refl)
one_error bytes (errors.Parse at) (errors.Tokens b) m n p q = lexed_alone bytes p.lexemes b p.tokens q
one_error bytes (errors.Parse at) (errors.Parse to) m n p q =
    same_parse at to (Err (parser.Parse at)) refl (one_answer bytes (Err (parser.Parse at)) (Err (parser.Parse to)) (of_parse bytes at p) (of_parse bytes to q))
one_error bytes (errors.Parse at) (errors.Limit to) m n p q =
    not_both at to (Err (parser.Parse at)) refl (one_answer bytes (Err (parser.Parse at)) (Err (parser.Limit to)) (of_parse bytes at p) (of_limit bytes to q))
one_error bytes (errors.Parse at) errors.NoMemory m n p q = absurd (n refl)
one_error bytes (errors.Limit at) (errors.Tokens b) m n p q = lexed_alone bytes p.lexemes b p.tokens q
one_error bytes (errors.Limit at) (errors.Parse to) m n p q =
    not_both to at (Err (parser.Parse to)) refl (one_answer bytes (Err (parser.Parse to)) (Err (parser.Limit at)) (of_parse bytes to q) (of_limit bytes at p))
one_error bytes (errors.Limit at) (errors.Limit to) m n p q =
    same_limit at to (Err (parser.Limit at)) refl (one_answer bytes (Err (parser.Limit at)) (Err (parser.Limit to)) (of_limit bytes at p) (of_limit bytes to q))
one_error bytes (errors.Limit at) errors.NoMemory m n p q = absurd (n refl)
one_error bytes errors.NoMemory f m n p q = absurd (m refl)

-- a text is a script, or an error is told of it
abbrev IsEither : List ℕ → Type 0
IsEither bytes = ((s : Script) × SpellsScript bytes s) ⊎ ((e : ScriptError) × IsTold e × IsScriptError bytes e)

either_read : (bytes : List ℕ) (ls : List Lexeme) → IsLexed bytes ls → (m : Read Script) → script_read ls MAX_NESTING ≡ m → IsEither bytes
either_read bytes ls tokens (Ok found) e =
    inl (found.0, record { lexemes = ls; tokens = tokens; spelled = (answer_tells_exactly (seen bytes ls) MAX_NESTING (omega arith) (Ok found.0)).0 (ap (result_of (seen bytes ls)) e) })
either_read bytes ls tokens (Err (stops.Stuck k)) e =
    let at : ℕ = place_of (seen bytes ls) k in
    inr (errors.Parse at, (λ h. cc), record { lexemes = ls; tokens = tokens; told = (answer_tells_exactly (seen bytes ls) MAX_NESTING (omega arith) (Err (parser.Parse at))).0 (ap (result_of (seen bytes ls)) e) })
either_read bytes ls tokens (Err (stops.Deep k)) e =
    let at : ℕ = place_of (seen bytes ls) k in
    inr (errors.Limit at, (λ h. cc), record { lexemes = ls; tokens = tokens; told = (answer_tells_exactly (seen bytes ls) MAX_NESTING (omega arith) (Err (parser.Limit at))).0 (ap (result_of (seen bytes ls)) e) })

either_lexed : (bytes : List ℕ) (r : Result (List Lexeme) LexFault) → lexed bytes ≡ r → IsEither bytes
either_lexed bytes (Ok ls) e = either_read bytes ls ((lexed_is bytes ls).0 e) (script_read ls MAX_NESTING) refl
either_lexed bytes (Err f) e = inr (errors.Tokens f, (λ h. cc), e)

pub each_told : (bytes : List ℕ) → IsEither bytes
each_told bytes = either_lexed bytes (lexed bytes) refl
