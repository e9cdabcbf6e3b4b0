-- Of all results but want of memory one alone is told of a script.
use Rattle.std.proofs.Common.{◌≡◌, ℕ, ◌+◌, ◌<◌, ◌≤◌, ◌↔◌, Bool, true, false, nat_lt, List, [], ◌++◌, length, take, drop, Result, Ok, Err, ap, sym, ◌∙◌, refl, subst, arith}
use Rattle.std.proofs.lemmas.Bool.Decides.{nat_tests}
use Rattle.std.proofs.lemmas.List.{append-nil, append_assoc, take-append-drop, take-take, take_all}
use Rattle.ql_lex.specs.Lexed.{Lexeme, LexedText}
use Rattle.qv_syntax.specs.declared.script.Script.{Script}
use Rattle.ocl_parser.specs.Beginnings.{opens}
use Rattle.ocl_parser.specs.Places.{place_of}
use Rattle.ocl_parser.specs.Readings.{Read}
use Rattle.ocl_parser.specs.declared.error.ParseError.{ParseError}
use Rattle.ocl_parser.specs.declared.error.ParseError.TheVariants as errors
use Rattle.ocl_parser.specs.declared.halt.Stop.TheVariants as stops
use Rattle.qvtr_parser.specs.Answers.{Answers, Tells, result_of}
use Rattle.qvtr_parser.specs.Beginnings.{BeginsWithin, IsRefused, IsTooDeep}
use Rattle.qvtr_parser.specs.Grammar.{IsScriptWithin}
use Rattle.qvtr_parser.specs.ScriptReadings.{script_read}
use Rattle.qvtr_parser.proofs.CompleteLists.{stands_before}
use Rattle.qvtr_parser.proofs.Refused.{one_script}
use Rattle.qvtr_parser.proofs.Tells.{answer_tells}

pub begins_before : (ts : List Lexeme) (levels j k : ℕ) → j ≤ k → BeginsWithin ts levels k → BeginsWithin ts levels j
begins_before ts levels j k less b =
    let rest : List Lexeme = drop j (take k ts) in
    let halves : take k ts ≡ take j ts ++ rest = sym (take-append-drop j (take k ts)) ∙ ap (λ (ls : List Lexeme). ls ++ rest) (take-take j k ts less) in
    let same : take k ts ++ b.more ≡ take j ts ++ (rest ++ b.more) = ap (λ (ls : List Lexeme). ls ++ b.more) halves ∙ append_assoc (take j ts) rest b.more in
    record { more = rest ++ b.more; script = b.script; spelled = subst (λ (ls : List Lexeme). IsScriptWithin ls levels b.script) same b.spelled }

-- ---- faults

-- none is refused at one token that goes on at it with another
refused_before : (ts : List Lexeme) (levels j k n : ℕ) → IsRefused ts levels j → j < k → k ≤ length ts → BeginsWithin ts n k → ⊥
refused_before ts levels j k n r less within b = r.refused (omega (arith, less, within)) (n, begins_before ts n (j + 1) k (omega (arith, less)) b)

refused_one : (ts : List Lexeme) (levels j k : ℕ) → IsRefused ts levels j → IsRefused ts levels k → j ≡ k
refused_one ts levels j k a b = by (nat_lt j k) refl (nat_lt k j) refl
  where
    by : (p : Bool) → nat_lt j k ≡ p → (q : Bool) → nat_lt k j ≡ q → j ≡ k
    by true p q r = absurd (refused_before ts levels j k b.begins.0 a (grind (arith, nat_tests)) b.within b.begins.1)
    by false p true r = absurd (refused_before ts levels k j a.begins.0 b (grind (arith, nat_tests)) a.within a.begins.1)
    by false p false r = grind (arith, nat_tests)

deep_before : (ts : List Lexeme) (levels j k : ℕ) → IsTooDeep ts levels j → IsTooDeep ts levels k → j < k → ⊥
deep_before ts levels j k a b less = a.deep (b.first j less a.opens)

deep_one : (ts : List Lexeme) (levels j k : ℕ) → IsTooDeep ts levels j → IsTooDeep ts levels k → j ≡ k
deep_one ts levels j k a b = by (nat_lt j k) refl (nat_lt k j) refl
  where
    by : (p : Bool) → nat_lt j k ≡ p → (q : Bool) → nat_lt k j ≡ q → j ≡ k
    by true p q r = absurd (deep_before ts levels j k a b (grind (arith, nat_tests)))
    by false p true r = absurd (deep_before ts levels k j b a (grind (arith, nat_tests)))
    by false p false r = grind (arith, nat_tests)

refused_deep : {X : Type 0} (ts : List Lexeme) (levels j k : ℕ) → IsRefused ts levels j → IsTooDeep ts levels k → X
refused_deep {X} ts levels j k a b = by (nat_lt k j) refl
  where
    by : (p : Bool) → nat_lt k j ≡ p → X
    by true p = absurd (b.deep (a.shallow k (grind (arith, nat_tests)) b.opens))
    by false p =
        let not_less : j ≤ k = grind (arith, nat_tests) in
        let there : k < length ts = stands_before opens ts k b.opens in
        absurd (refused_before ts levels j (k + 1) b.begins.0 a (omega (arith, not_less)) (omega (arith, there)) b.begins.1)

script_refused : {X : Type 0} (ts : List Lexeme) (levels k : ℕ) (s : Script) → IsScriptWithin ts levels s → IsRefused ts levels k → X
script_refused ts levels k s h r = absurd (r.none levels s h)

script_deep : {X : Type 0} (ts : List Lexeme) (levels k : ℕ) (s : Script) → IsScriptWithin ts levels s → IsTooDeep ts levels k → X
script_deep ts levels k s h d =
    let all : take (length ts) ts ++ [] ≡ ts = append-nil (take (length ts) ts) ∙ take_all (length ts) ts (omega arith) in
    let b : BeginsWithin ts levels (length ts) = record { more = []; script = s; spelled = subst (λ (ls : List Lexeme). IsScriptWithin ls levels s) (sym all) h } in
    let there : k < length ts = stands_before opens ts k d.opens in
    absurd (d.deep (begins_before ts levels (k + 1) (length ts) (omega (arith, there)) b))

-- ---- answers

abbrev Told : Result Script ParseError → Type 0
Told result = result ≡ Err errors.NoMemory → ⊥

parse_same : (text : LexedText) (i j at to : ℕ) → at ≡ place_of text i → to ≡ place_of text j → i ≡ j → at ≡ to
parse_same text i j at to a b h = a ∙ ap (place_of text) h ∙ sym b

one_told : (text : LexedText) (levels : ℕ) (a b : Result Script ParseError) → Told a → Told b → Tells text levels a → Tells text levels b → a ≡ b
one_told text levels (Ok s) (Ok t) m n p q = ap (λ (x : Script). Ok x) (one_script text.lexemes levels levels s t p q)
one_told text levels (Ok s) (Err (errors.Parse at)) m n p q = script_refused text.lexemes levels q.0 s p q.1
one_told text levels (Ok s) (Err (errors.Limit at)) m n p q = script_deep text.lexemes levels q.0 s p q.1
one_told text levels (Ok s) (Err errors.NoMemory) m n p q = absurd (n refl)
one_told text levels (Err (errors.Parse at)) (Ok s) m n p q = script_refused text.lexemes levels p.0 s q p.1
one_told text levels (Err (errors.Parse at)) (Err (errors.Parse to)) m n p q = ap (λ (x : ℕ). Err (errors.Parse x)) (parse_same text p.0 q.0 at to p.2 q.2 (refused_one text.lexemes levels p.0 q.0 p.1 q.1))
one_told text levels (Err (errors.Parse at)) (Err (errors.Limit to)) m n p q = refused_deep text.lexemes levels p.0 q.0 p.1 q.1
one_told text levels (Err (errors.Parse at)) (Err errors.NoMemory) m n p q = absurd (n refl)
one_told text levels (Err (errors.Limit at)) (Ok s) m n p q = script_deep text.lexemes levels p.0 s q p.1
one_told text levels (Err (errors.Limit at)) (Err (errors.Parse to)) m n p q = refused_deep text.lexemes levels q.0 p.0 q.1 p.1
one_told text levels (Err (errors.Limit at)) (Err (errors.Limit to)) m n p q = ap (λ (x : ℕ). Err (errors.Limit x)) (parse_same text p.0 q.0 at to p.2 q.2 (deep_one text.lexemes levels p.0 q.0 p.1 q.1))
one_told text levels (Err (errors.Limit at)) (Err errors.NoMemory) m n p q = absurd (n refl)
one_told text levels (Err errors.NoMemory) b m n p q = absurd (m refl)

-- what reading answers is told
read_told : (text : LexedText) (levels : ℕ) → 3 ≤ levels → (m : Read Script) → script_read text.lexemes levels ≡ m → Told (result_of text m) × Tells text levels (result_of text m)
read_told text levels some (Ok x) e = (λ h. cc, answer_tells text levels some (Ok x.0) (ap (result_of text) e))
read_told text levels some (Err (stops.Stuck k)) e = (λ h. cc, answer_tells text levels some (Err (errors.Parse (place_of text k))) (ap (result_of text) e))
read_told text levels some (Err (stops.Deep k)) e = (λ h. cc, answer_tells text levels some (Err (errors.Limit (place_of text k))) (ap (result_of text) e))

tells_answer : (text : LexedText) (levels : ℕ) → 3 ≤ levels → (result : Result Script ParseError) → Tells text levels result → Answers text (script_read text.lexemes levels) result
tells_answer text levels some (Ok s) h = (let r = read_told text levels some (script_read text.lexemes levels) refl in one_told text levels (result_of text (script_read text.lexemes levels)) (Ok s) r.0 (λ e. cc) r.1 h)
tells_answer text levels some (Err (errors.Parse at)) h =
    (let r = read_told text levels some (script_read text.lexemes levels) refl in one_told text levels (result_of text (script_read text.lexemes levels)) (Err (errors.Parse at)) r.0 (λ e. cc) r.1 h)
tells_answer text levels some (Err (errors.Limit at)) h =
    (let r = read_told text levels some (script_read text.lexemes levels) refl in one_told text levels (result_of text (script_read text.lexemes levels)) (Err (errors.Limit at)) r.0 (λ e. cc) r.1 h)
tells_answer text levels some (Err errors.NoMemory) h = tt

pub answer_tells_exactly : (text : LexedText) (levels : ℕ) → 3 ≤ levels → (result : Result Script ParseError) → Answers text (script_read text.lexemes levels) result ↔ Tells text levels result
answer_tells_exactly text levels some result = (answer_tells text levels some result, tells_answer text levels some result)
