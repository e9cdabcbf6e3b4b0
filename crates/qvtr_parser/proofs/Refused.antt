-- Where reading a script stops no script goes on.
use Rattle.std.proofs.Common.{◌≡◌, ap, ℕ, ◌+◌, ◌<◌, ◌≤◌, true, List, ◌++◌, length, take, Ok, Err, sym, ◌∙◌, refl, subst, arith}
use Rattle.ql_lex.specs.Lexed.{Lexeme}
use Rattle.ql_lex.specs.Lexemes.{stands}
use Rattle.qv_syntax.specs.declared.script.Script.{Script}
use Rattle.ocl_parser.specs.Beginnings.{opens}
use Rattle.ocl_parser.specs.Readings.{Read}
use Rattle.ocl_parser.specs.declared.halt.Stop.{Stop}
use Rattle.ocl_parser.specs.declared.halt.Stop.TheVariants as stops
use Rattle.qvtr_parser.specs.Beginnings.{Begins, BeginsWithin}
use Rattle.qvtr_parser.specs.Grammar.{IsScriptWithin}
use Rattle.qvtr_parser.specs.ScriptReadings.{script_read}
use Rattle.qvtr_parser.proofs.CompleteLists.{stands_before}
use Rattle.qvtr_parser.proofs.CompleteScripts.{script_complete}
use Rattle.qvtr_parser.proofs.Found.{script_found}
use Rattle.qvtr_parser.proofs.FoundLaws.{same_ok}
use Rattle.qvtr_parser.proofs.Told.{Levels, Same, number_of}
use Rattle.qvtr_parser.proofs.ToldLists.{ends_at}
use Rattle.qvtr_parser.proofs.EndedExprs.{begun_same}
use Rattle.qvtr_parser.proofs.ToldScripts.{script_told}

abbrev answered : Script → ℕ → Read Script
answered s end = Ok (s, end)

abbrev stopped : Stop → Read Script
stopped s = Err s

-- a reading that is refused is refused in each text that begins so, with as many levels or more
refused_again : (ts us : List Lexeme) (n w k : ℕ) → script_read ts n ≡ Err (stops.Stuck k) → n ≤ w → Same ts us (k + 1) → script_read us w ≡ Err (stops.Stuck k)
refused_again ts us n w k e wide same =
    let here : Same ts us (number_of ends_at (script_read ts n) + 1) = subst (λ (q : Read Script). Same ts us (number_of ends_at q + 1)) (sym e) same in
    let levels : Levels n w (script_read ts n) = subst (Levels n w) (sym e) wide in
    script_told.alike ts us n w tt here levels ∙ e

read_again : (ts : List Lexeme) (n w : ℕ) (s : Script) → IsScriptWithin ts n s → n ≤ w → script_read ts w ≡ Ok (s, length ts)
read_again ts n w s h wide =
    let e = script_complete ts n s h in
    let levels : Levels n w (script_read ts n) = subst (Levels n w) (sym e) wide in
    script_told.alike ts ts n w tt refl levels ∙ e

never : {X : Type 0} (s : Script) (end : ℕ) (stop : Stop) → stopped stop ≡ answered s end → X
never s end stop h = cc

-- no script is read where reading is stuck, whatever the levels, nor in a text that goes on behind the token at which it is
pub stuck_none : (ts : List Lexeme) (n k : ℕ) → script_read ts n ≡ Err (stops.Stuck k) → (m : ℕ) (s : Script) → ¬ IsScriptWithin ts m s
stuck_none ts n k e m s h = never s (length ts) (stops.Stuck k) (sym (refused_again ts ts n (n + m) k e (omega arith) refl) ∙ read_again ts m (n + m) s h (omega arith))

pub stuck_within : (ts : List Lexeme) (n k : ℕ) → script_read ts n ≡ Err (stops.Stuck k) → k ≤ length ts
stuck_within ts n k e = subst (λ (q : Read Script). number_of ends_at q ≤ length ts) e (script_told.within ts n tt (omega arith))

pub stuck_refuses : (ts : List Lexeme) (n k : ℕ) → script_read ts n ≡ Err (stops.Stuck k) → k < length ts → ¬ Begins ts (k + 1)
stuck_refuses ts n k e less b =
    let us : List Lexeme = take (k + 1) ts ++ b.1.more in
    never b.1.script (length us) (stops.Stuck k) (sym (refused_again ts us n (n + b.0) k e (omega arith) (begun_same ts b.1.more k less)) ∙ read_again us b.0 (n + b.0) b.1.script b.1.spelled (omega arith))

-- where a level is missing none that nests within the levels begins so
pub deep_opens : (ts : List Lexeme) (n k : ℕ) → script_read ts n ≡ Err (stops.Deep k) → stands opens ts k ≡ true
deep_opens ts n k e = script_told.opens ts n tt k e

pub deep_refuses : (ts : List Lexeme) (n k : ℕ) → script_read ts n ≡ Err (stops.Deep k) → ¬ BeginsWithin ts n (k + 1)
deep_refuses ts n k e b =
    let us : List Lexeme = take (k + 1) ts ++ b.more in
    let same : Same ts us (k + 1) = begun_same ts b.more k (stands_before opens ts k (deep_opens ts n k e)) in
    let here : Same ts us (number_of ends_at (script_read ts n) + 1) = subst (λ (q : Read Script). Same ts us (number_of ends_at q + 1)) (sym e) same in
    let levels : Levels n n (script_read ts n) = subst (Levels n n) (sym e) refl in
    never b.script (length us) (stops.Deep k) (sym (script_told.alike ts us n n tt here levels ∙ e) ∙ script_complete us n b.script b.spelled)

-- ---- one script

same_read : (s t : Script) (end : ℕ) → answered s end ≡ answered t end → s ≡ t
same_read s t end h = ap (λ (x : Script × ℕ). x.0) (same_ok (s, end) (t, end) h)

pub one_script : (ts : List Lexeme) (n m : ℕ) (s t : Script) → IsScriptWithin ts n s → IsScriptWithin ts m t → s ≡ t
one_script ts n m s t a b = same_read s t (length ts) (sym (read_again ts n (n + m) s a (omega arith)) ∙ read_again ts m (n + m) t b (omega arith))

pub script_wider : (ts : List Lexeme) (n m : ℕ) (s : Script) → IsScriptWithin ts n s → n ≤ m → IsScriptWithin ts m s
script_wider ts n m s a wide = script_found ts m (s, length ts) (read_again ts n m s a wide)
