-- The text of a trace is read as the trace, as no other, and no error is told of it.
use Rattle.std.proofs.Common.{◌≡◌, ℕ, ◌≤◌, List, [], ◌∷◌, ◌++◌, IsUtf8, Option, Some, Ok, Err, option_and_then, refl, sym, ap, ◌∙◌, subst, arith, append-nil}
use Rattle.std.proofs.lemmas.Option.{same_Some, none-some}
use Rattle.std.proofs.lemmas.Str.{IsUtf8-append}
use Rattle.json.specs.Json as json
use Rattle.json.specs.Print.{print}
use Rattle.json.specs.Token.{Token}
use Rattle.json.proofs.Printed.Trees.{value-json_tokens, ArePrintable-json_tokens}
use Rattle.json.proofs.Printed.Utf8.{IsUtf8-are_ascii}
use Rattle.serde_json.specs.Data.{Data, depth}
use Rattle.serde_json.specs.Read.{of_json, read, max_depth}
use Rattle.serde_json.specs.Written.{outline}
use Rattle.serde_json.proofs.Texts.{print-outline}
use Rattle.trace_log.specs.declared.trace.Trace.{Trace}
use Rattle.trace_log.specs.declared.trace.TraceError.{TraceError}
use Rattle.trace_log.specs.declared.trace.TraceError.TheVariants as errors
use Rattle.trace_log.specs.Readings.{Reading}
use Rattle.trace_log.specs.TraceEntries.{trace_of}
use Rattle.trace_log.specs.TraceData.{trace_data, text_of_trace}
use Rattle.trace_log.specs.TraceHeights.{IsLow}
use Rattle.trace_log.specs.TraceHeld.{IsHeld}
use Rattle.trace_log.specs.TraceTexts.{SpellsTrace, IsWhy}
use Rattle.trace_log.specs.TraceTokens.{data_tokens}
use Rattle.trace_log.proofs.FormLaws.{read_exactly}
use Rattle.trace_log.proofs.HeightLaws.{same_depth, trace_below}
use Rattle.trace_log.proofs.HeldLaws.{trace_form}
use Rattle.trace_log.proofs.LineLaws.{line_tokens}
use Rattle.trace_log.proofs.ReturnLaws.{Returns, trace_returns}
use Rattle.trace_log.proofs.TextLaws.{read_text}

-- the value of all tokens
abbrev whole : Option (json.Json × List Token) → Option Data
whole o = option_and_then of_json (option_and_then (λ p. json.if_last p.0 p.1) o)

line_read : (d : Data) → Returns d → depth d ≤ max_depth → read (print (data_tokens d) ++ 10 ∷ []) ≡ Some d
line_read d h shallow =
    let same = same_depth d in
    let ts = line_tokens (data_tokens d) (ArePrintable-json_tokens (outline d) h.numbers) in
    ap whole (ap (json.value max_depth) (ts ∙ sym (append-nil (data_tokens d)))
    ∙ value-json_tokens (outline d) max_depth [] (omega (arith, same, shallow)))
    ∙ h.back

-- the tokens with a line feed behind them are the text
pub text_is : (t : Trace) (ts : List Token) (line : List ℕ) → ts ≡ data_tokens (trace_data t) → line ≡ print ts → line ++ 10 ∷ [] ≡ text_of_trace t
text_is t ts line same e = ap (λ (text : List ℕ). text ++ 10 ∷ []) (e ∙ ap print same ∙ print-outline (trace_data t))

-- the text of a trace without high terms is this trace
pub spelled : (t : Trace) (ts : List Token) → ts ≡ data_tokens (trace_data t) → IsHeld t → IsUtf8 (print ts) → IsLow t
    → SpellsTrace (text_of_trace t) t
spelled t ts same h utf8 low =
    let d = trace_data t in
    let line = print (data_tokens d) in
    let spelt : IsUtf8 line = subst (λ (us : List Token). IsUtf8 (print us)) same utf8 in
    let spelled : IsUtf8 (line ++ 10 ∷ []) = IsUtf8-append line (10 ∷ []) spelt (IsUtf8-are_ascii (10 ∷ []) refl) in
    subst (λ (text : List ℕ). SpellsTrace (text ++ 10 ∷ []) t) (print-outline d)
    (record {
      value = d;
      read = read_text (line ++ 10 ∷ []) d spelled (line_read d (trace_returns t h) (trace_below t h low));
      form = trace_form t h;
    })

-- bytes are no two traces
pub one_spelled : (bytes : List ℕ) (t u : Trace) → SpellsTrace bytes t → SpellsTrace bytes u → t ≡ u
one_spelled bytes t u x y =
    let same : x.value ≡ y.value = same_Some x.value y.value (sym x.read ∙ y.read) in
    let read : ◌≡◌ {A = Reading Trace} (Ok t) (Ok u) =
    sym ((read_exactly x.value t).1 x.form) ∙ ap trace_of same ∙ (read_exactly y.value u).1 y.form in
    cc

-- and no error is told of a trace
pub no_error : (bytes : List ℕ) (t : Trace) (e : TraceError) → SpellsTrace bytes t → IsWhy bytes e → e ≡ errors.NoMemory
no_error bytes t errors.Syntax x y = absurd (none-some x.value (sym y ∙ x.read))
no_error bytes t (errors.Shape path) x y =
    let same : x.value ≡ y.value = same_Some x.value y.value (sym x.read ∙ y.read) in
    let wrong : trace_of x.value ≡ Err path = ap trace_of same ∙ y.first in
    let right : trace_of x.value ≡ Ok t = (read_exactly x.value t).1 x.form in
    absurd cc
no_error bytes t errors.NoMemory x y = refl
