-- What holds of each trace in memory: its texts are characters (Unicode scalar values), and its integers have 64 bits with a sign.
use Rattle.std.specs.Prelude.{◌≡◌, ℕ, ℤ, List, [], ◌∷◌, Bool, All, FitsSigned, chars, encode_utf8_all}
use Rattle.std.specs.Int.{w64}
use Rattle.trace_log.specs.declared.trace.Trace.{Trace}
use Rattle.trace_log.specs.declared.trace.TraceDemand.{TraceDemand}
use Rattle.trace_log.specs.declared.trace.TraceEntry.{TraceEntry}
use Rattle.trace_log.specs.declared.trace.TracePair.{TracePair}
use Rattle.trace_log.specs.declared.trace.TraceTerm.{TraceTerm}
use Rattle.trace_log.specs.declared.trace.TraceValue.{TraceValue}
use Rattle.trace_log.specs.declared.trace.TraceValue.TheVariants as values
use Rattle.trace_log.specs.TraceValues.{pair, term}

-- UTF-8 has each character of the text
abbrev pub IsText : List ℕ → Type 0
IsText text = chars (encode_utf8_all text) ≡ text

mutual
  pub data IsHeldValue : TraceValue → Type 0 where
    text : (s : List ℕ) → IsText s → IsHeldValue (values.Str s)
    integer : (i : ℤ) → FitsSigned w64 i → IsHeldValue (values.Int i)
    flag : (b : Bool) → IsHeldValue (values.Bool b)
    literal : (s : List ℕ) → IsText s → IsHeldValue (values.Lit s)
    source : (model id : List ℕ) → IsText model → IsText id → IsHeldValue (values.Obj model id)
    target : (t : TraceTerm) → IsHeldTerm t → IsHeldValue (values.Term t)

  pub data IsHeldTerm : TraceTerm → Type 0 where
    keyed : (class : List ℕ) (ps : List TracePair) → IsText class → AreHeldPairs ps → IsHeldTerm (term class ps)

  pub data IsHeldPair : TracePair → Type 0 where
    named : (name : List ℕ) (v : TraceValue) → IsText name → IsHeldValue v → IsHeldPair (pair name v)

  pub data AreHeldPairs : List TracePair → Type 0 where
    none : AreHeldPairs []
    first : (p : TracePair) (ps : List TracePair) → IsHeldPair p → AreHeldPairs ps → AreHeldPairs (p ∷ ps)

pub record IsHeldDemand (x : TraceDemand) : Type 0 where
  pub item : IsText x.item
  pub place : IsHeldTerm x.place
  pub value : IsHeldValue x.value

pub record IsHeldEntry (x : TraceEntry) : Type 0 where
  pub relation : IsText x.relation
  pub values : AreHeldPairs x.values
  pub made : AreHeldPairs x.made
  pub demands : All IsHeldDemand x.demands

pub record IsHeld (t : Trace) : Type 0 where
  pub transformation : IsText t.transformation
  pub target : IsText t.target
  pub entries : All IsHeldEntry t.entries
