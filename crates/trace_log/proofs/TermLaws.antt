-- Terms and pairs, by their fields as code reads them.
use Rattle.std.proofs.Common.{◌≡◌, List, [], ◌∷◌, ◌++◌, sym, ap, ◌∙◌, subst, append_assoc}
use Rattle.std.specs.Prelude.{ℕ, codes, encode_utf8_all}
use Rattle.json.specs.Token.{Token, begin_object, begin_array, end_array, key, string}
use Rattle.trace_log.specs.declared.trace.TracePair.{TracePair, out-TracePair, roll-out-TracePair}
use Rattle.trace_log.specs.declared.trace.TraceTerm.{TraceTerm, out-TraceTerm, roll-out-TraceTerm}
use Rattle.trace_log.specs.declared.trace.TraceValue.{TraceValue}
use Rattle.trace_log.specs.declared.trace.TraceValue.TheVariants as values
use Rattle.trace_log.specs.TraceForms.{one}
use Rattle.trace_log.specs.TraceValues.{pair, term}
use Rattle.trace_log.specs.TraceData.{value_data, pair_data, term_data}
use Rattle.trace_log.specs.TraceHeld.{IsText, IsHeldValue, IsHeldTerm, IsHeldPair, AreHeldPairs}
use Rattle.trace_log.specs.TraceTokens.{data_tokens, pairs_tokens, term_end}
use Rattle.trace_log.proofs.DataLaws.{target_data}
use Rattle.trace_log.proofs.TokenLaws.{term_written, pair_written}

pub term_is : (t : TraceTerm) (ps : List TracePair) → ps ≡ (out-TraceTerm t).keys → t ≡ term (out-TraceTerm t).class ps
term_is t ps e = sym (roll-out-TraceTerm t) ∙ ap (λ ks. term (out-TraceTerm t).class ks) (sym e)

pub pair_is : (p : TracePair) → p ≡ pair (out-TracePair p).name (out-TracePair p).value
pair_is p = sym (roll-out-TracePair p)

-- what is written of a term before its pairs
abbrev pub term_begin : List ℕ → List Token
term_begin class = begin_object ∷ key (codes "t") ∷ begin_array ∷ string (encode_utf8_all class) ∷ begin_array ∷ []

pub term_parts : (t : TraceTerm) (ps : List TracePair) → ps ≡ (out-TraceTerm t).keys
    → data_tokens (one (codes "t") (term_data t)) ≡ term_begin (out-TraceTerm t).class ++ (pairs_tokens ps ++ term_end)
term_parts t ps e = ap (λ u. data_tokens (one (codes "t") (term_data u))) (term_is t ps e) ∙ term_written (out-TraceTerm t).class ps

pub begun_term : (v : TraceValue) (t : TraceTerm) (ps : List TracePair) (old new : List Token) → v ≡ values.Term t → ps ≡ (out-TraceTerm t).keys
    → new ≡ old ++ term_begin (out-TraceTerm t).class → new ++ (pairs_tokens ps ++ term_end) ≡ old ++ data_tokens (value_data v)
begun_term v t ps old new is keys e =
    ap (λ ts. ts ++ (pairs_tokens ps ++ term_end)) e ∙ append_assoc old (term_begin (out-TraceTerm t).class) (pairs_tokens ps ++ term_end)
    ∙ ap (λ ts. old ++ ts) (sym (ap (λ w. data_tokens (value_data w)) is ∙ ap data_tokens (target_data t) ∙ term_parts t ps keys))

pub held_term : (t : TraceTerm) (ps : List TracePair) → ps ≡ (out-TraceTerm t).keys → IsText (out-TraceTerm t).class → AreHeldPairs ps → IsHeldTerm t
held_term t ps keys h hs = subst IsHeldTerm (sym (term_is t ps keys)) (IsHeldTerm.keyed (out-TraceTerm t).class ps h hs)

pub held_target : (v : TraceValue) (t : TraceTerm) (ps : List TracePair) → v ≡ values.Term t → ps ≡ (out-TraceTerm t).keys
    → IsText (out-TraceTerm t).class → AreHeldPairs ps → IsHeldValue v
held_target v t ps is keys h hs = subst IsHeldValue (sym is) (IsHeldValue.target t (held_term t ps keys h hs))

-- a pair whose name and value are written
pub pair_parts : (p : TracePair) → data_tokens (pair_data p)
    ≡ begin_array ∷ string (encode_utf8_all (out-TracePair p).name) ∷ (data_tokens (value_data (out-TracePair p).value) ++ end_array ∷ [])
pair_parts p = ap (λ q. data_tokens (pair_data q)) (pair_is p) ∙ pair_written (out-TracePair p).name (out-TracePair p).value

pub held_pair : (p : TracePair) → IsText (out-TracePair p).name → IsHeldValue (out-TracePair p).value → IsHeldPair p
held_pair p h k = subst IsHeldPair (sym (pair_is p)) (IsHeldPair.named (out-TracePair p).name (out-TracePair p).value h k)

-- a pair up to what is left of its value, and then all of it
pub begun_pair : (p : TracePair) (old named begun rest : List Token)
    → named ≡ old ++ (begin_array ∷ string (encode_utf8_all (out-TracePair p).name) ∷ [])
    → begun ++ rest ≡ named ++ data_tokens (value_data (out-TracePair p).value) → (begun ++ rest) ++ end_array ∷ [] ≡ old ++ data_tokens (pair_data p)
begun_pair p old named begun rest e f =
    let value = data_tokens (value_data (out-TracePair p).value) in
    let front = begin_array ∷ string (encode_utf8_all (out-TracePair p).name) ∷ [] in
    ap (λ ts. ts ++ end_array ∷ []) (f ∙ ap (λ ts. ts ++ value) e) ∙ append_assoc (old ++ front) value (end_array ∷ [])
    ∙ append_assoc old front (value ++ end_array ∷ []) ∙ ap (λ ts. old ++ ts) (sym (pair_parts p))
