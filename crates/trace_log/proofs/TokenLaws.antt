-- The tokens of what is written of a trace, one part behind the other.
use Rattle.std.proofs.Common.{◌≡◌, ℕ, Bool, List, [], ◌∷◌, ◌++◌, map, refl, sym, ap, ◌∙◌, append_assoc}
use Rattle.std.specs.Prelude.{codes, encode_utf8_all}
use Rattle.std.specs.List.{flat_map}
use Rattle.json.specs.Token.{Token, begin_object, end_object, begin_array, end_array, key, string}
use Rattle.json.specs.Tree.{items_tokens}
use Rattle.serde_json.specs.Data.{Data}
use Rattle.serde_json.specs.View.{items_of}
use Rattle.serde_json.specs.Written.{items_outline}
use Rattle.trace_log.specs.declared.trace.Trace.{Trace}
use Rattle.trace_log.specs.declared.trace.TraceDemand.{TraceDemand}
use Rattle.trace_log.specs.declared.trace.TraceEntry.{TraceEntry}
use Rattle.trace_log.specs.declared.trace.TracePair.{TracePair}
use Rattle.trace_log.specs.declared.trace.TraceValue.{TraceValue}
use Rattle.trace_log.specs.TraceForms.{one}
use Rattle.trace_log.specs.TraceValues.{pair, term}
use Rattle.trace_log.specs.TraceData.{list_data, value_data, pair_data, term_data, entry_data, trace_data}
use Rattle.trace_log.specs.TraceTokens.{data_tokens, pairs_tokens, term_end, pair_end}
use Rattle.trace_log.proofs.DataLaws.{named_data, keyed_data}

-- what is written behind what is written
pub after : (old mid new a b : List Token) → mid ≡ old ++ a → new ≡ mid ++ b → new ≡ old ++ (a ++ b)
after old mid new a b e f = f ∙ ap (λ ts. ts ++ b) e ∙ append_assoc old a b

-- the same of seven parts
pub seven : (t₀ t₁ t₂ t₃ t₄ t₅ t₆ t₇ a b c d e f g : List Token) → t₁ ≡ t₀ ++ a → t₂ ≡ t₁ ++ b → t₃ ≡ t₂ ++ c → t₄ ≡ t₃ ++ d → t₅ ≡ t₄ ++ e
    → t₆ ≡ t₅ ++ f → t₇ ≡ t₆ ++ g → t₇ ≡ t₀ ++ (a ++ (b ++ (c ++ (d ++ (e ++ (f ++ g))))))
seven t₀ t₁ t₂ t₃ t₄ t₅ t₆ t₇ a b c d e f g ha hb hc hd he hf hg =
    after t₀ t₁ t₇ a (b ++ (c ++ (d ++ (e ++ (f ++ g))))) ha
    (after t₁ t₂ t₇ b (c ++ (d ++ (e ++ (f ++ g)))) hb
    (after t₂ t₃ t₇ c (d ++ (e ++ (f ++ g))) hc
    (after t₃ t₄ t₇ d (e ++ (f ++ g)) hd (after t₄ t₅ t₇ e (f ++ g) he (after t₅ t₆ t₇ f g hf hg)))))

-- ---- lists, terms and pairs

list_tokens : {X : Type 0} (f : X → Data) (xs : List X)
    → items_tokens (items_outline (items_of (map f xs))) ≡ flat_map (λ x. data_tokens (f x)) xs ++ end_array ∷ []
list_tokens f [] = refl
list_tokens f (x ∷ xs) =
    ap (λ ts. data_tokens (f x) ++ ts) (list_tokens f xs)
    ∙ sym (append_assoc (data_tokens (f x)) (flat_map (λ y. data_tokens (f y)) xs) (end_array ∷ []))

pub list_written : {X : Type 0} (f : X → Data) (xs : List X)
    → data_tokens (list_data (map f xs)) ≡ begin_array ∷ (flat_map (λ x. data_tokens (f x)) xs ++ end_array ∷ [])
list_written f xs = ap (λ ts. begin_array ∷ ts) (list_tokens f xs)

closed : (ts : List Token) → ((ts ++ end_array ∷ []) ++ end_array ∷ []) ++ end_object ∷ [] ≡ ts ++ term_end
closed ts = simp append_assoc

pub term_written : (class : List ℕ) (ps : List TracePair) → data_tokens (one (codes "t") (term_data (term class ps)))
    ≡ begin_object ∷ key (codes "t") ∷ begin_array ∷ string (encode_utf8_all class) ∷ begin_array ∷ (pairs_tokens ps ++ term_end)
term_written class ps =
    let begun = λ (ts : List Token). begin_object ∷ key (codes "t") ∷ begin_array ∷ string (encode_utf8_all class) ∷ begin_array ∷ ts in
    ap (λ d. data_tokens (one (codes "t") d)) (keyed_data class ps)
    ∙ ap (λ (ts : List Token). begun ((ts ++ end_array ∷ []) ++ end_object ∷ [])) (list_tokens pair_data ps)
    ∙ ap begun (closed (pairs_tokens ps))

pub pair_written : (name : List ℕ) (v : TraceValue) → data_tokens (pair_data (pair name v))
    ≡ begin_array ∷ string (encode_utf8_all name) ∷ (data_tokens (value_data v) ++ end_array ∷ [])
pair_written name v = ap data_tokens (named_data name v)

-- the end of a pair is that of its term and its own
pub ended : (ps : List TracePair) → pairs_tokens ps ++ pair_end ≡ (pairs_tokens ps ++ term_end) ++ end_array ∷ []
ended ps = sym (append_assoc (pairs_tokens ps) term_end (end_array ∷ []))

-- ---- entries and traces, by lists that are theirs

abbrev entry_tokens : Bool → List TraceDemand → List TracePair → List ℕ → List TracePair → List Token
entry_tokens called demands made relation values =
    data_tokens (entry_data (record { relation = relation; called = called; values = values; made = made; demands = demands }))

pub entry_written : (x : TraceEntry) (demands : List TraceDemand) (made values : List TracePair)
    → demands ≡ x.demands → made ≡ x.made → values ≡ x.values → entry_tokens x.called demands made x.relation values ≡ data_tokens (entry_data x)
entry_written x demands made values e f g =
    ap (λ ds. entry_tokens x.called ds made x.relation values) e ∙ ap (λ ms. entry_tokens x.called x.demands ms x.relation values) f
    ∙ ap (λ vs. entry_tokens x.called x.demands x.made x.relation vs) g

abbrev trace_tokens : List ℕ → List ℕ → List TraceEntry → List Token
trace_tokens transformation target entries =
    data_tokens (trace_data (record { transformation = transformation; target = target; entries = entries }))

pub trace_written : (t : Trace) (entries : List TraceEntry) → entries ≡ t.entries
    → trace_tokens t.transformation t.target entries ≡ data_tokens (trace_data t)
trace_written t entries e = ap (λ es. trace_tokens t.transformation t.target es) e
