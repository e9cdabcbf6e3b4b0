-- The tokens of JSON that are written of a trace, for the code that writes them.
use Rattle.std.specs.Prelude.{◌≡◌, List, [], ◌∷◌, ◌++◌, Option, None, Some, Result, OnOk}
use Rattle.std.specs.List.{flat_map}
use denote.Ref.{Bor}
use Rattle.json.specs.Token.{Token, end_object, end_array}
use Rattle.json.specs.Tree.{json_tokens}
use Rattle.json.specs.Written.{Written}
use Rattle.serde_json.specs.Data.{Data}
use Rattle.serde_json.specs.Written.{outline}
use Rattle.trace_log.specs.declared.trace.TracePair.{TracePair}
use Rattle.trace_log.specs.TraceData.{pair_data}
use Rattle.trace_log.specs.TraceHeld.{AreHeldPairs}

abbrev pub data_tokens : Data → List Token
data_tokens d = json_tokens (outline d)

-- these tokens are written behind those before
abbrev pub Appends : {X E : Type 0} → Result X E → Written → Written → List Token → Type 0
Appends r old new ts = OnOk r ((new.before ≡ old.before) × (new.tokens ≡ old.tokens ++ ts))

abbrev pub pairs_tokens : List TracePair → List Token
pairs_tokens = flat_map (λ p. data_tokens (pair_data p))

-- what stands behind the pairs of a term that is a value
abbrev pub term_end : List Token
term_end = end_array ∷ end_array ∷ end_object ∷ []

-- the same within a pair
abbrev pub pair_end : List Token
pair_end = end_array ∷ end_array ∷ end_object ∷ end_array ∷ []

-- the pairs of a term that are left to be written
abbrev pub Keys : Type 0
Keys = Bor (List TracePair)

-- the same of terms that stand within one another, the innermost last
abbrev pub Left : Type 0
Left = List Keys

-- the tokens of these pairs, and what stands behind them; nothing, where there is no term
abbrev pub keys_left : List Token → Option Keys → List Token
keys_left behind None = []
keys_left behind (Some pairs) = pairs_tokens pairs.now ++ behind

abbrev pub left_tokens : Left → List Token
left_tokens [] = []
left_tokens (pairs ∷ inner) = left_tokens inner ++ (pairs_tokens pairs.now ++ pair_end)

abbrev pub AreHeldKeys : Option Keys → Type 0
AreHeldKeys None = Unit {0}
AreHeldKeys (Some pairs) = AreHeldPairs pairs.now

-- all of these pairs are held
abbrev pub AreAllHeld : Left → Type 0
AreAllHeld [] = Unit {0}
AreAllHeld (pairs ∷ inner) = AreHeldPairs pairs.now × AreAllHeld inner
