-- Which value of JSON is which trace, without a reader: objects have their members in the order of their names, each once.
use Rattle.std.specs.Prelude.{◌≡◌, ℕ, ℤ, List, [], ◌∷◌, Bool, codes, chars, Some}
use Rattle.serde_json.specs.Data.{Num, unsigned, Data, boolean, number, string, array, object, Items, no_items, item, no_members, member}
use Rattle.serde_json.specs.Find.{as_i64}
use Rattle.trace_log.specs.declared.trace.Trace.{Trace}
use Rattle.trace_log.specs.declared.trace.TraceEntry.{TraceEntry}
use Rattle.trace_log.specs.declared.trace.TraceDemand.{TraceDemand}
use Rattle.trace_log.specs.declared.trace.TracePair.{TracePair}
use Rattle.trace_log.specs.declared.trace.TraceTerm.{TraceTerm}
use Rattle.trace_log.specs.declared.trace.TraceValue.{TraceValue}
use Rattle.trace_log.specs.declared.trace.TraceValue.TheVariants as values
use Rattle.trace_log.specs.TraceValues.{pair, term}

-- a value by its one member
abbrev pub one : List ℕ → Data → Data
one name d = object (member name d no_members)

-- a list of two
abbrev pub two : Data → Data → Data
two d e = array (item d (item e no_items))

mutual
  -- the value of JSON is this value
  pub data IsValue : Data → TraceValue → Type 0 where
    text : (s : List ℕ) → IsValue (one (codes "s") (string s)) (values.Str (chars s))
    integer : (n : Num) (i : ℤ) → as_i64 n ≡ Some i → IsValue (one (codes "i") (number n)) (values.Int i)
    flag : (b : Bool) → IsValue (one (codes "b") (boolean b)) (values.Bool b)
    literal : (s : List ℕ) → IsValue (one (codes "e") (string s)) (values.Lit (chars s))
    source : (model id : List ℕ) → IsValue (one (codes "o") (two (string model) (string id))) (values.Obj (chars model) (chars id))
    target : (d : Data) (t : TraceTerm) → IsTerm d t → IsValue (one (codes "t") d) (values.Term t)

  -- the content of a value is this term
  pub data IsTerm : Data → TraceTerm → Type 0 where
    keyed : (class : List ℕ) (ds : Items) (ps : List TracePair) → ArePairs ds ps → IsTerm (two (string class) (array ds)) (term (chars class) ps)

  -- the value of JSON is this pair
  pub data IsPair : Data → TracePair → Type 0 where
    named : (name : List ℕ) (d : Data) (v : TraceValue) → IsValue d v → IsPair (two (string name) d) (pair (chars name) v)

  -- the items are these pairs
  pub data ArePairs : Items → List TracePair → Type 0 where
    none : ArePairs no_items []
    first : (d : Data) (p : TracePair) (ds : Items) (ps : List TracePair) → IsPair d p → ArePairs ds ps → ArePairs (item d ds) (p ∷ ps)

-- each item is the one of the list at its place
abbrev pub AreAll : {X : Type 0} → (Data → X → Type 0) → Items → List X → Type 0
AreAll Is no_items [] = Unit {0}
AreAll Is no_items (x ∷ xs) = ⊥
AreAll Is (item d ds) [] = ⊥
AreAll Is (item d ds) (x ∷ xs) = Is d x × AreAll Is ds xs

-- the value of JSON is this demand, at a term
pub data IsDemand : Data → TraceDemand → Type 0 where
  demand : (name : List ℕ) (place d : Data) (t : TraceTerm) (v : TraceValue) → IsTerm place t → IsValue d v
      → IsDemand (object (member (codes "item") (string name)
      (member (codes "place") (one (codes "t") place) (member (codes "value") d no_members))))
      (record { item = chars name; place = t; value = v })

-- the value of JSON is this entry
pub data IsEntry : Data → TraceEntry → Type 0 where
  entry : (b : Bool) (ds ms vs : Items) (name : List ℕ) (demands : List TraceDemand) (made values : List TracePair)
      → AreAll IsDemand ds demands → ArePairs ms made → ArePairs vs values
      → IsEntry (object (member (codes "called") (boolean b)
      (member (codes "demands") (array ds)
      (member (codes "made") (array ms) (member (codes "relation") (string name) (member (codes "values") (array vs) no_members))))))
      (record { relation = chars name; called = b; values = values; made = made; demands = demands })

-- the value of JSON is this trace
pub data IsTrace : Data → Trace → Type 0 where
  trace : (ds : Items) (target transformation : List ℕ) (entries : List TraceEntry) → AreAll IsEntry ds entries
      → IsTrace (object (member (codes "entries") (array ds)
      (member (codes "target") (string target)
      (member (codes "transformation") (string transformation) (member (codes "version") (number (unsigned 1)) no_members)))))
      (record { transformation = chars transformation; target = chars target; entries = entries })
