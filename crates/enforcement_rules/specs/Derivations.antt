-- What follows from rules on numbers, while it is derived: the numbers that are bound, the rules that are to be looked at, and those that
-- wait for a number.
use Rattle.std.specs.Prelude.{◌≡◌, ◌<◌, ℕ, ◌+◌, ◌*◌, Bool, true, false, if◌then◌else◌, List, [], ◌∷◌, ◌++◌, length, set, slice_index_or, Contains}
use Rattle.std.specs.List.{sum_by}

-- ---- what follows from rules

-- The least set of which each rule's number is one, if all that it asks for are.
pub data IsDerivedNumber (rules : List (ℕ × List ℕ)) : ℕ → Type 0 where
  by : (n : ℕ) (asked : List ℕ) → Contains rules (n, asked) → ((w : ℕ) → Contains asked w → IsDerivedNumber rules w) → IsDerivedNumber rules n

abbrev pub NumberRule : Type 0
NumberRule = ℕ × List ℕ

-- for each number whether it is bound, and the rules that wait for it; and the rules that are to be looked at
pub record Deriving : Type 0 where
  pub bound : List Bool
  pub waiting : List (List NumberRule)
  pub pending : List NumberRule

abbrev pub bound_at : Deriving → ℕ → Bool
bound_at st n = slice_index_or st.bound n false

abbrev pub waiting_at : Deriving → ℕ → List NumberRule
waiting_at st n = slice_index_or st.waiting n []

-- ---- steps

-- one more rule to be looked at
abbrev pub with_pending : Deriving → NumberRule → Deriving
with_pending st rule = record st { pending = st.pending ++ rule ∷ [] }

-- a number is bound: the rules that wait for it are looked at again
abbrev pub with_bound : Deriving → ℕ → Deriving
with_bound st n =
    if bound_at st n then st else record { bound = set st.bound n true; waiting = set st.waiting n []; pending = st.pending ++ waiting_at st n }

-- a rule that asks for one more number: it waits for that, unless it is bound
abbrev pub with_asked : Deriving → ℕ → List ℕ → ℕ → Deriving
with_asked st v asked n =
    if bound_at st n then with_pending st (v, asked) else record st { waiting = set st.waiting n (waiting_at st n ++ (v, asked) ∷ []) }

-- a rule is looked at: the last number that it asks for
pub data IsStep (st : Deriving) (v : ℕ) (asked : List ℕ) (after : Deriving) : Type 0 where
  met : asked ≡ [] → after ≡ with_bound st v → IsStep st v asked after
  next : (front : List ℕ) (n : ℕ) → asked ≡ front ++ n ∷ [] → after ≡ with_asked st v front n → IsStep st v asked after

-- ---- what is left to do

abbrev pub pending_weight : NumberRule → ℕ
pending_weight rule = 2 * length rule.1 + 2

abbrev pub waiting_weight : NumberRule → ℕ
waiting_weight rule = 2 * length rule.1 + 3

abbrev pub weight : Deriving → ℕ
weight st = sum_by pending_weight st.pending + sum_by (λ rules. sum_by waiting_weight rules) st.waiting

-- ---- what stays

abbrev pub IsRuleBelow : ℕ → NumberRule → Type 0
IsRuleBelow count rule = (rule.0 < count) × ((w : ℕ) → Contains rule.1 w → w < count)

-- what is bound is derived, and each rule stands for what it asked at first
abbrev pub Follows : List NumberRule → ℕ → List ℕ → Type 0
Follows rules v asked = ((w : ℕ) → Contains asked w → IsDerivedNumber rules w) → IsDerivedNumber rules v

abbrev pub AreAmong : List ℕ → List ℕ → Type 0
AreAmong some all = (w : ℕ) → Contains some w → Contains all w

pub data IsCovered (st : Deriving) (v : ℕ) (asked : List ℕ) : Type 0 where
  bound : bound_at st v ≡ true → IsCovered st v asked
  pending : (rest : List ℕ) → Contains st.pending (v, rest) → AreAmong rest asked → IsCovered st v asked
  waiting : (n : ℕ) (rest : List ℕ) → bound_at st n ≡ false → Contains asked n → Contains (waiting_at st n) (v, rest) → AreAmong rest asked → IsCovered st v asked

-- all numbers are below this one
pub record IsWithin (count : ℕ) (st : Deriving) : Type 0 where
  pub long : length st.bound ≡ count
  pub waiting_long : length st.waiting ≡ count
  pub pending_below : (rule : NumberRule) → Contains st.pending rule → IsRuleBelow count rule
  pub waiting_below : (n : ℕ) (rule : NumberRule) → Contains (waiting_at st n) rule → IsRuleBelow count rule

pub record IsUnderway (rules : List NumberRule) (st : Deriving) : Type 0 where
  pub sound : (n : ℕ) → bound_at st n ≡ true → IsDerivedNumber rules n
  pub pending_follow : (v : ℕ) (asked : List ℕ) → Contains st.pending (v, asked) → Follows rules v asked
  pub waiting_follow : (n v : ℕ) (asked : List ℕ) → Contains (waiting_at st n) (v, asked) → IsDerivedNumber rules n → Follows rules v asked
  pub covered : (v : ℕ) (asked : List ℕ) → Contains rules (v, asked) → IsCovered st v asked
