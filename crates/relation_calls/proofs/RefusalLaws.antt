-- Which chains are refused: a chain of distinct calls that isn't too long is none of them; one call more makes one where it is among
-- the others, or where they are as many as there may be.
use Rattle.std.specs.Prelude.{◌≡◌, ◌≢◌, ◌<◌, ◌≤◌, ◌-◌, ℕ, zero, suc, List, [], ◌∷◌, ◌++◌, length, get_or, Contains, AllPairs}
use Rattle.std.proofs.Common.{refl, sym, ap, subst, ◌∙◌, arith, inl, inr}
use Rattle.std.proofs.Math.Seq.{get_or-append_seam}
use Rattle.std.proofs.lemmas.List.{get_or_append_left, length-append}
use Rattle.std.proofs.lemmas.Bool.Decides.{eqb_tells}
use Rattle.qvtr_semantics.specs.declared.limits.TheConstants.{MAX_CALLS}
use Rattle.qvtr_semantics.specs.Calls.{RelationCall}
use Rattle.qvtr_semantics.specs.Chains.{IsCyclic, IsDeep}
use Rattle.relation_calls.specs.declared.name.CallName.{CallName}
use Rattle.relation_calls.specs.declared.error.CallError.TheVariants as errors
use Rattle.relation_calls.specs.Names.{chain_named}
use Rattle.relation_calls.specs.Seen.{IsBad}
use Rattle.relation_calls.specs.Faults.{IsFault}
use Rattle.relation_calls.specs.Visits.{IsChain}

abbrev Apart : RelationCall → RelationCall → Type 0
Apart c d = c ≢ d

pub length_more : {X : Type 0} (xs : List X) (x : X) → length (xs ++ x ∷ []) ≡ suc (length xs)
length_more xs x = let both = length-append xs (x ∷ []) in omega (arith, both)

-- ---- distinct calls

at_default : {X : Type 0} (xs : List X) (i : ℕ) (a b : X) → i < length xs → get_or xs i a ≡ get_or xs i b
at_default [] i a b within = absurd (omega (arith, within))
at_default (y ∷ ys) zero a b within = refl
at_default (y ∷ ys) (suc k) a b within = at_default ys k a b (omega (arith, within))

distinct_more : (upto : List RelationCall) (d : RelationCall) → AllPairs Apart upto → ¬ Contains upto d → AllPairs Apart (upto ++ d ∷ [])
distinct_more upto d distinct new i j x before within =
    let long = length_more upto d in
    elim (eqb_tells j (length upto)) [
      | inl last ↦ λ same. new (i, omega (arith, before, last.1), at_last i j x before last.1 same)
      | inr other ↦ let inside : j < length upto = omega (arith, within, long, other.1) in
          λ same. distinct i j x before inside
          (sym (get_or_append_left upto (d ∷ []) x i (omega (arith, before, inside))) ∙ same ∙ get_or_append_left upto (d ∷ []) x j inside)
    ]
  where
    at_last : (i j : ℕ) (x : RelationCall) → i < j → j ≡ length upto → get_or (upto ++ d ∷ []) i x ≡ get_or (upto ++ d ∷ []) j x → get_or upto i d ≡ d
    at_last i j x before is same =
        let inside : i < length upto = omega (arith, before, is) in
        at_default upto i d x inside ∙ sym (get_or_append_left upto (d ∷ []) x i inside) ∙ same
        ∙ ap (λ k. get_or (upto ++ d ∷ []) k x) is ∙ get_or-append_seam upto d [] x

-- ---- which chains are refused

-- calls that are distinct, and not too many, are fine
pub fine : (chain : List RelationCall) → IsChain chain → ¬ IsBad chain
fine chain whole (inl cyclic) =
    let (k, within, same) = cyclic.repeat in
    let distinct : AllPairs Apart (cyclic.before ++ cyclic.last ∷ []) = subst (AllPairs Apart) cyclic.is whole.distinct in
    let long = length_more cyclic.before cyclic.last in
    distinct k (length cyclic.before) cyclic.last within (omega (arith, long))
    (get_or_append_left cyclic.before (cyclic.last ∷ []) cyclic.last k within ∙ same ∙ sym (get_or-append_seam cyclic.before cyclic.last [] cyclic.last))
fine chain whole (inr deep) =
    let long = deep.calls in
    let few = whole.few in
    absurd (omega (arith, long, few))

-- a call more that isn't among the others
pub longer : (upto : List RelationCall) (d : RelationCall) → IsChain upto → ¬ Contains upto d → length upto < MAX_CALLS → IsChain (upto ++ d ∷ [])
longer upto d whole new room = record { few = let long = length_more upto d in omega (arith, long, room); distinct = distinct_more upto d whole.distinct new }

pub cyclic_with : (upto : List RelationCall) (d : RelationCall) → IsChain upto → Contains upto d → IsCyclic (upto ++ d ∷ [])
cyclic_with upto d whole among = record { before = upto; last = d; is = refl; distinct = whole.distinct; repeat = among }

pub deep_with : (upto : List RelationCall) (d : RelationCall) → IsChain upto → ¬ Contains upto d → MAX_CALLS ≤ length upto → IsDeep (upto ++ d ∷ [])
deep_with upto d whole new many = record { calls = let long = length_more upto d in let few = whole.few in omega (arith, long, few, many); distinct = distinct_more upto d whole.distinct new }

-- no call, and one alone
pub no_chain : IsChain []
no_chain = record { few = omega arith; distinct = λ i j x before within. absurd (omega (arith, within)) }

-- one call less is left
pub one_less : (upto : List RelationCall) (d : RelationCall) → length upto < MAX_CALLS → MAX_CALLS - length upto ≡ suc (MAX_CALLS - length (upto ++ d ∷ []))
one_less upto d room = let long = length_more upto d in omega (arith, long, room)

-- ---- one call more

module _ (upto : List RelationCall) (d : RelationCall) (names : List CallName) (is : chain_named names ≡ upto ++ d ∷ []) (whole : IsChain upto) where
  abbrev Longer : List RelationCall → Type 0
  Longer chain = chain ≡ upto ++ d ∷ []

  pub cycle_fault : Contains upto d → IsFault Longer (errors.Cycle names)
  cycle_fault among = (is, subst IsCyclic (sym is) (cyclic_with upto d whole among))

  pub deep_fault : ¬ Contains upto d → MAX_CALLS ≤ length upto → IsFault Longer (errors.Deep names)
  deep_fault new many = (is, subst IsDeep (sym is) (deep_with upto d whole new many))

  pub longer_chain : ¬ Contains upto d → length upto < MAX_CALLS → IsChain (chain_named names)
  longer_chain new room = subst IsChain (sym is) (longer upto d whole new room)
