-- Answers to calls in where clauses, kept for use behind other chains: a call whose chains are clean goes on by distinct calls alone, and
-- no chain from it comes back to a call that leads to it.
use Rattle.std.specs.Prelude.{◌≡◌, ◌⊎◌, ◌≤◌, ◌+◌, ◌-◌, ℕ, zero, suc, List, [], ◌∷◌, ◌++◌, length, Some, slice_get, Contains, Bool, IsTrue, ◌↔◌}
use Rattle.std.specs.BTreeMap.{get}
use Rattle.std.proofs.Common.{refl, sym, subst, ◌∙◌, arith, inl, inr}
use Rattle.std.proofs.lemmas.Bool.Decides.{leb_tells}
use Rattle.std.proofs.lemmas.List.{length-append}
use Rattle.std.proofs.lemmas.List.Elements.{Contains-append_right}
use Rattle.qvtr_semantics.specs.declared.limits.TheConstants.{MAX_CALLS}
use Rattle.object_tables.specs.Models.{ModelData}
use Rattle.qv_syntax.specs.declared.program.Program.{Program}
use Rattle.qv_syntax.specs.declared.program.Rel.{Rel}
use Rattle.qvtr_semantics.specs.Templates.{Values}
use Rattle.qvtr_semantics.specs.Bindings.{Source, Target}
use Rattle.qvtr_semantics.specs.Calls.{RelationCall, AllAsked, Match, HoldsFor, calls_of}
use Rattle.qvtr_semantics.specs.Chains.{CallsWhere, GoesOn, HoldsChain}
use Rattle.relation_calls.specs.declared.name.CallName.{CallName}
use Rattle.relation_calls.specs.declared.memo.Answer.{Answer}
use Rattle.relation_calls.specs.declared.memo.Memo.{Memo}
use Rattle.relation_calls.specs.Names.{chain_named}
use Rattle.relation_calls.specs.CallOrder.{call_order}
use Rattle.relation_calls.specs.Seen.{Seen, SeenBehind, AreClean, IsBad}
use Rattle.relation_calls.specs.Links.{IsLinked, AreLinked}
use Rattle.relation_calls.specs.Memos.{IsHeight, IsHolding, IsTold}
use Rattle.relation_calls.specs.Visits.{IsChain}
use Rattle.relation_calls.proofs.ChainLaws.{shift, holds_chains}
use Rattle.relation_calls.proofs.HeightLaws.{height_enough, heights_alike}
use Rattle.relation_calls.proofs.RefusalLaws.{fine, longer, cyclic_with, deep_with, length_more}
use Rattle.relation_calls.proofs.VisitLaws.{clean_from}

-- ---- chains that aren't refused

-- one call more is fine where the chain with it isn't refused
one_fine : (upto : List RelationCall) (d : RelationCall) → IsChain upto → ¬ IsBad (upto ++ d ∷ []) → IsChain (upto ++ d ∷ [])
one_fine upto d whole good = elim (leb_tells MAX_CALLS (length upto)) [
  | inl many ↦ absurd (good (inr (deep_with upto d whole (λ among. good (inl (cyclic_with upto d whole among))) many.1)))
  | inr room ↦ longer upto d whole (λ among. good (inl (cyclic_with upto d whole among))) (omega (arith, room.1))
]

without_first : (c : RelationCall) (cs : List RelationCall) → IsChain (c ∷ cs) → IsChain cs
without_first c cs whole =
    record {
      few = let few = whole.few in omega (arith, few);
      distinct = λ i j x before within. whole.distinct (suc i) (suc j) x (omega (arith, before)) (omega (arith, within));
    }

-- the end of a chain
behind : (upto cs : List RelationCall) → IsChain (upto ++ cs) → IsChain cs
behind [] cs whole = whole
behind (u ∷ upto) cs whole = behind upto cs (without_first u (upto ++ cs) whole)

-- the first call stands there once
first_once : (c : RelationCall) (cs : List RelationCall) → IsChain (c ∷ cs) → Contains cs c → ⊥
first_once c cs whole (k, within, is) = whole.distinct 0 (suc k) c (omega arith) (omega (arith, within)) (sym is)

module _ (program : Program) (models : List ModelData) where
  -- ---- chains that go on from a call

  linked_rest : (c : RelationCall) (cs : List RelationCall) → GoesOn program models c cs → IsLinked program models cs
  linked_rest c [] goes = tt
  linked_rest c (d ∷ cs) goes = goes.1

  -- a chain with one call more
  pub linked_more : (upto : List RelationCall) (c d : RelationCall) → IsLinked program models (upto ++ c ∷ []) → CallsWhere program models c d
      → IsLinked program models ((upto ++ c ∷ []) ++ d ∷ [])
  linked_more [] c d linked calls = (calls, tt)
  linked_more (u ∷ upto) c d linked calls = on u upto linked
    where
      on : (u : RelationCall) (us : List RelationCall) → GoesOn program models u (us ++ c ∷ []) → GoesOn program models u ((us ++ c ∷ []) ++ d ∷ [])
      on u [] goes = (goes.0, (calls, tt))
      on u (v ∷ vs) goes = (goes.0, on v vs goes.1)

  -- where a call behind a chain is one of it, it leads back to itself
  leads_back : (upto : List RelationCall) (d : RelationCall) → IsLinked program models (upto ++ d ∷ []) → Contains upto d → (rest : List RelationCall) × GoesOn program models d (rest ++ d ∷ [])
  leads_back [] d linked (k, within, is) = absurd (omega (arith, within))
  leads_back (u ∷ upto) d linked (zero, within, is) = (upto, subst (λ c. GoesOn program models c (upto ++ d ∷ [])) is linked)
  leads_back (u ∷ upto) d linked (suc k, within, is) = leads_back upto d (linked_rest u (upto ++ d ∷ []) linked) (k, omega (arith, within), is)

  -- ---- where all that is come to is clean

  clean_further : (upto : List RelationCall) (d e : RelationCall) → AreClean (SeenBehind program models upto d) → CallsWhere program models d e → AreClean (SeenBehind program models (upto ++ d ∷ []) e)
  clean_further upto d e clean calls = clean_from (SeenBehind program models upto d) (SeenBehind program models (upto ++ d ∷ []) e) into clean
    where
      into : (chain : List RelationCall) → SeenBehind program models (upto ++ d ∷ []) e chain → SeenBehind program models upto d chain
      into chain (inl is) = inr (subst (Seen program models (upto ++ d ∷ []) d) (sym is) (Seen.next (upto ++ d ∷ []) d e calls))
      into chain (inr seen) = inr (Seen.by_where (upto ++ d ∷ []) d e chain calls seen)

  goes_fine : (upto : List RelationCall) (d : RelationCall) (more : List RelationCall) → IsChain upto → AreClean (SeenBehind program models upto d) → GoesOn program models d more
      → IsChain (upto ++ d ∷ more)
  goes_fine upto d [] whole clean goes = one_fine upto d whole (clean (upto ++ d ∷ []) (inl refl))
  goes_fine upto d (e ∷ more) whole clean goes =
      subst IsChain (shift upto d (e ∷ more))
      (goes_fine (upto ++ d ∷ []) e more (one_fine upto d whole (clean (upto ++ d ∷ []) (inl refl))) (clean_further upto d e clean goes.0) goes.1)

  -- ---- what is come to goes on with the chain, or is come to behind any other

  either : (upto : List RelationCall) (c : RelationCall) (chain : List RelationCall) → Seen program models upto c chain
      → ((more : List RelationCall) × GoesOn program models c more × (chain ≡ upto ++ more)) ⊎ ((other : List RelationCall) → Seen program models other c chain)
  either upto c _ (Seen.next _ _ d calls) = inl (d ∷ [], (calls, tt), refl)
  either upto c chain (Seen.by_where _ _ d _ calls seen) = elim (either (upto ++ d ∷ []) d chain seen) [
    | inl on ↦ inl (d ∷ on.0, (calls, on.1), on.2 ∙ shift upto d on.0)
    | inr apart ↦ inr (λ other. Seen.by_where other c d chain calls (apart (other ++ d ∷ [])))
  ]
  either upto c chain (Seen.by_when _ _ d _ asks seen) = inr (λ other. Seen.by_when other c d chain asks seen)

  behind_either : (upto other : List RelationCall) (d : RelationCall) (chain : List RelationCall) → SeenBehind program models upto d chain
      → ((more : List RelationCall) × GoesOn program models d more × (chain ≡ upto ++ d ∷ more)) ⊎ SeenBehind program models other d chain
  behind_either upto other d chain (inl is) = inl ([], tt, is)
  behind_either upto other d chain (inr seen) = elim (either (upto ++ d ∷ []) d chain seen) [
    | inl on ↦ inl (on.0, on.1, on.2 ∙ shift upto d on.0)
    | inr apart ↦ inr (inr (apart (other ++ d ∷ [])))
  ]

  -- ---- what is kept of a call behind a chain

  module _ (upto : List RelationCall) (d : RelationCall) (whole : IsChain upto) (clean : AreClean (SeenBehind program models upto d)) where
    pub height_left : IsHeight program models d (MAX_CALLS - length upto)
    height_left [] of = absurd of
    height_left (first ∷ more) of =
        let few = (goes_fine upto d more whole clean of.1).few in
        let long = length-append upto (d ∷ more) in
        omega (arith, few, long)

    pub clean_alone : AreClean (SeenBehind program models [] d)
    clean_alone chain seen bad = elim (behind_either [] upto d chain seen) [
      | inl on ↦ fine (d ∷ on.0) (behind upto (d ∷ on.0) (goes_fine upto d on.0 whole clean on.1)) (subst IsBad on.2 bad)
      | inr apart ↦ clean chain apart bad
    ]

  -- ---- and of what use it is behind another

  -- the chains that begin with the call are fine
  abbrev GoesFine : RelationCall → Type 0
  GoesFine d = (more : List RelationCall) → GoesOn program models d more → IsChain (d ∷ more)

  never_back : (upto : List RelationCall) (d : RelationCall) → IsLinked program models (upto ++ d ∷ []) → GoesFine d → Contains upto d → ⊥
  never_back upto d linked good among =
      let (rest, goes) = leads_back upto d linked among in
      first_once d (rest ++ d ∷ []) (good (rest ++ d ∷ []) goes) (Contains-append_right rest (d ∷ []) d (0, omega arith, refl))

  stays_fine : (upto : List RelationCall) (d : RelationCall) (more : List RelationCall) → IsChain upto → IsLinked program models (upto ++ d ∷ []) → GoesFine d → GoesOn program models d more
      → length upto + length (d ∷ more) ≤ MAX_CALLS → IsChain (upto ++ d ∷ more)
  stays_fine upto d [] whole linked good goes few = longer upto d whole (never_back upto d linked good) (omega (arith, few))
  stays_fine upto d (e ∷ more) whole linked good goes few =
      let one = longer upto d whole (never_back upto d linked good) (omega (arith, few)) in
      let long = length_more upto d in
      subst IsChain (shift upto d (e ∷ more))
      (stays_fine (upto ++ d ∷ []) e more one (linked_more upto d e linked goes.0) (λ cs on. without_first d (e ∷ cs) (good (e ∷ cs) (goes.0, on))) goes.1 (omega (arith, few, long)))

  pub kept_clean : (upto : List RelationCall) (d : RelationCall) (h : ℕ) → IsChain upto → IsLinked program models (upto ++ d ∷ []) → AreClean (SeenBehind program models [] d)
      → IsHeight program models d h → h ≤ MAX_CALLS - length upto → AreClean (SeenBehind program models upto d)
  kept_clean upto d h whole linked clean high few chain seen bad =
      let none : IsChain [] = record { few = omega arith; distinct = λ i j x before within. absurd (omega (arith, within)) } in
      let good : GoesFine d = λ more goes. goes_fine [] d more none clean goes in
      elim (behind_either upto [] d chain seen) [
        | inl on ↦ let long = high (d ∷ on.0) (refl, on.1) in
            let some = whole.few in
            fine (upto ++ d ∷ on.0) (stays_fine upto d on.0 whole linked good on.1 (omega (arith, long, few, some))) (subst IsBad on.2 bad)
        | inr apart ↦ clean chain apart bad
      ]

  -- ---- the calls of a visit

  pub linked_first : (names : List CallName) → names ≡ [] → (d : RelationCall) → IsLinked program models (chain_named names ++ d ∷ [])
  linked_first names none d = subst (λ (ns : List CallName). IsLinked program models (chain_named ns ++ d ∷ [])) (sym none) tt

  pub linked_behind : (upto : List RelationCall) (d e : RelationCall) (names : List CallName) → chain_named names ≡ upto ++ d ∷ [] → IsLinked program models (upto ++ d ∷ []) → CallsWhere program models d e
      → IsLinked program models (chain_named names ++ e ∷ [])
  linked_behind upto d e names is linked calls = subst (λ u. IsLinked program models (u ++ e ∷ [])) (sym is) (linked_more upto d e linked calls)

  pub all_linked : (upto : List RelationCall) (rel : Rel) (c : RelationCall) (bs : List Values) → slice_get program.rels c.rel ≡ Some rel
      → ((b : Values) → Contains bs b → Source program models rel c.roots b) → ((d : RelationCall) → CallsWhere program models c d → IsLinked program models (upto ++ d ∷ []))
      → (b : Values) → Contains bs b → AllAsked (Match program models) (calls_of program models b rel.whens) → (g : Values) → Target program models rel b g
      → AreLinked program models upto (calls_of program models g rel.wheres)
  all_linked upto rel c bs is only linked b has whens g target d calls =
      linked d (record { rel = rel; is = is; binding = b; source = record { source = only b has; whens = whens }; partner = g; target = target; calls = calls })

  -- ---- answers

  -- what was found of a call behind a chain is kept under its key
  pub kept_holding : (upto : List RelationCall) (key d : RelationCall) → key ≡ d → (holds : Bool) → IsChain upto → AreClean (SeenBehind program models upto d)
      → (IsTrue holds ↔ HoldsFor program models (MAX_CALLS - length upto) d) → (height : ℕ) → IsHeight program models d height → IsHolding program models key (record { holds = holds; height = height })
  kept_holding upto key d same holds whole clean value height high =
      let alike = heights_alike program models height (MAX_CALLS - length upto) d high (height_left upto d whole clean) in
      subst (λ c. IsHolding program models c (record { holds = holds; height = height })) (sym same) (
      record {
        value = (λ h. alike.1 (value.0 h), λ h. value.1 (alike.0 h));
        clean = clean_from (SeenBehind program models [] d) (HoldsChain program models d) (λ chain h. (holds_chains program models d chain).0 h) (clean_alone upto d whole clean);
        height = high;
      }
      )

  module _ (memo : Memo) (told : IsTold program models memo) (upto : List RelationCall) (key d : RelationCall) (same : key ≡ d) (left : ℕ) (most : left ≡ MAX_CALLS - length upto)
      (answer : Answer) (kept : (answer.height ≤ left) × (get call_order memo.holding key ≡ Some answer)) where
    holding : IsHolding program models d answer
    holding = subst (λ c. IsHolding program models c answer) same (told.holding key answer kept.1)

    few : answer.height ≤ MAX_CALLS - length upto
    few = subst (λ n. answer.height ≤ n) most kept.0

    -- what is kept with few enough calls holds behind this chain
    pub taken_value : IsTrue answer.holds ↔ HoldsFor program models (MAX_CALLS - length upto) d
    taken_value =
        let enough = height_enough program models answer.height (MAX_CALLS - length upto) d holding.height few in
        (λ h. enough.0 (holding.value.0 h), λ h. holding.value.1 (enough.1 h))

    pub taken_clean : IsChain upto → IsLinked program models (upto ++ d ∷ []) → AreClean (SeenBehind program models upto d)
    taken_clean whole linked =
        kept_clean upto d answer.height whole linked
        (clean_from (HoldsChain program models d) (SeenBehind program models [] d) (λ chain seen. (holds_chains program models d chain).1 seen) holding.clean) holding.height few

    pub taken_height : IsHeight program models d answer.height
    taken_height = holding.height

    pub taken_few : answer.height ≤ MAX_CALLS
    taken_few = omega (arith, few)
