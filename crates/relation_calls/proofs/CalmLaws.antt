-- Calm relations: a chain of their calls in where clauses doesn't come back to a call, and has no more than the calls that are said, so no
-- chain that is refused is come to by a call in a when clause of one.
use Rattle.std.specs.Prelude.{◌≡◌, ◌<◌, ◌≤◌, ◌+◌, ℕ, zero, suc, List, [], ◌∷◌, ◌++◌, take, get_or, length, Option, None, Some, IfSome, slice_get, Contains}
use Rattle.std.proofs.Common.{refl, sym, ap, subst, ◌∙◌, arith, inl, inr, max}
use Rattle.std.proofs.Math.Nat.{le-max_left, le-max_right}
use Rattle.std.proofs.Math.Seq.{take-suc}
use Rattle.std.proofs.lemmas.Option.{same_Some}
use Rattle.mof_metamodel.proofs.Facts.{contains_first, only_one, nothing_in}
use Rattle.qvtr_semantics.specs.declared.limits.TheConstants.{MAX_CALLS}
use Rattle.object_tables.specs.Models.{ModelData}
use Rattle.qv_syntax.specs.declared.program.Program.{Program}
use Rattle.qv_syntax.specs.declared.program.Rel.{Rel}
use Rattle.qv_syntax.specs.declared.program.Conj.{Conj}
use Rattle.qv_syntax.specs.declared.program.Conj.TheVariants as conjuncts
use Rattle.qv_syntax.specs.declared.typed.Typed.{Typed}
use Rattle.qv_syntax.specs.Relations.{CallsIn}
use Rattle.qvtr_semantics.specs.Templates.{Values}
use Rattle.qvtr_semantics.specs.Calls.{RelationCall, calls_of}
use Rattle.qvtr_semantics.specs.Chains.{CallsWhere}
use Rattle.relation_calls.specs.Calm.{IsCalm, CallCalm, AreCalm, IsHeightOf, IsHeightIn}
use Rattle.relation_calls.specs.Seen.{Seen, IsBad}
use Rattle.relation_calls.specs.Visits.{IsChain}
use Rattle.relation_calls.proofs.ListLaws.{before_or_last}
use Rattle.relation_calls.proofs.RefusalLaws.{fine, longer, length_more, no_chain}
use Rattle.relation_calls.proofs.MadeLaws.{called_in}

module _ (program : Program) where
  -- ---- with more calls

  pub higher : (n m number : ℕ) → n ≤ m → IsCalm program n number → IsCalm program m number
  higher _ zero number few (IsCalm.calm n _ rel found wheres whens) = absurd (omega (arith, few))
  higher _ (suc m) number few (IsCalm.calm n _ rel found wheres whens) =
      IsCalm.calm m number rel found (λ called c. higher n m called (omega (arith, few)) (wheres called c)) whens

  pub all_higher : (clause : List Conj) (n m : ℕ) → n ≤ m → CallCalm program n clause → CallCalm program m clause
  all_higher clause n m few all called c = higher n m called few (all called c)

  some_calls : (n number : ℕ) → IsCalm program n number → 1 ≤ n
  some_calls _ number (IsCalm.calm n _ rel found wheres whens) = omega arith

  -- what a calm relation calls
  record IsOpened (n : ℕ) (rel : Rel) : Type 0 where
    behind : ℕ
    is : n ≡ suc behind
    wheres : CallCalm program behind rel.wheres
    whens : AreCalm program rel.whens

  opened : (n number : ℕ) (rel : Rel) → slice_get program.rels number ≡ Some rel → IsCalm program n number → IsOpened n rel
  opened _ number rel is (IsCalm.calm n _ own found wheres whens) =
      let same : own ≡ rel = same_Some own rel (sym found ∙ is) in
      record {
        behind = n;
        is = refl;
        wheres = subst (λ (r : Rel). CallCalm program n r.wheres) same wheres;
        whens = subst (λ (r : Rel). AreCalm program r.whens) same whens;
      }

  -- ---- no path of calls in where clauses comes back

  data Leads : ℕ → ℕ → Type 0 where
    once : (from to : ℕ) (rel : Rel) → slice_get program.rels from ≡ Some rel → CallsIn rel.wheres to → Leads from to
    more : (from by to : ℕ) (rel : Rel) → slice_get program.rels from ≡ Some rel → CallsIn rel.wheres by → Leads by to → Leads from to

  falls : (from to n : ℕ) → Leads from to → IsCalm program n from → (m : ℕ) × (m < n) × IsCalm program m to
  falls from to n (Leads.once _ _ rel found calls) is_calm = let o = opened n from rel found is_calm in let is = o.is in (o.behind, omega (arith, is), o.wheres to calls)
  falls from to n (Leads.more _ by _ rel found calls path) is_calm =
      let o = opened n from rel found is_calm in
      let (m, less, there) = falls by to o.behind path (o.wheres by calls) in
      let is = o.is in
      (m, omega (arith, is, less), there)

  never_back : (most n number : ℕ) → n ≤ most → IsCalm program n number → Leads number number → ⊥
  never_back zero n number few is_calm path = let (m, less, there) = falls number number n path is_calm in absurd (omega (arith, few, less))
  never_back (suc most) n number few is_calm path = let (m, less, there) = falls number number n path is_calm in never_back most m number (omega (arith, few, less)) there path

  -- ---- chains

  module _ (models : List ModelData) where
    record IsStep (n : ℕ) (c d : RelationCall) : Type 0 where
      behind : ℕ
      is : n ≡ suc behind
      calm : IsCalm program behind d.rel
      leads : Leads c.rel d.rel

    step : (n : ℕ) (c d : RelationCall) → IsCalm program n c.rel → CallsWhere program models c d → IsStep n c d
    step n c d is_calm calls =
        let o = opened n c.rel calls.rel calls.is is_calm in
        let here = called_in program models calls.partner calls.rel.wheres d calls.calls in
        record { behind = o.behind; is = o.is; calm = o.wheres d.rel here; leads = Leads.once c.rel d.rel calls.rel calls.is here }

    before : (c d e : RelationCall) → CallsWhere program models c d → Leads d.rel e.rel → Leads c.rel e.rel
    before c d e calls path = Leads.more c.rel d.rel e.rel calls.rel calls.is (called_in program models calls.partner calls.rel.wheres d calls.calls) path

    one_further : (n : ℕ) (upto : List RelationCall) (c d : RelationCall) → IsCalm program n c.rel → CallsWhere program models c d → IsChain upto → length upto + n ≤ suc MAX_CALLS
        → ((e : RelationCall) → Contains upto e → ¬ Leads c.rel e.rel) → IsChain (upto ++ d ∷ [])
    one_further n upto c d is_calm calls whole room apart =
        let s = step n c d is_calm calls in
        let is = s.is in
        let some = some_calls s.behind d.rel s.calm in
        longer upto d whole (λ has. apart d has s.leads) (omega (arith, room, is, some))

    calm_chain : (n : ℕ) (upto : List RelationCall) (c : RelationCall) (chain : List RelationCall) → Seen program models upto c chain → IsCalm program n c.rel → IsChain upto
        → length upto + n ≤ suc MAX_CALLS → ((e : RelationCall) → Contains upto e → ¬ Leads c.rel e.rel) → IsChain chain
    calm_chain n upto c _ (Seen.next _ _ d calls) is_calm whole room apart = one_further n upto c d is_calm calls whole room apart
    calm_chain n upto c chain (Seen.by_where _ _ d _ calls seen) is_calm whole room apart =
        let s = step n c d is_calm calls in
        let is = s.is in
        let long = length_more upto d in
        calm_chain s.behind (upto ++ d ∷ []) d chain seen s.calm (one_further n upto c d is_calm calls whole room apart) (omega (arith, room, is, long))
        (λ e has path. elim (before_or_last upto d e has) [
          | inl earlier ↦ apart e earlier (before c d e calls path)
          | inr last ↦ never_back s.behind s.behind d.rel (omega arith) s.calm (subst (λ (x : RelationCall). Leads d.rel x.rel) (sym last) path)
        ])
    calm_chain n upto c chain (Seen.by_when _ _ d _ asks seen) is_calm whole room apart =
        let o = opened n c.rel asks.rel asks.is is_calm in
        calm_chain (suc MAX_CALLS) [] d chain seen (o.whens d.rel (called_in program models asks.binding asks.rel.whens d asks.asks)) no_chain (omega arith)
        (λ e has path. nothing_in e has)

    -- no chain that is come to by a call of the clause is refused
    pub calm_fine : (clause : List Conj) → AreCalm program clause → (b : Values) (d : RelationCall) (chain : List RelationCall) → Contains (calls_of program models b clause) (Some d)
        → Seen program models [] d chain → ¬ IsBad chain
    calm_fine clause is_calm b d chain has seen =
        fine chain (calm_chain (suc MAX_CALLS) [] d chain seen (is_calm d.rel (called_in program models b clause d has)) no_chain (omega arith) (λ e none path. nothing_in e none))

  -- ---- as they are found

  -- of one call
  same_number : (a b : ℕ) (x y : List Typed) → conjuncts.Call a x ≡ conjuncts.Call b y → a ≡ b
  same_number a b x y e = cc

  pub height_call : (number : ℕ) (args : List Typed) (height : Option ℕ) → IsHeightOf program number height → IsHeightIn program (conjuncts.Call number args ∷ []) height
  height_call number args None is = tt
  height_call number args (Some n) is =
      (is.0, λ called c. subst (IsCalm program n) (same_number number called args c.0 (only_one (conjuncts.Call number args) (conjuncts.Call called c.0) c.1)) is.1)

  -- of what is no call
  pub height_none : (x : Conj) → ((number : ℕ) (args : List Typed) → x ≡ conjuncts.Call number args → ⊥) → (0 ≤ suc MAX_CALLS) × CallCalm program 0 (x ∷ [])
  height_none x other = (omega arith, λ called c. absurd (other called c.0 (only_one x (conjuncts.Call called c.0) c.1)))

  -- of a relation
  pub height_rel : (rel : Rel) (m : ℕ) → IsHeightIn program rel.whens (Some m) → (behind more : Option ℕ) → IsHeightIn program rel.wheres behind
      → IfSome more (λ k. (n : ℕ) × (behind ≡ Some n) × (n ≤ MAX_CALLS) × (k ≡ suc n)) → (number : ℕ) → slice_get program.rels number ≡ Some rel → IsHeightOf program number more
  height_rel rel m whens behind None wheres is number found = tt
  height_rel rel m whens behind (Some k) wheres is number found =
      let (n, same, less, next) = is in
      let own : IsHeightIn program rel.wheres (Some n) = subst (IsHeightIn program rel.wheres) same wheres in
      subst (λ j. (j ≤ suc MAX_CALLS) × IsCalm program j number) (sym next)
      (omega (arith, less), IsCalm.calm n number rel found own.1 (all_higher rel.whens m (suc MAX_CALLS) whens.0 whens.1))

  -- of one conjunct after another
  pub no_heights : (clause : List Conj) → CallCalm program 0 (take 0 clause)
  no_heights clause called c = absurd (nothing_in (conjuncts.Call called c.0) c.1)

  pub more_heights : (clause : List Conj) (i j : ℕ) (x : Conj) → j ≡ suc i → i < length clause → x ≡ get_or clause i x → (n m : ℕ) → CallCalm program n (take i clause)
      → CallCalm program m (x ∷ []) → CallCalm program (max n m) (take j clause)
  more_heights clause i j x next within is n m before_ here called c =
      elim (before_or_last (take i clause) x (conjuncts.Call called c.0)
      (subst (λ (xs : List Conj). Contains xs (conjuncts.Call called c.0)) (ap (λ k. take k clause) next ∙ take-suc clause i x within ∙ ap (λ (y : Conj). take i clause ++ y ∷ []) (sym is)) c.1)) [
        | inl earlier ↦ higher n (max n m) called (le-max_left n m) (before_ called (c.0, earlier))
        | inr last ↦ higher m (max n m) called (le-max_right n m) (here called (c.0, subst (Contains (x ∷ [])) last (contains_first x [])))
      ]
