-- A check begins with the top relations, one after another: what is reached from all of them, and what is said of all of them.
use Rattle.std.specs.Prelude.{◌≡◌, ◌⊎◌, ◌<◌, ◌≤◌, ◌↔◌, ℕ, suc, true, ◌&&◌, List, [], ◌∷◌, length, Some, slice_get, get_or, IsTrue}
use Rattle.std.proofs.Common.{refl, sym, subst, ◌∙◌, arith, inl, inr}
use Rattle.std.proofs.lemmas.Bool.{and_parts, and_from}
use Rattle.std.proofs.lemmas.Bool.Decides.{eqb_tells}
use Rattle.std.proofs.lemmas.Option.{slice_get_within, slice_get_read, same_Some}
use Rattle.object_tables.specs.Models.{ModelData}
use Rattle.qv_syntax.specs.declared.program.Program.{Program}
use Rattle.qv_syntax.specs.declared.program.Rel.{Rel}
use Rattle.qvtr_semantics.specs.Templates.{Values}
use Rattle.qvtr_semantics.specs.Calls.{RelationCall, free}
use Rattle.qvtr_semantics.specs.Chains.{Role, as_top, as_match, ReachedFrom, IsTopCall, IsOnlyCall, BeginsFrom, GoesOn, Chain}
use Rattle.qvtr_semantics.specs.Satisfaction.{IsTop, Failing, LeastFailing}
use Rattle.relation_calls.specs.declared.error.CallError.{CallError}
use Rattle.relation_calls.specs.Founds.{IsLeastOf}
use Rattle.relation_calls.specs.Seen.{TopChain, AreClean}
use Rattle.relation_calls.specs.Faults.{IsFault}
use Rattle.relation_calls.proofs.VisitLaws.{fault_in}
use Rattle.check_mode.specs.declared.verdict.Verdict.{Verdict}
use Rattle.check_mode.specs.declared.verdict.Verdict.TheVariants as verdicts
use Rattle.check_mode.specs.Verdicts.{IsVerdict, IsVerdictOf, ChainOfTop, ChainOfTops}

-- ---- what is reached

module _ (program : Program) (models : List ModelData) where
  abbrev top_call : ℕ → Rel → RelationCall
  top_call number rel = record { rel = number; roots = free rel }

  -- what is reached from all is reached from one of them
  record IsFromTop (role : Role) (c : RelationCall) : Type 0 where
    number : ℕ
    rel : Rel
    top : IsTop program number rel
    reached : ReachedFrom program models (IsOnlyCall as_top (top_call number rel)) role c

  started : (role : Role) (c : RelationCall) → IsTopCall program role c → IsFromTop role c
  started _ _ (IsTopCall.top number rel top) = record { number = number; rel = rel; top = top; reached = ReachedFrom.start as_top (top_call number rel) IsOnlyCall.only }

  from_top : (role : Role) (c : RelationCall) → ReachedFrom program models (IsTopCall program) role c → IsFromTop role c
  from_top role c (ReachedFrom.start _ _ s) = started role c s
  from_top _ c (ReachedFrom.by_when role from _ reached asks) =
      let f = from_top role from reached in record { number = f.number; rel = f.rel; top = f.top; reached = ReachedFrom.by_when role from c f.reached asks }
  from_top _ c (ReachedFrom.by_where role from _ reached calls) =
      let f = from_top role from reached in record { number = f.number; rel = f.rel; top = f.top; reached = ReachedFrom.by_where role from c f.reached calls }

  chain_from : (role : Role) (first from : RelationCall) (more : List RelationCall) (f : IsFromTop role from)
      → (ReachedFrom program models (IsOnlyCall as_top (top_call f.number f.rel)) role from → BeginsFrom program models (IsOnlyCall as_top (top_call f.number f.rel)) first)
      → GoesOn program models first more → (number : ℕ) × ChainOfTop program models number (first ∷ more)
  chain_from role first from more f begins goes = (f.number, (f.rel, f.top, (begins f.reached, goes)))

  chain_of_top : (chain : List RelationCall) → Chain program models chain → (number : ℕ) × ChainOfTop program models number chain
  chain_of_top [] h = absurd h
  chain_of_top (first ∷ more) h = by h.0.begins
    where
      by : ReachedFrom program models (IsTopCall program) as_top h.0.from ⊎ ReachedFrom program models (IsTopCall program) as_match h.0.from → (number : ℕ) × ChainOfTop program models number (first ∷ more)
      by (inl top) = chain_from as_top first h.0.from more (from_top as_top h.0.from top) (λ r. record { from = h.0.from; begins = inl r; calls = h.0.calls }) h.1
      by (inr asked) = chain_from as_match first h.0.from more (from_top as_match h.0.from asked) (λ r. record { from = h.0.from; begins = inr r; calls = h.0.calls }) h.1

  -- and the other way round
  module _ (number : ℕ) (rel : Rel) (top : IsTop program number rel) where
    abbrev Only : Role → RelationCall → Type 0
    Only = IsOnlyCall as_top (top_call number rel)

    only_started : (role : Role) (c : RelationCall) → Only role c → ReachedFrom program models (IsTopCall program) role c
    only_started _ _ IsOnlyCall.only = ReachedFrom.start as_top (top_call number rel) (IsTopCall.top number rel top)

    of_all : (role : Role) (c : RelationCall) → ReachedFrom program models Only role c → ReachedFrom program models (IsTopCall program) role c
    of_all role c (ReachedFrom.start _ _ s) = only_started role c s
    of_all _ c (ReachedFrom.by_when role from _ reached asks) = ReachedFrom.by_when role from c (of_all role from reached) asks
    of_all _ c (ReachedFrom.by_where role from _ reached calls) = ReachedFrom.by_where role from c (of_all role from reached) calls

    begins_of_all : (first : RelationCall) → BeginsFrom program models Only first → BeginsFrom program models (IsTopCall program) first
    begins_of_all first b = record { from = b.from; begins = by b.begins; calls = b.calls }
      where
        by : ReachedFrom program models Only as_top b.from ⊎ ReachedFrom program models Only as_match b.from
            → ReachedFrom program models (IsTopCall program) as_top b.from ⊎ ReachedFrom program models (IsTopCall program) as_match b.from
        by (inl r) = inl (of_all as_top b.from r)
        by (inr r) = inr (of_all as_match b.from r)

    top_chain : (chain : List RelationCall) → TopChain program models (top_call number rel) chain → Chain program models chain
    top_chain [] h = absurd h
    top_chain (first ∷ more) h = (begins_of_all first h.0, h.1)

  -- ---- refused chains

  pub no_tops : AreClean (ChainOfTops program models 0)
  no_tops chain (number, below, of) bad = omega (arith, below)

  pub more_tops : (count : ℕ) → AreClean (ChainOfTops program models count) → AreClean (ChainOfTop program models count) → AreClean (ChainOfTops program models (suc count))
  more_tops count before last chain (number, below, of) bad = elim (eqb_tells number count) [
    | inl here ↦ last chain (subst (λ n. ChainOfTop program models n chain) here.1 of) bad
    | inr other ↦ before chain (number, omega (arith, below, other.1), of) bad
  ]

  pub all_tops : (count : ℕ) → length program.rels ≤ count → AreClean (ChainOfTops program models count) → AreClean (Chain program models)
  all_tops count past clean chain h bad =
      let (number, (rel, top, of)) = chain_of_top chain h in
      let within = slice_get_within program.rels number rel top.is in
      clean chain (number, omega (arith, within, past), (rel, top, of)) bad

  pub top_fault : (number : ℕ) (e : CallError) → IsFault (ChainOfTop program models number) e → IsFault (Chain program models) e
  top_fault number = fault_in (ChainOfTop program models number) (Chain program models) (λ chain h. let (rel, top, of) = h in top_chain number rel top chain of)

  -- of a relation that is top with free roots
  pub clean_top : (number : ℕ) → ((rel : Rel) → IsTop program number rel → AreClean (TopChain program models (top_call number rel))) → AreClean (ChainOfTop program models number)
  clean_top number clean chain (rel, top, of) bad = clean rel top chain of bad

  pub fault_top : (number : ℕ) (rel : Rel) → IsTop program number rel → (e : CallError) → IsFault (TopChain program models (top_call number rel)) e → IsFault (ChainOfTop program models number) e
  fault_top number rel top = fault_in (TopChain program models (top_call number rel)) (ChainOfTop program models number) (λ chain h. (rel, top, h))

  -- ---- a relation that isn't top

  pub none_top : (number : ℕ) → ((rel : Rel) → IsTop program number rel → ⊥) → AreClean (ChainOfTop program models number)
  none_top number never chain (rel, top, of) bad = never rel top

  -- ---- verdicts

  pub no_verdict : IsVerdictOf program models 0 verdicts.Yes
  no_verdict number b below = absurd (omega (arith, below))

  pub yes_more : (count : ℕ) → IsVerdictOf program models count verdicts.Yes → ((b : Values) → ¬ Failing program models count b) → IsVerdictOf program models (suc count) verdicts.Yes
  yes_more count before none number b below f = elim (eqb_tells number count) [
    | inl here ↦ none b (subst (λ n. Failing program models n b) here.1 f)
    | inr other ↦ before number b (omega (arith, below, other.1)) f
  ]

  pub first_no : (count : ℕ) (b : Values) → IsVerdictOf program models count verdicts.Yes → IsLeastOf program models count b → LeastFailing program models count b
  first_no count b before least = record { failing = least.failing; first = λ n c below. before n c below; least = least.least }

  pub whole : (count : ℕ) (v : Verdict) → length program.rels ≤ count → IsVerdictOf program models count v → IsVerdict program models v
  whole count verdicts.Yes past h = λ number b f. let within = slice_get_within program.rels number f.rel f.top.is in h number b (omega (arith, within, past)) f
  whole count (verdicts.No number b) past h = h

-- whether a relation is top and of the direction
pub top_decides : (program : Program) (number : ℕ) (rel : Rel) → number < length program.rels → rel ≡ get_or program.rels number rel
    → IsTrue (rel.top && rel.in_direction) ↔ ((r : Rel) × IsTop program number r)
top_decides program number rel within here =
    let is : slice_get program.rels number ≡ Some rel = slice_get_read program.rels (length program.rels) number rel refl within here in (
      λ h. let (top, direction) = and_parts rel.top rel.in_direction h in (rel, record { is = is; top = top; in_direction = direction }),
      λ h. let (r, t) = h in
          let same : r ≡ rel = same_Some r rel (sym t.is ∙ is) in
          and_from rel.top rel.in_direction (subst (λ (x : Rel). x.top ≡ true) same t.top) (subst (λ (x : Rel). x.in_direction ≡ true) same t.in_direction),
    )
