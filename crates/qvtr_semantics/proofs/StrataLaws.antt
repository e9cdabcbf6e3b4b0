-- More strata than the calls in when clauses from a relation can have change nothing: a match is a match, and a relation holds.
use Rattle.std.specs.Prelude.{◌≡◌, ◌≤◌, ◌+◌, ◌-◌, ℕ, zero, suc, List, [], ◌∷◌, map, Option, None, Some, slice_get}
use Rattle.std.proofs.Common.{refl, sym, subst, arith}
use Rattle.qvtr_semantics.specs.declared.limits.TheConstants.{MAX_CALLS}
use Rattle.object_tables.specs.Models.{ModelData}
use Rattle.qv_syntax.specs.declared.program.Program.{Program}
use Rattle.qv_syntax.specs.declared.program.Rel.{Rel}
use Rattle.qv_syntax.specs.declared.program.Conj.{Conj}
use Rattle.qv_syntax.specs.declared.program.Conj.TheVariants as conjuncts
use Rattle.qv_syntax.specs.declared.typed.Typed.{Typed}
use Rattle.qv_syntax.specs.Relations.{CallsIn, IsCallPath}
use Rattle.qvtr_semantics.specs.declared.datum.Datum.{Datum}
use Rattle.qvtr_semantics.specs.Outs.{datum_of, all_given}
use Rattle.qvtr_semantics.specs.Expressions.{value_for}
use Rattle.qvtr_semantics.specs.Templates.{Values}
use Rattle.qvtr_semantics.specs.Calls.{RelationCall, Asked, AllAsked, Of, call_with, calls_of, SourceMatches, TargetHolds, HoldsWithin, MatchesWithin}
use Rattle.qvtr_semantics.specs.Strata.{HasFewer}

in_more : (c : Conj) (clause : List Conj) (number : ℕ) → CallsIn clause number → CallsIn (c ∷ clause) number
in_more c clause number h = let (k, within, is) = h.1 in (h.0, (suc k, omega arith, is))

at_first : (number : ℕ) (args : List Typed) (clause : List Conj) → CallsIn (conjuncts.Call number args ∷ clause) number
at_first number args clause = (args, (0, omega arith, refl))

module _ (program : Program) (models : List ModelData) where
  -- the first call of a clause, and the others
  head_asked : (asked other : Asked) (number : ℕ) (rel : Option Rel) (ds : Option (List Datum)) (cs es : List (Option RelationCall))
      → ((c : RelationCall) → c.rel ≡ number → asked c → other c) → (AllAsked asked cs → AllAsked other es)
      → AllAsked asked (call_with number rel ds ∷ cs) → AllAsked other (call_with number rel ds ∷ es)
  head_asked asked other number (Some rel) (Some ds) cs es one more h = (one _ refl h.0, more h.1)
  head_asked asked other number (Some rel) None cs es one more h = absurd h
  head_asked asked other number None ds cs es one more h = absurd h

  calls_asked : (asked other : Asked) (b : Values) (clause : List Conj)
      → ((number : ℕ) → CallsIn clause number → (c : RelationCall) → c.rel ≡ number → asked c → other c)
      → AllAsked asked (calls_of program models b clause) → AllAsked other (calls_of program models b clause)
  calls_asked asked other b [] each h = tt
  calls_asked asked other b (conjuncts.Cond e ∷ cs) each h =
      calls_asked asked other b cs (λ number calls. each number (in_more (conjuncts.Cond e) cs number calls)) h
  calls_asked asked other b (conjuncts.Equation v e ∷ cs) each h =
      calls_asked asked other b cs (λ number calls. each number (in_more (conjuncts.Equation v e) cs number calls)) h
  calls_asked asked other b (conjuncts.Call number args ∷ cs) each h =
      head_asked asked other number (slice_get program.rels number) (all_given (map (λ e. datum_of (value_for program models e b)) args))
      (calls_of program models b cs) (calls_of program models b cs) (each number (at_first number args cs))
      (calls_asked asked other b cs (λ n calls. each n (in_more (conjuncts.Call number args) cs n calls))) h

  source_asked : (asked other : Asked) (rel : Rel) (roots b : Values)
      → ((number : ℕ) → CallsIn rel.whens number → (c : RelationCall) → c.rel ≡ number → asked c → other c)
      → SourceMatches asked program models rel roots b → SourceMatches other program models rel roots b
  source_asked asked other rel roots b each m = record { source = m.source; whens = calls_asked asked other b rel.whens each m.whens }

  target_asked : (asked other : Asked) (rel : Rel) (b g : Values)
      → ((number : ℕ) → CallsIn rel.wheres number → (c : RelationCall) → c.rel ≡ number → asked c → other c)
      → TargetHolds asked program models rel b g → TargetHolds other program models rel b g
  target_asked asked other rel b g each t = record { target = t.target; wheres = calls_asked asked other g rel.wheres each t.wheres }

  -- a relation that is called in a when clause has fewer such calls before it, one that is called in a where clause no more
  fewer_by_when : (s number called : ℕ) (rel : Rel) → slice_get program.rels number ≡ Some rel → CallsIn rel.whens called → HasFewer program (suc s) number → HasFewer program s called
  fewer_by_when s number called rel found calls few count path =
      let more = few (suc count) (IsCallPath.by_when number rel called count found calls path) in omega (arith, more)

  fewer_by_where : (s number called : ℕ) (rel : Rel) → slice_get program.rels number ≡ Some rel → CallsIn rel.wheres called → HasFewer program s number → HasFewer program s called
  fewer_by_where s number called rel found calls few count path = few count (IsCallPath.by_where number rel called count found calls path)

  of_found : (o : Option Rel) (P Q : Rel → Type 0) → ((rel : Rel) → o ≡ Some rel → P rel → Q rel) → Of o P → Of o Q
  of_found None P Q f h = h
  of_found (Some rel) P Q f h = f rel refl h

  -- where two sorts of matches agree on relations with fewer than s such calls, relations with at most s of them hold alike
  holds_alike : (asked other : Asked) (s : ℕ)
      → ((c : RelationCall) → HasFewer program s c.rel → asked c → other c) → ((c : RelationCall) → HasFewer program s c.rel → other c → asked c)
      → (n : ℕ) (c : RelationCall) → HasFewer program (suc s) c.rel → HoldsWithin asked program models n c → HoldsWithin other program models n c
  holds_alike asked other s there back zero c few h = h
  holds_alike asked other s there back (suc n) c few h =
      of_found (slice_get program.rels c.rel)
      (λ rel. (b : Values) → SourceMatches asked program models rel c.roots b → (g : Values) × TargetHolds (HoldsWithin asked program models n) program models rel b g)
      (λ rel. (b : Values) → SourceMatches other program models rel c.roots b → (g : Values) × TargetHolds (HoldsWithin other program models n) program models rel b g)
      (λ rel found holds b m.
      let matched : SourceMatches asked program models rel c.roots b =
      source_asked other asked rel c.roots b
      (λ number calls d is. back d (subst (HasFewer program s) (sym is) (fewer_by_when s c.rel number rel found calls few))) m in
      let (g, t) = holds b matched in (
        g,
        target_asked (HoldsWithin asked program models n) (HoldsWithin other program models n) rel b g
            (λ number calls d is. holds_alike asked other s there back n d (subst (HasFewer program (suc s)) (sym is) (fewer_by_where (suc s) c.rel number rel found calls few))) t,
      ))
      h

  both_ways : (s : ℕ) (c : RelationCall) → HasFewer program s c.rel
      → (MatchesWithin program models s c → MatchesWithin program models (suc s) c) × (MatchesWithin program models (suc s) c → MatchesWithin program models s c)
  both_ways zero c few = let none = few 0 (IsCallPath.end c.rel) in absurd (omega (arith, none))
  both_ways (suc s) c few =
      let less = MatchesWithin program models s in
      let more = MatchesWithin program models (suc s) in
      let up : (d : RelationCall) → HasFewer program s d.rel → less d → more d = λ d f. (both_ways s d f).0 in
      let down : (d : RelationCall) → HasFewer program s d.rel → more d → less d = λ d f. (both_ways s d f).1 in
      (matches_alike s less more up down c few, matches_alike s more less down up c few)
    where
      matches_alike : (s : ℕ) (asked other : Asked)
          → ((d : RelationCall) → HasFewer program s d.rel → asked d → other d) → ((d : RelationCall) → HasFewer program s d.rel → other d → asked d)
          → (c : RelationCall) → HasFewer program (suc s) c.rel
          → Of (slice_get program.rels c.rel) (λ rel. (b g : Values) × SourceMatches asked program models rel c.roots b × TargetHolds (HoldsWithin asked program models MAX_CALLS) program models rel b g)
          → Of (slice_get program.rels c.rel) (λ rel. (b g : Values) × SourceMatches other program models rel c.roots b × TargetHolds (HoldsWithin other program models MAX_CALLS) program models rel b g)
      matches_alike s asked other there back c few h =
          of_found (slice_get program.rels c.rel)
          (λ rel. (b g : Values) × SourceMatches asked program models rel c.roots b × TargetHolds (HoldsWithin asked program models MAX_CALLS) program models rel b g)
          (λ rel. (b g : Values) × SourceMatches other program models rel c.roots b × TargetHolds (HoldsWithin other program models MAX_CALLS) program models rel b g)
          (λ rel found x.
          let (b, g, m, t) = x in (
            b,
            g,
            source_asked asked other rel c.roots b (λ number calls d is. there d (subst (HasFewer program s) (sym is) (fewer_by_when s c.rel number rel found calls few))) m,
            target_asked (HoldsWithin asked program models MAX_CALLS) (HoldsWithin other program models MAX_CALLS) rel b g
                (λ number calls d is. holds_alike asked other s there back MAX_CALLS d (subst (HasFewer program (suc s)) (sym is) (fewer_by_where (suc s) c.rel number rel found calls few))) t,
          ))
          h

  at_least : (k s n : ℕ) (number : ℕ) → n ≡ s + k → HasFewer program s number → HasFewer program n number
  at_least k s n number e few count path = let less = few count path in omega (arith, e, less)

  -- with as many strata as the calls in when clauses from the relation need, and with any more
  more_strata : (k s n : ℕ) (c : RelationCall) → n ≡ s + k → HasFewer program s c.rel
      → (MatchesWithin program models s c → MatchesWithin program models n c) × (MatchesWithin program models n c → MatchesWithin program models s c)
  more_strata zero s n c e few =
      let same : s ≡ n = omega (arith, e) in
      (subst (λ x. MatchesWithin program models x c) same, subst (λ x. MatchesWithin program models x c) (sym same))
  more_strata (suc k) s n c e few =
      let before : ℕ = s + k in
      let same : suc before ≡ n = omega (arith, e) in
      let step = both_ways before c (at_least k s before c.rel refl few) in
      let (up, down) = more_strata k s before c refl few in
      (λ m. subst (λ x. MatchesWithin program models x c) same (step.0 (up m)), λ m. down (step.1 (subst (λ x. MatchesWithin program models x c) (sym same) m)))

  pub strata_enough : (s n : ℕ) (c : RelationCall) → HasFewer program s c.rel → s ≤ n
      → (MatchesWithin program models s c → MatchesWithin program models n c) × (MatchesWithin program models n c → MatchesWithin program models s c)
  strata_enough s n c few many =
      let k : ℕ = n - s in
      more_strata k s n c (omega arith) few

  -- the same of relations that hold, with matches within s strata in their when clauses and those of what they call
  pub holds_enough : (s n calls : ℕ) (c : RelationCall) → HasFewer program (suc s) c.rel → s ≤ n
      → (HoldsWithin (MatchesWithin program models s) program models calls c → HoldsWithin (MatchesWithin program models n) program models calls c)
      × (HoldsWithin (MatchesWithin program models n) program models calls c → HoldsWithin (MatchesWithin program models s) program models calls c)
  holds_enough s n calls c few many =
      let less = MatchesWithin program models s in
      let more = MatchesWithin program models n in
      let up : (d : RelationCall) → HasFewer program s d.rel → less d → more d = λ d f. (strata_enough s n d f many).0 in
      let down : (d : RelationCall) → HasFewer program s d.rel → more d → less d = λ d f. (strata_enough s n d f many).1 in
      (holds_alike less more s up down calls c few, holds_alike more less s down up calls c few)
