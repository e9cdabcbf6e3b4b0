-- Calls in a well formed program: how many stand in when clauses within one another, what they ask for, and what a match is.
use Rattle.std.specs.Prelude.{◌≡◌, ◌<◌, ◌≤◌, ◌↔◌, ℕ, zero, suc, Bool, true, false, ◌||◌, List, [], ◌∷◌, map, length, Option, None, Some, slice_get, slice_set, slice_index_or, Contains}
use Rattle.std.specs.List.{list_any}
use Rattle.std.specs.Option.{option_map}
use Rattle.std.proofs.Common.{refl, sym, ap, subst, ◌∙◌, arith, inl, inr, eqb}
use Rattle.std.proofs.lemmas.Map.Steps.{le-length_from_below}
use Rattle.std.proofs.lemmas.List.{length-map, length-set, get_or-set_same, get_or-set_other, length-replicate}
use Rattle.std.proofs.lemmas.Option.{slice_get_within}
use Rattle.std.proofs.lemmas.Bool.{eq-eqb, true≢false}
use Rattle.std.proofs.lemmas.Bool.Decides.{eqb_tells}
use Rattle.mof_metamodel.specs.declared.desc.MetaDesc.{MetaDesc}
use Rattle.qvtr_semantics.specs.declared.limits.TheConstants.{MAX_CALLS}
use Rattle.object_tables.specs.Models.{ModelData}
use Rattle.qv_syntax.specs.declared.program.Program.{Program}
use Rattle.qv_syntax.specs.declared.program.Rel.{Rel}
use Rattle.qv_syntax.specs.declared.program.Dom.{Dom}
use Rattle.qv_syntax.specs.declared.program.Conj.{Conj}
use Rattle.qv_syntax.specs.declared.program.Conj.TheVariants as conjuncts
use Rattle.qv_syntax.specs.declared.typed.Typed.{Typed}
use Rattle.qv_syntax.specs.Relations.{CallsIn, IsCallPath}
use Rattle.qv_syntax.specs.Directions.{IsStratum}
use Rattle.qv_syntax.specs.ProgramTypes.{IsConjunctTyped, AreGiven, IsCallTyped}
use Rattle.qvtr_semantics.specs.declared.datum.Datum.{Datum}
use Rattle.qvtr_semantics.specs.Outs.{datum_of, all_given}
use Rattle.qvtr_semantics.specs.Expressions.{value_for}
use Rattle.qvtr_semantics.specs.Templates.{Values}
use Rattle.qvtr_semantics.specs.Calls.{RelationCall, Of, free, with_roots, call_with, call_of, calls_of, SourceMatches, TargetHolds, Match, HoldsFor}
use Rattle.qvtr_semantics.specs.Strata.{HasFewer}
use Rattle.qvtr_semantics.proofs.StrataLaws.{strata_enough}
use Rattle.template_match.specs.Posed.{HasValue}
use Rattle.relation_calls.specs.Askable.{IsFormed, IsAskable, stratum_in, stratum_of, AreBelow}
use Rattle.mof_metamodel.proofs.Facts.{contains_at}

same_rel : (a b : Rel) → Some a ≡ Some b → a ≡ b
same_rel a b e = cc

-- ---- strata

module _ (program : Program) (formed : IsFormed program) where
  -- a call of a clause, with the relation that it calls
  pub record Called (number : ℕ) : Type 0 where
    pub rel : Rel
    pub found : slice_get program.rels number ≡ Some rel

  typed_call : (number : ℕ) (args : List Typed) (rel : Rel) → IsConjunctTyped formed.0 program rel (conjuncts.Call number args) → IsCallTyped formed.0 program rel number args
  typed_call number args rel h = h

  pub when_typed : (caller number : ℕ) (rel : Rel) (args : List Typed) → slice_get program.rels caller ≡ Some rel → Contains rel.whens (conjuncts.Call number args)
      → IsCallTyped formed.0 program rel number args
  when_typed caller number rel args is c = (formed.1.typed.relations rel (contains_at program.rels caller rel is)).whens (conjuncts.Call number args) c

  pub where_typed : (caller number : ℕ) (rel : Rel) (args : List Typed) → slice_get program.rels caller ≡ Some rel → Contains rel.wheres (conjuncts.Call number args)
      → IsCallTyped formed.0 program rel number args
  where_typed caller number rel args is c = (formed.1.typed.relations rel (contains_at program.rels caller rel is)).wheres (conjuncts.Call number args) c

  stratum_is : (number : ℕ) (rel : Rel) → slice_get program.rels number ≡ Some rel → IsStratum program number rel.stratum
  stratum_is number rel is = (formed.1.relations number rel is).stratum

  -- a call in a when clause leads to a lower stratum, one in a where clause to none that is higher
  pub when_falls : (caller number : ℕ) (rel called : Rel) → slice_get program.rels caller ≡ Some rel → slice_get program.rels number ≡ Some called → CallsIn rel.whens number
      → called.stratum < rel.stratum
  when_falls caller number rel called is found calls =
      let most = (stratum_is caller rel is).greatest (suc called.stratum) (IsCallPath.by_when caller rel number called.stratum is calls (stratum_is number called found).reached) in
      omega (arith, most)

  pub where_stays : (caller number : ℕ) (rel called : Rel) → slice_get program.rels caller ≡ Some rel → slice_get program.rels number ≡ Some called → CallsIn rel.wheres number
      → called.stratum ≤ rel.stratum
  where_stays caller number rel called is found calls =
      (stratum_is caller rel is).greatest called.stratum (IsCallPath.by_where caller rel number called.stratum is calls (stratum_is number called found).reached)

  strata : List ℕ
  strata = map (λ (rel : Rel). rel.stratum) program.rels

  or_right : (a b : Bool) → b ≡ true → (a || b) ≡ true
  or_right true b h = refl
  or_right false b h = h

  or_left : (a b : Bool) → a ≡ true → (a || b) ≡ true
  or_left true b h = refl
  or_left false b h = absurd (true≢false (sym h))

  has_stratum : (rels : List Rel) (number : ℕ) (rel : Rel) → slice_get rels number ≡ Some rel → list_any (eqb rel.stratum) (map (λ (r : Rel). r.stratum) rels) ≡ true
  has_stratum [] number rel is = absurd (cc)
  has_stratum (r ∷ rs) zero rel is =
      or_left (eqb rel.stratum r.stratum) (list_any (eqb rel.stratum) (map (λ (y : Rel). y.stratum) rs))
      (eq-eqb rel.stratum r.stratum (ap (λ (x : Rel). x.stratum) (sym (same_rel r rel is))))
  has_stratum (r ∷ rs) (suc k) rel is = or_right (eqb rel.stratum r.stratum) (list_any (eqb rel.stratum) (map (λ (y : Rel). y.stratum) rs)) (has_stratum rs k rel is)

  stratum_there : (number k : ℕ) (rel : Rel) → slice_get program.rels number ≡ Some rel → k ≡ rel.stratum → list_any (eqb k) strata ≡ true
  unfolding strata
  stratum_there number k rel is here = subst (λ n. list_any (eqb n) (map (λ (r : Rel). r.stratum) program.rels) ≡ true) (sym here) (has_stratum program.rels number rel is)

  one_stratum : (number : ℕ) (a b : Rel) → slice_get program.rels number ≡ Some a → slice_get program.rels number ≡ Some b → a.stratum ≡ b.stratum
  one_stratum number a b x y = ap (λ (r : Rel). r.stratum) (same_rel a b (sym x ∙ y))

  -- each number up to the stratum of a relation is the stratum of one
  all_below : (number count : ℕ) (rel : Rel) → slice_get program.rels number ≡ Some rel → IsCallPath program number count → rel.stratum ≡ count
      → (k : ℕ) → k ≤ count → list_any (eqb k) strata ≡ true
  all_below number _ rel is (IsCallPath.end _) same k few = stratum_there number k rel is (omega (arith, few, same))
  all_below number count rel is (IsCallPath.by_where _ caller called _ found calls path) same k few =
      let typed = where_typed number called caller calls.0 found calls.1 in
      let low = where_stays number called caller typed.called found typed.found calls in
      let high = (stratum_is called typed.called typed.found).greatest count path in
      let one = one_stratum number rel caller is found in
      all_below called count typed.called typed.found path (omega (arith, low, high, one, same)) k few
  all_below number _ rel is (IsCallPath.by_when _ caller called count found calls path) same k few =
      let typed = when_typed number called caller calls.0 found calls.1 in
      let low = when_falls number called caller typed.called found typed.found calls in
      let high = (stratum_is called typed.called typed.found).greatest count path in
      let one = one_stratum number rel caller is found in
      let there : typed.called.stratum ≡ count = omega (arith, low, high, one, same) in
      elim (eqb_tells k (suc count)) [
        | inl here ↦ stratum_there number k rel is (here.1 ∙ sym same)
        | inr other ↦ all_below called count typed.called typed.found path there k (omega (arith, few, other.1))
      ]

  -- a stratum is below the number of relations
  pub few_strata : (number : ℕ) (rel : Rel) → slice_get program.rels number ≡ Some rel → rel.stratum < length program.rels
  unfolding strata
  few_strata number rel is =
      let stratum = stratum_is number rel is in
      let long = le-length_from_below strata (suc rel.stratum) (λ k below. all_below number rel.stratum rel is stratum.reached refl k (omega (arith, below))) in
      let same = length-map program.rels (λ (r : Rel). r.stratum) in
      omega (arith, long, same)

  pub fewer : (number : ℕ) (rel : Rel) → slice_get program.rels number ≡ Some rel → HasFewer program (length program.rels) number
  fewer number rel is count path =
      let most = (stratum_is number rel is).greatest count path in
      let few = few_strata number rel is in
      omega (arith, most, few)

  -- a match is some binding that meets the source and whose calls match, with a partner that meets the target and whose calls hold
  pub match_is : (models : List ModelData) (c : RelationCall) (rel : Rel) → slice_get program.rels c.rel ≡ Some rel
      → Match program models c ↔ ((b g : Values) × SourceMatches (Match program models) program models rel c.roots b × TargetHolds (HoldsFor program models MAX_CALLS) program models rel b g)
  match_is models c rel is =
      let enough = strata_enough program models (length program.rels) (suc (length program.rels)) c (fewer c.rel rel is) (omega arith) in
      let asked : Rel → Type 0 = λ (r : Rel). (b g : Values) × SourceMatches (Match program models) program models r c.roots b × TargetHolds (HoldsFor program models MAX_CALLS) program models r b g in
      (λ m. subst (λ o. Of o asked) is (enough.0 m), λ m. enough.1 (subst (λ o. Of o asked) (sym is) m))

-- ---- what calls ask for

put_length : (values : Values) (v : ℕ) (d : Option Datum) → length (slice_set values v d) ≡ length values
put_length values v d = length-set values v d

roots_length : (values : Values) (doms : List Dom) (ds : List Datum) → length (with_roots values doms ds) ≡ length values
roots_length values [] ds = refl
roots_length values (dom ∷ doms) [] = refl
roots_length values (dom ∷ doms) (d ∷ ds) = roots_length (slice_set values dom.root (Some d)) doms ds ∙ put_length values dom.root (Some d)

has_place : (values : Values) (v : ℕ) → HasValue values v → v < length values
has_place [] v h = absurd (cc)
has_place (x ∷ xs) zero h = omega arith
has_place (x ∷ xs) (suc k) h = let below = has_place xs k h in omega (arith, below)

-- a value that is there stays a value
stays : (values : Values) (doms : List Dom) (ds : List Datum) (v : ℕ) → HasValue values v → HasValue (with_roots values doms ds) v
stays values [] ds v h = h
stays values (dom ∷ doms) [] v h = h
stays values (dom ∷ doms) (d ∷ ds) v h = stays (slice_set values dom.root (Some d)) doms ds v (put values dom.root d v h)
  where
    put : (values : Values) (root : ℕ) (d : Datum) (v : ℕ) → HasValue values v → HasValue (slice_set values root (Some d)) v
    put values root d v h = elim (eqb_tells v root) [
      | inl same ↦ (d, ap (λ k. slice_index_or (slice_set values root (Some d)) k None) same.1 ∙ get_or-set_same values root (Some d) None (subst (λ k. k < length values) same.1 (has_place values v h)))
      | inr other ↦ (h.0, get_or-set_other values root v (Some d) None other.1 ∙ h.1)
    ]

given_roots : (metas : List MetaDesc) (program : Program) (rel called : Rel) (doms : List Dom) (args : List Typed) (ds : List Datum) (values : Values) → AreGiven metas program rel called doms args
    → length ds ≡ length args → length values ≡ length called.vars → (dom : Dom) → Contains doms dom → HasValue (with_roots values doms ds) dom.root
given_roots metas program rel called [] args ds values given long places dom (k, within, is) = absurd (omega (arith, within))
given_roots metas program rel called (d ∷ doms) [] ds values given long places dom c = absurd given
given_roots metas program rel called (d ∷ doms) (e ∷ es) [] values given long places dom c = absurd (omega (arith, long))
given_roots metas program rel called (d ∷ doms) (e ∷ es) (x ∷ ds) values given long places dom (zero, within, is) =
    let here : d.root < length values = subst (λ n. d.root < n) (sym places) (slice_get_within called.vars d.root given.0.0 given.0.1) in
    subst (λ (y : Dom). HasValue (with_roots (slice_set values d.root (Some x)) doms ds) y.root) is
    (stays (slice_set values d.root (Some x)) doms ds d.root (x, get_or-set_same values d.root (Some x) None here))
given_roots metas program rel called (d ∷ doms) (e ∷ es) (x ∷ ds) values given long places dom (suc k, within, is) =
    given_roots metas program rel called doms es ds (slice_set values d.root (Some x)) given.1 (omega (arith, long)) (put_length values d.root (Some x) ∙ places) dom (k, omega (arith, within), is)

given_length : {X : Type 0} (xs : List (Option X)) (ds : List X) → all_given xs ≡ Some ds → length ds ≡ length xs
given_length [] ds e = ap length (sym (some_is [] ds e))
  where
    some_is : {Y : Type 0} (a b : Y) → Some a ≡ Some b → a ≡ b
    some_is a b e = cc
given_length (None ∷ xs) ds e = absurd (cc)
given_length {X} (Some x ∷ xs) ds e = by (given_length xs) (all_given xs) refl e
  where
    some_is : {Y : Type 0} (a b : Y) → Some a ≡ Some b → a ≡ b
    some_is a b e = cc

    by : ((ys : List X) → all_given xs ≡ Some ys → length ys ≡ length xs) → (o : Option (List X)) → all_given xs ≡ o → option_map (λ ys. x ∷ ys) o ≡ Some ds → length ds ≡ suc (length xs)
    by more None is e = absurd (cc)
    by more (Some ys) is e = ap length (sym (some_is (x ∷ ys) ds e)) ∙ ap suc (more ys is)

module _ (program : Program) (models : List ModelData) where
  -- a call of a clause is that of a conjunct
  pub record Made (b : Values) (clause : List Conj) (d : RelationCall) : Type 0 where
    pub number : ℕ
    pub args : List Typed
    pub has : Contains clause (conjuncts.Call number args)
    pub is : call_of program models b number args ≡ Some d

  later : (b : Values) (c : Conj) (cs : List Conj) (d : RelationCall) → Made b cs d → Made b (c ∷ cs) d
  later b c cs d m = record { number = m.number; args = m.args; has = (suc m.has.0, omega (arith, m.has.1), m.has.2); is = m.is }

  pub made : (b : Values) (clause : List Conj) (d : RelationCall) → Contains (calls_of program models b clause) (Some d) → Made b clause d
  made b [] d (k, within, is) = absurd (omega (arith, within))
  made b (conjuncts.Cond e ∷ cs) d c = later b (conjuncts.Cond e) cs d (made b cs d c)
  made b (conjuncts.Equation v e ∷ cs) d c = later b (conjuncts.Equation v e) cs d (made b cs d c)
  made b (conjuncts.Call number args ∷ cs) d (zero, within, is) = record { number = number; args = args; has = (0, omega arith, refl); is = is }
  made b (conjuncts.Call number args ∷ cs) d (suc k, within, is) = later b (conjuncts.Call number args) cs d (made b cs d (k, omega (arith, within), is))

  -- the call can be asked
  askable : (metas : List MetaDesc) (b : Values) (rel : Rel) (number : ℕ) (args : List Typed) (d : RelationCall) → IsCallTyped metas program rel number args
      → call_of program models b number args ≡ Some d → IsAskable program d × (d.rel ≡ number)
  askable metas b rel number args d typed is = by (slice_get program.rels number) (all_given (map (λ e. datum_of (value_for program models e b)) args)) refl refl is
    where
      call_is : (x y : RelationCall) → Some x ≡ Some y → x ≡ y
      call_is x y e = cc

      by : (o : Option Rel) (ds : Option (List Datum)) → slice_get program.rels number ≡ o → all_given (map (λ e. datum_of (value_for program models e b)) args) ≡ ds → call_with number o ds ≡ Some d → IsAskable program d × (d.rel ≡ number)
      by None ds found given e = absurd (cc)
      by (Some r) None found given e = absurd (cc)
      by (Some r) (Some ds) found given e =
          let one : typed.called ≡ r = same_rel typed.called r (sym typed.found ∙ found) in
          let long : length ds ≡ length args = given_length (map (λ e. datum_of (value_for program models e b)) args) ds given ∙ length-map args (λ e. datum_of (value_for program models e b)) in
          let places : length (free r) ≡ length r.vars = length-replicate (length r.vars) None in
          let given_by : AreGiven metas program rel r r.domains args = subst (λ (x : Rel). AreGiven metas program rel x x.domains args) one typed.given in
          subst (λ (x : RelationCall). IsAskable program x × (x.rel ≡ number)) (call_is (record { rel = number; roots = with_roots (free r) r.domains ds }) d e) (
            record {
              rel = r;
              found = found;
              places = roots_length (free r) r.domains ds ∙ places;
              primitives = λ dom top has none. given_roots metas program rel r r.domains args ds (free r) given_by long places dom has;
            },
            refl,
          )

  stratum_at : (number : ℕ) (rel : Rel) → slice_get program.rels number ≡ Some rel → stratum_of program number ≡ rel.stratum
  stratum_at number rel is = ap stratum_in is

  -- calls in when clauses can be asked, and stand in lower strata
  pub below_whens : (formed : IsFormed program) (number : ℕ) (rel : Rel) (b : Values) → slice_get program.rels number ≡ Some rel → AreBelow program rel.stratum (calls_of program models b rel.whens)
  below_whens formed number rel b is d c =
      let m = made b rel.whens d c in
      let typed = when_typed program formed number m.number rel m.args is m.has in
      let (can, same) = askable formed.0 b rel m.number m.args d typed m.is in
      let falls = when_falls program formed number m.number rel typed.called is typed.found (m.args, m.has) in
      let there = ap (stratum_of program) same ∙ stratum_at m.number typed.called typed.found in
      (can, omega (arith, falls, there))

  pub below_wheres : (formed : IsFormed program) (number : ℕ) (rel : Rel) (b : Values) → slice_get program.rels number ≡ Some rel → AreBelow program (suc rel.stratum) (calls_of program models b rel.wheres)
  below_wheres formed number rel b is d c =
      let m = made b rel.wheres d c in
      let typed = where_typed program formed number m.number rel m.args is m.has in
      let (can, same) = askable formed.0 b rel m.number m.args d typed m.is in
      let level = where_stays program formed number m.number rel typed.called is typed.found (m.args, m.has) in
      let there = ap (stratum_of program) same ∙ stratum_at m.number typed.called typed.found in
      (can, omega (arith, level, there))
