-- The equations of an entry hold in its scope: no more of them wait for one another than there are conjuncts.
use Rattle.std.specs.Prelude.{◌≡◌, ◌<◌, ◌==◌, ℕ, zero, suc, Bool, true, false, if◌then◌else◌, List, [], ◌∷◌, length, Option, None, Some, slice_get, Contains}
use Rattle.std.proofs.Common.{refl, sym, ap, subst, ◌∙◌, arith, inl, inr, eq-eqb}
use Rattle.std.proofs.lemmas.Bool.{cases_lt, cases_eq}
use Rattle.std.proofs.lemmas.List.{get_or_past}
use Rattle.mof_metamodel.specs.declared.desc.MetaDesc.{MetaDesc}
use Rattle.object_tables.specs.Models.{ModelData}
use Rattle.qv_syntax.specs.declared.typed.Typed.{Typed}
use Rattle.qv_syntax.specs.declared.program.Program.{Program}
use Rattle.qv_syntax.specs.declared.program.Rel.{Rel}
use Rattle.qv_syntax.specs.declared.program.Conj.{Conj}
use Rattle.qv_syntax.specs.declared.program.Conj.TheVariants as conjuncts
use Rattle.qv_syntax.specs.Parts.{Names}
use Rattle.qv_syntax.specs.Relations.{Says}
use Rattle.qv_syntax.specs.Directions.{IsMeant}
use Rattle.qvtr_semantics.specs.declared.out.Out.TheVariants as outs
use Rattle.qvtr_semantics.specs.Expressions.{Scope, value, variable, scope_of}
use Rattle.evaluation_laws.specs.Evaluable.{IsEvaluable}
use Rattle.mof_metamodel.proofs.Facts.{contains_at}
use Rattle.enforcement_rules.specs.KnownVariables.{IsKnown}
use Rattle.enforcement_rules.specs.Rules.{Breaks, IsEnforceable}
use Rattle.repair_semantics.specs.EntryValues.{TermValues, data_in}
use Rattle.repair_semantics.specs.Making.{equation_of, by_equation, scope_within, entry_scope}
use Rattle.repair_semantics.specs.Entries.{TermSource}
use Rattle.enforceable_sources.proofs.EnforceableLaws.{enforceable_hands_on}
use Rattle.entry_sources.proofs.MakingLaws.{scope_same as fine_scope}
use Rattle.source_laws.specs.SourceValues.{HasNoTarget}
use Rattle.source_laws.specs.SourceRelations.{KeepsToSources}
use Rattle.source_laws.specs.TargetRule.{IsExpressionOf, HandsTargetOn}
use Rattle.source_laws.proofs.QueryLaws.{scope_alike}
use Rattle.source_laws.proofs.RuleLaws.{rule_keeps}
use Rattle.reading_laws.specs.Roots.{HasRootsOf}
use Rattle.reading_laws.proofs.MeetingValues.{nothing_some}
use Rattle.std.proofs.lemmas.Option.{same_Some}
use Rattle.reading_laws.proofs.MeetingTypes.{at_scope, below_vars, equation_found, scope_apart, length_within}
use Rattle.reading_laws.proofs.MeetingRounds.{IsPath, next_cycle, enough}

place_of : {X : Type 0} (xs : List X) (x : X) → Contains xs x → (i : ℕ) × (slice_get xs i ≡ Some x)
place_of [] x (k, within, is) = absurd (omega (arith, within))
place_of (y ∷ ys) x (zero, within, is) = (0, ap (λ z. Some z) is)
place_of (y ∷ ys) x (suc k, within, is) = let (i, at) = place_of ys x (k, omega (arith, within), is) in (suc i, at)

below_list : {X : Type 0} (xs : List X) (i : ℕ) (x : X) → slice_get xs i ≡ Some x → i < length xs
below_list [] i x h = absurd (nothing_some x h)
below_list (y ∷ ys) zero x h = omega arith
below_list (y ∷ ys) (suc i) x h = let more = below_list ys i x h in omega (arith, more)

one_equation : (v w : ℕ) (e f : Typed) → Some (conjuncts.Equation v e) ≡ Some (conjuncts.Equation w f) → (v ≡ w) × (e ≡ f)
one_equation v w e f h =
    let first : v ≡ w = cc in
    let second : e ≡ f = cc in (first, second)

equation_there : (cs : List Conj) (i v : ℕ) (e : Typed) → slice_get cs i ≡ Some (conjuncts.Equation v e) → (f : Typed) × (equation_of cs v ≡ Some f)
equation_there [] i v e h = absurd (nothing_some (conjuncts.Equation v e) h)
equation_there (conjuncts.Equation w x ∷ cs) zero v e h =
    let (same, other) = one_equation w v x e h in (x, ap (λ (b : Bool). if b then Some x else equation_of cs v) (eq-eqb w v same))
equation_there (conjuncts.Equation w x ∷ cs) (suc i) v e h = by (equation_there cs i v e h) (w == v) refl
  where
    by : (f : Typed) × (equation_of cs v ≡ Some f) → (b : Bool) → (w == v) ≡ b → (f : Typed) × ((if w == v then Some x else equation_of cs v) ≡ Some f)
    by rest true same = (x, ap (λ (b : Bool). if b then Some x else equation_of cs v) same)
    by rest false same = (rest.0, ap (λ (b : Bool). if b then Some x else equation_of cs v) same ∙ rest.1)
equation_there (conjuncts.Cond x ∷ cs) zero v e h = absurd (cc)
equation_there (conjuncts.Cond x ∷ cs) (suc i) v e h = equation_there cs i v e h
equation_there (conjuncts.Call n args ∷ cs) zero v e h = absurd (cc)
equation_there (conjuncts.Call n args ∷ cs) (suc i) v e h = equation_there cs i v e h

module _ (metas : List MetaDesc) (program : Program) (sources : List ModelData) (over : IsEvaluable metas program sources) (enforceable : IsEnforceable metas program)
    (place : ℕ) (rel : Rel) (found : slice_get program.rels place ≡ Some rel) (direction : rel.in_direction ≡ true)
    (roots b : TermValues) (source : TermSource program sources rel roots b) (h : HasRootsOf metas program sources rel roots) where
  abbrev meant : IsMeant program place rel
  meant = over.well.relations place rel found

  rule : HandsTargetOn program rel
  rule = enforceable_hands_on metas program over.well place rel enforceable found direction

  keeps : KeepsToSources program rel
  keeps = rule_keeps metas program over.well place rel found rule

  abbrev before : Scope
  before = scope_of (data_in b)

  abbrev round : ℕ → Scope
  round n = scope_within program sources rel before n

  fine : (n : ℕ) (v : ℕ) → HasNoTarget program.target (variable (round n) v)
  fine n = (fine_scope program sources sources (λ m other. refl) rel rule before (scope_apart metas program sources over place rel found keeps roots b source h) n).1

  long : (n : ℕ) → length (round n) ≡ length rel.vars
  long n = length_within metas program sources over place rel found keeps roots b source h n

  -- ---- a variable has one equation

  equation_is : (q v : ℕ) (e : Typed) → slice_get rel.wheres q ≡ Some (conjuncts.Equation v e) → equation_of rel.wheres v ≡ Some e
  equation_is q v e at = let (f, is) = equation_there rel.wheres q v e at in let (r, other) = equation_found rel.wheres v f is in by f is r other
    where
      earlier : (i j : ℕ) (x y : Typed) → i < j → slice_get rel.wheres i ≡ Some (conjuncts.Equation v x) → slice_get rel.wheres j ≡ Some (conjuncts.Equation v y) → ⊥
      earlier i j x y less one other =
          (meant.wheres.are j v y other).3
          (record { earlier = i; before = less; c = conjuncts.Equation v x; found = one; e = x; says = Says.equation v x; other = (meant.wheres.are i v x one).2 })

      by : (f : Typed) → equation_of rel.wheres v ≡ Some f → (r : ℕ) → slice_get rel.wheres r ≡ Some (conjuncts.Equation v f) → equation_of rel.wheres v ≡ Some e
      by f is r other = elim (cases_eq q r) [
        | inl same ↦ is ∙ ap (λ x. Some x) (one_equation v v f e (sym other ∙ ap (slice_get rel.wheres) (sym same) ∙ at)).1
        | inr ne ↦ elim (cases_lt q r) [
          | inl less ↦ absurd (earlier q r e f less at other)
          | inr more ↦ absurd (earlier r q f e (omega (arith, more, ne)) other at)
        ]
      ]

  -- ---- equations wait for one another without a cycle

  -- the equation at q names the variable of that at r
  record IsNext (q r : ℕ) : Type 0 where
    v : ℕ
    e : Typed
    at : slice_get rel.wheres q ≡ Some (conjuncts.Equation v e)
    w : ℕ
    f : Typed
    next : slice_get rel.wheres r ≡ Some (conjuncts.Equation w f)
    names : Names e w

  own_variable : (q v : ℕ) (e : Typed) → slice_get rel.wheres q ≡ Some (conjuncts.Equation v e) → v < length rel.vars
  own_variable q v e at = let is = (meant.wheres.are q v e at).0 in below_vars rel v is.var is.found

  no_cycle : (v : ℕ) → IsKnown program rel v → (q : ℕ) (e : Typed) → slice_get rel.wheres q ≡ Some (conjuncts.Equation v e) → IsPath IsNext q q → ⊥
  no_cycle v (IsKnown.universal _ universal) q e at path = (meant.wheres.are q v e at).1 universal
  no_cycle v (IsKnown.determined _ x existential is_data there all) q e at path =
      let (r, edge, rest) = next_cycle IsNext q path in
      let (i, placed) = place_of rel.wheres (conjuncts.Equation v x) there in
      let (same, one) = one_equation v edge.v e edge.e (sym at ∙ edge.at) in
      let other : x ≡ e = same_Some x e (sym (equation_is i v x placed) ∙ equation_is q v e at) in
      let names : Names x edge.w = subst (λ y. Names y edge.w) (sym (other ∙ one)) edge.names in
      no_cycle edge.w (all edge.w (record { own = own_variable r edge.w edge.f edge.next; names = names })) r edge.f edge.next rest

  acyclic : (q : ℕ) → q < length rel.wheres → IsPath IsNext q q → ⊥
  acyclic q within path =
      let (r, edge, rest) = next_cycle IsNext q path in
      let asked = meant.wheres.are q edge.v edge.e edge.at in
      enforceable place 11 (record {
        rel = rel;
        found = found;
        in_direction = direction;
        breaks = Breaks.e11 refl (record { v = edge.v; data_variable = asked.0; existential = asked.1; unknown = λ known. no_cycle edge.v known q edge.e edge.at path });
      })

  -- ---- rounds

  abbrev Good : ℕ → ℕ → Type 0
  Good n q = (v : ℕ) (e : Typed) → slice_get rel.wheres q ≡ Some (conjuncts.Equation v e) → variable (round n) v ≡ value program sources e (round n)

  next_round : (n v : ℕ) → v < length rel.vars → variable (round (suc n)) v ≡ by_equation program sources (round n) (variable before v) (equation_of rel.wheres v)
  next_round n v below = at_scope rel (λ w. by_equation program sources (round n) (variable before w) (equation_of rel.wheres w)) v below

  pub stays : (v : ℕ) → v < length rel.vars → equation_of rel.wheres v ≡ None → (n : ℕ) → variable (round n) v ≡ variable before v
  stays v below none zero = refl
  stays v below none (suc n) = next_round n v below ∙ ap (by_equation program sources (round n) (variable before v)) none

  same_named : (n q v : ℕ) (e : Typed) → slice_get rel.wheres q ≡ Some (conjuncts.Equation v e) → ((r : ℕ) → r < length rel.wheres → IsNext q r → Good n r)
      → (w : ℕ) → Names e w → variable (round n) w ≡ variable (round (suc n)) w
  same_named n q v e at all w names = elim (cases_lt w (length rel.vars)) [
    | inl below ↦ by below (equation_of rel.wheres w) refl
    | inr past ↦
        get_or_past (round n) w outs.Invalid (omega (arith, long n, past)) ∙ sym (get_or_past (round (suc n)) w outs.Invalid (omega (arith, long (suc n), past)))
  ]
    where
      by : w < length rel.vars → (o : Option Typed) → equation_of rel.wheres w ≡ o → variable (round n) w ≡ variable (round (suc n)) w
      by below None none = stays w below none n ∙ sym (stays w below none (suc n))
      by below (Some f) is =
          let (r, placed) = equation_found rel.wheres w f is in
          all r (below_list rel.wheres r (conjuncts.Equation w f) placed) (record { v = v; e = e; at = at; w = w; f = f; next = placed; names = names }) w f placed
          ∙ sym (next_round n w below ∙ ap (by_equation program sources (round n) (variable before w)) is)

  step : (n q : ℕ) → q < length rel.wheres → ((r : ℕ) → r < length rel.wheres → IsNext q r → Good n r) → Good (suc n) q
  step n q within all v e at =
      next_round n v (own_variable q v e at)
      ∙ ap (by_equation program sources (round n) (variable before v)) (equation_is q v e at)
      ∙ (scope_alike program sources sources e (round n) (round (suc n)) (λ m other. refl)
      (rule.speaks e (IsExpressionOf.conjunct (conjuncts.Equation v e) (inr (contains_at rel.wheres q (conjuncts.Equation v e) at)) refl))
      (long n ∙ sym (long (suc n))) (λ w names. (same_named n q v e at all w names, fine n w))).0

  -- each equation of the where clause holds
  pub equations_hold : (v : ℕ) (e : Typed) → Contains rel.wheres (conjuncts.Equation v e) → variable (entry_scope program sources rel b) v ≡ value program sources e (entry_scope program sources rel b)
  equations_hold v e there =
      let (q, at) = place_of rel.wheres (conjuncts.Equation v e) there in
      enough (length rel.wheres) IsNext Good acyclic step q (below_list rel.wheres q (conjuncts.Equation v e) at) v e at
