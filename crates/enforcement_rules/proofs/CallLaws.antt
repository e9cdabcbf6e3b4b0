-- E9 and E10: the tests on calls tell what these rules ask.
use Rattle.std.proofs.Common.{Result, Ok, Err, ◌≡◌, ◌&&◌, ◌||◌, ℕ, List, [], Bool, true, false, Option, None, Some, refl, sym, ap, ◌∙◌, subst, inl, inr, true≢false, if◌then◌else◌}
use Rattle.std.specs.Prelude.{Contains, ◌↔◌, IsTrue, IfOk, not, slice_get}
use Rattle.std.specs.List.{list_all, flat_map}
use Rattle.std.specs.Option.{option_to_list}
use Rattle.std.proofs.lemmas.Option.{slice_get_within}
use Rattle.mof_metamodel.specs.declared.desc.MetaDesc.{MetaDesc}
use Rattle.mof_metamodel.proofs.PropLemmas.{to_flat_map, from_flat_map}
use Rattle.qv_syntax.specs.declared.ty.Ty.{Ty}
use Rattle.qv_syntax.specs.declared.typed.Typed.{Typed}
use Rattle.qv_syntax.specs.declared.typed.Node.{out-Node}
use Rattle.qv_syntax.specs.declared.program.Program.{Program}
use Rattle.qv_syntax.specs.declared.program.Rel.{Rel}
use Rattle.qv_syntax.specs.declared.program.Var.{Var}
use Rattle.qv_syntax.specs.declared.program.Dom.{Dom}
use Rattle.qv_syntax.specs.declared.program.Conj.{Conj}
use Rattle.qv_syntax.specs.declared.program.Conj.TheVariants as conjuncts
use Rattle.qv_syntax.specs.Directions.{IsMeant}
use Rattle.qv_syntax.specs.ProgramNumbers.{AreVariablesInRange}
use Rattle.ocl_environments.specs.Environments.{AreWell}
use Rattle.ocl_environments.proofs.TypeLaws.{same_is_one}
use Rattle.enforcement_rules.specs.declared.clause.Clause.{Clause}
use Rattle.enforcement_rules.specs.declared.clause.Clause.TheVariants as clauses
use Rattle.enforcement_rules.specs.Calls.{IsTargetArgument, IsTaken, HasUnmatchedCall, HasTypes, IsPassedInWhen, IsPassedInWhere, HasWrongArgument}
use Rattle.enforcement_rules.specs.CallTests.{Pair, root_pairs, is_top_called, is_right_call, taken_by_pair, taken_by_called, taken_by_conjunct, taken_by_clause, is_untaken, has_untaken, has_unmatched, type_of_variable, type_at, type_of_target, target_type, fits_in, is_passed_as, is_passed, is_right_pair, are_right_pairs, passes_conjunct}
use Rattle.enforcement_rules.specs.ExpressionTests.{variable_alone}
use Rattle.enforcement_rules.specs.NumberSets.{is_among}
use Rattle.enforcement_rules.specs.TargetTests.{is_target_variable}
use Rattle.enforcement_rules.proofs.ExpressionLaws.{target_there, there_target, alone_is, is_alone}
use Rattle.enforcement_rules.proofs.FitLaws.{fits_told, told_fits}
use Rattle.enforcement_rules.proofs.GivenLaws.{given_last, last_given}
use Rattle.enforcement_rules.proofs.KnownLaws.{listed_universal, universal_listed}
use Rattle.enforcement_rules.proofs.ListLaws.{first_in, nothing_in, only_in, or_cases, or_first, or_second, and_first, and_second, and_both, and_cases, not_true, not_false, false_unless, any_there, any_here, all_each, all_fails}
use Rattle.enforcement_rules.proofs.UnmadeLaws.{among_told, told_among}

-- ---- what stands alone as a target argument

listed_option : (o : Option ℕ) (v : ℕ) → Contains (option_to_list o) v → o ≡ Some v
listed_option None v among = absurd (nothing_in v among)
listed_option (Some n) v among = ap (λ k. Some k) (only_in n v among)

option_listed : (o : Option ℕ) (v : ℕ) → o ≡ Some v → Contains (option_to_list o) v
option_listed o v is = subst (λ (x : Option ℕ). Contains (option_to_list x) v) (sym is) (first_in v v [] refl)

module _ (program : Program) where
  pair_takes : (called : Rel) (p : Pair) (v : ℕ) → Contains (taken_by_pair program called p) v → (is_target_variable program called p.0.root ≡ true) × (variable_alone (out-Node p.1.node) ≡ Some v)
  pair_takes called p v among = by (is_target_variable program called p.0.root) refl among
    where
      by : (b : Bool) → is_target_variable program called p.0.root ≡ b → Contains (if b then option_to_list (variable_alone (out-Node p.1.node)) else []) v
          → (is_target_variable program called p.0.root ≡ true) × (variable_alone (out-Node p.1.node) ≡ Some v)
      by true is c = (is, listed_option (variable_alone (out-Node p.1.node)) v c)
      by false is c = absurd (nothing_in v c)

  takes_pair : (called : Rel) (p : Pair) (v : ℕ) → is_target_variable program called p.0.root ≡ true → variable_alone (out-Node p.1.node) ≡ Some v → Contains (taken_by_pair program called p) v
  takes_pair called p v is alone =
      subst (λ (b : Bool). Contains (if b then option_to_list (variable_alone (out-Node p.1.node)) else []) v) (sym is) (option_listed (variable_alone (out-Node p.1.node)) v alone)

  -- an argument for the target, of a call of this relation
  argument_there : (clause : List Conj) (number : ℕ) (args : List Typed) (called : Rel) (p : Pair) → Contains clause (conjuncts.Call number args) → slice_get program.rels number ≡ Some called
      → Contains (root_pairs called args) p → is_target_variable program called p.0.root ≡ true → IsTargetArgument program clause called p.0 p.1
  argument_there clause number args called p call found among is =
      let at = given_last called.domains args p among in
      record {
        number = number;
        args = args;
        call = call;
        found = found;
        place = at.place;
        of = at.of;
        target = target_there program called p.0.root is;
        last = at.last;
        argument = at.argument;
      }

  argument_given : (clause : List Conj) (called : Rel) (dom : Dom) (e : Typed) (a : IsTargetArgument program clause called dom e) → Contains (root_pairs called a.args) (dom, e)
  argument_given clause called dom e a = last_given called.domains a.args (dom, e) (record { place = a.place; of = a.of; argument = a.argument; last = a.last })

  pub taken_there : (clause : List Conj) (v : ℕ) → Contains (taken_by_clause program clause) v → IsTaken program clause v
  taken_there clause v among =
      let c = from_flat_map (taken_by_conjunct program) clause v among in
      by_conjunct c.0 c.1 c.2
    where
      by_pair : (number : ℕ) (args : List Typed) (called : Rel) → Contains clause (conjuncts.Call number args) → slice_get program.rels number ≡ Some called
          → Contains (flat_map (taken_by_pair program called) (root_pairs called args)) v → IsTaken program clause v
      by_pair number args called call found h =
          let p = from_flat_map (taken_by_pair program called) (root_pairs called args) v h in
          let t = pair_takes called p.0 v p.2 in
          record {
            called = called;
            dom = p.0.0;
            e = p.0.1;
            argument = argument_there clause number args called p.0 call found p.1 t.0;
            alone = (p.0.1.ty, alone_is p.0.1 v t.1);
          }

      by_called : (o : Option Rel) (number : ℕ) (args : List Typed) → slice_get program.rels number ≡ o → Contains clause (conjuncts.Call number args)
          → Contains (taken_by_called program o args) v → IsTaken program clause v
      by_called None number args found call h = absurd (nothing_in v h)
      by_called (Some called) number args found call h = by_pair number args called call found h

      by_conjunct : (c : Conj) → Contains clause c → Contains (taken_by_conjunct program c) v → IsTaken program clause v
      by_conjunct (conjuncts.Cond e) within h = absurd (nothing_in v h)
      by_conjunct (conjuncts.Equation w e) within h = absurd (nothing_in v h)
      by_conjunct (conjuncts.Call number args) within h = by_called (slice_get program.rels number) number args refl within h

  pub there_taken : (clause : List Conj) (v : ℕ) → IsTaken program clause v → Contains (taken_by_clause program clause) v
  there_taken clause v t =
      let a = t.argument in
      let p : Pair = (t.dom, t.e) in
      to_flat_map (taken_by_conjunct program) clause (conjuncts.Call a.number a.args) v a.call
      (subst (λ (o : Option Rel). Contains (taken_by_called program o a.args) v) (sym a.found)
      (to_flat_map (taken_by_pair program t.called) (root_pairs t.called a.args) p v (argument_given clause t.called t.dom t.e a)
      (takes_pair t.called p v (there_target program t.called t.dom.root a.target) (is_alone t.e t.alone.0 v t.alone.1))))

  -- ---- E9

  wrong_call : (c : Conj) → is_right_call program c ≡ false
      → (number : ℕ) × (args : List Typed) × (called : Rel) × (c ≡ conjuncts.Call number args) × (slice_get program.rels number ≡ Some called) × ((called.top && called.in_direction) ≡ false)
  wrong_call (conjuncts.Cond e) h = absurd (true≢false h)
  wrong_call (conjuncts.Equation v e) h = absurd (true≢false h)
  wrong_call (conjuncts.Call number args) h = by (slice_get program.rels number) refl h
    where
      by : (o : Option Rel) → slice_get program.rels number ≡ o → is_top_called o ≡ false
          → (n : ℕ) × (xs : List Typed) × (called : Rel) × (conjuncts.Call number args ≡ conjuncts.Call n xs) × (slice_get program.rels n ≡ Some called) × ((called.top && called.in_direction) ≡ false)
      by None found g = absurd (true≢false g)
      by (Some called) found g = (number, args, called, refl, found, g)

module _ (metas : List MetaDesc) (program : Program) (number : ℕ) (rel : Rel) (meant : IsMeant program number rel) (range : AreVariablesInRange metas program rel) where
  abbrev taken : ℕ → Bool
  taken = is_among (taken_by_clause program rel.whens)

  abbrev right : Bool
  right = list_all (is_right_call program) rel.whens

  unmatched_there : has_unmatched program rel ≡ true → HasUnmatchedCall program rel
  unmatched_there h = elim (or_cases (not right) (has_untaken program rel (taken_by_clause program rel.whens)) h) [
    | inl wrong ↦ (let c = all_fails (is_right_call program) rel.whens (not_true right wrong) in
        let w = wrong_call program c.0 c.2 in
        HasUnmatchedCall.called w.0 w.2 (w.1, subst (Contains rel.whens) w.3 c.1) w.4 (λ both. true≢false (sym (and_both w.2.top w.2.in_direction both.0 both.1) ∙ w.5)))
    | inr left ↦ (let v = any_there (is_untaken program rel taken) rel.universal left in
        HasUnmatchedCall.variable v.0 (listed_universal metas program number rel meant range v.0 v.1)
        (target_there program rel v.0 (and_first (is_target_variable program rel v.0) (not (taken v.0)) v.2))
        (λ t. true≢false (sym (told_among (taken_by_clause program rel.whens) v.0 (there_taken program rel.whens v.0 t))
        ∙ not_true (taken v.0) (and_second (is_target_variable program rel v.0) (not (taken v.0)) v.2))))
  ]

  there_unmatched : HasUnmatchedCall program rel → has_unmatched program rel ≡ true
  there_unmatched (HasUnmatchedCall.called n called calls found other) =
      or_first (not right) (has_untaken program rel (taken_by_clause program rel.whens))
      (not_false right (false_unless right (λ h.
      let top : (called.top && called.in_direction) ≡ true = sym (ap is_top_called found) ∙ all_each (is_right_call program) rel.whens h (conjuncts.Call n calls.0) calls.1 in
      other (and_first called.top called.in_direction top, and_second called.top called.in_direction top))))
  there_unmatched (HasUnmatchedCall.variable v universal target untaken) =
      or_second (not right) (has_untaken program rel (taken_by_clause program rel.whens))
      (any_here (is_untaken program rel taken) rel.universal v (universal_listed metas program number rel meant range v (slice_get_within rel.vars v target.var target.found) universal)
      (and_both (is_target_variable program rel v) (not (taken v)) (there_target program rel v target)
      (not_false (taken v) (false_unless (taken v) (λ h. untaken (taken_there program rel.whens v (among_told (taken_by_clause program rel.whens) v h)))))))

  pub unmatched_told_of : {E : Type 0} (r : Result Bool E) → IfOk r (λ b. b ≡ has_unmatched program rel) → IfOk r (λ b. IsTrue b ↔ HasUnmatchedCall program rel)
  unmatched_told_of (Ok b) h = (λ g. unmatched_there (sym h ∙ g), λ u. h ∙ there_unmatched u)
  unmatched_told_of (Err e) h = tt

  pub unmatched_told : (b : Bool) → b ≡ has_unmatched program rel → IsTrue b ↔ HasUnmatchedCall program rel
  unmatched_told b is = (λ h. unmatched_there (sym is ∙ h), λ u. is ∙ there_unmatched u)

-- ---- E10

module _ (metas : List MetaDesc) (well : AreWell metas) (program : Program) (rel : Rel) where
  -- the argument has these types
  types_there : (called : Rel) (p : Pair) (own asked : Ty) → target_type program rel p.1 ≡ Some own → type_at called p.0.root ≡ Some asked → HasTypes program rel called p.0 p.1 own asked
  types_there called p own asked one other = by_alone (variable_alone (out-Node p.1.node)) refl one
    where
      by_root : (v : ℕ) (var : Var) → variable_alone (out-Node p.1.node) ≡ Some v → slice_get rel.vars v ≡ Some var → var.model ≡ Some program.target → var.ty ≡ own
          → (o : Option Var) → slice_get called.vars p.0.root ≡ o → type_of_variable o ≡ Some asked → HasTypes program rel called p.0 p.1 own asked
      by_root v var alone found target typed None at h = absurd (cc)
      by_root v var alone found target typed (Some root) at h =
          let same : root.ty ≡ asked = cc in
          record { v = v; alone = (p.1.ty, alone_is p.1 v alone); var = var; found = found; target = target; typed = typed; root = root; root_found = at; root_typed = same }

      by_variable : (v : ℕ) → variable_alone (out-Node p.1.node) ≡ Some v → (b : Bool) → is_target_variable program rel v ≡ b → (if b then type_at rel v else None) ≡ Some own
          → HasTypes program rel called p.0 p.1 own asked
      by_variable v alone false is h = absurd (cc)
      by_variable v alone true is h =
          let t = target_there program rel v is in
          let same : Some t.var.ty ≡ Some own = sym (ap type_of_variable t.found) ∙ h in
          let typed : t.var.ty ≡ own = cc in
          by_root v t.var alone t.found t.target typed (slice_get called.vars p.0.root) refl other

      by_alone : (o : Option ℕ) → variable_alone (out-Node p.1.node) ≡ o → type_of_target program rel o ≡ Some own → HasTypes program rel called p.0 p.1 own asked
      by_alone None alone h = absurd (cc)
      by_alone (Some v) alone h = by_variable v alone (is_target_variable program rel v) refl h

  there_types : (called : Rel) (p : Pair) (own asked : Ty) → HasTypes program rel called p.0 p.1 own asked → (target_type program rel p.1 ≡ Some own) × (type_at called p.0.root ≡ Some asked)
  there_types called p own asked t = (
    ap (type_of_target program rel) (is_alone p.1 t.alone.0 t.v t.alone.1)
        ∙ ap (λ (b : Bool). if b then type_at rel t.v else None) (there_target program rel t.v (record { var = t.var; found = t.found; target = t.target }))
        ∙ ap type_of_variable t.found ∙ ap (λ (ty : Ty). Some ty) t.typed,
    ap type_of_variable t.root_found ∙ ap (λ (ty : Ty). Some ty) t.root_typed,
  )

  Passed : Clause → Rel → Pair → Type 0
  Passed clause called p = (own : Ty) × (asked : Ty) × HasTypes program rel called p.0 p.1 own asked × (fits_in metas clause own asked ≡ true)

  passed_there : (clause : Clause) (called : Rel) (p : Pair) → is_passed metas program rel clause called p ≡ true → Passed clause called p
  unfolding Passed
  passed_there clause called p h = by (target_type program rel p.1) (type_at called p.0.root) refl refl h
    where
      by : (a b : Option Ty) → target_type program rel p.1 ≡ a → type_at called p.0.root ≡ b → is_passed_as metas clause a b ≡ true
          → (own : Ty) × (asked : Ty) × HasTypes program rel called p.0 p.1 own asked × (fits_in metas clause own asked ≡ true)
      by None b one other g = absurd (cc)
      by (Some own) None one other g = absurd (cc)
      by (Some own) (Some asked) one other g = (own, asked, types_there called p own asked one other, g)

  there_passed : (clause : Clause) (called : Rel) (p : Pair) (own asked : Ty) → HasTypes program rel called p.0 p.1 own asked → fits_in metas clause own asked ≡ true → is_passed metas program rel clause called p ≡ true
  there_passed clause called p own asked t h =
      let types = there_types called p own asked t in
      ap (λ (o : Option Ty). is_passed_as metas clause o (type_at called p.0.root)) types.0 ∙ ap (is_passed_as metas clause (Some own)) types.1 ∙ h

  when_passed : (called : Rel) (p : Pair) → Passed clauses.When called p → IsPassedInWhen program rel called p.0 p.1
  unfolding Passed
  when_passed called p (own, asked, t, h) =
      let same : own ≡ asked = (same_is_one own asked).0 h in
      record { ty = own; types = subst (λ (ty : Ty). HasTypes program rel called p.0 p.1 own ty) (sym same) t }

  where_passed : (called : Rel) (p : Pair) → Passed clauses.Where called p → IsPassedInWhere metas program rel called p.0 p.1
  unfolding Passed
  where_passed called p (own, asked, t, h) = record { own = own; asked = asked; types = t; conforms = fits_told metas well own asked h }

  passed_when : (called : Rel) (p : Pair) → IsPassedInWhen program rel called p.0 p.1 → is_passed metas program rel clauses.When called p ≡ true
  passed_when called p i = there_passed clauses.When called p i.ty i.ty i.types ((same_is_one i.ty i.ty).1 refl)

  passed_where : (called : Rel) (p : Pair) → IsPassedInWhere metas program rel called p.0 p.1 → is_passed metas program rel clauses.Where called p ≡ true
  passed_where called p i = there_passed clauses.Where called p i.own i.asked i.types (told_fits metas well i.own i.asked i.conforms)

  -- an argument for the target in a clause, that isn't handed on as it has to be
  wrong_pair : (clause : Clause) (called : Rel) (p : Pair) → is_right_pair metas program rel clause called p ≡ false → (is_target_variable program called p.0.root ≡ true) × (is_passed metas program rel clause called p ≡ false)
  wrong_pair clause called p h = by (is_target_variable program called p.0.root) refl h
    where
      by : (b : Bool) → is_target_variable program called p.0.root ≡ b → (not b || is_passed metas program rel clause called p) ≡ false
          → (is_target_variable program called p.0.root ≡ true) × (is_passed metas program rel clause called p ≡ false)
      by true is g = (is, g)
      by false is g = absurd (true≢false g)

  record Wrong (clause : Clause) (of : List Conj) : Type 0 where
    called : Rel
    p : Pair
    argument : IsTargetArgument program of called p.0 p.1
    other : is_passed metas program rel clause called p ≡ false

  wrong_there : (clause : Clause) (of : List Conj) → list_all (passes_conjunct metas program rel clause) of ≡ false → Wrong clause of
  wrong_there clause of h =
      let c = all_fails (passes_conjunct metas program rel clause) of h in
      by_conjunct c.0 c.1 c.2
    where
      by_called : (n : ℕ) (args : List Typed) (o : Option Rel) → slice_get program.rels n ≡ o → Contains of (conjuncts.Call n args) → are_right_pairs metas program rel clause o args ≡ false → Wrong clause of
      by_called n args None found among g = absurd (true≢false g)
      by_called n args (Some called) found among g =
          let p = all_fails (is_right_pair metas program rel clause called) (root_pairs called args) g in
          let w = wrong_pair clause called p.0 p.2 in
          record { called = called; p = p.0; argument = argument_there program of n args called p.0 among found p.1 w.0; other = w.1 }

      by_conjunct : (c : Conj) → Contains of c → passes_conjunct metas program rel clause c ≡ false → Wrong clause of
      by_conjunct (conjuncts.Cond e) among g = absurd (true≢false g)
      by_conjunct (conjuncts.Equation v e) among g = absurd (true≢false g)
      by_conjunct (conjuncts.Call n args) among g = by_called n args (slice_get program.rels n) refl among g

  there_wrong : (clause : Clause) (of : List Conj) (called : Rel) (dom : Dom) (e : Typed) → IsTargetArgument program of called dom e → ¬ (is_passed metas program rel clause called (dom, e) ≡ true)
      → list_all (passes_conjunct metas program rel clause) of ≡ false
  there_wrong clause of called dom e a other =
      false_unless (list_all (passes_conjunct metas program rel clause) of)
      (λ h.
      let p : Pair = (dom, e) in
      let pairs : list_all (is_right_pair metas program rel clause called) (root_pairs called a.args) ≡ true =
      sym (ap (λ (o : Option Rel). are_right_pairs metas program rel clause o a.args) a.found) ∙ all_each (passes_conjunct metas program rel clause) of h (conjuncts.Call a.number a.args) a.call in
      let right : is_right_pair metas program rel clause called p ≡ true = all_each (is_right_pair metas program rel clause called) (root_pairs called a.args) pairs p
      (argument_given program of called dom e a) in
      other (sym (ap (λ (b : Bool). not b || is_passed metas program rel clause called p) (there_target program called dom.root a.target)) ∙ right))

  abbrev in_when : Bool
  in_when = list_all (passes_conjunct metas program rel clauses.When) rel.whens

  abbrev in_where : Bool
  in_where = list_all (passes_conjunct metas program rel clauses.Where) rel.wheres

  argument_told : (in_when && in_where) ≡ false → HasWrongArgument metas program rel
  argument_told h = elim (and_cases in_when in_where h) [
    | inl bad ↦ (let w = wrong_there clauses.When rel.whens bad in
        HasWrongArgument.of_when w.called w.p.0 w.p.1 w.argument (λ i. true≢false (sym (passed_when w.called w.p i) ∙ w.other)))
    | inr bad ↦ (let w = wrong_there clauses.Where rel.wheres bad in
        HasWrongArgument.of_where w.called w.p.0 w.p.1 w.argument (λ i. true≢false (sym (passed_where w.called w.p i) ∙ w.other)))
  ]

  told_argument : HasWrongArgument metas program rel → (in_when && in_where) ≡ false
  told_argument (HasWrongArgument.of_when called dom e a other) =
      let bad = there_wrong clauses.When rel.whens called dom e a (λ h. other (when_passed called (dom, e) (passed_there clauses.When called (dom, e) h))) in
      ap (λ (b : Bool). b && in_where) bad
  told_argument (HasWrongArgument.of_where called dom e a other) =
      let bad = there_wrong clauses.Where rel.wheres called dom e a (λ h. other (where_passed called (dom, e) (passed_there clauses.Where called (dom, e) h))) in
      false_unless (in_when && in_where) (λ h. true≢false (sym (and_second in_when in_where h) ∙ bad))

  pub passes_told : (b : Bool) → b ≡ (in_when && in_where) → (b ≡ false) ↔ HasWrongArgument metas program rel
  passes_told b is = (λ h. argument_told (sym is ∙ h), λ w. is ∙ told_argument w)

  pub wrong_told : (b : Bool) → b ≡ (in_when && in_where) → IsTrue (not b) ↔ HasWrongArgument metas program rel
  wrong_told b is = let told = passes_told b is in (λ h. told.0 (not_true b h), λ w. not_false b (told.1 w))
