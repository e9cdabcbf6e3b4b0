-- The roots of the calls that an entry makes: no datum is an object of the target, and terms come to variables for objects of the target alone.
use Rattle.std.specs.Prelude.{◌≡◌, ◌⊎◌, ◌<◌, ℕ, zero, suc, Bool, true, false, List, [], ◌∷◌, map, length, replicate, Option, None, Some, slice_get, slice_set, Contains}
use Rattle.std.specs.Option.{option_map, option_and_then}
use Rattle.std.proofs.Common.{refl, sym, ap, subst, ◌∙◌, inl, inr, arith}
use Rattle.std.proofs.lemmas.Bool.{true≢false}
use Rattle.mof_metamodel.specs.declared.desc.MetaDesc.{MetaDesc}
use Rattle.object_tables.specs.Models.{ModelData}
use Rattle.qv_syntax.specs.declared.ty.Ty.{Ty}
use Rattle.qv_syntax.specs.declared.typed.Typed.{Typed}
use Rattle.qv_syntax.specs.declared.typed.Node.{Node, roll-Node, out-Node, roll-out-Node, out-roll-Node}
use Rattle.qv_syntax.specs.declared.typed.Call.{Call}
use Rattle.qv_syntax.specs.declared.typed.TypedInfix.{TypedInfix}
use Rattle.qv_syntax.specs.declared.typed.TypedPostfix.{TypedPostfix}
use Rattle.qv_syntax.specs.declared.program.Program.{Program}
use Rattle.qv_syntax.specs.declared.program.Rel.{Rel}
use Rattle.qv_syntax.specs.declared.program.Var.{Var}
use Rattle.qv_syntax.specs.declared.program.Dom.{Dom}
use Rattle.qv_syntax.specs.declared.program.Conj.{Conj}
use Rattle.qv_syntax.specs.ProgramTypes.{typing_of, IsGiven, AreGiven, IsCallTyped}
use Rattle.qv_syntax.specs.WellFormed.{IsWellFormed}
use Rattle.qvtr_semantics.specs.declared.datum.Datum.{Datum}
use Rattle.qvtr_semantics.specs.declared.out.Out.{Out}
use Rattle.qvtr_semantics.specs.Outs.{datum_of, all_given}
use Rattle.qvtr_semantics.specs.Expressions.{variable, value}
use Rattle.template_match.specs.Sources.{is_of_target, is_target_variable}
use Rattle.template_match.proofs.ListLaws.{contains_later}
use Rattle.mof_metamodel.proofs.Facts.{contains_first}
use Rattle.source_laws.specs.SourceValues.{IsOfSources, HasNoTarget}
use Rattle.source_laws.specs.SourceRelations.{IsPlainArgument}
use Rattle.source_laws.specs.TargetRule.{HasConjunct, HandsTargetOn}
use Rattle.source_laws.proofs.OperationLaws.{datum_apart}
use Rattle.source_laws.proofs.QueryLaws.{scope_alike}
use Rattle.source_laws.proofs.RelationLaws.{datum_by}
use Rattle.mof_metamodel.proofs.Facts.{contains_at}
use Rattle.source_laws.proofs.RuleLaws.{rule_plain}
use Rattle.source_laws.proofs.RootLaws.{alone_given, typed_call}
use Rattle.repair_semantics.specs.declared.term.Term.{Term}
use Rattle.repair_semantics.specs.declared.term.TermValue.{TermValue}
use Rattle.repair_semantics.specs.declared.entry.EntryName.{EntryName}
use Rattle.repair_semantics.specs.EntryValues.{TermValues, Known, value_of, no_values, with_roots, root_values, variable_at, variable_alone, given_by, given_value}
use Rattle.repair_semantics.specs.Entries.{bound_roots, call_to, named_call, calls_in}
use Rattle.reading_laws.proofs.CallValues.{none_some, val_term, same_val, IsFit, AreFit}
use Rattle.std.proofs.lemmas.Option.{same_Some}
use Rattle.reading_laws.proofs.CallRoots.{put_both, bound_same, bound_back}
use Rattle.qv_syntax.specs.declared.typed.Call.TheOpen as of
use Rattle.qv_syntax.specs.declared.typed.Node.TheVariants as nodes
use Rattle.qv_syntax.specs.declared.program.Conj.TheVariants as conjuncts
use Rattle.repair_semantics.specs.declared.term.TermValue.TheVariants as values

-- ---- a variable alone

some_layer : (d : of.Node-F Call Node Typed TypedInfix TypedPostfix) (v : ℕ) → variable_at d ≡ Some v → d ≡ of.Variable v
some_layer (of.Variable n) v h = ap of.Variable (same_Some n v h)
some_layer d v h = absurd (none_some v h)

pub alone_is : (e : Typed) (v : ℕ) → variable_alone e ≡ Some v → e ≡ record { ty = e.ty; node = nodes.Variable v }
alone_is e v is =
    ap (λ (n : Node). let x : Typed = record { ty = e.ty; node = n } in x) (sym (roll-out-Node e.node) ∙ ap roll-Node (some_layer (out-Node e.node) v is) ∙ nodes.rolls-Variable v)

variable_is : (v : ℕ) → variable_at (out-Node (nodes.Variable v)) ≡ Some v
variable_is v = ap (λ n. variable_at (out-Node n)) (sym (nodes.rolls-Variable v)) ∙ ap variable_at (out-roll-Node (of.Variable v))

pub alone_there : (e : Typed) (ty : Ty) (v : ℕ) → e ≡ record { ty = ty; node = nodes.Variable v } → variable_alone e ≡ Some v
alone_there e ty v is = ap variable_alone is ∙ variable_is v

pub not_alone : (e : Typed) (ty : Ty) (v : ℕ) → e ≡ record { ty = ty; node = nodes.Variable v } → variable_alone e ≡ None → ⊥
not_alone e ty v is none = none_some v (sym none ∙ ap variable_alone is ∙ variable_is v)

-- ---- values put at roots

pub map_same : {X Y : Type 0} (f g : X → Y) (xs : List X) → ((x : X) → f x ≡ g x) → map f xs ≡ map g xs
map_same f g [] h = refl
map_same f g (x ∷ xs) h = ap (λ y. y ∷ map f xs) (h x) ∙ ap (λ ys. g x ∷ ys) (map_same f g xs h)

pub none_at : (n v : ℕ) → value_of (replicate n None) v ≡ None
none_at zero v = refl
none_at (suc n) zero = refl
none_at (suc n) (suc v) = none_at n v

-- a root has a value
pub rooted_at : (f : ℕ → Option TermValue) (doms : List Dom) (ys : List TermValue) → map (λ dom. f dom.root) doms ≡ map (λ x. Some x) ys
    → (dom : Dom) → Contains doms dom → (x : TermValue) × (f dom.root ≡ Some x)
rooted_at f [] ys h dom (k, less, is) = absurd (omega (arith, less))
rooted_at f (first ∷ doms) [] h dom there = absurd (long (ap length h))
  where
    long : length (map (λ (dom : Dom). f dom.root) (first ∷ doms)) ≡ 0 → ⊥
    long h = omega (arith, h)
rooted_at f (first ∷ doms) (y ∷ ys) h dom (zero, less, is) = (y, ap (λ (d : Dom). f d.root) (sym is) ∙ head (f first.root) (Some y) (map (λ d. f d.root) doms) (map (λ x. Some x) ys) h)
  where
    head : (a b : Option TermValue) (os ps : List (Option TermValue)) → a ∷ os ≡ b ∷ ps → a ≡ b
    head a b os ps k = cc
rooted_at f (first ∷ doms) (y ∷ ys) h dom (suc k, less, is) =
    rooted_at f doms ys (tail (f first.root) (Some y) (map (λ d. f d.root) doms) (map (λ x. Some x) ys) h) dom (k, omega (arith, less), is)
  where
    tail : (a b : Option TermValue) (os ps : List (Option TermValue)) → a ∷ os ≡ b ∷ ps → os ≡ ps
    tail a b os ps k = cc

module _ (program : Program) (terms : List Term) (called : Rel) where
  pub none_fit : AreFit program terms called (no_values called)
  none_fit v x at = absurd (none_some x (sym (none_at (length called.vars) v) ∙ at))

  put_fit : (b : TermValues) (r : ℕ) (y : TermValue) → AreFit program terms called b → IsFit program terms called r y → AreFit program terms called (slice_set b r (Some y))
  put_fit b r y before here v x at = by (put_both b b r v y y refl)
    where
      by : ((r ≡ v) × (value_of (slice_set b r (Some y)) v ≡ Some y)) ⊎ ((value_of (slice_set b r (Some y)) v ≡ value_of b v) × (value_of (slice_set b r (Some y)) v ≡ value_of b v))
          → IsFit program terms called v x
      by (inl (is, there)) = subst (λ z. IsFit program terms called v z) (same_Some y x (sym there ∙ at)) (subst (λ n. IsFit program terms called n y) is here)
      by (inr (same, again)) = before v x (sym same ∙ at)

  -- each argument may stand at the root of its domain
  pub AllFit : List Dom → List TermValue → Type 0
  AllFit [] [] = Unit {0}
  AllFit [] (x ∷ xs) = ⊥
  AllFit (dom ∷ doms) [] = ⊥
  AllFit (dom ∷ doms) (x ∷ xs) = IsFit program terms called dom.root x × AllFit doms xs

  pub fit_long : (doms : List Dom) (xs : List TermValue) → AllFit doms xs → length xs ≡ length doms
  unfolding AllFit
  fit_long [] [] h = refl
  fit_long [] (x ∷ xs) h = absurd h
  fit_long (dom ∷ doms) [] h = absurd h
  fit_long (dom ∷ doms) (x ∷ xs) h = ap suc (fit_long doms xs h.1)

  roots_fit : (b : TermValues) (doms : List Dom) (xs : List TermValue) → AreFit program terms called b → AllFit doms xs → AreFit program terms called (with_roots b doms xs)
  unfolding AllFit
  roots_fit b [] xs before all = before
  roots_fit b (dom ∷ doms) [] before all = before
  roots_fit b (dom ∷ doms) (x ∷ xs) before all = roots_fit (slice_set b dom.root (Some x)) doms xs (put_fit b dom.root x before all.0) all.1

  -- the roots of a call: they are its own, and fit
  pub record RootsFit (from : EntryName) : Type 0 where
    pub rooted : map (λ dom. value_of (root_values called from.roots) dom.root) called.domains ≡ map (λ x. Some x) from.roots
    pub fit : AreFit program terms called (root_values called from.roots)

  pub bound_fit : (n : ℕ) (xs : List TermValue) → ((dom : Dom) → Contains called.domains dom → dom.root < length called.vars) → AllFit called.domains xs
      → RootsFit (record { rel = n; roots = bound_roots called xs })
  bound_fit n xs range all =
      let long = fit_long called.domains xs all in
      let same = bound_same called range xs long in record {
        rooted = map_same (λ dom. value_of (root_values called (bound_roots called xs)) dom.root) (λ dom. value_of (root_values called xs) dom.root) called.domains (λ dom. same dom.root)
            ∙ bound_back called range xs long;
        fit = λ v x at. roots_fit (no_values called) called.domains xs none_fit all v x (sym (same v) ∙ at);
      }

-- ---- the arguments of an entry's calls

pub given_val : (o : Option Datum) (x : TermValue) → option_map (λ d. values.Val d) o ≡ Some x → (d : Datum) × (o ≡ Some d) × (x ≡ values.Val d)
given_val None x h = absurd (none_some x h)
given_val (Some d) x h = (d, refl, sym (same_Some (values.Val d) x h))

module _ (metas : List MetaDesc) (program : Program) (formed : IsWellFormed metas program) (sources : List ModelData) (terms : List Term) (place : ℕ) (rel : Rel)
    (found : slice_get program.rels place ≡ Some rel) (rule : HandsTargetOn program rel) (k : Known) (fits : AreFit program terms rel k.values)
    (scope : (v : ℕ) → is_target_variable program rel v ≡ false → HasNoTarget program.target (variable k.scope v)) where
  abbrev one : Typed → Option TermValue
  one e = given_value program sources k e

  argument_fit : (called : Rel) (r : ℕ) (root : Var) (e : Typed) → slice_get called.vars r ≡ Some root → IsGiven metas program rel (typing_of root) e → IsPlainArgument program rel e
      → (x : TermValue) → one e ≡ Some x → IsFit program terms called r x
  argument_fit called r root e at given plain x is = by (variable_alone e) refl plain
    where
      target : (v : ℕ) → e ≡ record { ty = e.ty; node = nodes.Variable v } → is_target_variable program rel v ≡ true → (y : Bool) → is_target_variable program called r ≡ y → y ≡ true
      target v alone own true there = refl
      target v alone own false there =
          absurd (true≢false (sym own ∙ alone_given metas program formed place rel found root e e.ty v given alone (sym (ap (is_of_target program) at) ∙ there)))

      by : (o : Option ℕ) → variable_alone e ≡ o → IsPlainArgument program rel e → IsFit program terms called r x
      by (Some v) there plain =
          let fit : IsFit program terms rel v x = fits v x (sym (ap (given_by program sources k e) there) ∙ is) in
          record { told = fit.told; target = λ t is_term. target v (alone_is e v there) (fit.target t is_term) (is_target_variable program called r) refl }
      by None there (IsPlainArgument.alone ty v alone) = absurd (not_alone e ty v alone there)
      by None there (IsPlainArgument.of_sources speaks names) =
          let out : Out = value program sources e k.scope in
          let d = given_val (datum_of out) x (sym (ap (given_by program sources k e) there) ∙ is) in
          let apart : IsOfSources program.target d.0 =
          datum_by program.target (datum_of out) d.0
          (datum_apart program.target out
          (scope_alike program sources sources e k.scope k.scope (λ m other. refl) speaks refl (λ v named. (refl, scope v (names v named)))).1) d.1 in
          record {
            told = record {
              data_value = λ y is_y. subst (IsOfSources program.target) (same_val d.0 y (sym d.2 ∙ is_y)) apart;
              term = λ t is_t. absurd (val_term d.0 t (sym d.2 ∙ is_t));
            };
            target = λ t is_t. absurd (val_term d.0 t (sym d.2 ∙ is_t));
          }

  arguments_fit : (called : Rel) (doms : List Dom) (args : List Typed) (xs : List TermValue) → AreGiven metas program rel called doms args
      → ((e : Typed) → Contains args e → IsPlainArgument program rel e) → all_given (map one args) ≡ Some xs → AllFit program terms called doms xs
  unfolding AllFit
  arguments_fit called [] [] xs given plain all = subst (AllFit program terms called []) (same_Some [] xs all) tt
  arguments_fit called [] (e ∷ es) xs given plain all = absurd given
  arguments_fit called (dom ∷ doms) [] xs given plain all = absurd given
  arguments_fit called (dom ∷ doms) (e ∷ es) xs given plain all =
      by (one e) (all_given (map one es)) refl refl all
      (λ ys others. arguments_fit called doms es ys given.1 (λ x c. plain x (contains_later x e es c)) others)
    where
      by : (o : Option TermValue) (p : Option (List TermValue)) → one e ≡ o → all_given (map one es) ≡ p → all_given (o ∷ map one es) ≡ Some xs
          → ((ys : List TermValue) → all_given (map one es) ≡ Some ys → AllFit program terms called doms ys) → AllFit program terms called (dom ∷ doms) xs
      by None p is others h rest = absurd (none_some xs h)
      by (Some x) None is others h rest = absurd (none_some xs (sym (ap (option_map (λ ys. x ∷ ys)) others) ∙ h))
      by (Some x) (Some ys) is others h rest =
          subst (AllFit program terms called (dom ∷ doms)) (same_Some (x ∷ ys) xs (sym (ap (option_map (λ zs. x ∷ zs)) others) ∙ h))
          (argument_fit called dom.root given.0.0 e given.0.1 given.0.2 (plain e (contains_first e es)) x is, rest ys others)

  pub range_of : (n : ℕ) (called : Rel) → slice_get program.rels n ≡ Some called → (dom : Dom) → Contains called.domains dom → dom.root < length called.vars
  range_of n called is = (formed.numbers.relations called (contains_at program.rels n called is)).roots

  pub record CallFits (from : EntryName) : Type 0 where
    pub called : Rel
    pub at : slice_get program.rels from.rel ≡ Some called
    pub roots_fit : RootsFit program terms called from

  call_fit : (n : ℕ) (args : List Typed) → IsCallTyped metas program rel n args → ((e : Typed) → Contains args e → IsPlainArgument program rel e)
      → (from : EntryName) → named_call program sources k n args ≡ Some from → CallFits from
  call_fit n args typed plain from is =
      by (all_given (map one args)) refl (sym (ap (λ o. option_and_then (call_to n o) (all_given (map one args))) typed.found) ∙ is)
    where
      by : (o : Option (List TermValue)) → all_given (map one args) ≡ o → option_and_then (call_to n (Some typed.called)) o ≡ Some from → CallFits from
      by None all h = absurd (none_some from h)
      by (Some xs) all h =
          let made : EntryName = record { rel = n; roots = bound_roots typed.called xs } in
          subst CallFits (same_Some made from h) (record {
            called = typed.called;
            at = typed.found;
            roots_fit = bound_fit program terms typed.called n xs (range_of n typed.called typed.found) (arguments_fit typed.called typed.called.domains args xs typed.given plain all);
          })

  -- each call of a clause of the relation
  pub clause_fits : (clause : List Conj) → ((c : Conj) → Contains clause c → HasConjunct rel c) → (from : EntryName) → Contains (calls_in program sources k clause) (Some from) → CallFits from
  clause_fits clause there from within = go clause there (λ n args e c. rule_plain metas program formed place rel found clause there rule n args e c) within
    where
      go : (cs : List Conj) → ((c : Conj) → Contains cs c → HasConjunct rel c) → ((n : ℕ) (args : List Typed) (e : Typed) → Contains cs (conjuncts.Call n args) → Contains args e → IsPlainArgument program rel e)
          → Contains (calls_in program sources k cs) (Some from) → CallFits from
      go [] at plain (i, less, is) = absurd (omega (arith, less))
      go (conjuncts.Call n args ∷ cs) at plain (zero, less, is) =
          call_fit n args (typed_call metas program formed place rel found n args (at (conjuncts.Call n args) (contains_first (conjuncts.Call n args) cs)))
          (λ e c. plain n args e (contains_first (conjuncts.Call n args) cs) c) from is
      go (conjuncts.Call n args ∷ cs) at plain (suc i, less, is) =
          go cs (λ c w. at c (contains_later c (conjuncts.Call n args) cs w)) (λ m more e w c. plain m more e (contains_later (conjuncts.Call m more) (conjuncts.Call n args) cs w) c)
          (i, omega (arith, less), is)
      go (conjuncts.Cond x ∷ cs) at plain w =
          go cs (λ c w. at c (contains_later c (conjuncts.Cond x) cs w)) (λ m more e w c. plain m more e (contains_later (conjuncts.Call m more) (conjuncts.Cond x) cs w) c) w
      go (conjuncts.Equation v x ∷ cs) at plain w =
          go cs (λ c w. at c (contains_later c (conjuncts.Equation v x) cs w)) (λ m more e w c. plain m more e (contains_later (conjuncts.Call m more) (conjuncts.Equation v x) cs w) c) w
