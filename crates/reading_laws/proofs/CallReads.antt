-- The calls that an entry makes are read as those that a binding makes over the models.
use Rattle.std.specs.Prelude.{◌≡◌, ◌⊎◌, ◌<◌, ℕ, zero, suc, false, List, [], ◌∷◌, map, length, replicate, Option, None, Some, slice_get, slice_set, Contains}
use Rattle.std.specs.Option.{option_map, option_and_then}
use Rattle.std.proofs.Common.{refl, sym, ap, subst, ◌∙◌, inl, inr, arith}
use Rattle.std.proofs.lemmas.Bool.{true≢false}
use Rattle.mof_metamodel.specs.declared.desc.MetaDesc.{MetaDesc}
use Rattle.object_tables.specs.Models.{ModelData}
use Rattle.qv_syntax.specs.declared.typed.Typed.{Typed}
use Rattle.qv_syntax.specs.declared.program.Program.{Program}
use Rattle.qv_syntax.specs.declared.program.Rel.{Rel}
use Rattle.qv_syntax.specs.declared.program.Dom.{Dom}
use Rattle.qv_syntax.specs.declared.program.Conj.{Conj}
use Rattle.qv_syntax.specs.ProgramTypes.{AreGiven, IsCallTyped}
use Rattle.qv_syntax.specs.WellFormed.{IsWellFormed}
use Rattle.qvtr_semantics.specs.declared.datum.Datum.{Datum}
use Rattle.qvtr_semantics.specs.Outs.{datum_of, all_given}
use Rattle.qvtr_semantics.specs.Expressions.{variable, value, value_for, scope_of, bound_value}
use Rattle.qvtr_semantics.specs.Templates.{Values, value_at}
use Rattle.qvtr_semantics.specs.Calls.{free, call_with, call_of, calls_of}
use Rattle.template_match.specs.Sources.{is_target_variable}
use Rattle.template_match.proofs.ListLaws.{contains_later}
use Rattle.mof_metamodel.proofs.Facts.{contains_first}
use Rattle.source_laws.specs.Agreement.{AgreeBut}
use Rattle.source_laws.specs.SourceValues.{HasNoTarget}
use Rattle.source_laws.specs.SourceRelations.{IsPlainArgument}
use Rattle.source_laws.specs.TargetRule.{HasConjunct, HandsTargetOn}
use Rattle.source_laws.proofs.QueryLaws.{scope_alike, variable_is}
use Rattle.source_laws.proofs.RuleLaws.{rule_plain}
use Rattle.source_laws.proofs.RootLaws.{alone_datum, same_called, typed_call}
use Rattle.repair_semantics.specs.declared.term.Term.{Term}
use Rattle.repair_semantics.specs.declared.term.TermValue.{TermValue}
use Rattle.repair_semantics.specs.Terms.{datum_in}
use Rattle.repair_semantics.specs.EntryValues.{TermValues, Known, value_of, data_in, no_values, with_roots, root_values, variable_alone, given_by, given_value}
use Rattle.repair_semantics.specs.Entries.{bound_roots, call_to, named_call, calls_in}
use Rattle.reading_laws.specs.Readings.{Numbering, read_value, Reads}
use Rattle.reading_laws.specs.ReadCalls.{IsReadCall, AreReadCalls}
use Rattle.reading_laws.proofs.CallValues.{val_or_term, data_at, datum_from, datum_of_val, val_read, ReadsOne, one_at, all_at, AreFit}
use Rattle.reading_laws.proofs.CallRoots.{put_long, roots_long, none_long, bound_same}
use Rattle.reading_laws.proofs.CallFits.{alone_is, not_alone}
use Rattle.qv_syntax.specs.declared.program.Conj.TheVariants as conjuncts
use Rattle.qvtr_semantics.specs.Calls as calls
use Rattle.repair_semantics.specs.declared.term.TermValue.TheVariants as values

-- ---- values put at roots

value_long : (c : Values) (r : ℕ) (d : Datum) → length (slice_set c r (Some d)) ≡ length c
value_long [] r d = refl
value_long (o ∷ c) zero d = refl
value_long (o ∷ c) (suc r) d = ap suc (value_long c r d)

pub data_roots_long : (c : Values) (doms : List Dom) (ds : List Datum) → length (calls.with_roots c doms ds) ≡ length c
data_roots_long c [] ds = refl
data_roots_long c (dom ∷ doms) [] = refl
data_roots_long c (dom ∷ doms) (d ∷ ds) = data_roots_long (slice_set c dom.root (Some d)) doms ds ∙ value_long c dom.root d

module _ (program : Program) (number : Numbering) where
  abbrev Pointwise : TermValues → Values → Type 0
  Pointwise b c = (v : ℕ) → ReadsOne program number (value_of b v) (value_at c v)

  pub free_reads : (n : ℕ) → Pointwise (replicate n None) (replicate n None)
  free_reads zero v = tt
  free_reads (suc n) zero = tt
  free_reads (suc n) (suc v) = free_reads n v

  put_reads : (b : TermValues) (c : Values) (r : ℕ) (x : TermValue) (d : Datum) → length c ≡ length b → Pointwise b c → read_value program number x ≡ Some d
      → Pointwise (slice_set b r (Some x)) (slice_set c r (Some d))
  put_reads [] [] r x d long before here v = before v
  put_reads [] (q ∷ c) r x d long before here v = absurd (omega (arith, long))
  put_reads (p ∷ b) [] r x d long before here v = absurd (omega (arith, long))
  put_reads (p ∷ b) (q ∷ c) zero x d long before here zero = here
  put_reads (p ∷ b) (q ∷ c) zero x d long before here (suc v) = before (suc v)
  put_reads (p ∷ b) (q ∷ c) (suc r) x d long before here zero = before zero
  put_reads (p ∷ b) (q ∷ c) (suc r) x d long before here (suc v) = put_reads b c r x d (omega (arith, long)) (λ w. before (suc w)) here v

  -- data as which values are read, one for each domain
  AllRead : List Dom → List TermValue → List Datum → Type 0
  AllRead [] [] [] = Unit {0}
  AllRead (dom ∷ doms) (x ∷ xs) (d ∷ ds) = (read_value program number x ≡ Some d) × AllRead doms xs ds
  AllRead doms xs ds = ⊥

  read_long : (doms : List Dom) (xs : List TermValue) (ds : List Datum) → AllRead doms xs ds → length xs ≡ length doms
  unfolding AllRead
  read_long [] [] [] h = refl
  read_long [] [] (d ∷ ds) h = absurd h
  read_long [] (x ∷ xs) [] h = absurd h
  read_long [] (x ∷ xs) (d ∷ ds) h = absurd h
  read_long (dom ∷ doms) [] [] h = absurd h
  read_long (dom ∷ doms) [] (d ∷ ds) h = absurd h
  read_long (dom ∷ doms) (x ∷ xs) [] h = absurd h
  read_long (dom ∷ doms) (x ∷ xs) (d ∷ ds) h = ap suc (read_long doms xs ds h.1)

  roots_read : (b : TermValues) (c : Values) (doms : List Dom) (xs : List TermValue) (ds : List Datum) → length c ≡ length b → Pointwise b c → AllRead doms xs ds
      → Pointwise (with_roots b doms xs) (calls.with_roots c doms ds)
  unfolding AllRead
  roots_read b c [] [] [] long before all = before
  roots_read b c [] [] (d ∷ ds) long before all = absurd all
  roots_read b c [] (x ∷ xs) [] long before all = absurd all
  roots_read b c [] (x ∷ xs) (d ∷ ds) long before all = absurd all
  roots_read b c (dom ∷ doms) [] [] long before all = absurd all
  roots_read b c (dom ∷ doms) [] (d ∷ ds) long before all = absurd all
  roots_read b c (dom ∷ doms) (x ∷ xs) [] long before all = absurd all
  roots_read b c (dom ∷ doms) (x ∷ xs) (d ∷ ds) long before all =
      roots_read (slice_set b dom.root (Some x)) (slice_set c dom.root (Some d)) doms xs ds (value_long c dom.root d ∙ long ∙ sym (put_long b dom.root x))
      (put_reads b c dom.root x d long before all.0) all.1

  -- both are given so, or neither is
  GivenRead : List Dom → Option (List TermValue) → Option (List Datum) → Type 0
  GivenRead doms None None = Unit {0}
  GivenRead doms None (Some ds) = ⊥
  GivenRead doms (Some xs) None = ⊥
  GivenRead doms (Some xs) (Some ds) = AllRead doms xs ds

  more_read : (dom : Dom) (doms : List Dom) (x : TermValue) (d : Datum) (o : Option (List TermValue)) (p : Option (List Datum)) → read_value program number x ≡ Some d → GivenRead doms o p
      → GivenRead (dom ∷ doms) (option_map (λ xs. x ∷ xs) o) (option_map (λ ds. d ∷ ds) p)
  unfolding GivenRead AllRead
  more_read dom doms x d None None here rest = tt
  more_read dom doms x d None (Some ds) here rest = absurd rest
  more_read dom doms x d (Some xs) None here rest = absurd rest
  more_read dom doms x d (Some xs) (Some ds) here rest = (here, rest)

  given_read : (dom : Dom) (doms : List Dom) (o : Option TermValue) (p : Option Datum) (os : List (Option TermValue)) (ps : List (Option Datum)) → ReadsOne program number o p
      → GivenRead doms (all_given os) (all_given ps) → GivenRead (dom ∷ doms) (all_given (o ∷ os)) (all_given (p ∷ ps))
  unfolding GivenRead
  given_read dom doms None None os ps here rest = tt
  given_read dom doms None (Some d) os ps here rest = absurd here
  given_read dom doms (Some x) None os ps here rest = absurd here
  given_read dom doms (Some x) (Some d) os ps here rest = more_read dom doms x d (all_given os) (all_given ps) here rest

  call_by : (n : ℕ) (called : Rel) (o : Option (List TermValue)) (p : Option (List Datum)) → slice_get program.rels n ≡ Some called
      → ((dom : Dom) → Contains called.domains dom → dom.root < length called.vars) → GivenRead called.domains o p
      → IsReadCall program number (option_and_then (call_to n (Some called)) o) (call_with n (Some called) p)
  unfolding GivenRead
  call_by n called None None found range same = tt
  call_by n called None (Some ds) found range same = absurd same
  call_by n called (Some xs) None found range same = absurd same
  call_by n called (Some xs) (Some ds) found range same = record { rel = refl; roots = λ other is. at other (same_called called other (sym found ∙ is)) }
    where
      each : Pointwise (root_values called xs) (calls.with_roots (free called) called.domains ds)
      each = roots_read (no_values called) (free called) called.domains xs ds (none_long (length called.vars) None ∙ sym (none_long (length called.vars) None)) (free_reads (length called.vars)) same

      at : (other : Rel) → called ≡ other → Reads program number (root_values other (bound_roots called xs)) (calls.with_roots (free called) called.domains ds)
      at other one =
          subst (λ r. Reads program number (root_values r (bound_roots called xs)) (calls.with_roots (free called) called.domains ds)) one
          (all_at program number (root_values called (bound_roots called xs)) (calls.with_roots (free called) called.domains ds)
          (data_roots_long (free called) called.domains ds ∙ none_long (length called.vars) None ∙ sym (none_long (length called.vars) None)
          ∙ sym (roots_long (no_values called) called.domains (bound_roots called xs)))
          (λ v. subst (λ z. ReadsOne program number z (value_at (calls.with_roots (free called) called.domains ds) v))
          (sym (bound_same called range xs (read_long called.domains xs ds same) v)) (each v)))

-- ---- the arguments of an entry's calls

reads_val : (program : Program) (number : Numbering) (o : Option Datum) → ReadsOne program number (option_map (λ d. values.Val d) o) o
reads_val program number None = tt
reads_val program number (Some d) = val_read program number d

module _ (metas : List MetaDesc) (program : Program) (formed : IsWellFormed metas program) (sources models : List ModelData) (agree : AgreeBut program.target sources models)
    (number : Numbering) (place : ℕ) (rel : Rel) (found : slice_get program.rels place ≡ Some rel) (rule : HandsTargetOn program rel) (k : Known) (g : Values)
    (Asked : ℕ → Type 0) (reads : (v : ℕ) → Asked v → ReadsOne program number (value_of k.values v) (value_at g v)) (long : length k.scope ≡ length (scope_of g))
    (scope : (v : ℕ) → is_target_variable program rel v ≡ false → (variable k.scope v ≡ variable (scope_of g) v) × HasNoTarget program.target (variable k.scope v)) where
  abbrev one : Typed → Option TermValue
  one e = given_value program sources k e

  abbrev other : Typed → Option Datum
  other e = datum_of (value_for program models e g)

  pub argument_read : (e : Typed) → IsPlainArgument program rel e → ((v : ℕ) → variable_alone e ≡ Some v → Asked v) → ReadsOne program number (one e) (other e)
  argument_read e plain asked = by (variable_alone e) refl plain
    where
      by : (o : Option ℕ) → variable_alone e ≡ o → IsPlainArgument program rel e → ReadsOne program number (one e) (other e)
      by (Some v) there plain =
          subst (λ o. ReadsOne program number o (other e)) (sym (ap (given_by program sources k e) there))
          (subst (ReadsOne program number (value_of k.values v)) (sym (alone_datum program models g e e.ty v (alone_is e v there))) (reads v (asked v there)))
      by None there (IsPlainArgument.alone ty v alone) = absurd (not_alone e ty v alone there)
      by None there (IsPlainArgument.of_sources speaks names) =
          subst (λ o. ReadsOne program number o (other e)) (sym (ap (given_by program sources k e) there))
          (subst (ReadsOne program number (option_map (λ d. values.Val d) (datum_of (value program sources e k.scope))))
          (ap datum_of (scope_alike program sources models e k.scope (scope_of g) agree speaks long (λ v named. scope v (names v named))).0)
          (reads_val program number (datum_of (value program sources e k.scope))))

  arguments_read : (called : Rel) (doms : List Dom) (args : List Typed) → AreGiven metas program rel called doms args → ((e : Typed) → Contains args e → IsPlainArgument program rel e)
      → ((e : Typed) (v : ℕ) → Contains args e → variable_alone e ≡ Some v → Asked v) → GivenRead program number doms (all_given (map one args)) (all_given (map other args))
  unfolding GivenRead AllRead
  arguments_read called [] [] given plain asked = tt
  arguments_read called [] (e ∷ es) given plain asked = absurd given
  arguments_read called (dom ∷ doms) [] given plain asked = absurd given
  arguments_read called (dom ∷ doms) (e ∷ es) given plain asked =
      given_read program number dom doms (one e) (other e) (map one es) (map other es) (argument_read e (plain e (contains_first e es)) (λ v alone. asked e v (contains_first e es) alone))
      (arguments_read called doms es given.1 (λ x within. plain x (contains_later x e es within)) (λ x v within alone. asked x v (contains_later x e es within) alone))

  pub call_read : (n : ℕ) (args : List Typed) → IsCallTyped metas program rel n args → ((dom : Dom) (called : Rel) → slice_get program.rels n ≡ Some called → Contains called.domains dom → dom.root < length called.vars)
      → ((e : Typed) → Contains args e → IsPlainArgument program rel e) → ((e : Typed) (v : ℕ) → Contains args e → variable_alone e ≡ Some v → Asked v)
      → IsReadCall program number (named_call program sources k n args) (call_of program models g n args)
  call_read n args typed range plain asked =
      subst (λ o. IsReadCall program number (option_and_then (call_to n o) (all_given (map one args))) (call_with n o (all_given (map other args)))) (sym typed.found)
      (call_by program number n typed.called (all_given (map one args)) (all_given (map other args)) typed.found (λ dom. range dom typed.called typed.found)
      (arguments_read typed.called typed.called.domains args typed.given plain asked))

  -- each call of a clause of the relation
  pub clause_read : (clause : List Conj) → ((c : Conj) → Contains clause c → HasConjunct rel c)
      → ((n : ℕ) (called : Rel) → slice_get program.rels n ≡ Some called → (dom : Dom) → Contains called.domains dom → dom.root < length called.vars)
      → ((n : ℕ) (args : List Typed) (e : Typed) (v : ℕ) → Contains clause (conjuncts.Call n args) → Contains args e → variable_alone e ≡ Some v → Asked v)
      → (n : ℕ) (args : List Typed) → Contains clause (conjuncts.Call n args) → IsReadCall program number (named_call program sources k n args) (call_of program models g n args)
  clause_read clause there range asked n args within =
      call_read n args (typed_call metas program formed place rel found n args (there (conjuncts.Call n args) within)) (λ dom called is. range n called is dom)
      (λ e c. rule_plain metas program formed place rel found clause there rule n args e within c) (λ e v c alone. asked n args e v within c alone)

  pub clause_reads : (clause : List Conj) → ((n : ℕ) (args : List Typed) → Contains clause (conjuncts.Call n args) → IsReadCall program number (named_call program sources k n args) (call_of program models g n args))
      → AreReadCalls program number (calls_in program sources k clause) (calls_of program models g clause)
  clause_reads [] each = tt
  clause_reads (conjuncts.Call n args ∷ cs) each = (
    each n args (contains_first (conjuncts.Call n args) cs),
    clause_reads cs (λ m more w. each m more (contains_later (conjuncts.Call m more) (conjuncts.Call n args) cs w)),
  )
  clause_reads (conjuncts.Cond x ∷ cs) each = clause_reads cs (λ m more w. each m more (contains_later (conjuncts.Call m more) (conjuncts.Cond x) cs w))
  clause_reads (conjuncts.Equation v x ∷ cs) each = clause_reads cs (λ m more w. each m more (contains_later (conjuncts.Call m more) (conjuncts.Equation v x) cs w))

-- ---- the scopes of a binding, and of that as which it is read

module _ (program : Program) (number : Numbering) (terms : List Term) (rel : Rel) (b : TermValues) (c : Values) (fits : AreFit program terms rel b) where
  source_one : (v : ℕ) → is_target_variable program rel v ≡ false → ReadsOne program number (value_of b v) (value_at c v) → value_at (data_in b) v ≡ value_at c v
  source_one v outside one = data_at b v ∙ by (value_of b v) (value_at c v) refl one
    where
      datum : (x : TermValue) (d : Datum) → value_of b v ≡ Some x → read_value program number x ≡ Some d → ((a : Datum) × (x ≡ values.Val a)) ⊎ ((t : Term) × (x ≡ values.Term t)) → datum_in x ≡ Some d
      datum x d at read (inl (a, is)) = ap datum_in is ∙ datum_of_val a ∙ sym (val_read program number a) ∙ sym (ap (read_value program number) is) ∙ read
      datum x d at read (inr (t, is)) = absurd (true≢false (sym ((fits v x at).target t is) ∙ outside))

      by : (o : Option TermValue) (p : Option Datum) → value_of b v ≡ o → ReadsOne program number o p → option_and_then datum_in o ≡ p
      by None None at h = refl
      by None (Some d) at h = absurd h
      by (Some x) None at h = absurd h
      by (Some x) (Some d) at h = datum x d at h (val_or_term x)

  -- and it is no object of the target
  data_apart : (v : ℕ) → HasNoTarget program.target (variable (scope_of (data_in b)) v)
  data_apart v = subst (HasNoTarget program.target) (sym (variable_is (data_in b) v)) (by (value_at (data_in b) v) refl)
    where
      by : (o : Option Datum) → value_at (data_in b) v ≡ o → HasNoTarget program.target (bound_value o)
      by None at = tt
      by (Some d) at = (fits v (values.Val d) (datum_from b v d at)).told.data_value d refl

  pub scope_one : (v : ℕ) → is_target_variable program rel v ≡ false → ReadsOne program number (value_of b v) (value_at c v)
      → (variable (scope_of (data_in b)) v ≡ variable (scope_of c) v) × HasNoTarget program.target (variable (scope_of (data_in b)) v)
  scope_one v outside one = (variable_is (data_in b) v ∙ ap bound_value (source_one v outside one) ∙ sym (variable_is c v), data_apart v)

  pub scope_at : Reads program number b c → (v : ℕ) → is_target_variable program rel v ≡ false
      → (variable (scope_of (data_in b)) v ≡ variable (scope_of c) v) × HasNoTarget program.target (variable (scope_of (data_in b)) v)
  scope_at reads v outside = scope_one v outside (one_at program number b c reads v)
