-- The roots that calls hand on: no object of the target comes to a variable that isn't for such objects.
use Rattle.std.specs.Prelude.{◌≡◌, ◌⊎◌, ℕ, zero, suc, Bool, true, false, List, [], ◌∷◌, map, length, replicate, Option, None, Some, slice_get, slice_set, Contains}
use Rattle.std.specs.Option.{option_map}
use Rattle.std.proofs.Common.{refl, sym, ap, subst, ◌∙◌, arith, inl, inr}
use Rattle.std.proofs.lemmas.Bool.{true≢false, eq-eqb}
use Rattle.mof_metamodel.specs.declared.desc.MetaDesc.{MetaDesc}
use Rattle.object_tables.specs.Models.{ModelData}
use Rattle.qv_syntax.specs.declared.ty.Ty.{Ty}
use Rattle.qv_syntax.specs.declared.typed.Typed.{Typed}
use Rattle.qv_syntax.specs.declared.typed.Node.TheVariants as nodes
use Rattle.qv_syntax.specs.declared.program.Program.{Program}
use Rattle.qv_syntax.specs.declared.program.Rel.{Rel}
use Rattle.qv_syntax.specs.declared.program.Var.{Var}
use Rattle.qv_syntax.specs.declared.program.Dom.{Dom}
use Rattle.qv_syntax.specs.declared.program.Conj.{Conj}
use Rattle.qv_syntax.specs.declared.program.Conj.TheVariants as conjuncts
use Rattle.qv_syntax.specs.TypedTrees.{Typing, IsTyped}
use Rattle.qv_syntax.specs.ProgramTypes.{context_of, typing_of, variables_of, IsGiven, AreGiven, IsCallTyped}
use Rattle.qv_syntax.specs.WellFormed.{IsWellFormed}
use Rattle.qvtr_semantics.specs.declared.datum.Datum.{Datum}
use Rattle.qvtr_semantics.specs.Outs.{datum_of, all_given}
use Rattle.qvtr_semantics.specs.Expressions.{bound_value, value_for}
use Rattle.qvtr_semantics.specs.Templates.{Values, value_at}
use Rattle.qvtr_semantics.specs.Bindings.{is_model}
use Rattle.qvtr_semantics.specs.Calls.{RelationCall, free, with_roots, call_with, call_of, calls_of}
use Rattle.template_match.specs.Sources.{is_of_target, is_target_variable}
use Rattle.template_match.proofs.ListLaws.{contains_later}
use Rattle.mof_metamodel.proofs.Facts.{contains_first}
use Rattle.source_laws.specs.SourceValues.{IsOfSources}
use Rattle.source_laws.specs.SourceRelations.{IsPlainArgument, IsApart}
use Rattle.source_laws.specs.TargetRule.{HasConjunct, HandsTargetOn}
use Rattle.source_laws.proofs.OperationLaws.{datum_apart}
use Rattle.source_laws.proofs.QueryLaws.{variable_is, value_of_sources}
use Rattle.source_laws.proofs.CallLaws.{alone_value}
use Rattle.source_laws.proofs.TypingLaws.{variable_typing}
use Rattle.source_laws.proofs.RuleLaws.{target_is, mapped, rule_plain}
use Rattle.source_laws.proofs.RelationLaws.{datum_by}
use Rattle.mof_metamodel.proofs.Facts.{contains_at}

-- ---- values with one more

-- where a value was put, and what stands elsewhere
pub put : (values : Values) (r v : ℕ) (d e : Datum) → value_at (slice_set values r (Some d)) v ≡ Some e → ((r ≡ v) × (d ≡ e)) ⊎ (value_at values v ≡ Some e)
put [] r v d e h = inr h
put (x ∷ xs) zero zero d e h = let same : d ≡ e = cc in inl (refl, same)
put (x ∷ xs) zero (suc v) d e h = inr h
put (x ∷ xs) (suc r) zero d e h = inr h
put (x ∷ xs) (suc r) (suc v) d e h = by (put xs r v d e h)
  where
    by : ((r ≡ v) × (d ≡ e)) ⊎ (value_at xs v ≡ Some e) → ((suc r ≡ suc v) × (d ≡ e)) ⊎ (value_at xs v ≡ Some e)
    by (inl both) = inl (ap suc both.0, both.1)
    by (inr h) = inr h

pub none_free : (n v : ℕ) → value_at (replicate n None) v ≡ None
none_free zero v = refl
none_free (suc n) zero = refl
none_free (suc n) (suc v) = none_free n v

datum_bound : (o : Option Datum) → datum_of (bound_value o) ≡ o
datum_bound None = refl
datum_bound (Some d) = refl

-- ---- data of arguments

-- the parts of a list that has each datum
pub given_parts : (o : Option Datum) (os : List (Option Datum)) (ds : List Datum) → all_given (o ∷ os) ≡ Some ds
    → (d : Datum) × (ys : List Datum) × (o ≡ Some d) × (all_given os ≡ Some ys) × (ds ≡ d ∷ ys)
given_parts None os ds h = absurd (cc)
given_parts (Some d) os ds h = by (all_given os) refl h
  where
    by : (q : Option (List Datum)) → all_given os ≡ q → option_map (λ ys. d ∷ ys) q ≡ Some ds
        → (e : Datum) × (ys : List Datum) × (Some d ≡ Some e) × (all_given os ≡ Some ys) × (ds ≡ e ∷ ys)
    by None is k = absurd (cc)
    by (Some ys) is k = let same : ds ≡ d ∷ ys = cc in (d, ys, refl, is, same)

-- ---- calls of a clause

pub calls_in : (program : Program) (models : List ModelData) (b : Values) (clause : List Conj) (call : RelationCall) → Contains (calls_of program models b clause) (Some call)
    → (n : ℕ) × (args : List Typed) × Contains clause (conjuncts.Call n args) × (call_of program models b n args ≡ Some call)
calls_in program models b [] call (k, within, is) = absurd (omega (arith, within))
calls_in program models b (conjuncts.Call n args ∷ cs) call (zero, within, is) = (n, args, contains_first (conjuncts.Call n args) cs, is)
calls_in program models b (conjuncts.Call n args ∷ cs) call (suc k, within, is) =
    let (m, more, c, made) = calls_in program models b cs call (k, omega (arith, within), is) in
    (m, more, contains_later (conjuncts.Call m more) (conjuncts.Call n args) cs c, made)
calls_in program models b (conjuncts.Cond e ∷ cs) call c =
    let (m, more, d, made) = calls_in program models b cs call c in (m, more, contains_later (conjuncts.Call m more) (conjuncts.Cond e) cs d, made)
calls_in program models b (conjuncts.Equation v e ∷ cs) call c =
    let (m, more, d, made) = calls_in program models b cs call c in (m, more, contains_later (conjuncts.Call m more) (conjuncts.Equation v e) cs d, made)

record CallParts (program : Program) (n : ℕ) (ods : Option (List Datum)) (call : RelationCall) : Type 0 where
  called : Rel
  found : slice_get program.rels n ≡ Some called
  ds : List Datum
  given : ods ≡ Some ds
  number : call.rel ≡ n
  roots : call.roots ≡ with_roots (free called) called.domains ds

call_parts : (program : Program) (n : ℕ) (o : Option Rel) (ods : Option (List Datum)) (call : RelationCall) → slice_get program.rels n ≡ o → call_with n o ods ≡ Some call
    → CallParts program n ods call
call_parts program n None ods call found h = absurd (cc)
call_parts program n (Some called) None call found h = absurd (cc)
call_parts program n (Some called) (Some ds) call found h =
    let made : RelationCall = record { rel = n; roots = with_roots (free called) called.domains ds } in
    let same : made ≡ call = some_call made call h in
    record { called = called; found = found; ds = ds; given = refl; number = sym (ap (λ (x : RelationCall). x.rel) same); roots = sym (ap (λ (x : RelationCall). x.roots) same) }
  where
    some_call : (x y : RelationCall) → Some x ≡ Some y → x ≡ y
    some_call x y k = cc

pub same_called : (a b : Rel) → Some a ≡ Some b → a ≡ b
same_called a b h = cc

-- a variable alone gives its value
pub alone_datum : (program : Program) (models : List ModelData) (b : Values) (e : Typed) (ty : Ty) (v : ℕ) → e ≡ record { ty = ty; node = nodes.Variable v }
    → datum_of (value_for program models e b) ≡ value_at b v
alone_datum program models b e ty v is =
    ap (λ x. datum_of (value_for program models x b)) is ∙ ap datum_of (alone_value program models ty v b ∙ variable_is b v) ∙ datum_bound (value_at b v)

module _ (metas : List MetaDesc) (program : Program) (formed : IsWellFormed metas program) (number : ℕ) (rel : Rel) (found : slice_get program.rels number ≡ Some rel) where
  -- an argument for a variable that isn't for objects of the target names no variable for such objects
  pub alone_given : (root : Var) (e : Typed) (ty : Ty) (v : ℕ) → IsGiven metas program rel (typing_of root) e → e ≡ record { ty = ty; node = nodes.Variable v }
      → is_of_target program (Some root) ≡ false → is_target_variable program rel v ≡ false
  alone_given root e ty v given is outside = by (is_target_variable program rel v) refl
    where
      by_model : (m : Option ℕ) → m ≡ Some program.target → (m ≡ None) ⊎ (m ≡ root.model) → ⊥
      by_model m at (inl none) = cc
      by_model m at (inr same) =
          true≢false (sym (eq-eqb program.target program.target refl) ∙ ap (λ x. is_model x program.target) (sym at ∙ same) ∙ outside)

      by : (x : Bool) → is_target_variable program rel v ≡ x → x ≡ false
      by true target =
          let at : slice_get (variables_of rel) v ≡ Some given.typing =
          variable_typing (context_of metas program) (variables_of rel) ty v given.typing (subst (λ x. IsTyped (context_of metas program) (variables_of rel) x given.typing) is given.typed) in
          let var = mapped typing_of rel.vars v given.typing at in
          let model : given.typing.model ≡ Some program.target =
          sym (ap (λ (p : Typing). p.model) var.2) ∙ target_is program.target var.0.model (sym (ap (is_of_target program) var.1) ∙ target) in
          absurd (by_model given.typing.model model given.fits.model)
      by false none = refl

  pub typed_call : (n : ℕ) (args : List Typed) → HasConjunct rel (conjuncts.Call n args) → IsCallTyped metas program rel n args
  typed_call n args (inl c) = (formed.typed.relations rel (contains_at program.rels number rel found)).whens (conjuncts.Call n args) c
  typed_call n args (inr c) = (formed.typed.relations rel (contains_at program.rels number rel found)).wheres (conjuncts.Call n args) c

  module _ (models : List ModelData) (b : Values) (apart : IsApart program rel b) where
    abbrev datum_in : Typed → Option Datum
    datum_in e = datum_of (value_for program models e b)

    argument_apart : (root : Var) (e : Typed) (d : Datum) → IsGiven metas program rel (typing_of root) e → IsPlainArgument program rel e → is_of_target program (Some root) ≡ false
        → datum_in e ≡ Some d → IsOfSources program.target d
    argument_apart root e d given (IsPlainArgument.alone ty v is) outside at = apart v d (alone_given root e ty v given is outside) (sym (alone_datum program models b e ty v is) ∙ at)
    argument_apart root e d given (IsPlainArgument.of_sources speaks names) outside at =
        datum_by program.target (datum_in e) d
        (datum_apart program.target (value_for program models e b)
        (value_of_sources program models models e b (λ m other. refl) speaks (λ v x named is. apart v x (names v named) is)).1) at

    module _ (called : Rel) where
      -- each datum may stand at the root of its domain
      AllFit : List Dom → List Datum → Type 0
      AllFit [] ds = Unit {0}
      AllFit (dom ∷ doms) [] = Unit {0}
      AllFit (dom ∷ doms) (d ∷ ds) = (is_target_variable program called dom.root ≡ false → IsOfSources program.target d) × AllFit doms ds

      fit : (doms : List Dom) (args : List Typed) (ds : List Datum) → AreGiven metas program rel called doms args → ((e : Typed) → Contains args e → IsPlainArgument program rel e)
          → all_given (map datum_in args) ≡ Some ds → AllFit doms ds
      unfolding AllFit
      fit [] args ds given plain all = tt
      fit (dom ∷ doms) [] ds given plain all = absurd given
      fit (dom ∷ doms) (e ∷ es) ds given plain all =
          by (λ ys others. fit doms es ys given.1 (λ x c. plain x (contains_later x e es c)) others) (given_parts (datum_in e) (map datum_in es) ds all)
        where
          by : ((ys : List Datum) → all_given (map datum_in es) ≡ Some ys → AllFit doms ys)
              → (d : Datum) × (ys : List Datum) × (datum_in e ≡ Some d) × (all_given (map datum_in es) ≡ Some ys) × (ds ≡ d ∷ ys) → AllFit (dom ∷ doms) ds
          by rest (d, ys, at, others, is) =
              let root = given.0 in
              subst (AllFit (dom ∷ doms)) (sym is) (
                λ outside. argument_apart root.0 e d root.2 (plain e (contains_first e es)) (sym (ap (is_of_target program) root.1) ∙ outside) at,
                rest ys others,
              )

      put_apart : (values : Values) (r : ℕ) (d : Datum) → IsApart program called values → (is_target_variable program called r ≡ false → IsOfSources program.target d)
          → IsApart program called (slice_set values r (Some d))
      put_apart values r d before own v e outside at = by (put values r v d e at)
        where
          by : ((r ≡ v) × (d ≡ e)) ⊎ (value_at values v ≡ Some e) → IsOfSources program.target e
          by (inl both) = subst (IsOfSources program.target) both.1 (own (subst (λ w. is_target_variable program called w ≡ false) (sym both.0) outside))
          by (inr is) = before v e outside is

      roots_apart : (values : Values) (doms : List Dom) (ds : List Datum) → IsApart program called values → AllFit doms ds → IsApart program called (with_roots values doms ds)
      unfolding AllFit
      roots_apart values [] ds before all = before
      roots_apart values (dom ∷ doms) [] before all = before
      roots_apart values (dom ∷ doms) (d ∷ ds) before all = roots_apart (slice_set values dom.root (Some d)) doms ds (put_apart values dom.root d before all.0) all.1

      free_apart : IsApart program called (free called)
      free_apart v d outside at = absurd (none_datum d (sym (none_free (length called.vars) v) ∙ at))
        where
          none_datum : (x : Datum) → ◌≡◌ {A = Option Datum} None (Some x) → ⊥
          none_datum x h = cc

    -- the roots of a call
    pub call_apart : (clause : List Conj) → ((c : Conj) → Contains clause c → HasConjunct rel c) → HandsTargetOn program rel → (call : RelationCall) (called : Rel)
        → Contains (calls_of program models b clause) (Some call) → slice_get program.rels call.rel ≡ Some called → IsApart program called call.roots
    call_apart clause there rule call called within is =
        let (n, args, c, made) = calls_in program models b clause call within in
        let parts = call_parts program n (slice_get program.rels n) (all_given (map datum_in args)) call refl made in
        let typed = typed_call n args (there (conjuncts.Call n args) c) in
        let one : typed.called ≡ parts.called = same_called typed.called parts.called (sym typed.found ∙ parts.found) in
        let other : parts.called ≡ called = same_called parts.called called (sym parts.found ∙ ap (slice_get program.rels) (sym parts.number) ∙ is) in
        let given = subst (λ x. AreGiven metas program rel x x.domains args) one typed.given in
        let fits = fit parts.called parts.called.domains args parts.ds given (λ e among_args. rule_plain metas program formed number rel found clause there rule n args e c among_args) parts.given in
        subst (λ x. IsApart program x call.roots) other
        (subst (IsApart program parts.called) (sym parts.roots) (roots_apart parts.called (free parts.called) parts.called.domains parts.ds (free_apart parts.called) fits))
