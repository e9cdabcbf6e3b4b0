-- From two bindings that differ in objects of the target alone, calls are made that differ in these alone.
use Rattle.std.specs.Prelude.{◌≡◌, ℕ, zero, suc, false, List, [], ◌∷◌, map, length, Option, None, Some, is_some, slice_get, slice_set, Contains}
use Rattle.std.specs.Option.{option_map}
use Rattle.std.proofs.Common.{refl, sym, ap, subst, ◌∙◌, arith}
use Rattle.std.proofs.lemmas.Bool.{true≢false}
use Rattle.mof_metamodel.specs.declared.desc.MetaDesc.{MetaDesc}
use Rattle.object_tables.specs.Models.{ModelData}
use Rattle.qv_syntax.specs.declared.typed.Typed.{Typed}
use Rattle.qv_syntax.specs.declared.program.Program.{Program}
use Rattle.qv_syntax.specs.declared.program.Rel.{Rel}
use Rattle.qv_syntax.specs.declared.program.Var.{Var}
use Rattle.qv_syntax.specs.declared.program.Dom.{Dom}
use Rattle.qv_syntax.specs.declared.program.Conj.{Conj}
use Rattle.qv_syntax.specs.declared.program.Conj.TheVariants as conjuncts
use Rattle.qv_syntax.specs.ProgramTypes.{typing_of, IsGiven, AreGiven, IsCallTyped}
use Rattle.qv_syntax.specs.WellFormed.{IsWellFormed}
use Rattle.qvtr_semantics.specs.declared.datum.Datum.{Datum}
use Rattle.qvtr_semantics.specs.Outs.{datum_of, all_given}
use Rattle.qvtr_semantics.specs.Expressions.{value_for}
use Rattle.qvtr_semantics.specs.Templates.{Values, value_at}
use Rattle.qvtr_semantics.specs.Calls.{free, with_roots, call_with, call_of, calls_of}
use Rattle.template_match.specs.Sources.{is_of_target, is_target_variable}
use Rattle.template_match.proofs.ListLaws.{contains_later}
use Rattle.mof_metamodel.proofs.Facts.{contains_first}
use Rattle.source_laws.specs.Agreement.{AgreeBut}
use Rattle.source_laws.specs.SourceRelations.{IsPlainArgument, IsApart}
use Rattle.source_laws.specs.TargetRule.{HasConjunct, HandsTargetOn}
use Rattle.source_laws.specs.CallsAlike.{DifferInTargets, AreMadeAlike, AllMadeAlike}
use Rattle.source_laws.proofs.QueryLaws.{value_alike}
use Rattle.source_laws.proofs.RuleLaws.{rule_plain}
use Rattle.source_laws.proofs.RootLaws.{same_called, alone_given, alone_datum, typed_call}

-- ---- values with one more

length_put : (x : Values) (r : ℕ) (d : Datum) → length (slice_set x r (Some d)) ≡ length x
length_put [] r d = refl
length_put (p ∷ x) zero d = refl
length_put (p ∷ x) (suc r) d = ap suc (length_put x r d)

put_same : (x y : Values) (r v : ℕ) (d e : Datum) → length x ≡ length y → (r ≡ v → d ≡ e) → value_at x v ≡ value_at y v
    → value_at (slice_set x r (Some d)) v ≡ value_at (slice_set y r (Some e)) v
put_same [] [] r v d e long own same = refl
put_same [] (q ∷ y) r v d e long own same = absurd (omega (arith, long))
put_same (p ∷ x) [] r v d e long own same = absurd (omega (arith, long))
put_same (p ∷ x) (q ∷ y) zero zero d e long own same = ap (λ z. Some z) (own refl)
put_same (p ∷ x) (q ∷ y) zero (suc v) d e long own same = same
put_same (p ∷ x) (q ∷ y) (suc r) zero d e long own same = same
put_same (p ∷ x) (q ∷ y) (suc r) (suc v) d e long own same =
    let short : length x ≡ length y = omega (arith, long) in put_same x y r v d e short (λ is. own (ap suc is)) same

put_bound : (x y : Values) (r v : ℕ) (d e : Datum) → length x ≡ length y → is_some (value_at x v) ≡ is_some (value_at y v)
    → is_some (value_at (slice_set x r (Some d)) v) ≡ is_some (value_at (slice_set y r (Some e)) v)
put_bound [] [] r v d e long same = refl
put_bound [] (q ∷ y) r v d e long same = absurd (omega (arith, long))
put_bound (p ∷ x) [] r v d e long same = absurd (omega (arith, long))
put_bound (p ∷ x) (q ∷ y) zero zero d e long same = refl
put_bound (p ∷ x) (q ∷ y) zero (suc v) d e long same = same
put_bound (p ∷ x) (q ∷ y) (suc r) zero d e long same = same
put_bound (p ∷ x) (q ∷ y) (suc r) (suc v) d e long same = let short : length x ≡ length y = omega (arith, long) in put_bound x y r v d e short same

module _ (program : Program) (called : Rel) where
  put_differ : (x y : Values) (r : ℕ) (d e : Datum) → DifferInTargets program called x y → (is_target_variable program called r ≡ false → d ≡ e)
      → DifferInTargets program called (slice_set x r (Some d)) (slice_set y r (Some e))
  put_differ x y r d e differ own = record {
    sources = record {
      places = length_put x r d ∙ differ.sources.places ∙ sym (length_put y r e);
      same = λ v outside. put_same x y r v d e differ.sources.places (λ is. own (subst (λ w. is_target_variable program called w ≡ false) (sym is) outside)) (differ.sources.same v outside);
    };
    bound = λ v. put_bound x y r v d e differ.sources.places (differ.bound v);
  }

  -- data that are the same but at roots for objects of the target
  DataAlike : List Dom → List Datum → List Datum → Type 0
  DataAlike [] ds es = Unit {0}
  DataAlike (dom ∷ doms) [] [] = Unit {0}
  DataAlike (dom ∷ doms) [] (e ∷ es) = ⊥
  DataAlike (dom ∷ doms) (d ∷ ds) [] = ⊥
  DataAlike (dom ∷ doms) (d ∷ ds) (e ∷ es) = (is_target_variable program called dom.root ≡ false → d ≡ e) × DataAlike doms ds es

  roots_differ : (x y : Values) (doms : List Dom) (ds es : List Datum) → DifferInTargets program called x y → DataAlike doms ds es
      → DifferInTargets program called (with_roots x doms ds) (with_roots y doms es)
  unfolding DataAlike
  roots_differ x y [] ds es differ same = differ
  roots_differ x y (dom ∷ doms) [] [] differ same = differ
  roots_differ x y (dom ∷ doms) [] (e ∷ es) differ same = absurd same
  roots_differ x y (dom ∷ doms) (d ∷ ds) [] differ same = absurd same
  roots_differ x y (dom ∷ doms) (d ∷ ds) (e ∷ es) differ same =
      roots_differ (slice_set x dom.root (Some d)) (slice_set y dom.root (Some e)) doms ds es (put_differ x y dom.root d e differ same.0) same.1

  -- both are given so, or neither is
  GivenAlike : List Dom → Option (List Datum) → Option (List Datum) → Type 0
  GivenAlike doms None None = Unit {0}
  GivenAlike doms None (Some es) = ⊥
  GivenAlike doms (Some ds) None = ⊥
  GivenAlike doms (Some ds) (Some es) = DataAlike doms ds es

  -- an argument for the root of a domain
  OneAlike : ℕ → Option Datum → Option Datum → Type 0
  OneAlike root o p = (is_some o ≡ is_some p) × (is_target_variable program called root ≡ false → o ≡ p)

  more_alike : (dom : Dom) (doms : List Dom) (d e : Datum) (o p : Option (List Datum)) → OneAlike dom.root (Some d) (Some e) → GivenAlike doms o p
      → GivenAlike (dom ∷ doms) (option_map (λ ds. d ∷ ds) o) (option_map (λ es. e ∷ es) p)
  unfolding GivenAlike DataAlike OneAlike
  more_alike dom doms d e None None one rest = tt
  more_alike dom doms d e None (Some es) one rest = absurd rest
  more_alike dom doms d e (Some ds) None one rest = absurd rest
  more_alike dom doms d e (Some ds) (Some es) one rest = (λ outside. let same : Some d ≡ Some e = one.1 outside in inner same, rest)
    where
      inner : Some d ≡ Some e → d ≡ e
      inner h = cc

  given_alike : (dom : Dom) (doms : List Dom) (o p : Option Datum) (os ps : List (Option Datum)) → OneAlike dom.root o p → GivenAlike doms (all_given os) (all_given ps)
      → GivenAlike (dom ∷ doms) (all_given (o ∷ os)) (all_given (p ∷ ps))
  unfolding GivenAlike OneAlike
  given_alike dom doms None None os ps one rest = tt
  given_alike dom doms None (Some e) os ps one rest = absurd (true≢false (sym one.0))
  given_alike dom doms (Some d) None os ps one rest = absurd (true≢false one.0)
  given_alike dom doms (Some d) (Some e) os ps one rest = more_alike dom doms d e (all_given os) (all_given ps) one rest

  call_alike : (n : ℕ) (o p : Option (List Datum)) → slice_get program.rels n ≡ Some called → GivenAlike called.domains o p
      → AreMadeAlike program (call_with n (Some called) o) (call_with n (Some called) p)
  unfolding GivenAlike
  call_alike n None None found same = tt
  call_alike n None (Some es) found same = absurd same
  call_alike n (Some ds) None found same = absurd same
  call_alike n (Some ds) (Some es) found same = record {
    rel = refl;
    roots = λ other is.
        let one : called ≡ other = same_called called other (sym found ∙ is) in
        subst (λ x. DifferInTargets program x (with_roots (free called) called.domains ds) (with_roots (free called) called.domains es)) one
        (roots_differ (free called) (free called) called.domains ds es (record { sources = record { places = refl; same = λ v outside. refl }; bound = λ v. refl }) same);
  }

module _ (metas : List MetaDesc) (program : Program) (formed : IsWellFormed metas program) (number : ℕ) (rel : Rel) (found : slice_get program.rels number ≡ Some rel)
    (rule : HandsTargetOn program rel) (ms ns : List ModelData) (agree : AgreeBut program.target ms ns) (b c : Values) (apart : IsApart program rel b)
    (differ : DifferInTargets program rel b c) where
  abbrev one_datum : Typed → Option Datum
  one_datum e = datum_of (value_for program ms e b)

  abbrev other_datum : Typed → Option Datum
  other_datum e = datum_of (value_for program ns e c)

  argument_alike : (called : Rel) (place : ℕ) (root : Var) (e : Typed) → slice_get called.vars place ≡ Some root → IsGiven metas program rel (typing_of root) e → IsPlainArgument program rel e
      → OneAlike program called place (one_datum e) (other_datum e)
  unfolding OneAlike
  argument_alike called place root e at given (IsPlainArgument.alone ty v is) =
      let one : one_datum e ≡ value_at b v = alone_datum program ms b e ty v is in
      let other : other_datum e ≡ value_at c v = alone_datum program ns c e ty v is in (
        ap is_some one ∙ differ.bound v ∙ sym (ap is_some other),
        λ outside. one ∙ differ.sources.same v (alone_given metas program formed number rel found root e ty v given is (sym (ap (is_of_target program) at) ∙ outside)) ∙ sym other,
      )
  argument_alike called place root e at given (IsPlainArgument.of_sources speaks names) =
      let same : one_datum e ≡ other_datum e =
      ap datum_of (value_alike program ms ns e b c agree speaks differ.sources.places (λ v named. differ.sources.same v (names v named)) (λ v d named is. apart v d (names v named) is)).0 in
      (ap is_some same, λ outside. same)

  arguments_alike : (called : Rel) (doms : List Dom) (args : List Typed) → AreGiven metas program rel called doms args → ((e : Typed) → Contains args e → IsPlainArgument program rel e)
      → GivenAlike program called doms (all_given (map one_datum args)) (all_given (map other_datum args))
  unfolding GivenAlike DataAlike
  arguments_alike called [] [] given plain = tt
  arguments_alike called [] (e ∷ es) given plain = absurd given
  arguments_alike called (dom ∷ doms) [] given plain = absurd given
  arguments_alike called (dom ∷ doms) (e ∷ es) given plain =
      given_alike program called dom doms (one_datum e) (other_datum e) (map one_datum es) (map other_datum es)
      (argument_alike called dom.root given.0.0 e given.0.1 given.0.2 (plain e (contains_first e es)))
      (arguments_alike called doms es given.1 (λ x within. plain x (contains_later x e es within)))

  made_alike : (clause : List Conj) → ((x : Conj) → Contains clause x → HasConjunct rel x) → (n : ℕ) (args : List Typed) → Contains clause (conjuncts.Call n args)
      → AreMadeAlike program (call_of program ms b n args) (call_of program ns c n args)
  made_alike clause there n args within =
      let typed : IsCallTyped metas program rel n args = typed_call metas program formed number rel found n args (there (conjuncts.Call n args) within) in
      subst (λ o. AreMadeAlike program (call_with n o (all_given (map one_datum args))) (call_with n o (all_given (map other_datum args)))) (sym typed.found)
      (call_alike program typed.called n (all_given (map one_datum args)) (all_given (map other_datum args)) typed.found
      (arguments_alike typed.called typed.called.domains args typed.given (λ e among. rule_plain metas program formed number rel found clause there rule n args e within among)))

  pub calls_alike : (clause : List Conj) → ((x : Conj) → Contains clause x → HasConjunct rel x) → AllMadeAlike program (calls_of program ms b clause) (calls_of program ns c clause)
  calls_alike [] there = tt
  calls_alike (conjuncts.Call n args ∷ cs) there = (
    made_alike (conjuncts.Call n args ∷ cs) there n args (contains_first (conjuncts.Call n args) cs),
    calls_alike cs (λ x within. there x (contains_later x (conjuncts.Call n args) cs within)),
  )
  calls_alike (conjuncts.Cond e ∷ cs) there = calls_alike cs (λ x within. there x (contains_later x (conjuncts.Cond e) cs within))
  calls_alike (conjuncts.Equation v e ∷ cs) there = calls_alike cs (λ x within. there x (contains_later x (conjuncts.Equation v e) cs within))
