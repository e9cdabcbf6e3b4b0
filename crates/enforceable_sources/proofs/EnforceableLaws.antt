-- In a well-formed program a relation whose expressions don't touch the target hands its objects only on.
use Rattle.std.specs.Prelude.{◌≡◌, ℕ, zero, suc, Bool, true, false, List, [], ◌∷◌, Option, None, Some, slice_get, slice_index_or}
use Rattle.std.proofs.Common.{refl, sym, ap, ◌∙◌, inl, inr}
use Rattle.std.proofs.lemmas.Bool.{true≢false}
use Rattle.mof_metamodel.specs.declared.desc.MetaDesc.{MetaDesc}
use Rattle.qv_syntax.specs.declared.query.ModelSlot.{ModelSlot}
use Rattle.qv_syntax.specs.declared.typed.Typed.{Typed}
use Rattle.qv_syntax.specs.declared.typed.Node.{Node}
use Rattle.qv_syntax.specs.declared.program.Program.{Program}
use Rattle.qv_syntax.specs.declared.program.Rel.{Rel}
use Rattle.qv_syntax.specs.declared.program.Var.{Var}
use Rattle.qv_syntax.specs.declared.program.Conj.{Conj}
use Rattle.qv_syntax.specs.declared.program.Conj.TheVariants as conjuncts
use Rattle.qv_syntax.specs.Parts.{Names, CallsQuery}
use Rattle.qv_syntax.specs.Relations.{InConjunct}
use Rattle.qv_syntax.specs.WellFormed.{IsWellFormed}
use Rattle.template_match.specs.Sources.{IsAsked, is_of_target, is_target_variable}
use Rattle.enforcement_rules.specs.TargetParts.{no_slot, IsTargetVariable}
use Rattle.enforcement_rules.specs.Expressions as rules
use Rattle.enforcement_rules.specs.Expressions.{HasTargetExtent, ReadsTarget, IsConjunct, IsObjectPlace, IsDataPlace, TouchesTarget}
use Rattle.enforcement_rules.specs.Rules.{Breaks, IsEnforceable}
use Rattle.source_laws.specs.SourceExpressions.{AsksNoTargetExtent, ComesTo, SpeaksOfSources}
use Rattle.source_laws.specs.SourceRelations.{NamesSources}
use Rattle.source_laws.specs.TargetRule.{HasConjunct, MayBeTarget, IsExpressionOf, IsVariableAlone, HandsTargetOn}
use Rattle.source_laws.proofs.BindingLaws.{found_within}
use Rattle.source_laws.proofs.RuleLaws.{target_is}
use Rattle.source_laws.proofs.TypingLaws.{is_in, none_some, variable_from, variable_is_in}

slot_at : (slots : List ModelSlot) (n : ℕ) (slot : ModelSlot) → slice_get slots n ≡ Some slot → slot ≡ slice_index_or slots n no_slot
slot_at [] n slot h = absurd (cc)
slot_at (x ∷ xs) zero slot h = cc
slot_at (x ∷ xs) (suc n) slot h = slot_at xs n slot h

module _ (metas : List MetaDesc) (program : Program) (formed : IsWellFormed metas program) where
  -- an expression that has no extent of a class of the target's metamodel has none of the target
  no_extent : (e : Typed) → ¬ HasTargetExtent program e → AsksNoTargetExtent program.target e
  no_extent e none ty model class within is =
      let slot = found_within program.models program.target formed.numbers.target in
      none (record {
        ty = ty;
        model = model;
        class = class;
        within = within;
        slot = slot.0;
        found = ap (slice_get program.models) is ∙ slot.1;
        target = ap (λ (s : ModelSlot). s.meta) (slot_at program.models program.target slot.0 slot.1);
      })

  -- where a query that the expression comes to reads the target, one that it calls does
  read_back : (e : Typed) (q : ℕ) → ComesTo program.queries e q → ReadsTarget program q → (called : ℕ) × CallsQuery e called × ReadsTarget program called
  read_back e q (ComesTo.itself _ calls) reads = (q, calls, reads)
  read_back e q (ComesTo.through before _ comes calls) reads = read_back e before comes (ReadsTarget.through before q calls reads)

  module _ (rel : Rel) (kept : ¬ TouchesTarget program rel) where
    conjunct_of : (c : Conj) → HasConjunct rel c → IsConjunct rel c
    conjunct_of c (inl h) = IsConjunct.of_when h
    conjunct_of c (inr h) = IsConjunct.of_where h

    in_conjunct : (c : Conj) (e : Typed) → IsConjunct rel c → InConjunct c e → rules.IsExpressionOf rel e
    in_conjunct (conjuncts.Cond x) e of within = rules.IsExpressionOf.in_data (record { c = conjuncts.Cond x; of = of; asked = within })
    in_conjunct (conjuncts.Equation v x) e of within = rules.IsExpressionOf.in_data (record { c = conjuncts.Equation v x; of = of; asked = within })
    in_conjunct (conjuncts.Call n args) e of within = rules.IsExpressionOf.of_object (IsObjectPlace.argument (conjuncts.Call n args) of within)

    expression_of : (e : Typed) → IsExpressionOf rel e → rules.IsExpressionOf rel e
    expression_of e (IsExpressionOf.item dom c is) = rules.IsExpressionOf.of_object (IsObjectPlace.item dom c is)
    expression_of e (IsExpressionOf.conjunct c there within) = in_conjunct c e (conjunct_of c there) within

    place_of : (e : Typed) → MayBeTarget rel e → IsObjectPlace rel e
    place_of e (MayBeTarget.item dom c is) = IsObjectPlace.item dom c is
    place_of e (MayBeTarget.argument n args there within) = IsObjectPlace.argument (conjuncts.Call n args) (conjunct_of (conjuncts.Call n args) there) within

    asked_of : (c : Conj) (e : Typed) → IsAsked c e → rules.IsAsked c e
    asked_of (conjuncts.Cond x) e h = h
    asked_of (conjuncts.Equation v x) e h = h
    asked_of (conjuncts.Call n args) e h = h

    variable_by : (v : ℕ) (o : Option Var) → slice_get rel.vars v ≡ o → is_of_target program o ≡ true → IsTargetVariable program rel v
    variable_by v None found h = absurd (true≢false (sym h))
    variable_by v (Some var) found h = record { var = var; found = found; target = target_is program.target var.model h }

    target_of : (v : ℕ) → is_target_variable program rel v ≡ true → IsTargetVariable program rel v
    target_of v h = variable_by v (slice_get rel.vars v) refl h

    speaks : (e : Typed) → IsExpressionOf rel e → SpeaksOfSources program e
    speaks e is = record {
      own = no_extent e (λ extent. kept (TouchesTarget.extent e (expression_of e is) extent));
      called = λ q query comes found. no_extent query.body (λ extent.
          let (called, calls, reads) = read_back e q comes (ReadsTarget.extent q query found extent) in
          kept (TouchesTarget.query e called (expression_of e is) calls reads));
    }

    alone_by : (e : Typed) (v : ℕ) (o : Option ℕ) → is_in e.node ≡ o → MayBeTarget rel e → Names e v → is_target_variable program rel v ≡ true → IsVariableAlone e
    alone_by e v (Some w) is may names target = (e.ty, w, ap (λ (n : Node). let x : Typed = record { ty = e.ty; node = n } in x) (variable_from e.node w is))
    alone_by e v None is may names target =
        absurd (kept (TouchesTarget.not_alone e v (place_of e may) (λ alone. none_some e.node alone.1 is (ap (λ (x : Typed). is_in x.node) alone.2 ∙ variable_is_in alone.1)) names (target_of v target)))

    named : (c : Conj) (e : Typed) → HasConjunct rel c → IsAsked c e → NamesSources program rel e
    named c e there asked v names = by (is_target_variable program rel v) refl
      where
        by : (x : Bool) → is_target_variable program rel v ≡ x → x ≡ false
        by true target = absurd (kept (TouchesTarget.in_data e v (record { c = c; of = conjunct_of c there; asked = asked_of c e asked }) names (target_of v target)))
        by false none = refl

    pub hands_on : HandsTargetOn program rel
    hands_on = record { speaks = speaks; alone = λ e v may names target. alone_by e v (is_in e.node) refl may names target; named = named }

pub enforceable_hands_on : (metas : List MetaDesc) (program : Program) → IsWellFormed metas program → (number : ℕ) (rel : Rel) → IsEnforceable metas program
    → slice_get program.rels number ≡ Some rel → rel.in_direction ≡ true → HandsTargetOn program rel
enforceable_hands_on metas program formed number rel enforceable found is =
    hands_on metas program formed rel (λ touches. enforceable number 2 (record { rel = rel; found = found; in_direction = is; breaks = Breaks.e2 refl touches }))
