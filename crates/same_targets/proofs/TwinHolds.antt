-- Calls match and hold alike over models with twins, so relations are satisfied alike.
use Rattle.std.specs.Prelude.{◌≡◌, ℕ, zero, suc, true, List, length, Option, None, Some, slice_get}
use Rattle.std.proofs.Common.{refl, ap, subst, inl, inr}
use Rattle.mof_metamodel.specs.declared.desc.MetaDesc.{MetaDesc}
use Rattle.object_tables.specs.Models.{ModelData}
use Rattle.qv_syntax.specs.declared.program.Program.{Program}
use Rattle.qv_syntax.specs.declared.program.Rel.{Rel}
use Rattle.qv_syntax.specs.WellFormed.{IsWellFormed}
use Rattle.qvtr_semantics.specs.declared.limits.TheConstants.{MAX_CALLS}
use Rattle.qvtr_semantics.specs.Templates.{Values}
use Rattle.qvtr_semantics.specs.Calls.{RelationCall, Asked, Of, SourceMatches, TargetHolds, HoldsWithin, MatchesWithin, Match, Holds, free, calls_of}
use Rattle.qvtr_semantics.specs.Satisfaction.{Satisfied}
use Rattle.enforcement_rules.specs.Rules.{IsEnforceable}
use Rattle.enforceable_sources.proofs.EnforceableLaws.{enforceable_hands_on}
use Rattle.source_laws.specs.SourceRelations.{IsApart, KeepsToSources}
use Rattle.source_laws.specs.TargetRule.{HandsTargetOn}
use Rattle.source_laws.proofs.RuleLaws.{rule_keeps}
use Rattle.same_targets.proofs.Twins.{Pairing, turned_round, IsTwinning, turned}
use Rattle.same_targets.proofs.TwinBindings.{AreTwins, turned_twins, free_twins, free_apart, apart_there}
use Rattle.same_targets.proofs.TwinSources.{SourceTwin, binding_apart, source_there}
use Rattle.same_targets.proofs.TwinTargets.{TargetTwin, partner_apart, target_there}
use Rattle.same_targets.proofs.TwinCalls.{AreTwinCalls, asked_there, calls_twins, IsPlainCall, plain_call}

module _ (metas : List MetaDesc) (program : Program) (formed : IsWellFormed metas program) (enforceable : IsEnforceable metas program) where
  -- what is asked of a call over the one models is asked of its twin over the others
  abbrev pub IsKept : (List ModelData → Asked) → Type 1
  IsKept asked = (ms ns : List ModelData) (R : Pairing) → IsTwinning program ms ns R → (x y : RelationCall) → AreTwinCalls R x y → IsPlainCall program x → asked ms x → asked ns y

  module _ (number : ℕ) (rel : Rel) (found : slice_get program.rels number ≡ Some rel) (direction : rel.in_direction ≡ true) where
    pub rule : HandsTargetOn program rel
    rule = enforceable_hands_on metas program formed number rel enforceable found direction

    pub keeps : KeepsToSources program rel
    keeps = rule_keeps metas program formed number rel found rule

    -- ---- sources and targets with their calls

    pub record MatchTwin (matches : List ModelData → Asked) (ns : List ModelData) (R : Pairing) (others b : Values) : Type 0 where
      pub binding : Values
      pub twins : AreTwins R b binding
      pub source : SourceMatches (matches ns) program ns rel others binding

    pub match_there : (matches : List ModelData → Asked) → IsKept matches → (ms ns : List ModelData) (R : Pairing) → IsTwinning program ms ns R → (roots others b : Values)
        → IsApart program rel roots → AreTwins R roots others → SourceMatches (matches ms) program ms rel roots b → MatchTwin matches ns R others b
    match_there matches kept ms ns R i roots others b apart twins m =
        let own : IsApart program rel b = binding_apart program ms ns R i number rel formed.relations found keeps roots b apart m.source in
        let there : SourceTwin program ns R rel others b = source_there program ms ns R i number rel formed.relations found keeps roots b apart m.source others twins in
        record {
          binding = there.binding;
          twins = there.twins;
          source = record {
            source = there.source;
            whens = asked_there R (matches ms) (matches ns) (calls_of program ms b rel.whens) (calls_of program ns there.binding rel.whens)
                (calls_twins metas program formed number rel found rule ms ns R i b there.binding own there.twins rel.whens (λ x has. inl has))
                (λ x y has calls asked. kept ms ns R i x y calls
                (plain_call metas program formed number rel found rule ms b own rel.whens (λ z among. inl among) ((formed.relations number rel found).calls direction).whens x has) asked)
                m.whens;
          };
        }

    pub record HoldTwin (holds : List ModelData → Asked) (ns : List ModelData) (R : Pairing) (c g : Values) : Type 0 where
      pub partner : Values
      pub twins : AreTwins R g partner
      pub target : TargetHolds (holds ns) program ns rel c partner

    pub hold_there : (holds : List ModelData → Asked) → IsKept holds → (ms ns : List ModelData) (R : Pairing) → IsTwinning program ms ns R → (b c g : Values)
        → IsApart program rel b → AreTwins R b c → TargetHolds (holds ms) program ms rel b g → HoldTwin holds ns R c g
    hold_there holds kept ms ns R i b c g apart twins h =
        let own : IsApart program rel g = partner_apart program ms ns R i number rel formed.relations found rule b g apart h.target in
        let there : TargetTwin program ns R rel c g = target_there program ms ns R i number rel formed.relations found rule b g apart h.target c twins in
        record {
          partner = there.partner;
          twins = there.twins;
          target = record {
            target = there.target;
            wheres = asked_there R (holds ms) (holds ns) (calls_of program ms g rel.wheres) (calls_of program ns there.partner rel.wheres)
                (calls_twins metas program formed number rel found rule ms ns R i g there.partner own there.twins rel.wheres (λ x has. inr has))
                (λ x y has calls asked. kept ms ns R i x y calls
                (plain_call metas program formed number rel found rule ms g own rel.wheres (λ z among. inr among) ((formed.relations number rel found).calls direction).wheres x has) asked)
                h.wheres;
          };
        }

    -- Where each binding over the one models has a partner, so has each over the others.
    pub each_there : (matches holds : List ModelData → Asked) → IsKept matches → IsKept holds → (ms ns : List ModelData) (R : Pairing) → IsTwinning program ms ns R → (roots others : Values)
        → IsApart program rel roots → AreTwins R roots others
        → ((b : Values) → SourceMatches (matches ms) program ms rel roots b → (g : Values) × TargetHolds (holds ms) program ms rel b g)
        → (c : Values) → SourceMatches (matches ns) program ns rel others c → (h : Values) × TargetHolds (holds ns) program ns rel c h
    each_there matches holds kept kept_holds ms ns R i roots others apart twins each c m =
        let back : IsTwinning program ns ms (turned_round R) = turned program ms ns R i in
        let apart_others : IsApart program rel others = apart_there program ms ns R i rel roots others apart twins in
        let b : MatchTwin matches ms (turned_round R) roots c =
        match_there matches kept ns ms (turned_round R) back others roots c apart_others (turned_twins R roots others twins) m in
        let g = each b.binding b.source in
        let own : IsApart program rel b.binding = binding_apart program ms ns R i number rel formed.relations found keeps roots b.binding apart b.source.source in
        let h : HoldTwin holds ns R c g.0 = hold_there holds kept_holds ms ns R i b.binding c g.0 own (turned_twins (turned_round R) c b.binding b.twins) g.1 in
        (h.partner, h.target)

  -- ---- calls that hold

  module _ (matches : List ModelData → Asked) (kept : IsKept matches) where
    holds_kept : (n : ℕ) → IsKept (λ models. HoldsWithin (matches models) program models n)
    holds_kept zero ms ns R i x y twins plain h = absurd h
    holds_kept (suc n) ms ns R i x y twins plain h =
        subst (λ o. Of o (λ rel. (c : Values) → SourceMatches (matches ns) program ns rel y.roots c
        → (g : Values) × TargetHolds (HoldsWithin (matches ns) program ns n) program ns rel c g)) (ap (slice_get program.rels) twins.rel)
        (by (holds_kept n) (slice_get program.rels x.rel) refl h)
      where
        by : IsKept (λ models. HoldsWithin (matches models) program models n) → (o : Option Rel) → slice_get program.rels x.rel ≡ o
            → Of o (λ rel. (b : Values) → SourceMatches (matches ms) program ms rel x.roots b
            → (g : Values) × TargetHolds (HoldsWithin (matches ms) program ms n) program ms rel b g)
            → Of o (λ rel. (c : Values) → SourceMatches (matches ns) program ns rel y.roots c
            → (g : Values) × TargetHolds (HoldsWithin (matches ns) program ns n) program ns rel c g)
        by less None found never = absurd never
        by less (Some rel) found each =
            each_there x.rel rel found (plain.direction rel found) matches (λ models. HoldsWithin (matches models) program models n) kept less ms ns R i x.roots y.roots
            (plain.apart rel found) twins.roots each

  -- ---- calls that match

  pub matches_kept : (s : ℕ) → IsKept (λ models. MatchesWithin program models s)
  matches_kept zero ms ns R i x y twins plain h = absurd h
  matches_kept (suc s) ms ns R i x y twins plain h =
      subst (λ o. Of o (λ rel. (b g : Values) × SourceMatches (MatchesWithin program ns s) program ns rel y.roots b
      × TargetHolds (HoldsWithin (MatchesWithin program ns s) program ns MAX_CALLS) program ns rel b g)) (ap (slice_get program.rels) twins.rel)
      (by (matches_kept s) (slice_get program.rels x.rel) refl h)
    where
      by : IsKept (λ models. MatchesWithin program models s) → (o : Option Rel) → slice_get program.rels x.rel ≡ o
          → Of o (λ rel. (b g : Values) × SourceMatches (MatchesWithin program ms s) program ms rel x.roots b
          × TargetHolds (HoldsWithin (MatchesWithin program ms s) program ms MAX_CALLS) program ms rel b g)
          → Of o (λ rel. (b g : Values) × SourceMatches (MatchesWithin program ns s) program ns rel y.roots b
          × TargetHolds (HoldsWithin (MatchesWithin program ns s) program ns MAX_CALLS) program ns rel b g)
      by less None found never = absurd never
      by less (Some rel) found (b, g, source, target) =
          let matches : List ModelData → Asked = λ models. MatchesWithin program models s in
          let direction = plain.direction rel found in
          let apart = plain.apart rel found in
          let c = match_there x.rel rel found direction matches less ms ns R i x.roots y.roots b apart twins.roots source in
          let own = binding_apart program ms ns R i x.rel rel formed.relations found (keeps x.rel rel found direction) x.roots b apart source.source in
          let h = hold_there x.rel rel found direction (λ models. HoldsWithin (matches models) program models MAX_CALLS) (holds_kept matches less MAX_CALLS) ms ns R i
          b c.binding g own c.twins target in
          (c.binding, h.partner, c.source, h.target)

  -- ---- all relations

  pub match_kept : IsKept (λ models. Match program models)
  match_kept = matches_kept (length program.rels)

  hold_kept : IsKept (λ models. Holds program models)
  hold_kept = holds_kept (λ models. Match program models) match_kept MAX_CALLS

  pub satisfied_there : (ms ns : List ModelData) (R : Pairing) → IsTwinning program ms ns R → Satisfied program ms → Satisfied program ns
  satisfied_there ms ns R i satisfied number c failing =
      let rel = failing.rel in
      let found = failing.top.is in
      let direction = failing.top.in_direction in
      let b : MatchTwin number rel found direction (λ models. Match program models) ms (turned_round R) (free rel) c =
      match_there number rel found direction (λ models. Match program models) match_kept ns ms (turned_round R) (turned program ms ns R i) (free rel) (free rel) c (free_apart program rel)
      (free_twins (turned_round R) rel) failing.source in
      let own : IsApart program rel b.binding =
      binding_apart program ms ns R i number rel formed.relations found (keeps number rel found direction) (free rel) b.binding (free_apart program rel) b.source.source in
      satisfied number b.binding (record {
        rel = rel;
        top = failing.top;
        source = b.source;
        alone = λ g holds.
            let h = hold_there number rel found direction (λ models. Holds program models) hold_kept ms ns R i b.binding c g own (turned_twins (turned_round R) c b.binding b.twins) holds in
            failing.alone h.partner h.target;
      })
