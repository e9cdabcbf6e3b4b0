-- Chains of calls over models with twins are twins, so none is cyclic or deep over the one models where none is over the others.
use Rattle.std.specs.Prelude.{◌≡◌, ◌≢◌, ◌⊎◌, ◌<◌, ℕ, zero, suc, true, List, [], ◌∷◌, ◌++◌, length, Option, None, Some, slice_get, Contains, AllPairs}
use Rattle.std.specs.List.{AllZip}
use Rattle.std.proofs.Common.{refl, sym, ap, ◌∙◌, subst, arith, inl, inr, get_or}
use Rattle.mof_metamodel.specs.declared.desc.MetaDesc.{MetaDesc}
use Rattle.object_tables.specs.Models.{ModelData}
use Rattle.qv_syntax.specs.declared.program.Program.{Program}
use Rattle.qv_syntax.specs.declared.program.Rel.{Rel}
use Rattle.qv_syntax.specs.WellFormed.{IsWellFormed}
use Rattle.qvtr_semantics.specs.Calls.{RelationCall, Match, free, calls_of}
use Rattle.qvtr_semantics.specs.Satisfaction.{IsTop}
use Rattle.qvtr_semantics.specs.Chains.{AsksWhen, CallsWhere, Role, ReachedFrom, IsTopCall, Reached, BeginsFrom, GoesOn, Chain, IsCyclic, IsDeep}
use Rattle.enforcement_rules.specs.Rules.{IsEnforceable}
use Rattle.source_laws.specs.SourceRelations.{IsApart}
use Rattle.source_laws.proofs.RootLaws.{same_called}
use Rattle.same_targets.proofs.Twins.{Pairing, turned_round, IsTwinning, turned}
use Rattle.same_targets.proofs.TwinBindings.{free_twins, free_apart, binding_once}
use Rattle.same_targets.proofs.TwinSources.{binding_apart, source_there}
use Rattle.same_targets.proofs.TwinTargets.{partner_apart, target_there}
use Rattle.same_targets.proofs.TwinCalls.{AreTwinCalls, OneCall, turned_calls, calls_twins, IsPlainCall, plain_call}
use Rattle.same_targets.proofs.TwinHolds.{rule, keeps, match_there, match_kept}

-- ---- lists of twins

call_among : (R : Pairing) (cs ds : List (Option RelationCall)) (x : RelationCall) → AllZip (OneCall R) cs ds → Contains cs (Some x)
    → (y : RelationCall) × Contains ds (Some y) × AreTwinCalls R x y
call_among R [] ds x zip (k, within, is) = absurd (omega (arith, within))
call_among R (c ∷ cs) [] x zip has = absurd zip
call_among R (c ∷ cs) (d ∷ ds) x zip (zero, within, is) = first d (subst (λ o. OneCall R o d) is zip.0)
  where
    first : (o : Option RelationCall) → OneCall R (Some x) o → (y : RelationCall) × Contains (o ∷ ds) (Some y) × AreTwinCalls R x y
    first None h = absurd h
    first (Some y) h = (y, (0, omega arith, refl), h)
call_among R (c ∷ cs) (d ∷ ds) x zip (suc k, within, is) =
    let (y, (j, below, same), h) = call_among R cs ds x zip.1 (k, omega (arith, within), is) in
    (y, (suc j, omega (arith, below), same), h)

zip_long : {X : Type 0} (T : X → X → Type 0) (xs ys : List X) → AllZip T xs ys → length xs ≡ length ys
zip_long T [] [] zip = refl
zip_long T [] (y ∷ ys) zip = absurd zip
zip_long T (x ∷ xs) [] zip = absurd zip
zip_long T (x ∷ xs) (y ∷ ys) zip = ap suc (zip_long T xs ys zip.1)

zip_at : {X : Type 0} (T : X → X → Type 0) (xs ys : List X) (k : ℕ) (d e : X) → AllZip T xs ys → k < length xs → T (get_or xs k d) (get_or ys k e)
zip_at T [] ys k d e zip within = absurd (omega (arith, within))
zip_at T (x ∷ xs) [] k d e zip within = absurd zip
zip_at T (x ∷ xs) (y ∷ ys) zero d e zip within = zip.0
zip_at T (x ∷ xs) (y ∷ ys) (suc k) d e zip within = zip_at T xs ys k d e zip.1 (omega (arith, within))

-- a list with one more at its end
record SplitZip {X : Type 0} (T : X → X → Type 0) (before : List X) (last : X) (all : List X) : Type 0 where
  first : List X
  end : X
  is : all ≡ first ++ end ∷ []
  zip : AllZip T before first
  twins : T last end

split_zip : {X : Type 0} (T : X → X → Type 0) (before : List X) (last : X) (all : List X) → AllZip T (before ++ last ∷ []) all → SplitZip T before last all
split_zip T [] last [] zip = absurd zip
split_zip T [] last (y ∷ []) zip = record { first = []; end = y; is = refl; zip = tt; twins = zip.0 }
split_zip T [] last (y ∷ z ∷ ys) zip = absurd zip.1
split_zip T (x ∷ before) last [] zip = absurd zip
split_zip T (x ∷ before) last (y ∷ ys) zip =
    let more = split_zip T before last ys zip.1 in
    record { first = y ∷ more.first; end = more.end; is = ap (λ zs. y ∷ zs) more.is; zip = (zip.0, more.zip); twins = more.twins }

-- ---- calls are told by their twins

call_of_parts : (x y : RelationCall) → x.rel ≡ y.rel → x.roots ≡ y.roots → x ≡ y
call_of_parts x y rel roots = ap (λ n. let z : RelationCall = record { rel = n; roots = x.roots } in z) rel ∙ ap (λ b. let z : RelationCall = record { rel = y.rel; roots = b } in z) roots

module _ (program : Program) (ms ns : List ModelData) (R : Pairing) (i : IsTwinning program ms ns R) where
  call_once : (x y z : RelationCall) → AreTwinCalls R x y → AreTwinCalls R x z → y ≡ z
  call_once x y z one other = call_of_parts y z (sym one.rel ∙ other.rel) (binding_once program ms ns R i x.roots y.roots z.roots one.roots other.roots)

  one_call : (x y z : RelationCall) → AreTwinCalls R x z → AreTwinCalls R y z → x ≡ y
  one_call x y z one other =
      call_of_parts x y (one.rel ∙ sym other.rel)
      (binding_once program ns ms (turned_round R) (turned program ms ns R i) z.roots x.roots y.roots (turned_calls R x z one).roots (turned_calls R y z other).roots)

  distinct_there : (before first : List RelationCall) → AllZip (AreTwinCalls R) before first → AllPairs (λ (c d : RelationCall). c ≢ d) before → AllPairs (λ (c d : RelationCall). c ≢ d) first
  distinct_there before first zip distinct j k d below within same =
      let long = zip_long (AreTwinCalls R) before first zip in
      let earlier = zip_at (AreTwinCalls R) before first j d d zip (omega (arith, long, below, within)) in
      let later = zip_at (AreTwinCalls R) before first k d d zip (omega (arith, long, within)) in
      distinct j k d below (omega (arith, long, within))
      (one_call (get_or before j d) (get_or before k d) (get_or first k d) (subst (AreTwinCalls R (get_or before j d)) same earlier) later)

  pub cyclic_there : (chain others : List RelationCall) → AllZip (AreTwinCalls R) chain others → IsCyclic chain → IsCyclic others
  cyclic_there chain others zip cyclic =
      let split = split_zip (AreTwinCalls R) cyclic.before cyclic.last others (subst (λ cs. AllZip (AreTwinCalls R) cs others) cyclic.is zip) in
      let long = zip_long (AreTwinCalls R) cyclic.before split.first split.zip in
      let (k, within, is) = cyclic.repeat in
      let again = zip_at (AreTwinCalls R) cyclic.before split.first k cyclic.last split.end split.zip within in
      record {
        before = split.first;
        last = split.end;
        is = split.is;
        distinct = distinct_there cyclic.before split.first split.zip cyclic.distinct;
        repeat = (
          k,
          omega (arith, long, within),
          call_once cyclic.last (get_or split.first k split.end) split.end (subst (λ c. AreTwinCalls R c (get_or split.first k split.end)) is again) split.twins,
        );
      }

  pub deep_there : (chain others : List RelationCall) → AllZip (AreTwinCalls R) chain others → IsDeep chain → IsDeep others
  deep_there chain others zip deep = record {
    calls = sym (zip_long (AreTwinCalls R) chain others zip) ∙ deep.calls;
    distinct = distinct_there chain others zip deep.distinct;
  }

-- ---- chains

module _ (metas : List MetaDesc) (program : Program) (formed : IsWellFormed metas program) (enforceable : IsEnforceable metas program) (ms ns : List ModelData) (R : Pairing)
    (i : IsTwinning program ms ns R)
  where
    -- a call that a call makes, and the one that its twin makes
    record WhereTwin (y to : RelationCall) : Type 0 where
      next : RelationCall
      twins : AreTwinCalls R to next
      plain : IsPlainCall program to
      calls : CallsWhere program ns y next

    where_there : (x y : RelationCall) → AreTwinCalls R x y → IsPlainCall program x → (to : RelationCall) → CallsWhere program ms x to → WhereTwin y to
    where_there x y twins plain to calls =
        let rel = calls.rel in
        let direction = plain.direction rel calls.is in
        let apart = plain.apart rel calls.is in
        let own_rule = rule metas program formed enforceable x.rel rel calls.is direction in
        let c = match_there metas program formed enforceable x.rel rel calls.is direction (λ models. Match program models) (match_kept metas program formed enforceable) ms ns R i
        x.roots y.roots calls.binding apart twins.roots calls.source in
        let own = binding_apart program ms ns R i x.rel rel formed.relations calls.is (keeps metas program formed enforceable x.rel rel calls.is direction) x.roots calls.binding apart
        calls.source.source in
        let g = target_there program ms ns R i x.rel rel formed.relations calls.is own_rule calls.binding calls.partner own calls.target c.binding c.twins in
        let partner_own = partner_apart program ms ns R i x.rel rel formed.relations calls.is own_rule calls.binding calls.partner own calls.target in
        let (next, among, alike) = call_among R (calls_of program ms calls.partner rel.wheres) (calls_of program ns g.partner rel.wheres) to
        (calls_twins metas program formed x.rel rel calls.is own_rule ms ns R i calls.partner g.partner partner_own g.twins rel.wheres (λ z has. inr has)) calls.calls in
        record {
          next = next;
          twins = alike;
          plain = plain_call metas program formed x.rel rel calls.is own_rule ms calls.partner partner_own rel.wheres (λ z has. inr has)
              ((formed.relations x.rel rel calls.is).calls direction).wheres to calls.calls;
          calls = record {
            rel = rel;
            is = ap (slice_get program.rels) (sym twins.rel) ∙ calls.is;
            binding = c.binding;
            source = c.source;
            partner = g.partner;
            target = g.target;
            calls = among;
          };
        }

    record WhenTwin (y to : RelationCall) : Type 0 where
      next : RelationCall
      twins : AreTwinCalls R to next
      plain : IsPlainCall program to
      asks : AsksWhen program ns y next

    when_there : (x y : RelationCall) → AreTwinCalls R x y → IsPlainCall program x → (to : RelationCall) → AsksWhen program ms x to → WhenTwin y to
    when_there x y twins plain to asks =
        let rel = asks.rel in
        let direction = plain.direction rel asks.is in
        let apart = plain.apart rel asks.is in
        let own_rule = rule metas program formed enforceable x.rel rel asks.is direction in
        let own_keeps = keeps metas program formed enforceable x.rel rel asks.is direction in
        let own = binding_apart program ms ns R i x.rel rel formed.relations asks.is own_keeps x.roots asks.binding apart asks.source in
        let c = source_there program ms ns R i x.rel rel formed.relations asks.is own_keeps x.roots asks.binding apart asks.source y.roots twins.roots in
        let (next, among, alike) = call_among R (calls_of program ms asks.binding rel.whens) (calls_of program ns c.binding rel.whens) to
        (calls_twins metas program formed x.rel rel asks.is own_rule ms ns R i asks.binding c.binding own c.twins rel.whens (λ z has. inl has)) asks.asks in
        record {
          next = next;
          twins = alike;
          plain = plain_call metas program formed x.rel rel asks.is own_rule ms asks.binding own rel.whens (λ z has. inl has)
              ((formed.relations x.rel rel asks.is).calls direction).whens to asks.asks;
          asks = record { rel = rel; is = ap (slice_get program.rels) (sym twins.rel) ∙ asks.is; binding = c.binding; source = c.source; asks = among };
        }

    top_plain : (number : ℕ) (rel : Rel) → IsTop program number rel → IsPlainCall program (record { rel = number; roots = free rel })
    top_plain number rel top = record {
      direction = λ called is. subst (λ (r : Rel). r.in_direction ≡ true) (same_called rel called (sym top.is ∙ is)) top.in_direction;
      apart = λ called is. subst (λ (r : Rel). IsApart program r (free rel)) (same_called rel called (sym top.is ∙ is)) (free_apart program rel);
    }

    -- a call to which a check comes, and its twin
    record ReachedTwin (role : Role) (c : RelationCall) : Type 0 where
      call : RelationCall
      twins : AreTwinCalls R c call
      plain : IsPlainCall program c
      reached : Reached program ns role call

    reached_there : (role : Role) (c : RelationCall) → Reached program ms role c → ReachedTwin role c
    reached_there role c (ReachedFrom.start _ _ (IsTopCall.top number rel top)) = record {
      call = record { rel = number; roots = free rel };
      twins = record { rel = refl; roots = free_twins R rel };
      plain = top_plain number rel top;
      reached = ReachedFrom.start Role.as_top (record { rel = number; roots = free rel }) (IsTopCall.top number rel top);
    }
    reached_there role c (ReachedFrom.by_when before from _ reached asks) =
        let f = reached_there before from reached in
        let to = when_there from f.call f.twins f.plain c asks in
        record { call = to.next; twins = to.twins; plain = to.plain; reached = ReachedFrom.by_when before f.call to.next f.reached to.asks }
    reached_there role c (ReachedFrom.by_where before from _ reached calls) =
        let f = reached_there before from reached in
        let to = where_there from f.call f.twins f.plain c calls in
        record { call = to.next; twins = to.twins; plain = to.plain; reached = ReachedFrom.by_where before f.call to.next f.reached to.calls }

    record ChainTwin (chain : List RelationCall) : Type 0 where
      others : List RelationCall
      zip : AllZip (AreTwinCalls R) chain others
      reached : Chain program ns others

    record OnTwin (y : RelationCall) (more : List RelationCall) : Type 0 where
      others : List RelationCall
      zip : AllZip (AreTwinCalls R) more others
      goes : GoesOn program ns y others

    on_there : (x y : RelationCall) → AreTwinCalls R x y → IsPlainCall program x → (more : List RelationCall) → GoesOn program ms x more → OnTwin y more
    on_there x y twins plain [] goes = record { others = []; zip = tt; goes = tt }
    on_there x y twins plain (to ∷ more) goes =
        let next = where_there x y twins plain to goes.0 in
        let rest = on_there to next.next next.twins next.plain more goes.1 in
        record { others = next.next ∷ rest.others; zip = (next.twins, rest.zip); goes = (next.calls, rest.goes) }

    begin_there : (first : RelationCall) (more : List RelationCall) → BeginsFrom program ms (IsTopCall program) first → GoesOn program ms first more → ChainTwin (first ∷ more)
    begin_there first more begins goes = by begins.begins
      where
        of_role : (role : Role) → ReachedTwin role begins.from
            → ((call : RelationCall) → Reached program ns role call
            → ReachedFrom program ns (IsTopCall program) Role.as_top call ⊎ ReachedFrom program ns (IsTopCall program) Role.as_match call) → ChainTwin (first ∷ more)
        of_role role f side =
            let to = where_there begins.from f.call f.twins f.plain first begins.calls in
            let rest = on_there first to.next to.twins to.plain more goes in
            record {
              others = to.next ∷ rest.others;
              zip = (to.twins, rest.zip);
              reached = (record { from = f.call; begins = side f.call f.reached; calls = to.calls }, rest.goes);
            }

        by : ReachedFrom program ms (IsTopCall program) Role.as_top begins.from ⊎ ReachedFrom program ms (IsTopCall program) Role.as_match begins.from → ChainTwin (first ∷ more)
        by (inl reached) = of_role Role.as_top (reached_there Role.as_top begins.from reached) (λ call r. inl r)
        by (inr reached) = of_role Role.as_match (reached_there Role.as_match begins.from reached) (λ call r. inr r)

    chain_there : (chain : List RelationCall) → Chain program ms chain → ChainTwin chain
    chain_there [] reached = absurd reached
    chain_there (first ∷ more) reached = begin_there first more reached.0 reached.1

    -- where over the others no chain is cyclic or deep, none is over these
    pub chains_there : ((others : List RelationCall) → Chain program ns others → (¬ IsCyclic others) × (¬ IsDeep others))
        → (chain : List RelationCall) → Chain program ms chain → (¬ IsCyclic chain) × (¬ IsDeep chain)
    chains_there none chain reached =
        let t = chain_there chain reached in
        let never = none t.others t.reached in
        (λ cyclic. never.0 (cyclic_there program ms ns R i chain t.others t.zip cyclic), λ deep. never.1 (deep_there program ms ns R i chain t.others t.zip deep))
