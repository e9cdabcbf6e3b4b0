use Rattle.std.specs.Prelude.{◌≡◌, ◌<◌, ◌++◌, ◌∷◌, [], ℕ, List, Option, MatchOption, length, Contains, IfOk}
use Rattle.std.proofs.Common.{sym, ap, subst, ◌∙◌, arith, length-append}
use Rattle.std.proofs.lemmas.List.Elements.{All-contains}
use Rattle.std.proofs.lemmas.Option.{slice_get_within}
use Rattle.std.proofs.lemmas.Result.{IfOk-weaker}
use Rattle.qvtr_semantics.specs.declared.limits.TheConstants.{MAX_CALLS}
use Rattle.term_table.proofs.TermTableLaws.{grown-trans}
use Rattle.entry_making.specs.declared.numbered_call.NumberedCall.{NumberedCall}
use Rattle.entry_making.specs.CallNumbers.{call_of}
use Rattle.entry_finding.specs.Found.{IsCallWithin, IfMet, IfUnmet}
use Rattle.entry_walk.specs.declared.finished.Finished.{Finished}
use Rattle.entry_walk.specs.Paths.{path_in}
use Rattle.entry_walk.specs.FinishedTables.{IsFinishedAt, IsUnfinished}
use Rattle.entry_walk.specs.Explored.{IsExplored, IsUnmetOf}
use Rattle.entry_walk.specs.Walking.{IsWalking, IsNext, IsBlocked, HasPassed, IsFurther, IsHigh, HasReached, HasReachedAll}
use Rattle.entry_walk.proofs.GrowthLaws.{next_grown, walking_grown, new_grown}
use Rattle.entry_walk.proofs.PathLaws.{leads_made}
use Rattle.entry_walk.proofs.StepLaws.{entered, next_calls}
use Rattle.entry_walk.proofs.WayLaws.{stepped, height_at}
use Rattle.entry_walk.proofs.ReachLaws.{further_on, passed_reached, blocked_end, is_new, still_new, left_reached, here_in, next_later, high_on, same_long}
use Rattle.entry_walk.proofs.EndLaws.{called_end}
use Rattle.entry_walk.proofs.walking.+walking.Goals as goal

-- ---- a call that has been walked, or can't come on the path

pub reach-passed-requires-clause-stepped : goal.reach-passed-requires-clause-stepped
reach-passed-requires-clause-stepped t c =
    stepped c.args.ground.now.world.program.now c.args.ground.now.world.models.now c.args.ground.now.tops.now c.args.table.now c.args.finished.now c.args.path.now c.requires.walking

pub reach-passed-requires-clause-within : goal.reach-passed-requires-clause-within
reach-passed-requires-clause-within t c =
    let fs : List Finished = c.args.finished.now in
    let at : IsFinishedAt fs c.in-Some.place c.args.call.now =
    subst (λ (o : Option ℕ). MatchOption o (IsUnfinished fs c.args.call.now) (λ n. IsFinishedAt fs n c.args.call.now)) c.in-Some.is c.in_ok-place.ensures in
    slice_get_within fs c.in-Some.place at.0 at.1

pub reach-returns-in-Some-clause-reached : goal.reach-returns-in-Some-clause-reached
reach-returns-in-Some-clause-reached t c =
    let fs : List Finished = c.args.finished.now in
    let call : NumberedCall = c.args.call.now in
    let path : List NumberedCall = c.args.path.now in
    let program = c.args.ground.now.world.program.now in
    let models = c.args.ground.now.world.models.now in
    let tops = c.args.ground.now.tops.now in
    let at : IsFinishedAt fs c.in-Some.place call = subst (λ (o : Option ℕ). MatchOption o (IsUnfinished fs call) (λ n. IsFinishedAt fs n call)) c.in-Some.is c.in_ok-place.ensures in
    IfOk-weaker c.passed.result (HasPassed fs path call c.in-Some.place) (HasReached program models tops fs path call c.args.table.now fs path)
    (λ r h. passed_reached program models tops c.args.table.now fs path call c.in-Some.place r c.requires.walking c.requires.leads at h)
    (subst (λ p. IfOk c.passed.result (HasPassed fs p call c.in-Some.place)) c.as_slice.ensures c.passed.ensures)

pub reach-returns-in-Some-2-clause-reached : goal.reach-returns-in-Some-2-clause-reached
reach-returns-in-Some-2-clause-reached t c =
    let call : NumberedCall = c.args.call.now in
    blocked_end c.args.ground.now.world.program.now c.args.ground.now.world.models.now c.args.ground.now.tops.now c.args.table.now c.args.finished.now c.args.path.now call c.in-Some-2.end c.len-count.ensures.distinct
    c.requires.walking c.requires.leads
    (subst (IsBlocked c.args.path.now call) c.in-Some-2.is (subst (λ (p : List NumberedCall). IsBlocked p call c.in_ok-end-in-None.field-0) c.as_slice-in-None.ensures c.in_ok-end-in-None.ensures))

pub reach-visit-requires : goal.reach-visit-requires
reach-visit-requires t c =
    let fs : List Finished = c.args.finished.now in
    let call : NumberedCall = c.args.call.now in
    let free : ¬ Contains c.args.path.now call × (length c.args.path.now < MAX_CALLS) =
    subst (IsBlocked c.args.path.now call) c.in-None-2.is (subst (λ (p : List NumberedCall). IsBlocked p call c.in_ok-end-in-None.field-0) c.as_slice-in-None.ensures c.in_ok-end-in-None.ensures) in
    let none : IsUnfinished fs call = subst (λ (o : Option ℕ). MatchOption o (IsUnfinished fs call) (λ n. IsFinishedAt fs n call)) c.in-None.is c.in_ok-place.ensures in (
      omega (arith, c.decreases),
      (
        c.requires.premises,
        (
          c.requires.prepared,
          (
            c.requires.walking,
            (
              c.requires.leads,
              (
                is_new c.args.ground.now.world.program.now c.args.ground.now.world.models.now c.args.ground.now.tops.now c.args.table.now fs c.args.path.now call c.len-count.ensures.distinct c.requires.walking c.requires.leads.within free.0
                    none,
                free.1,
              ),
            ),
          ),
        ),
      ),
    )

-- ---- a call that is new

pub visit-explored-requires-clause-made : goal.visit-explored-requires-clause-made
visit-explored-requires-clause-made t c =
    leads_made c.args.ground.now.world.program.now c.args.ground.now.world.models.now (path_in c.args.table.now c.args.path.now) (call_of c.args.table.now c.args.call.now) c.requires.leads.leads

pub visit-go_through-requires : goal.visit-go_through-requires
visit-go_through-requires t c =
    let program = c.args.ground.now.world.program.now in
    let models = c.args.ground.now.world.models.now in
    let tops = c.args.ground.now.tops.now in
    let call : NumberedCall = c.args.call.now in
    let a = c.args.table.now in
    let b = c.explored.new.table in
    let g = c.in_ok-found.ensures.grown in
    let w = c.requires.walking in (
      omega (arith, c.decreases),
      (
        c.requires.premises,
        (
          c.requires.prepared,
          (
            walking_grown program models a b g tops c.args.finished.now c.args.path.now w,
            (
              next_grown program models a b g c.args.path.now call w.path_within c.requires.leads,
              (
                new_grown program models a b g tops c.args.finished.now c.args.path.now w call c.requires.leads.within c.requires.new,
                (c.requires.room, subst (IfMet (IsExplored program models b tops call)) c.in-Met.is c.in_ok-found.ensures.met),
              ),
            ),
          ),
        ),
      ),
    )

pub visit-returns-in-Unmet-clause-reached : goal.visit-returns-in-Unmet-clause-reached
visit-returns-in-Unmet-clause-reached t c =
    let (metas, can) = c.requires.premises in
    let program = c.args.ground.now.world.program.now in
    let models = c.args.ground.now.world.models.now in
    let tops = c.args.ground.now.tops.now in
    let call : NumberedCall = c.args.call.now in
    let a = c.args.table.now in
    let b = c.explored.new.table in
    let g = c.in_ok-found.ensures.grown in
    let w = walking_grown program models a b g tops c.args.finished.now c.args.path.now c.requires.walking in
    called_end metas program can.evaluable.well models tops b c.args.path.now call c.in-Unmet.unmet w.tops_are (next_grown program models a b g c.args.path.now call c.requires.walking.path_within c.requires.leads)
    c.requires.room (subst (IfUnmet (IsUnmetOf program models b tops call)) c.in-Unmet.is c.in_ok-found.ensures.unmet)

-- ---- the calls behind it

pub go_through-reach_all-requires : goal.go_through-reach_all-requires
go_through-reach_all-requires t c =
    let (metas, can) = c.requires.premises in
    let program = c.args.ground.now.world.program.now in
    let models = c.args.ground.now.world.models.now in
    let tops = c.args.ground.now.tops.now in
    let terms = c.args.table.now in
    let fs : List Finished = c.args.finished.now in
    let path : List NumberedCall = c.args.path.now in
    let call : NumberedCall = c.args.call.now in
    let found = c.args.found in
    let x = c.requires.explored in
    let pushed : c.push.new.self ≡ path ++ call ∷ [] = c.in_ok-push.ensures.ok ∙ ap (λ (d : NumberedCall). path ++ d ∷ []) c.in_ok-duplicate_call.ensures in
    let long = ap (λ (xs : List NumberedCall). length xs) pushed in
    let one = length-append path (call ∷ []) in (
      omega (arith, c.decreases, long, one, c.requires.room),
      (
        c.requires.premises,
        (
          c.requires.prepared,
          (
            subst (IsWalking program models tops terms fs) (sym pushed) (entered metas program can.evaluable.well models tops terms fs path call c.requires.walking c.requires.leads c.requires.new c.requires.room),
            λ d there.
                let within : Contains found.calls d = subst (λ (cs : List NumberedCall). Contains cs d) c.as_slice.ensures there in
                subst (λ p. IsNext program models terms p d) (sym pushed)
                (next_calls metas program can.evaluable.well models tops terms fs path call found c.requires.walking.tops_are c.requires.leads x d within (All-contains (IsCallWithin terms) found.calls d x.calls_within within)),
          ),
        ),
      ),
    )

pub go_through-leave-requires : goal.go_through-leave-requires
go_through-leave-requires t c =
    let program = c.args.ground.now.world.program.now in
    let models = c.args.ground.now.world.models.now in
    let tops = c.args.ground.now.tops.now in
    let path : List NumberedCall = c.args.path.now in
    let call : NumberedCall = c.args.call.now in
    let gs : List Finished = c.reach_all.new.finished in
    let q : List NumberedCall = c.reach_all.new.path in
    let pushed : c.push.new.self ≡ path ++ call ∷ [] = c.in_ok-push.ensures.ok ∙ ap (λ (d : NumberedCall). path ++ d ∷ []) c.in_ok-duplicate_call.ensures in
    let reached = subst (HasReachedAll program models tops c.args.finished.now c.push.new.self c.as_slice.result.now c.reach_all.new.table gs q) c.in-All.is c.in_ok-height.ensures.reached in
    let same : q ≡ path ++ call ∷ [] = (reached.0).same_path ∙ pushed in
    (path, call, same, still_new program models tops c.reach_all.new.table gs path call (subst (IsWalking program models tops c.reach_all.new.table gs) same (reached.0).walking))

pub go_through-returns-in_ok-place-in-All-clause-reached : goal.go_through-returns-in_ok-place-in-All-clause-reached
go_through-returns-in_ok-place-in-All-clause-reached t c =
    let (metas, can) = c.requires.premises in
    let program = c.args.ground.now.world.program.now in
    let models = c.args.ground.now.world.models.now in
    let tops = c.args.ground.now.tops.now in
    let fs : List Finished = c.args.finished.now in
    let path : List NumberedCall = c.args.path.now in
    let call : NumberedCall = c.args.call.now in
    let found = c.args.found in
    let b = c.reach_all.new.table in
    let gs : List Finished = c.reach_all.new.finished in
    let q : List NumberedCall = c.reach_all.new.path in
    let h = c.in-All.height in
    let pushed : c.push.new.self ≡ path ++ call ∷ [] = c.in_ok-push.ensures.ok ∙ ap (λ (d : NumberedCall). path ++ d ∷ []) c.in_ok-duplicate_call.ensures in
    let reached = subst (HasReachedAll program models tops fs c.push.new.self c.as_slice.result.now b gs q) c.in-All.is c.in_ok-height.ensures.reached in
    let further : IsFurther program models tops fs (path ++ call ∷ []) b gs q = subst (λ p. IsFurther program models tops fs p b gs q) pushed reached.0 in
    let high : IsHigh gs q found.calls h = subst (λ cs. IsHigh gs q cs h) c.as_slice.ensures reached.1 in
    let (d, split, added) = c.in_ok-place-in-All.ensures.left in
    left_reached program models tops metas can.evaluable.well c.args.table.now b c.in_ok-height.ensures.grown fs gs c.leave.new.finished path q c.leave.new.path call d found h c.in_ok-place-in-All.place
    c.requires.walking c.requires.leads c.requires.explored further high split added c.in_ok-place-in-All.ensures.place

-- ---- one call after another

pub reach_all-reach-requires : goal.reach_all-reach-requires
reach_all-reach-requires t c =
    let program = c.args.ground.now.world.program.now in
    let models = c.args.ground.now.world.models.now in
    let further = c.loop-call.invariant.further in
    let path : List NumberedCall = c.args.path.now in
    let item : NumberedCall = c.call-item.result in
    let long = same_long c.loop-call.path path further.same_path in
    let there : Contains c.args.calls.now item = here_in c.args.calls.now c.loop-call.call-index item (omega arith) c.call-item.is in (
      omega (arith, c.decreases, long),
      (
        c.requires.premises,
        (
          c.requires.prepared,
          (
            further.walking,
            next_later program models c.args.table.now c.loop-call.table c.loop-call.invariant.grown path c.loop-call.path item further.same_path c.requires.walking.path_within (c.requires.lead item there),
          ),
        ),
      ),
    )

pub reach_all-higher-height-requires-clause-within : goal.reach_all-higher-height-requires-clause-within
reach_all-higher-height-requires-clause-within t c =
    let reached = subst (HasReached c.args.ground.now.world.program.now c.args.ground.now.world.models.now c.args.ground.now.tops.now c.loop-call.finished c.loop-call.path c.call-item.result c.reach.new.table c.reach.new.finished c.reach.new.path)
    c.in-At.is c.in_ok-place.ensures.reached in
    slice_get_within c.reach.new.finished c.in-At.place (reached.1).by (reached.1).at

pub reach_all-higher-height-requires-clause-low : goal.reach_all-higher-height-requires-clause-low
reach_all-higher-height-requires-clause-low t c =
    let reached = subst (HasReached c.args.ground.now.world.program.now c.args.ground.now.world.models.now c.args.ground.now.tops.now c.loop-call.finished c.loop-call.path c.call-item.result c.reach.new.table c.reach.new.finished c.reach.new.path)
    c.in-At.is c.in_ok-place.ensures.reached in
    let h = height_at c.reach.new.finished c.in-At.place (reached.1).by (reached.1).at in
    let r = (reached.1).room in
    omega (arith, h, r)

pub reach_all-loop-call-preserved : goal.reach_all-loop-call-preserved
reach_all-loop-call-preserved t c =
    let program = c.args.ground.now.world.program.now in
    let models = c.args.ground.now.world.models.now in
    let tops = c.args.ground.now.tops.now in
    let fs : List Finished = c.loop-call.finished in
    let gs : List Finished = c.reach.new.finished in
    let path : List NumberedCall = c.loop-call.path in
    let q : List NumberedCall = c.reach.new.path in
    let a = c.loop-call.table in
    let b = c.reach.new.table in
    let item : NumberedCall = c.call-item.result in
    let reached = subst (HasReached program models tops fs path item b gs q) c.in-At.is c.in_ok-place.ensures.reached in
    record {
      grown = grown-trans c.args.table.now a b c.loop-call.invariant.grown c.in_ok-place.ensures.grown;
      further = further_on program models tops a b c.args.finished.now fs gs c.args.path.now path q c.loop-call.invariant.further reached.0;
      high = high_on program models tops b fs gs path q c.args.calls.now c.loop-call.call-index item c.loop-call.height c.higher-height.result c.in-At.place (omega arith) c.call-item.is c.loop-call.invariant.high reached.0 reached.1
          c.higher-height.ensures;
    }
