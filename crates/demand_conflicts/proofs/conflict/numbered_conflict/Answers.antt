use Rattle.std.specs.Prelude.{length, take}
use Rattle.std.proofs.Common.{refl, sym, subst, arith}
use Rattle.std.proofs.lemmas.List.{take_all}
use Rattle.std.proofs.lemmas.Option.{slice_get_read, MatchOption-at_some, MatchOption-at_none}
use Rattle.demand_conflicts.specs.contracts.claims.NumberedSpotOrd.TheImpl.{ghosts}
use Rattle.demand_conflicts.specs.NumberedClaims.{single_claims}
use Rattle.demand_conflicts.specs.Heard.{IsHeard, IsOpposed}
use Rattle.demand_conflicts.specs.NumberedConflicts.{heard_from}
use Rattle.demand_conflicts.proofs.HeardLaws.{heard_more, heard_agreed, first_within, opposed_conflict}
use Rattle.demand_conflicts.proofs.conflict.numbered_conflict.Goals as goal

pub found_at-requires : goal.found_at-requires
found_at-requires c =
    let meta = c.args.meta.now in
    let ds = c.args.demands.now in
    let place = c.loop-place.place in
    let x = c.index-demands-place.result in
    let at = slice_get_read ds (length ds) place x refl (omega arith) c.index-demands-place.is in
    let opposed : IsOpposed (heard_from meta 0 (take place ds)) place (single_claims meta x) c.in-Some.opposed =
    MatchOption-at_some _ (IsOpposed (heard_from meta 0 (take place ds)) place (single_claims meta x)) c.in-Some.opposed c.in-Some.is
    (c.in_ok-opposed.ensures (heard_from meta 0 (take place ds)) c.loop-place.invariant)
    in
    first_within meta c.class_count.ensures.well ds c.requires place x at c.in-Some.opposed opposed

pub returns-in-Some : goal.returns-in-Some
returns-in-Some c =
    let meta = c.args.meta.now in
    let ds = c.args.demands.now in
    let place = c.loop-place.place in
    let x = c.index-demands-place.result in
    let at = slice_get_read ds (length ds) place x refl (omega arith) c.index-demands-place.is in
    let opposed : IsOpposed (heard_from meta 0 (take place ds)) place (single_claims meta x) c.in-Some.opposed =
    MatchOption-at_some _ (IsOpposed (heard_from meta 0 (take place ds)) place (single_claims meta x)) c.in-Some.opposed c.in-Some.is
    (c.in_ok-opposed.ensures (heard_from meta 0 (take place ds)) c.loop-place.invariant)
    in
    opposed_conflict meta c.class_count.ensures.well ds c.requires place x at c.in-Some.opposed opposed c.found_at.result c.found_at.ensures.first c.found_at.ensures.second c.found_at.ensures.place

pub loop-place-preserved : goal.loop-place-preserved
loop-place-preserved c =
    let meta = c.args.meta.now in
    let ds = c.args.demands.now in
    let place = c.loop-place.place in
    let x = c.index-demands-place.result in
    let at = slice_get_read ds (length ds) place x refl (omega arith) c.index-demands-place.is in
    subst (λ heard. IsHeard ghosts.cmp heard c.hear_demand.new.self.firsts) (sym (heard_more meta ds place x at))
    (MatchOption-at_none _ (IsOpposed (heard_from meta 0 (take place ds)) place (single_claims meta x)) c.in_default.is
    (c.in_ok-opposed.ensures (heard_from meta 0 (take place ds)) c.loop-place.invariant))

pub returns : goal.returns
returns c =
    let meta = c.args.meta.now in
    let ds = c.args.demands.now in
    heard_agreed meta ghosts.cmp ds c.loop-place.told.firsts
    (subst (λ some. IsHeard ghosts.cmp (heard_from meta 0 some) c.loop-place.told.firsts) (take_all c.loop-place.place ds (omega arith)) c.loop-place.invariant)
