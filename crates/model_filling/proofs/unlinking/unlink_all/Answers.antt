use Rattle.std.proofs.Common.{◌≡◌, ℕ, ◌<◌, [], length, arith, below_more}
use Rattle.object_tables.specs.Models.{IsReferenceOf, partners_at}
use Rattle.model_filling.proofs.CounterpartLaws.{objects_back, reference_there}
use Rattle.model_filling.proofs.PropertyLaws.{property_of_reference, object_below}
use Rattle.model_filling.proofs.UnlinkLaws.{loses_nothing, loses_through, still_none, all_lost}
use Rattle.model_filling.proofs.unlinking.unlink_all.Goals as goal

pub loop-o-init : goal.loop-o-init
loop-o-init c = record { loses = loses_nothing c.args.model.now c.end-o-end.ensures.kept; none = λ a l. absurd (omega (arith, l)) }

pub unlink_object-requires : goal.unlink_object-requires
unlink_object-requires c = c.loop-o.invariant.loses.kept

pub loop-o-preserved : goal.loop-o-preserved
loop-o-preserved c =
    let old = c.args.model.now in
    let now = c.loop-o.model in
    let new = c.unlink_object.new.model in
    record {
      loses = loses_through old now new c.loop-o.invariant.loses c.unlink_object.ensures.loses;
      none = below_more (λ a. (p : ℕ) → IsReferenceOf old a p → partners_at new a p ≡ []) c.loop-o.o
          (λ a l p r. still_none now new a p c.unlink_object.ensures.loses (c.loop-o.invariant.none a l p r))
          (λ p r. c.unlink_object.ensures.none p (reference_there old now c.loop-o.o p (objects_back now old c.loop-o.invariant.loses.objects) r));
    }

pub returns : goal.returns
returns c = all_lost c.args.model.now c.loop-o.model c.end-o-end.ensures.kept c.loop-o.invariant.loses (λ o p r.
    let below : o < length c.args.model.now.objects = object_below c.args.model.now o p (property_of_reference c.args.model.now o p r) in
    let number = c.end-o-end.ensures.number in
    c.loop-o.invariant.none o (omega arith) p r)
