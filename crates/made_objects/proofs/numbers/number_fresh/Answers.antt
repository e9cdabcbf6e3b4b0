use Rattle.std.proofs.Common.{refl, ◌∙◌, ◌<◌, length, get_or, arith}
use Rattle.std.proofs.lemmas.List.{length-set}
use Rattle.made_objects.proofs.NumberLaws.{next_numbered}
use Rattle.made_objects.proofs.numbers.number_fresh.Goals as goal

pub loop-place-preserved : goal.loop-place-preserved
loop-place-preserved c =
    let fresh = c.args.fresh.now in
    let place = c.loop-place.place in
    let objects = c.loop-place.objects in
    let within : place < length fresh = omega (arith, c.loop-place-test.true) in
    let old : get_or fresh place 0 < length c.args.objects.now = c.requires.within place 0 within in
    let long = c.loop-place.invariant.length in
    let inside : get_or fresh place 0 < length objects = omega (arith, old, long) in
    record {
      length = length-set objects (get_or fresh place 0) _ ∙ long;
      numbered = next_numbered c.args.objects.now objects _ c.args.end place (get_or fresh place 0) fresh c.requires.once within refl inside refl
          c.loop-place.invariant.numbered;
    }
