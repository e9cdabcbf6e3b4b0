-- The way goes on by the call behind the last one.
use Rattle.std.specs.Prelude.{◌≡◌, ◌++◌, ◌∷◌, [], List, length}
use Rattle.std.proofs.Common.{sym, ap, ◌∙◌, arith, append_assoc, length-append}
use Rattle.entry_making.specs.declared.numbered_call.NumberedCall.{NumberedCall}
use Rattle.entry_walk.proofs.WayLaws.{way_more}
use Rattle.entry_walk.proofs.deep.lengthen.Goals as goal

pub loop-alloc-preserved : goal.loop-alloc-preserved
loop-alloc-preserved c =
    let chain = c.loop-alloc.chain in
    let copy = c.in_ok-duplicate_call.field-0 in
    let (more, is, way) = c.loop-alloc.invariant.way in
    let put : c.push.new.self ≡ chain ++ copy ∷ [] = c.in_ok-push.ensures.ok in
    let long = ap (λ (xs : List NumberedCall). length xs) put in
    let one = length-append chain (copy ∷ []) in
    record {
      way = (
        more ++ copy ∷ [],
        put ∙ ap (λ (xs : List NumberedCall). xs ++ copy ∷ []) is ∙ append_assoc c.args.chain.now more (copy ∷ []),
        way_more c.args.finished.now c.args.place more c.loop-alloc.at c.place_behind-at.result copy way c.place_behind-at.ensures.behind (c.at.result.now, c.at.ensures, sym c.in_ok-duplicate_call.ensures),
      );
      short = omega (arith, long, one, c.loop-alloc-test.true, c.len.ensures);
      high = omega (arith, long, one, c.loop-alloc.invariant.high, c.place_behind-at.ensures.lower);
    }
