use Rattle.std.proofs.Common.{◌≡◌, Bool, true, false, not, arith, sym, subst, refl, ◌∙◌, true≢false}
use Rattle.std.specs.Prelude.{AllPairs}
use Rattle.std.proofs.lemmas.List.{take_all}
use Rattle.qv_syntax.specs.declared.program.Key.{Key}
use Rattle.qv_syntax.specs.Keys.{AreOfTwoClasses}
use Rattle.qvtr_types.specs.ClassSets.{has_class}
use Rattle.qvtr_types.proofs.KeyLaws.{met_more, second_found, apart_more}
use Rattle.qvtr_types.proofs.keys.second_place.Goals as goal

not_new : (b is_new : Bool) → is_new ≡ not b → is_new ≡ false → b ≡ true
not_new true is_new is old = refl
not_new false is_new is old = absurd (true≢false (sym is ∙ old))

is_new_then : (b is_new : Bool) → is_new ≡ not b → is_new ≡ true → b ≡ false
is_new_then false is_new is new = refl
is_new_then true is_new is new = absurd (true≢false (sym new ∙ is))

pub returns-then-not-is_new : goal.returns-then-not-is_new
returns-then-not-is_new c =
    second_found c.args.keys.now c.loop-place.place c.index-keys-place.result (omega arith) c.index-keys-place.is
    (sym (c.loop-place.invariant.0 (c.index-keys-place.result.meta, c.index-keys-place.result.class.0)) ∙ not_new _ c.in_ok-is_new.is_new c.in_ok-is_new.ensures.is_new c.if-not-is_new.true)

pub loop-place-preserved : goal.loop-place-preserved
loop-place-preserved c =
    let key : Key = c.index-keys-place.result in (
      met_more c.args.keys.now c.loop-place.place key (omega arith) c.index-keys-place.is (λ q. has_class c.loop-place.met.classes q) (λ q. has_class c.meet.new.self.classes q) c.loop-place.invariant.0
          c.in_ok-is_new.ensures.met,
      apart_more c.args.keys.now c.loop-place.place key (omega arith) c.index-keys-place.is
          (sym (c.loop-place.invariant.0 (key.meta, key.class.0)) ∙ is_new_then _ c.in_ok-is_new.is_new c.in_ok-is_new.ensures.is_new c.if-not-is_new.false) c.loop-place.invariant.1,
    )

pub returns : goal.returns
returns c = subst (AllPairs AreOfTwoClasses) (take_all c.loop-place.place c.args.keys.now (omega arith)) c.loop-place.invariant.1
