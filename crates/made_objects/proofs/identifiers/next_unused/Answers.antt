use Rattle.std.proofs.Common.{refl, ap, sym, ◌∙◌, ◌≡◌, ◌+◌, ◌≢◌, ℕ, List, subst, length, arith, Option, Some, None, IfSome, IfNone, is_some, true, false, true≢false}
use Rattle.object_tables.specs.Models.{id_at}
use Rattle.repair_semantics.specs.CandidateObjects.{fresh_id, is_used}
use Rattle.candidate_laws.proofs.IdentifierLaws.{used}
use Rattle.made_objects.specs.Headers.{unused_below}
use Rattle.made_objects.proofs.UnusedLaws.{unused, passed_over, not_all_used, next_found}
use Rattle.made_objects.proofs.identifiers.next_unused.Goals as goal

at_none : {X : Type 0} (P : Type 0) (r : Option X) → is_some r ≡ false → IfNone r P → P
at_none P None h p = p
at_none P (Some x) h p = absurd (true≢false h)

at_some : {X : Type 0} (P : X → Type 0) (r : Option X) → is_some r ≡ true → IfSome r P → (x : X) × P x
at_some P None h p = absurd (true≢false (sym h))
at_some P (Some x) h p = (x, p)

-- the identifier is that of the number, and no object has it
pub returns-then-is_none : goal.returns-then-is_none
returns-then-is_none c =
    let m = c.args.target.now in
    let named : c.in_ok-id.id ≡ fresh_id c.loop-number.number = c.in_ok-id.ensures in
    let other = at_none ((o : ℕ) → id_at m o ≢ Some c.in_ok-id.id) c.by_id.result c.if-is_none.ensures
    (subst (λ (id : List ℕ). IfNone c.by_id.result ((o : ℕ) → id_at m o ≢ Some id)) c.as_str.ensures.characters c.by_id.ensures.none) in
    next_found m c.args.from c.loop-number.number (record { id = c.in_ok-id.id; next = c.loop-number.number + 1 }) c.loop-number.auto.number
    (omega (arith, c.loop-number-test.true, c.loop-number.invariant.past)) refl named (unused m c.in_ok-id.id other) c.loop-number.invariant.passed

pub loop-number-preserved : goal.loop-number-preserved
loop-number-preserved c =
    let m = c.args.target.now in
    let named : c.in_ok-id.id ≡ fresh_id c.loop-number.number = c.in_ok-id.ensures in
    let found = at_some (λ o. id_at m o.0 ≡ Some c.in_ok-id.id) c.by_id.result c.if-is_none.ensures
    (subst (λ (id : List ℕ). IfSome c.by_id.result (λ o. id_at m o.0 ≡ Some id)) c.as_str.ensures.characters c.by_id.ensures.found) in
    record {
      passed = passed_over m c.loop-number.number (ap (is_used m) (sym named) ∙ used m found.0.0 c.in_ok-id.id found.1)
          ∙ c.loop-number.invariant.passed;
      past = c.loop-number.invariant.past;
    }

pub unreachable-requires : goal.unreachable-requires
unreachable-requires c =
    let m = c.args.target.now in
    let past : c.loop-number.number ≡ c.args.from + length m.objects + 1 = omega arith in
    not_all_used m c.args.from (omega (arith, c.requires)) (ap (unused_below m) (sym past) ∙ c.loop-number.invariant.passed)
