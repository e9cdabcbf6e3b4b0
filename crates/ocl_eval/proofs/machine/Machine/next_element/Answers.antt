use Rattle.std.proofs.Common.{◌≡◌, ◌<◌, length, get_or, ltb-true, subst, sym, ◌∙◌, ap}
use Rattle.std.proofs.lemmas.Result.{IfOk-weaker}
use Rattle.ocl_eval.specs.Frames.{cover, outcome_of}
use Rattle.ocl_eval.proofs.FrameLaws.{element_entered}
use Rattle.ocl_eval.proofs.machine.Machine.next_element.Goals as goal

pub returns-in_ok-enter-in-Some : goal.returns-in_ok-enter-in-Some
returns-in_ok-enter-in-Some c =
    let m = c.args.self.now in
    let i = c.args.iteration in
    let there : i.next < length c.as_slice.result.now = ltb-true i.next (length c.as_slice.result.now) (sym c.in-Some.ensures.lookup.0) in
    let within : i.next < length i.elements = subst (λ xs. i.next < length xs) c.as_slice.ensures there in
    let found : c.in-Some.element.now ≡ get_or i.elements i.next c.in-Some.element.now = c.in-Some.ensures.lookup.1 ∙ ap (λ xs. get_or xs i.next c.in-Some.element.now) c.as_slice.ensures in
    IfOk-weaker c.wait.result _ _
    (λ control h n. h n ∙ ap (outcome_of m) (element_entered m.world (cover n m) m.scope c.enter.new.self i c.following.result c.args.progress c.in_ok-duplicate_datum-in-Some.field-0 c.in-Some.element.now within found c.in_ok-duplicate_datum-in-Some.ensures c.in_ok-enter-in-Some.ensures c.following.ensures))
    c.wait.ensures
