use Rattle.std.proofs.Common.{◌∙◌, sym, ap, length, arith, Ok}
use Rattle.xmi_text.specs.Reading.{after_answer, last_by}
use Rattle.xmi_text.specs.declared.mark.Step.TheVariants as answers
use Rattle.xmi_text.proofs.reading.Reached.{Reached-moved, Reached-mark, given_few, answered, answered_last, behind_last}
use Rattle.xmi_text.proofs.reading.Fixed.{tells}
use Rattle.xmi_text.proofs.reader.Reader.next.Goals as goal

-- at most two marks a byte were given
pub overflow_add-self : goal.overflow_add-self
overflow_add-self c = let few = given_few c.self.inside.bytes.items c.self.inside.at c.self.inside.given c.self.inside.state c.self.invariant in omega (arith, few, c.self.ranges.0, c.self.ranges.1)

pub invariant_of-self-in-Some : goal.invariant_of-self-in-Some
invariant_of-self-in-Some c =
    Reached-mark _ _ _ c.advance.new.state _ c.in-Some.mark c.in-Some.ensures.marks c.in-Some.ensures.rest
    (Reached-moved _ _ _ _ _ c.self.inside.state _ c.as_slice.ensures.value c.advance.ensures.reached c.self.invariant)

pub returns-in-Some-clause-answer : goal.returns-in-Some-clause-answer
returns-in-Some-clause-answer c =
    rw (← c.self.view_is)
    (answered _ c.advance.new.at c.advance.new.state c.in-Some.mark _ c.in-Some.ensures.marks
    (Reached-moved _ _ _ _ _ c.self.inside.state _ c.as_slice.ensures.value c.advance.ensures.reached c.self.invariant))

pub returns-in-None-clause-answer : goal.returns-in-None-clause-answer
returns-in-None-clause-answer c =
    rw (← c.self.view_is)
    (answered_last _ c.advance.new.at c.advance.new.state c.last_answer.result
    (c.in_ok-advance.ensures.stopped c.in-None.ensures.idle ∙ ap length c.as_slice.ensures.value)
    c.in-None.ensures.idle
    (c.last_answer.ensures ∙ ap (λ s. last_by c.self.inside.finished s c.advance.new.at) c.in-None.ensures.kept
    ∙ ap (λ n. last_by c.self.inside.finished c.advance.new.state n) (c.in_ok-advance.ensures.stopped c.in-None.ensures.idle ∙ ap length c.as_slice.ensures.value))
    (Reached-moved _ _ _ _ _ c.self.inside.state _ c.as_slice.ensures.value c.advance.ensures.reached c.self.invariant))

pub returns-in-None-clause-behind : goal.returns-in-None-clause-behind
returns-in-None-clause-behind c =
    c.self.view_is ∙ sym (ap (λ r. after_answer r c.args.self.now) c.last_answer.ensures ∙ behind_last c.args.self.now c.self.inside.finished c.take_mark.new.self c.advance.new.at)

pub returns-in-Some-clause-tells : goal.returns-in-Some-clause-tells
returns-in-Some-clause-tells c = tells c.args.self.now (Ok (answers.Mark c.in-Some.mark)) (returns-in-Some-clause-answer c)

pub returns-in-None-clause-tells : goal.returns-in-None-clause-tells
returns-in-None-clause-tells c = tells c.args.self.now c.last_answer.result (returns-in-None-clause-answer c)
