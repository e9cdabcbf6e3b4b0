use Rattle.std.proofs.Common.{◌≡◌, [], ◌∷◌, sym, ap, ◌∙◌}
use Rattle.std.specs.List.{fold}
use Rattle.std.proofs.lemmas.List.{map-id}
use Rattle.std.proofs.lemmas.List.Sums.{fold-append}
use Rattle.std.proofs.lemmas.Iterator.{YieldsList-from_chars}
use Rattle.std.proofs.lemmas.Iterator.Consumers.{YieldsList-end}
use Rattle.ocl_eval.specs.declared.spelling.Spelling.TheVariants.{Start}
use Rattle.ocl_eval.specs.Spellings.{spelled_on, spelled_out}
use Rattle.ocl_eval.proofs.SpellingLaws.{spelled}
use Rattle.ocl_eval.proofs.spelling.to_integer.Goals as goal

pub loop-c-preserved : goal.loop-c-preserved
loop-c-preserved c =
    c.spelled_on-so_far.ensures ∙ ap (λ s. spelled_on s c.in-Some.c) c.loop-c.invariant
    ∙ sym (fold-append spelled_on Start c.loop-c.yielded (c.in-Some.c ∷ []))

pub returns : goal.returns
returns c =
    let e = YieldsList-end (YieldsList-from_chars c.as_str.result.now c.as_str.utf8 cc) c.loop-c.yielded _ c.loop-c.yielded_by _ _ c.in-None.is c.next.ensures.steps in
    let all : c.loop-c.yielded ≡ c.args.text.now = sym (map-id c.loop-c.yielded) ∙ e.0 ∙ c.as_str.ensures.characters in
    c.spelled_out.ensures ∙ ap spelled_out (c.loop-c.invariant ∙ ap (fold spelled_on Start) all) ∙ spelled c.args.text.now
