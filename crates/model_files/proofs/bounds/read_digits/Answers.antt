use Rattle.std.proofs.Common.{◌≡◌, [], ◌∷◌, Some, chars, sym, ap, ◌∙◌}
use Rattle.std.specs.List.{fold}
use Rattle.std.proofs.lemmas.List.{map-id}
use Rattle.std.proofs.lemmas.List.Sums.{fold-append}
use Rattle.std.proofs.lemmas.Iterator.{YieldsList-from_chars}
use Rattle.std.proofs.lemmas.Iterator.Consumers.{YieldsList-end}
use Rattle.model_files.specs.Bounds.{spelled_on}
use Rattle.model_files.proofs.bounds.read_digits.Goals as goal

pub loop-c-preserved : goal.loop-c-preserved
loop-c-preserved c =
    c.spelled_on-so_far.ensures ∙ ap (λ s. spelled_on s c.in-Some.c) c.loop-c.invariant
    ∙ sym (fold-append spelled_on (Some 0) c.loop-c.yielded (c.in-Some.c ∷ []))

pub returns : goal.returns
returns c =
    let e = YieldsList-end (YieldsList-from_chars c.args.text.now c.utf8.text cc) c.loop-c.yielded _ c.loop-c.yielded_by _ _ c.in-None.is c.next.ensures.steps in
    let all : c.loop-c.yielded ≡ chars c.args.text.now = sym (map-id c.loop-c.yielded) ∙ e.0 in
    c.loop-c.invariant ∙ ap (fold spelled_on (Some 0)) all
