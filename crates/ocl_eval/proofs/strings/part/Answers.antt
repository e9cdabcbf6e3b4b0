use Rattle.std.proofs.Common.{take, drop, sym, ap, ◌∙◌}
use Rattle.std.proofs.lemmas.Str.{chars-nil}
use Rattle.std.proofs.lemmas.Iterator.{YieldsList-from_chars, YieldsList-from_take}
use Rattle.std.proofs.lemmas.Iterator.Adapters.{YieldsList-from_skip}
use Rattle.std.proofs.lemmas.Iterator.Consumers.{YieldsList-end}
use Rattle.std.proofs.lemmas.List.{map-id}
use Rattle.ocl_eval.proofs.strings.part.Goals as goal

pub loop-c-init : goal.loop-c-init
loop-c-init c = c.in_ok-part.ensures.characters ∙ chars-nil

pub returns : goal.returns
returns c =
    let chain = YieldsList-from_take c.args.count (YieldsList-from_skip c.args.left_out (YieldsList-from_chars c.as_str.result.now c.as_str.utf8 cc) cc) cc in
    let e = YieldsList-end chain c.loop-c.yielded _ c.loop-c.yielded_by _ _ c.in-None.is c.next.ensures.steps in
    c.loop-c.invariant ∙ sym (map-id c.loop-c.yielded) ∙ e.0 ∙ ap (λ cs. take c.args.count (drop c.args.left_out cs)) c.as_str.ensures.characters
