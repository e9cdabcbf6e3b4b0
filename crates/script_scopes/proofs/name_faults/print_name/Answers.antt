use Rattle.std.proofs.Common.{◌≡◌, ℕ, List, chars, sym, ap, ◌∙◌}
use Rattle.std.proofs.lemmas.List.{map-id}
use Rattle.std.proofs.lemmas.Iterator.{YieldsList-from_chars}
use Rattle.std.proofs.lemmas.Iterator.Consumers.{YieldsList-end}
use Rattle.script_scopes.specs.Occurrences.{printed_name}
use Rattle.script_scopes.specs.PrintedNames.{printed_after}
use Rattle.script_scopes.proofs.PrintedLemmas.{printed_more}
use Rattle.script_scopes.proofs.name_faults.print_name.Goals as goal

pub loop-c-preserved : goal.loop-c-preserved
loop-c-preserved c = c.in_ok-push_printed.ensures ∙ ap (λ (text : List ℕ). printed_after text c.in-Some.c) c.loop-c.invariant ∙ printed_more c.loop-c.yielded c.in-Some.c

pub returns : goal.returns
returns c =
    let e = YieldsList-end (YieldsList-from_chars c.args.name.now c.utf8.name cc) c.loop-c.yielded _ c.loop-c.yielded_by _ _ c.in-None.is c.next.ensures.steps in
    let all : c.loop-c.yielded ≡ chars c.args.name.now = sym (map-id c.loop-c.yielded) ∙ e.0 in
    c.loop-c.invariant ∙ ap printed_name all
