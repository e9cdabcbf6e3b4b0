use Rattle.std.proofs.Common.{◌≡◌, sym, ap, ◌∙◌}
use Rattle.std.specs.Prelude.{chars}
use Rattle.std.specs.List.{fold}
use Rattle.std.proofs.lemmas.List.{map-id}
use Rattle.std.proofs.lemmas.Iterator.{YieldsList-from_chars}
use Rattle.std.proofs.lemmas.Iterator.Consumers.{YieldsList-end}
use Rattle.xmi_profile.specs.WordList.{words_on}
use Rattle.xmi_profile.proofs.words.take_all.Goals as goal

pub returns : goal.returns
returns c =
    let e = YieldsList-end (YieldsList-from_chars c.args.text.now c.utf8.text cc) c.loop-c.yielded _ c.loop-c.yielded_by _ _ c.in-None.is c.next.ensures.steps in
    let all : c.loop-c.yielded ≡ chars c.args.text.now = sym (map-id c.loop-c.yielded) ∙ e.0 in
    c.loop-c.invariant ∙ ap (fold words_on c.args.words.now) all
