use Rattle.std.proofs.Common.{◌≡◌, ℕ, List, sym, ap, ◌∙◌}
use Rattle.std.specs.Prelude.{chars}
use Rattle.std.specs.List.{fold}
use Rattle.std.proofs.lemmas.List.{map-id}
use Rattle.std.proofs.lemmas.Iterator.{YieldsList-from_chars}
use Rattle.std.proofs.lemmas.Iterator.Consumers.{YieldsList-end}
use Rattle.xmi_profile.specs.Lexical.{Start, scan_on, scanned}
use Rattle.xmi_profile.proofs.LexicalLaws.{integer_scanned}
use Rattle.xmi_profile.proofs.lexical.integer_of.Goals as goal

pub returns : goal.returns
returns c =
    let e = YieldsList-end (YieldsList-from_chars c.args.text.now c.utf8.text cc) c.loop-c.yielded _ c.loop-c.yielded_by _ _ c.in-None.is c.next.ensures.steps in
    let all : c.loop-c.yielded ≡ chars c.args.text.now = sym (map-id c.loop-c.yielded) ∙ e.0 in
    c.scanned.ensures ∙ ap scanned c.loop-c.invariant.scan ∙ ap (λ (xs : List ℕ). scanned (fold scan_on Start xs)) all ∙ integer_scanned (chars c.args.text.now)
