use Rattle.std.proofs.Common.{◌≡◌, ◌∙◌, false, ap, sym}
use Rattle.std.specs.Prelude.{◌||◌}
use Rattle.std.specs.List.{list_any}
use Rattle.object_tables.proofs.ListLemmas.{on_ok}
use Rattle.model_assembly.specs.AssemblyFirsts.{same_naming}
use Rattle.model_assembly.specs.AssemblyLinks.{has_partner, is_pair_of}
use Rattle.model_assembly.proofs.assembling.LinkLaws.{pairs_linked}
use Rattle.model_assembly.proofs.assembly.links.link_once.Goals as goal

pub returns-clause-pairs : goal.returns-clause-pairs
returns-clause-pairs c =
    let m = c.args.model.now in
    let n = c.args.naming in
    let old = c.args.pairs.now.set.keys in
    let new : has_partner m n ≡ false = sym (c.requires.pairs n) ∙ sym c.has.ensures ∙ c.if-has.false in
    on_ok c.link.result
    (pairs_linked m c.link.new.self n old c.meet_pair.new.pairs.set.keys c.end.ensures.kept (c.requires.may new) c.requires.pairs
    (λ o. c.in_ok-meet_pair.ensures o ∙ ap (λ d. is_pair_of d n o || list_any (same_naming o) old) c.meta.ensures))
    c.link.ensures.ok
