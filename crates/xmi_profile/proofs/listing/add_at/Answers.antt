use Rattle.std.proofs.Common.{◌∙◌, ap, set}
use Rattle.std.specs.Prelude.{chars}
use Rattle.object_tables.proofs.ListLemmas.{set-update_at}
use Rattle.xmi_profile.specs.declared.element.Element.{Element}
use Rattle.xmi_profile.specs.Listing.{with_run}
use Rattle.xmi_profile.proofs.listing.add_at.Goals as goal

pub returns : goal.returns
returns c =
    ap (λ (e : Element). set c.args.elements.now c.args.n e) c.in_ok-add_run.ensures
    ∙ set-update_at c.args.elements.now c.args.n (with_run c.args.place (chars c.args.characters.now)) c.index-elements-n.result
