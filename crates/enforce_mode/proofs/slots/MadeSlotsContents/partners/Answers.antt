use Rattle.std.specs.Prelude.{map}
use Rattle.std.specs.List.{filter_map}
use Rattle.std.proofs.Common.{◌∙◌, ap, sym}
use Rattle.std.proofs.lemmas.Result.{IfOk-weaker}
use Rattle.mof_metamodel.proofs.PropLemmas.{prop_known}
use Rattle.repair_semantics.specs.Candidates.{partner_held}
use Rattle.slot_claims.specs.HeldValues.{held_by}
use Rattle.enforce_mode.proofs.SlotLaws.{made_partners}
use Rattle.enforce_mode.proofs.slots.MadeSlotsContents.partners.Goals as goal

pub contents-requires : goal.contents-requires
contents-requires c = prop_known c.args.self.now.repair.target.now.meta c.requires.class c.args.p.0 c.requires.has

pub returns : goal.returns
returns c =
    let s = c.args.self.now in
    IfOk-weaker c.partners_among-partners.result _ _
    (λ partners is.
    is ∙ ap (λ hs. filter_map partner_held (map held_by hs)) c.as_slice.ensures ∙ ap (filter_map partner_held) c.in_ok-held.ensures
    ∙ sym (made_partners s.repair.program.now s.repair.target.now s.repair.staying.now s.repair.claims.now s.table.now s.fresh.now s.few c.args.o.0
    c.args.p.0 c.requires))
    c.partners_among-partners.ensures
