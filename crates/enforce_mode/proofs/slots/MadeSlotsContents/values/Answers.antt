use Rattle.std.specs.List.{filter_map}
use Rattle.std.proofs.Common.{◌∙◌, ap, sym}
use Rattle.std.proofs.lemmas.Result.{IfOk-weaker}
use Rattle.mof_metamodel.proofs.PropLemmas.{prop_known}
use Rattle.repair_semantics.specs.Candidates.{value_held}
use Rattle.enforce_mode.proofs.SlotLaws.{made_values}
use Rattle.enforce_mode.proofs.slots.MadeSlotsContents.values.Goals as goal

pub contents-requires : goal.contents-requires
contents-requires c = prop_known c.args.self.now.repair.target.now.meta c.requires.class c.args.p.0 c.requires.has

pub returns : goal.returns
returns c =
    let s = c.args.self.now in
    IfOk-weaker c.values_among.result _ _
    (λ values is.
    is ∙ ap (filter_map value_held) c.in_ok-held.ensures
    ∙ sym (made_values s.repair.program.now s.repair.target.now s.repair.staying.now s.repair.claims.now s.table.now s.fresh.now s.few c.args.o.0
    c.args.p.0 c.requires))
    c.values_among.ensures
