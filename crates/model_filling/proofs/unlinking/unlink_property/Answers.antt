use Rattle.std.proofs.Common.{subst, sym, length, ◌<◌}
use Rattle.object_tables.specs.Models.{ModelData, partners_at}
use Rattle.object_tables.proofs.KeptLemmas.{sound_of, slotted_of, linked_reference}
use Rattle.model_filling.specs.Unlinked.{Loses}
use Rattle.model_filling.proofs.LinkLaws.{fewer-unlinked}
use Rattle.model_filling.proofs.UnlinkLaws.{loses_nothing, loses_through, loses_one}
use Rattle.model_filling.proofs.unlinking.unlink_property.Goals as goal

pub loop-b-init : goal.loop-b-init
loop-b-init c = loses_nothing c.args.model.now c.requires

pub first_partner-requires : goal.first_partner-requires
first_partner-requires c = c.loop-b.invariant.kept

pub unlink-requires-clause-reference : goal.unlink-requires-clause-reference
unlink-requires-clause-reference c =
    linked_reference c.loop-b.model c.args.p.0 c.args.o.0 c.in-Some.b.0 (sound_of c.loop-b.model c.loop-b.invariant.kept) c.in-Some.ensures.linked

pub loop-b-preserved : goal.loop-b-preserved
loop-b-preserved c =
    subst (Loses c.args.model.now) (sym c.unlink.ensures)
    (loses_through c.args.model.now c.loop-b.model _ c.loop-b.invariant
    (loses_one c.loop-b.model c.args.p.0 c.args.o.0 c.in-Some.b.0 c.loop-b.invariant.kept))

pub loop-b-smaller : goal.loop-b-smaller
loop-b-smaller c =
    let m = c.loop-b.model in
    let sound = sound_of m c.loop-b.invariant.kept in
    subst (λ (n : ModelData). length (partners_at n c.args.o.0 c.args.p.0) < length (partners_at m c.args.o.0 c.args.p.0)) (sym c.unlink.ensures)
    (fewer-unlinked m c.args.p.0 c.args.o.0 c.in-Some.b.0 (slotted_of m sound)
    (linked_reference m c.args.p.0 c.args.o.0 c.in-Some.b.0 sound c.in-Some.ensures.linked) c.in-Some.ensures.linked)
