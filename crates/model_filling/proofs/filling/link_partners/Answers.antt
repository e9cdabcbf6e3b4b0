use Rattle.std.proofs.Common.{get_or, arith, below_more}
use Rattle.object_tables.specs.Models.{IsLinked}
use Rattle.model_filling.proofs.CounterpartLaws.{objects_between, reference_there}
use Rattle.model_filling.proofs.FillLaws.{slotted_part, fills_nothing, fills_through, free_to_link, wanted_partner, listed_wanted, listed_filled}
use Rattle.model_filling.proofs.FillLaws.{listed, once_fills, once_linked, still_linked}
use Rattle.model_filling.proofs.filling.link_partners.Goals as goal

pub partners-requires : goal.partners-requires
partners-requires g c =
    reference_there c.args.model.now (g.C.Contents.held c.args.contents.now) c.args.o.0 c.args.p.0 c.requires.part.objects c.requires.reference

pub loop-b-init : goal.loop-b-init
loop-b-init g c =
    record {
      fills = fills_nothing (g.C.Contents.held c.args.contents.now) c.args.model.now c.requires.part;
      linked = λ k l. absurd (omega (arith, l));
    }

pub link_once-requires-clause-reference : goal.link_once-requires-clause-reference
link_once-requires-clause-reference g c =
    let wanted = g.C.Contents.held c.args.contents.now in
    let old = c.args.model.now in
    let now = c.loop-b.model in
    reference_there old now c.args.o.0 c.args.p.0 (objects_between old wanted now c.requires.part.objects c.loop-b.invariant.fills.part.objects)
    c.requires.reference

pub link_once-requires-clause-partner : goal.link_once-requires-clause-partner
link_once-requires-clause-partner g c =
    let wanted = g.C.Contents.held c.args.contents.now in
    let items = c.as_slice-b-items.result.now in
    let named = listed wanted c.args.o.0 c.args.p.0 items c.in_ok-partners.partners c.as_slice-b-items.ensures c.in_ok-partners.ensures in
    wanted_partner wanted c.loop-b.model c.args.p.0 c.args.o.0 (get_or items c.loop-b.b-index (record { 0 = 0 })).0 c.loop-b.invariant.fills.part
    (listed_wanted wanted c.args.o.0 c.args.p.0 c.loop-b.b-index items (record { 0 = 0 }) named c.loop-b-test.true)

pub link_once-requires-clause-free : goal.link_once-requires-clause-free
link_once-requires-clause-free g c =
    let wanted = g.C.Contents.held c.args.contents.now in
    let items = c.as_slice-b-items.result.now in
    let named = listed wanted c.args.o.0 c.args.p.0 items c.in_ok-partners.partners c.as_slice-b-items.ensures c.in_ok-partners.ensures in
    free_to_link wanted c.loop-b.model c.args.p.0 c.args.o.0 (get_or items c.loop-b.b-index (record { 0 = 0 })).0 c.loop-b.invariant.fills.part
    (listed_wanted wanted c.args.o.0 c.args.p.0 c.loop-b.b-index items (record { 0 = 0 }) named c.loop-b-test.true)

pub loop-b-preserved : goal.loop-b-preserved
loop-b-preserved g c =
    let wanted = g.C.Contents.held c.args.contents.now in
    let old = c.args.model.now in
    let now = c.loop-b.model in
    let new = c.link_once.new.model in
    let o = c.args.o.0 in
    let p = c.args.p.0 in
    let items = c.as_slice-b-items.result.now in
    let b = (get_or items c.loop-b.b-index (record { 0 = 0 })).0 in
    let part = c.loop-b.invariant.fills.part in
    let named = listed wanted o p items c.in_ok-partners.partners c.as_slice-b-items.ensures c.in_ok-partners.ensures in
    let pair = listed_wanted wanted o p c.loop-b.b-index items (record { 0 = 0 }) named c.loop-b-test.true in
    let reference = reference_there old now o p (objects_between old wanted now c.requires.part.objects part.objects) c.requires.reference in
    record {
      fills =
          fills_through wanted old now new c.loop-b.invariant.fills (once_fills wanted now new p o b part reference pair c.in_ok-link_once.ensures);
      linked = below_more (λ k. IsLinked new p o (get_or items k (record { 0 = 0 })).0) c.loop-b.b-index
          (λ k l. still_linked now new p o b c.in_ok-link_once.ensures (slotted_part wanted now part) (get_or items k (record { 0 = 0 })).0
          (c.loop-b.invariant.linked k l))
          (once_linked wanted now new p o b part reference c.in_ok-link_once.ensures);
    }

pub returns-clause-filled : goal.returns-clause-filled
returns-clause-filled g c =
    let wanted = g.C.Contents.held c.args.contents.now in
    let old = c.args.model.now in
    let now = c.loop-b.model in
    let items = c.as_slice-b-items.result.now in
    let part = c.loop-b.invariant.fills.part in
    listed_filled wanted now c.args.o.0 c.args.p.0 items (record { 0 = 0 }) part
    (reference_there old now c.args.o.0 c.args.p.0 (objects_between old wanted now c.requires.part.objects part.objects) c.requires.reference)
    (listed wanted c.args.o.0 c.args.p.0 items c.in_ok-partners.partners c.as_slice-b-items.ensures c.in_ok-partners.ensures)
    (λ k l. c.loop-b.invariant.linked k (omega arith))
