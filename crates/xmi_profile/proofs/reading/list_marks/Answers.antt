use Rattle.std.proofs.Common.{◌∙◌, arith, sym, ap, subst, Ok}
use Rattle.std.specs.Prelude.{Option}
use Rattle.xmi_text.specs.declared.mark.Mark.{Mark}
use Rattle.xmi_text.specs.Reading.{Fed}
use Rattle.xmi_profile.specs.Bytes.{behind_next}
use Rattle.xmi_profile.proofs.ReadLaws.{Reads, room_left, reads_next, reads_end}
use Rattle.xmi_profile.proofs.SoundLaws.{sound_known}
use Rattle.xmi_profile.proofs.reading.list_marks.Goals as goal

pub take_mark-requires-clause-room : goal.take_mark-requires-clause-room
take_mark-requires-clause-room c =
    room_left c.args.profile.now.meta.now c.args.profile.now.outside c.args.bytes.now c.loop-listing.reader c.loop-listing.listing c.loop-listing.invariant
    (omega arith)

pub loop-listing-preserved : goal.loop-listing-preserved
loop-listing-preserved c =
    subst (λ (fed : Fed). Reads c.args.profile.now.meta.now c.args.profile.now.outside c.args.bytes.now fed c.take_mark.new.listing)
    (sym (c.in_ok-mark.ensures.behind ∙ ap (λ (o : Option Mark). behind_next (Ok o) c.loop-listing.reader) c.in-Some.is))
    (reads_next c.args.profile.now.meta.now c.args.profile.now.outside c.args.bytes.now c.loop-listing.reader c.loop-listing.listing c.take_mark.new.listing
    c.in-Some.mark c.loop-listing.invariant (c.in_ok-mark.ensures.gives ∙ ap (λ (o : Option Mark). Ok o) c.in-Some.is) c.in_ok-take_mark.ensures.ok c.in_ok-take_mark.ensures.sound
    c.in_ok-take_mark.ensures.room)

pub returns-clause-gives : goal.returns-clause-gives
returns-clause-gives c =
    reads_end c.args.profile.now.meta.now c.args.profile.now.outside c.args.bytes.now c.loop-listing.reader c.loop-listing.listing c.loop-listing.invariant
    (c.in_ok-mark.ensures.gives ∙ ap (λ (o : Option Mark). Ok o) c.in_default.is)

pub returns-clause-known : goal.returns-clause-known
returns-clause-known c =
    sound_known c.args.profile.now.meta.now c.loop-listing.listing c.loop-listing.invariant.sound
    (room_left c.args.profile.now.meta.now c.args.profile.now.outside c.args.bytes.now c.loop-listing.reader c.loop-listing.listing c.loop-listing.invariant (omega arith))
