use Rattle.std.proofs.Common.{sym, ◌∙◌}
use Rattle.staying_objects.proofs.FateLaws.{image_marked, fate_of_image, fate_of_managed, fate_of_other}
use Rattle.staying_objects.proofs.fates.first_fate.Goals as goal

pub returns-then-is_marked : goal.returns-then-is_marked
returns-then-is_marked c =
    fate_of_image c.args.repair.now c.args.o.0 (image_marked c.args.repair.now c.args.images.now c.args.o.0 c.requires.images c.requires.within
    ∙ sym c.is_marked.ensures ∙ c.if-is_marked.true)

pub returns-then-is_managed : goal.returns-then-is_managed
returns-then-is_managed c =
    fate_of_managed c.args.repair.now c.args.o.0 (image_marked c.args.repair.now c.args.images.now c.args.o.0 c.requires.images c.requires.within
    ∙ sym c.is_marked.ensures ∙ c.if-is_marked.false)
    (sym c.is_managed.ensures ∙ c.if-is_managed.true)

pub returns : goal.returns
returns c =
    fate_of_other c.args.repair.now c.args.o.0 (image_marked c.args.repair.now c.args.images.now c.args.o.0 c.requires.images c.requires.within
    ∙ sym c.is_marked.ensures ∙ c.if-is_marked.false)
    (sym c.is_managed.ensures ∙ c.if-is_managed.false)
