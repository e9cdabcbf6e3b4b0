use Rattle.model_filling.proofs.FillLaws.{part_begin}
use Rattle.model_filling.proofs.filling.fill.Goals as goal

pub fill_all-requires : goal.fill_all-requires
fill_all-requires g c =
    part_begin (g.C.Contents.held c.args.contents.now) c.args.model.now c.requires.kept c.end.ensures.kept c.requires.same c.requires.no_links
