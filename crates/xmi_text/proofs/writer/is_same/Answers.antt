use Rattle.std.specs.Cmp.{both_ways}
use Rattle.std.specs.Cmp.Lexicographic.{bytes_decides}
use Rattle.std.specs.Prelude.{chars}
use Rattle.xmi_text.proofs.writer.is_same.Goals as goal

pub returns : goal.returns
returns c =
    let same = bytes_decides c.args.one.now (chars c.args.name.now) in
    both_ways _ _ (λ h. same.1 (c.is.ensures.0 h)) (λ h. c.is.ensures.1 (same.0 h))
