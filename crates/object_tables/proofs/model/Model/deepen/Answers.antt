use Rattle.std.proofs.Common.{true≢false, sym, ◌∙◌}
use Rattle.object_tables.proofs.DepthLemmas.{greatest-skip, greatest-next}
use Rattle.object_tables.proofs.model.Model.deepen.Goals as goal

pub returns-then-not-is_live : goal.returns-then-not-is_live
returns-then-not-is_live c = greatest-skip c.args.self.now c.args.depths.now c.args.greatest c.args.o.0 c.requires.before (λ live. true≢false (sym (c.is_live.ensures.1 live) ∙ c.if-not-is_live.true))

pub returns : goal.returns
returns c =
    greatest-next c.args.self.now c.args.depths.now c.put_depths.new.depths c.args.greatest c.args.o.0 c.depth_by-depth.result c.greater.result c.end.ensures.kept c.requires.before c.put_depths.ensures
    (c.is_live.ensures.0 c.if-not-is_live.false) c.depth_by-depth.ensures c.greater.ensures.first c.greater.ensures.second c.greater.ensures.one
