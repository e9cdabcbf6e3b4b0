use Rattle.std.proofs.Common.{◌∙◌, ◌++◌, ◌∷◌, [], List, ap, append_assoc, arith, replicate}
use Rattle.std.proofs.lemmas.List.{replicate_more}
use Rattle.link_arena.specs.declared.half.Head.{Head}
use Rattle.link_arena.specs.Twins.{no_head}
use Rattle.link_arena.proofs.joins.push_heads.Goals as goal

pub loop-preserved : goal.loop-preserved
loop-preserved c = record {
  items = c.push_reserved.ensures.items
      ∙ (ap (λ (h : Head). c.loop.heads.items ++ h ∷ []) c.no_head.ensures
      ∙ (ap (λ (l : List Head). l ++ no_head ∷ []) c.loop.invariant.items
      ∙ (append_assoc c.args.heads.now.items (replicate c.loop.counter no_head) (no_head ∷ [])
      ∙ ap (λ (l : List Head). c.args.heads.now.items ++ l) (replicate_more c.loop.counter no_head))));
  len = omega (arith, c.push_reserved.ensures.len, c.loop.invariant.len);
  capacity = c.push_reserved.ensures.capacity ∙ c.loop.invariant.capacity;
}
