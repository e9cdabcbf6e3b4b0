use Rattle.std.proofs.Common.{sym, ◌∙◌}
use Rattle.term_images.proofs.IndexLaws.{first_stays, first_put}
use Rattle.term_images.proofs.class_index.put_first.Goals as goal

pub returns-then-contains_key : goal.returns-then-contains_key
returns-then-contains_key c = first_stays c.args.firsts.now c.args.key c.args.object (sym c.contains_key.ensures ∙ c.if-contains_key.true)

pub returns : goal.returns
returns c =
    first_put c.args.firsts.now c.insert.new.self c.args.key c.args.object
    (sym c.contains_key.ensures ∙ c.if-contains_key.false) c.in_ok-insert.ensures.updates
