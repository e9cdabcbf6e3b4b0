use Rattle.std.proofs.Common.{◌∙◌}
use Rattle.ocl_eval.proofs.MemoLaws.{more_told}
use Rattle.ocl_eval.proofs.memo.Memo.remember.Goals as goal

pub returns : goal.returns
returns c = λ w told is.
    let old = c.make_room.new.self in
    more_told w old (record old { values = c.insert.new.self }) c.args.call (record { out = c.in_ok-out.out; least = c.args.least }) c.in_ok-insert.ensures.updates (c.make_room.ensures w told) (λ n many. c.in_ok-out.ensures ∙ is n many)
