use Rattle.std.proofs.Common.{arith}
use Rattle.enforce_mode.proofs.looking.look_at_depth.Goals as goal

pub returns-clause-sound : goal.returns-clause-sound
returns-clause-sound c = record {
  few = c.end.ensures.few;
  valid = c.requires;
  flat = λ h. (let most = c.in_ok-greatest_depth.ensures.most h.object h.depth h.live h.is in
      let low = c.if-branch-gt-MAX_DEPTH.false in
      let deep = h.deep in
      omega (arith, most, low, deep));
}
