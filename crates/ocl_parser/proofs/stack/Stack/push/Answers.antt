use Rattle.std.proofs.Common.{reverse, arith, length-append}
use Rattle.std.proofs.lemmas.List.{length-reverse}
use Rattle.ocl_parser.specs.declared.frame.Frame.{Frame}
use Rattle.ocl_parser.proofs.StackLaws.{one_level, levels_within}
use Rattle.ocl_parser.proofs.stack.Stack.push.Goals as goal

pub overflow_add-self : goal.overflow_add-self
overflow_add-self c =
    omega (arith, levels_within (reverse c.self.inside.frames.items), length-reverse c.self.inside.frames.items, one_level c.args.frame, c.in_ok-push.ensures.len, length-append {A = Frame})
