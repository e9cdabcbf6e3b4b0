-- Laws about the levels of a stack.
use Rattle.std.proofs.Common.{◌≤◌, List, [], ◌∷◌, length, arith}
use Rattle.ocl_parser.specs.Moves.{frame_levels, open_levels}
use Rattle.ocl_parser.specs.declared.frame.Frame.{Frame}
use Rattle.ocl_parser.specs.declared.frame.Frame.TheVariants as frames

pub one_level : (frame : Frame) → frame_levels frame ≤ 1
one_level (frames.Row first rest operator) = omega arith
one_level _ = omega arith

-- no construct opens more than one
pub levels_within : (stack : List Frame) → open_levels stack ≤ length stack
levels_within [] = omega arith
levels_within (frame ∷ stack) = omega (arith, one_level frame, levels_within stack)
