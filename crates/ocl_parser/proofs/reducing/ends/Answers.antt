use Rattle.std.proofs.Common.{◌≡◌, ◌⊎◌, ℕ, true, inl, inr, refl}
use Rattle.ocl_parser.specs.Answers.{ends}
use Rattle.ocl_parser.specs.declared.frame.Frame.{Frame}
use Rattle.ocl_parser.specs.declared.frame.Frame.TheVariants as frames
use Rattle.ocl_parser.proofs.reducing.ends.Goals as goal

sign_ends : (level : ℕ) (frame : Frame) → ((start : ℕ) × (frame ≡ frames.Not start)) ⊎ ((start : ℕ) × (frame ≡ frames.Negated start)) → true ≡ ends level frame
sign_ends level frame (inl (start, is)) = rw is refl
sign_ends level frame (inr (start, is)) = rw is refl

pub returns-in-Not : goal.returns-in-Not
returns-in-Not c = sign_ends c.args.level c.args.frame.now c.in-Not.is
