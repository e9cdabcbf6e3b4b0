-- Laws about what ends before a symbol.
use Rattle.std.proofs.Common.{◌≡◌, ℕ, true, false, if◌then◌else◌, List, [], ◌∷◌, refl, sym, ◌∙◌}
use Rattle.ocl_parser.specs.Moves.{reduced}
use Rattle.ocl_parser.specs.Answers.{ends, left, wrapped}
use Rattle.ocl_parser.specs.declared.frame.Subtree.{Subtree}
use Rattle.ocl_parser.specs.declared.frame.Frame.{Frame}
use Rattle.ocl_parser.specs.declared.frame.Frame.TheVariants as frames

pub reduced_none : (level : ℕ) (subtree : Subtree) → reduced level [] subtree ≡ left [] subtree
unfolding reduced
reduced_none level subtree = refl

-- what ends is wrapped around the part, and all else is left
pub reduced_step : (level : ℕ) (frame : Frame) (stack : List Frame) (subtree : Subtree)
    → reduced level (frame ∷ stack) subtree ≡ (if ends level frame then reduced level stack (wrapped frame subtree) else left (frame ∷ stack) subtree)
unfolding reduced
reduced_step level (frames.Not start) stack subtree = refl
reduced_step level (frames.Negated start) stack subtree = refl
reduced_step level (frames.Row first rest operator) stack subtree = refl
reduced_step level (frames.In start name ty value) stack subtree = refl
reduced_step level _ stack subtree = refl

pub reduced_ended : (level : ℕ) (frame : Frame) (stack : List Frame) (subtree : Subtree) → ends level frame ≡ true → reduced level (frame ∷ stack) subtree ≡ reduced level stack (wrapped frame subtree)
reduced_ended level frame stack subtree e = reduced_step level frame stack subtree ∙ (rw e refl)

pub open_left : (level : ℕ) (frame : Frame) (stack whole : List Frame) (subtree : Subtree) → whole ≡ frame ∷ stack → false ≡ ends level frame → reduced level whole subtree ≡ left whole subtree
open_left level frame stack whole subtree is stays = rw is (reduced_step level frame stack subtree ∙ (rw (sym stays) refl))

pub none_left : (level : ℕ) (whole : List Frame) (subtree : Subtree) → whole ≡ [] → reduced level whole subtree ≡ left whole subtree
none_left level whole subtree is = rw is (reduced_none level subtree)

pub ended_left : (level : ℕ) (frame : Frame) (stack whole : List Frame) (subtree more : Subtree) → whole ≡ frame ∷ stack → ends level frame ≡ true → more ≡ wrapped frame subtree → reduced level stack more ≡ reduced level whole subtree
ended_left level frame stack whole subtree more is ended made = rw (is, made) (sym (reduced_ended level frame stack subtree ended))
