-- What a result holds, where it holds something.
use Rattle.std.proofs.Common.{Result, Ok, Err}
use Rattle.std.specs.Prelude.{IfOk}

-- what is told of a result tells more
pub told_more : {X E : Type 0} (r : Result X E) (P Q : X → Type 0) → IfOk r P → ((x : X) → P x → Q x) → IfOk r Q
told_more (Ok x) P Q p more = more x p
told_more (Err e) P Q p more = tt
