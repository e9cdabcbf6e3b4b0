-- Steps of a command have replies that are alike where each of them has.
use Rattle.std.proofs.Common.{◌⊎◌, inl, inr, sym, subst}
use Rattle.qvtr_engine.specs.Reply.{Reply}
use Rattle.qvtr_engine.specs.Steps.{Step, stopped, went_on, Test, failed, passed, IsOneStep, IsOneTest}

pub one_step : {A : Type 0} (Gives : A → Type 0) (Stops : Reply → Type 0) (More : A → Reply → Type 0) (Alike : Reply → Reply → Type 0)
    → IsOneStep Gives Stops Alike → ((x : A) → Gives x → (r o : Reply) → More x r → More x o → Alike r o)
    → (r o : Reply) → Step Gives Stops More r → Step Gives Stops More o → Alike r o
one_step Gives Stops More Alike is more r o (stopped s) (stopped t) = is.alike r o s t
one_step Gives Stops More Alike is more r o (stopped s) (went_on y g m) = absurd (is.apart y r g s)
one_step Gives Stops More Alike is more r o (went_on x g m) (stopped t) = absurd (is.apart x o g t)
one_step Gives Stops More Alike is more r o (went_on x g m) (went_on y h n) = more x g r o m (subst (λ z. More z o) (sym (is.one x y g h)) n)

pub one_test : (Passes : Type 0) (Stops More : Reply → Type 0) (Alike : Reply → Reply → Type 0) → IsOneTest Passes Stops Alike
    → (Passes → (r o : Reply) → More r → More o → Alike r o) → (r o : Reply) → Test Passes Stops More r → Test Passes Stops More o → Alike r o
one_test Passes Stops More Alike is more r o (failed s) (failed t) = is.alike r o s t
one_test Passes Stops More Alike is more r o (failed s) (passed h n) = absurd (is.apart r h s)
one_test Passes Stops More Alike is more r o (passed g m) (failed t) = absurd (is.apart o g t)
one_test Passes Stops More Alike is more r o (passed g m) (passed h n) = more g r o m n

-- there is a reply where each step gives something or stops

pub some_step : {A : Type 0} (Gives : A → Type 0) (Stops : Reply → Type 0) (More : A → Reply → Type 0)
    → ((x : A) × Gives x) ⊎ ((r : Reply) × Stops r) → ((x : A) → Gives x → (r : Reply) × More x r) → (r : Reply) × Step Gives Stops More r
some_step Gives Stops More (inl (x, g)) more = (let rest = more x g in (rest.0, went_on x g rest.1))
some_step Gives Stops More (inr (r, s)) more = (r, stopped s)

pub some_test : (Passes : Type 0) (Stops More : Reply → Type 0) → Passes ⊎ ((r : Reply) × Stops r) → (Passes → (r : Reply) × More r)
    → (r : Reply) × Test Passes Stops More r
some_test Passes Stops More (inl g) more = (let rest = more g in (rest.0, passed g rest.1))
some_test Passes Stops More (inr (r, s)) more = (r, failed s)
