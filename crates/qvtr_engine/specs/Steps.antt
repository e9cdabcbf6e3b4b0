-- Steps of a command: the reply is that of the first that stops, or else that of the last.
use Rattle.std.specs.Prelude.{◌≡◌}
use Rattle.qvtr_engine.specs.Reply.{Reply}

-- a step gives something, with which the further ones go on, or stops
pub data Step {A : Type 0} (Gives : A → Type 0) (Stops : Reply → Type 0) (More : A → Reply → Type 0) (reply : Reply) : Type 0 where
  stopped : Stops reply → Step Gives Stops More reply
  went_on : (x : A) → Gives x → More x reply → Step Gives Stops More reply

-- a step that is passed gives nothing
pub data Test (Passes : Type 0) (Stops More : Reply → Type 0) (reply : Reply) : Type 0 where
  failed : Stops reply → Test Passes Stops More reply
  passed : Passes → More reply → Test Passes Stops More reply

-- ---- what makes the reply one: a step gives one thing or stops, never both, and the replies with which it stops are alike

pub record IsOneStep {A : Type 0} (Gives : A → Type 0) (Stops : Reply → Type 0) (Alike : Reply → Reply → Type 0) : Type 0 where
  pub one : (x y : A) → Gives x → Gives y → x ≡ y
  pub apart : (x : A) (reply : Reply) → Gives x → ¬ Stops reply
  pub alike : (reply other : Reply) → Stops reply → Stops other → Alike reply other

pub record IsOneTest (Passes : Type 0) (Stops : Reply → Type 0) (Alike : Reply → Reply → Type 0) : Type 0 where
  pub apart : (reply : Reply) → Passes → ¬ Stops reply
  pub alike : (reply other : Reply) → Stops reply → Stops other → Alike reply other
