-- Files that are read one after the other, up to the first that stops the work.
use Rattle.std.specs.Prelude.{◌⊎◌, List, [], ◌∷◌}
use Rattle.qvtr_engine.specs.Reply.{Reply}

-- the reply of the first that isn't read: each before it is
abbrev pub FirstStop : {A : Type 0} → (A → Type 0) → (A → Reply → Type 0) → List A → Reply → Type 0
FirstStop IsRead Stops [] reply = ⊥
FirstStop IsRead Stops (file ∷ files) reply = Stops file reply ⊎ (IsRead file × FirstStop IsRead Stops files reply)
