-- What stops a command, against the reply that is expected.
use Rattle.std.proofs.Common.{◌≡◌, ℕ, ◌≤◌, inl, inr, Bool, true, false, List, [], ◌∷◌, refl, ap, arith, Option, Some, None}
use Rattle.std.specs.Prelude.{◌||◌, IfSome}
use Rattle.vault_io.specs.Counts.{Rose}
use Rattle.vault_io.specs.Files.{Files}
use Rattle.mof_metamodel.specs.Metamodels.{same_name}
use Rattle.qvtr_engine.specs.declared.outcome.Stop.{Stop}
use Rattle.qvtr_engine.specs.declared.outcome.Stop.TheVariants as stop
use Rattle.qvtr_engine.specs.Names.{is_among}
use Rattle.qvtr_engine.specs.Reply.{Reply, unread, faulty, too_long, refused_for}
use Rattle.qvtr_engine.specs.Stops.{StoppedBy, OnStop}
use Rattle.qvtr_engine.proofs.ReadingLaws.{same_holds}
use Rattle.std.proofs.lemmas.Bool.{or_right}

-- a count that rose later rose before
pub rose_from : (before mid after : ℕ) → before ≤ mid → Rose mid after → Rose before after
rose_from before mid after l (inl rose) = inl (omega arith)
rose_from before mid after l (inr last) = inr last

pub among_first : (p : List ℕ) (ps : List (List ℕ)) → is_among (p ∷ ps) p ≡ true
among_first p ps = ap (λ b. b || is_among ps p) (same_holds p p refl)

-- a reply that is another one's, too, where the files are told
pub stopped_wider : (s : Stop) (told : Option Files) (P Q : Files → Reply → Type 0) (faulted faulted' : Type 0) (paths paths' : List (List ℕ))
    → IfSome told (λ files. (reply : Reply) → P files reply → Q files reply) → (faulted → faulted') → ((path : List ℕ) → is_among paths path ≡ true → is_among paths' path ≡ true)
    → StoppedBy s told P faulted paths → StoppedBy s told Q faulted' paths'
stopped_wider (stop.Fault path) None P Q f f' ps ps' w t i (inl gone) = absurd gone
stopped_wider (stop.Fault path) (Some files) P Q f f' ps ps' w t i (inl is) = inl (w (unread path.now) is)
stopped_wider (stop.Fault path) told P Q f f' ps ps' w t i (inr at) = inr (t at.0, i path.now at.1)
stopped_wider (stop.TooLong path) None P Q f f' ps ps' w t i s = s
stopped_wider (stop.TooLong path) (Some files) P Q f f' ps ps' w t i s = w (too_long path.now) s
stopped_wider (stop.Faulty is_limit line) None P Q f f' ps ps' w t i s = s
stopped_wider (stop.Faulty is_limit line) (Some files) P Q f f' ps ps' w t i s = w (faulty is_limit line) s
stopped_wider (stop.Refused cause text) None P Q f f' ps ps' w t i s = s
stopped_wider (stop.Refused cause text) (Some files) P Q f f' ps ps' w t i s = w (refused_for cause text) s
stopped_wider stop.NoMemory told P Q f f' ps ps' w t i s = tt

-- a stop that is no fault of the outside, in terms of the files
pub on_stop_stopped : (s : Stop) (told : Option Files) (P : Reply → Type 0) (Q : Files → Reply → Type 0) (faulted : Type 0) (paths : List (List ℕ))
    → IfSome told (λ files. (reply : Reply) → P reply → Q files reply) → OnStop s P → StoppedBy s told Q faulted paths
on_stop_stopped (stop.Fault path) told P Q f ps w h = absurd h
on_stop_stopped (stop.TooLong path) told P Q f ps w h = absurd h
on_stop_stopped (stop.Faulty is_limit line) None P Q f ps w h = tt
on_stop_stopped (stop.Faulty is_limit line) (Some files) P Q f ps w h = w (faulty is_limit line) h
on_stop_stopped (stop.Refused cause text) None P Q f ps w h = tt
on_stop_stopped (stop.Refused cause text) (Some files) P Q f ps w h = w (refused_for cause text) h
on_stop_stopped stop.NoMemory told P Q f ps w h = tt

-- one that is told of something else, too
pub on_stop_wider : (s : Stop) (P Q : Reply → Type 0) → ((reply : Reply) → P reply → Q reply) → OnStop s P → OnStop s Q
on_stop_wider (stop.Fault path) P Q w h = h
on_stop_wider (stop.TooLong path) P Q w h = h
on_stop_wider (stop.Faulty is_limit line) P Q w h = w (faulty is_limit line) h
on_stop_wider (stop.Refused cause text) P Q w h = w (refused_for cause text) h
on_stop_wider stop.NoMemory P Q w h = tt

or_false_right : (a : Bool) → (a || false) ≡ true → a ≡ true
or_false_right true h = refl
or_false_right false h = h

-- a path that is one of a list is one of more
pub among_front : (p : List ℕ) (more : List (List ℕ)) (path : List ℕ) → is_among (p ∷ []) path ≡ true → is_among (p ∷ more) path ≡ true
among_front p more path h = ap (λ b. b || is_among more path) (or_false_right (same_name path p) h)

pub among_middle : (first p : List ℕ) (more : List (List ℕ)) (path : List ℕ) → is_among (p ∷ []) path ≡ true → is_among (first ∷ p ∷ more) path ≡ true
among_middle first p more path h = or_right (same_name path first) _ (among_front p more path h)

pub among_second : (p q : List ℕ) (ps : List (List ℕ)) → is_among (p ∷ q ∷ ps) q ≡ true
among_second p q ps = or_right (same_name q p) _ (among_first q ps)

pub among_third : (p q r : List ℕ) → is_among (p ∷ q ∷ r ∷ []) r ≡ true
among_third p q r = or_right (same_name r p) _ (among_second q r [])
