-- What stops the work on a command, against the reply that is expected.
use Rattle.std.specs.Prelude.{◌≡◌, ℕ, true, List, ◌⊎◌, Option, IfSome, IsSomeAnd}
use Rattle.qvtr_engine.specs.declared.outcome.Stop.{Stop}
use Rattle.qvtr_engine.specs.declared.outcome.Stop.TheVariants as stop
use Rattle.qvtr_engine.specs.Names.{is_among}
use Rattle.qvtr_engine.specs.Reply.{Reply, unread, faulty, too_long, refused_for}
use Rattle.vault_io.specs.Files.{Files}

-- What stopped the work is a reply, where the files are told; or the vault faulted at one of the paths; or memory could not
-- be had.
abbrev pub StoppedBy : Stop → Option Files → (Files → Reply → Type 0) → Type 0 → List (List ℕ) → Type 0
StoppedBy (stop.Fault path) told IsReply faulted paths =
    IsSomeAnd told (λ files. IsReply files (unread path.now)) ⊎ (faulted × (is_among paths path.now ≡ true))
StoppedBy (stop.TooLong path) told IsReply faulted paths = IfSome told (λ files. IsReply files (too_long path.now))
StoppedBy (stop.Faulty is_limit line) told IsReply faulted paths = IfSome told (λ files. IsReply files (faulty is_limit line))
StoppedBy (stop.Refused cause text) told IsReply faulted paths = IfSome told (λ files. IsReply files (refused_for cause text))
StoppedBy stop.NoMemory told IsReply faulted paths = Unit {0}

-- What stopped the work is no fault of the outside, and such a reply; or memory could not be had.
abbrev pub OnStop : Stop → (Reply → Type 0) → Type 0
OnStop (stop.Fault path) IsReply = ⊥
OnStop (stop.TooLong path) IsReply = ⊥
OnStop (stop.Faulty is_limit line) IsReply = IsReply (faulty is_limit line)
OnStop (stop.Refused cause text) IsReply = IsReply (refused_for cause text)
OnStop stop.NoMemory IsReply = Unit {0}
