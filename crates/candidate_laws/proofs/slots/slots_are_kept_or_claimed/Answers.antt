use Rattle.candidate_laws.proofs.Contents.{contents_exactly}
use Rattle.candidate_laws.proofs.slots.slots_are_kept_or_claimed.Goals as goal

pub returns : goal.returns
returns c = contents_exactly
