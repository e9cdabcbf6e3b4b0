use Rattle.example_program.proofs.Main.{main_is_enforceable}
use Rattle.example_program.proofs.laws.main_program_is_enforceable.Goals as goal

pub returns : goal.returns
returns c = main_is_enforceable
