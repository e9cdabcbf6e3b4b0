use Rattle.std.proofs.Common.{◌≡◌, drop}
use Rattle.qvtr_engine.proofs.PathLaws as laws
use Rattle.qvtr_engine.proofs.RequestLaws.{texts_in}
use Rattle.qvtr_engine.proofs.paths.is_none_new.Given as goal

-- none of the paths that are left is another one followed by `.new`, exactly where none of all is
abbrev pub invariant-loop-path : goal.invariant-loop-path
invariant-loop-path l =
    laws.is_none_new (texts_in (drop l.path-index l.paths)) (texts_in l.paths) ≡ laws.is_none_new (texts_in l.paths) (texts_in l.paths)
