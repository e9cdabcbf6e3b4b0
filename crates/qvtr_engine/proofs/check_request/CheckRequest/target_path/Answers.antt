use Rattle.std.proofs.Common.{◌≡◌, true, false}
use Rattle.mof_metamodel.specs.Characters.{same_name}
use Rattle.qvtr_engine.specs.CheckView.{bound_view}
use Rattle.qvtr_engine.specs.CheckedNames.{name_of, target_of}
use Rattle.qvtr_engine.specs.RequestView.{request_view}
use Rattle.qvtr_engine.specs.Target.{target_path}
use Rattle.qvtr_engine.proofs.TargetLaws.{path_here, path_on}
use Rattle.qvtr_engine.proofs.check_request.CheckRequest.target_path.Goals as goal

pub returns-then-is_same_name : goal.returns-then-is_same_name
returns-then-is_same_name c =
    let w = request_view c.args.self.now in
    let named : same_name (target_of w) (name_of (bound_view c.file-file.result)) ≡ true = cc in
    path_here w.files c.loop-i.i (bound_view c.file-file.result) (target_of w) (target_path w) c.file-file.ensures named c.loop-i.invariant

pub loop-i-preserved : goal.loop-i-preserved
loop-i-preserved c =
    let w = request_view c.args.self.now in
    let named : same_name (target_of w) (name_of (bound_view c.file-file.result)) ≡ false = cc in
    path_on w.files c.loop-i.i (bound_view c.file-file.result) (target_of w) (target_path w) c.file-file.ensures named c.loop-i.invariant
