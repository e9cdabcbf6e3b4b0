use Rattle.std.proofs.Common.{◌≡◌, drop}
use Rattle.model_files.specs.FileForm.{begins_object}
use Rattle.model_files.proofs.file_form.begins_object.Given as goal

abbrev pub invariant-loop-byte : goal.invariant-loop-byte
invariant-loop-byte l = begins_object (drop l.byte-index l.bytes) ≡ begins_object l.bytes
